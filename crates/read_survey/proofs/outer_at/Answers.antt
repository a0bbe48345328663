-- Each return is the case of `outer_at` that its tests led to.
use Rattle.std.proofs.Common.{◌≡◌, ℕ, ◌+◌, ◌-◌, List, take, drop, true, false, sym, ◌∙◌, arith}
use Rattle.std.specs.Prelude.{Result, Ok, Err}
use Rattle.base_answers.specs.declared.Refusal.{Refusal}
use Rattle.base_version.specs.declared.Version.{Version}
use Rattle.field_kinds.specs.Meant.{kind_of}
use Rattle.field_frame.specs.Model.{frame_at, message_at, told_of as frame_told}
use Rattle.field_frame.specs.Laws.{FoundFrame, found, answered}
use Rattle.field_frame.specs.declared.Frame.{Frame}
use Rattle.field_sealed.specs.Model.{sealed_parts, told_of as parts_told}
use Rattle.field_sealed.specs.declared.Sealed.{Sealed as Lengths}
use Rattle.field_sealed.proofs.LawsOnly.{same_answer}
use Rattle.read_survey.specs.Model.{is_sealed, on_lengths, outer_at}
use Rattle.read_survey.specs.declared.Outer.TheVariants.{Other}
use Rattle.read_survey.proofs.outer_at.Goals as goal

module _ (v : Version) (p : List ℕ) (at : ℕ) {x : Result Frame Refusal} (said : frame_told x ≡ frame_told (frame_at v p at)) where
  refused : {r : Refusal} → x ≡ Err r → Err r ≡ outer_at v p at
  unfolding outer_at
  refused e = rw (answered v p at said e)

  module _ {f : Frame} (e : x ≡ Ok f) where
    place : FoundFrame v p at f.type_id f.message_len f.wire_length
    place = found v p at (answered v p at said e)

    other : is_sealed (kind_of f.type_id v) ≡ false → Ok (Other f.wire_length) ≡ outer_at v p at
    unfolding outer_at
    other h = rw (answered v p at said e, h)

    -- the message is the part from the field's fifth byte on
    parted : is_sealed (kind_of f.type_id v) ≡ true → (y : Result Lengths Refusal)
        → parts_told y ≡ parts_told (sealed_parts (take (at + 4 + f.message_len - (at + 4)) (drop (at + 4) p)))
        → on_lengths f.wire_length y ≡ outer_at v p at
    unfolding outer_at
    parted h y told =
        let n : at + 4 + f.message_len - (at + 4) ≡ f.message_len = omega arith in
        let parts : y ≡ sealed_parts (message_at p at f.message_len) = same_answer y (sealed_parts (message_at p at f.message_len)) (rw n at told) in
        rw (answered v p at said e, h, ← parts)

pub returns-in-Err : goal.returns-in-Err
returns-in-Err c = refused c.args.version c.args.packet.now c.args.at c.frame_at.ensures c.in-Err.is

pub returns-then-not-is_sealed : goal.returns-then-not-is_sealed
returns-then-not-is_sealed c =
    other c.args.version c.args.packet.now c.args.at c.frame_at.ensures c.in-Ok.is
    (rw (← c.from_type_id.ensures) (sym c.is_sealed.ensures ∙ c.if-not-is_sealed.true))

pub overflow_add-from : goal.overflow_add-from
overflow_add-from c = omega (arith, place c.args.version c.args.packet.now c.args.at c.frame_at.ensures c.in-Ok.is)

pub overflow_add-end : goal.overflow_add-end
overflow_add-end c = omega (arith, place c.args.version c.args.packet.now c.args.at c.frame_at.ensures c.in-Ok.is)

pub slice_bounds-from_message_bytes-end : goal.slice_bounds-from_message_bytes-end
slice_bounds-from_message_bytes-end c = omega (arith, place c.args.version c.args.packet.now c.args.at c.frame_at.ensures c.in-Ok.is)

pub returns-in-Err-from_message_bytes : goal.returns-in-Err-from_message_bytes
returns-in-Err-from_message_bytes c =
    rw c.in-Err-from_message_bytes.is at
    (parted c.args.version c.args.packet.now c.args.at c.frame_at.ensures c.in-Ok.is
    (rw (← c.from_type_id.ensures) (sym c.is_sealed.ensures ∙ c.if-not-is_sealed.false)) _ c.from_message_bytes.ensures)

pub returns-in-Ok-from_message_bytes : goal.returns-in-Ok-from_message_bytes
returns-in-Ok-from_message_bytes c =
    rw c.in-Ok-from_message_bytes.is at
    (parted c.args.version c.args.packet.now c.args.at c.frame_at.ensures c.in-Ok.is
    (rw (← c.from_type_id.ensures) (sym c.is_sealed.ensures ∙ c.if-not-is_sealed.false)) _ c.from_message_bytes.ensures)
