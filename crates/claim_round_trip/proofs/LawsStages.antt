-- What stage two told and left, if it wrote: its bytes lie behind those of stage one.
use Rattle.std.specs.Prelude.{◌≡◌, refl, Bool, true, false, List, ◌++◌, ℕ, ◌+◌, ◌-◌, ◌≤◌, ltb, length, take, drop, Result, Ok, Err}
use Rattle.std.proofs.Common.{sym, ap, ◌∙◌, append_assoc, arith, ltb-false, length-append, length-take-le, take_at}
use Rattle.std.proofs.lemmas.List.Edits.{sets, sets-eq}
use Rattle.std.proofs.Math.Seq.{length-sets}
use Rattle.base_answers.specs.Meant.{pick}
use Rattle.base_answers.specs.declared.Refusal.{Refusal}
use Rattle.base_answers.specs.declared.Refusal.TheVariants.{NoRoom}
use Rattle.base_version.specs.declared.Version.{Version}
use Rattle.base_store.specs.Meant.{output_end, overlay, room_from, Write, wrote, refusing as keeping}
use Rattle.base_store.specs.Laws.{joined}
use Rattle.base_store.specs.LawsOnly.{not_refused}
use Rattle.write_field.specs.declared.Place.TheVariants.{Untrusted, LastUntrusted}
use Rattle.write_list.specs.Meant.{Described, measure_of, plans_bytes, write_measured as listMeasured}
use Rattle.write_list.specs.LawsSizes.{list_sized}
use Rattle.write_stage_two.specs.Meant.{untrusted_plans, after_sealed, stage_two}
use Rattle.claim_round_trip.specs.MeantSerialize.{seal_bytes}

-- stage two wrote
pub record SecondWrote (d : Described) (v : Version) (seal : Bool) (nonce ciphertext : List ℕ) (u : ℕ) (out : List ℕ) (at k : ℕ) (o : List ℕ) : Type 0 where
  pub place : at ≤ output_end (length out)
  pub seal_fits : length (seal_bytes seal nonce ciphertext) ≤ room_from (length out) at
  pub rest : ℕ
  pub others : measure_of (untrusted_plans d v u) (room_from (length out) at - length (seal_bytes seal nonce ciphertext)) ≡ Ok rest
  pub count : k ≡ length (seal_bytes seal nonce ciphertext) + rest
  pub output : o ≡ overlay out at (seal_bytes seal nonce ciphertext ++ plans_bytes d.bytes (untrusted_plans d v u))

pub second_wrote : (d : Described) (v : Version) (seal : Bool) (nonce ciphertext : List ℕ) (u : ℕ) (out : List ℕ) (at k : ℕ) {o : List ℕ}
    → wrote (Ok k) o ≡ stage_two d v seal nonce ciphertext u out at
    → SecondWrote d v seal nonce ciphertext u out at k o
unfolding stage_two after_sealed
second_wrote d v seal nonce ciphertext u out at k {o} h =
    go (ltb (output_end (length out)) at) refl (ltb (room_from (length out) at) (length sealed)) refl
    (measure_of (untrusted_plans d v u) (room_from (length out) at - length sealed)) refl h
  where
    sealed : List ℕ
    sealed = seal_bytes seal nonce ciphertext

    go : (b : Bool) → ltb (output_end (length out)) at ≡ b → (c : Bool)
        → ltb (room_from (length out) at) (length (seal_bytes seal nonce ciphertext)) ≡ c
        → (w : Result ℕ Refusal)
        → measure_of (untrusted_plans d v u) (room_from (length out) at - length (seal_bytes seal nonce ciphertext)) ≡ w
        → wrote (Ok k) o
        ≡ pick b (keeping NoRoom out)
        (pick c (keeping NoRoom out)
        (listMeasured w (seal_bytes seal nonce ciphertext ++ plans_bytes d.bytes (untrusted_plans d v u)) out at))
        → SecondWrote d v seal nonce ciphertext u out at k o
    go true eb c ec w ew f = absurd (not_refused k NoRoom (ap (λ (x : Write). x.answer) f))
    go false eb true ec w ew f = absurd (not_refused k NoRoom (ap (λ (x : Write). x.answer) f))
    go false eb false ec (Err r) ew f = absurd (not_refused k r (ap (λ (x : Write). x.answer) f))
    go false eb false ec (Ok x) ew f =
        let all : k ≡ length (seal_bytes seal nonce ciphertext ++ plans_bytes d.bytes (untrusted_plans d v u)) =
        cc (ap (λ (z : Write). z.answer) f) in
        record {
          place = ltb-false (output_end (length out)) at eb;
          seal_fits = ltb-false _ _ ec;
          rest = x;
          others = ew;
          count = all
              ∙ length-append (seal_bytes seal nonce ciphertext) (plans_bytes d.bytes (untrusted_plans d v u))
              ∙ ap (λ (z : ℕ). length (seal_bytes seal nonce ciphertext) + z)
              (list_sized d v Untrusted LastUntrusted u 0 (room_from (length out) at - length (seal_bytes seal nonce ciphertext)) x ew);
          output = ap (λ (z : Write). z.output) f;
        }

-- stage two leaves all that lies before its place, so what stage one wrote there is stage one's alone
pub second_keeps : (d : Described) (v : Version) (seal : Bool) (nonce ciphertext : List ℕ) (u : ℕ) (out : List ℕ) (at k : ℕ) {o : List ℕ}
    → wrote (Ok k) o ≡ stage_two d v seal nonce ciphertext u out at
    → take at o ≡ take at out
second_keeps d v seal nonce ciphertext u out at k h =
    let s = second_wrote d v seal nonce ciphertext u out at k h in
    let new = seal_bytes seal nonce ciphertext ++ plans_bytes d.bytes (untrusted_plans d v u) in
    ap (take at) (s.output ∙ append_assoc (take at out) new (drop (at + length new) out))
    ∙ take_at (take at out) (new ++ drop (at + length new) out) at (length-take-le at out (omega (arith, s.place)))

-- a refusal by stage two leaves the output as it was passed: what stage one wrote stays in it
pub second_refused : (d : Described) (v : Version) (seal : Bool) (nonce ciphertext : List ℕ) (u : ℕ) (out : List ℕ) (at : ℕ) (r : Refusal)
    {o : List ℕ}
    → wrote (Err r) o ≡ stage_two d v seal nonce ciphertext u out at
    → o ≡ out
unfolding stage_two after_sealed
second_refused d v seal nonce ciphertext u out at r {o} h =
    go (ltb (output_end (length out)) at) (ltb (room_from (length out) at) (length (seal_bytes seal nonce ciphertext)))
    (measure_of (untrusted_plans d v u) (room_from (length out) at - length (seal_bytes seal nonce ciphertext))) h
  where
    go : (b c : Bool) (w : Result ℕ Refusal)
        → wrote (Err r) o
        ≡ pick b (keeping NoRoom out)
        (pick c (keeping NoRoom out)
        (listMeasured w (seal_bytes seal nonce ciphertext ++ plans_bytes d.bytes (untrusted_plans d v u)) out at))
        → o ≡ out
    go true c w f = ap (λ (x : Write). x.output) f
    go false true w f = ap (λ (x : Write). x.output) f
    go false false (Err q) f = ap (λ (x : Write). x.output) f
    go false false (Ok n) f = absurd (not_refused _ r (sym (ap (λ (x : Write). x.answer) f)))

-- bytes laid over an output, and others where they end, are one
pub overlay_joined : (out : List ℕ) (at : ℕ) (xs ys : List ℕ) → at + (length xs + length ys) ≤ length out
    → overlay (overlay out at xs) (at + length xs) ys ≡ overlay out at (xs ++ ys)
overlay_joined out at xs ys h =
    ap (λ (l : List ℕ). overlay l (at + length xs) ys) (sym (sets-eq xs out at (omega arith)))
    ∙ sym (sets-eq ys (sets out at xs) (at + length xs) (omega (arith, length-sets out at xs)))
    ∙ joined out at xs ys
    ∙ sets-eq (xs ++ ys) out at (omega (arith, length-append xs ys))
