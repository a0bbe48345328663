-- A step of the walk, both ways: a lawful or sealed field that lies at a place is the step's, and a step is one of these, the end
-- or the fault of a field.
use Rattle.std.specs.Prelude.{Result, Ok, Err, ◌≡◌, Bool, not, List, ◌++◌, ℕ, ◌+◌, ◌-◌, ◌≤◌, ◌<◌, ltb, length, drop}
use Rattle.std.proofs.Math.Path.{refl}
use Rattle.std.proofs.Common.{sym, ap, ◌∙◌, arith}
use Rattle.std.proofs.Math.Bool.{true, false, true≢false}
use Rattle.std.proofs.lemmas.Bool.{false≢true}
use borrow.Author.Tests.{leb-true, leb-false, le-leb, lt-leb, not-true, not-false}
use Rattle.std.proofs.Math.Dec.{leb}
use Rattle.base_answers.specs.Meant.{pick}
use Rattle.base_answers.specs.declared.Refusal.{Refusal}
use Rattle.base_answers.specs.declared.Refusal.TheVariants.{IncorrectLength, InvalidDraftIdentification}
use Rattle.base_version.specs.declared.Version.{Version}
use Rattle.base_rounding.specs.Meant.{rounded_up}
use Rattle.base_big_endian.specs.Meant.{number_at, Bytes}
use Rattle.field_kinds.specs.Meant.{kind_of}
use Rattle.field_frame.specs.Model.{framed, is_allowed, frame_of, frame_at, message_at}
use Rattle.field_frame.specs.declared.Frame.{Frame}
use Rattle.field_contents.specs.Meant.{every, is_ascii, rule_of, All, IsSealed, Lawful}
use Rattle.field_contents.specs.Model.{is_zero, unless}
use Rattle.field_contents.specs.declared.Rule.{Rule}
use Rattle.field_contents.specs.declared.Rule.TheVariants.{Any, Zeros, Ascii, Offset, Sealed as Seal}
use Rattle.read_step.specs.Model.{or_refused, checked_of, on_frame, step_at}
use Rattle.read_step.specs.declared.Step.{Step}
use Rattle.read_step.specs.declared.Step.TheVariants.{End, Field as Plain, Sealed, Refused}
use Rattle.read_plaintext.specs.Model.{is_fouled}
use Rattle.layout.specs.Meant.{Field, bytes_of, Shaped, Front}
use Rattle.claim_one_cut.specs.MeantFaults.{FieldFault, no_frame, not_ascii, no_offset}
use Rattle.field_frame.specs.LawsLayout.{frame_here, message_here, framed_here}
use Rattle.field_contents.proofs.LawsRules.{Ruled, zeros, seal, ascii, offset, any, ruled, zeros_all, all_zeros, ascii_all, all_ascii}

-- a shaped field that lies at a place
pub record Lies (v : Version) (s : List ℕ) (at : ℕ) (f : Field) : Type 0 where
  pub shaped : Shaped v f
  pub whole : drop at s ≡ bytes_of f ++ drop (at + length (bytes_of f)) s

pub front_of : {v : Version} {s : List ℕ} {at : ℕ} {f : Field} → Lies v s at f → Front v (drop at s) f
front_of {s = s} {at = at} {f = f} l = record { later = drop (at + length (bytes_of f)) s; shaped = l.shaped; whole = l.whole }

-- what a placeholder's scan decides
pub record Scanned (v : Version) (f : Field) (b : Bool) : Type 0 where
  pub clean : is_fouled b f.message ≡ false → Lawful v f
  pub fouled : is_fouled b f.message ≡ true → (f.type ≡ 0x0304) × (All (λ (x : ℕ). x ≡ 0) f.message → ⊥)

pub data Stepped (v : Version) (cutoff : ℕ) (s : List ℕ) (at : ℕ) : Step → Type 0 where
  ended : length s - at ≤ cutoff → Stepped v cutoff s at End
  refuses : {r : Refusal} → cutoff < length s - at → FieldFault v (drop at s) r → Stepped v cutoff s at (Refused r)
  plain : (f : Field) (b : Bool) → cutoff < length s - at → Lies v s at f → Scanned v f b
      → Stepped v cutoff s at (Plain f.type (length f.message) (length (bytes_of f)) b)
  sealed : (f : Field) → cutoff < length s - at → Lies v s at f → IsSealed f
      → Stepped v cutoff s at (Sealed (length f.message) (length (bytes_of f)))

-- a message that its rule finds lawful, or not
module _ (v : Version) (f : Field) where
  not_fouled : Lawful v f → Scanned v f false
  not_fouled l = record { clean = λ e. l; fouled = λ e. absurd (false≢true e) }

  scanned_zeros : f.type ≡ 0x0304 → Scanned v f true
  scanned_zeros t = record {
    clean =
        λ e.
        record {
          not_sealed = λ z. omega arith;
          placeholder = λ z. zeros_all f.message (not-false (every is_zero f.message) e);
          identification = λ n z. absurd (omega arith);
          request = λ n z. absurd (omega arith);
        };
    fouled =
        λ e.
        (t, λ h. true≢false (sym (all_zeros f.message h) ∙ not-true (every is_zero f.message) e));
  }

module _ (v : Version) (cutoff : ℕ) (s : List ℕ) (at : ℕ) (f : Field) (more : cutoff < length s - at) (here : Lies v s at f) where
  by_rule : (rule : Rule) → Ruled v f.type rule → Stepped v cutoff s at (checked_of rule f.type f.message (length (bytes_of f)))
  unfolding checked_of
  by_rule Zeros (zeros t) = plain f true more here (scanned_zeros v f t)
  by_rule Seal (seal t) = sealed f more here t
  by_rule Any (any a b c d) =
      plain f false more here
      (not_fouled v f
      (record {
        not_sealed = b;
        placeholder = λ z. absurd (a z);
        identification = λ n z. absurd (c n z);
        request = λ n z. absurd (d n z);
      }))
  by_rule Ascii (ascii n t) = go (every is_ascii f.message) refl
    where
      go : (b : Bool) → every is_ascii f.message ≡ b
          → Stepped v cutoff s at
          (or_refused (unless b InvalidDraftIdentification) (Plain f.type (length f.message) (length (bytes_of f)) false))
      go true e =
          plain f false more here
          (not_fouled v f
          (record {
            not_sealed = λ z. omega arith;
            placeholder = λ z. absurd (omega arith);
            identification = λ k z. ascii_all f.message e;
            request = λ k z. absurd (omega arith);
          }))
      go false e =
          refuses more (not_ascii f (front_of here) n t (λ h. true≢false (sym (all_ascii f.message h) ∙ e)))
  by_rule Offset (offset n t) = go (leb 2 (length f.message)) refl
    where
      go : (b : Bool) → leb 2 (length f.message) ≡ b
          → Stepped v cutoff s at
          (or_refused (unless b IncorrectLength) (Plain f.type (length f.message) (length (bytes_of f)) false))
      go true e =
          plain f false more here
          (not_fouled v f
          (record {
            not_sealed = λ z. omega arith;
            placeholder = λ z. absurd (omega arith);
            identification = λ k z. absurd (omega arith);
            request = λ k z. leb-true 2 (length f.message) e;
          }))
      go false e = refuses more (no_offset f (front_of here) n t (leb-false 2 (length f.message) e))

-- a frame is refused by its length alone
pub frame_fault : (v : Version) (s : List ℕ) (at : ℕ) {r : Refusal} → frame_at v s at ≡ Err r → r ≡ IncorrectLength
unfolding frame_at frame_of
frame_fault v s at {r} e =
    go (ltb (length s - at) 4) (ltb (number_at 2 s (at + 2)) 4) (not (is_allowed v (number_at 2 s (at + 2))))
    (ltb (length s - at) (rounded_up (number_at 2 s (at + 2)))) (number_at 2 s at) (number_at 2 s (at + 2) - 4)
    (rounded_up (number_at 2 s (at + 2))) e
  where
    go : (a b c d : Bool) (t m k : ℕ)
        → pick a (Err IncorrectLength)
        (pick b (Err IncorrectLength) (pick c (Err IncorrectLength) (pick d (Err IncorrectLength) (framed t m k))))
        ≡ Err r
        → r ≡ IncorrectLength
    go true b c d t m k e = cc
    go false true c d t m k e = cc
    go false false true d t m k e = cc
    go false false false true t m k e = cc
    go false false false false t m k e = cc

pub no_front : (v : Version) (s : List ℕ) (at : ℕ) {r : Refusal} → frame_at v s at ≡ Err r → (f : Field) → Front v (drop at s) f → ⊥
no_front v s at e f w =
    let here = frame_here s at v f w.later w.whole w.shaped in
    let z : ◌≡◌ {A = ℕ} 0 1 = cc (here, e) in
    omega arith

-- the step in the field's own numbers
own_numbers : (v : Version) (cutoff : ℕ) (s : List ℕ) (at : ℕ) (f : Field) {t k : ℕ} {message : List ℕ} → f.type ≡ t
    → message ≡ f.message
    → length (bytes_of f) ≡ k
    → Stepped v cutoff s at (checked_of (rule_of (kind_of f.type v)) f.type f.message (length (bytes_of f)))
    → Stepped v cutoff s at (checked_of (rule_of (kind_of t v)) t message k)
own_numbers v cutoff s at f e g h w = rw (← e, g, ← h) w

pub stepped : (v : Version) (cutoff : ℕ) (s : List ℕ) → Bytes s → (at : ℕ) → Stepped v cutoff s at (step_at v cutoff s at)
unfolding step_at
stepped v cutoff s p at = go (leb (length s - at) cutoff) refl (frame_at v s at) refl
  where
    go : (b : Bool) → leb (length s - at) cutoff ≡ b → (fr : Result Frame Refusal) → frame_at v s at ≡ fr
        → Stepped v cutoff s at (pick b End (on_frame fr (λ t n k. checked_of (rule_of (kind_of t v)) t (message_at s at n) k)))
    go true e fr g = ended (leb-true _ _ e)
    go false e (Err r) g =
        rw (frame_fault v s at g)
        (refuses (leb-false _ _ e) (no_frame (no_front v s at g)))
    go false e (Ok found) g =
        let h = framed_here s p at v g in
        let f = h.field in
        let here : Lies v s at f = record { shaped = h.shaped; whole = rw h.taken h.whole } in
        let message : message_at s at found.message_len ≡ f.message =
        ap (λ (n : ℕ). message_at s at n) (sym h.message) ∙ message_here s at v f (drop (at + found.wire_length) s) h.whole in
        own_numbers v cutoff s at f h.type message h.taken
        (by_rule v cutoff s at f (leb-false _ _ e) here (rule_of (kind_of f.type v)) (ruled v f.type))

-- the step over a lawful field
pub record Taken (v : Version) (cutoff : ℕ) (s : List ℕ) (at : ℕ) (f : Field) : Type 0 where
  pub flag : Bool
  pub is : step_at v cutoff s at ≡ Plain f.type (length f.message) (length (bytes_of f)) flag
  pub clean : is_fouled flag f.message ≡ false

record Passes (rule : Rule) (f : Field) (k : ℕ) : Type 0 where
  flag : Bool
  is : checked_of rule f.type f.message k ≡ Plain f.type (length f.message) k flag
  clean : is_fouled flag f.message ≡ false

passes : (v : Version) (f : Field) (k : ℕ) → Lawful v f → (rule : Rule) → Ruled v f.type rule → Passes rule f k
unfolding checked_of
passes v f k l Zeros (zeros t) = record { flag = true; is = refl; clean = rw (all_zeros f.message (l.placeholder t)) }
passes v f k l Seal (seal t) = absurd (l.not_sealed t)
passes v f k l Any (any a b c d) = record { flag = false; is = refl; clean = refl }
passes v f k l Ascii (ascii n t) =
    record { flag = false; is = rw (all_ascii f.message (l.identification n t)); clean = refl }
passes v f k l Offset (offset n t) =
    record { flag = false; is = rw (le-leb 2 (length f.message) (l.request n t)); clean = refl }

is_seal : (v : Version) (f : Field) (k : ℕ) → IsSealed f → (rule : Rule) → Ruled v f.type rule
    → checked_of rule f.type f.message k ≡ Sealed (length f.message) k
unfolding checked_of
is_seal v f k h Zeros (zeros t) = absurd (omega arith)
is_seal v f k h Seal (seal t) = refl
is_seal v f k h Any (any a b c d) = absurd (b h)
is_seal v f k h Ascii (ascii n t) = absurd (omega arith)
is_seal v f k h Offset (offset n t) = absurd (omega arith)

module _ (v : Version) (cutoff : ℕ) (s : List ℕ) (at : ℕ) (f : Field) (tl : List ℕ) (more : cutoff < length s - at) (shaped : Shaped v f)
    (e : drop at s ≡ bytes_of f ++ tl) where
  checked_step : step_at v cutoff s at ≡ checked_of (rule_of (kind_of f.type v)) f.type f.message (length (bytes_of f))
  unfolding step_at
  checked_step = rw (lt-leb (length s - at) cutoff more, frame_here s at v f tl e shaped, message_here s at v f tl e)

  pub lawful_step : Lawful v f → Taken v cutoff s at f
  lawful_step l =
      let passed = passes v f (length (bytes_of f)) l (rule_of (kind_of f.type v)) (ruled v f.type) in
      record { flag = passed.flag; is = checked_step ∙ passed.is; clean = passed.clean }

  pub sealed_step : IsSealed f → step_at v cutoff s at ≡ Sealed (length f.message) (length (bytes_of f))
  sealed_step h = checked_step ∙ is_seal v f (length (bytes_of f)) h (rule_of (kind_of f.type v)) (ruled v f.type)

pub end_step : (v : Version) (cutoff : ℕ) (s : List ℕ) (at : ℕ) → length s - at ≤ cutoff → step_at v cutoff s at ≡ End
unfolding step_at
end_step v cutoff s at h = rw (le-leb (length s - at) cutoff h)
