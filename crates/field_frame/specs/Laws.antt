-- What a frame that was found says of its place: the field lies inside the region, and its lengths belong together.
use Rattle.std.specs.Prelude.{◌≡◌, refl, Bool, true, false, not, List, ℕ, ◌+◌, ◌-◌, ◌≤◌, ltb, length, Result, Ok, Err}
use Rattle.std.proofs.Common.{sym, ap, ◌∙◌, arith, ltb-false}
use Rattle.base_answers.specs.Meant.{pick}
use Rattle.base_answers.specs.declared.Refusal.{Refusal}
use Rattle.base_answers.specs.declared.Refusal.TheVariants.{IncorrectLength}
use Rattle.base_version.specs.declared.Version.{Version}
use Rattle.base_rounding.specs.Meant.{rounded_up}
use Rattle.base_big_endian.specs.Meant.{number_at}
use Rattle.field_frame.specs.Model.{told_of, framed, is_allowed, frame_of, frame_at}
use Rattle.field_frame.specs.LawsOnly.{same_answer}
use Rattle.field_frame.specs.declared.Frame.{Frame}

pub record FoundFrame (v : Version) (region : List ℕ) (at t m k : ℕ) : Type 0 where
  pub type : t ≡ number_at 2 region at
  pub stated : m + 4 ≡ number_at 2 region (at + 2)
  pub taken : k ≡ rounded_up (m + 4)
  pub inside : at + k ≤ length region
  pub allowed : is_allowed v (m + 4) ≡ true

abbrev frame_in : Result Frame Refusal → Frame
frame_in (Ok f) = f
frame_in (Err r) = record { type_id = 0; message_len = 0; wire_length = 0 }

-- one answer has one type, one length of message and one of the field
pub same_field : {t m k u n l : ℕ} → framed t m k ≡ framed u n l → (t ≡ u) × (m ≡ n) × (k ≡ l)
same_field e =
    (ap (λ r. (frame_in r).type_id) e, ap (λ r. (frame_in r).message_len) e, ap (λ r. (frame_in r).wire_length) e)

module _ {t m k : ℕ} where
  -- a test that would have refused did not hold
  passed : (b : Bool) (f : Result Frame Refusal) → pick b (Err IncorrectLength) f ≡ framed t m k → (b ≡ false) × (f ≡ framed t m k)
  passed true f e = (cc, cc)
  passed false f e = (refl, e)

not_not : (b : Bool) → not b ≡ false → b ≡ true
not_not true e = refl
not_not false e = sym e

pub found : (v : Version) (region : List ℕ) (at : ℕ) {t m k : ℕ} → frame_at v region at ≡ framed t m k → FoundFrame v region at t m k
unfolding frame_at frame_of
found v region at {t} {m} {k} e =
    let left = length region - at in
    let l = number_at 2 region (at + 2) in
    let field = framed (number_at 2 region at) (l - 4) (rounded_up l) in
    let third = pick (ltb left (rounded_up l)) (Err IncorrectLength) field in
    let second = pick (not (is_allowed v l)) (Err IncorrectLength) third in
    let first = pick (ltb l 4) (Err IncorrectLength) second in
    let p = passed (ltb left 4) first e in
    let p₁ = passed (ltb l 4) second p.1 in
    let p₂ = passed (not (is_allowed v l)) third p₁.1 in
    let p₃ = passed (ltb left (rounded_up l)) field p₂.1 in
    let same = same_field p₃.1 in
    let header : 4 ≤ left = ltb-false _ _ p.0 in
    let four : 4 ≤ l = ltb-false _ _ p₁.0 in
    let room : rounded_up l ≤ left = ltb-false _ _ p₃.0 in
    let stated : m + 4 ≡ l = omega (arith, same.1) in
    record {
      type = sym same.0;
      stated = stated;
      taken = omega (arith, same.1, same.2);
      inside = omega (arith, same.2);
      allowed = rw stated (not_not (is_allowed v l) p₂.0);
    }

-- an answer that promises to be the frame is it
pub answered : (v : Version) (region : List ℕ) (at : ℕ) {f g : Result Frame Refusal} → told_of f ≡ told_of (frame_at v region at) → f ≡ g
    → frame_at v region at ≡ g
answered v region at {f} e g = sym (same_answer f (frame_at v region at) e) ∙ g
