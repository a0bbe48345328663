-- The cases of `result_of`, in the order of their tests, and what a plaintext's place says.
use mathlib.Core.Path.{◌≡◌, refl, ap}
use mathlib.Core.Bool.{Bool, true, false}
use Prim.Native.Nat.{ℕ, ◌+◌, ◌≤◌, ◌<◌}
use native.Mathlib.Omega.{arith}
use borrow.Author.Tests.{lt-ltb, le-ltb, lt-leb, le-leb, ltb-false}
use lib.Dec.{ltb, leb}
use lib.ListN.{length}
use Rattle.base_answers.specs.Meant.{pick}
use Rattle.base_answers.specs.declared.Refusal.{Refusal}
use Rattle.base_answers.specs.declared.Refusal.TheVariants.{NoResult, MalformedResult}
use Rattle.read_opening.specs.Meant.{Lent, results, verdict_of, start_of, len_of}
use Rattle.read_opening.specs.Model.{cookie_by, plaintext_at, result_of}
use Rattle.read_opening.specs.declared.Plaintext.{Plaintext}
use Rattle.std.specs.Prelude.{Option, Some, None, Result, Ok, Err}

module _ (l : Lent) (k : ℕ) where
  pub no_result : results l ≤ k → result_of l k ≡ Err NoResult
  unfolding result_of
  no_result h = rw (le-leb _ _ h)

  pub unknown : k < results l → 3 < verdict_of l k → result_of l k ≡ Err MalformedResult
  unfolding result_of
  unknown h u = rw (lt-leb _ _ h, lt-ltb _ _ u)

  pub not_opened : k < results l → verdict_of l k < 2 → result_of l k ≡ Ok None
  unfolding result_of
  not_opened h f = rw (lt-leb _ _ h, le-ltb 3 (verdict_of l k) (omega arith), lt-ltb _ _ f)

  module _ (h : k < results l) (low : 2 ≤ verdict_of l k) (high : verdict_of l k ≤ 3) where
    pub misplaced : length l.plain < start_of l k + len_of l k → result_of l k ≡ Err MalformedResult
    unfolding result_of
    misplaced m = rw (lt-leb _ _ h, le-ltb _ _ high, le-ltb _ _ low, lt-ltb _ _ m)

    pub placed : start_of l k + len_of l k ≤ length l.plain
        → result_of l k ≡ plaintext_at (start_of l k) (start_of l k + len_of l k) (cookie_by (verdict_of l k) k)
    unfolding result_of
    placed m = rw (lt-leb _ _ h, le-ltb _ _ high, le-ltb _ _ low, le-ltb _ _ m)

-- a plaintext lies inside the buffer
pub record Inside (l : Lent) (start end : ℕ) : Type 0 where
  pub ordered : start ≤ end
  pub inside : end ≤ length l.plain

abbrev plaintext_in : Result (Option Plaintext) Refusal → Plaintext
plaintext_in (Ok (Some p)) = p
plaintext_in (Ok None) = record { start = 0; end = 0; cookie = None }
plaintext_in (Err r) = record { start = 0; end = 0; cookie = None }

module _ {start end : ℕ} {c : Option ℕ} where
  passed : (b : Bool) (r s : Result (Option Plaintext) Refusal) → (r ≡ plaintext_at start end c → ⊥) → pick b r s ≡ plaintext_at start end c → (b ≡ false) × (s ≡ plaintext_at start end c)
  passed true r s n e = absurd (n e)
  passed false r s n e = (refl, e)

  other : (r : Refusal) → Err r ≡ plaintext_at start end c → ⊥
  other r e = let z : ◌≡◌ {A = ℕ} 0 1 = cc in omega arith

  other_failed : Ok None ≡ plaintext_at start end c → ⊥
  other_failed e = let z : ◌≡◌ {A = ℕ} 0 1 = cc in omega arith

pub lies_inside : (l : Lent) (k : ℕ) {start end : ℕ} {c : Option ℕ} → result_of l k ≡ plaintext_at start end c → Inside l start end
unfolding result_of
lies_inside l k {start} {end} {c} e =
    let place = plaintext_at (start_of l k) (start_of l k + len_of l k) (cookie_by (verdict_of l k) k) in
    let fourth = pick (ltb (length l.plain) (start_of l k + len_of l k)) (Err MalformedResult) place in
    let third = pick (ltb (verdict_of l k) 2) (Ok None) fourth in
    let second = pick (ltb 3 (verdict_of l k)) (Err MalformedResult) third in
    let p₁ = passed (leb (results l) k) (Err NoResult) second (other NoResult) e in
    let p₂ = passed (ltb 3 (verdict_of l k)) (Err MalformedResult) third (other MalformedResult) p₁.1 in
    let p₃ = passed (ltb (verdict_of l k) 2) (Ok None) fourth other_failed p₂.1 in
    let p₄ = passed (ltb (length l.plain) (start_of l k + len_of l k)) (Err MalformedResult) place (other MalformedResult) p₃.1 in
    let starts : start_of l k ≡ start = ap (λ r. (plaintext_in r).start) p₄.1 in
    let ends : start_of l k + len_of l k ≡ end = ap (λ r. (plaintext_in r).end) p₄.1 in
    let fits = ltb-false (length l.plain) (start_of l k + len_of l k) p₄.0 in
    record { ordered = omega arith; inside = omega arith }
