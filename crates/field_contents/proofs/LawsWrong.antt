-- Wrong scans of a placeholder, refuted from the promise of `zero_blocks` alone.
use Rattle.std.specs.Prelude.{◌≡◌, Bool, List, [], ◌∷◌, ℕ, zero, suc, ◌+◌, ◌*◌, ◌/◌, ◌≤◌, ◌<◌, get_or}
use Rattle.std.proofs.Math.Path.{refl}
use Rattle.std.proofs.Math.Bool.{true, false}
use Rattle.std.proofs.Common.{arith, eqb-true}
use Rattle.std.proofs.Math.ListN.{length}
use Rattle.base_answers.specs.Meant.{pick}
use Rattle.field_contents.specs.Meant.{every}
use Rattle.field_contents.specs.Model.{is_zero, ahead, zero_blocks}
use Rattle.field_contents.proofs.Laws.{at_most_all, all_ahead}

zero_ahead : (m : List ℕ) (k : ℕ) → k < ahead is_zero m → get_or m k 0 ≡ 0
zero_ahead [] k h = absurd (omega arith)
zero_ahead (b ∷ m) k h = go (zero_ahead m) k (is_zero b) refl h
  where
    go : ((j : ℕ) → j < ahead is_zero m → get_or m j 0 ≡ 0) → (k : ℕ) (z : Bool) → is_zero b ≡ z
        → k < pick z (1 + ahead is_zero m) 0 → get_or (b ∷ m) k 0 ≡ 0
    go later k false e f = absurd (omega arith)
    go later zero true e f = eqb-true b 0 e
    go later (suc k) true e f = later k (omega arith)

module _ (m : List ℕ) (r : ℕ) (promised : r ≡ zero_blocks m) where
  -- a reply past a byte that is not zero: the last block skipped, "and" in place of "or", a step too long, the start of a block used
  -- again in place of the next one, one of the last seven bytes not seen
  pub past_a_byte : (k : ℕ) → k < r → (get_or m k 0 ≡ 0 → ⊥) → ⊥
  unfolding zero_blocks
  past_a_byte k h other = other (zero_ahead m k (go (every is_zero m) refl promised))
    where
      go : (z : Bool) → every is_zero m ≡ z → r ≡ pick z (length m) (ahead is_zero m / 8 * 8) → k < ahead is_zero m
      go true e f = omega (arith, all_ahead is_zero m e, f)
      go false e f = omega (arith, f)

  -- a byte of a lawful placeholder left to the scan
  pub left_over : every is_zero m ≡ true → r < length m → ⊥
  unfolding zero_blocks
  left_over e h =
      let all : r ≡ length m = rw e at promised in
      omega (arith, all)

  -- eight zeros left to the scan, ahead of the byte that it stops at
  pub eight_left : r + 8 ≤ ahead is_zero m → ⊥
  unfolding zero_blocks
  eight_left h = go (every is_zero m) promised
    where
      go : (z : Bool) → r ≡ pick z (length m) (ahead is_zero m / 8 * 8) → ⊥
      go true f = omega (arith, f, at_most_all is_zero m)
      go false f = omega (arith, f)
