-- Bytes joined by "or" are below a power of two exactly where each of them is.
use mathlib.Core.Path.{◌≡◌, refl, fun_ext}
use mathlib.Core.Bool.{Bool, true, false}
use mathlib.Core.List.{List, ◌∷◌}
use Prim.Native.Nat.{ℕ, suc, ◌+◌, ◌^◌, ◌≤◌, ◌<◌}
use native.Mathlib.Omega.{arith}
use borrow.Author.Tests.{eqb-true, eqb-false, ltb-true, ltb-false, lt-ltb, le-ltb}
use lib.Dec.{ltb}
use lib.Bits.{bit_or, or_add_and, or_lt, and_le_l, and_le_r}
use lib.ListN.{length, get_or, drop, drop_of_length-le}
use lib.Pow.{pow_pos}
use lib.Seq.{drop-cons}
use Rattle.base_answers.specs.Meant.{pick}
use Rattle.field_contents.specs.Meant.{every}
use Rattle.field_contents.specs.Model.{PowerOfTwo, below, is_zero}

below_power : (k a b : ℕ) → ltb (bit_or a b) (2 ^ k) ≡ pick (ltb a (2 ^ k)) (ltb b (2 ^ k)) false
below_power k a b = go (ltb a (2 ^ k)) refl (ltb b (2 ^ k)) refl
  where
    go : (x : Bool) → ltb a (2 ^ k) ≡ x → (y : Bool) → ltb b (2 ^ k) ≡ y → ltb (bit_or a b) (2 ^ k) ≡ pick x y false
    go true e true f = lt-ltb (bit_or a b) (2 ^ k) (or_lt k a b (ltb-true a (2 ^ k) e) (ltb-true b (2 ^ k) f))
    go true e false f = le-ltb (bit_or a b) (2 ^ k) (omega (arith, ltb-false b (2 ^ k) f, or_add_and a b, and_le_l a b))
    go false e y f = le-ltb (bit_or a b) (2 ^ k) (omega (arith, ltb-false a (2 ^ k) e, or_add_and a b, and_le_r a b))

both_below : (limit : ℕ) → PowerOfTwo limit → (a b : ℕ) → below limit (bit_or a b) ≡ pick (below limit a) (below limit b) false
both_below limit p a b = rw p.is (below_power p.exponent a b)

module _ (limit : ℕ) where
  -- what is joined so far is below the limit, and so is all that is left
  abbrev pub below_with : ℕ → List ℕ → Bool
  below_with all left = pick (below limit all) (every (below limit) left) false

  pub begun : PowerOfTwo limit → (s : List ℕ) → below_with 0 s ≡ every (below limit) s
  begun p s = rw (lt-ltb 0 limit (rw p.is (pow_pos p.exponent)))

  pub joined : PowerOfTwo limit → (all : ℕ) (s : List ℕ) (i : ℕ) → i < length s
      → below_with (bit_or all (get_or s i 0)) (drop (i + 1) s) ≡ below_with all (drop i s)
  joined p all s i h =
      let o : i + 1 ≡ suc i = omega arith in
      rw (both_below limit p all (get_or s i 0), drop-cons s i 0 h, o) (go (below limit all))
    where
      go : (z : Bool)
          → pick (pick z (below limit (get_or s i 0)) false) (every (below limit) (drop (suc i) s)) false
          ≡ pick z (every (below limit) (get_or s i 0 ∷ drop (suc i) s)) false
      go true = refl
      go false = refl

  pub all_seen : (all : ℕ) (s : List ℕ) (i : ℕ) → length s ≤ i → below_with all (drop i s) ≡ below limit all
  all_seen all s i h = rw (drop_of_length-le s h) (go (below limit all))
    where
      go : (z : Bool) → pick z true false ≡ z
      go true = refl
      go false = refl

-- the limits of an ASCII byte and of a zero
pub ascii_limit : PowerOfTwo 128
ascii_limit = record { exponent = 7; is = refl }

pub zero_limit : PowerOfTwo 1
zero_limit = record { exponent = 0; is = refl }

pub below_one : below 1 ≡ is_zero
below_one = fun_ext (λ b. go b (is_zero b) refl)
  where
    go : (b : ℕ) (z : Bool) → is_zero b ≡ z → below 1 b ≡ z
    go b true e = lt-ltb b 1 (omega (arith, eqb-true b 0 e))
    go b false e = le-ltb b 1 (omega (arith, eqb-false b 0 e))
