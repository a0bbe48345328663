-- A test of every byte: taken one byte at a time from the front, or passed over in blocks.
use Rattle.std.specs.Prelude.{◌≡◌, refl, Bool, true, false, List, [], ◌∷◌, ℕ, zero, suc, ◌+◌, ◌*◌, ◌/◌, ◌≤◌, ◌<◌, length, get_or, drop}
use Rattle.std.proofs.lemmas.Bool.{false≢true}
use Rattle.std.proofs.Common.{div-mul-le_self, arith, drop_of_length-le, drop-cons}
use Rattle.std.proofs.Math.Seq.{drop-length}
use Rattle.base_answers.specs.Meant.{pick}
use Rattle.field_contents.specs.Meant.{every}
use Rattle.field_contents.specs.Model.{is_zero, ahead, in_blocks, zero_blocks}

module _ (test : ℕ → Bool) (s : List ℕ) (i : ℕ) where
  -- the byte at hand passes
  pub passes : i < length s → test (get_or s i 0) ≡ true → every test (drop i s) ≡ every test (drop (i + 1) s)
  passes h e =
      let o : i + 1 ≡ suc i = omega arith in
      rw (o, drop-cons s i 0 h, e)

  -- it does not
  pub fails : i < length s → test (get_or s i 0) ≡ false → every test (drop i s) ≡ false
  fails h e = rw (drop-cons s i 0 h, e)

  -- none is left
  pub none_left : length s ≤ i → every test (drop i s) ≡ true
  none_left h = rw (drop_of_length-le s h)

-- bytes at the front that pass a test
module _ (test : ℕ → Bool) where
  pub at_most_all : (m : List ℕ) → ahead test m ≤ length m
  at_most_all [] = omega arith
  at_most_all (b ∷ m) = go (at_most_all m) (test b)
    where
      go : ahead test m ≤ length m → (z : Bool) → pick z (1 + ahead test m) 0 ≤ suc (length m)
      go later true = omega (arith, later)
      go later false = omega arith

  -- all of them are passed
  pub all_ahead : (m : List ℕ) → every test m ≡ true → length m ≤ ahead test m
  all_ahead [] e = omega arith
  all_ahead (b ∷ m) e = go (all_ahead m) (test b) e
    where
      go : (every test m ≡ true → length m ≤ ahead test m) → (z : Bool) → pick z (every test m) false ≡ true
          → suc (length m) ≤ pick z (1 + ahead test m) 0
      go later true f = omega (arith, later f)
      go later false f = absurd (false≢true f)

  -- those that were passed say nothing of the others
  pub passed_over : (k : ℕ) (m : List ℕ) → k ≤ ahead test m → every test (drop k m) ≡ every test m
  passed_over zero m h = refl
  passed_over (suc k) [] h = refl
  passed_over (suc k) (b ∷ m) h = go (passed_over k m) (test b) h
    where
      go : (k ≤ ahead test m → every test (drop k m) ≡ every test m) → (z : Bool) → suc k ≤ pick z (1 + ahead test m) 0
          → every test (drop k m) ≡ pick z (every test m) false
      go later true f = later (omega arith)
      go later false f = absurd (omega arith)

  module _ (size : ℕ) (m : List ℕ) where
    whole_blocks : ahead test m / size * size ≤ ahead test m
    whole_blocks = div-mul-le_self (ahead test m) size

    pub in_blocks_inside : in_blocks test size m ≤ length m
    in_blocks_inside = go (every test m)
      where
        go : (z : Bool) → pick z (length m) (ahead test m / size * size) ≤ length m
        go true = omega arith
        go false = omega (arith, whole_blocks, at_most_all m)

    in_blocks_passed : every test (drop (in_blocks test size m) m) ≡ every test m
    in_blocks_passed = go (every test m) refl
      where
        go : (z : Bool) → every test m ≡ z
            → every test (drop (pick z (length m) (ahead test m / size * size)) m) ≡ every test m
        go true e = rw (drop-length m, e)
        go false e = passed_over (ahead test m / size * size) m whole_blocks

-- zeros that the scan of a placeholder need not look at
module _ (m : List ℕ) where
  pub blocks_inside : zero_blocks m ≤ length m
  unfolding zero_blocks
  blocks_inside = in_blocks_inside is_zero 8 m

  pub blocks_passed : every is_zero (drop (zero_blocks m) m) ≡ every is_zero m
  unfolding zero_blocks
  blocks_passed = in_blocks_passed is_zero 8 m
