-- Bytes passed in blocks, and a last block that ends where the message does.
use mathlib.Core.Path.{◌≡◌, refl, sym, ap, ◌∙◌}
use mathlib.Core.Bool.{Bool, true, false, true≢false, false≢true}
use mathlib.Core.List.{List, [], ◌∷◌}
use Prim.Native.Nat.{ℕ, zero, suc, ◌+◌, ◌-◌, ◌*◌, ◌/◌, ◌≤◌, ◌<◌}
use native.Mathlib.Omega.{arith}
use native.Mathlib.Nat.{add-div_left, div-eq_of_lt, div-mul-le_self, add-mul, one-mul, zero-mul}
use borrow.Author.Tests.{eq-eqb, ne_eqb}
use lib.Dec.{eqb}
use lib.ListN.{length, take, drop, length-drop, drop_of_length-le}
use lib.Seq.{drop-drop, take_all, take-length}
use Rattle.base_answers.specs.Meant.{pick}
use Rattle.field_contents.specs.Meant.{every}
use Rattle.field_contents.specs.Model.{ahead, in_blocks}
use Rattle.field_contents.proofs.Laws.{all_ahead, passed_over}

-- a part that is all
pub all_of : (m : List ℕ) → take (length m - 0) m ≡ m
all_of m = take_all (length m - 0) m (omega arith)

module _ (test : ℕ → Bool) where
  -- bytes that are passed, and those that follow
  ahead_of : (k : ℕ) (m : List ℕ) → k ≤ ahead test m → ahead test m ≡ k + ahead test (drop k m)
  ahead_of zero m h = omega arith
  ahead_of (suc k) [] h = absurd (omega arith)
  ahead_of (suc k) (b ∷ m) h = go (ahead_of k m) (test b) h
    where
      go : (k ≤ ahead test m → ahead test m ≡ k + ahead test (drop k m)) → (z : Bool) → suc k ≤ pick z (1 + ahead test m) 0
          → pick z (1 + ahead test m) 0 ≡ suc k + ahead test (drop k m)
      go later true f = omega (arith, later (omega arith))
      go later false f = absurd (omega arith)

  -- a block of bytes that all pass
  block_passes : (n : ℕ) (m : List ℕ) → n ≤ length m → every test (take n m) ≡ true → n ≤ ahead test m
  block_passes zero m h e = omega arith
  block_passes (suc n) [] h e = absurd (omega arith)
  block_passes (suc n) (b ∷ m) h e = go (block_passes n m (omega arith)) (test b) e
    where
      go : (every test (take n m) ≡ true → n ≤ ahead test m) → (z : Bool) → pick z (every test (take n m)) false ≡ true
          → suc n ≤ pick z (1 + ahead test m) 0
      go later true f = omega (arith, later f)
      go later false f = absurd (false≢true f)

  -- a block with another byte in it
  block_stops : (n : ℕ) (m : List ℕ) → every test (take n m) ≡ false → ahead test m < n
  block_stops zero m e = absurd (true≢false e)
  block_stops (suc n) [] e = absurd (true≢false e)
  block_stops (suc n) (b ∷ m) e = go (block_stops n m) (test b) e
    where
      go : (every test (take n m) ≡ false → ahead test m < n) → (z : Bool) → pick z (every test (take n m)) false ≡ false
          → pick z (1 + ahead test m) 0 < suc n
      go later true f = omega (arith, later f)
      go later false f = omega arith

  module _ (size : ℕ) (m : List ℕ) where
    -- `i` bytes are passed, in whole blocks: what is found in blocks is found there and in what is left
    pub record Passed (i : ℕ) : Type 0 where
      pub inside : i ≤ length m
      pub all : i ≤ ahead test m
      pub whole : ahead test m / size * size ≡ i + ahead test (drop i m) / size * size

    pub none_passed : Passed 0
    none_passed = record { inside = omega arith; all = omega arith; whole = omega arith }

    pub all_passed : every test m ≡ true → length m ≡ in_blocks test size m
    all_passed e = rw e

    module _ {i : ℕ} (p : Passed i) where
      -- none is left
      pub passed_all : i ≡ length m → length m ≡ in_blocks test size m
      passed_all h =
          let none : drop i m ≡ [] = drop_of_length-le m {i = i} (omega (arith, h)) in
          all_passed (sym (passed_over test i m p.all) ∙ ap (λ (s : List ℕ). every test s) none)

      -- a block more
      pub more_passed : 0 < size → i + size ≤ length m → every test (take size (drop i m)) ≡ true → Passed (i + size)
      more_passed some h e =
          let block = block_passes size (drop i m) (omega (arith, length-drop i m)) e in
          let z = ahead test (drop (i + size) m) in
          let next : ahead test (drop i m) ≡ size + z =
          ahead_of size (drop i m) block ∙ ap (λ (s : List ℕ). size + ahead test s) (drop-drop size i m) in
          let one_more : (size + z) / size * size ≡ z / size * size + size =
          ap (λ (n : ℕ). n * size) (add-div_left z some)
          ∙ add-mul (z / size) 1 size
          ∙ ap (λ (n : ℕ). z / size * size + n) (one-mul size) in
          record {
            inside = h;
            all = omega (arith, ahead_of i m p.all, next);
            whole = p.whole ∙ ap (λ (n : ℕ). i + n / size * size) next ∙ omega (arith, one_more);
          }

      -- another byte comes before the next block ends
      stops : ahead test (drop i m) < size → every test m ≡ false → i ≡ in_blocks test size m
      stops h e =
          let none : ahead test (drop i m) / size * size ≡ 0 = ap (λ (n : ℕ). n * size) (div-eq_of_lt h) ∙ zero-mul size in
          rw e (omega (arith, p.whole, none))

      pub stops_here : i + size ≤ length m → every test (take size (drop i m)) ≡ false → i ≡ in_blocks test size m
      stops_here h e = go (every test m) refl
        where
          short : ahead test (drop i m) < size
          short = block_stops size (drop i m) e

          go : (z : Bool) → every test m ≡ z → i ≡ in_blocks test size m
          go true f = absurd (omega (arith, all_ahead test m f, ahead_of i m p.all, short))
          go false f = stops short f

      -- no more than a block is left
      pub stops_later : length m ≤ i + size → every test m ≡ false → i ≡ in_blocks test size m
      stops_later h e =
          let other = block_stops (length m) m (rw (take-length m) e) in
          stops (omega (arith, ahead_of i m p.all, other)) e

      -- a last block, which begins at a byte that is passed or at the next one, and ends with the message
      pub last_block : (k : ℕ) → k ≤ i → every test (take (length m - k) (drop k m)) ≡ every test m
      last_block k h =
          rw (take_all (length m - k) (drop k m) (omega (arith, length-drop k m))) (passed_over test k m (omega (arith, p.all)))

  -- all are found in blocks exactly where all pass
  pub all_found : (size : ℕ) (m : List ℕ) {r : ℕ} → r ≡ in_blocks test size m → eqb r (length m) ≡ every test m
  all_found size m {r} e = go (every test m) refl e
    where
      go : (z : Bool) → every test m ≡ z → r ≡ pick z (length m) (ahead test m / size * size) → eqb r (length m) ≡ z
      go true q f = eq-eqb r (length m) f
      go false q f =
          let other = block_stops (length m) m (rw (take-length m) q) in
          ne_eqb r (length m) (λ g. omega (arith, f, g, other, div-mul-le_self (ahead test m) size))

  -- blocks of 64 first, then blocks of 8 in what they leave
  module _ (m : List ℕ) (p : ℕ) where
    eights : (z : Bool) → every test m ≡ z → p ≡ pick z (length m) (ahead test m / 64 * 64)
        → p + in_blocks test 8 (drop p m) ≡ pick z (length m) (ahead test m / 8 * 8)
    eights true q f =
        let none : drop p m ≡ [] = drop_of_length-le m {i = p} (omega (arith, f)) in
        rw none (omega (arith, f))
    eights false q f =
        let rest : every test (drop p m) ≡ false = passed_over test p m (omega (arith, f)) ∙ q in
        rw rest (omega (arith, f, ahead_of p m (omega (arith, f))))

    pub then_eights : p ≡ in_blocks test 64 m → p + in_blocks test 8 (take (length m - p) (drop p m)) ≡ in_blocks test 8 m
    then_eights e =
        rw (take_all (length m - p) (drop p m) (omega (arith, length-drop p m))) (eights (every test m) refl e)
