-- How stores go together: one after another they are one, and an accepted write is what its stores made.
use Rattle.std.specs.Prelude.{◌≡◌, refl, Bool, true, false, List, [], ◌∷◌, ◌++◌, ℕ, suc, ◌+◌, ◌≤◌, ◌<◌, leb, length, take, set, Ok}
use Rattle.std.proofs.Common.{sym, ◌∙◌, append-nil, add-zero, arith, le-leb, length-append, take-append-drop}
use Rattle.std.proofs.lemmas.Bool.{lt-leb}
use Rattle.std.proofs.lemmas.List.Edits.{sets, sets-eq}
use Rattle.std.proofs.Math.Seq.{length-sets}
use Rattle.base_answers.specs.Meant.{pick}
use Rattle.base_big_endian.specs.Meant.{big_endian}
use Rattle.base_big_endian.specs.Laws.{length_big_endian}
use Rattle.base_store.specs.Meant.{overlay, writing, wrote}
use Rattle.base_store.specs.Model.{stored}

-- bytes that fit, stored one by one, lie over what was there
pub fitting : (out : List ℕ) (at : ℕ) (bytes : List ℕ) → at + length bytes ≤ length out → stored out at bytes ≡ sets out at bytes
unfolding stored
fitting out at bytes h = rw (le-leb _ _ h) (sym (sets-eq bytes out at h))

-- bytes that do not fit leave it as it was
pub not_fitting : (out : List ℕ) (at : ℕ) (bytes : List ℕ) → length out < at + length bytes → stored out at bytes ≡ out
unfolding stored
not_fitting out at bytes h = rw (lt-leb _ _ h)

pub joined : (out : List ℕ) (at : ℕ) (xs ys : List ℕ) → sets (sets out at xs) (at + length xs) ys ≡ sets out at (xs ++ ys)
joined out at [] ys = rw add-zero
joined out at (x ∷ xs) ys =
    let e : at + suc (length xs) ≡ suc at + length xs = omega arith in
    rw e (joined (set out at x) (suc at) xs ys)

-- a store, and another where it ends, are one store of both, if both fit
pub then_stored : (out : List ℕ) (at : ℕ) (xs ys : List ℕ) {p : ℕ} {first both : List ℕ} → p ≡ at + length xs
    → at + length xs + length ys ≤ length out
    → first ≡ stored out at xs
    → both ≡ stored first p ys
    → both ≡ stored out at (xs ++ ys)
then_stored out at xs ys e h f g =
    g
    ∙ rw (f, e, fitting out at xs (omega arith))
    (fitting (sets out at xs) (at + length xs) ys (omega (arith, length-sets out at xs))
    ∙ joined out at xs ys
    ∙ sym (fitting out at (xs ++ ys) (omega (arith, length-append xs ys))))

-- an accepted write, from the stores that it made
pub written : (out : List ℕ) (at : ℕ) (bytes : List ℕ) {n : ℕ} {new : List ℕ} → n ≡ length bytes → at + length bytes ≤ length out
    → new ≡ stored out at bytes → wrote (Ok n) new ≡ writing bytes at out
unfolding stored
written out at bytes {n} {new} e h f = rw (e, f, le-leb (at + length bytes) (length out) h)

-- two bytes of memory that a number was stored to hold the number
pub two_bytes : (n : ℕ) → stored (0 ∷ 0 ∷ []) 0 (big_endian 2 n) ≡ big_endian 2 n
unfolding big_endian
two_bytes n = fitting (0 ∷ 0 ∷ []) 0 (big_endian 2 n) (omega (arith, length_big_endian 2 n))

-- no bytes change nothing
pub nothing_stored : (out : List ℕ) (at : ℕ) → stored out at [] ≡ out
unfolding stored
nothing_stored out at = go (leb (at + 0) (length out))
  where
    go : (b : Bool) → pick b (overlay out at []) out ≡ out
    go true =
        let e : at + 0 ≡ at = omega arith in
        rw (e, append-nil (take at out)) (take-append-drop at out)
    go false = refl
