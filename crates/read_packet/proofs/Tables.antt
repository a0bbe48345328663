-- Blank entries laid over those of a table's front.
use mathlib.Core.Path.{◌≡◌, refl, ap, ◌∙◌}
use mathlib.Core.List.{List, [], ◌∷◌}
use Prim.Native.Nat.{ℕ, suc, ◌-◌, ◌≤◌, ◌<◌, max, min}
use native.Mathlib.Nat.{not-suc-le-zero, le_of_suc-le-suc}
use native.Mathlib.Omega.{arith}
use lib.ListN.{length, set, length-replicate}
use lib.Seq.{sets, set_comm, set-set}
use Rattle.read_entries.specs.Meant.{capacity}
use Rattle.read_entries.specs.Meant.{blanks, over_table}

-- a store before what is stored after it
set_before : (xs l : List ℕ) (i j z : ℕ) → i < j → set (sets l j xs) i z ≡ sets (set l i z) j xs
set_before [] l i j z h = refl
set_before (x ∷ xs) l i j z h =
    let apart : j ≡ i → ⊥ = λ e. omega arith in
    set_before xs (set l j x) i (suc j) z (omega arith)
    ∙ ap (λ (m : List ℕ). sets m (suc j) xs) (set_comm l j i x z apart)

-- what is stored over is not seen again
covered : (xs zs l : List ℕ) (i : ℕ) → length xs ≤ length zs → sets (sets l i xs) i zs ≡ sets l i zs
covered [] zs l i h = refl
covered (x ∷ xs) [] l i h = absurd (not-suc-le-zero h)
covered (x ∷ xs) (z ∷ zs) l i h =
    ap (λ (m : List ℕ). sets m (suc i) zs)
    (set_before xs (set l i x) i (suc i) z (omega arith) ∙ ap (λ (m : List ℕ). sets m (suc i) xs) (set-set l i x z))
    ∙ covered xs zs (set l i z) (suc i) (le_of_suc-le-suc h)

-- blank entries laid over a table's front
pub laid_over : (old es : List ℕ) (used : ℕ) {to : ℕ} {front all : List ℕ} → length es ≤ capacity → front ≡ sets old 0 es
    → to ≡ max used (length es)
    → all ≡ over_table front [] to
    → all ≡ over_table old [] (max used (length es))
laid_over old es used {to} h e g f =
    f
    ∙ rw (e, g)
    (covered es (blanks 0 (max used (length es))) old 0 (omega (arith, length-replicate {A = ℕ} (min (max used (length es)) capacity - 0) 0)))
