-- No type number stands twice in the table, so each row is what its own number is read as.
use Rattle.std.specs.Prelude.{◌≡◌, refl, Bool, true, false, not, List, [], ◌∷◌, ℕ, zero, suc, ◌<◌, T, eqb, length, get_or}
use Rattle.std.proofs.Common.{not-suc-le-zero, le_of_suc-le-suc, eq-eqb, ne_eqb, T_not}
use Rattle.std.proofs.Math.Dec.{eqb_refl}
use Rattle.base_version.specs.declared.Version.{Version}
use Rattle.field_kinds.specs.Meant.{both, rows, said, lookup, kind_of}
use Rattle.field_kinds.specs.declared.Kind.TheVariants.{Unknown}
use Rattle.field_kinds.specs.declared.Row.{Row}

-- what stands past the end of a table
abbrev pub no_row : Row
no_row = both 0 Unknown

and : Bool → Bool → Bool
and true b = b
and false b = false

and_left : (a b : Bool) → T (and a b) → T a
unfolding and
and_left true b t = tt
and_left false b t = t

and_right : (a b : Bool) → T (and a b) → T b
unfolding and
and_right true b t = t
and_right false b t = absurd t

-- the test: a number stands in no row
absent : ℕ → List Row → Bool
absent n [] = true
absent n (r ∷ rs) = and (not (eqb n r.type_id)) (absent n rs)

-- the test: no number stands twice
distinct : List Row → Bool
distinct [] = true
distinct (r ∷ rs) = and (absent r.type_id rs) (distinct rs)

absent_at : (n : ℕ) (rs : List Row) → T (absent n rs) → (i : ℕ) → i < length rs → n ≡ (get_or rs i no_row).type_id → ⊥
unfolding absent
absent_at n [] t i h e = not-suc-le-zero h
absent_at n (r ∷ rs) t zero h e =
    T_not (eqb n r.type_id) (and_left (not (eqb n r.type_id)) (absent n rs) t) (rw e (eqb_refl r.type_id))
absent_at n (r ∷ rs) t (suc i) h e =
    absent_at n rs (and_right (not (eqb n r.type_id)) (absent n rs) t) i (le_of_suc-le-suc h) e

own : (rs : List Row) → T (distinct rs) → (i : ℕ) (v : Version) → i < length rs
    → lookup rs (get_or rs i no_row).type_id v ≡ said (get_or rs i no_row) v
unfolding distinct
own [] t i v h = absurd (not-suc-le-zero h)
own (r ∷ rs) t zero v h = rw (eq-eqb r.type_id r.type_id refl)
own (r ∷ rs) t (suc i) v h =
    let elsewhere = absent_at r.type_id rs (and_left (absent r.type_id rs) (distinct rs) t) i (le_of_suc-le-suc h) in
    rw (ne_eqb r.type_id (get_or rs i no_row).type_id elsewhere)
    (own rs (and_right (absent r.type_id rs) (distinct rs) t) i v (le_of_suc-le-suc h))

-- the rule at each row, by the test computed over the table
pub each_row : (i : ℕ) (v : Version) → i < 7 → kind_of (get_or rows i no_row).type_id v ≡ said (get_or rows i no_row) v
unfolding kind_of distinct absent and
each_row i v h = own rows tt i v h
