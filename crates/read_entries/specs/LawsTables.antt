-- What a table of so many entries as its capacity is afterwards: the entries, and then blank ones. The code's tables have this
-- size by their type; the promises lay entries over a table of any length.
use Rattle.std.specs.Prelude.{◌≡◌, refl, List, [], ◌++◌, ℕ, ◌+◌, ◌-◌, ◌≤◌, min, length, drop}
use Rattle.std.proofs.Common.{◌∙◌, append_assoc, append-nil, arith, length-append, drop_of_length-le}
use Rattle.std.proofs.Math.Nat.{min-eq_right}
use Rattle.std.proofs.lemmas.List.{length-replicate}
use Rattle.std.proofs.lemmas.List.Edits.{sets, sets-eq}
use Rattle.base_store.specs.Laws.{joined}
use Rattle.read_entries.specs.Meant.{capacity, blanks, over_table}

pub whole : (table es : List ℕ) (used : ℕ) → length table ≡ capacity → length es ≤ capacity → capacity ≤ used
    → over_table table es used ≡ es ++ blanks (length es) capacity
whole table es used h room all-used =
    let all = es ++ blanks (length es) capacity in
    let size : length all ≡ capacity =
    omega (arith, length-append es (blanks (length es) capacity), length-replicate {A = ℕ} (capacity - length es) 0) in
    let none_past : drop (0 + length all) table ≡ [] = drop_of_length-le table {i = 0 + length all} (omega arith) in
    rw (min-eq_right all-used)
    (sets-eq all table 0 (omega arith) ∙ rw none_past (append-nil all))

-- however many were in use, the entries are in front
pub record Fronted (es table : List ℕ) : Type 0 where
  pub after : List ℕ
  pub is : table ≡ es ++ after

pub fronted : (table es : List ℕ) (used : ℕ) → length table ≡ capacity → length es ≤ capacity → Fronted es (over_table table es used)
fronted table es used h room =
    let blank = blanks (length es) used in
    let size = length-append es blank in
    let count = length-replicate {A = ℕ} (min used capacity - length es) 0 in
    record {
      after = blank ++ drop (0 + length (es ++ blank)) table;
      is = sets-eq (es ++ blank) table 0 (omega arith) ∙ append_assoc es blank (drop (0 + length (es ++ blank)) table);
    }

-- entries stored after those of a table's front
pub several_more : (old xs ys : List ℕ) {n : ℕ} → n ≡ length xs → sets (sets old 0 xs) n ys ≡ sets old 0 (xs ++ ys)
several_more old xs ys {n} h =
    let place : n ≡ 0 + length xs = omega arith in
    rw place (joined old 0 xs ys)

-- entries laid over a table's front, and blank ones after them
pub over_after : (old es : List ℕ) (used : ℕ) {n : ℕ} {front all : List ℕ} → front ≡ sets old 0 es → n ≡ length es
    → all ≡ sets front n (blanks n used)
    → all ≡ over_table old es used
over_after old es used {n} e h f = f ∙ rw (e, h) (several_more old es (blanks (length es) used) refl)
