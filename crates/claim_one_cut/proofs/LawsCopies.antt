-- One field so many times, for packets at the limits of the tables; and that the two fields which are used there have the right shape.
use Rattle.std.specs.Prelude.{◌≡◌, refl, List, [], ◌∷◌, ◌++◌, ℕ, zero, suc, ◌+◌, ◌*◌, length}
use Rattle.std.proofs.Common.{sym, ap, ◌∙◌, append_assoc, append-nil, add-mul, arith, length-append}
use Rattle.base_version.specs.declared.Version.TheVariants.{V5}
use Rattle.layout.specs.Meant.{Field, bytes_of, joined, Shaped}
use Rattle.claim_one_cut.specs.MeantCut.{Item, field_of, fields_of}
use Rattle.claim_one_cut.proofs.LawsExamples.{identifier, empty_seal}

abbrev pub copies : Field → ℕ → List Field
copies f zero = []
copies f (suc n) = f ∷ copies f n

pub copies_number : (f : Field) (n : ℕ) → length (copies f n) ≡ n
copies_number f zero = refl
copies_number f (suc n) = ap suc (copies_number f n)

pub copies_size : (f : Field) (n : ℕ) → length (joined (copies f n)) ≡ n * length (bytes_of f)
copies_size f zero = omega arith
copies_size f (suc n) =
    let size = length (bytes_of f) in
    let one_more : (n + 1) * size ≡ n * size + 1 * size = add-mul n 1 size in
    omega (arith, length-append (bytes_of f) (joined (copies f n)), copies_size f n, one_more)

-- the last one stands after the others
pub last_copy : (f : Field) (n : ℕ) → joined (copies f (suc n)) ≡ joined (copies f n) ++ bytes_of f
last_copy f zero = append-nil (bytes_of f)
last_copy f (suc n) =
    ap (λ (l : List ℕ). bytes_of f ++ l) (last_copy f n) ∙ sym (append_assoc (bytes_of f) (joined (copies f n)) (bytes_of f))

-- items that are all alike
abbrev pub alike : Item → ℕ → List Item
alike x zero = []
alike x (suc n) = x ∷ alike x n

pub fields_alike : (x : Item) (n : ℕ) → fields_of (alike x n) ≡ copies (field_of x) n
fields_alike x zero = refl
fields_alike x (suc n) = ap (λ (l : List Field). field_of x ∷ l) (fields_alike x n)

pub identifier_shaped : Shaped V5 identifier
identifier_shaped = record { type_fits = omega arith; length_fits = omega arith; short = omega arith; even = refl; none_in_v4 = λ _. refl }

pub empty_seal_shaped : Shaped V5 empty_seal
empty_seal_shaped = record { type_fits = omega arith; length_fits = omega arith; short = omega arith; even = refl; none_in_v4 = λ _. refl }
