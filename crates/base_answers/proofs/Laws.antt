-- A number of rule 2.1 belongs to one refusal only, and 0 to none, so a promise about what is told pins the answer.
use Rattle.std.specs.Prelude.{Option, Some, None, ◌≡◌, refl, List, [], ◌∷◌, ℕ, get_or, Result, Ok, Err}
use Rattle.std.proofs.Common.{sym, ap, ◌∙◌, arith}
use Rattle.base_answers.specs.Meant.{Told, told, accepted, number_of, refused, refused_with, told_by}
use Rattle.base_answers.specs.declared.Refusal.{Refusal}
use Rattle.base_answers.specs.declared.Refusal.TheVariants.{IncorrectLength, MalformedCookiePlaceholder, MalformedNtsExtensionFields, InvalidDraftIdentification, DecryptError, HeaderPastEnd, PacketTooLong, TooManyFields, NoResult, MalformedResult, InvalidVersion, MalformedMode, MalformedTimescale, InvalidFlags, FieldTooLong, NoRoom, NoCipher, CannotBeMade}

-- what each number from 0 on tells: nothing was refused, or which refusal it is
meanings : List (Option Refusal)
meanings =
    None
    ∷ Some IncorrectLength
    ∷ Some MalformedCookiePlaceholder
    ∷ Some MalformedNtsExtensionFields
    ∷ Some InvalidDraftIdentification
    ∷ Some DecryptError
    ∷ Some HeaderPastEnd
    ∷ Some PacketTooLong
    ∷ Some TooManyFields
    ∷ Some NoResult
    ∷ Some MalformedResult
    ∷ Some InvalidVersion
    ∷ Some MalformedMode
    ∷ Some MalformedTimescale
    ∷ Some InvalidFlags
    ∷ Some FieldTooLong
    ∷ Some NoRoom
    ∷ Some NoCipher
    ∷ Some CannotBeMade
    ∷ []

-- a refusal is found again by its number
found : (r : Refusal) → get_or meanings (number_of r) None ≡ Some r
unfolding meanings
found IncorrectLength = refl
found MalformedCookiePlaceholder = refl
found MalformedNtsExtensionFields = refl
found InvalidDraftIdentification = refl
found DecryptError = refl
found HeaderPastEnd = refl
found PacketTooLong = refl
found TooManyFields = refl
found NoResult = refl
found MalformedResult = refl
found InvalidVersion = refl
found MalformedMode = refl
found MalformedTimescale = refl
found InvalidFlags = refl
found FieldTooLong = refl
found NoRoom = refl
found NoCipher = refl
found CannotBeMade = refl

-- the refusal that something told names
abbrev refusal_in : Told → Option Refusal
refusal_in t = get_or meanings t.number None

-- two refusals that tell themselves alike are one, whatever they carry
pub same_refusal_with : (r q : Refusal) (vs ws : List ℕ) → refused_with r vs ≡ refused_with q ws → r ≡ q
same_refusal_with r q vs ws e =
    let both : Some r ≡ Some q = sym (found r) ∙ ap refusal_in e ∙ found q in
    cc

pub same_refusal : (r q : Refusal) → refused r ≡ refused q → r ≡ q
same_refusal r q e = same_refusal_with r q [] [] e

-- no refusal is told as accepted
pub not_accepted_with : (r : Refusal) (vs ws : List ℕ) → refused_with r vs ≡ accepted ws → ⊥
unfolding meanings
not_accepted_with r vs ws e =
    let both : Some r ≡ None = sym (found r) ∙ ap refusal_in e in
    let z : ◌≡◌ {A = ℕ} 0 1 = cc in
    omega arith

pub not_accepted : (r : Refusal) (ws : List ℕ) → refused r ≡ accepted ws → ⊥
not_accepted r ws e = not_accepted_with r [] ws e

-- no refusal has the number 0
pub not_zero : (r : Refusal) → number_of r ≡ 0 → ⊥
not_zero r e = not_accepted r [] (ap (λ (n : ℕ). told n []) e)

-- two answers that tell the same are one, if their values are
pub same_told : {A : Type 0} (values : A → List ℕ) → ((a b : A) → values a ≡ values b → a ≡ b)
    → (a b : Result A Refusal) → told_by values a ≡ told_by values b → a ≡ b
same_told values only (Ok a) (Ok b) e = ap Ok (only a b (ap (λ (t : Told). t.values) e))
same_told values only (Ok a) (Err r) e = absurd (not_accepted r (values a) (sym e))
same_told values only (Err r) (Ok b) e = absurd (not_accepted r (values b) e)
same_told values only (Err r) (Err q) e = ap Err (same_refusal r q e)
