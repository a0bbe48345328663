-- Rules 2 of docs/RULES.md: the number of each answer and the values that it carries.
-- What an accepted answer carries is said where it is defined. Offsets stand beside an answer, not in it.
use Rattle.std.specs.Prelude.{Bool, true, false, List, [], ◌∷◌, ℕ, Result, Ok, Err}
use Rattle.base_answers.specs.declared.Refusal.{Refusal}
use Rattle.base_answers.specs.declared.Refusal.TheVariants.{IncorrectLength, MalformedCookiePlaceholder, MalformedNtsExtensionFields, InvalidDraftIdentification, DecryptError, HeaderPastEnd, PacketTooLong, TooManyFields, NoResult, MalformedResult, InvalidVersion, MalformedMode, MalformedTimescale, InvalidFlags, FieldTooLong, NoRoom, NoCipher, CannotBeMade}

-- what the pump is told: a number of rule 2.1 and the values beside it
pub record Told : Type 0 where
  pub number : ℕ
  pub values : List ℕ

abbrev pub told : ℕ → List ℕ → Told
told n vs = record { number = n; values = vs }

-- 0, with its values
abbrev pub accepted : List ℕ → Told
accepted vs = told 0 vs

-- the number of each refusal
abbrev pub number_of : Refusal → ℕ
number_of IncorrectLength = 1
number_of MalformedCookiePlaceholder = 2
number_of MalformedNtsExtensionFields = 3
number_of InvalidDraftIdentification = 4
number_of DecryptError = 5
number_of HeaderPastEnd = 6
number_of PacketTooLong = 7
number_of TooManyFields = 8
number_of NoResult = 9
number_of MalformedResult = 10
number_of InvalidVersion = 11
number_of MalformedMode = 12
number_of MalformedTimescale = 13
number_of InvalidFlags = 14
number_of FieldTooLong = 15
number_of NoRoom = 16
number_of NoCipher = 17
number_of CannotBeMade = 18

-- a refusal and the values that it carries
abbrev pub refused_with : Refusal → List ℕ → Told
refused_with r vs = told (number_of r) vs

-- a refusal that carries nothing but its number
abbrev pub refused : Refusal → Told
refused r = refused_with r []

-- what an answer tells the pump: 0 with its values, or the refusal
abbrev pub told_by : {A : Type 0} → (A → List ℕ) → Result A Refusal → Told
told_by values (Ok a) = accepted (values a)
told_by values (Err r) = refused r

abbrev pub pick : {A : Type 0} → Bool → A → A → A
pick true a b = a
pick false a b = b

-- a test and the answer that it gives
pub record Case (A : Type 0) : Type 0 where
  pub test : Bool
  pub answer : A

infix 68 ◌⇒◌
abbrev pub ◌⇒◌ : {A : Type 0} → Bool → A → Case A
t ⇒ a = record { test = t; answer = a }

-- the tests in their order: the first that holds decides, and the last answer stands where none does
abbrev pub first_of : {A : Type 0} → List (Case A) → A → A
first_of [] a = a
first_of (c ∷ cs) a = pick c.test c.answer (first_of cs a)
