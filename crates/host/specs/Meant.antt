-- What crosses to the host, whatever it calls: a version and a truth as numbers, an answer as a row of numbers, and what was lent
-- to write. A host that names another version than 4 and 5 is refused with 11.
use Rattle.std.specs.Prelude.{Bool, not, List, [], ◌∷◌, ℕ, eqb, Option, Some, None, Result, Ok, Err}
use Rattle.base_answers.specs.Meant.{number_of, ◌⇒◌, first_of}
use Rattle.base_answers.specs.declared.Refusal.{Refusal}
use Rattle.base_version.specs.declared.Version.{Version}
use Rattle.base_version.specs.declared.Version.TheVariants.{V4, V5}
use Rattle.base_store.specs.Meant.{Write}
use Rattle.host.specs.declared.NtpLength.{NtpLength}

abbrev pub version_of : ℕ → Option Version
version_of n = first_of (eqb n 4 ⇒ Some V4 ∷ eqb n 5 ⇒ Some V5 ∷ []) None

-- what a known version comes to, and what any other number does
abbrev pub on_version : {A : Type 0} → Option Version → A → (Version → A) → A
on_version None other known = other
on_version (Some v) other known = known v

-- a bool crosses as a number: 0 is false, any other true
abbrev pub is_true : ℕ → Bool
is_true n = not (eqb n 0)

-- a row, and what was lent to write as it is afterwards
pub record Across (Row : Type 0) : Type 0 where
  pub row : Row
  pub lent : List (List ℕ)

abbrev pub leaving : {Row : Type 0} → Row → List ℕ → Across Row
leaving r a = record { row = r; lent = a ∷ [] }

abbrev pub leaving_both : {Row : Type 0} → Row → List ℕ → List ℕ → Across Row
leaving_both r a b = record { row = r; lent = a ∷ b ∷ [] }

-- the row of a writer's answer: 0 and how many bytes it wrote, or the number of a refusal and 0
abbrev pub length_of : Result ℕ Refusal → NtpLength
length_of (Ok n) = record { number = 0; len = n }
length_of (Err r) = record { number = number_of r; len = 0 }

-- what a write comes to for the host
abbrev pub of_write : Write → Across NtpLength
of_write w = leaving (length_of w.answer) w.output
