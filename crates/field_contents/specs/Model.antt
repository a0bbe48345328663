-- Lawful contents by kind. Rules 5 of docs/RULES.md; RFC 8915, section 5.5, for placeholders; the NTPv5
-- draft for the others. RFC 8915 has a server ignore what a placeholder holds; like ntp-proto this asks for zeros.
-- The contents of a sealed field are its inner lengths, which the crate `field_sealed` defines.
use Rattle.std.specs.Prelude.{Option, Some, None, ◌≡◌, Bool, true, false, List, [], ◌∷◌, ℕ, ◌+◌, ◌*◌, ◌/◌, ◌^◌, leb, ltb, eqb, length}
use Rattle.base_answers.specs.Meant.{pick}
use Rattle.base_answers.specs.declared.Refusal.{Refusal}
use Rattle.base_answers.specs.declared.Refusal.TheVariants.{IncorrectLength, MalformedCookiePlaceholder, InvalidDraftIdentification}
use Rattle.field_contents.specs.declared.Rule.{Rule}
use Rattle.field_contents.specs.declared.Rule.TheVariants.{Any, Zeros, Ascii, Offset, Sealed}
use Rattle.field_contents.specs.Meant.{every, is_ascii}

abbrev pub is_zero : ℕ → Bool
is_zero b = eqb b 0

-- below a limit, as a zero is below 1 and an ASCII byte below 128
abbrev pub below : ℕ → ℕ → Bool
below limit b = ltb b limit

-- a limit that "or" respects
pub record PowerOfTwo (n : ℕ) : Type 0 where
  pub exponent : ℕ
  pub is : n ≡ 2 ^ exponent

-- how many bytes at the front pass a test
abbrev pub ahead : (ℕ → Bool) → List ℕ → ℕ
ahead test [] = 0
ahead test (b ∷ bs) = pick (test b) (1 + ahead test bs) 0

-- how many of them are found in blocks: all of a message that has no others, otherwise those in whole blocks
abbrev pub in_blocks : (ℕ → Bool) → ℕ → List ℕ → ℕ
in_blocks test size m = pick (every test m) (length m) (ahead test m / size * size)

-- the zeros that the scan of a placeholder need not look at
unfoldable pub zero_blocks : List ℕ → ℕ
zero_blocks m = in_blocks is_zero 8 m

-- refused unless a condition holds
abbrev pub unless : Bool → Refusal → Option Refusal
unless true r = None
unless false r = Some r

-- why a message is refused by a rule, if it is
abbrev pub contents_fault : Rule → List ℕ → Option Refusal
contents_fault Any m = None
contents_fault Zeros m = unless (every is_zero m) MalformedCookiePlaceholder
contents_fault Ascii m = unless (every is_ascii m) InvalidDraftIdentification
contents_fault Offset m = unless (leb 2 (length m)) IncorrectLength
contents_fault Sealed m = None
