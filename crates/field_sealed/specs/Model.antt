-- The message of a sealed field. Rules 6 of docs/RULES.md; RFC 8915, section 5.6: nonce length and ciphertext length, two
-- bytes each, the nonce, padding of the nonce to a multiple of four, the ciphertext. What follows it is not looked at.
use Rattle.std.specs.Prelude.{List, [], ◌∷◌, ℕ, ◌+◌, ltb, length, Result, Ok, Err}
use Rattle.base_answers.specs.Meant.{Told, told_by, ◌⇒◌, first_of}
use Rattle.base_answers.specs.declared.Refusal.{Refusal}
use Rattle.base_answers.specs.declared.Refusal.TheVariants.{IncorrectLength}
use Rattle.base_rounding.specs.Meant.{rounded_up}
use Rattle.base_big_endian.specs.Meant.{number_at}
use Rattle.field_sealed.specs.declared.Sealed.{Sealed}

-- what an answer tells the pump: 0 with the nonce's length, the ciphertext's place and its length, or the refusal
abbrev pub told_of : Result Sealed Refusal → Told
told_of = told_by (λ s. s.nonce_len ∷ s.ciphertext_start ∷ s.ciphertext_len ∷ [])

-- `n` bytes of nonce, and `c` bytes of ciphertext from `at` on
abbrev pub parts : ℕ → ℕ → ℕ → Result Sealed Refusal
parts n at c = Ok (record { nonce_len = n; ciphertext_start = at; ciphertext_len = c })

-- the two lengths
abbrev pub nonce_length : List ℕ → ℕ
nonce_length message = number_at 2 message 0

abbrev pub ciphertext_length : List ℕ → ℕ
ciphertext_length message = number_at 2 message 2

-- where the ciphertext starts
abbrev pub ciphertext_at_of : List ℕ → ℕ
ciphertext_at_of message = 4 + rounded_up (nonce_length message)

-- the lengths are there, the nonce is inside, the ciphertext is inside
unfoldable pub sealed_parts : List ℕ → Result Sealed Refusal
sealed_parts message =
    first_of
    (ltb (length message) 4 ⇒ Err IncorrectLength
    ∷ ltb (length message) (4 + nonce_length message) ⇒ Err IncorrectLength
    ∷ ltb (length message) (ciphertext_at_of message + ciphertext_length message) ⇒ Err IncorrectLength
    ∷ [])
    (parts (nonce_length message) (ciphertext_at_of message) (ciphertext_length message))
