-- The wire length of a sealed field, as the code measures it.
use Rattle.std.specs.Prelude.{[], ◌∷◌, ℕ, ◌+◌, ltb, Result, Ok, Err}
use Rattle.base_answers.specs.Meant.{◌⇒◌, first_of}
use Rattle.base_answers.specs.declared.Refusal.{Refusal}
use Rattle.base_answers.specs.declared.Refusal.TheVariants.{NoRoom}
use Rattle.base_rounding.specs.Meant.{rounded_up}

-- the wire length of a sealed field, with nonce and ciphertext of such lengths, or that there is no room
abbrev pub sealed_measure : ℕ → ℕ → ℕ → Result ℕ Refusal
sealed_measure n c room =
    first_of (ltb room (8 + rounded_up n + rounded_up c) ⇒ Err NoRoom ∷ []) (Ok (8 + rounded_up n + rounded_up c))
