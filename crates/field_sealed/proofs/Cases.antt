-- The cases of `sealed_parts`, in the order of their tests.
use mathlib.Core.Path.{◌≡◌, refl}
use mathlib.Core.Bool.{Bool, true, false}
use mathlib.Core.List.{List}
use Prim.Native.Nat.{ℕ, ◌+◌, ◌≤◌, ◌<◌}
use native.Mathlib.Omega.{arith}
use borrow.Author.Tests.{lt-ltb, le-ltb}
use lib.Dec.{ltb}
use lib.ListN.{length}
use Rattle.base_answers.specs.Meant.{pick}
use Rattle.base_answers.specs.declared.Refusal.TheVariants.{IncorrectLength}
use Rattle.field_sealed.specs.Model.{nonce_length, ciphertext_length, ciphertext_at_of, parts, sealed_parts}
use Rattle.field_sealed.specs.declared.Sealed.{Sealed}
use Rattle.std.specs.Prelude.{Result, Err}
use Rattle.base_answers.specs.declared.Refusal.{Refusal}

-- where two tests refuse alike, it does not matter which of them does
either : (b : Bool) (r : Result Sealed Refusal) → pick b r r ≡ r
either true r = refl
either false r = refl

module _ (message : List ℕ) where
  pub no_lengths : length message < 4 → sealed_parts message ≡ Err IncorrectLength
  unfolding sealed_parts
  no_lengths h = rw (lt-ltb _ _ h)

  -- a nonce past the message leaves its ciphertext past it too
  pub past_the_end : 4 ≤ length message → length message < ciphertext_at_of message + ciphertext_length message
      → sealed_parts message ≡ Err IncorrectLength
  unfolding sealed_parts
  past_the_end h k = rw (le-ltb _ _ h, lt-ltb _ _ k) (either (ltb (length message) (4 + nonce_length message)) (Err IncorrectLength))

  pub both_inside : 4 ≤ length message → ciphertext_at_of message + ciphertext_length message ≤ length message
      → sealed_parts message ≡ parts (nonce_length message) (ciphertext_at_of message) (ciphertext_length message)
  unfolding sealed_parts
  both_inside h k = rw (le-ltb _ _ h, le-ltb (length message) (4 + nonce_length message) (omega arith), le-ltb _ _ k)
