-- What writing a row of numbers comes to.
use Rattle.std.specs.Prelude.{not, List, [], ◌∷◌, ℕ, ltb, eqb, length}
use Rattle.base_answers.specs.Meant.{◌⇒◌, first_of}
use Rattle.base_answers.specs.declared.Refusal.TheVariants.{NoRoom, CannotBeMade}
use Rattle.base_store.specs.Meant.{Write, refusing, writing, room_from}
use Rattle.header_numbers.specs.Meant.{total, number_bytes}

-- a number for each width or 18, then a place inside and room for all or 16
unfoldable pub numbers_write : List ℕ → List ℕ → List ℕ → ℕ → Write
numbers_write ws vs out at =
    first_of
    (not (eqb (length ws) (length vs)) ⇒ refusing CannotBeMade out
    ∷ ltb (length out) at ⇒ refusing NoRoom out
    ∷ ltb (room_from (length out) at) (total ws) ⇒ refusing NoRoom out
    ∷ [])
    (writing (number_bytes ws vs) at out)
