-- A field whose wire length is known is written where there is room for it. Rules 14.3 and 14.7: 16 comes after 18 and 15.
use Rattle.std.specs.Prelude.{List, [], ◌∷◌, ℕ, ltb, length, Result, Ok, Err}
use Rattle.base_answers.specs.Meant.{◌⇒◌, first_of}
use Rattle.base_answers.specs.declared.Refusal.{Refusal}
use Rattle.base_answers.specs.declared.Refusal.TheVariants.{NoRoom}
use Rattle.base_store.specs.Meant.{Write, refusing, writing, room_from}

abbrev pub write_in_room : Result ℕ Refusal → List ℕ → List ℕ → ℕ → Write
write_in_room (Err r) bytes out at = refusing r out
write_in_room (Ok n) bytes out at =
    first_of (ltb (room_from (length out) at) n ⇒ refusing NoRoom out ∷ []) (writing bytes at out)
