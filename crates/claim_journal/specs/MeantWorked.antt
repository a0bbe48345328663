-- What the worked images of the journal hold.
use Rattle.std.specs.Prelude.{List, [], ◌∷◌, ◌++◌, ℕ, replicate}
use Rattle.journal.specs.Meant.{blank_byte, append_store, performed}

-- a read with answer 0, one authenticated item, two untrusted ones and three encrypted fields
abbrev pub a_read : List ℕ
a_read = 0 ∷ 1 ∷ 2 ∷ 3 ∷ []

-- a header whose bytes 5 to 13 read as an entry
abbrev pub a_header : List ℕ
a_header = replicate 5 0 ++ (9 ∷ 0 ∷ 1 ∷ 0 ∷ 7 ∷ 7 ∷ 7 ∷ 7 ∷ 0xA5 ∷ []) ++ replicate 34 0

-- an image of 62 bytes in which the append of this header was cut before its last store
abbrev pub torn : List ℕ
torn = performed 52 (append_store 0 2 a_header) (replicate 62 blank_byte)
