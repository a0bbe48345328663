-- The body of a journal entry about a read. Rules 24 of docs/RULES.md: the number of the answer, then the counts of the
-- authenticated, the untrusted and the encrypted fields, a byte each. The remainder, the cookie and an offset are not kept.
use Rattle.std.specs.Prelude.{Bool, true, not, ◌&&◌, List, [], ◌∷◌, ℕ, ltb, leb, length}
use Rattle.base_answers.specs.Meant.{number_of, ◌⇒◌, first_of}
use Rattle.base_answers.specs.declared.Refusal.TheVariants.{DecryptError as Decrypt, NoRoom, CannotBeMade}
use Rattle.base_store.specs.Meant.{Write, refusing, writing, room_from}
use Rattle.read_packet.specs.declared.Read.{Read}
use Rattle.read_packet.specs.declared.Read.TheVariants.{Accepted, DecryptError, Refused}

-- the four numbers in their order: the answer's, authenticated, untrusted, encrypted
abbrev pub counts_body : ℕ → ℕ → ℕ → ℕ → List ℕ
counts_body number authenticated untrusted encrypted = number ∷ authenticated ∷ untrusted ∷ encrypted ∷ []

-- what a read answered, in four numbers: 0 and 5 have lists, any other refusal none
abbrev pub read_body : Read → List ℕ
read_body (Accepted a u e rest cookie) = counts_body 0 a u e
read_body (DecryptError a u e rest) = counts_body (number_of Decrypt) a u e
read_body (Refused r offset) = counts_body (number_of r) 0 0 0

-- every number fits a byte
abbrev pub are_bytes : List ℕ → Bool
are_bytes [] = true
are_bytes (n ∷ ns) = leb n 255 && are_bytes ns

-- numbers that do not fit a byte each are refused, then a lack of room
unfoldable pub body_write : List ℕ → List ℕ → ℕ → Write
body_write body out at =
    first_of
    (not (are_bytes body) ⇒ refusing CannotBeMade out
    ∷ ltb (room_from (length out) at) (length body) ⇒ refusing NoRoom out
    ∷ [])
    (writing body at out)

abbrev pub counts_write : ℕ → ℕ → ℕ → ℕ → List ℕ → ℕ → Write
counts_write number authenticated untrusted encrypted out at = body_write (counts_body number authenticated untrusted encrypted) out at

abbrev pub read_write : Read → List ℕ → ℕ → Write
read_write answer out at = body_write (read_body answer) out at
