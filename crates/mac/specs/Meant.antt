-- The message authentication code. Rules 15 of docs/RULES.md, as request (i) amends them; RFC 7822, section 3 (7.5.1.4 of
-- RFC 5905): it stands at the end of a packet and has 24 bytes, 20 bytes, or the 4 bytes of a crypto-NAK. ntp-proto reads
-- every length from 4 to 24 and writes a body of any length.
use Rattle.std.specs.Prelude.{Bool, ◌||◌, not, List, [], ◌∷◌, ◌++◌, ℕ, ◌+◌, ltb, eqb, length, drop, Result, Ok, Err}
use Rattle.base_answers.specs.Meant.{Told, told_by, pick, ◌⇒◌, first_of}
use Rattle.base_answers.specs.declared.Refusal.{Refusal}
use Rattle.base_answers.specs.declared.Refusal.TheVariants.{IncorrectLength, NoRoom, CannotBeMade}
use Rattle.base_big_endian.specs.Meant.{big_endian, number_at}
use Rattle.base_store.specs.Meant.{Write, refusing, writing, room_from}
use Rattle.mac.specs.declared.Mac.{Mac}

-- what an answer tells the pump: 0 with the key id, or the refusal
abbrev pub told_of : Result Mac Refusal → Told
told_of = told_by (λ m. m.keyid ∷ [])

abbrev pub mac_of : ℕ → Mac
mac_of keyid = record { keyid = keyid }

-- a MAC has 4, 20 or 24 bytes
abbrev pub is_mac : ℕ → Bool
is_mac n = eqb n 4 || eqb n 20 || eqb n 24

-- the key id is the first four bytes
unfoldable pub mac_read : List ℕ → Result Mac Refusal
mac_read s = pick (is_mac (length s)) (Ok (mac_of (number_at 4 s 0))) (Err IncorrectLength)

-- the body is the rest
unfoldable pub mac_body : List ℕ → List ℕ
mac_body s = pick (is_mac (length s)) (drop 4 s) []

-- the bytes of a MAC
abbrev pub mac_bytes : ℕ → List ℕ → List ℕ
mac_bytes keyid body = big_endian 4 keyid ++ body

-- a body that would not make a MAC is refused, then want of room
unfoldable pub mac_write : ℕ → List ℕ → List ℕ → ℕ → Write
mac_write keyid body out at =
    first_of
    (not (is_mac (4 + length body)) ⇒ refusing CannotBeMade out
    ∷ ltb (room_from (length out) at) (4 + length body) ⇒ refusing NoRoom out
    ∷ [])
    (writing (mac_bytes keyid body) at out)
