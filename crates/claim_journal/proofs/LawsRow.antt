-- A host makes the body of a read from the row of numbers that reading returned to it: this is the body of the reader's answer.
use Rattle.std.specs.Prelude.{◌≡◌, refl, List, ℕ}
use Rattle.read_packet.specs.declared.Read.{Read}
use Rattle.read_packet.specs.declared.Read.TheVariants.{Accepted, DecryptError, Refused}
use Rattle.journal_body.specs.Meant.{counts_write, read_write}
use Rattle.host_packets.specs.Meant.{read_row}

pub row_of_a_read : (r : Read) (out : List ℕ) (at : ℕ)
    → counts_write (read_row r).number (read_row r).authenticated_count (read_row r).untrusted_count (read_row r).encrypted_count out at
    ≡ read_write r out at
row_of_a_read (Accepted a u e rest cookie) out at = refl
row_of_a_read (DecryptError a u e rest) out at = refl
row_of_a_read (Refused r offset) out at = refl
