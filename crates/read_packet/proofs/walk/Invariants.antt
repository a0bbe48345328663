-- The loop over fields keeps `Going`: what is left to walk, from the lists that the tables hold so far, ends as the whole
-- walk does; each field takes at least four bytes, so fewer are left. The scan keeps: the bytes that are left are zeros if
-- all are.
use mathlib.Core.Path.{◌≡◌}
use Prim.Native.Nat.{◌-◌, ◌≤◌}
use lib.ListN.{length, drop}
use Rattle.field_contents.specs.Meant.{every}
use Rattle.field_contents.specs.Model.{is_zero}
use Rattle.read_opening.specs.Meant.{lent_in}
use Rattle.read_packet.specs.Meant.{input_of}
use Rattle.read_packet.proofs.Going.{Going}
use Rattle.read_packet.proofs.walk.Given as goal

abbrev pub invariant-scan : goal.invariant-scan
invariant-scan l =
    (l.j ≤ length l.bytes) × (every is_zero (drop l.j l.bytes) ≡ every is_zero l.bytes)

abbrev pub invariant-fields : goal.invariant-fields
invariant-fields l =
    Going (input_of l.packet l.header_size l.version (lent_in l.lent)) l.initial.outer l.initial.inner l.outer l.inner l.at l.outer_count l.authenticated l.inner_count l.seals l.failed l.cookie
    × (length l.packet ≤ 65535)

abbrev pub decreases-fields : goal.decreases-fields
decreases-fields l =
    length l.packet - l.at
