-- The loop keeps that the pairs which are left, from where the fields so far end, decide; a pair that passes takes at least
-- four bytes, all inside the packet.
use Rattle.std.proofs.Common.{◌≡◌, length, drop}
use Rattle.judge.specs.Model.{are_fields, is_cut}
use Rattle.judge.proofs.is_cut.Given as goal

abbrev pub invariant-loop-field_offset : goal.invariant-loop-field_offset
invariant-loop-field_offset l =
    are_fields l.version l.packet l.at (drop (length l.yielded) l.field_offsets) (drop (length l.yielded) l.wire_lengths)
    ≡ is_cut l.packet l.header_size l.version l.field_offsets l.wire_lengths
