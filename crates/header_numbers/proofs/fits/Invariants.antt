-- The loop keeps: the widths that are left fit what is left exactly where all fit the room.
use Rattle.std.proofs.Common.{◌≡◌, ◌+◌, drop}
use Rattle.header_numbers.specs.Meant.{total}
use Rattle.header_numbers.proofs.fits.Given as goal

abbrev pub invariant-loop-width : goal.invariant-loop-width
invariant-loop-width l = l.room + total (drop l.width-index l.widths) ≡ l.left + total l.widths
