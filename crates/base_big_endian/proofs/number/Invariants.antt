-- The loop keeps: the value so far, gone on with the bytes that are left, is the number; and it fits the bytes taken.
use Rattle.std.proofs.Common.{◌≡◌, ◌+◌, ◌-◌, ◌^◌, ◌<◌, take, drop}
use Rattle.base_big_endian.specs.Meant.{after}
use Rattle.base_big_endian.proofs.number.Given as goal

abbrev pub invariant-loop-i : goal.invariant-loop-i
invariant-loop-i l =
    (l.value < 256 ^ l.i) × (after l.value (take (l.width - l.i) (drop (l.at + l.i) l.s)) ≡ after 0 (take l.width (drop l.at l.s)))
