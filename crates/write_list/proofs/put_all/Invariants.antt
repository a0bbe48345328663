-- The loop keeps: storing what is left over the output as it is comes to storing all over the output as it was, the next
-- place is no further than the first or the end of a packet, and the fields so far were described.
use Rattle.std.proofs.Common.{◌≡◌, ◌+◌, ◌-◌, ◌≤◌, max}
use Rattle.write_list.specs.Meant.{described_in, described, plans_from}
use Rattle.write_list.specs.Model.{laid_from}
use Rattle.write_list.proofs.put_all.Given as goal

abbrev pub invariant-loop-i : goal.invariant-loop-i
invariant-loop-i l =
    (l.to ≤ max l.at 65535)
    × (l.first + l.i ≤ max l.first (described (described_in l.fields)))
    × (laid_from l.fields.«data».now
    (plans_from (described_in l.fields) l.version l.each l.last (l.count - l.i) (l.first + l.i)) l.out l.to
    ≡ laid_from l.fields.«data».now (plans_from (described_in l.fields) l.version l.each l.last l.count l.first)
    l.initial.out l.at)
