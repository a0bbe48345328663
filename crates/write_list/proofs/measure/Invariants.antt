-- The loop keeps: what is measured and what is left make the whole, and the fields so far were described.
use Rattle.std.proofs.Common.{◌≡◌, ◌+◌, ◌-◌, ◌≤◌, max}
use Rattle.write_list.specs.Meant.{described_in, described, plans_from, plus, measure_of}
use Rattle.write_list.proofs.measure.Given as goal

abbrev pub invariant-loop-i : goal.invariant-loop-i
invariant-loop-i l =
    (l.total ≤ l.room)
    × (l.first + l.i ≤ max l.first (described (described_in l.fields)))
    × (measure_of (plans_from (described_in l.fields) l.version l.each l.last l.count l.first) l.room
    ≡ plus l.total
    (measure_of (plans_from (described_in l.fields) l.version l.each l.last (l.count - l.i) (l.first + l.i))
    (l.room - l.total)))
