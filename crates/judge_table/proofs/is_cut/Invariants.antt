-- The loop keeps: the cuts that are left, judged from where the loop stands, give what the whole table gives.
use Rattle.std.proofs.Common.{◌≡◌}
use Rattle.judge.specs.Model.{is_cut}
use Rattle.judge_table.specs.Meant.{offsets_in, wire_lengths_in}
use Rattle.judge_table.specs.Laws.{are_left}
use Rattle.judge_table.proofs.is_cut.Given as goal

abbrev pub invariant-loop-i : goal.invariant-loop-i
invariant-loop-i l =
    are_left l.version l.packet l.at l.cuts l.i ≡ is_cut l.packet l.header_size l.version (offsets_in l.cuts) (wire_lengths_in l.cuts)
