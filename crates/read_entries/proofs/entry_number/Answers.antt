use mathlib.Core.Path.{sym}
use native.Mathlib.Omega.{arith}
use Rattle.read_entries.specs.LawsSlots.{past_the_count, past_the_table, there}
use Rattle.read_entries.proofs.entry_number.Goals as goal

pub returns-then-count-index : goal.returns-then-count-index
returns-then-count-index c = sym (past_the_count c.args.table.now c.args.first c.args.count c.args.index c.if-count-index.true)

pub returns-then-first-ge-CAPACITY : goal.returns-then-first-ge-CAPACITY
returns-then-first-ge-CAPACITY c = sym (past_the_table c.args.table.now c.args.first c.args.count c.args.index (omega (arith, c.sized.ensures, c.if-first-ge-CAPACITY.true)))

pub returns-then-first-index : goal.returns-then-first-index
returns-then-first-index c =
    sym
    (past_the_table c.args.table.now c.args.first c.args.count c.args.index
    (omega (arith, c.sized.ensures, c.if-first-ge-CAPACITY.false, c.if-first-index.true)))

pub returns : goal.returns
returns c =
    sym
    (there c.args.table.now c.args.first c.args.count c.args.index c.if-count-index.false
    (omega (arith, c.sized.ensures, c.if-first-ge-CAPACITY.false, c.if-first-index.false)))
