-- What was measured is written, or refused.
use Rattle.std.proofs.Common.{◌≡◌, sym, ◌∙◌, Err, rules}
use Rattle.write_list.specs.Meant.{Described, described_in}
use Rattle.write_list.proofs.Stored.{nothing, refused, all_written}
use Rattle.write_list.proofs.write_list.Goals as goal

pub returns-then-count-eq0 : goal.returns-then-count-eq0
returns-then-count-eq0 c =
    let lent : Described = described_in c.args.fields.now in
    nothing lent c.args.version c.args.each c.args.last c.args.out.now c.args.at c.args.first c.args.count c.if-count-eq0.true

pub returns-in_err-written : goal.returns-in_err-written
returns-in_err-written c =
    let lent : Described = described_in c.args.fields.now in
    let r : c.from_residual.result ≡ Err c.in_err-written.field-0.0 = search rules in
    rw r
    (refused lent c.args.version c.args.each c.args.last c.args.out.now c.args.at c.args.first c.args.count c.room-room.ensures
    (sym c.measure.ensures ∙ c.in_err-written.was))

pub returns : goal.returns
returns c =
    let lent : Described = described_in c.args.fields.now in
    all_written lent c.args.version c.args.each c.args.last c.args.out.now c.args.at c.args.first c.args.count c.room-room.ensures
    (sym c.measure.ensures ∙ c.in_ok-written.was) c.put_all.ensures
