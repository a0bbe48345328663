-- Where the whole field fits, its four parts are stored one after the other.
use mathlib.Core.Path.{sym}
use native.Mathlib.Omega.{arith}
use Rattle.base_store.specs.Laws.{not_fitting}
use Rattle.field_bytes.specs.Meant.{field_bytes}
use Rattle.field_bytes.specs.Laws.{length_field, four_stored}
use Rattle.field_bytes.proofs.put_field.Goals as goal

pub returns-then-out-at : goal.returns-then-out-at
returns-then-out-at c =
    let n = length_field c.args.type_id c.args.length c.args.body.now c.args.wire_length in
    sym
    (not_fitting c.args.out.now c.args.at (field_bytes c.args.type_id c.args.length c.args.body.now c.args.wire_length) (omega (arith, n, c)))

pub returns : goal.returns
returns c =
    four_stored c.args.type_id c.args.length c.args.body.now c.args.wire_length c.args.out.now c.args.at c.saturating_sub-zeros.ensures
    (omega (arith, c))
    c.put16.ensures
    c.put16-2.ensures
    c.copy.ensures
    c.fill.ensures
