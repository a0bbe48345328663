use mathlib.Core.Path.{sym, ◌∙◌}
use Prim.Native.Nat.{◌+◌}
use native.Mathlib.Omega.{arith}
use lib.ListN.{length}
use Rattle.journal.specs.LawsPlans.{body_most, not_stored, past_entry, one_stored, place_in}
use Rattle.journal.proofs.append_store.Goals as goal

pub returns-then-not-is_named : goal.returns-then-not-is_named
returns-then-not-is_named c = not_stored c.args.entry_offset c.args.kind c.args.body.now c.args.index (sym c.is_named.ensures ∙ c.if-not-is_named.true)

pub returns-then-len-index : goal.returns-then-len-index
returns-then-len-index c = past_entry c.args.entry_offset c.args.kind c.args.body.now c.args.index (omega arith)

pub byte_of-requires : goal.byte_of-requires
byte_of-requires c =
    let l =
    body_most c.args.kind (length c.args.body.now) (sym c.is_named.ensures ∙ c.if-not-is_named.false) in
    let o = place_in c.args.index (length c.args.body.now + 5) (omega arith) in
    (omega arith, omega (arith, c.place_of-place.ensures))

pub returns : goal.returns
returns c =
    c.inside.ensures ∙
    one_stored c.args.entry_offset c.args.kind c.args.body.now c.args.index (sym c.is_named.ensures ∙ c.if-not-is_named.false) (omega arith) c.place_of-place.ensures c.byte_of.ensures
