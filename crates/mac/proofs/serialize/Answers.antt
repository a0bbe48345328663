-- Each return is a case of `mac_write`.
use mathlib.Core.Path.{◌≡◌, refl, sym, ◌∙◌}
use mathlib.Core.Bool.{true, false}
use Prim.Native.Nat.{◌+◌, ◌<◌}
use native.Mathlib.Omega.{arith}
use borrow.Author.Tests.{lt-ltb}
use lib.ListN.{length}
use Rattle.base_store.specs.Meant.{room_from}
use Rattle.mac.specs.Meant.{is_mac}
use Rattle.mac.specs.LawsLengths.{write_at}
use Rattle.mac.proofs.Cases.{both_stored}
use Rattle.mac.proofs.serialize.Goals as goal

pub returns-then-not-is_mac : goal.returns-then-not-is_mac
returns-then-not-is_mac c =
    let no : is_mac (4 + length c.args.body.now) ≡ false = sym c.is_mac.ensures ∙ c.if-not-is_mac.true in
    sym (write_at c.args.keyid c.args.body.now c.args.out.now c.args.at false _ no refl)

pub returns-then-room-count : goal.returns-then-room-count
returns-then-room-count c =
    let is_mac_law : is_mac (4 + length c.args.body.now) ≡ true = sym c.is_mac.ensures ∙ c.if-not-is_mac.false in
    let short : room_from (length c.args.out.now) c.args.at < 4 + length c.args.body.now = omega arith in
    sym (write_at c.args.keyid c.args.body.now c.args.out.now c.args.at true true is_mac_law (lt-ltb _ _ short))

pub returns : goal.returns
returns c =
    let is_mac_law : is_mac (4 + length c.args.body.now) ≡ true = sym c.is_mac.ensures ∙ c.if-not-is_mac.false in
    both_stored c.args.keyid c.args.body.now c.args.out.now c.args.at is_mac_law (omega arith) refl
    c.put32.ensures c.copy.ensures
