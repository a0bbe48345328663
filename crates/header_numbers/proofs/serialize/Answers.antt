-- Each return is a case of `numbers_write`.
use Rattle.std.proofs.Common.{sym, ◌∙◌, leb-true, leb-false, arith}
use Rattle.header_numbers.specs.Meant.{total}
use Rattle.header_numbers.specs.Laws.{unpaired, past_end, no_room, all_stored}
use Rattle.header_numbers.proofs.serialize.Goals as goal
use Rattle.header_numbers.proofs.serialize.Goals.{then-out-at-via-then-out-at, then-out-at-via-else-out-at+then-not-fits}

pub returns-then-widths-numbers : goal.returns-then-widths-numbers
returns-then-widths-numbers c = sym (unpaired c.args.widths.now c.args.numbers.now c.args.out.now c.args.at c.if-widths-numbers.true)

pub returns-then-out-at : goal.returns-then-out-at
returns-then-out-at c =
    let ws = c.args.widths.now in
    let vs = c.args.numbers.now in
    let out = c.args.out.now in
    elim c.then-out-at.branch [
      | then-out-at-via-then-out-at w ↦ sym (past_end ws vs out c.args.at c.if-widths-numbers.false w.if-out-at.true)
      | then-out-at-via-else-out-at+then-not-fits w ↦
          sym (no_room ws vs out c.args.at c.if-widths-numbers.false w.if-out-at.false
          (omega (arith, w.room.ensures, leb-false (total ws) w.room.result (sym w.fits.ensures ∙ w.if-not-fits.true))))
    ]

pub returns : goal.returns
returns c =
    all_stored c.args.widths.now c.args.numbers.now c.args.out.now c.args.at c.if-widths-numbers.false c.if-out-at.false
    (omega (arith, c.room.ensures, leb-true (total c.args.widths.now) c.room.result (sym c.fits.ensures ∙ c.if-not-fits.false)))
    c.put_all-end.ensures
