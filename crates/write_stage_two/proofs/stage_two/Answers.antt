-- Each return is a way in which the stage ends.
use Rattle.std.proofs.Common.{◌≡◌, sym, ◌∙◌, Err, rules}
use Rattle.write_list.specs.Meant.{Described, described_in}
use Rattle.write_stage_two.proofs.Sealed.{no_seal_law, sealed_too, no_room_for_it}
use Rattle.write_stage_two.proofs.stage_two.Goals as goal

pub returns-then-not-has_seal : goal.returns-then-not-has_seal
returns-then-not-has_seal c =
    let lent : Described = described_in c.args.fields.now in
    rw (c.if-not-has_seal.true)
    (c.write_list.ensures ∙ no_seal_law lent c.args.version c.args.nonce.now c.args.ciphertext.now c.args.untrusted c.args.out.now c.args.at (rw c.output_end-end.ensures at c.if-end-at.false))

pub returns-in_err-size : goal.returns-in_err-size
returns-in_err-size c =
    let r : c.from_residual.result ≡ Err c.in_err-size.field-0.0 = search rules in
    let lent : Described = described_in c.args.fields.now in
    rw (r, c.if-not-has_seal.false)
    (no_room_for_it lent c.args.version c.args.nonce.now c.args.ciphertext.now c.args.untrusted c.args.out.now c.args.at (rw c.output_end-end.ensures at c.if-end-at.false) c.room-room.result c.room-room.ensures
    (sym c.sealed_size.ensures ∙ c.in_err-size.was))

pub returns : goal.returns
returns c =
    let lent : Described = described_in c.args.fields.now in
    rw (c.if-not-has_seal.false)
    (c.after_sealed.ensures ∙ sealed_too lent c.args.version c.args.nonce.now c.args.ciphertext.now c.args.untrusted c.args.out.now c.args.at (rw c.output_end-end.ensures at c.if-end-at.false))
