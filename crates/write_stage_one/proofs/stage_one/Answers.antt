-- Each return is a way in which the stage ends.
use Rattle.std.proofs.Common.{◌≡◌, sym, ◌∙◌, Err, rules}
use Rattle.write_field.specs.declared.Place.TheVariants.{Sealed}
use Rattle.write_list.specs.Meant.{Described, described_in, plans_from}
use Rattle.write_list.specs.Laws.{list_kept, list_laid}
use Rattle.write_stage_one.proofs.Staged.{later_refused, both_written}
use Rattle.write_stage_one.proofs.stage_one.Goals as goal

pub returns-in_err-plaintext_len : goal.returns-in_err-plaintext_len
returns-in_err-plaintext_len c =
    let lent : Described = described_in c.args.fields.now in
    let r : c.from_residual-in_err-plaintext_len.result ≡ Err c.in_err-plaintext_len.field-0.0 = search rules in
    let here = rw c.output_end-output_end.ensures at c.if-output_end-at.false in
    let cipher = sym c.needs_cipher.ensures ∙ c.if-needs_cipher.false in
    rw r
    (later_refused lent c.args.version c.args.has_cipher c.args.authenticated c.args.encrypted c.args.out.now c.args.at c.args.plain.now cipher here c.room-output_room.ensures
    (sym c.measure.ensures ∙ c.in_ok-output_len.was)
    (list_kept c.args.fields.now.«data».now (plans_from lent c.args.version Sealed Sealed c.args.encrypted c.args.authenticated) c.args.plain.now 0 c.in_err-plaintext_len.was c.write_list.ensures))

pub returns : goal.returns
returns c =
    let lent : Described = described_in c.args.fields.now in
    let here = rw c.output_end-output_end.ensures at c.if-output_end-at.false in
    let cipher = sym c.needs_cipher.ensures ∙ c.if-needs_cipher.false in
    both_written lent c.args.version c.args.has_cipher c.args.authenticated c.args.encrypted c.args.out.now c.args.at c.args.plain.now cipher here c.room-output_room.ensures
    (sym c.measure.ensures ∙ c.in_ok-output_len.was) c.put_all.ensures
    (list_laid c.args.fields.now.«data».now (plans_from lent c.args.version Sealed Sealed c.args.encrypted c.args.authenticated) c.args.plain.now 0 c.in_ok-plaintext_len.was c.write_list.ensures)
