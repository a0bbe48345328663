use Rattle.std.proofs.Common.{◌≡◌, sym, ◌∙◌, Err, rules, arith}
use Rattle.write_list.specs.Meant.{Described, described_in}
use Rattle.write_stage_two.proofs.Sealed.{others_refused, total_small, alone, others_written}
use Rattle.write_stage_two.proofs.after_sealed.Goals as goal

pub returns-then-untrusted-eq0 : goal.returns-then-untrusted-eq0
returns-then-untrusted-eq0 c =
    let lent : Described = described_in c.args.fields.now in
    alone c.args.nonce.now c.args.ciphertext.now lent c.args.version c.args.untrusted c.args.out.now c.args.at c.args.size c.args.room c.requires.0
    c.requires.1 c.requires.2 c.if-untrusted-eq0.true c.put_sealed.ensures

pub overflow_add-result : goal.overflow_add-result
overflow_add-result c =
    let lent : Described = described_in c.args.fields.now in
    let small =
    total_small c.args.nonce.now c.args.ciphertext.now lent c.args.version c.args.untrusted c.args.out.now c.args.at c.args.size c.args.room c.requires.0
    c.requires.1 c.requires.2 c.in_ok-total.total (sym c.measure.ensures ∙ c.in_ok-total.was) in
    omega (arith, small)

pub returns-in_err-total : goal.returns-in_err-total
returns-in_err-total c =
    let r : c.from_residual.result ≡ Err c.in_err-total.field-0.0 = search rules in
    let lent : Described = described_in c.args.fields.now in
    rw r (others_refused c.args.nonce.now c.args.ciphertext.now lent c.args.version c.args.untrusted c.args.out.now c.args.at c.args.size c.args.room c.requires.0
    c.requires.1 c.requires.2 (sym c.measure.ensures ∙ c.in_err-total.was))

pub returns : goal.returns
returns c =
    let lent : Described = described_in c.args.fields.now in
    others_written c.args.nonce.now c.args.ciphertext.now lent c.args.version c.args.untrusted c.args.out.now c.args.at c.args.size c.args.room c.requires.0
    c.requires.1 c.requires.2 (sym c.measure.ensures ∙ c.in_ok-total.was) c.put_sealed-2.ensures
    c.put_all.ensures
