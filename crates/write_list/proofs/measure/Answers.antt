use Rattle.std.proofs.Common.{◌≡◌, sym, ap, ◌∙◌, ◌+◌, ◌-◌, ◌<◌, ℕ, Result, Err, rules, arith}
use Rattle.base_answers.specs.declared.Refusal.{Refusal}
use Rattle.write_list.specs.Meant.{Described, described_in, described, plans_from, plus, measure_of}
use Rattle.write_list.proofs.Measured.{place_here, is_described, refused_here, no_room_here, one_more, then_more}
use Rattle.write_list.proofs.measure.Goals as goal

pub returns-in_err-n : goal.returns-in_err-n
returns-in_err-n c =
    let lent : Described = described_in c.args.fields.now in
    let r : c.from_residual.result ≡ Err c.in_err-n.field-0.0 = search rules in
    let here =
    refused_here lent c.args.version c.args.each c.args.last (c.args.first + c.loop-i.i) (c.args.count - c.loop-i.i) (c.args.room - c.loop-i.total) (omega arith)
    (place_here _ _ _ _ c.loop-i-test.true c.place_of-place.ensures) (sym c.measure_at.ensures ∙ c.in_err-n.was) in
    r ∙ sym (c.loop-i.invariant.2 ∙ ap (λ (w : Result ℕ Refusal). plus c.loop-i.total w) here)

pub returns-then-room-total : goal.returns-then-room-total
returns-then-room-total c =
    let lent : Described = described_in c.args.fields.now in
    let here =
    no_room_here lent c.args.version c.args.each c.args.last (c.args.first + c.loop-i.i) (c.args.count - c.loop-i.i) (c.args.room - c.loop-i.total) (omega arith)
    (place_here _ _ _ _ c.loop-i-test.true c.place_of-place.ensures) (sym c.measure_at.ensures ∙ c.in_ok-n.was) c.if-room-total.true in
    sym (c.loop-i.invariant.2 ∙ ap (λ (w : Result ℕ Refusal). plus c.loop-i.total w) here)

pub loop-i-preserved : goal.loop-i-preserved
loop-i-preserved c =
    let lent : Described = described_in c.args.fields.now in
    let e = sym c.measure_at.ensures ∙ c.in_ok-n.was in
    let described_here : c.args.first + c.loop-i.i < described lent = is_described lent c.args.version c.place_of-place.result (c.args.first + c.loop-i.i) e in
    let here =
    one_more lent c.args.version c.args.each c.args.last (c.args.first + c.loop-i.i) (c.args.count - c.loop-i.i) (c.args.room - c.loop-i.total) (omega arith)
    (place_here _ _ _ _ c.loop-i-test.true c.place_of-place.ensures) e c.if-room-total.false in
    let left : c.args.room - c.loop-i.total - c.in_ok-n.n ≡ c.args.room - (c.loop-i.total + c.in_ok-n.n) = omega arith in
    let fewer : c.args.count - c.loop-i.i - 1 ≡ c.args.count - (c.loop-i.i + 1) = omega arith in
    let next : c.args.first + c.loop-i.i + 1 ≡ c.args.first + (c.loop-i.i + 1) = omega arith in (
      omega (arith, c.if-room-total.false, c.loop-i.invariant.0),
      omega (arith, described_here),
      rw (← left, ← fewer, ← next)
          (then_more c.loop-i.total c.in_ok-n.n _
          (measure_of (plans_from lent c.args.version c.args.each c.args.last (c.args.count - c.loop-i.i - 1) (c.args.first + c.loop-i.i + 1))
          (c.args.room - c.loop-i.total - c.in_ok-n.n))
          (c.loop-i.invariant.2 ∙ ap (λ (w : Result ℕ Refusal). plus c.loop-i.total w) here)),
    )

pub returns : goal.returns
unfolding plans_from measure_of
returns c =
    let none_left : c.args.count - c.loop-i.i ≡ 0 = omega (arith, c.loop-i-test.false) in
    let e : c.loop-i.total + 0 ≡ c.loop-i.total = omega arith in
    sym (rw (none_left, e) at c.loop-i.invariant.2)
