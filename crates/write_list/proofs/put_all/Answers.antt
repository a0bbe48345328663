use Rattle.std.proofs.Common.{◌≡◌, sym, ap, ◌∙◌, List, ℕ, ◌+◌, ◌-◌, ◌<◌, Result, arith}
use Rattle.base_answers.specs.declared.Refusal.{Refusal}
use Rattle.base_store.specs.Model.{stored}
use Rattle.write_field.specs.Meant.{wire_length_of, plan_bytes}
use Rattle.write_field.specs.declared.Plan.{Plan}
use Rattle.write_list.specs.Meant.{Described, described_in, described, plans_from}
use Rattle.write_list.specs.Model.{laid_from}
use Rattle.write_list.proofs.Measured.{place_here, is_described}
use Rattle.write_list.proofs.Stored.{stops_refused, stops_full, one_laid, none_left}
use Rattle.write_list.proofs.put_all.Goals as goal

pub returns-in_default : goal.returns-in_default
returns-in_default c =
    let lent : Described = described_in c.args.fields.now in
    let e = ap wire_length_of (sym c.plan_at-plan.ensures) ∙ sym c.wire_length.ensures ∙ c.in_default.is in
    sym (stops_refused lent c.args.version c.args.each c.args.last (c.args.first + c.loop-i.i) (c.args.count - c.loop-i.i) (omega arith)
    (place_here _ _ _ _ c.loop-i-test.true c.place_of-place.ensures)
    c.loop-i.out c.loop-i.to e)
    ∙ c.loop-i.invariant.2

pub returns-then-room-n : goal.returns-then-room-n
returns-then-room-n c =
    let lent : Described = described_in c.args.fields.now in
    let e = ap wire_length_of (sym c.plan_at-plan.ensures) ∙ sym c.wire_length.ensures ∙ c.in-Ok.is in
    sym (stops_full lent c.args.version c.args.each c.args.last (c.args.first + c.loop-i.i) (c.args.count - c.loop-i.i) (omega arith)
    (place_here _ _ _ _ c.loop-i-test.true c.place_of-place.ensures)
    c.loop-i.out c.loop-i.to e (omega (arith, c.room.ensures, c.if-room-n.true)))
    ∙ c.loop-i.invariant.2

pub loop-i-preserved : goal.loop-i-preserved
loop-i-preserved c =
    let lent : Described = described_in c.args.fields.now in
    let e = ap wire_length_of (sym c.plan_at-plan.ensures) ∙ sym c.wire_length.ensures ∙ c.in-Ok.is in
    let described_here : c.args.first + c.loop-i.i < described lent = is_described lent c.args.version c.place_of-place.result (c.args.first + c.loop-i.i) e in
    let here = ap (λ (p : Result Plan Refusal). stored c.loop-i.out c.loop-i.to (plan_bytes c.args.fields.now.«data».now p)) c.plan_at-plan.ensures in
    let fewer : c.args.count - c.loop-i.i - 1 ≡ c.args.count - (c.loop-i.i + 1) = omega arith in
    let next : c.args.first + c.loop-i.i + 1 ≡ c.args.first + (c.loop-i.i + 1) = omega arith in (
      omega (arith, c.loop-i.invariant.0, c.room.ensures, c.if-room-n.false),
      omega (arith, described_here),
      rw (← fewer, ← next) (ap
          (λ (o : List ℕ). laid_from c.args.fields.now.«data».now
          (plans_from lent c.args.version c.args.each c.args.last (c.args.count - c.loop-i.i - 1) (c.args.first + c.loop-i.i + 1)) o
          (c.loop-i.to + c.in-Ok.n))
          (c.put.ensures ∙ here)
          ∙ sym (one_laid lent c.args.version c.args.each c.args.last (c.args.first + c.loop-i.i) (c.args.count - c.loop-i.i) (omega arith)
          (place_here _ _ _ _ c.loop-i-test.true c.place_of-place.ensures)
          c.loop-i.out c.loop-i.to e (omega (arith, c.room.ensures, c.if-room-n.false)))
          ∙ c.loop-i.invariant.2),
    )

pub returns : goal.returns
returns c =
    let lent : Described = described_in c.args.fields.now in
    let none : c.args.count - c.loop-i.i ≡ 0 = omega (arith, c.loop-i-test.false) in
    sym (none_left lent c.args.version c.args.each c.args.last (c.args.first + c.loop-i.i) (c.args.count - c.loop-i.i) c.loop-i.out c.loop-i.to none)
    ∙ c.loop-i.invariant.2
