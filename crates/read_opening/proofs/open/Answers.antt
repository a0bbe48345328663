-- Each return is the case of `outcome_of` that its matches led to.
use Rattle.std.proofs.Common.{◌≡◌, sym, ap, ◌∙◌, List, ℕ, ◌-◌, take, drop, Result, Option, Ok, Err, Some, add-zero, arith}
use Rattle.std.proofs.lemmas.Result.{err_from_is_err_and}
use Rattle.base_answers.specs.declared.Refusal.{Refusal}
use Rattle.field_sealed.specs.Model.{told_of, sealed_parts}
use Rattle.field_sealed.proofs.LawsOnly.{same_answer}
use Rattle.field_sealed.specs.declared.Sealed.{Sealed}
use Rattle.read_plaintext.specs.Laws.{says_fields, says_refused}
use Rattle.read_opening.specs.Meant.{Lent, lent_in}
use Rattle.read_opening.specs.Model.{result_of, outcome_of, opening_of}
use Rattle.read_opening.specs.declared.Plaintext.{Plaintext}
use Rattle.read_opening.proofs.Cases.{Inside, lies_inside}
use Rattle.read_opening.proofs.open.Goals as goal

-- the answer about the inner lengths is what they say
parted : (message : List ℕ) {a b : Result Sealed Refusal} → told_of a ≡ told_of (sealed_parts message) → a ≡ b → sealed_parts message ≡ b
parted message {a} promise is = sym (same_answer a (sealed_parts message) promise) ∙ is

-- the plaintext that a result gives lies inside the buffer
placed : (l : Lent) (k : ℕ) {r : Result (Option Plaintext) Refusal} {p : Plaintext} → r ≡ result_of l k → r ≡ Ok (Some p) → Inside l p.start p.end
placed l k promise is = lies_inside l k (sym promise ∙ is)

pub returns-in-Err : goal.returns-in-Err
unfolding opening_of outcome_of
returns-in-Err c = rw (parted c.args.message.now c.from_message_bytes.ensures c.in-Err.is, add-zero)

pub slice_bounds-part-count : goal.slice_bounds-part-count
slice_bounds-part-count c =
    (placed (lent_in c.args.lent.now) c.args.seal c.lent_result.ensures (rw c.in-Ok-Some.field-0-is at c.in-Ok-Some.is)).ordered

pub slice_bounds-part-start : goal.slice_bounds-part-start
slice_bounds-part-start c =
    omega (arith, placed (lent_in c.args.lent.now) c.args.seal c.lent_result.ensures (rw c.in-Ok-Some.field-0-is at c.in-Ok-Some.is))

pub slice_bounds-part-end : goal.slice_bounds-part-end
slice_bounds-part-end c =
    omega (arith, placed (lent_in c.args.lent.now) c.args.seal c.lent_result.ensures (rw c.in-Ok-Some.field-0-is at c.in-Ok-Some.is))

pub returns-in-Ok-None : goal.returns-in-Ok-None
unfolding opening_of outcome_of
returns-in-Ok-None c =
    rw (parted c.args.message.now c.from_message_bytes.ensures c.in_default.is, sym c.lent_result.ensures ∙ c.in-Ok-None.is, c.in-Ok-None.field-0-is)

pub returns-in-Err-lent_result : goal.returns-in-Err-lent_result
unfolding opening_of outcome_of
returns-in-Err-lent_result c =
    rw (parted c.args.message.now c.from_message_bytes.ensures c.in_default.is, sym c.lent_result.ensures ∙ c.in-Err-lent_result.is, add-zero)

pub returns-in_ok-inner_count-in-Ok-Some : goal.returns-in_ok-inner_count-in-Ok-Some
unfolding opening_of outcome_of
returns-in_ok-inner_count-in-Ok-Some c =
    let part = take (c.in-Ok-Some.place.end - c.in-Ok-Some.place.start) (drop c.in-Ok-Some.place.start c.args.lent.now.plain.now) in
    let said = says_fields c.args.version part c.args.seal c.args.inner.now c.args.count (c.in_ok-inner_count-in-Ok-Some.was) c.inner_fields.ensures in
    rw (
      parted c.args.message.now c.from_message_bytes.ensures c.in_default.is,
      sym c.lent_result.ensures ∙ c.in-Ok-Some.is,
      c.in-Ok-Some.field-0-is,
      said.fault,
      ← said.count,
      ← said.table,
    )

pub returns-in_err-inner_count-in-Ok-Some : goal.returns-in_err-inner_count-in-Ok-Some
unfolding opening_of outcome_of
returns-in_err-inner_count-in-Ok-Some c =
    let part = take (c.in-Ok-Some.place.end - c.in-Ok-Some.place.start) (drop c.in-Ok-Some.place.start c.args.lent.now.plain.now) in
    let said = says_refused c.args.version part c.args.seal c.args.inner.now c.args.count (c.in_err-inner_count-in-Ok-Some.was) c.inner_fields.ensures in
    let up = err_from_is_err_and c.from_residual.result c.from_residual.ensures.1 in
    rw (
      up.1 ∙ ap Err up.2,
      parted c.args.message.now c.from_message_bytes.ensures c.in_default.is,
      sym c.lent_result.ensures ∙ c.in-Ok-Some.is,
      c.in-Ok-Some.field-0-is,
      said.fault,
      ← said.count,
      ← said.table,
    )
