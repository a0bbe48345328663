use Rattle.std.proofs.Common.{sym, ◌∙◌, arith}
use Rattle.field_reference_ids.specs.LawsSizes.{ResponseTakes, response_takes}
use Rattle.write_field.proofs.response.Goals as goal

pub overflow_add-result : goal.overflow_add-result
overflow_add-result c =
    let t : ResponseTakes c.args.len c.in_ok-wire_length.wire_length = response_takes _ _ (sym c.wire_length.ensures ∙ c.in_ok-wire_length.was) in
    omega (arith, t.short)

pub overflow_cast-result : goal.overflow_cast-result
overflow_cast-result c =
    let t : ResponseTakes c.args.len c.in_ok-wire_length.wire_length = response_takes _ _ (sym c.wire_length.ensures ∙ c.in_ok-wire_length.was) in
    omega (arith, t.short)
