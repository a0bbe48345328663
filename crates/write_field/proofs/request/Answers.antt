use Rattle.std.proofs.Common.{sym, ◌∙◌, arith}
use Rattle.field_reference_ids.specs.LawsSizes.{RequestTakes, request_takes}
use Rattle.write_field.proofs.request.Goals as goal

pub overflow_cast-result : goal.overflow_cast-result
overflow_cast-result c =
    let t : RequestTakes c.args.payload c.in_ok-wire_length.wire_length = request_takes _ _ (sym c.wire_length.ensures ∙ c.in_ok-wire_length.was) in
    omega (arith, t.count, t.short)
