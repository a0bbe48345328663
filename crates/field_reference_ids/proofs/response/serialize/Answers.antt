-- Each return is a way in which writing a field ends.
use Rattle.std.proofs.Common.{◌≡◌, sym, ◌∙◌, ◌+◌, length, Ok, arith}
use Rattle.base_rounding.specs.Meant.{rounded_up}
use Rattle.field_kinds.specs.Meant.{reference_id_response}
use Rattle.field_bytes.specs.Laws.{length_field}
use Rattle.field_reference_ids.specs.MeantResponse.{response_bytes, response_wire_length, response_write}
use Rattle.field_reference_ids.specs.LawsSizes.{ResponseTakes, response_takes}
use Rattle.field_reference_ids.proofs.Written.{field_written}
use Rattle.field_reference_ids.proofs.response.serialize.Goals as goal

pub overflow_cast-len : goal.overflow_cast-len
overflow_cast-len c =
    let sized : ResponseTakes (length c.args.bytes.now) c.in_ok-count.count = response_takes _ _ (sym c.wire_length.ensures ∙ c.in_ok-count.was) in
    omega (arith, sized.short)

pub returns : goal.returns
unfolding response_write
returns c =
    let takes : response_wire_length (length c.args.bytes.now) ≡ Ok c.in_ok-count.count = sym c.wire_length.ensures ∙ c.in_ok-count.was in
    let t : ResponseTakes (length c.args.bytes.now) c.in_ok-count.count = response_takes _ _ takes in
    let n = length c.args.bytes.now in
    let size = length_field reference_id_response (n + 4) c.args.bytes.now (rounded_up (n + 4)) in
    field_written (response_bytes c.args.bytes.now) c.args.out.now c.args.at takes c.room.ensures
    c.if-room-count.false (omega (arith, t.count)) (omega (arith, t.count, size)) (rw t.count at c.put_field.ensures)
