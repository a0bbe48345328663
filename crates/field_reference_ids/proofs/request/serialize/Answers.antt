-- Each return is a way in which writing a field ends.
use Rattle.std.proofs.Common.{◌≡◌, sym, ◌∙◌, ◌+◌, Ok, arith}
use Rattle.base_big_endian.specs.Meant.{big_endian}
use Rattle.base_big_endian.specs.Laws.{length_big_endian}
use Rattle.field_kinds.specs.Meant.{reference_id_request}
use Rattle.field_bytes.specs.Laws.{length_field}
use Rattle.field_reference_ids.specs.MeantRequest.{request_bytes, request_wire_length, request_write}
use Rattle.field_reference_ids.specs.LawsSizes.{RequestTakes, request_takes}
use Rattle.field_reference_ids.proofs.Written.{field_written}
use Rattle.field_reference_ids.proofs.request.serialize.Goals as goal

pub overflow_add-length : goal.overflow_add-length
overflow_add-length c =
    let sized : RequestTakes c.args.request.payload_len c.in_ok-count.count = request_takes _ _ (sym c.wire_length.ensures ∙ c.in_ok-count.was) in
    omega (arith, sized.short)

pub returns : goal.returns
unfolding request_write
returns c =
    let takes : request_wire_length c.args.request.payload_len ≡ Ok c.in_ok-count.count = sym c.wire_length.ensures ∙ c.in_ok-count.was in
    let t : RequestTakes c.args.request.payload_len c.in_ok-count.count = request_takes _ _ takes in
    let size = length_field reference_id_request (c.args.request.payload_len + 4) (big_endian 2 c.args.request.offset) (c.args.request.payload_len + 4) in
    field_written (request_bytes c.args.request.payload_len c.args.request.offset) c.args.out.now c.args.at takes c.room.ensures
    c.if-room-count.false (omega (arith, t.count)) (omega (arith, t.count, t.some, size, length_big_endian 2 c.args.request.offset))
    (rw t.count at c.put.ensures)
