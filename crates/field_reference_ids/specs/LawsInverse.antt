-- What was written is read: the message of a request's field gives the request back, and that of a response's field its bytes.
use Rattle.std.specs.Prelude.{◌≡◌, refl, List, ◌++◌, ℕ, ◌+◌, ◌-◌, ◌^◌, ◌≤◌, ◌<◌, length, take, drop, replicate, Ok}
use Rattle.std.proofs.Math.Path.{ap}
use Rattle.std.proofs.Common.{◌∙◌, arith, length-append, take_at}
use borrow.Author.Tests.{le-ltb}
use Rattle.std.proofs.lemmas.List.{length-replicate}
use Rattle.base_big_endian.specs.Meant.{big_endian, value, number_at}
use Rattle.base_big_endian.specs.Laws.{length_big_endian, value_big_endian, inside}
use Rattle.field_kinds.specs.Meant.{reference_id_request, reference_id_response}
use Rattle.base_rounding.specs.Meant.{rounded_up}
use Rattle.field_bytes.specs.Laws.{after_header}
use Rattle.field_reference_ids.specs.MeantRequest.{asking, request_read, request_bytes}
use Rattle.field_reference_ids.specs.MeantResponse.{response_bytes}

module _ (payload offset : ℕ) (some : 2 ≤ payload) (short : payload ≤ 65531) (narrow : offset < 256 ^ 2) where
  zeros : List ℕ
  zeros = replicate (payload + 4 - (4 + length (big_endian 2 offset))) 0

  request_message : drop 4 (request_bytes payload offset) ≡ big_endian 2 offset ++ zeros
  unfolding zeros
  request_message = after_header reference_id_request (payload + 4) (big_endian 2 offset) (payload + 4)

  message_length : length (big_endian 2 offset ++ zeros) ≡ payload
  unfolding zeros
  message_length = simp (length-append, length-replicate) (omega (arith, length_big_endian 2 offset))

  pub request_read_written : request_read (drop 4 (request_bytes payload offset)) ≡ Ok (asking payload offset)
  unfolding request_read
  request_read_written =
      let n = message_length in
      let read : number_at 2 (big_endian 2 offset ++ zeros) 0 ≡ offset =
      inside 2 (big_endian 2 offset ++ zeros) 0 (omega (arith, n))
      ∙ ap value (take_at (big_endian 2 offset) zeros 2 (length_big_endian 2 offset))
      ∙ value_big_endian 2 offset narrow in
      rw (request_message, n, le-ltb payload 2 some, le-ltb 65535 payload (omega arith), read)

pub response_read_written : (bytes : List ℕ) → take (length bytes) (drop 4 (response_bytes bytes)) ≡ bytes
response_read_written bytes =
    let k = rounded_up (length bytes + 4) in
    ap (take (length bytes)) (after_header reference_id_response (length bytes + 4) bytes k)
    ∙ take_at bytes (replicate (k - (4 + length bytes)) 0) (length bytes) refl
