-- What crosses to the host of reference ids: what a request asks for, and how many bytes a response has.
use Rattle.std.specs.Prelude.{ℕ, Result, Ok, Err}
use Rattle.base_answers.specs.Meant.{number_of}
use Rattle.base_answers.specs.declared.Refusal.{Refusal}
use Rattle.field_reference_ids.specs.declared.request.ReferenceIdRequest.{ReferenceIdRequest}
use Rattle.host.specs.Meant.{length_of}
use Rattle.host.specs.declared.NtpLength.{NtpLength}
use Rattle.host_reference_ids.specs.declared.NtpRequest.{NtpRequest}

abbrev pub request_row : Result ReferenceIdRequest Refusal → NtpRequest
request_row (Ok q) = record { number = 0; payload_len = q.payload_len; filter_offset = q.offset }
request_row (Err r) = record { number = number_of r; payload_len = 0; filter_offset = 0 }

-- 0 and how many bytes the response has, or the number of a refusal and 0
abbrev pub response_row : Result ℕ Refusal → NtpLength
response_row = length_of
