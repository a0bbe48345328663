-- A request's payload length and offset, read from the bytes of its record.
use Rattle.std.specs.Prelude.{ℕ, List, Result, Err}
use Rattle.base_answers.specs.declared.Refusal.{Refusal}
use Rattle.base_answers.specs.declared.Refusal.TheVariants.{CannotBeMade}
use Rattle.field_contents.specs.Meant.{rule_of}
use Rattle.field_contents.specs.declared.Rule.{Rule}
use Rattle.field_contents.specs.declared.Rule.TheVariants.{Any, Zeros, Ascii, Offset, Sealed}
use Rattle.field_reference_ids.specs.MeantRequest.{request_read}
use Rattle.field_reference_ids.specs.declared.request.ReferenceIdRequest.{ReferenceIdRequest}
use Rattle.read_records.specs.declared.Record.{Record}
use Rattle.read_records.specs.Model.{message_of}

-- payload length and offset of a request's message; a field of another kind has none
abbrev pub request_for : Rule → List ℕ → Result ReferenceIdRequest Refusal
request_for Offset m = request_read m
request_for Any m = Err CannotBeMade
request_for Zeros m = Err CannotBeMade
request_for Ascii m = Err CannotBeMade
request_for Sealed m = Err CannotBeMade

unfoldable pub request_of : List ℕ → List ℕ → Record → Result ReferenceIdRequest Refusal
request_of packet plain r = request_for (rule_of r.kind) (message_of packet plain r)
