-- The next field of a region. Rules 4.6 to 4.9: V4 takes another field while more than 24 bytes remain, V5
-- and opened plaintext while any do; then frame and contents. The bytes of a placeholder and the inner lengths of a sealed
-- field are tested by whoever takes the step.
use Rattle.std.specs.Prelude.{Option, Some, None, true, false, List, [], ◌∷◌, ℕ, ◌-◌, leb, length, Result, Ok, Err}
use Rattle.base_answers.specs.Meant.{◌⇒◌, first_of}
use Rattle.base_answers.specs.declared.Refusal.{Refusal}
use Rattle.base_version.specs.declared.Version.{Version}
use Rattle.field_kinds.specs.Meant.{kind_of}
use Rattle.field_frame.specs.Model.{frame_at, message_at}
use Rattle.field_frame.specs.declared.Frame.{Frame}
use Rattle.field_contents.specs.Meant.{rule_of}
use Rattle.field_contents.specs.Model.{contents_fault}
use Rattle.field_contents.specs.declared.Rule.{Rule}
use Rattle.field_contents.specs.declared.Rule.TheVariants.{Any, Zeros, Ascii, Offset, Sealed as Seal}
use Rattle.read_step.specs.declared.Step.{Step}
use Rattle.read_step.specs.declared.Step.TheVariants.{End, Field, Sealed, Refused}

-- lawful contents, or why not
abbrev pub or_refused : Option Refusal → Step → Step
or_refused None s = s
or_refused (Some r) s = Refused r

-- a field by what its kind asks of the message
unfoldable pub checked_of : Rule → ℕ → List ℕ → ℕ → Step
checked_of Zeros t m k = Field t (length m) k true
checked_of Seal t m k = Sealed (length m) k
checked_of Any t m k = or_refused (contents_fault Any m) (Field t (length m) k false)
checked_of Ascii t m k = or_refused (contents_fault Ascii m) (Field t (length m) k false)
checked_of Offset t m k = or_refused (contents_fault Offset m) (Field t (length m) k false)

abbrev pub on_frame : Result Frame Refusal → (ℕ → ℕ → ℕ → Step) → Step
on_frame (Ok f) on = on f.type_id f.message_len f.wire_length
on_frame (Err r) on = Refused r

-- the field at `at`
abbrev pub field_at : Version → List ℕ → ℕ → Step
field_at v region at = on_frame (frame_at v region at) (λ t n k. checked_of (rule_of (kind_of t v)) t (message_at region at n) k)

-- the field at `at`, where a remainder of up to `cutoff` bytes is left alone
unfoldable pub step_at : Version → ℕ → List ℕ → ℕ → Step
step_at v cutoff region at = first_of (leb (length region - at) cutoff ⇒ End ∷ []) (field_at v region at)
