-- What a step says of its place: the field lies inside the region, takes its length rounded up, and more than what is kept
-- was left.
use Rattle.std.specs.Prelude.{Option, Some, None, ◌≡◌, refl, Bool, true, false, List, ℕ, ◌+◌, ◌-◌, ◌≤◌, ◌<◌, leb, length, drop, Result, Ok, Err}
use Rattle.std.proofs.Common.{arith, leb-false, length-drop, length-take-le}
use Rattle.base_answers.specs.Meant.{pick}
use Rattle.base_answers.specs.declared.Refusal.{Refusal}
use Rattle.base_version.specs.declared.Version.{Version}
use Rattle.base_rounding.specs.Meant.{rounded_up}
use Rattle.field_kinds.specs.Meant.{kind_of}
use Rattle.field_frame.specs.Model.{frame_at, message_at}
use Rattle.field_frame.specs.Laws.{FoundFrame, found}
use Rattle.field_frame.specs.declared.Frame.{Frame}
use Rattle.field_contents.specs.Meant.{rule_of}
use Rattle.field_contents.specs.Model.{contents_fault}
use Rattle.field_contents.specs.declared.Rule.{Rule}
use Rattle.field_contents.specs.declared.Rule.TheVariants.{Any, Zeros, Ascii, Offset, Sealed as Seal}
use Rattle.read_step.specs.Model.{or_refused, checked_of, on_frame, step_at}
use Rattle.read_step.specs.declared.Step.{Step}
use Rattle.read_step.specs.declared.Step.TheVariants.{End, Field, Sealed, Refused}

pub record StepWithin (cutoff : ℕ) (region : List ℕ) (at m k : ℕ) : Type 0 where
  pub more : cutoff < length region - at
  pub taken : k ≡ rounded_up (m + 4)
  pub inside : at + k ≤ length region

-- what each step says
abbrev pub Sized : ℕ → List ℕ → ℕ → Step → Type 0
Sized cutoff region at End = Unit
Sized cutoff region at (Field t m k p) = StepWithin cutoff region at m k
Sized cutoff region at (Sealed m k) = StepWithin cutoff region at m k
Sized cutoff region at (Refused r) = Unit

module _ (cutoff : ℕ) (region : List ℕ) (at : ℕ) where
  lawful : (o : Option Refusal) (t m k : ℕ) → StepWithin cutoff region at m k → Sized cutoff region at (or_refused o (Field t m k false))
  lawful None t m k w = w
  lawful (Some r) t m k w = tt

  checked : (rule : Rule) (t : ℕ) (m : List ℕ) (k : ℕ) → StepWithin cutoff region at (length m) k → Sized cutoff region at (checked_of rule t m k)
  unfolding checked_of
  checked Zeros t m k w = w
  checked Seal t m k w = w
  checked Any t m k w = w
  checked Ascii t m k w = lawful (contents_fault Ascii m) t (length m) k w
  checked Offset t m k w = lawful (contents_fault Offset m) t (length m) k w

  message_length : {t m k : ℕ} (v : Version) → FoundFrame v region at t m k → length (message_at region at m) ≡ m
  message_length {t} {m} {k} v f = length-take-le m (drop (at + 4) region) (omega (arith, length-drop (at + 4) region, f))

pub sized : (v : Version) (cutoff : ℕ) (region : List ℕ) (at : ℕ) → Sized cutoff region at (step_at v cutoff region at)
unfolding step_at
sized v cutoff region at = go (leb (length region - at) cutoff) refl (frame_at v region at) refl
  where
    go : (b : Bool) → leb (length region - at) cutoff ≡ b → (f : Result Frame Refusal) → frame_at v region at ≡ f
        → Sized cutoff region at (pick b End (on_frame f (λ t n k. checked_of (rule_of (kind_of t v)) t (message_at region at n) k)))
    go true e f g = tt
    go false e (Err r) g = tt
    go false e (Ok f) g =
        let here = found v region at g in
        let n = message_length cutoff region at v here in
        checked cutoff region at (rule_of (kind_of f.type_id v)) f.type_id (message_at region at f.message_len) f.wire_length
        (rw n (record { more = leb-false _ _ e; taken = here.taken; inside = here.inside }))
