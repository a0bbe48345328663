-- What `check` says of the field that was framed: the answer is the frame that is there, so its message lies inside.
use Rattle.std.proofs.Common.{◌≡◌, List, ℕ, Result, Ok, arith}
use Rattle.base_answers.specs.declared.Refusal.{Refusal}
use Rattle.base_version.specs.declared.Version.{Version}
use Rattle.field_frame.specs.declared.Frame.{Frame}
use Rattle.field_frame.specs.Model.{told_of, frame_at}
use Rattle.field_frame.specs.Laws.{FoundFrame, found, answered}
use Rattle.read_step.proofs.check_frame.Goals as goal

here : (v : Version) (region : List ℕ) (at : ℕ) {a : Result Frame Refusal} {f : Frame} → told_of a ≡ told_of (frame_at v region at) → a ≡ Ok f
    → FoundFrame v region at f.type_id f.message_len f.wire_length
here v region at promise is = found v region at (answered v region at promise is)

pub overflow_add-from : goal.overflow_add-from
overflow_add-from c = omega (arith, here c.args.version c.args.region.now c.args.at c.requires c.in-Ok.is)

pub overflow_add-end : goal.overflow_add-end
overflow_add-end c = omega (arith, here c.args.version c.args.region.now c.args.at c.requires c.in-Ok.is)

pub slice_bounds-check-end : goal.slice_bounds-check-end
slice_bounds-check-end c = omega (arith, here c.args.version c.args.region.now c.args.at c.requires c.in-Ok.is)
