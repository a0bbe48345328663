-- Each kind of plan stores its own body.
use Rattle.std.proofs.Common.{◌≡◌, sym}
use Rattle.write_field.specs.declared.Plan.TheVariants.{Field, Request}
use Rattle.base_store.specs.Laws.{nothing_stored}
use Rattle.write_field.specs.Meant.{plan_bytes}
use Rattle.write_field.proofs.put.Goals as goal

pub returns-in-Ok-Field : goal.returns-in-Ok-Field
unfolding plan_bytes
returns-in-Ok-Field c =
    let w = c.in-Ok-Field in
    let planned : w.field-0 ≡ Field w.type_id w.length w.wire_length w.from w.to = rw w.is at w.field-0-is in
    rw (w.is, planned, ← c.part.ensures) c.put_field.ensures

pub returns-in-Ok-Request : goal.returns-in-Ok-Request
unfolding plan_bytes
returns-in-Ok-Request c =
    let w = c.in-Ok-Request in
    let planned : w.field-0 ≡ Request w.length w.wire_length w.offset = rw w.is at w.field-0-is in
    rw (w.is, planned) c.put.ensures

pub returns-in-Err : goal.returns-in-Err
unfolding plan_bytes
returns-in-Err c = rw c.in-Err.is (sym (nothing_stored _ _))
