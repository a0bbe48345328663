-- The two bytes of the body are the offset.
use mathlib.Core.Path.{◌∙◌}
use Rattle.base_store.specs.Laws.{two_bytes}
use Rattle.field_reference_ids.proofs.request.put.Goals as goal

pub returns : goal.returns
returns c = rw (c.put16.ensures ∙ two_bytes _) at c.put_field.ensures
