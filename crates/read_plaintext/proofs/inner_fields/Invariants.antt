-- The loop over fields keeps `Going`: the fields that are left, added to the table as it is, make the reply; each takes at
-- least four bytes, so fewer are left. The scan keeps: the bytes that are left are zeros if all are.
use mathlib.Core.Path.{◌≡◌}
use Prim.Native.Nat.{◌-◌, ◌≤◌}
use lib.ListN.{length, drop}
use Rattle.field_contents.specs.Meant.{every}
use Rattle.field_contents.specs.Model.{is_zero}
use Rattle.read_plaintext.proofs.Going.{Going}
use Rattle.read_plaintext.proofs.inner_fields.Given as goal

abbrev pub invariant-scan : goal.invariant-scan
invariant-scan l =
    (l.j ≤ length l.bytes) × (every is_zero (drop l.j l.bytes) ≡ every is_zero l.bytes)

abbrev pub invariant-fields : goal.invariant-fields
invariant-fields l =
    Going l.version l.plain l.seal l.count l.initial.inner l.inner l.n l.at × (length l.plain ≤ 65535)

abbrev pub decreases-fields : goal.decreases-fields
decreases-fields l =
    length l.plain - l.at
