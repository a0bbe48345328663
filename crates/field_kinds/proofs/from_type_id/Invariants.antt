-- The loop keeps: looking through the rows that are left gives what looking through all of them gives.
use Rattle.std.proofs.Common.{◌≡◌, drop}
use Rattle.field_kinds.specs.Meant.{rows, lookup, kind_of}
use Rattle.field_kinds.proofs.from_type_id.Given as goal

abbrev pub invariant-loop-row : goal.invariant-loop-row
invariant-loop-row l =
    kind_of l.type_id l.version ≡ lookup (drop l.row-index rows) l.type_id l.version
