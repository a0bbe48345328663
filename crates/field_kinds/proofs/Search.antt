-- A search in a table of rows: the row at hand has the number, has it not, or no row is left.
use mathlib.Core.Path.{◌≡◌}
use mathlib.Core.List.{List}
use Prim.Native.Nat.{ℕ, suc, ◌+◌, ◌≤◌, ◌<◌}
use native.Mathlib.Omega.{arith}
use borrow.Author.Tests.{eq-eqb, ne_eqb}
use lib.ListN.{length, get_or, drop, drop_of_length-le}
use lib.Seq.{drop-cons}
use Rattle.base_version.specs.declared.Version.{Version}
use Rattle.field_kinds.specs.Meant.{said, lookup}
use Rattle.field_kinds.specs.LawsTable.{no_row}
use Rattle.field_kinds.specs.declared.Kind.TheVariants.{Unknown}
use Rattle.field_kinds.specs.declared.Row.{Row}

module _ (rs : List Row) (i t : ℕ) (v : Version) where
  pub found : i < length rs → (get_or rs i no_row).type_id ≡ t → lookup (drop i rs) t v ≡ said (get_or rs i no_row) v
  found h e = rw (drop-cons rs i no_row h, eq-eqb _ _ e)

  pub missed : i < length rs → ((get_or rs i no_row).type_id ≡ t → ⊥) → lookup (drop i rs) t v ≡ lookup (drop (i + 1) rs) t v
  missed h e =
      let o : i + 1 ≡ suc i = omega arith in
      rw (o, drop-cons rs i no_row h, ne_eqb _ _ e)

  pub none_left : length rs ≤ i → lookup (drop i rs) t v ≡ Unknown
  none_left h = rw (drop_of_length-le rs h)
