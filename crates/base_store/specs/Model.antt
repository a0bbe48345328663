-- A store that does not fit changes nothing.
use Rattle.std.specs.Prelude.{List, ℕ, length}
use Rattle.base_answers.specs.Meant.{pick}
use Rattle.base_sizes.specs.Meant.{is_inside}
use Rattle.base_store.specs.Meant.{overlay}

-- the same, and `out` as it was where the bytes do not fit
unfoldable pub stored : List ℕ → ℕ → List ℕ → List ℕ
stored out at bytes = pick (is_inside at (length bytes) (length out)) (overlay out at bytes) out
