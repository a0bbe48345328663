-- An entry that is asked for by its number: it is there exactly if so many entries are.
use Rattle.std.specs.Prelude.{◌≡◌, List, ℕ, ◌+◌, ◌≤◌, ◌<◌, length, get_or, take, drop, Some, None}
use Rattle.std.proofs.Common.{ap, ◌∙◌, arith, le-leb, length-take, length-drop, get_or-take, get_or-drop}
use Rattle.std.proofs.lemmas.Bool.{lt-leb}
use Rattle.read_entries.specs.Meant.{slot_of}

pub missing : (es : List ℕ) (i : ℕ) → length es ≤ i → slot_of es i ≡ None
unfolding slot_of
missing es i h = rw (le-leb _ _ h)

pub present : (es : List ℕ) (i : ℕ) → i < length es → slot_of es i ≡ Some (get_or es i 0)
unfolding slot_of
present es i h = rw (lt-leb _ _ h)

-- of the `count` entries from `first` on in a table
module _ (table : List ℕ) (first count i : ℕ) where
  pub past_the_count : count ≤ i → slot_of (take count (drop first table)) i ≡ None
  past_the_count h = missing _ i (omega (arith, length-take count (drop first table)))

  pub past_the_table : length table ≤ first + i → slot_of (take count (drop first table)) i ≡ None
  past_the_table h = missing _ i (omega (arith, length-take count (drop first table), length-drop first table))

  pub there : i < count → first + i < length table → slot_of (take count (drop first table)) i ≡ Some (get_or table (first + i) 0)
  there h k =
      let size : i < length (take count (drop first table)) =
      omega (arith, length-take count (drop first table), length-drop first table) in
      present (take count (drop first table)) i size
      ∙ ap Some (get_or-take count (drop first table) i 0 h ∙ get_or-drop first table i 0)
