-- One turn of the judge over a table of cuts: what the cuts from number i on say, once the first of them is looked at.
use Rattle.std.specs.Prelude.{◌≡◌, Bool, true, false, List, ℕ, suc, ◌+◌, ◌≤◌, ◌<◌, length, get_or, drop}
use Rattle.std.proofs.Common.{arith, drop_of_length-le, drop-cons}
use Rattle.base_version.specs.declared.Version.{Version}
use Rattle.judge.specs.Model.{is_field, is_rest, are_fields}
use Rattle.judge.proofs.Laws as judge
use Rattle.judge_table.specs.declared.Cut.{Cut}
use Rattle.judge_table.specs.Meant.{offsets_in, wire_lengths_in}

-- what stands past the end of a table
abbrev pub blank : Cut
blank = record { field_offset = 0; wire_length = 0 }

-- the cuts from number i on are the fields from `at` on
abbrev pub are_left : Version → List ℕ → ℕ → List Cut → ℕ → Bool
are_left v p at cuts i = are_fields v p at (offsets_in (drop i cuts)) (wire_lengths_in (drop i cuts))

module _ (v : Version) (p : List ℕ) (at : ℕ) (cuts : List Cut) (i : ℕ) where
  -- whether cut number i is the field at `at`
  abbrev pub is_next : Bool
  is_next = is_field v p at (get_or cuts i blank).field_offset (get_or cuts i blank).wire_length

  pub on : i < length cuts → is_next ≡ true → are_left v p at cuts i ≡ are_left v p (at + (get_or cuts i blank).wire_length) cuts (i + 1)
  on h e =
      let s : i + 1 ≡ suc i = omega arith in
      let rest : List Cut = drop (suc i) cuts in
      rw (s, drop-cons cuts i blank h) (judge.on v p at _ _ (offsets_in rest) (wire_lengths_in rest) e)

  pub wrong : i < length cuts → is_next ≡ false → are_left v p at cuts i ≡ false
  wrong h e =
      let rest : List Cut = drop (suc i) cuts in
      rw (drop-cons cuts i blank h) (judge.wrong v p at _ _ (offsets_in rest) (wire_lengths_in rest) e)

  pub none_left : length cuts ≤ i → are_left v p at cuts i ≡ is_rest v p at
  none_left h = rw (drop_of_length-le cuts h) (judge.none_left v p at)
