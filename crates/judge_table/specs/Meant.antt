-- The columns of a table of cuts.
use Rattle.std.specs.Prelude.{List, [], ◌∷◌, ℕ}
use Rattle.judge_table.specs.declared.Cut.{Cut}

abbrev pub offsets_in : List Cut → List ℕ
offsets_in [] = []
offsets_in (c ∷ cs) = c.field_offset ∷ offsets_in cs

abbrev pub wire_lengths_in : List Cut → List ℕ
wire_lengths_in [] = []
wire_lengths_in (c ∷ cs) = c.wire_length ∷ wire_lengths_in cs
