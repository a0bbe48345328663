-- The judge, step by step: a proposed pair is compared with the frame at the place where the pairs before it end.
use Rattle.std.specs.Prelude.{Bool, false, ◌&&◌, List, [], ◌∷◌, ℕ, ◌+◌, ◌-◌, ltb, leb, eqb, length, Result, Ok, Err}
use Rattle.base_answers.specs.declared.Refusal.{Refusal}
use Rattle.base_sizes.specs.Meant.{most_bytes}
use Rattle.base_version.specs.declared.Version.{Version}
use Rattle.field_frame.specs.Model.{frame_at}
use Rattle.field_frame.specs.declared.Frame.{Frame}
use Rattle.layout.specs.Meant.{cutoff_of}

-- a frame is that of a field which takes so many bytes
abbrev pub takes : ℕ → Result Frame Refusal → Bool
takes n (Ok f) = eqb n f.wire_length
takes n (Err r) = false

-- the field that has to begin at `at` is the proposed one
unfoldable pub is_field : Version → List ℕ → ℕ → ℕ → ℕ → Bool
is_field v p at offset n = ltb (cutoff_of v) (length p - at) && eqb offset at && takes n (frame_at v p at)

-- the fields end at `at`
unfoldable pub is_rest : Version → List ℕ → ℕ → Bool
is_rest v p at = leb at (length p) && leb (length p - at) (cutoff_of v)

-- the pairs are the fields from `at` on
unfoldable pub are_fields : Version → List ℕ → ℕ → List ℕ → List ℕ → Bool
are_fields v p at [] [] = is_rest v p at
are_fields v p at [] (n ∷ ns) = false
are_fields v p at (o ∷ os) [] = false
are_fields v p at (o ∷ os) (n ∷ ns) = is_field v p at o n && are_fields v p (at + n) os ns

unfoldable pub is_cut : List ℕ → ℕ → Version → List ℕ → List ℕ → Bool
is_cut p header v os ns = leb (length p) most_bytes && are_fields v p header os ns
