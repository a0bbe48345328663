-- The layout rules: a field as it lies on the wire, and a region that is laid out as fields and a rest. Nothing here reads, and
-- frames alone decide: types and messages may be anything.
-- RFC 5905, section 7.5, and RFC 7822, section 3: field type and length, two bytes each, then the value. The NTPv5 draft,
-- section 6: the length counts header and value; padding follows it up to the next multiple of four. In V4 the padding is a part
-- of the value, so that the length is a multiple of four and nothing follows it.
use Rattle.std.specs.Prelude.{◌≡◌, List, [], ◌∷◌, ◌++◌, ℕ, ◌+◌, ◌%◌, ◌≤◌, ◌<◌, length}
use Rattle.base_version.specs.declared.Version.{Version}
use Rattle.base_version.specs.declared.Version.TheVariants.{V4, V5}
use Rattle.base_big_endian.specs.Meant.{big_endian}

pub record Field : Type 0 where
  pub type : ℕ
  pub message : List ℕ
  pub padding : List ℕ

-- the length that a field states
abbrev pub stated : Field → ℕ
stated f = 4 + length f.message

-- the bytes of a field
abbrev pub bytes_of : Field → List ℕ
bytes_of f = big_endian 2 f.type ++ (big_endian 2 (stated f) ++ (f.message ++ f.padding))

abbrev pub joined : List Field → List ℕ
joined [] = []
joined (f ∷ fs) = bytes_of f ++ joined fs

-- type and length fit two bytes; padding fills up to the next multiple of four, and V4 has none
pub record Shaped (v : Version) (f : Field) : Type 0 where
  pub type_fits : f.type < 65536
  pub length_fits : stated f < 65536
  pub short : length f.padding < 4
  pub even : (stated f + length f.padding) % 4 ≡ 0
  pub none_in_v4 : v ≡ V4 → f.padding ≡ []

-- a shaped field stands in front of what is left
pub record Front (v : Version) (left : List ℕ) (f : Field) : Type 0 where
  pub later : List ℕ
  pub shaped : Shaped v f
  pub whole : left ≡ bytes_of f ++ later

-- how many bytes may be left over after the fields of a packet. RFC 7822, section 3: in V4 a MAC of at most 24 bytes may follow
abbrev pub cutoff_of : Version → ℕ
cutoff_of V4 = 24
cutoff_of V5 = 0

-- a field with so many bytes left from its start on: more than may be left over
pub record Stands (v : Version) (cutoff : ℕ) (f : Field) (left : ℕ) : Type 0 where
  pub more : cutoff < left
  pub shaped : Shaped v f

-- a region is fields one after the other, and then what is left
pub record Begins (v : Version) (cutoff : ℕ) (region : List ℕ) (fields : List Field) (left : List ℕ) : Type 0 where
  pub whole : region ≡ joined fields ++ left
  pub each : (before : List Field) (f : Field) (later : List Field) → fields ≡ before ++ (f ∷ later)
      → Stands v cutoff f (length (joined (f ∷ later) ++ left))

-- it is laid out as those fields and a rest: no further field may stand in the rest
pub record LaidOut (v : Version) (cutoff : ℕ) (region : List ℕ) (fields : List Field) (rest : List ℕ) : Type 0 where
  pub begins : Begins v cutoff region fields rest
  pub over : length rest ≤ cutoff
