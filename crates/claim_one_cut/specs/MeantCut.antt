-- What a cut of a packet is, with the results that a host lends for its sealed fields.
-- Rules 4 to 6 and 8 of docs/RULES.md. Nothing here reads.
use Rattle.std.specs.Prelude.{◌≡◌, List, [], ◌∷◌, ◌++◌, ℕ, suc, ◌+◌, ◌≤◌, ◌<◌, length, take, drop}
use Rattle.base_version.specs.declared.Version.{Version}
use Rattle.read_entries.specs.Meant.{capacity}
use Rattle.read_opening.specs.Meant.{Lent, results, verdict_of, start_of, len_of}
use Rattle.read_packet.specs.Meant.{Input}
use Rattle.layout.specs.Meant.{Field, joined, Shaped, cutoff_of, Begins}
use Rattle.field_contents.specs.Meant.{All, IsSealed, Lawful}
use Rattle.field_sealed.specs.Meant.{Sealing}
use Rattle.base_sizes.specs.Meant.{most_bytes}

-- a field that is not sealed, a sealed field that was not opened, and an opened one with the fields of its plaintext
pub data Item : Type 0 where
  plain : Field → Item
  shut : Field → Item
  opened : Field → List Field → Item

abbrev pub field_of : Item → Field
field_of (plain f) = f
field_of (shut f) = f
field_of (opened f fs) = f

abbrev pub fields_of : List Item → List Field
fields_of [] = []
fields_of (x ∷ xs) = field_of x ∷ fields_of xs

abbrev pub item_bytes : List Item → List ℕ
item_bytes items = joined (fields_of items)

-- how many sealed fields there are; they are numbered from 0
abbrev pub seals_in : List Item → ℕ
seals_in [] = 0
seals_in (plain f ∷ xs) = seals_in xs
seals_in (shut f ∷ xs) = suc (seals_in xs)
seals_in (opened f fs ∷ xs) = suc (seals_in xs)

-- the plaintext that the result of a sealed field gives
abbrev pub plaintext_of : Lent → ℕ → List ℕ
plaintext_of l k = take (len_of l k) (drop (start_of l k) l.plain)

-- a lawful field of a plaintext
pub record Inner (v : Version) (f : Field) : Type 0 where
  pub shaped : Shaped v f
  pub lawful : Lawful v f

-- a plaintext that is cut to its end into lawful fields, none of them sealed
pub record Filled (v : Version) (text : List ℕ) (fs : List Field) : Type 0 where
  pub whole : text ≡ joined fs
  pub each : All (Inner v) fs

-- a sealed field whose result does not say opened
pub record Shut (i : Input) (k : ℕ) (f : Field) : Type 0 where
  pub sealed : IsSealed f
  pub sealing : Sealing f.message
  pub says : verdict_of i.lent k < 2

-- a sealed field whose result says opened, and its plaintext is cut to its end
pub record Opened (i : Input) (k : ℕ) (f : Field) (fs : List Field) : Type 0 where
  pub sealed : IsSealed f
  pub sealing : Sealing f.message
  pub says : 2 ≤ verdict_of i.lent k
  pub filled : Filled i.version (plaintext_of i.lent k) fs

-- contents of an item that has `k` sealed fields before it
abbrev pub Holds : Input → ℕ → Item → Type 0
Holds i k (plain f) = Lawful i.version f
Holds i k (shut f) = Shut i k f
Holds i k (opened f fs) = Opened i k f fs

-- the bytes after the header begin with the items' fields, and each item holds what it must
pub record Led (i : Input) (items : List Item) (left : List ℕ) : Type 0 where
  pub begins : Begins i.version (cutoff_of i.version) (drop i.header_size i.packet) (fields_of items) left
  pub each : (before : List Item) (x : Item) (later : List Item) → items ≡ before ++ (x ∷ later) → Holds i (seals_in before) x

-- the cut: no further field may stand in the rest, so the region is laid out as the items' fields and the rest
pub record Cut (i : Input) (items : List Item) (rest : List ℕ) : Type 0 where
  pub led : Led i items rest
  pub over : length rest ≤ cutoff_of i.version

-- a well-formed result for sealed field number k: lent, with a known verdict, and where it says opened with a plaintext inside the
-- buffer of at most 65,535 bytes
pub record Ready (i : Input) (k : ℕ) : Type 0 where
  pub lent : k < results i.lent
  pub known : verdict_of i.lent k ≤ 3
  pub short : 2 ≤ verdict_of i.lent k → len_of i.lent k ≤ most_bytes
  pub inside : 2 ≤ verdict_of i.lent k → start_of i.lent k + len_of i.lent k ≤ length i.lent.plain

-- one for each sealed field
abbrev pub Supplied : Input → List Item → Type 0
Supplied i items = (k : ℕ) → k < seals_in items → Ready i k

-- the outer items are those that were not opened
abbrev pub outer_count : List Item → ℕ
outer_count [] = 0
outer_count (plain f ∷ xs) = suc (outer_count xs)
outer_count (shut f ∷ xs) = suc (outer_count xs)
outer_count (opened f fs ∷ xs) = outer_count xs

abbrev pub inner_count_of : List Item → ℕ
inner_count_of [] = 0
inner_count_of (plain f ∷ xs) = inner_count_of xs
inner_count_of (shut f ∷ xs) = inner_count_of xs
inner_count_of (opened f fs ∷ xs) = length fs + inner_count_of xs

-- the sizes of rules 1
pub record Within (i : Input) (items : List Item) : Type 0 where
  pub packet : length i.packet ≤ most_bytes
  pub header_size : i.header_size ≤ length i.packet
  pub outer : outer_count items ≤ capacity
  pub inner : inner_count_of items ≤ capacity
