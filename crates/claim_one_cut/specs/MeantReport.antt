-- What has to be reported of a cut: its records with their trust, its messages, and whose cookie.
use Rattle.std.specs.Prelude.{Option, Some, None, ◌≡◌, Bool, true, false, List, [], ◌∷◌, ◌++◌, map, ℕ, ◌+◌, ◌≤◌, eqb, length}
use Rattle.base_answers.specs.Meant.{pick}
use Rattle.base_version.specs.declared.Version.{Version}
use Rattle.field_kinds.specs.Meant.{kind_of}
use Rattle.field_kinds.specs.declared.Kind.TheVariants.{InvalidNtsEncryptedField}
use Rattle.read_opening.specs.Meant.{verdict_of, start_of}
use Rattle.read_packet.specs.Meant.{Input}
use Rattle.read_records.specs.Model.{outer_record}
use Rattle.read_records.specs.declared.Trust.{Trust}
use Rattle.read_records.specs.declared.Trust.TheVariants.{Untrusted, Authenticated, Encrypted}
use Rattle.read_records.specs.declared.Record.{Record}
use Rattle.layout.specs.Meant.{Field, bytes_of}
use Rattle.field_contents.specs.Meant.{IsSealed}
use Rattle.claim_one_cut.specs.MeantCut.{Item, plain, shut, opened, field_of, seals_in, Cut, Supplied, Within}

-- whether one of the items is opened, and whether one is not
abbrev pub opens : List Item → Bool
opens [] = false
opens (plain f ∷ xs) = opens xs
opens (shut f ∷ xs) = opens xs
opens (opened f fs ∷ xs) = true

abbrev pub fails : List Item → Bool
fails [] = false
fails (plain f ∷ xs) = fails xs
fails (shut f ∷ xs) = true
fails (opened f fs ∷ xs) = fails xs

-- the record of a field with its bytes from `at` on
abbrev pub field_record : Version → ℕ → Field → Trust → Record
field_record v at f trust = record {
  kind = kind_of f.type v;
  type_id = f.type;
  field_offset = at;
  message_len = length f.message;
  wire_length = length (bytes_of f);
  trust = trust;
}

-- a marker keeps its sealed field's numbers
abbrev pub marker_record : ℕ → Field → Trust → Record
marker_record at f trust = record {
  kind = InvalidNtsEncryptedField;
  type_id = f.type;
  field_offset = at;
  message_len = length f.message;
  wire_length = length (bytes_of f);
  trust = trust;
}

-- an outer item is authenticated exactly when a later one is opened
abbrev pub trust_before : List Item → Trust
trust_before later = pick (opens later) Authenticated Untrusted

-- the outer records, in wire order: the fields of the cut, less the opened sealed ones
unfoldable pub outer_records : Version → ℕ → List Item → List Record
outer_records v at [] = []
outer_records v at (plain f ∷ xs) = field_record v at f (trust_before xs) ∷ outer_records v (at + length (bytes_of f)) xs
outer_records v at (shut f ∷ xs) = marker_record at f (trust_before xs) ∷ outer_records v (at + length (bytes_of f)) xs
outer_records v at (opened f fs ∷ xs) = outer_records v (at + length (bytes_of f)) xs

-- the records of a plaintext's fields, from a place of the lent buffer on
unfoldable pub plaintext_records : Version → ℕ → List Field → List Record
plaintext_records v at [] = []
plaintext_records v at (f ∷ fs) = field_record v at f Encrypted ∷ plaintext_records v (at + length (bytes_of f)) fs

-- the inner records, in wire order, where `k` sealed fields came before
unfoldable pub inner_records : Input → ℕ → List Item → List Record
inner_records i k [] = []
inner_records i k (plain f ∷ xs) = inner_records i k xs
inner_records i k (shut f ∷ xs) = inner_records i (k + 1) xs
inner_records i k (opened f fs ∷ xs) = plaintext_records i.version (start_of i.lent k) fs ++ inner_records i (k + 1) xs

-- the sealed field whose server cookie is reported, where `k` sealed fields came before: an opened one, after which none is
-- opened, if its result says 3
unfoldable pub cookie_of : Input → ℕ → List Item → Option ℕ
cookie_of i k [] = None
cookie_of i k (plain f ∷ xs) = cookie_of i k xs
cookie_of i k (shut f ∷ xs) = cookie_of i (k + 1) xs
cookie_of i k (opened f fs ∷ xs) = pick (opens xs) (cookie_of i (k + 1) xs) (pick (eqb (verdict_of i.lent k) 3) (Some k) None)

-- the records of the first entries of the outer table: so many authenticated ones, and so many untrusted ones after them
abbrev pub records_of : Version → List ℕ → List ℕ → List Record
records_of v authenticated untrusted =
    map (λ (e : ℕ). outer_record e v Authenticated) authenticated ++ map (λ (e : ℕ). outer_record e v Untrusted) untrusted

-- the bytes after the header can be cut, with a well-formed result for each sealed field, within the sizes
pub record HasCut (i : Input) : Type 0 where
  pub items : List Item
  pub rest : List ℕ
  pub cut : Cut i items rest
  pub supplied : Supplied i items
  pub within : Within i items

-- the messages of the items that are reported, and of the fields of opened ones
abbrev pub outer_messages : List Item → List (List ℕ)
outer_messages [] = []
outer_messages (plain f ∷ xs) = f.message ∷ outer_messages xs
outer_messages (shut f ∷ xs) = f.message ∷ outer_messages xs
outer_messages (opened f fs ∷ xs) = outer_messages xs

abbrev pub field_messages : List Field → List (List ℕ)
field_messages [] = []
field_messages (f ∷ fs) = f.message ∷ field_messages fs

abbrev pub inner_messages : List Item → List (List ℕ)
inner_messages [] = []
inner_messages (plain f ∷ xs) = inner_messages xs
inner_messages (shut f ∷ xs) = inner_messages xs
inner_messages (opened f fs ∷ xs) = field_messages fs ++ inner_messages xs

-- an item that is reported: any but an opened one
abbrev pub Reported : Item → Type 0
Reported (plain f) = Unit {0}
Reported (shut f) = Unit {0}
Reported (opened f fs) = ⊥

-- a sealed field among later items whose result says opened, where `k` sealed fields came before them
pub record OpenedLater (i : Input) (k : ℕ) (later : List Item) : Type 0 where
  pub between : List Item
  pub item : Item
  pub after : List Item
  pub place : later ≡ between ++ (item ∷ after)
  pub sealed : IsSealed (field_of item)
  pub says : 2 ≤ verdict_of i.lent (k + seals_in between)
