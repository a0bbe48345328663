-- A journal in a flash image: what an entry is, which entries an image holds, and the stores that append an entry or erase a torn tail.
-- Rules 24 of docs/RULES.md; document 02, request (v).
use Rattle.std.specs.Prelude.{◌≡◌, Bool, true, ◌&&◌, ◌||◌, List, [], ◌∷◌, ◌++◌, ℕ, zero, suc, ◌+◌, ◌/◌, ◌%◌, ltb, eqb, length, drop, get_or, set, Option, Some, None, Result}
use Rattle.base_answers.specs.Meant.{Told, told_by, accepted, refused, pick}
use Rattle.base_answers.specs.declared.Refusal.{Refusal}
use Rattle.base_answers.specs.declared.Refusal.TheVariants.{CannotBeMade}
use Rattle.journal.specs.declared.Found.{Found}
use Rattle.journal.specs.declared.Start.{Start}
use Rattle.journal.specs.declared.Store.{Store}
use Rattle.journal.specs.declared.EntryRead.{EntryRead}

-- ---- entries

-- the longest image
abbrev pub longest_image : ℕ
longest_image = 32768

-- what blank flash holds, and how an entry ends
abbrev pub blank_byte : ℕ
blank_byte = 0xFF

abbrev pub end_byte : ℕ
end_byte = 0xA5

-- the `w` low bytes of `n`, the low one first
abbrev pub little_endian : ℕ → ℕ → List ℕ
little_endian zero n = []
little_endian (suc w) n = n % 256 ∷ little_endian w (n / 256)

pub record Entry : Type 0 where
  pub kind : ℕ
  pub body : List ℕ

abbrev pub entry_of : ℕ → List ℕ → Entry
entry_of kind body = record { kind = kind; body = body }

-- Kind 1 is a read, with a body of 4 bytes; kind 2 a header, with 48. No other kind or size is named.
abbrev pub is_named : ℕ → ℕ → Bool
is_named kind bodyLen = eqb kind 1 && eqb bodyLen 4 || eqb kind 2 && eqb bodyLen 48

pub record Named (e : Entry) : Type 0 where
  pub named : is_named e.kind (length e.body) ≡ true

-- the length of an entry: two bytes for it, two for the kind, the body, the end byte
abbrev pub entry_len : Entry → ℕ
entry_len e = length e.body + 5

abbrev pub entry_bytes : Entry → List ℕ
entry_bytes e = little_endian 2 (entry_len e) ++ little_endian 2 e.kind ++ e.body ++ end_byte ∷ []

-- entries, one after the other
abbrev pub entries_bytes : List Entry → List ℕ
entries_bytes [] = []
entries_bytes (e ∷ es) = entry_bytes e ++ entries_bytes es

pub data AllNamed : List Entry → Type 0 where
  none : AllNamed []
  one : {e : Entry} {es : List Entry} → Named e → AllNamed es → AllNamed (e ∷ es)

-- bytes that begin with an entry, whole to its end byte
pub record Begins (s : List ℕ) (e : Entry) : Type 0 where
  pub rest : List ℕ
  pub whole : s ≡ entry_bytes e ++ rest
  pub kind : Named e

-- An image holds these entries, from its first byte on, and then a rest that does not begin with an entry.
pub record Holds (image : List ℕ) (es : List Entry) (rest : List ℕ) : Type 0 where
  pub whole : image ≡ entries_bytes es ++ rest
  pub each : AllNamed es
  pub ends : (e : Entry) → Begins rest e → ⊥

-- how many bytes a rest has up to the last that is not blank: the torn tail
unfoldable pub torn_len_of : List ℕ → ℕ
torn_len_of [] = 0
torn_len_of (b ∷ rest) = pick (eqb (torn_len_of rest) 0) (pick (eqb b blank_byte) 0 1) (suc (torn_len_of rest))

-- ---- stores

abbrev pub store_at : ℕ → ℕ → Store
store_at offset byte = record { offset = offset; byte = byte }

-- a store changes one byte; outside the image it changes nothing
abbrev pub stored : List ℕ → Option Store → List ℕ
stored image (Some x) = set image x.offset x.byte
stored image None = image

-- bytes from `offset` on, one after the other
abbrev pub stores_from : ℕ → List ℕ → List Store
stores_from offset [] = []
stores_from offset (b ∷ bs) = store_at offset b ∷ stores_from (suc offset) bs

-- the stores of an entry at `offset`: kind, body and end byte, then the length, high byte before low
unfoldable pub append_plan : ℕ → Entry → List Store
append_plan offset e =
    stores_from (offset + 2) (drop 2 (entry_bytes e)) ++
    store_at (offset + 1) (get_or (entry_bytes e) 1 0) ∷
    store_at offset (get_or (entry_bytes e) 0 0) ∷ []

-- the stores that erase `n` bytes from `offset` on: from the last byte back
abbrev pub erase_plan : ℕ → ℕ → List Store
erase_plan offset zero = []
erase_plan offset (suc n) = store_at (offset + n) blank_byte ∷ erase_plan offset n

-- a store that lies outside the longest image is none
abbrev pub inside_longest : Store → Option Store
inside_longest x = pick (ltb x.offset longest_image) (Some x) None

-- store number `k` of a plan, from 0 on
abbrev pub kth_store : List Store → ℕ → Option Store
kth_store [] k = None
kth_store (x ∷ xs) zero = inside_longest x
kth_store (x ∷ xs) (suc k) = kth_store xs k

-- store number `k` of an entry at `offset`: there is none if kind or body size is not named
unfoldable pub append_store : ℕ → ℕ → List ℕ → ℕ → Option Store
append_store offset kind body k = pick (is_named kind (length body)) (kth_store (append_plan offset (entry_of kind body)) k) None

-- store number `k` of a recovery
unfoldable pub recovery_store : ℕ → ℕ → ℕ → Option Store
recovery_store offset n k = kth_store (erase_plan offset n) k

-- an image after the first `m` stores of a plan
abbrev pub performed : ℕ → (ℕ → Option Store) → List ℕ → List ℕ
performed zero plan image = image
performed (suc m) plan image = stored (performed m plan image) (plan m)

-- ---- answers

-- how many entries there are, where the next may start, and how many bytes of a torn tail follow
abbrev pub found_at : ℕ → ℕ → ℕ → Found
found_at count next torn = record { entry_count = count; next_offset = next; torn_len = torn }

-- where an entry goes, and how many stores it has
abbrev pub start_at : ℕ → ℕ → Start
start_at offset count = record { entry_offset = offset; store_count = count }

abbrev pub entry_read : ℕ → ℕ → ℕ → EntryRead
entry_read kind offset bodyLen = record { kind = kind; entry_offset = offset; body_len = bodyLen }

-- what each answer tells a host: 0 with its values, or the refusal
abbrev pub found_told : Result Found Refusal → Told
found_told answer = told_by (λ x. x.entry_count ∷ x.next_offset ∷ x.torn_len ∷ []) answer

abbrev pub start_told : Result Start Refusal → Told
start_told answer = told_by (λ x. x.entry_offset ∷ x.store_count ∷ []) answer

-- a store or an entry that is not there is 18
abbrev pub store_told : Option Store → Told
store_told (Some x) = accepted (x.offset ∷ x.byte ∷ [])
store_told None = refused CannotBeMade

abbrev pub entry_told : Option EntryRead → Told
entry_told (Some x) = accepted (x.kind ∷ x.entry_offset ∷ x.body_len ∷ [])
entry_told None = refused CannotBeMade

-- an answer, and the image that a call left
pub record Left (A : Type 0) : Type 0 where
  pub answer : A
  pub image : List ℕ

abbrev pub left : {A : Type 0} → A → List ℕ → Left A
left a s = record { answer = a; image = s }
