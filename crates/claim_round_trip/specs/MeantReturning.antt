-- Under which conditions what was written reads back, and as which cut.
use Rattle.std.specs.Prelude.{◌≡◌, Bool, true, false, List, [], ◌∷◌, ℕ, zero, suc, ◌+◌, ◌≤◌, ◌<◌, ◌%◌, length, get_or}
use Rattle.base_answers.specs.Meant.{pick}
use Rattle.base_version.specs.declared.Version.TheVariants.{V4, V5}
use Rattle.write_field.specs.Meant.{to_write_of}
use Rattle.write_field.specs.declared.ToWrite.{ToWrite}
use Rattle.write_field.specs.declared.ToWrite.TheVariants.{Unknown, UniqueIdentifier, NtsCookie, NtsCookiePlaceholder, DraftIdentification, Padding, ReferenceIdRequest, ReferenceIdResponse, Marker}
use Rattle.write_list.specs.Meant.{Described}
use Rattle.write_stage_two.specs.Meant.{sealed_bytes}
use Rattle.layout.specs.Meant.{Field, bytes_of}
use Rattle.claim_one_cut.specs.MeantCut.{Item, opened, plain, field_of, Ready, plaintext_of, Cut, Supplied, Within}
use Rattle.claim_round_trip.specs.MeantWire.{seal_field, wires}
use Rattle.base_version.specs.declared.Version.{Version}
use Rattle.read_opening.specs.Meant.{verdict_of}
use Rattle.read_packet.specs.Meant.{Input}
use Rattle.claim_round_trip.specs.MeantSerialize.{has_seal_of, authenticated_plans, encrypted_plans}
use Rattle.field_kinds.specs.Meant.{nts_encrypted_field, nts_cookie_placeholder, draft_identification, reference_id_request}
use Rattle.read_entries.specs.Meant.{capacity}
use Rattle.write_stage_two.specs.Meant.{untrusted_plans}

-- a kind that obeys the minimum size
abbrev pub ObeysMinimum : ToWrite → Type 0
ObeysMinimum Unknown = Unit {0}
ObeysMinimum UniqueIdentifier = Unit {0}
ObeysMinimum NtsCookie = Unit {0}
ObeysMinimum NtsCookiePlaceholder = Unit {0}
ObeysMinimum DraftIdentification = Unit {0}
ObeysMinimum Padding = Unit {0}
ObeysMinimum ReferenceIdRequest = ⊥
ObeysMinimum ReferenceIdResponse = ⊥
ObeysMinimum Marker = Unit {0}

-- the last field that is written: `u` untrusted ones, or the sealed field
abbrev pub EndsLong : Described → ℕ → Bool → List ℕ → List ℕ → Type 0
EndsLong d zero true nonce ciphertext = 24 < length (sealed_bytes nonce ciphertext)
EndsLong d zero false nonce ciphertext = Unit {0}
EndsLong d (suc n) seal nonce ciphertext = ObeysMinimum (to_write_of (get_or d.kinds n 0))

-- fields that are not sealed, with items after them
abbrev pub plains_then : List Field → List Item → List Item
plains_then [] xs = xs
plains_then (f ∷ fs) xs = plain f ∷ plains_then fs xs

-- the authenticated fields, the sealed field with those of its plaintext, and the untrusted fields; without a sealed field only
-- the untrusted ones
abbrev pub sent_items : Bool → List ℕ → List ℕ → List Field → List Field → List Field → List Item
sent_items seal nonce ciphertext authenticated encrypted untrusted =
    pick seal (plains_then authenticated (opened (seal_field nonce ciphertext) encrypted ∷ plains_then untrusted []))
    (plains_then untrusted [])

-- RFC 7822, section 3: in V4 what ends a packet is a field where it has more than 24 bytes, which is no MAC's length
abbrev pub Ends : Version → List Item → Type 0
Ends V5 xs = Unit {0}
Ends V4 [] = Unit {0}
Ends V4 (x ∷ []) = 24 < length (bytes_of (field_of x))
Ends V4 (x ∷ (y ∷ ys)) = Ends V4 (y ∷ ys)

-- the host opened the sealed field: its result is well formed, says so, and gives the plaintext that was sealed
pub record OpenedAgain (i : Input) (text : List ℕ) : Type 0 where
  pub ready : Ready i 0
  pub says : 2 ≤ verdict_of i.lent 0
  pub same : plaintext_of i.lent 0 ≡ text

-- a type whose messages may be anything in a version
pub record Free (v : Version) (t : ℕ) : Type 0 where
  pub fits : t < 65536
  pub not_sealed : t ≡ nts_encrypted_field → ⊥
  pub not_placeholder : t ≡ nts_cookie_placeholder → ⊥
  pub not_draft : v ≡ V5 → t ≡ draft_identification → ⊥
  pub not_request : v ≡ V5 → t ≡ reference_id_request → ⊥

-- the fields that are read back: kind, number and length of the data
abbrev pub Returns : Version → ToWrite → ℕ → ℕ → Type 0
Returns v Unknown number len = Free v number
Returns v UniqueIdentifier number len = Unit {0}
Returns v NtsCookie number len = Unit {0}
Returns v NtsCookiePlaceholder number len = Unit {0}
Returns v DraftIdentification number len = Unit {0}
Returns v Padding number len = Unit {0}
Returns v ReferenceIdRequest number len = Unit {0}
Returns V4 ReferenceIdResponse number len = len % 4 ≡ 0
Returns V5 ReferenceIdResponse number len = Unit {0}
Returns v Marker number len = Unit {0}

-- so many described fields from number `k` on are read back
abbrev pub AllReturn : Described → Version → ℕ → ℕ → Type 0
AllReturn d v zero k = Unit {0}
AllReturn d v (suc n) k =
    Returns v (to_write_of (get_or d.kinds k 0)) (get_or d.numbers k 0) (get_or d.lens k 0) × AllReturn d v n (k + 1)

-- the fields of the three lists, as they lie on the wire: `a` authenticated and `e` encrypted ones of stage one, `u` untrusted ones
-- of stage two
abbrev pub authenticated_fields : Described → Version → ℕ → List Field
authenticated_fields d v a = wires d.bytes (authenticated_plans d v a)

abbrev pub encrypted_fields : Described → Version → ℕ → ℕ → List Field
encrypted_fields d v a e = wires d.bytes (encrypted_plans d v a e)

abbrev pub untrusted_fields : Described → Version → ℕ → List Field
untrusted_fields d v u = wires d.bytes (untrusted_plans d v u)

-- the conditions, where `i` is what the reader is given and `text` the plaintext of stage one
pub record Returning (d : Described) (a e : ℕ) (d' : Described) (u : ℕ) (nonce ciphertext : List ℕ) (i : Input) (text : List ℕ) : Type 0 where
  pub first : AllReturn d i.version a 0
  pub inside : AllReturn d i.version e a
  pub last : AllReturn d' i.version u 0
  pub ends : Ends i.version
      (sent_items (has_seal_of a e) nonce ciphertext (authenticated_fields d i.version a) (encrypted_fields d i.version a e)
      (untrusted_fields d' i.version u))
  pub outer : a + u ≤ capacity
  pub inner : e ≤ capacity
  pub again : has_seal_of a e ≡ true → OpenedAgain i text

-- a packet has the cut with these items and nothing left over; demand 3 says what the reader then reports
pub record ReadsBack (i : Input) (items : List Item) : Type 0 where
  pub cut : Cut i items []
  pub supplied : Supplied i items
  pub within : Within i items
