-- Why a packet has no cut, and where: the first fault in the order of rules 3.
-- Nothing here reads: a fault is named by lawful items before it and by what stands where they end.
use Rattle.std.specs.Prelude.{◌≡◌, List, ◌++◌, ℕ, ◌+◌, ◌≤◌, ◌<◌, length}
use Rattle.base_answers.specs.declared.Refusal.{Refusal}
use Rattle.base_answers.specs.declared.Refusal.TheVariants.{IncorrectLength, MalformedCookiePlaceholder, MalformedNtsExtensionFields, InvalidDraftIdentification, HeaderPastEnd, PacketTooLong, TooManyFields, NoResult, MalformedResult}
use Rattle.base_version.specs.declared.Version.{Version}
use Rattle.base_version.specs.declared.Version.TheVariants.{V5}
use Rattle.read_entries.specs.Meant.{capacity}
use Rattle.read_opening.specs.Meant.{results, verdict_of, start_of, len_of}
use Rattle.read_packet.specs.Meant.{Input}
use Rattle.layout.specs.Meant.{cutoff_of, Front, Field, joined}
use Rattle.field_contents.specs.Meant.{All, IsSealed, Lawful}
use Rattle.field_sealed.specs.Meant.{Sealing}
use Rattle.claim_one_cut.specs.MeantCut.{Inner, Item, item_bytes, seals_in, plaintext_of, Led, Supplied, Ready, outer_count, inner_count_of}
use Rattle.field_kinds.specs.Meant.{nts_cookie_placeholder, draft_identification, reference_id_request}
use Rattle.base_sizes.specs.Meant.{most_bytes}

-- a field's own fault: its frame, and then its contents
pub data FieldFault (v : Version) (left : List ℕ) : Refusal → Type 0 where
  no_frame : ((f : Field) → Front v left f → ⊥) → FieldFault v left IncorrectLength
  not_zeros : (f : Field) → Front v left f → f.type ≡ nts_cookie_placeholder → (All (λ (b : ℕ). b ≡ 0) f.message → ⊥)
      → FieldFault v left MalformedCookiePlaceholder
  not_ascii : (f : Field) → Front v left f → v ≡ V5 → f.type ≡ draft_identification → (All (λ (b : ℕ). b < 128) f.message → ⊥)
      → FieldFault v left InvalidDraftIdentification
  no_offset : (f : Field) → Front v left f → v ≡ V5 → f.type ≡ reference_id_request → length f.message < 2
      → FieldFault v left IncorrectLength

-- what stands in a plaintext after lawful fields, with `n` inner fields in the table: a field's own fault, a sealed field, or a
-- lawful one for which there is no room
pub data InnerFault (v : Version) (left : List ℕ) (n : ℕ) : Refusal → Type 0 where
  own : {r : Refusal} → FieldFault v left r → InnerFault v left n r
  sealed_inside : (f : Field) → Front v left f → IsSealed f → InnerFault v left n MalformedNtsExtensionFields
  no_room : (f : Field) → Front v left f → Lawful v f → capacity ≤ n → InnerFault v left n TooManyFields

-- a plaintext with a fault after lawful fields, for which there is room
pub record Spoilt (v : Version) (text : List ℕ) (n : ℕ) (r : Refusal) : Type 0 where
  pub fields : List Field
  pub left : List ℕ
  pub whole : text ≡ joined fields ++ left
  pub each : All (Inner v) fields
  pub room : n + length fields ≤ capacity
  pub some_left : 0 < length left
  pub fault : InnerFault v left (n + length fields) r

-- a result that can't be used
pub data Unusable (i : Input) (k : ℕ) : Type 0 where
  unknown : 3 < verdict_of i.lent k → Unusable i k
  outside : 2 ≤ verdict_of i.lent k → length i.lent.plain < start_of i.lent k + len_of i.lent k → Unusable i k
  too_long : 2 ≤ verdict_of i.lent k → most_bytes < len_of i.lent k → Unusable i k

-- a sealed field's fault, with `k` sealed fields, `n` outer items and `m` inner fields before it: inner lengths, 9, 10, for a
-- failure 8, or its plaintext
pub data SealFault (i : Input) (k n m : ℕ) (f : Field) : Refusal → Type 0 where
  no_sealing : (Sealing f.message → ⊥) → SealFault i k n m f IncorrectLength
  no_result : Sealing f.message → results i.lent ≤ k → SealFault i k n m f NoResult
  unusable : Sealing f.message → k < results i.lent → Unusable i k → SealFault i k n m f MalformedResult
  no_marker : Sealing f.message → k < results i.lent → verdict_of i.lent k < 2 → capacity ≤ n
      → SealFault i k n m f TooManyFields
  within : {r : Refusal} → Sealing f.message → Ready i k → 2 ≤ verdict_of i.lent k
      → Spoilt i.version (plaintext_of i.lent k) m r
      → SealFault i k n m f r

-- what stands in a packet after lawful items
pub data OuterFault (i : Input) (k n m : ℕ) (left : List ℕ) : Refusal → Type 0 where
  own : {r : Refusal} → FieldFault i.version left r → OuterFault i k n m left r
  no_room : (f : Field) → Front i.version left f → Lawful i.version f → capacity ≤ n → OuterFault i k n m left TooManyFields
  seal : {r : Refusal} (f : Field) → Front i.version left f → IsSealed f → SealFault i k n m f r → OuterFault i k n m left r

-- the first fault of a packet: lawful items with their results and with room up to it, and the offset where they end
pub record Stopped (i : Input) (r : Refusal) (offset : ℕ) : Type 0 where
  pub items : List Item
  pub left : List ℕ
  pub led : Led i items left
  pub supplied : Supplied i items
  pub outer : outer_count items ≤ capacity
  pub inner : inner_count_of items ≤ capacity
  pub starts : cutoff_of i.version < length left
  pub fault : OuterFault i (seals_in items) (outer_count items) (inner_count_of items) left r
  pub place : offset ≡ i.header_size + length (item_bytes items)

pub data FirstFault (i : Input) : Refusal → ℕ → Type 0 where
  long : most_bytes < length i.packet → FirstFault i PacketTooLong 0
  past_end : length i.packet ≤ most_bytes → length i.packet < i.header_size → FirstFault i HeaderPastEnd 0
  stopped : {r : Refusal} {offset : ℕ} → length i.packet ≤ most_bytes → i.header_size ≤ length i.packet → Stopped i r offset
      → FirstFault i r offset
