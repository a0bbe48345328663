-- What a survey has to say of a packet: no results, and no contents but the inner lengths of sealed fields. Nothing here reads.
use Rattle.std.specs.Prelude.{Result, Ok, ◌≡◌, List, [], ◌∷◌, ◌++◌, ℕ, ◌+◌, ◌-◌, ◌≤◌, ◌<◌, eqb, length, get_or, take, drop, replicate}
use Rattle.base_answers.specs.Meant.{pick}
use Rattle.base_answers.specs.declared.Refusal.TheVariants.{IncorrectLength, HeaderPastEnd, PacketTooLong, TooManyFields}
use Rattle.base_sizes.specs.Meant.{most_bytes}
use Rattle.base_version.specs.declared.Version.{Version}
use Rattle.field_contents.specs.Meant.{IsSealed}
use Rattle.field_kinds.specs.Meant.{nts_encrypted_field}
use Rattle.field_sealed.specs.Meant.{Sealing}
use Rattle.layout.specs.Meant.{Field, joined, cutoff_of, Front, Begins}
use Rattle.read_entries.specs.Meant.{capacity}
use Rattle.read_packet.specs.Meant.{Input}
use Rattle.read_survey.specs.Model.{seal_of}
use Rattle.read_survey.specs.declared.Seal.{Seal}
use Rattle.read_survey.specs.declared.SurveyFault.{SurveyFault}
use Rattle.read_survey.specs.Meant.{faulty_at}
use Rattle.claim_one_cut.specs.MeantCut.{Item, field_of, item_bytes, seals_in}

-- how many of the fields are sealed
abbrev pub seals_among : List Field → ℕ
seals_among [] = 0
seals_among (f ∷ fs) = pick (eqb f.type nts_encrypted_field) 1 0 + seals_among fs

-- an entry names a sealed field whose bytes start at `at`: all bytes before it, and its nonce and ciphertext by place and length
pub record Names (packet : List ℕ) (at : ℕ) (f : Field) (s : Seal) : Type 0 where
  pub sealing : Sealing f.message
  pub before : s.associated_data_len ≡ at
  pub nonce_place : s.nonce_offset ≡ at + 8
  pub nonce_length : s.nonce_len ≡ length sealing.nonce
  pub nonce : take s.nonce_len (drop s.nonce_offset packet) ≡ sealing.nonce
  pub ciphertext_place : s.ciphertext_offset ≡ at + 8 + length sealing.nonce + length sealing.filler
  pub ciphertext_length : s.ciphertext_len ≡ length sealing.ciphertext
  pub ciphertext : take s.ciphertext_len (drop s.ciphertext_offset packet) ≡ sealing.ciphertext

-- what stands after fields with `n` sealed ones among them, at `offset`, and what is answered to it
pub data Ends (v : Version) (left : List ℕ) (n offset : ℕ) : Result ℕ SurveyFault → Type 0 where
  complete : length left ≤ cutoff_of v → Ends v left n offset (Ok n)
  no_frame : cutoff_of v < length left → ((f : Field) → Front v left f → ⊥) → Ends v left n offset (faulty_at IncorrectLength offset n)
  no_sealing : cutoff_of v < length left → (f : Field) → Front v left f → IsSealed f → (Sealing f.message → ⊥)
      → Ends v left n offset (faulty_at IncorrectLength offset n)
  no_room : cutoff_of v < length left → (f : Field) → Front v left f → IsSealed f → Sealing f.message → n ≡ capacity
      → Ends v left n offset (faulty_at TooManyFields offset n)

-- the fields up to the end or the first fault, and an entry for each sealed one
pub record SurveyLists (packet : List ℕ) (header : ℕ) (v : Version) (r : Result ℕ SurveyFault) (t : List ℕ) : Type 0 where
  pub fields : List Field
  pub left : List ℕ
  pub begins : Begins v (cutoff_of v) (drop header packet) fields left
  pub room : seals_among fields ≤ capacity
  pub ends : Ends v left (seals_among fields) (header + length (joined fields)) r
  pub names : (before : List Field) (f : Field) (later : List Field) → fields ≡ before ++ (f ∷ later) → IsSealed f
      → Names packet (header + length (joined before)) f (seal_of (get_or t (seals_among before) 0))
  pub blank : drop (seals_among fields) t ≡ replicate (capacity - seals_among fields) 0

pub data SurveyTells (packet : List ℕ) (header : ℕ) (v : Version) (r : Result ℕ SurveyFault) (t : List ℕ) : Type 0 where
  long : most_bytes < length packet → r ≡ faulty_at PacketTooLong 0 0 → t ≡ replicate capacity 0 → SurveyTells packet header v r t
  past_end : length packet ≤ most_bytes → length packet < header → r ≡ faulty_at HeaderPastEnd 0 0 → t ≡ replicate capacity 0
      → SurveyTells packet header v r t
  lists : length packet ≤ most_bytes → header ≤ length packet → SurveyLists packet header v r t → SurveyTells packet header v r t

-- what a survey says of a cut: entry k names sealed field k, to which result k belongs
pub record OfCut (i : Input) (items : List Item) (r : Result ℕ SurveyFault) (t : List ℕ) : Type 0 where
  pub answer : r ≡ Ok (seals_in items)
  pub names : (before : List Item) (x : Item) (later : List Item) → items ≡ before ++ (x ∷ later) → IsSealed (field_of x)
      → Names i.packet (i.header_size + length (item_bytes before)) (field_of x) (seal_of (get_or t (seals_in before) 0))

-- a fault of a frame, or of the inner lengths of a sealed field
pub data Framing (v : Version) (left : List ℕ) : Type 0 where
  frame : ((f : Field) → Front v left f → ⊥) → Framing v left
  lengths : (f : Field) → Front v left f → IsSealed f → (Sealing f.message → ⊥) → Framing v left

-- two fields that a survey can't tell apart: one type, messages of one length and, of sealed fields, one pair of inner lengths,
-- which are the first four bytes of the message
pub record Alike (f g : Field) : Type 0 where
  pub type : f.type ≡ g.type
  pub message_length : length f.message ≡ length g.message
  pub inner_lengths : IsSealed f → take 4 f.message ≡ take 4 g.message

abbrev pub AllAlike : List Field → List Field → Type 0
AllAlike [] [] = Unit {0}
AllAlike [] (g ∷ gs) = ⊥
AllAlike (f ∷ fs) [] = ⊥
AllAlike (f ∷ fs) (g ∷ gs) = Alike f g × AllAlike fs gs
