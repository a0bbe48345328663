-- What a host gets of the fields of a cut, list by list and item by item, by the counts that reading returned. The trust of a field is
-- the type of what comes back (rules 9, 11 and 20). Nothing here reads: the replies may be anything.
use Rattle.std.specs.Prelude.{◌≡◌, List, [], ◌∷◌, ◌++◌, ◌↔◌, ℕ, ◌+◌, ◌-◌, ◌≤◌, ◌<◌, length, get_or, take, drop}
use Rattle.base_answers.specs.declared.Refusal.TheVariants.{CannotBeMade}
use Rattle.base_version.specs.declared.Version.{Version}
use Rattle.field_kinds.specs.Meant.{kind_of}
use Rattle.field_kinds.specs.declared.Kind.{Kind}
use Rattle.field_kinds.specs.declared.Kind.TheVariants.{InvalidNtsEncryptedField}
use Rattle.layout.specs.Meant.{bytes_of}
use Rattle.read_packet.specs.Meant.{Input}
use Rattle.read_packet.specs.declared.Read.{Read}
use Rattle.read_records.specs.declared.Record.{Record}
use Rattle.read_records.specs.declared.Trust.{Trust}
use Rattle.read_records.specs.declared.Trust.TheVariants.{Untrusted, Authenticated, Encrypted}
use Rattle.claim_one_cut.specs.MeantCut.{Item, plain, shut, opened, field_of, item_bytes, seals_in, outer_count, inner_count_of}
use Rattle.claim_one_cut.specs.MeantReport.{outer_records, inner_records, Reported, outer_messages, inner_messages, OpenedLater}
use Rattle.claim_demand.specs.Meant.{authenticated_in, untrusted_in}
use Rattle.host_packets.specs.Meant.{read_row}
use Rattle.host_fields.specs.Meant.{kind_number, no_field, authenticated_across, untrusted_across, encrypted_across}
use Rattle.host_fields.specs.declared.NtpField.{NtpField}
use Rattle.host_fields.specs.declared.NtpAuthenticatedField.{NtpAuthenticatedField}
use Rattle.host_fields.specs.declared.NtpUntrustedField.{NtpUntrustedField}
use Rattle.host_fields.specs.declared.NtpEncryptedField.{NtpEncryptedField}

-- the row of a record: its message follows the four bytes of type and length
abbrev pub row_of : Record → NtpField
row_of r = record {
  number = 0;
  kind = kind_number r.kind;
  type_id = r.type_id;
  field_offset = r.field_offset;
  wire_length = r.wire_length;
  message_offset = r.field_offset + 4;
  message_len = r.message_len;
}

-- the bytes at the place that a row gives
abbrev pub bytes_at : NtpField → List ℕ → List ℕ
bytes_at row buffer = take row.message_len (drop row.message_offset buffer)

-- the rows of one list of `count` fields: each is the row of its record, which has this trust, and its message stands at the place that
-- the row gives; from the count on a row says 18 and nothing else
pub record ListTells (row : ℕ → NtpField) (count : ℕ) (records : List Record) (trust : Trust) (messages : List (List ℕ))
    (buffer : List ℕ) : Type 0 where
  pub row_is : (k : ℕ) → k < count → (none_there : Record) → row k ≡ row_of (get_or records k none_there)
  pub trust_is : (k : ℕ) → k < count → (none_there : Record) → (get_or records k none_there).trust ≡ trust
  pub bytes_are : (k : ℕ) → k < count → (none_there : List ℕ) → bytes_at (row k) buffer ≡ get_or messages k none_there
  pub no_more : (k : ℕ) → count ≤ k → row k ≡ no_field CannotBeMade

-- the kind of an item: a sealed field that was not opened is a marker
abbrev pub kind_in : Version → Item → Kind
kind_in v (plain f) = kind_of f.type v
kind_in v (shut f) = InvalidNtsEncryptedField
kind_in v (opened f fs) = kind_of f.type v

-- an item whose bytes start at `at` comes back in a row
pub record ComesBack (i : Input) (at : ℕ) (x : Item) (row : NtpField) : Type 0 where
  pub number : row.number ≡ 0
  pub kind : row.kind ≡ kind_number (kind_in i.version x)
  pub type : row.type_id ≡ (field_of x).type
  pub place : row.field_offset ≡ at
  pub wire_length : row.wire_length ≡ length (bytes_of (field_of x))
  pub message_place : row.message_offset ≡ at + 4
  pub message_length : row.message_len ≡ length (field_of x).message
  pub message : bytes_at row i.packet ≡ (field_of x).message

-- the replies to a host that asks for field k of each list
pub record Replies : Type 0 where
  pub authenticated : ℕ → NtpAuthenticatedField
  pub untrusted : ℕ → NtpUntrustedField
  pub encrypted : ℕ → NtpEncryptedField

-- what a host gets of an item: an authenticated field exactly when the result lent for a later sealed field says opened, and otherwise
-- an untrusted one. Its number is how many reported items come before it, less the authenticated ones for an untrusted field
pub record ItemTells (i : Input) (items : List Item) (host : Replies) (before : List Item) (x : Item) (later : List Item) : Type 0 where
  pub exactly : ((host.authenticated (outer_count before)).field.number ≡ 0) ↔ OpenedLater i (seals_in (before ++ (x ∷ []))) later
  pub as_authenticated : OpenedLater i (seals_in (before ++ (x ∷ []))) later
      → ComesBack i (i.header_size + length (item_bytes before)) x (host.authenticated (outer_count before)).field
  pub as_untrusted : (OpenedLater i (seals_in (before ++ (x ∷ []))) later → ⊥)
      → ComesBack i (i.header_size + length (item_bytes before)) x (host.untrusted (outer_count before - authenticated_in items)).field

-- what a host gets of a cut
pub record HostTells (i : Input) (items : List Item) (host : Replies) : Type 0 where
  pub authenticated_list : ListTells (λ k. (host.authenticated k).field) (authenticated_in items)
      (outer_records i.version i.header_size items) Authenticated (outer_messages items) i.packet
  pub untrusted_list : ListTells (λ k. (host.untrusted k).field) (untrusted_in items)
      (drop (authenticated_in items) (outer_records i.version i.header_size items)) Untrusted
      (drop (authenticated_in items) (outer_messages items)) i.packet
  pub encrypted_list : ListTells (λ k. (host.encrypted k).field) (inner_count_of items) (inner_records i 0 items) Encrypted (inner_messages items)
      i.lent.plain
  pub each : (before : List Item) (x : Item) (later : List Item) → items ≡ before ++ (x ∷ later) → Reported x
      → ItemTells i items host before x later

-- the replies of `host_fields` to a host that names the version by `w`, and passes the tables and counts that reading returned
abbrev pub replies_to : Input → ℕ → Read → List ℕ → List ℕ → Replies
replies_to i w r o n =
    let counts = read_row r in
    record {
      authenticated = λ k. authenticated_across (length i.packet) w o counts.authenticated_count k;
      untrusted = λ k. untrusted_across (length i.packet) w o counts.authenticated_count counts.untrusted_count k;
      encrypted = λ k. encrypted_across (length i.lent.plain) i.lent.starts w n counts.encrypted_count k;
    }
