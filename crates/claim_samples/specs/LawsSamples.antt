-- The starred samples of the rules (section 21): one table, settled by one claim. The header size is 0, every plaintext
-- empty, and the tables are lent with other numbers in them.
use Rattle.std.specs.Prelude.{None, ◌≡◌, refl, map, List, [], ◌∷◌, ◌++◌, ℕ, ◌-◌, length, take, drop, replicate}
use Rattle.base_big_endian.specs.Meant.{number_at}
use Rattle.field_kinds.specs.Meant.{kind_of}
use Rattle.field_frame.specs.Model.{frame_of, frame_at}
use Rattle.field_sealed.specs.Model.{sealed_parts}
use Rattle.read_entries.specs.Meant.{capacity}
use Rattle.read_entries.specs.Model.{entry_of, unpacked}
use Rattle.read_step.specs.Model.{checked_of, step_at}
use Rattle.read_plaintext.specs.Model.{inside_from, inside_of}
use Rattle.read_opening.specs.Model.{result_of, outcome_of}
use Rattle.read_packet.specs.ModelWalk.{turn, walk_from, end_of}
use Rattle.read_packet.specs.ModelReply.{read_over, read_of}
use Rattle.base_answers.specs.declared.Refusal.TheVariants.{IncorrectLength, NoResult}
use Rattle.base_version.specs.declared.Version.{Version}
use Rattle.base_version.specs.declared.Version.TheVariants.{V4, V5}
use Rattle.read_opening.specs.Meant.{lent_of}
use Rattle.read_packet.specs.Meant.{input_of, ReadReply}
use Rattle.field_kinds.specs.declared.Kind.{Kind}
use Rattle.field_kinds.specs.declared.Kind.TheVariants.{UniqueIdentifier, InvalidNtsEncryptedField}
use Rattle.read_records.specs.Model.{outer_record, message_of, part_of}
use Rattle.read_records.specs.declared.Record.{Record}
use Rattle.read_records.specs.declared.Trust.{Trust}
use Rattle.read_records.specs.declared.Trust.TheVariants.{Untrusted, Authenticated}
use Rattle.claim_one_cut.specs.MeantReport.{records_of}
use Rattle.read_packet.specs.declared.Read.{Read}
use Rattle.read_packet.specs.declared.Read.TheVariants.{Accepted, DecryptError, Refused}

-- a packet with a result for each sealed field, and what has to be reported of it: the answer, the outer records, and the bytes
-- handed back for each of them. No sample has an inner field
pub record Sample : Type 0 where
  pub version : Version
  pub packet : List ℕ
  pub verdicts : List ℕ
  pub answer : Read
  pub records : List Record
  pub messages : List (List ℕ)

abbrev sample : Version → List ℕ → List ℕ → Read → List Record → List (List ℕ) → Sample
sample v p vs a rs ms = record { version = v; packet = p; verdicts = vs; answer = a; records = rs; messages = ms }

-- a record: kind, type, offset, message length, bytes taken, trust
abbrev is : Kind → ℕ → ℕ → ℕ → ℕ → Trust → Record
is kind type offset message taken trust =
    record { kind = kind; type_id = type; field_offset = offset; message_len = message; wire_length = taken; trust = trust }

-- type 0x0104 with a length, and then so many bytes
abbrev pub field : ℕ → ℕ → List ℕ
field l n = 0x01 ∷ 0x04 ∷ 0x00 ∷ l ∷ replicate n 0xAA

abbrev pub empty_seal : List ℕ
empty_seal = 0x04 ∷ 0x04 ∷ 0x00 ∷ 0x08 ∷ 0x00 ∷ 0x00 ∷ 0x00 ∷ 0x00 ∷ []

abbrev one_byte_nonce : ℕ → List ℕ
one_byte_nonce l = 0x04 ∷ 0x04 ∷ 0x00 ∷ l ∷ 0x00 ∷ 0x01 ∷ 0x00 ∷ 0x00 ∷ 0xAA ∷ 0x00 ∷ 0x00 ∷ 0x00 ∷ []

abbrev first : List ℕ
first = 0x01 ∷ 0x04 ∷ 0x00 ∷ 0x05 ∷ 0xAA ∷ 0x11 ∷ 0x22 ∷ 0x33 ∷ []

-- an answer 0 or 5 has the numbers of authenticated and untrusted items and of encrypted fields, and the remainder; a refusal
-- has its offset
abbrev pub samples : List Sample
samples =
    sample V5 first [] (Accepted 0 1 0 0 None) (is UniqueIdentifier 0x0104 0 1 8 Untrusted ∷ []) ((0xAA ∷ []) ∷ [])
    ∷ sample V4 first [] (Accepted 0 0 0 8 None) [] []
    ∷ sample V4 (field 24 20) [] (Accepted 0 0 0 24 None) [] []
    ∷ sample V4 (field 28 24) [] (Accepted 0 1 0 0 None) (is UniqueIdentifier 0x0104 0 24 28 Untrusted ∷ []) (replicate 24 0xAA ∷ [])
    ∷ sample V4 (field 4 24) [] (Accepted 0 1 0 24 None) (is UniqueIdentifier 0x0104 0 0 4 Untrusted ∷ []) ([] ∷ [])
    ∷ sample V4 (field 26 24) [] (Refused IncorrectLength 0) [] []
    ∷ sample V5 [] [] (Accepted 0 0 0 0 None) [] []
    ∷ sample V5 (0x01 ∷ 0x04 ∷ 0x00 ∷ []) [] (Refused IncorrectLength 0) [] []
    ∷ sample V5 (field 3 0) [] (Refused IncorrectLength 0) [] []
    ∷ sample V5 (field 4 0 ++ empty_seal ++ empty_seal) (1 ∷ 2 ∷ []) (DecryptError 2 0 0 0)
    (is UniqueIdentifier 0x0104 0 0 4 Authenticated ∷ is InvalidNtsEncryptedField 0x0404 4 4 8 Authenticated ∷ [])
    ([] ∷ (0 ∷ 0 ∷ 0 ∷ 0 ∷ []) ∷ [])
    ∷ sample V5 (field 4 0 ++ empty_seal ++ empty_seal) [] (Refused NoResult 4) [] []
    ∷ sample V5 (one_byte_nonce 9) [] (Refused IncorrectLength 0) [] []
    ∷ sample V5 (one_byte_nonce 12) (2 ∷ []) (Accepted 0 0 0 0 None) [] []
    ∷ []

abbrev zeros : ℕ → List ℕ
zeros n = replicate n 0

-- what the reader's promise says of a sample
abbrev read_from : Sample → ReadReply
read_from s =
    let places = zeros (length s.verdicts) in
    read_of (input_of s.packet 0 s.version (lent_of s.verdicts places places [])) (replicate capacity 7) (replicate capacity 7)

-- the records that the library makes of the entries below the counts
abbrev listed_of : Version → Read → List ℕ → List Record
listed_of v (Accepted a u e rest c) table = records_of v (take a table) (take u (drop a table))
listed_of v (DecryptError a u e rest) table = records_of v (take a table) (take u (drop a table))
listed_of v (Refused r offset) table = []

-- what a host sees of a sample: the answer, the records and the bytes handed back for them, and the tables past them
pub record Seen : Type 0 where
  pub answer : Read
  pub records : List Record
  pub messages : List (List ℕ)
  pub outer_left : List ℕ
  pub inner_left : List ℕ

abbrev pub seen : Sample → Seen
seen s =
    let reply = read_from s in
    let records = listed_of s.version reply.answer reply.outer in
    record {
      answer = reply.answer;
      records = records;
      messages = map (λ (r : Record). message_of s.packet [] r) records;
      outer_left = drop (length records) reply.outer;
      inner_left = reply.inner;
    }

-- what the rules say of it: entries past the counts are blank
abbrev pub expected : Sample → Seen
expected s = record {
  answer = s.answer;
  records = s.records;
  messages = s.messages;
  outer_left = zeros (capacity - length s.records);
  inner_left = zeros capacity;
}

pub each_sample : map seen samples ≡ map expected samples
unfolding read_over end_of walk_from turn step_at checked_of outcome_of result_of inside_of inside_from sealed_parts frame_at frame_of kind_of number_at entry_of unpacked outer_record message_of part_of
each_sample = refl
