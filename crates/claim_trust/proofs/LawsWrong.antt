-- What these statements rule out, for any replies that meet them. No line here knows how a reply is made.
use Rattle.std.specs.Prelude.{◌≡◌, refl, Bool, true, false, List, [], ◌∷◌, ◌++◌, ℕ, zero, suc, ◌+◌, ◌≤◌, ◌<◌, ltb, length, get_or}
use Rattle.std.proofs.Common.{sym, ap, subst, ◌∙◌, arith, ltb-true, ltb-false, get_or-drop}
use Rattle.base_answers.specs.declared.Refusal.TheVariants.{CannotBeMade}
use Rattle.base_version.specs.declared.Version.{Version}
use Rattle.base_big_endian.specs.Meant.{big_endian}
use Rattle.field_kinds.specs.declared.Kind.TheVariants.{Unknown}
use Rattle.layout.specs.Meant.{bytes_of}
use Rattle.layout.proofs.Laws.{size_of}
use Rattle.read_packet.specs.Meant.{Input}
use Rattle.read_records.specs.declared.Record.{Record}
use Rattle.read_records.specs.declared.Trust.{Trust}
use Rattle.read_records.specs.declared.Trust.TheVariants.{Untrusted}
use Rattle.claim_one_cut.specs.MeantCut.{Item, plain, shut, opened, item_bytes, seals_in, outer_count}
use Rattle.claim_one_cut.specs.MeantReport.{trust_before, outer_records, Reported, OpenedLater}
use Rattle.claim_one_cut.proofs.LawsMessages.{item_record, record_of_item}
use Rattle.claim_one_cut.proofs.LawsExamples.{five, five_has_a_cut}
use Rattle.claim_demand.specs.Meant.{authenticated_in, untrusted_in}
use Rattle.host_fields.specs.Meant.{no_field}
use Rattle.host_fields.specs.declared.NtpField.{NtpField}
use Rattle.claim_trust.specs.Meant.{ListTells, ComesBack, Replies, HostTells}
use Rattle.claim_trust.proofs.Laws.{both_counts, item_counts}

abbrev any_record : Record
any_record = record {
  kind = Unknown;
  type_id = 0;
  field_offset = 0;
  message_len = 0;
  wire_length = 0;
  trust = Untrusted;
}

module _ {row : ℕ → NtpField} {count : ℕ} {records : List Record} {trust : Trust} {messages : List (List ℕ)} {buffer : List ℕ}
    (t : ListTells row count records trust messages buffer) where
  -- an entry past the count that comes back as a field
  pub nothing_past : (k : ℕ) → count ≤ k → (row k).number ≡ 0 → ⊥
  nothing_past k h e =
      let none_there = ap (λ (f : NtpField). f.number) (t.no_more k h) in
      omega arith

  -- a field below the count that does not come back
  pub nothing_left_out : (k : ℕ) → k < count → (row k).number ≡ 0
  nothing_left_out k h = ap (λ (f : NtpField). f.number) (t.row_is k h any_record)

  told_below : (k : ℕ) → (row k).number ≡ 0 → k < count
  told_below k e = go (ltb k count) refl
    where
      go : (b : Bool) → ltb k count ≡ b → k < count
      go true q = ltb-true k count q
      go false q = absurd (nothing_past k (ltb-false k count q) e)

  -- other rows: two lists of replies that meet it are one
  pub one_row : {other : ℕ → NtpField} → ListTells other count records trust messages buffer → (k : ℕ) → row k ≡ other k
  one_row {other} s k = go (ltb k count) refl
    where
      go : (b : Bool) → ltb k count ≡ b → row k ≡ other k
      go true q = t.row_is k (ltb-true k count q) any_record ∙ sym (s.row_is k (ltb-true k count q) any_record)
      go false q = t.no_more k (ltb-false k count q) ∙ sym (s.no_more k (ltb-false k count q))

-- records lie one after the other, so that a place has one record
offset_from : (xs : List Item) (v : Version) (at k : ℕ) (d : Record) → k < outer_count xs
    → at ≤ (get_or (outer_records v at xs) k d).field_offset
unfolding outer_records
offset_from [] v at k d h = absurd (omega arith)
offset_from (plain f ∷ xs) v at zero d h = omega arith
offset_from (plain f ∷ xs) v at (suc k) d h = omega (arith, offset_from xs v (at + length (bytes_of f)) k d (omega arith))
offset_from (shut f ∷ xs) v at zero d h = omega arith
offset_from (shut f ∷ xs) v at (suc k) d h = omega (arith, offset_from xs v (at + length (bytes_of f)) k d (omega arith))
offset_from (opened f fs ∷ xs) v at k d h = omega (arith, offset_from xs v (at + length (bytes_of f)) k d h)

one_at_a_place : (xs : List Item) (v : Version) (at j k : ℕ) (d : Record) → j < outer_count xs → k < outer_count xs
    → (get_or (outer_records v at xs) j d).field_offset ≡ (get_or (outer_records v at xs) k d).field_offset
    → j ≡ k
unfolding outer_records
one_at_a_place [] v at j k d g h e = absurd (omega arith)
one_at_a_place (plain f ∷ xs) v at zero zero d g h e = refl
one_at_a_place (plain f ∷ xs) v at zero (suc k) d g h e =
    absurd (omega (arith, size_of f, offset_from xs v (at + length (bytes_of f)) k d (omega arith)))
one_at_a_place (plain f ∷ xs) v at (suc j) zero d g h e =
    absurd (omega (arith, size_of f, offset_from xs v (at + length (bytes_of f)) j d (omega arith)))
one_at_a_place (plain f ∷ xs) v at (suc j) (suc k) d g h e =
    ap suc (one_at_a_place xs v (at + length (bytes_of f)) j k d (omega arith) (omega arith) e)
one_at_a_place (shut f ∷ xs) v at zero zero d g h e = refl
one_at_a_place (shut f ∷ xs) v at zero (suc k) d g h e =
    absurd (omega (arith, size_of f, offset_from xs v (at + length (bytes_of f)) k d (omega arith)))
one_at_a_place (shut f ∷ xs) v at (suc j) zero d g h e =
    absurd (omega (arith, size_of f, offset_from xs v (at + length (bytes_of f)) j d (omega arith)))
one_at_a_place (shut f ∷ xs) v at (suc j) (suc k) d g h e =
    ap suc (one_at_a_place xs v (at + length (bytes_of f)) j k d (omega arith) (omega arith) e)
one_at_a_place (opened f fs ∷ xs) v at j k d g h e = one_at_a_place xs v (at + length (bytes_of f)) j k d g h e

module _ (i : Input) (items : List Item) {host : Replies}
    (t : HostTells i items host) (before : List Item) (x : Item) (later : List Item) (split : items ≡ before ++ (x ∷ later))
    (shown : Reported x) where
  place_here : (get_or (outer_records i.version i.header_size items) (outer_count before) any_record).field_offset
      ≡ i.header_size + length (item_bytes before)
  place_here =
      ap (λ (l : List Item). (get_or (outer_records i.version i.header_size l) (outer_count before) any_record).field_offset) split
      ∙ ap (λ (z : Record). z.field_offset) (record_of_item before x later i.version i.header_size any_record shown)
      ∙ place_of x shown
    where
      place_of : (y : Item) → Reported y
          → (item_record i.version (i.header_size + length (item_bytes before)) y (trust_before later)).field_offset
          ≡ i.header_size + length (item_bytes before)
      place_of (plain f) h = refl
      place_of (shut f) h = refl
      place_of (opened f fs) h = absurd h

  -- an untrusted item that comes back as authenticated, under whatever number
  pub not_as_authenticated : (OpenedLater i (seals_in (before ++ (x ∷ []))) later → ⊥) → (k : ℕ)
      → ComesBack i (i.header_size + length (item_bytes before)) x (host.authenticated k).field
      → ⊥
  not_as_authenticated no_seal_law k b =
      let under : k < authenticated_in items = told_below t.authenticated_list k b.number in
      let row = t.authenticated_list.row_is k under any_record in
      let here = item_counts before x later shown in
      let total = ap (λ (l : List Item). outer_count l) split in
      let same : k ≡ outer_count before =
      one_at_a_place items i.version i.header_size k (outer_count before) any_record (omega (arith, both_counts items)) (omega arith)
      (sym (ap (λ (f : NtpField). f.field_offset) row) ∙ b.place ∙ sym place_here) in
      no_seal_law
      ((t.each before x later split shown).exactly.0
      (subst (λ (m : ℕ). (host.authenticated m).field.number ≡ 0) same b.number))

  -- an authenticated item that comes back as untrusted, under whatever number
  pub not_as_untrusted : OpenedLater i (seals_in (before ++ (x ∷ []))) later → (k : ℕ)
      → ComesBack i (i.header_size + length (item_bytes before)) x (host.untrusted k).field
      → ⊥
  not_as_untrusted vouched k b =
      let first = authenticated_in items in
      let under : k < untrusted_in items = told_below t.untrusted_list k b.number in
      let row = t.untrusted_list.row_is k under any_record in
      let here = item_counts before x later shown in
      let total = ap (λ (l : List Item). outer_count l) split in
      let moved = get_or-drop first (outer_records i.version i.header_size items) k any_record in
      let same : first + k ≡ outer_count before =
      one_at_a_place items i.version i.header_size (first + k) (outer_count before) any_record (omega (arith, both_counts items))
      (omega arith)
      (sym (ap (λ (f : NtpField). f.field_offset) row ∙ ap (λ (z : Record). z.field_offset) moved) ∙ b.place ∙ sym place_here) in
      let below : outer_count before < first =
      told_below t.authenticated_list (outer_count before) ((t.each before x later split shown).exactly.1 vouched) in
      omega arith

-- bench sample 5: the marker stands before a field that opens. It comes back as the second authenticated field, and nothing as untrusted
module _ {host : Replies}
    (t : HostTells (five (1 ∷ 2 ∷ [])) five_has_a_cut.items host) where
  pub marker_authenticated : (host.authenticated 1).field ≡ record {
    number = 0;
    kind = 8;
    type_id = 0x0404;
    field_offset = 4;
    wire_length = 8;
    message_offset = 8;
    message_len = 4;
  }
  unfolding five_has_a_cut outer_records big_endian
  marker_authenticated = t.authenticated_list.row_is 1 (omega arith) any_record

  pub marker_not_untrusted : (k : ℕ) → (host.untrusted k).field ≡ no_field CannotBeMade
  unfolding five_has_a_cut
  marker_not_untrusted k = t.untrusted_list.no_more k (omega arith)
