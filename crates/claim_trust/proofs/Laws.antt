-- What a host gets of a packet with a cut, for any answer and tables that meet demand 3.
use Rattle.std.specs.Prelude.{Option, Some, ◌≡◌, Bool, true, false, List, [], ◌∷◌, ◌++◌, map, ℕ, zero, suc, ◌+◌, ◌-◌, ◌≤◌, ◌<◌, ltb, length, get_or, take, drop}
use Rattle.std.proofs.Math.Path.{refl, ap, subst}
use Rattle.std.proofs.Common.{sym, ◌∙◌, arith, le-leb, ltb-true, ltb-false, length-append, length-take, get_or-append-add}
use Rattle.std.proofs.lemmas.List.{length-map}
use Rattle.std.proofs.Math.Seq.{get_or-drop}
use Rattle.base_answers.specs.Meant.{pick}
use Rattle.base_answers.specs.declared.Refusal.{Refusal}
use Rattle.base_answers.specs.declared.Refusal.TheVariants.{CannotBeMade}
use Rattle.base_version.specs.declared.Version.{Version}
use Rattle.read_entries.specs.Meant.{slot_of}
use Rattle.read_entries.specs.LawsSlots.{missing, present}
use Rattle.read_opening.specs.Meant.{start_of}
use Rattle.read_packet.specs.Meant.{Input}
use Rattle.read_packet.specs.declared.Read.{Read}
use Rattle.read_packet.specs.declared.Read.TheVariants.{Accepted, DecryptError, Refused}
use Rattle.read_records.specs.Model.{outer_record, inner_record, part_of, message_of}
use Rattle.read_records.specs.Meant.{source_of}
use Rattle.read_records.specs.declared.Record.{Record}
use Rattle.read_records.specs.declared.Trust.{Trust}
use Rattle.read_records.specs.declared.Trust.TheVariants.{Untrusted, Authenticated, Encrypted}
use Rattle.layout.specs.Meant.{Field, bytes_of}
use Rattle.claim_one_cut.specs.MeantCut.{Item, plain, shut, opened, field_of, item_bytes, seals_in, outer_count, inner_count_of}
use Rattle.claim_one_cut.specs.MeantReport.{opens, fails, cookie_of, trust_before, outer_records, plaintext_records, inner_records, Reported, outer_messages, inner_messages, OpenedLater, HasCut}
use Rattle.claim_one_cut.proofs.LawsLaid.{laid}
use Rattle.claim_one_cut.proofs.LawsMessages.{item_record, record_of_item}
use Rattle.claim_demand.specs.Meant.{authenticated_in, untrusted_in, CutTells, Demand3}
use Rattle.host.specs.Meant.{version_of}
use Rattle.host_packets.specs.Meant.{read_row}
use Rattle.host_fields.specs.Meant.{no_field, field_row, on_slot, asked_of, on_asked, authenticated_across, untrusted_across, encrypted_across}
use Rattle.host_fields.specs.declared.NtpField.{NtpField}
use Rattle.claim_trust.specs.Meant.{row_of, bytes_at, ListTells, ComesBack, Replies, ItemTells, HostTells, replies_to}
use Rattle.claim_trust.proofs.LawsInside.{Inside, outer_inside, inner_inside, one_of_all}

-- an element of a list that is made of another, and one of the first of two lists
in_map : {A B : Type 0} (f : A → B) (xs : List A) (k : ℕ) (d : B) (e : A) → k < length xs → get_or (map f xs) k d ≡ f (get_or xs k e)
in_map f [] k d e h = absurd (omega arith)
in_map f (x ∷ xs) zero d e h = refl
in_map f (x ∷ xs) (suc k) d e h = in_map f xs k d e (omega arith)

in_first : {A : Type 0} (xs ys : List A) (k : ℕ) (d : A) → k < length xs → get_or (xs ++ ys) k d ≡ get_or xs k d
in_first [] ys k d h = absurd (omega arith)
in_first (x ∷ xs) ys zero d h = refl
in_first (x ∷ xs) ys (suc k) d h = in_first xs ys k d (omega arith)

-- the row of a record whose message lies inside, and the bytes at its place
row_inside : (available : ℕ) (r : Record) → Inside available r → field_row available r ≡ row_of r
unfolding field_row
row_inside available r h = rw (le-leb (r.field_offset + 4 + r.message_len) available h)

bytes_inside : (packet buffer : List ℕ) (r : Record) (source : List ℕ) → source_of r.trust packet buffer ≡ source
    → Inside (length source) r
    → bytes_at (row_of r) source ≡ message_of packet buffer r
unfolding message_of part_of
bytes_inside packet buffer r source e h =
    rw (e, le-leb (r.field_offset + 4 + r.message_len) (length source) h)

-- the rows of entries that make records of one trust
module _ (packet buffer source : List ℕ) (v : Version) (w : ℕ) (known : version_of w ≡ Some v) (make : ℕ → Version → Record)
    (trust : Trust) (trusted : (e : ℕ) → (make e v).trust ≡ trust) (from : source_of trust packet buffer ≡ source) where
  asked_known : (slot : Option ℕ) → asked_of slot w ≡ on_slot slot v
  unfolding asked_of
  asked_known slot = rw known

  list_told : (es : List ℕ) (count : ℕ) → length es ≡ count → (records : List Record) (messages : List (List ℕ))
      → ((k : ℕ) → k < count → (d : Record) → get_or records k d ≡ make (get_or es k 0) v)
      → ((k : ℕ) → k < count → Inside (length source) (make (get_or es k 0) v))
      → ((k : ℕ) → k < count → (m : List ℕ) → get_or messages k m ≡ message_of packet buffer (make (get_or es k 0) v))
      → ListTells (λ k. on_asked (asked_of (slot_of es k) w) make (length source)) count records trust messages source
  list_told es count size records messages made inside handed = record {
    row_is = λ k h d. row k h ∙ ap row_of (sym (made k h d));
    trust_is = λ k h d. ap (λ (r : Record). r.trust) (made k h d) ∙ trusted (get_or es k 0);
    bytes_are = λ k h m.
        ap (λ (f : NtpField). bytes_at f source) (row k h)
        ∙ bytes_inside packet buffer (make (get_or es k 0) v) source
        (ap (λ (t : Trust). source_of t packet buffer) (trusted (get_or es k 0)) ∙ from) (inside k h)
        ∙ sym (handed k h m);
    no_more = λ k h. rw (asked_known (slot_of es k), missing es k (omega arith));
  }
    where
      row : (k : ℕ) → k < count → on_asked (asked_of (slot_of es k) w) make (length source) ≡ row_of (make (get_or es k 0) v)
      row k h =
          rw (asked_known (slot_of es k), present es k (omega arith))
          (row_inside (length source) (make (get_or es k 0) v) (inside k h))

-- how many outer records a cut has
one_each : (b : Bool) → pick b 1 0 + pick b 0 1 ≡ 1
one_each true = refl
one_each false = refl

pub both_counts : (xs : List Item) → authenticated_in xs + untrusted_in xs ≡ outer_count xs
both_counts [] = refl
both_counts (plain f ∷ xs) = omega (arith, one_each (opens xs), both_counts xs)
both_counts (shut f ∷ xs) = omega (arith, one_each (opens xs), both_counts xs)
both_counts (opened f fs ∷ xs) = both_counts xs

outer_size : (xs : List Item) (v : Version) (at : ℕ) → length (outer_records v at xs) ≡ outer_count xs
unfolding outer_records
outer_size [] v at = refl
outer_size (plain f ∷ xs) v at = ap suc (outer_size xs v (at + length (bytes_of f)))
outer_size (shut f ∷ xs) v at = ap suc (outer_size xs v (at + length (bytes_of f)))
outer_size (opened f fs ∷ xs) v at = outer_size xs v (at + length (bytes_of f))

plaintext_size : (fs : List Field) (v : Version) (at : ℕ) → length (plaintext_records v at fs) ≡ length fs
unfolding plaintext_records
plaintext_size [] v at = refl
plaintext_size (f ∷ fs) v at = ap suc (plaintext_size fs v (at + length (bytes_of f)))

inner_size : (xs : List Item) (i : Input) (k : ℕ) → length (inner_records i k xs) ≡ inner_count_of xs
unfolding inner_records
inner_size [] i k = refl
inner_size (plain f ∷ xs) i k = inner_size xs i k
inner_size (shut f ∷ xs) i k = inner_size xs i (k + 1)
inner_size (opened f fs ∷ xs) i k =
    omega (
      arith,
      length-append (plaintext_records i.version (start_of i.lent k) fs) (inner_records i (k + 1) xs),
      plaintext_size fs i.version (start_of i.lent k),
      inner_size xs i (k + 1),
    )

-- a reported item among the others, and its message
pub item_counts : (before : List Item) (x : Item) (later : List Item) → Reported x → outer_count before < outer_count (before ++ (x ∷ later))
item_counts [] (plain f) later h = omega arith
item_counts [] (shut f) later h = omega arith
item_counts [] (opened f fs) later h = absurd h
item_counts (plain g ∷ before) x later h = omega (arith, item_counts before x later h)
item_counts (shut g ∷ before) x later h = omega (arith, item_counts before x later h)
item_counts (opened g gs ∷ before) x later h = item_counts before x later h

message_of_item : (before : List Item) (x : Item) (later : List Item) (m : List ℕ) → Reported x
    → get_or (outer_messages (before ++ (x ∷ later))) (outer_count before) m ≡ (field_of x).message
message_of_item [] (plain f) later m h = refl
message_of_item [] (shut f) later m h = refl
message_of_item [] (opened f fs) later m h = absurd h
message_of_item (plain g ∷ before) x later m h = message_of_item before x later m h
message_of_item (shut g ∷ before) x later m h = message_of_item before x later m h
message_of_item (opened g gs ∷ before) x later m h = message_of_item before x later m h

-- the row of an item's record, with its message at its place
comes_back : (i : Input) (at : ℕ) (x : Item) (trust : Trust) (row : NtpField) → Reported x
    → row ≡ row_of (item_record i.version at x trust)
    → bytes_at row i.packet ≡ (field_of x).message
    → ComesBack i at x row
comes_back i at (plain f) trust row h e b = record {
  number = ap (λ (z : NtpField). z.number) e;
  kind = ap (λ (z : NtpField). z.kind) e;
  type = ap (λ (z : NtpField). z.type_id) e;
  place = ap (λ (z : NtpField). z.field_offset) e;
  wire_length = ap (λ (z : NtpField). z.wire_length) e;
  message_place = ap (λ (z : NtpField). z.message_offset) e;
  message_length = ap (λ (z : NtpField). z.message_len) e;
  message = b;
}
comes_back i at (shut f) trust row h e b = record {
  number = ap (λ (z : NtpField). z.number) e;
  kind = ap (λ (z : NtpField). z.kind) e;
  type = ap (λ (z : NtpField). z.type_id) e;
  place = ap (λ (z : NtpField). z.field_offset) e;
  wire_length = ap (λ (z : NtpField). z.wire_length) e;
  message_place = ap (λ (z : NtpField). z.message_offset) e;
  message_length = ap (λ (z : NtpField). z.message_len) e;
  message = b;
}
comes_back i at (opened f fs) trust row h e b = absurd h

-- the counts that reading returned
module _ (a u e rest : ℕ) (c : Option ℕ) where
  authenticated_returned : (b : Bool) → (read_row (pick b (DecryptError a u e rest) (Accepted a u e rest c))).authenticated_count ≡ a
  authenticated_returned true = refl
  authenticated_returned false = refl

  untrusted_returned : (b : Bool) → (read_row (pick b (DecryptError a u e rest) (Accepted a u e rest c))).untrusted_count ≡ u
  untrusted_returned true = refl
  untrusted_returned false = refl

  encrypted_returned : (b : Bool) → (read_row (pick b (DecryptError a u e rest) (Accepted a u e rest c))).encrypted_count ≡ e
  encrypted_returned true = refl
  encrypted_returned false = refl

module _ (i : Input) (r : Read) (o n : List ℕ) (c : HasCut i) (w : ℕ) (known : version_of w ≡ Some i.version)
    (t : CutTells i r o n c.items c.rest) where
  abbrev replies : Replies
  replies = replies_to i w r o n

  abbrev a : ℕ
  a = authenticated_in c.items

  abbrev u : ℕ
  u = untrusted_in c.items

  abbrev e : ℕ
  e = inner_count_of c.items

  abbrev outer : List Record
  outer = outer_records i.version i.header_size c.items

  abbrev inner : List Record
  inner = inner_records i 0 c.items

  abbrev cookie : Option ℕ
  cookie = cookie_of i 0 c.items

  counted_a : (read_row r).authenticated_count ≡ a
  counted_a = rw t.answer (authenticated_returned a u e (length c.rest) cookie (fails c.items))

  counted_u : (read_row r).untrusted_count ≡ u
  counted_u = rw t.answer (untrusted_returned a u e (length c.rest) cookie (fails c.items))

  counted_e : (read_row r).encrypted_count ≡ e
  counted_e = rw t.answer (encrypted_returned a u e (length c.rest) cookie (fails c.items))

  -- the entries below the counts are there
  abbrev first : List Record
  first = map (λ (x : ℕ). outer_record x i.version Authenticated) (take a o)

  abbrev second : List Record
  second = map (λ (x : ℕ). outer_record x i.version Untrusted) (take u (drop a o))

  outer_total : length outer ≡ a + u
  outer_total = omega (arith, outer_size c.items i.version i.header_size, both_counts c.items)

  record Sizes : Type 0 where
    authenticated : length (take a o) ≡ a
    untrusted : length (take u (drop a o)) ≡ u
    encrypted : length (take e n) ≡ e

  sizes : Sizes
  sizes =
      let both = ap (λ (l : List Record). length l) t.outer in
      let all = ap (λ (l : List Record). length l) t.inner in
      let sum = length-append first second in
      let one = length-map (take a o) (λ (x : ℕ). outer_record x i.version Authenticated) in
      let two = length-map (take u (drop a o)) (λ (x : ℕ). outer_record x i.version Untrusted) in
      let three = length-map (take e n) (λ (x : ℕ). inner_record x i.version i.lent.starts) in
      let total = outer_total in
      record {
        authenticated = omega (arith, length-take a o, length-take u (drop a o));
        untrusted = omega (arith, length-take a o, length-take u (drop a o));
        encrypted = omega (arith, length-take e n, inner_size c.items i 0);
      }

  -- a record of the outer list, by its number
  made_first : (k : ℕ) → k < a → (d : Record) → get_or outer k d ≡ outer_record (get_or (take a o) k 0) i.version Authenticated
  made_first k h d =
      let size = length-map (take a o) (λ (x : ℕ). outer_record x i.version Authenticated) in
      ap (λ (l : List Record). get_or l k d) (sym t.outer)
      ∙ in_first first second k d (omega (arith, sizes.authenticated))
      ∙ in_map (λ (x : ℕ). outer_record x i.version Authenticated) (take a o) k d 0 (omega (arith, sizes.authenticated))

  made_second : (k : ℕ) → k < u → (d : Record)
      → get_or (drop a outer) k d ≡ outer_record (get_or (take u (drop a o)) k 0) i.version Untrusted
  made_second k h d =
      let size = length-map (take a o) (λ (x : ℕ). outer_record x i.version Authenticated) in
      let place : a + k ≡ length first + k = omega (arith, sizes.authenticated) in
      get_or-drop a outer k d
      ∙ ap (λ (l : List Record). get_or l (a + k) d) (sym t.outer)
      ∙ ap (λ (m : ℕ). get_or (first ++ second) m d) place
      ∙ get_or-append-add first second k d
      ∙ in_map (λ (x : ℕ). outer_record x i.version Untrusted) (take u (drop a o)) k d 0 (omega (arith, sizes.untrusted))

  made_inner : (k : ℕ) → k < e → (d : Record) → get_or inner k d ≡ inner_record (get_or (take e n) k 0) i.version i.lent.starts
  made_inner k h d =
      ap (λ (l : List Record). get_or l k d) (sym t.inner)
      ∙ in_map (λ (x : ℕ). inner_record x i.version i.lent.starts) (take e n) k d 0 (omega (arith, sizes.encrypted))

  -- its message lies inside, and is the one that is handed back
  inside_outer : (k : ℕ) → k < a + u → (d : Record) → Inside (length i.packet) (get_or outer k d)
  inside_outer k h d =
      one_of_all (Inside (length i.packet)) outer k d
      (outer_inside c.items i c.rest i.header_size c.cut.led.begins.whole) (omega (arith, outer_total))

  inside_inner : (k : ℕ) → k < e → (d : Record) → Inside (length i.lent.plain) (get_or inner k d)
  inside_inner k h d =
      one_of_all (Inside (length i.lent.plain)) inner k d
      (inner_inside c.items i c.rest 0 (laid i c.items c.rest c.cut.led)) (omega (arith, inner_size c.items i 0))

  handed_outer : (k : ℕ) → k < a + u → (d : Record) (m : List ℕ)
      → get_or (outer_messages c.items) k m ≡ message_of i.packet i.lent.plain (get_or outer k d)
  handed_outer k h d m =
      ap (λ (l : List (List ℕ)). get_or l k m) (sym t.outer_bytes)
      ∙ in_map (λ (x : Record). message_of i.packet i.lent.plain x) outer k m d (omega (arith, outer_total))

  handed_inner : (k : ℕ) → k < e → (d : Record) (m : List ℕ)
      → get_or (inner_messages c.items) k m ≡ message_of i.packet i.lent.plain (get_or inner k d)
  handed_inner k h d m =
      ap (λ (l : List (List ℕ)). get_or l k m) (sym t.inner_bytes)
      ∙ in_map (λ (x : Record). message_of i.packet i.lent.plain x) inner k m d (omega (arith, inner_size c.items i 0))

  abbrev some_record : Record
  some_record = outer_record 0 i.version Untrusted

  authenticated_told : ListTells (λ k. (replies.authenticated k).field) a outer Authenticated (outer_messages c.items) i.packet
  unfolding authenticated_across outer_record
  authenticated_told =
      rw counted_a
      (list_told i.packet i.lent.plain i.packet i.version w known (λ x v. outer_record x v Authenticated) Authenticated
      (λ x. refl) refl (take a o) a sizes.authenticated outer (outer_messages c.items) made_first
      (λ k h. subst (λ (x : Record). Inside (length i.packet) x) (made_first k h some_record) (inside_outer k (omega arith) some_record))
      (λ k h m.
      handed_outer k (omega arith) some_record m
      ∙ ap (λ (x : Record). message_of i.packet i.lent.plain x) (made_first k h some_record)))

  untrusted_told : ListTells (λ k. (replies.untrusted k).field) u (drop a outer) Untrusted (drop a (outer_messages c.items))
      i.packet
  unfolding untrusted_across outer_record
  untrusted_told =
      rw (counted_a, counted_u)
      (list_told i.packet i.lent.plain i.packet i.version w known (λ x v. outer_record x v Untrusted) Untrusted
      (λ x. refl) refl (take u (drop a o)) u sizes.untrusted (drop a outer) (drop a (outer_messages c.items)) made_second
      (λ k h. subst (λ (x : Record). Inside (length i.packet) x) (sym (get_or-drop a outer k some_record) ∙ made_second k h some_record)
      (inside_outer (a + k) (omega arith) some_record))
      (λ k h m.
      get_or-drop a (outer_messages c.items) k m
      ∙ handed_outer (a + k) (omega arith) some_record m
      ∙ ap (λ (x : Record). message_of i.packet i.lent.plain x)
      (sym (get_or-drop a outer k some_record) ∙ made_second k h some_record)))

  encrypted_told : ListTells (λ k. (replies.encrypted k).field) e inner Encrypted (inner_messages c.items) i.lent.plain
  unfolding encrypted_across inner_record
  encrypted_told =
      rw counted_e
      (list_told i.packet i.lent.plain i.lent.plain i.version w known (λ x v. inner_record x v i.lent.starts) Encrypted
      (λ x. refl) refl (take e n) e sizes.encrypted inner (inner_messages c.items) made_inner
      (λ k h. subst (λ (x : Record). Inside (length i.lent.plain) x) (made_inner k h some_record) (inside_inner k h some_record))
      (λ k h m.
      handed_inner k h some_record m
      ∙ ap (λ (x : Record). message_of i.packet i.lent.plain x) (made_inner k h some_record)))

  -- of one item
  module _ (before : List Item) (x : Item) (later : List Item) (split : c.items ≡ before ++ (x ∷ later)) (shown : Reported x) where
    abbrev at : ℕ
    at = i.header_size + length (item_bytes before)

    abbrev k : ℕ
    k = outer_count before

    abbrev Vouched : Type 0
    Vouched = OpenedLater i (seals_in (before ++ (x ∷ []))) later

    counted : k < a + u
    counted =
        omega (arith, item_counts before x later shown, ap (λ (l : List Item). outer_count l) split, both_counts c.items)

    record_here : get_or outer k some_record ≡ item_record i.version at x (trust_before later)
    record_here =
        ap (λ (l : List Item). get_or (outer_records i.version i.header_size l) k some_record) split
        ∙ record_of_item before x later i.version i.header_size some_record shown

    message_here : get_or (outer_messages c.items) k [] ≡ (field_of x).message
    message_here = ap (λ (l : List Item). get_or (outer_messages l) k []) split ∙ message_of_item before x later [] shown

    -- the place of an untrusted item in its list
    past_first : a ≤ k → get_or (drop a outer) (k - a) some_record ≡ get_or outer k some_record
    past_first h =
        let same : a + (k - a) ≡ k = omega arith in
        get_or-drop a outer (k - a) some_record ∙ ap (λ (m : ℕ). get_or outer m some_record) same

    answered_below : (replies.authenticated k).field.number ≡ 0 → k < a
    answered_below z = go (ltb k a) refl
      where
        go : (b : Bool) → ltb k a ≡ b → k < a
        go true q = ltb-true k a q
        go false q =
            let none_there = ap (λ (f : NtpField). f.number) (authenticated_told.no_more k (ltb-false k a q)) in
            absurd (omega arith)

    vouched_below : Vouched → k < a
    vouched_below v = go (ltb k a) refl
      where
        go : (b : Bool) → ltb k a ≡ b → k < a
        go true q = ltb-true k a q
        go false q =
            let past : a ≤ k = ltb-false k a q in
            let trust : Untrusted ≡ Authenticated =
            sym (untrusted_told.trust_is (k - a) (omega (arith, counted)) some_record)
            ∙ ap (λ (z : Record). z.trust) (past_first past)
            ∙ (t.authenticated before x later split shown some_record).1 v in
            let z : ◌≡◌ {A = ℕ} 0 1 = cc in
            absurd (omega arith)

    below_vouched : k < a → Vouched
    below_vouched h =
        (t.authenticated before x later split shown some_record).0 (authenticated_told.trust_is k h some_record)

    not_vouched_past : (Vouched → ⊥) → a ≤ k
    not_vouched_past n = go (ltb k a) refl
      where
        go : (b : Bool) → ltb k a ≡ b → a ≤ k
        go true q = absurd (n (below_vouched (ltb-true k a q)))
        go false q = ltb-false k a q

    back_authenticated : k < a → ComesBack i at x (replies.authenticated k).field
    back_authenticated h =
        comes_back i at x (trust_before later) (replies.authenticated k).field shown
        (authenticated_told.row_is k h some_record ∙ ap row_of record_here)
        (authenticated_told.bytes_are k h [] ∙ message_here)

    back_untrusted : a ≤ k → ComesBack i at x (replies.untrusted (k - a)).field
    back_untrusted h =
        let same : a + (k - a) ≡ k = omega arith in
        comes_back i at x (trust_before later) (replies.untrusted (k - a)).field shown
        (untrusted_told.row_is (k - a) (omega (arith, counted)) some_record ∙ ap row_of (past_first h ∙ record_here))
        (untrusted_told.bytes_are (k - a) (omega (arith, counted)) []
        ∙ get_or-drop a (outer_messages c.items) (k - a) []
        ∙ ap (λ (m : ℕ). get_or (outer_messages c.items) m []) same
        ∙ message_here)

    item_told : ItemTells i c.items replies before x later
    item_told = record {
      exactly = ((λ z. below_vouched (answered_below z)), (λ v. (back_authenticated (vouched_below v)).number));
      as_authenticated = λ v. back_authenticated (vouched_below v);
      as_untrusted = λ n. back_untrusted (not_vouched_past n);
    }

-- for any answer and tables that meet demand 3
pub trust_comes_back : (i : Input) (r : Read) (o n : List ℕ) → Demand3 i r o n → (c : HasCut i) (w : ℕ) → version_of w ≡ Some i.version
    → HostTells i c.items (replies_to i w r o n)
trust_comes_back i r o n d c w known =
    let t = d.reports_the_cut c in
    record {
      authenticated_list = authenticated_told i r o n c w known t;
      untrusted_list = untrusted_told i r o n c w known t;
      encrypted_list = encrypted_told i r o n c w known t;
      each = item_told i r o n c w known t;
    }

-- a packet that was refused has no field of any trust
pub nothing_comes_back : (i : Input) (w : ℕ) → version_of w ≡ Some i.version → (q : Refusal) (offset : ℕ) (o n : List ℕ) (k : ℕ)
    → let host = replies_to i w (Refused q offset) o n in
    ((host.authenticated k).field ≡ no_field CannotBeMade)
    × ((host.untrusted k).field ≡ no_field CannotBeMade)
    × ((host.encrypted k).field ≡ no_field CannotBeMade)
unfolding authenticated_across untrusted_across encrypted_across asked_of
nothing_comes_back i w known q offset o n k = (
  rw (known, missing (take 0 o) k (omega (arith, length-take 0 o))),
  rw (known, missing (take 0 (drop 0 o)) k (omega (arith, length-take 0 (drop 0 o)))),
  rw (known, missing (take 0 n) k (omega (arith, length-take 0 n))),
)
