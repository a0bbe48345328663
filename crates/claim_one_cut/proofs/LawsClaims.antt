-- Demand 3, sentence by sentence, as theorems about what the reader (`read_packet::deserialize`, `read_packet::deserialize_over`) and
-- `read_survey::survey` return. docs/CLAIMS.md goes
-- through them. The definitions that they speak in are in Layout, Cut, Faults and Report; what they say of a lent slice is in
-- Lendable: its bytes are below 256 and its length fits a word.
use Rattle.std.specs.Prelude.{Result, Option, Some, None, ◌≡◌, Bool, ◌↔◌, ℕ, ◌+◌, ◌≤◌, max, get_or, length, take, drop}
use Rattle.std.proofs.Math.Path.{refl}
use Rattle.std.proofs.Common.{sym, ap, ◌∙◌, arith, ltb-false, take-add, take_at}
use Rattle.std.proofs.Math.Bool.{true, false}
use mathlib.Core.List.{List, [], ◌∷◌, ◌++◌, map, append_assoc}
use Rattle.std.proofs.Math.Dec.{ltb}
use Rattle.base_answers.specs.Meant.{◌⇒◌, first_of}
use Rattle.base_answers.specs.declared.Refusal.{Refusal}
use Rattle.base_answers.specs.declared.Refusal.TheVariants.{HeaderPastEnd, PacketTooLong}
use Rattle.base_version.specs.declared.Version.{Version}
use Rattle.read_entries.specs.Meant.{capacity, over_table, TableReply as SurveyReply}
use Rattle.read_entries.specs.LawsTables.{whole}
use Rattle.read_packet.specs.Meant.{Input, ReadReply, refusing_read}
use Rattle.read_packet.specs.ModelWalk.{outer_of, end_of}
use Rattle.read_packet.specs.ModelReply.{reply_of, on_fault, read_over, read_of}
use Rattle.read_packet.specs.LawsBounds.{end_bounded}
use Rattle.read_packet.specs.declared.Read.{Read}
use Rattle.read_packet.specs.declared.Read.TheVariants.{Refused}
use Rattle.read_records.specs.Model.{message_of}
use Rattle.read_records.specs.declared.Record.{Record}
use Rattle.read_survey.specs.Model.{survey_reply, survey_of}
use Rattle.read_survey.specs.Laws.{table_whole}
use Rattle.read_survey.specs.declared.SurveyFault.{SurveyFault}
use Rattle.read_records.specs.declared.Trust.TheVariants.{Authenticated, Encrypted}
use Rattle.layout.specs.Meant.{bytes_of}
use Rattle.field_contents.specs.Meant.{All}
use Rattle.claim_one_cut.specs.MeantCut.{Item, plain, shut, opened, field_of, item_bytes, seals_in, outer_count, Cut}
use Rattle.claim_one_cut.specs.MeantFaults.{FirstFault}
use Rattle.claim_one_cut.specs.MeantReport.{trust_before, outer_records, Reported, outer_messages, inner_messages, OpenedLater, HasCut}
use Rattle.claim_one_cut.proofs.LawsLaid.{laid as items-laid}
use Rattle.claim_one_cut.proofs.LawsUnique.{only_one}
use Rattle.claim_one_cut.proofs.LawsMessages.{item_record, record_of_item, outer_messages_law, inner_messages_law}
use Rattle.claim_one_cut.proofs.LawsTrust.{authenticated_exactly, inner_encrypted, outer_not_encrypted}
use Rattle.claim_one_cut.proofs.LawsExactly.{cut_reported, Says, reports, refuses, says}
use Rattle.claim_one_cut.proofs.LawsStops.{first_fault_told}
use Rattle.claim_one_cut.specs.ModelReport.{Lendable, reported, Answered, report_of, Listing}

nothing : {A : Type 0} {x : A} → None ≡ Some x → ⊥
nothing e =
    let z : ◌≡◌ {A = ℕ} 0 1 = cc in
    omega arith

module _ (i : Input) (ok : Lendable i) (r : Read) {o n : List ℕ} (a : Answered i r o n) where
  -- 3. Its fields, less the opened sealed ones, and its remainder are those reported, with kind, type, offset, lengths and trust,
  -- in wire order
  pub reports_the_cut : (c : HasCut i) → reported i r o n ≡ Some (report_of i c.items c.rest)
  reports_the_cut c =
      cut_reported i c.items c.rest c.cut c.supplied c.within r a ok.size

  -- 1. The reader reports a field list exactly when the bytes after the header can be cut
  pub reports_exactly : Listing i r o n ↔ HasCut i
  reports_exactly = (
    (λ l. found l (says i ok r a)),
    (λ c. record { report = report_of i c.items c.rest; is = reports_the_cut c }),
  )
    where
      found : Listing i r o n → Says i r o n → HasCut i
      found l (reports items rest cut supplied within e) =
          record { items = items; rest = rest; cut = cut; supplied = supplied; within = within }
      found l (refuses q offset fault e) =
          absurd (nothing (sym (ap (λ (x : Read). reported i x o n) e) ∙ l.is))

  -- 6. Every other answer is the first fault in the order of rules 3, with its number and offset
  pub refuses_exactly : (q : Refusal) (offset : ℕ) → (r ≡ Refused q offset) ↔ FirstFault i q offset
  refuses_exactly q offset = (
    (λ e. found e (says i ok r a)),
    first_fault_told i ok r a q offset,
  )
    where
      found : r ≡ Refused q offset → Says i r o n → FirstFault i q offset
      found e (reports items rest cut supplied within f) =
          absurd (nothing (sym (ap (λ (x : Read). reported i x o n) e) ∙ f))
      found e (refuses p place fault f) =
          let both = sym f ∙ e in
          let numbers : p ≡ q = cc in
          let places : place ≡ offset = cc in
          rw (← numbers, ← places) fault

-- 2. There is only one such cut
pub only_one_cut : (i : Input) (xs ys : List Item) (r t : List ℕ) → Cut i xs r → Cut i ys t → (xs ≡ ys) × (r ≡ t)
only_one_cut = only_one

-- 4. An outer item is reported authenticated exactly when the result lent for a later sealed field says opened; inner fields are
-- encrypted, and nothing else is
pub authenticated_in_the_report : (i : Input) (items : List Item) (rest : List ℕ) → Cut i items rest → (before : List Item) (x : Item)
    (later : List Item)
    → items ≡ before ++ (x ∷ later)
    → Reported x
    → (none_there : Record)
    → ((get_or (report_of i items rest).outer (outer_count before) none_there).trust ≡ Authenticated)
    ↔ OpenedLater i (seals_in (before ++ (x ∷ []))) later
authenticated_in_the_report i items rest cut before x later e shown d =
    let here : (get_or (report_of i items rest).outer (outer_count before) d).trust ≡ trust_before later =
    ap (λ (l : List Item). (get_or (outer_records i.version i.header_size l) (outer_count before) d).trust) e
    ∙ ap (λ (r : Record). r.trust) (record_of_item before x later i.version i.header_size d shown)
    ∙ trust_of x shown in
    let w = authenticated_exactly i items rest cut before x later e in
    ((λ t. w.0 (sym here ∙ t)), (λ o. here ∙ w.1 o))
  where
    trust_of : (y : Item) → Reported y
        → (item_record i.version (i.header_size + length (item_bytes before)) y (trust_before later)).trust ≡ trust_before later
    trust_of (plain f) h = refl
    trust_of (shut f) h = refl
    trust_of (opened f fs) h = absurd h

pub encrypted_exactly : (i : Input) (items : List Item) (rest : List ℕ)
    → All (λ (r : Record). r.trust ≡ Encrypted) (report_of i items rest).inner
    × All (λ (r : Record). r.trust ≡ Encrypted → ⊥) (report_of i items rest).outer
encrypted_exactly i items rest = (inner_encrypted items i 0, outer_not_encrypted items i.version i.header_size)

-- 3, the bytes: those handed back for a record are the field's message
pub bytes_handed_back : (i : Input) (items : List Item) (rest : List ℕ) → Cut i items rest
    → (map (λ (x : Record). message_of i.packet i.lent.plain x) (report_of i items rest).outer ≡ outer_messages items)
    × (map (λ (x : Record). message_of i.packet i.lent.plain x) (report_of i items rest).inner ≡ inner_messages items)
bytes_handed_back i items rest cut = (
  outer_messages_law items i rest i.header_size cut.led.begins.whole,
  inner_messages_law items i rest 0 (items-laid i items rest cut.led),
)

bytes_of_both : (xs ys : List Item) → item_bytes (xs ++ ys) ≡ item_bytes xs ++ item_bytes ys
bytes_of_both [] ys = refl
bytes_of_both (x ∷ xs) ys =
    ap (λ (l : List ℕ). bytes_of (field_of x) ++ l) (bytes_of_both xs ys)
    ∙ sym (append_assoc (bytes_of (field_of x)) (item_bytes xs) (item_bytes ys))

-- 5, what a field is opened over: all bytes before it, those of the header and of the items before it
pub opened_over : (i : Input) (items : List Item) (rest : List ℕ) → Cut i items rest → (before : List Item) (x : Item) (later : List Item)
    → items ≡ before ++ (x ∷ later)
    → take (i.header_size + length (item_bytes before)) i.packet ≡ take i.header_size i.packet ++ item_bytes before
opened_over i items rest cut before x later e =
    let after = item_bytes (x ∷ later) ++ rest in
    let whole : drop i.header_size i.packet ≡ item_bytes before ++ after =
    cut.led.begins.whole
    ∙ ap (λ (l : List Item). item_bytes l ++ rest) e
    ∙ ap (λ (l : List ℕ). l ++ rest) (bytes_of_both before (x ∷ later))
    ∙ append_assoc (item_bytes before) (item_bytes (x ∷ later)) rest in
    take-add i.header_size (length (item_bytes before)) i.packet
    ∙ ap (λ (l : List ℕ). take i.header_size i.packet ++ take (length (item_bytes before)) l) whole
    ∙ ap (λ (l : List ℕ). take i.header_size i.packet ++ l) (take_at (item_bytes before) after (length (item_bytes before)) refl)

-- nothing else satisfies the promises: what was lent in the tables does not matter, and the reply is one
module _ (i : Input) (a b c d : List ℕ) (ha : length a ≡ capacity) (hb : length b ≡ capacity) (hc : length c ≡ capacity)
    (hd : length d ≡ capacity) where
  blank_alike : (used : ℕ) → capacity ≤ used → (over_table a [] used ≡ over_table c [] used) × (over_table b [] used ≡ over_table d [] used)
  blank_alike used h = (
    whole a [] used ha (omega arith) h ∙ sym (whole c [] used hc (omega arith) h),
    whole b [] used hb (omega arith) h ∙ sym (whole d [] used hd (omega arith) h),
  )

  fault_alike : (e : Option Refusal) → i.header_size ≤ length i.packet
      → on_fault e (end_of i) (length i.packet) a capacity b capacity ≡ on_fault e (end_of i) (length i.packet) c capacity d capacity
  fault_alike None h =
      let f = end_bounded i h in
      let es = outer_of (end_of i).lists in
      let is = (end_of i).lists.encrypted in
      rw (
        whole a es capacity ha f.outer (omega arith),
        whole c es capacity hc f.outer (omega arith),
        whole b is capacity hb f.inner (omega arith),
        whole d is capacity hd f.inner (omega arith),
      )
  fault_alike (Some q) h =
      let p = blank_alike (max capacity (length (outer_of (end_of i).lists))) (omega arith) in
      let p' = blank_alike (max capacity (length (end_of i).lists.encrypted)) (omega arith) in
      rw (p.0, p'.1)

  tables_alike : read_of i a b ≡ read_of i c d
  unfolding read_over
  tables_alike = go (ltb 65535 (length i.packet)) (ltb (length i.packet) i.header_size) refl
    where
      go : (x y : Bool) → ltb (length i.packet) i.header_size ≡ y
          → first_of
          (x ⇒ refusing_read PacketTooLong 0 (over_table a [] capacity) (over_table b [] capacity)
          ∷ y ⇒ refusing_read HeaderPastEnd 0 (over_table a [] capacity) (over_table b [] capacity)
          ∷ [])
          (on_fault (end_of i).fault (end_of i) (length i.packet) a capacity b capacity)
          ≡ first_of
          (x ⇒ refusing_read PacketTooLong 0 (over_table c [] capacity) (over_table d [] capacity)
          ∷ y ⇒ refusing_read HeaderPastEnd 0 (over_table c [] capacity) (over_table d [] capacity)
          ∷ [])
          (on_fault (end_of i).fault (end_of i) (length i.packet) c capacity d capacity)
      go true y e =
          let p = blank_alike capacity (omega arith) in
          rw (p.0, p.1)
      go false true e =
          let p = blank_alike capacity (omega arith) in
          rw (p.0, p.1)
      go false false e = fault_alike (end_of i).fault (ltb-false _ _ e)

pub one_reply : (i : Input) (a b c d : List ℕ) → length a ≡ capacity → length b ≡ capacity → length c ≡ capacity → length d ≡ capacity
    → (r s : Read) {o n p m : List ℕ}
    → reply_of r o n ≡ read_of i a b
    → reply_of s p m ≡ read_of i c d
    → (r ≡ s) × (o ≡ p) × (n ≡ m)
one_reply i a b c d ha hb hc hd r s f g =
    let e = f ∙ tables_alike i a b c d ha hb hc hd ∙ sym g in (
      ap (λ (x : ReadReply). x.answer) e,
      ap (λ (x : ReadReply). x.outer) e,
      ap (λ (x : ReadReply). x.inner) e,
    )

pub one_survey : (p : List ℕ) (header : ℕ) (v : Version) (a b : List ℕ) → length a ≡ capacity → length b ≡ capacity
    → (r s : Result ℕ SurveyFault) {t u : List ℕ}
    → survey_reply r t ≡ survey_of p header v a
    → survey_reply s u ≡ survey_of p header v b
    → (r ≡ s) × (t ≡ u)
unfolding survey_of
one_survey p header v a b ha hb r s f g = (
  ap (λ (x : SurveyReply (Result ℕ SurveyFault)). x.answer) f ∙ sym (ap (λ (x : SurveyReply (Result ℕ SurveyFault)). x.answer) g),
  ap (λ (x : SurveyReply (Result ℕ SurveyFault)). x.table) f
      ∙ table_whole p header v a ha
      ∙ sym (table_whole p header v b hb)
      ∙ sym (ap (λ (x : SurveyReply (Result ℕ SurveyFault)). x.table) g),
)
