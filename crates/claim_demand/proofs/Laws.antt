-- A reply that meets the promise of `read_packet::deserialize` meets demand 3.
use Rattle.std.specs.Prelude.{Option, Some, None, ◌≡◌, refl, Bool, true, false, List, [], ◌∷◌, ◌++◌, map, ℕ, ◌+◌, ◌-◌, ◌≤◌, max, ltb, length, take, drop}
use Rattle.std.proofs.Math.Path.{sym, ap}
use Rattle.std.proofs.Common.{◌∙◌, arith, length-drop, drop_at}
use Rattle.base_answers.specs.Meant.{pick, ◌⇒◌, first_of}
use Rattle.base_answers.specs.declared.Refusal.{Refusal}
use Rattle.base_answers.specs.declared.Refusal.TheVariants.{HeaderPastEnd, PacketTooLong}
use Rattle.base_version.specs.declared.Version.{Version}
use Rattle.read_entries.specs.Meant.{capacity, blanks, over_table}
use Rattle.read_entries.specs.LawsTables.{whole}
use Rattle.read_packet.specs.Meant.{Input, ReadReply, refusing_read}
use Rattle.read_packet.specs.ModelWalk.{Lists, empty, outer_of, end_of}
use Rattle.read_packet.specs.ModelReply.{reply_of, on_fault, read_over, read_of}
use Rattle.read_packet.specs.declared.Read.{Read}
use Rattle.read_packet.specs.declared.Read.TheVariants.{Accepted, DecryptError, Refused}
use Rattle.read_records.specs.Model.{outer_record, inner_record}
use Rattle.read_records.specs.declared.Record.{Record}
use Rattle.read_records.specs.declared.Trust.{Trust}
use Rattle.read_records.specs.declared.Trust.TheVariants.{Untrusted, Authenticated, Encrypted}
use Rattle.layout.specs.Meant.{bytes_of}
use Rattle.claim_one_cut.specs.MeantCut.{Item, plain, shut, opened, field_of, outer_count, inner_count_of}
use Rattle.claim_one_cut.specs.MeantReport.{opens, fails, cookie_of, outer_records, records_of, HasCut}
use Rattle.claim_one_cut.proofs.LawsTurns.{lists_after}
use Rattle.claim_one_cut.proofs.LawsWalks.{after_all, outer_after, inner_after}
use Rattle.claim_one_cut.proofs.LawsTables.{cookie_reported}
use Rattle.claim_one_cut.proofs.LawsExactly.{lists, place, rest_is, place_inside, outer_is, failed_is, tables_fit, listed_reply, answer_is}
use Rattle.claim_one_cut.proofs.LawsClaims as claims
use Rattle.claim_demand.specs.Meant.{HasLists, authenticated_in, untrusted_in, answer_of, blank, CutTells, Demand3}
use Rattle.claim_one_cut.specs.ModelReport.{reported, Report, Lendable, Answered, report_of, Listing}

-- records of a trust class
abbrev is_authenticated : Trust → ℕ
is_authenticated Untrusted = 0
is_authenticated Authenticated = 1
is_authenticated Encrypted = 0

abbrev is_untrusted : Trust → ℕ
is_untrusted Untrusted = 1
is_untrusted Authenticated = 0
is_untrusted Encrypted = 0

abbrev those : (Trust → ℕ) → List Record → ℕ
those f [] = 0
those f (r ∷ rs) = f r.trust + those f rs

those_append : (f : Trust → ℕ) (xs ys : List Record) → those f (xs ++ ys) ≡ those f xs + those f ys
those_append f [] ys = omega arith
those_append f (x ∷ xs) ys = omega (arith, those_append f xs ys)

all_of : (f : Trust → ℕ) (v : Version) (t : Trust) (es : List ℕ) → f t ≡ 1 → those f (map (λ (e : ℕ). outer_record e v t) es) ≡ length es
unfolding outer_record
all_of f v t [] h = refl
all_of f v t (e ∷ es) h = omega (arith, h, all_of f v t es h)

none_of : (f : Trust → ℕ) (v : Version) (t : Trust) (es : List ℕ) → f t ≡ 0 → those f (map (λ (e : ℕ). outer_record e v t) es) ≡ 0
unfolding outer_record
none_of f v t [] h = refl
none_of f v t (e ∷ es) h = omega (arith, h, none_of f v t es h)

picked : (f : Trust → ℕ) (b : Bool) → f (pick b Authenticated Untrusted) ≡ pick b (f Authenticated) (f Untrusted)
picked f true = refl
picked f false = refl

authenticated_records : (xs : List Item) (v : Version) (at : ℕ) → those is_authenticated (outer_records v at xs) ≡ authenticated_in xs
unfolding outer_records
authenticated_records [] v at = refl
authenticated_records (plain f ∷ xs) v at =
    omega (arith, picked is_authenticated (opens xs), authenticated_records xs v (at + length (bytes_of f)))
authenticated_records (shut f ∷ xs) v at =
    omega (arith, picked is_authenticated (opens xs), authenticated_records xs v (at + length (bytes_of f)))
authenticated_records (opened f fs ∷ xs) v at = authenticated_records xs v (at + length (bytes_of f))

untrusted_records : (xs : List Item) (v : Version) (at : ℕ) → those is_untrusted (outer_records v at xs) ≡ untrusted_in xs
unfolding outer_records
untrusted_records [] v at = refl
untrusted_records (plain f ∷ xs) v at =
    omega (arith, picked is_untrusted (opens xs), untrusted_records xs v (at + length (bytes_of f)))
untrusted_records (shut f ∷ xs) v at =
    omega (arith, picked is_untrusted (opens xs), untrusted_records xs v (at + length (bytes_of f)))
untrusted_records (opened f fs ∷ xs) v at = untrusted_records xs v (at + length (bytes_of f))

-- how many entries items make
outer_counted : (xs : List Item) (i : Input) (at : ℕ) (s : Lists)
    → length (outer_of (after_all i at s xs)) ≡ length (outer_of s) + outer_count xs
outer_counted [] i at s = omega arith
outer_counted (x ∷ xs) i at s =
    outer_counted xs i (at + length (bytes_of (field_of x))) (lists_after i at s x) ∙ outer_after i at s x xs

inner_counted : (xs : List Item) (i : Input) (at : ℕ) (s : Lists)
    → length (after_all i at s xs).encrypted ≡ length s.encrypted + inner_count_of xs
inner_counted [] i at s = omega arith
inner_counted (x ∷ xs) i at s =
    inner_counted xs i (at + length (bytes_of (field_of x))) (lists_after i at s x) ∙ inner_after i at s x xs

-- a table past its entries
past : (table es : List ℕ) (n : ℕ) → length table ≡ capacity → length es ≤ capacity → n ≡ length es
    → drop n (over_table table es capacity) ≡ blank (capacity - n)
past table es n h room e =
    rw (whole table es capacity h room (omega arith), e)
    (drop_at es (blanks (length es) capacity) (length es) refl)

-- a blank table
blanked : (table : List ℕ) (used : ℕ) → length table ≡ capacity → capacity ≤ used → over_table table [] used ≡ blank capacity
blanked table used h all = whole table [] used h (omega arith) all

-- the records in what is reported
abbrev outer_in : Option Report → List Record
outer_in None = []
outer_in (Some p) = p.outer

abbrev inner_in : Option Report → List Record
inner_in None = []
inner_in (Some p) = p.inner

-- a cookie is found again by its number

-- the records that are taken from an answer with lists
module _ (i : Input) (a u e rest : ℕ) (c : Option ℕ) (o n : List ℕ) (p : Report) where
  outer_taken : (b : Bool) → reported i (pick b (DecryptError a u e rest) (Accepted a u e rest c)) o n ≡ Some p
      → records_of i.version (take a o) (take u (drop a o)) ≡ p.outer
  outer_taken true h = ap (λ (x : Option Report). outer_in x) h
  outer_taken false h = ap (λ (x : Option Report). outer_in x) h

  inner_taken : (b : Bool) → reported i (pick b (DecryptError a u e rest) (Accepted a u e rest c)) o n ≡ Some p
      → map (λ (x : ℕ). inner_record x i.version i.lent.starts) (take e n) ≡ p.inner
  inner_taken true h = ap (λ (x : Option Report). inner_in x) h
  inner_taken false h = ap (λ (x : Option Report). inner_in x) h

module _ (i : Input) (ok : Lendable i) (a b : List ℕ) (ha : length a ≡ capacity) (hb : length b ≡ capacity) (r : Read) {o n : List ℕ}
    (promise : reply_of r o n ≡ read_of i a b) where
  abbrev answered : Answered i r o n
  answered = record {
    outer = a;
    used_outer_law = capacity;
    inner = b;
    used_inner_law = capacity;
    outer_size = ha;
    inner_size = hb;
    promise = promise;
  }

  module _ (c : HasCut i) where
    abbrev found : Lists
    found = lists i c.items c.rest c.cut c.supplied c.within

    authenticated_count_law : length found.authenticated ≡ authenticated_in c.items
    authenticated_count_law =
        let v = i.version in
        omega (
          arith,
          those_append is_authenticated (map (λ (e : ℕ). outer_record e v Authenticated) found.authenticated)
              (map (λ (e : ℕ). outer_record e v Untrusted) found.untrusted),
          all_of is_authenticated v Authenticated found.authenticated refl,
          none_of is_authenticated v Untrusted found.untrusted refl,
          ap (those is_authenticated) (outer_is i c.items c.rest c.cut c.supplied c.within),
          authenticated_records c.items v i.header_size,
        )

    untrusted_count_law : length found.untrusted ≡ untrusted_in c.items
    untrusted_count_law =
        let v = i.version in
        omega (
          arith,
          those_append is_untrusted (map (λ (e : ℕ). outer_record e v Authenticated) found.authenticated)
              (map (λ (e : ℕ). outer_record e v Untrusted) found.untrusted),
          none_of is_untrusted v Authenticated found.authenticated refl,
          all_of is_untrusted v Untrusted found.untrusted refl,
          ap (those is_untrusted) (outer_is i c.items c.rest c.cut c.supplied c.within),
          untrusted_records c.items v i.header_size,
        )

    encrypted_count_law : length found.encrypted ≡ inner_count_of c.items
    encrypted_count_law = omega (arith, inner_counted c.items i i.header_size empty)

    outer_total : length (outer_of found) ≡ outer_count c.items
    outer_total = omega (arith, outer_counted c.items i i.header_size empty)

    remainder_size : length i.packet - place i c.items c.rest c.cut c.supplied c.within ≡ length c.rest
    remainder_size =
        sym (length-drop (place i c.items c.rest c.cut c.supplied c.within) i.packet)
        ∙ ap (λ (l : List ℕ). length l) (rest_is i c.items c.rest c.cut c.supplied c.within)

    cookie_is : found.cookie ≡ cookie_of i 0 c.items
    cookie_is = cookie_reported c.items i i.header_size

    numbers : r ≡ answer_of i c.items c.rest
    numbers =
        answer_is i c.items c.rest c.cut c.supplied c.within r answered
        ∙ rw (
          authenticated_count_law,
          untrusted_count_law,
          encrypted_count_law,
          remainder_size,
          failed_is i c.items c.rest c.cut c.supplied c.within,
          cookie_is,
        )

    the_report : reported i (answer_of i c.items c.rest) o n ≡ Some (report_of i c.items c.rest)
    the_report = ap (λ (x : Read). reported i x o n) (sym numbers) ∙ claims.reports_the_cut i ok r answered c

    last_bytes : drop (length i.packet - length c.rest) i.packet ≡ c.rest
    last_bytes =
        let inside = place_inside i c.items c.rest c.cut c.supplied c.within in
        let back : length i.packet - length c.rest ≡ place i c.items c.rest c.cut c.supplied c.within =
        omega (arith, remainder_size, inside) in
        ap (λ (k : ℕ). drop k i.packet) back ∙ rest_is i c.items c.rest c.cut c.supplied c.within

    tells : CutTells i r o n c.items c.rest
    tells =
        let reply = listed_reply i c.items c.rest c.cut c.supplied c.within r answered in
        let fit = tables_fit i c.items c.rest c.cut c.supplied c.within in
        let handed = claims.bytes_handed_back i c.items c.rest c.cut in
        let classes = claims.encrypted_exactly i c.items c.rest in
        let cookie = cookie_of i 0 c.items in
        record {
          answer = numbers;
          outer =
              outer_taken i (authenticated_in c.items) (untrusted_in c.items) (inner_count_of c.items) (length c.rest) cookie o n
              (report_of i c.items c.rest) (fails c.items) the_report;
          inner =
              inner_taken i (authenticated_in c.items) (untrusted_in c.items) (inner_count_of c.items) (length c.rest) cookie o n
              (report_of i c.items c.rest) (fails c.items) the_report;
          outer_blank =
              ap (λ (x : ReadReply). drop (outer_count c.items) x.outer) reply
              ∙ past a (outer_of found) (outer_count c.items) ha fit.0 (sym outer_total);
          inner_blank =
              ap (λ (x : ReadReply). drop (inner_count_of c.items) x.inner) reply
              ∙ past b found.encrypted (inner_count_of c.items) hb fit.1 (sym encrypted_count_law);
          remainder = last_bytes;
          outer_bytes = handed.0;
          inner_bytes = handed.1;
          authenticated = claims.authenticated_in_the_report i c.items c.rest c.cut;
          encrypted = classes.0;
          nothing_else = classes.1;
        }

  -- an answer with lists is one that reports
  lists_reported : (x : Read) → HasLists x → Listing i x o n
  lists_reported (Accepted x u e rest c) h = record { report = _; is = refl }
  lists_reported (DecryptError x u e rest) h = record { report = _; is = refl }
  lists_reported (Refused q offset) h = absurd h

  reported_lists : (x : Read) → Listing i x o n → HasLists x
  reported_lists (Accepted x u e rest c) l = tt
  reported_lists (DecryptError x u e rest) l = tt
  reported_lists (Refused q offset) l =
      let e = l.is in
      let z : ◌≡◌ {A = ℕ} 0 1 = cc in
      omega arith

  -- both tables are blank after a refusal
  module _ (q : Refusal) (offset : ℕ) (refused : r ≡ Refused q offset) where
    abbrev Blank : ReadReply → Type 0
    Blank x = x.answer ≡ Refused q offset → (x.outer ≡ blank capacity) × (x.inner ≡ blank capacity)

    not_lists : (s : Lists) (rest : ℕ) (x : Bool) → pick x
        (DecryptError (length s.authenticated) (length s.untrusted) (length s.encrypted) rest)
        (Accepted (length s.authenticated) (length s.untrusted) (length s.encrypted) rest s.cookie)
        ≡ Refused q offset → ⊥
    not_lists s rest true e = let z : ◌≡◌ {A = ℕ} 0 1 = cc in omega arith
    not_lists s rest false e = let z : ◌≡◌ {A = ℕ} 0 1 = cc in omega arith

    by_fault : (e : Option Refusal) → Blank (on_fault e (end_of i) (length i.packet) a capacity b capacity)
    by_fault None h = absurd (not_lists (end_of i).lists (length i.packet - (end_of i).at) (end_of i).lists.failed h)
    by_fault (Some p) h = (
      blanked a (max capacity (length (outer_of (end_of i).lists))) ha (omega arith),
      blanked b (max capacity (length (end_of i).lists.encrypted)) hb (omega arith),
    )

    by_size : (x y : Bool) → Blank
        (first_of
        (x ⇒ refusing_read PacketTooLong 0 (over_table a [] capacity) (over_table b [] capacity)
        ∷ y ⇒ refusing_read HeaderPastEnd 0 (over_table a [] capacity) (over_table b [] capacity)
        ∷ [])
        (on_fault (end_of i).fault (end_of i) (length i.packet) a capacity b capacity))
    by_size true y h = (blanked a capacity ha (omega arith), blanked b capacity hb (omega arith))
    by_size false true h = (blanked a capacity ha (omega arith), blanked b capacity hb (omega arith))
    by_size false false h = by_fault (end_of i).fault h

    refused_blank : (o ≡ blank capacity) × (n ≡ blank capacity)
    unfolding read_over
    refused_blank =
        let same : (read_of i a b).answer ≡ Refused q offset = sym (ap (λ (x : ReadReply). x.answer) promise) ∙ refused in
        let w = by_size (ltb 65535 (length i.packet)) (ltb (length i.packet) i.header_size) same in (
          ap (λ (x : ReadReply). x.outer) promise ∙ w.0,
          ap (λ (x : ReadReply). x.inner) promise ∙ w.1,
        )

  pub demand3 : Demand3 i r o n
  demand3 =
      let exactly = claims.reports_exactly i ok r answered in
      record {
        reports_exactly = ((λ h. exactly.0 (lists_reported r h)), (λ c. reported_lists r (exactly.1 c)));
        reports_the_cut = tells;
        only_one_cut = claims.only_one_cut i;
        refuses_exactly = claims.refuses_exactly i ok r answered;
        refused_blank = refused_blank;
      }
