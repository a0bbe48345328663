-- The reader reports exactly the cut, and else the first fault: for any answer and tables that meet its promise.
use Rattle.std.specs.Prelude.{Option, Some, None, ◌≡◌, Bool, List, ◌++◌, map, ℕ, suc, ◌+◌, ◌-◌, ◌^◌, ◌≤◌, ◌<◌, length, take, drop}
use Rattle.std.proofs.Math.Path.{refl}
use Rattle.std.proofs.Common.{sym, ap, ◌∙◌, append_assoc, arith, take_at, drop_at, drop-drop}
use Rattle.std.proofs.Math.Bool.{true, false}
use borrow.Author.Tests.{le-ltb, ltb-true, ltb-false}
use Rattle.std.proofs.Math.Dec.{ltb}
use Rattle.std.proofs.Math.Seq.{drop-append_seam}
use Rattle.base_answers.specs.Meant.{pick}
use Rattle.base_answers.specs.declared.Refusal.{Refusal}
use Rattle.base_answers.specs.declared.Refusal.TheVariants.{HeaderPastEnd, PacketTooLong}
use Rattle.read_entries.specs.Meant.{capacity, over_table}
use Rattle.read_entries.specs.LawsTables.{fronted}
use Rattle.read_packet.specs.Meant.{Input, ReadReply}
use Rattle.read_packet.specs.ModelWalk.{Lists, empty, outer_of, Ended, end_of}
use Rattle.read_packet.specs.ModelReply.{reply_of, lists_read, on_fault, read_over}
use Rattle.read_packet.specs.LawsBounds.{end_bounded}
use Rattle.read_packet.specs.declared.Read.{Read}
use Rattle.read_packet.specs.declared.Read.TheVariants.{Accepted, DecryptError, Refused}
use Rattle.read_records.specs.Model.{inner_record}
use Rattle.claim_one_cut.specs.MeantCut.{Item, item_bytes, Cut, Supplied, Within, outer_count, inner_count_of}
use Rattle.claim_one_cut.specs.MeantFaults.{FirstFault, long, past_end, stopped}
use Rattle.claim_one_cut.specs.MeantReport.{opens, fails, outer_records, inner_records}
use Rattle.claim_one_cut.proofs.LawsLaid.{numbered, laid as items-laid, led, supply, supplied}
use Rattle.claim_one_cut.proofs.LawsWalks.{after_all, walked, Decided, cuttable, halted, decided}
use Rattle.claim_one_cut.proofs.LawsTables.{listed, marked, outer_listed, inner_listed, cookie_reported, failed_listed}
use Rattle.claim_one_cut.specs.ModelReport.{Lendable, reported, Answered, report_of}

-- the answer to lists that were read to the end
abbrev pub answer_to : Bool → ℕ → ℕ → ℕ → ℕ → Option ℕ → Read
answer_to b a u e rest c = pick b (DecryptError a u e rest) (Accepted a u e rest c)

-- what is taken from that answer and from tables with the lists in front
taken_listed : (i : Input) (b : Bool) (s : Lists) (rest : ℕ) (c : Option ℕ) (xs ys : List ℕ)
    → reported i (answer_to b (length s.authenticated) (length s.untrusted) (length s.encrypted) rest c) (outer_of s ++ xs)
    (s.encrypted ++ ys)
    ≡ Some (record {
      number = pick b 5 0;
      outer = listed i.version s;
      inner = map (λ (x : ℕ). inner_record x i.version i.lent.starts) s.encrypted;
      remainder = drop (length i.packet - rest) i.packet;
      cookie = pick b None c;
    })
taken_listed i b s rest c xs ys = go b c
  where
    split : outer_of s ++ xs ≡ s.authenticated ++ (s.untrusted ++ xs)
    split = append_assoc s.authenticated s.untrusted xs

    first : take (length s.authenticated) (outer_of s ++ xs) ≡ s.authenticated
    first = rw split (take_at s.authenticated (s.untrusted ++ xs) (length s.authenticated) refl)

    second : take (length s.untrusted) (drop (length s.authenticated) (outer_of s ++ xs)) ≡ s.untrusted
    second =
        rw (split, drop_at s.authenticated (s.untrusted ++ xs) (length s.authenticated) refl)
        (take_at s.untrusted xs (length s.untrusted) refl)

    third : take (length s.encrypted) (s.encrypted ++ ys) ≡ s.encrypted
    third = take_at s.encrypted ys (length s.encrypted) refl

    go : (b : Bool) (c : Option ℕ)
        → reported i (answer_to b (length s.authenticated) (length s.untrusted) (length s.encrypted) rest c) (outer_of s ++ xs)
        (s.encrypted ++ ys)
        ≡ Some (record {
          number = pick b 5 0;
          outer = listed i.version s;
          inner = map (λ (x : ℕ). inner_record x i.version i.lent.starts) s.encrypted;
          remainder = drop (length i.packet - rest) i.packet;
          cookie = pick b None c;
        })
    go true c = rw (first, second, third)
    go false c = rw (first, second, third)

-- a packet within the sizes with a cut: what the walk comes to
module _ (i : Input) (items : List Item) (rest : List ℕ) (cut : Cut i items rest) (ready : Supplied i items) (sizes : Within i items) where
  abbrev pub lists : Lists
  lists = after_all i i.header_size empty items

  abbrev pub place : ℕ
  place = i.header_size + length (item_bytes items)

  to_the_end : end_of i ≡ record { fault = None; at = place; lists = lists }
  unfolding end_of
  to_the_end =
      walked items i rest (suc (length i.packet)) i.header_size empty cut.led.begins.whole (items-laid i items rest cut.led)
      cut.over (supply i items ready) (omega arith) (omega (arith, sizes.outer)) (omega (arith, sizes.inner))

  pub rest_is : drop place i.packet ≡ rest
  rest_is =
      sym (drop-drop (length (item_bytes items)) i.header_size i.packet)
      ∙ ap (λ (l : List ℕ). drop (length (item_bytes items)) l) cut.led.begins.whole
      ∙ drop-append_seam (item_bytes items) rest

  pub place_inside : place ≤ length i.packet
  place_inside = rw (ap (λ (e : Ended). e.at) (sym to_the_end)) (end_bounded i sizes.header_size).inside

  pub outer_is : listed i.version lists ≡ outer_records i.version i.header_size items
  outer_is =
      outer_listed items i rest i.header_size empty sizes.packet sizes.header_size cut.led.begins.whole
      (items-laid i items rest cut.led)
      ∙ nothing_marked (opens items)
    where
      nothing_marked : (b : Bool) → marked i.version b empty ++ outer_records i.version i.header_size items
          ≡ outer_records i.version i.header_size items
      nothing_marked true = refl
      nothing_marked false = refl

  inner_is : length i.lent.plain < 2 ^ 64
      → map (λ (x : ℕ). inner_record x i.version i.lent.starts) lists.encrypted ≡ inner_records i 0 items
  inner_is h = inner_listed items i rest i.header_size empty h (items-laid i items rest cut.led) (supply i items ready)

  pub failed_is : lists.failed ≡ fails items
  failed_is = failed_listed items i i.header_size empty ∙ same (fails items)
    where
      same : (b : Bool) → pick b true false ≡ b
      same true = refl
      same false = refl

  pub tables_fit : (length (outer_of lists) ≤ capacity) × (length lists.encrypted ≤ capacity)
  tables_fit =
      let b = end_bounded i sizes.header_size in
      let e = ap (λ (x : Ended). x.lists) to_the_end in (
        rw (ap (λ (s : Lists). length (outer_of s)) (sym e)) b.outer,
        rw (ap (λ (s : Lists). length s.encrypted) (sym e)) b.inner,
      )

  module _ (r : Read) {o n : List ℕ} (a : Answered i r o n) where
    pub listed_reply : reply_of r o n
        ≡ record {
          answer = lists_read lists (length i.packet - place);
          outer = over_table a.outer (outer_of lists) a.used_outer_law;
          inner = over_table a.inner lists.encrypted a.used_inner_law;
        }
    unfolding read_over
    listed_reply =
        a.promise
        ∙ rw (le-ltb 65535 (length i.packet) sizes.packet, le-ltb (length i.packet) i.header_size sizes.header_size, to_the_end)

    pub answer_is : r
        ≡ answer_to lists.failed (length lists.authenticated) (length lists.untrusted) (length lists.encrypted)
        (length i.packet - place) lists.cookie
    answer_is = ap (λ (x : ReadReply). x.answer) listed_reply

    -- a cut is reported
    pub cut_reported : length i.lent.plain < 2 ^ 64 → reported i r o n ≡ Some (report_of i items rest)
    cut_reported h =
        let tables = tables_fit in
        let front = fronted a.outer (outer_of lists) a.used_outer_law a.outer_size tables.0 in
        let front' = fronted a.inner lists.encrypted a.used_inner_law a.inner_size tables.1 in
        let outers : o ≡ outer_of lists ++ front.after = ap (λ (x : ReadReply). x.outer) listed_reply ∙ front.is in
        let inners : n ≡ lists.encrypted ++ front'.after = ap (λ (x : ReadReply). x.inner) listed_reply ∙ front'.is in
        let back : length i.packet - (length i.packet - place) ≡ place = omega (arith, place_inside) in
        rw (answer_is, outers, inners)
        (taken_listed i lists.failed lists (length i.packet - place) lists.cookie front.after front'.after
        ∙ rw (outer_is, inner_is h, failed_is, cookie_reported items i i.header_size, back, rest_is))

-- what an answer and its tables say of a packet: they report the cut, or refuse for the first fault
pub data Says (i : Input) (r : Read) (o n : List ℕ) : Type 0 where
  reports : (items : List Item) (rest : List ℕ) → Cut i items rest → Supplied i items → Within i items
      → reported i r o n ≡ Some (report_of i items rest)
      → Says i r o n
  refuses : (q : Refusal) (offset : ℕ) → FirstFault i q offset → r ≡ Refused q offset → Says i r o n

module _ (i : Input) (ok : Lendable i) (r : Read) {o n : List ℕ} (a : Answered i r o n) where
  abbrev reply : ReadReply
  reply = read_over i a.outer a.used_outer_law a.inner a.used_inner_law

  -- a refusal is told as it is
  refused_so : (q : Refusal) (offset : ℕ) → reply.answer ≡ Refused q offset → r ≡ Refused q offset
  refused_so q offset e = ap (λ (x : ReadReply). x.answer) a.promise ∙ e

  module _ (small : length i.packet ≤ 65535) (header : i.header_size ≤ length i.packet) where
    sized_reply : reply
        ≡ on_fault (end_of i).fault (end_of i) (length i.packet) a.outer a.used_outer_law a.inner a.used_inner_law
    unfolding read_over
    sized_reply = rw (le-ltb 65535 (length i.packet) small, le-ltb (length i.packet) i.header_size header)

    walk_says : Decided i i.header_size empty (end_of i) → Says i r o n
    walk_says (cuttable c) =
        let cut : Cut i c.items c.rest = record { led = led i c.items c.rest c.whole c.laid; over = c.over } in
        let ready = supplied i c.items c.ready in
        let sizes : Within i c.items =
        record { packet = small; header_size = header; outer = omega (arith, c.outer); inner = omega (arith, c.inner) } in
        reports c.items c.rest cut ready sizes
        (cut_reported i c.items c.rest cut ready sizes r a ok.size)
    walk_says (halted q e h) =
        let none_before : 0 + outer_count h.items ≡ outer_count h.items = omega arith in
        let none_inside : 0 + inner_count_of h.items ≡ inner_count_of h.items = omega arith in
        let stop =
        stopped small header
        (record {
          items = h.items;
          left = h.left;
          led = led i h.items h.left h.whole h.laid;
          supplied = supplied i h.items h.ready;
          outer = omega (arith, h.outer);
          inner = omega (arith, h.inner);
          starts = h.starts;
          fault = rw (numbered h.items, none_before, none_inside) at h.fault;
          place = h.placed;
        }) in
        refuses q (end_of i).at stop (refused_so q (end_of i).at (ap (λ (x : ReadReply). x.answer) sized_reply ∙ rw e))

  pub says : Says i r o n
  unfolding end_of read_over
  says = go (ltb 65535 (length i.packet)) refl (ltb (length i.packet) i.header_size) refl
    where
      go : (x : Bool) → ltb 65535 (length i.packet) ≡ x → (y : Bool) → ltb (length i.packet) i.header_size ≡ y → Says i r o n
      go true e b f = refuses PacketTooLong 0 (long (ltb-true _ _ e)) (refused_so PacketTooLong 0 (rw e))
      go false e true f =
          refuses HeaderPastEnd 0 (past_end (ltb-false _ _ e) (ltb-true _ _ f)) (refused_so HeaderPastEnd 0 (rw (e, f)))
      go false e false f =
          walk_says (ltb-false _ _ e) (ltb-false _ _ f)
          (decided i ok.packet ok.plain (suc (length i.packet)) i.header_size empty (omega arith) (ltb-false _ _ f) (omega arith)
          (omega arith))
