-- The whole walk, both ways: over a cut it comes to the end with the lists of its items, and where there is no cut it stops at the
-- first fault.
use Rattle.std.specs.Prelude.{Some, None, ◌≡◌, drop}
use Rattle.std.proofs.Math.Path.{refl}
use Rattle.std.proofs.Common.{sym, ap, subst, ◌∙◌, length-drop}
use mathlib.Core.List.{List, [], ◌∷◌, ◌++◌, append_assoc, append-nil}
use Prim.Native.Nat.{ℕ, zero, suc, ◌+◌, ◌-◌, ◌≤◌, ◌<◌}
use native.Mathlib.Omega.{arith}
use Rattle.std.proofs.Math.ListN.{length, length-append}
use Rattle.base_answers.specs.declared.Refusal.{Refusal}
use Rattle.base_big_endian.specs.Meant.{Bytes}
use Rattle.read_entries.specs.Meant.{capacity}
use Rattle.layout.specs.Meant.{cutoff_of, Field, bytes_of}
use Rattle.read_packet.specs.Meant.{Input}
use Rattle.read_packet.specs.ModelWalk.{Lists, outer_of, Turn, turn, Ended, on_turn, walk_from}
use Rattle.claim_one_cut.specs.MeantCut.{Item, plain, shut, opened, field_of, item_bytes, Holds, outer_count, inner_count_of}
use Rattle.claim_one_cut.specs.MeantFaults.{OuterFault}
use Rattle.field_frame.specs.LawsLayout.{left_of, next_here}
use Rattle.layout.proofs.Laws.{size_of}
use Rattle.claim_one_cut.proofs.LawsSteps.{Lies, end_step}
use Rattle.claim_one_cut.proofs.LawsPlaintexts.{plaintext_entries}
use Rattle.claim_one_cut.proofs.LawsLaid.{next, seal_number, Laid, ReadyFor, Readied}
use Rattle.claim_one_cut.proofs.LawsTurns.{lists_after, Room, turn_takes, Turned, finishes, stops, takes, turned}

-- the lists after items
abbrev pub after_all : Input → ℕ → Lists → List Item → Lists
after_all i at s [] = s
after_all i at s (x ∷ xs) = after_all i (at + length (bytes_of (field_of x))) (lists_after i at s x) xs

length_entries : (seal at : ℕ) (fs : List Field) → length (plaintext_entries seal at fs) ≡ length fs
length_entries seal at [] = refl
length_entries seal at (f ∷ fs) = ap suc (length_entries seal (at + length (bytes_of f)) fs)

-- what an item adds to the counts
module _ (i : Input) (at : ℕ) (s : Lists) where
  pub seals_after : (x : Item) → (lists_after i at s x).seals ≡ next s.seals x
  seals_after (plain f) = refl
  seals_after (shut f) = refl
  seals_after (opened f fs) = refl

  pub outer_after : (x : Item) (xs : List Item)
      → length (outer_of (lists_after i at s x)) + outer_count xs ≡ length (outer_of s) + outer_count (x ∷ xs)
  outer_after (plain f) xs =
      omega (
        arith,
        length-append s.authenticated s.untrusted,
        length-append s.authenticated (lists_after i at s (plain f)).untrusted,
        added,
      )
    where
      added : length (lists_after i at s (plain f)).untrusted ≡ length s.untrusted + 1
      added = length-append s.untrusted _
  outer_after (shut f) xs =
      omega (
        arith,
        length-append s.authenticated s.untrusted,
        length-append s.authenticated (lists_after i at s (shut f)).untrusted,
        added,
      )
    where
      added : length (lists_after i at s (shut f)).untrusted ≡ length s.untrusted + 1
      added = length-append s.untrusted _
  outer_after (opened f fs) xs = omega (arith, ap (λ (l : List ℕ). length l) (append-nil (outer_of s)))

  pub inner_after : (x : Item) (xs : List Item)
      → length (lists_after i at s x).encrypted + inner_count_of xs ≡ length s.encrypted + inner_count_of (x ∷ xs)
  inner_after (plain f) xs = refl
  inner_after (shut f) xs = refl
  inner_after (opened f fs) xs =
      omega
      (arith, length-append s.encrypted (plaintext_entries s.seals 0 fs), length_entries s.seals 0 fs)

  pub room_for : (x : Item) (xs : List Item) → length (outer_of s) + outer_count (x ∷ xs) ≤ capacity
      → length s.encrypted + inner_count_of (x ∷ xs) ≤ capacity
      → Room s x
  room_for (plain f) xs a b = omega arith
  room_for (shut f) xs a b = omega arith
  room_for (opened f fs) xs a b = omega arith

abbrev reached : ℕ → Lists → Ended
reached at s = record { fault = None; at = at; lists = s }

rests : (i : Input) (most at : ℕ) (s : Lists) → length i.packet - at ≤ cutoff_of i.version → walk_from most i at s ≡ reached at s
unfolding walk_from turn
rests i zero at s h = refl
rests i (suc most) at s h = rw (end_step i.version (cutoff_of i.version) i.packet at h)

-- a cut is walked to its end
pub walked : (xs : List Item) (i : Input) (rest : List ℕ) (most at : ℕ) (s : Lists) → drop at i.packet ≡ item_bytes xs ++ rest
    → Laid i s.seals xs rest
    → length rest ≤ cutoff_of i.version
    → Readied i s.seals xs
    → length i.packet < at + most
    → length (outer_of s) + outer_count xs ≤ capacity
    → length s.encrypted + inner_count_of xs ≤ capacity
    → walk_from most i at s ≡ reached (at + length (item_bytes xs)) (after_all i at s xs)
unfolding walk_from
walked [] i rest most at s e l over g enough a b =
    let place : at + 0 ≡ at = omega arith in
    rw place (rests i most at s (rw (left_of i.packet at e) over))
walked (x ∷ xs) i rest zero at s e l over g enough a b =
    absurd
    (omega (
      arith,
      left_of i.packet at e,
      length-append (bytes_of (field_of x) ++ item_bytes xs) rest,
      length-append (bytes_of (field_of x)) (item_bytes xs),
      size_of (field_of x),
    ))
walked (x ∷ xs) i rest (suc most) at s e l over g enough a b =
    let f = field_of x in
    let assoc = append_assoc (bytes_of f) (item_bytes xs) rest in
    let e' : drop at i.packet ≡ bytes_of f ++ (item_bytes xs ++ rest) = e ∙ assoc in
    let here =
    turn_takes i at s x (item_bytes xs ++ rest) e'
    (subst (λ (l : List ℕ). cutoff_of i.version < length l) assoc l.0) l.1 l.2 g.0 (room_for i at s x xs a b) in
    let seals = seals_after i at s x in
    let laid' : Laid i (lists_after i at s x).seals xs rest = rw seals l.3 in
    let ready' : Readied i (lists_after i at s x).seals xs = rw seals g.1 in
    let later =
    walked xs i rest most (at + length (bytes_of f)) (lists_after i at s x) (next_here i.packet at i.version f (item_bytes xs ++ rest) e')
    laid' over ready'
    (omega (arith, size_of f)) (omega (arith, outer_after i at s x xs)) (omega (arith, inner_after i at s x xs)) in
    let place : at + length (bytes_of f) + length (item_bytes xs) ≡ at + length (bytes_of f ++ item_bytes xs) =
    omega (arith, length-append (bytes_of f) (item_bytes xs)) in
    rw (here, ← place) later

-- what is left at a place can be cut
pub record Cuttable (i : Input) (at : ℕ) (s : Lists) : Type 0 where
  pub items : List Item
  pub rest : List ℕ
  pub whole : drop at i.packet ≡ item_bytes items ++ rest
  pub laid : Laid i s.seals items rest
  pub over : length rest ≤ cutoff_of i.version
  pub ready : Readied i s.seals items
  pub outer : length (outer_of s) + outer_count items ≤ capacity
  pub inner : length s.encrypted + inner_count_of items ≤ capacity

-- or there is a fault after lawful items
pub record Halted (i : Input) (at : ℕ) (s : Lists) (r : Refusal) (place : ℕ) : Type 0 where
  pub items : List Item
  pub left : List ℕ
  pub whole : drop at i.packet ≡ item_bytes items ++ left
  pub laid : Laid i s.seals items left
  pub ready : Readied i s.seals items
  pub outer : length (outer_of s) + outer_count items ≤ capacity
  pub inner : length s.encrypted + inner_count_of items ≤ capacity
  pub starts : cutoff_of i.version < length left
  pub fault : OuterFault i (seal_number s.seals items) (length (outer_of s) + outer_count items)
      (length s.encrypted + inner_count_of items)
      left
      r
  pub placed : place ≡ at + length (item_bytes items)

pub data Decided (i : Input) (at : ℕ) (s : Lists) (e : Ended) : Type 0 where
  cuttable : Cuttable i at s → Decided i at s e
  halted : (r : Refusal) → e.fault ≡ Some r → Halted i at s r e.at → Decided i at s e

module _ (i : Input) (at : ℕ) (s : Lists) where
  nothing_more : length (outer_of s) ≤ capacity → length s.encrypted ≤ capacity → length i.packet - at ≤ cutoff_of i.version
      → Cuttable i at s
  nothing_more a b h = record {
    items = [];
    rest = drop at i.packet;
    whole = refl;
    laid = tt;
    over = rw (length-drop at i.packet) h;
    ready = tt;
    outer = omega arith;
    inner = omega arith;
  }

  stops_here : {r : Refusal} → length (outer_of s) ≤ capacity → length s.encrypted ≤ capacity → cutoff_of i.version < length i.packet - at
      → OuterFault i s.seals (length (outer_of s)) (length s.encrypted) (drop at i.packet) r
      → Halted i at s r at
  stops_here o n more fault =
      let a : length (outer_of s) + 0 ≡ length (outer_of s) = omega arith in
      let b : length s.encrypted + 0 ≡ length s.encrypted = omega arith in
      record {
        items = [];
        left = drop at i.packet;
        whole = refl;
        laid = tt;
        ready = tt;
        outer = omega arith;
        inner = omega arith;
        starts = rw (length-drop at i.packet) more;
        fault = rw (a, b) fault;
        placed = omega arith;
      }

  module _ (x : Item) (more : cutoff_of i.version < length i.packet - at) (here : Lies i.version i.packet at (field_of x))
      (holds : Holds i s.seals x) (ready : ReadyFor i s.seals x) where
    -- an item in front of others
    in_front : (xs : List Item) (left : List ℕ)
        → drop (at + length (bytes_of (field_of x))) i.packet ≡ item_bytes xs ++ left
        → drop at i.packet ≡ item_bytes (x ∷ xs) ++ left
    in_front xs left e =
        here.whole
        ∙ ap (λ (l : List ℕ). bytes_of (field_of x) ++ l) e
        ∙ sym (append_assoc (bytes_of (field_of x)) (item_bytes xs) left)

    laid_in_front : (xs : List Item) (left : List ℕ)
        → drop (at + length (bytes_of (field_of x))) i.packet ≡ item_bytes xs ++ left
        → Laid i (lists_after i at s x).seals xs left
        → Laid i s.seals (x ∷ xs) left
    laid_in_front xs left e l = (
      subst (λ (n : ℕ). cutoff_of i.version < n) (left_of i.packet at (in_front xs left e)) more,
      here.shaped,
      holds,
      subst (λ (n : ℕ). Laid i n xs left) (seals_after i at s x) l,
    )

    ready_in_front : (xs : List Item) → Readied i (lists_after i at s x).seals xs → Readied i s.seals (x ∷ xs)
    ready_in_front xs g = (ready, subst (λ (n : ℕ). Readied i n xs) (seals_after i at s x) g)

    longer : Cuttable i (at + length (bytes_of (field_of x))) (lists_after i at s x) → Cuttable i at s
    longer c = record {
      items = x ∷ c.items;
      rest = c.rest;
      whole = in_front c.items c.rest c.whole;
      laid = laid_in_front c.items c.rest c.whole c.laid;
      over = c.over;
      ready = ready_in_front c.items c.ready;
      outer = omega (arith, c.outer, outer_after i at s x c.items);
      inner = omega (arith, c.inner, inner_after i at s x c.items);
    }

    further : {r : Refusal} {place : ℕ} → Halted i (at + length (bytes_of (field_of x))) (lists_after i at s x) r place → Halted i at s r place
    further {r} h =
        let n = seal_number (next s.seals x) h.items in
        record {
          items = x ∷ h.items;
          left = h.left;
          whole = in_front h.items h.left h.whole;
          laid = laid_in_front h.items h.left h.whole h.laid;
          ready = ready_in_front h.items h.ready;
          outer = omega (arith, h.outer, outer_after i at s x h.items);
          inner = omega (arith, h.inner, inner_after i at s x h.items);
          starts = h.starts;
          fault =
              rw (← outer_after i at s x h.items, ← inner_after i at s x h.items)
              (subst
              (λ (k : ℕ).
              OuterFault i (seal_number k h.items) (length (outer_of (lists_after i at s x)) + outer_count h.items)
              (length (lists_after i at s x).encrypted + inner_count_of h.items) h.left r)
              (seals_after i at s x) h.fault);
          placed = h.placed ∙ omega (arith, length-append (bytes_of (field_of x)) (item_bytes h.items));
        }

    onward : {e : Ended} → Decided i (at + length (bytes_of (field_of x))) (lists_after i at s x) e → Decided i at s e
    onward (cuttable c) = cuttable (longer c)
    onward (halted r q h) = halted r q (further h)

module _ (i : Input) (b : Bytes i.packet) (c : Bytes i.lent.plain) where
  abbrev Decides : ℕ → Type 0
  Decides most =
      (at : ℕ) (s : Lists) → length i.packet < at + most → at ≤ length i.packet → length (outer_of s) ≤ capacity
      → length s.encrypted ≤ capacity
      → Decided i at s (walk_from most i at s)

  pub decided : (most : ℕ) → Decides most
  unfolding walk_from
  decided zero at s enough inside o n = absurd (omega arith)
  decided (suc most) at s enough inside o n = go (decided most) (turn i at s) (turned i at s b c n)
    where
      go : Decides most → (t : Turn) → Turned i at s t → Decided i at s (on_turn t at s (λ at' u. walk_from most i at' u))
      go later t (finishes h) = cuttable (nothing_more i at s o n h)
      go later t (stops {r} more fault) = halted r refl (stops_here i at s o n more fault)
      go later t (takes x more here holds ready room) =
          let f = field_of x in
          let left : length i.packet - at ≡ length (bytes_of f) + length (drop (at + length (bytes_of f)) i.packet) =
          left_of i.packet at here.whole ∙ length-append (bytes_of f) (drop (at + length (bytes_of f)) i.packet) in
          onward i at s x more here holds ready
          (later (at + length (bytes_of f)) (lists_after i at s x) (omega (arith, size_of f)) (omega arith)
          (omega (arith, outer_after i at s x [], outer_room x room))
          (omega (arith, inner_after i at s x [], inner_room x room)))
        where
          outer_room : (x : Item) → Room s x → length (outer_of s) + outer_count (x ∷ []) ≤ capacity
          outer_room (plain f) r = omega arith
          outer_room (shut f) r = omega arith
          outer_room (opened f fs) r = omega arith

          inner_room : (x : Item) → Room s x → length s.encrypted + inner_count_of (x ∷ []) ≤ capacity
          inner_room (plain f) r = omega arith
          inner_room (shut f) r = omega arith
          inner_room (opened f fs) r = omega arith
