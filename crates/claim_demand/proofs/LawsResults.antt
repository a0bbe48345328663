-- Results past the last sealed field that was reached are not read: two lists of results that agree up to there get one answer. From
-- demand 3 alone.
use Rattle.std.specs.Prelude.{Option, ◌≡◌, Bool, true, false, ℕ, suc, ◌+◌, ◌≤◌, ◌<◌, ltb, length, take, drop}
use Rattle.std.proofs.Math.Path.{refl}
use Rattle.std.proofs.Common.{sym, ap, subst, ◌∙◌, arith, ltb-true, ltb-false}
use mathlib.Core.List.{List, [], ◌∷◌, ◌++◌}
use Rattle.base_answers.specs.Meant.{pick}
use Rattle.base_answers.specs.declared.Refusal.{Refusal}
use Rattle.layout.specs.Meant.{Field}
use Rattle.read_opening.specs.Meant.{Lent, results, start_of, len_of}
use Rattle.read_packet.specs.Meant.{Input}
use Rattle.read_packet.specs.declared.Read.{Read}
use Rattle.read_packet.specs.declared.Read.TheVariants.{Accepted, DecryptError, Refused}
use Rattle.claim_one_cut.specs.MeantCut.{Item, plain, shut, opened, inner_count_of, seals_in, plaintext_of, Holds, Led, Ready, Supplied, Filled}
use Rattle.claim_one_cut.specs.MeantFaults.{Unusable, unknown, outside, too_long, SealFault, no_sealing, no_result, unusable, no_marker, within, OuterFault, own, no_room, seal, Spoilt, Stopped, stopped}
use Rattle.claim_one_cut.specs.MeantReport.{fails, cookie_of, HasCut}
use Rattle.claim_demand.specs.Meant.{Demand3, answer_of, authenticated_in, untrusted_in, Agree, relent}

-- a sealed field has fewer before it than there are
shut_counts : (before : List Item) (f : Field) (later : List Item) → seals_in before < seals_in (before ++ (shut f ∷ later))
shut_counts [] f later = omega arith
shut_counts (plain g ∷ xs) f later = shut_counts xs f later
shut_counts (shut g ∷ xs) f later = omega (arith, shut_counts xs f later)
shut_counts (opened g gs ∷ xs) f later = omega (arith, shut_counts xs f later)

opened_counts : (before : List Item) (f : Field) (fs : List Field) (later : List Item)
    → seals_in before < seals_in (before ++ (opened f fs ∷ later))
opened_counts [] f fs later = omega arith
opened_counts (plain g ∷ xs) f fs later = opened_counts xs f fs later
opened_counts (shut g ∷ xs) f fs later = omega (arith, opened_counts xs f fs later)
opened_counts (opened g gs ∷ xs) f fs later = omega (arith, opened_counts xs f fs later)

abbrev answer_with : List Item → List ℕ → Option ℕ → Read
answer_with items rest c =
    pick (fails items) (DecryptError (authenticated_in items) (untrusted_in items) (inner_count_of items) (length rest))
    (Accepted (authenticated_in items) (untrusted_in items) (inner_count_of items) (length rest) c)

module _ (i : Input) (l : Lent) (m : ℕ) (same : Agree i.lent l m) where
  abbrev j : Input
  j = relent i l

  plaintexts : (k : ℕ) → k < m → plaintext_of i.lent k ≡ plaintext_of l k
  plaintexts k h =
      ap (λ (n : ℕ). take n (drop (start_of i.lent k) i.lent.plain)) (same.same_len k h)
      ∙ ap (λ (n : ℕ). take (len_of l k) (drop n i.lent.plain)) (same.same_start k h)
      ∙ ap (λ (p : List ℕ). take (len_of l k) (drop (start_of l k) p)) same.same_plain

  ready_again : (k : ℕ) → k < m → Ready i k → Ready j k
  ready_again k h r = record {
    lent = (same.same_lent k h).0 r.lent;
    known = omega (arith, r.known, same.same_verdict k h);
    short = λ s. omega (arith, r.short (omega (arith, s, same.same_verdict k h)), same.same_len k h);
    inside =
        λ s.
        omega (
          arith,
          r.inside (omega (arith, s, same.same_verdict k h)),
          same.same_len k h,
          same.same_start k h,
          ap (λ (p : List ℕ). length p) same.same_plain,
        );
  }

  holds_again : (before : List Item) (x : Item) (later : List Item) → seals_in (before ++ (x ∷ later)) ≤ m → Holds i (seals_in before) x
      → Holds j (seals_in before) x
  holds_again before (plain f) later h w = w
  holds_again before (shut f) later h w =
      let k : seals_in before < m = omega (arith, shut_counts before f later) in
      record { sealed = w.sealed; sealing = w.sealing; says = omega (arith, w.says, same.same_verdict (seals_in before) k) }
  holds_again before (opened f fs) later h w =
      let k : seals_in before < m = omega (arith, opened_counts before f fs later) in
      record {
        sealed = w.sealed;
        sealing = w.sealing;
        says = omega (arith, w.says, same.same_verdict (seals_in before) k);
        filled = subst (λ (p : List ℕ). Filled i.version p fs) (plaintexts (seals_in before) k) w.filled;
      }

  led_again : (items : List Item) (left : List ℕ) → seals_in items ≤ m → Led i items left → Led j items left
  led_again items left h w = record {
    begins = w.begins;
    each = λ before x later q. holds_again before x later (rw q at h) (w.each before x later q);
  }

  supplied_again : (items : List Item) → seals_in items ≤ m → Supplied i items → Supplied j items
  supplied_again items h s k small = ready_again k (omega arith) (s k small)

  cut_again : (c : HasCut i) → seals_in c.items ≤ m → HasCut j
  cut_again c h = record {
    items = c.items;
    rest = c.rest;
    cut = record { led = led_again c.items c.rest h c.cut.led; over = c.cut.over };
    supplied = supplied_again c.items h c.supplied;
    within = record {
      packet = c.within.packet;
      header_size = c.within.header_size;
      outer = c.within.outer;
      inner = c.within.inner;
    };
  }

  -- the cookie is that of a result below the number of sealed fields
  cookie_again : (items : List Item) (k : ℕ) → k + seals_in items ≤ m → cookie_of i k items ≡ cookie_of j k items
  unfolding cookie_of
  cookie_again [] k h = refl
  cookie_again (plain f ∷ xs) k h = cookie_again xs k h
  cookie_again (shut f ∷ xs) k h = cookie_again xs (k + 1) (omega arith)
  cookie_again (opened f fs ∷ xs) k h =
      rw (cookie_again xs (k + 1) (omega arith), same.same_verdict k (omega arith)) refl

  answers_alike : (items : List Item) (rest : List ℕ) → seals_in items ≤ m → answer_of i items rest ≡ answer_of j items rest
  answers_alike items rest h =
      ap (λ (c : Option ℕ). answer_with items rest c) (cookie_again items 0 (omega arith))

  unusable_again : (k : ℕ) → k < m → Unusable i k → Unusable j k
  unusable_again k h (unknown s) = unknown (omega (arith, s, same.same_verdict k h))
  unusable_again k h (outside s t) =
      outside (omega (arith, s, same.same_verdict k h))
      (omega (arith, t, same.same_len k h, same.same_start k h, ap (λ (p : List ℕ). length p) same.same_plain))
  unusable_again k h (too_long s t) = too_long (omega (arith, s, same.same_verdict k h)) (omega (arith, t, same.same_len k h))

  not_lent_again : (k : ℕ) → k < m → results i.lent ≤ k → results l ≤ k
  not_lent_again k h r = go (ltb k (results l)) refl
    where
      go : (b : Bool) → ltb k (results l) ≡ b → results l ≤ k
      go true e = absurd (omega (arith, r, (same.same_lent k h).1 (ltb-true k (results l) e)))
      go false e = ltb-false k (results l) e

  seal_again : (k n c : ℕ) (f : Field) (q : Refusal) → k < m → SealFault i k n c f q → SealFault j k n c f q
  seal_again k n c f q h (no_sealing s) = no_sealing s
  seal_again k n c f q h (no_result s r) = no_result s (not_lent_again k h r)
  seal_again k n c f q h (unusable s r u) = unusable s ((same.same_lent k h).0 r) (unusable_again k h u)
  seal_again k n c f q h (no_marker s r u w) =
      no_marker s ((same.same_lent k h).0 r) (omega (arith, u, same.same_verdict k h)) w
  seal_again k n c f q h (within s r u w) =
      within s (ready_again k h r) (omega (arith, u, same.same_verdict k h))
      (subst (λ (p : List ℕ). Spoilt i.version p c q) (plaintexts k h) w)

  outer_again : (k n c : ℕ) (left : List ℕ) (q : Refusal) → k < m → OuterFault i k n c left q → OuterFault j k n c left q
  outer_again k n c left q h (own w) = own w
  outer_again k n c left q h (no_room f w s t) = no_room f w s t
  outer_again k n c left q h (seal f w s t) = seal f w s (seal_again k n c f q h t)

-- a packet that is read to its end: results past its last sealed field
pub same_lists : (i : Input) (l : Lent) (c : HasCut i) → Agree i.lent l (seals_in c.items) → (r s : Read) {o n p q : List ℕ}
    → Demand3 i r o n
    → Demand3 (relent i l) s p q
    → r ≡ s
unfolding cut_again
same_lists i l c same r s d e =
    let m = seals_in c.items in
    (d.reports_the_cut c).answer
    ∙ answers_alike i l m same c.items c.rest (omega arith)
    ∙ sym (e.reports_the_cut (cut_again i l m same c (omega arith))).answer

-- a packet that is refused: results past the field at fault
pub same_refusal : (i : Input) (l : Lent) (q : Refusal) (offset : ℕ) → length i.packet ≤ 65535 → i.header_size ≤ length i.packet
    → (f : Stopped i q offset)
    → Agree i.lent l (suc (seals_in f.items))
    → (s : Read) {p t : List ℕ}
    → Demand3 (relent i l) s p t
    → s ≡ Refused q offset
same_refusal i l q offset small header f same s e =
    let m = suc (seals_in f.items) in
    (e.refuses_exactly q offset).1
    (stopped small header
    (record {
      items = f.items;
      left = f.left;
      led = led_again i l m same f.items f.left (omega arith) f.led;
      supplied = supplied_again i l m same f.items (omega arith) f.supplied;
      outer = f.outer;
      inner = f.inner;
      starts = f.starts;
      fault = outer_again i l m same (seals_in f.items) _ _ f.left q (omega arith) f.fault;
      place = f.place;
    }))
