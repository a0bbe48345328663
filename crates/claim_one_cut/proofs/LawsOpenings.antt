-- What comes of a sealed field, both ways: a failure, an opening with the entries of a plaintext that is cut to its end, or the
-- field's first fault.
use Rattle.std.specs.Prelude.{◌≡◌, Option, None, Result, Ok, Err, Bool, ℕ, ◌+◌, ◌-◌, ◌≤◌, ◌<◌, length, drop}
use Rattle.std.proofs.Math.Path.{refl}
use Rattle.std.proofs.Common.{ap, arith, length-drop, length-take-le}
use Rattle.std.proofs.Math.Bool.{true, false}
use mathlib.Core.List.{List, []}
use borrow.Author.Tests.{le-ltb, lt-ltb, lt-leb, ltb-true, ltb-false, leb-true, leb-false}
use Rattle.std.proofs.Math.Dec.{ltb, leb}
use Rattle.base_answers.specs.Meant.{pick}
use Rattle.base_answers.specs.declared.Refusal.{Refusal}
use Rattle.base_answers.specs.declared.Refusal.TheVariants.{IncorrectLength, NoResult, MalformedResult}
use Rattle.base_big_endian.specs.Meant.{Bytes}
use Rattle.base_big_endian.specs.Laws.{bytes_take, bytes_drop}
use Rattle.field_sealed.specs.Model.{sealed_parts}
use Rattle.field_sealed.specs.declared.Sealed.{Sealed}
use Rattle.read_entries.specs.Meant.{capacity}
use Rattle.read_entries.specs.Model.{Found}
use Rattle.read_plaintext.specs.Model.{inside_of}
use Rattle.read_opening.specs.Meant.{Lent, results, verdict_of, start_of, len_of}
use Rattle.read_opening.specs.Model.{cookie_by, plaintext_at, result_of, Outcome, failed, opened, refused_after, on_parts, of_found, on_result, outcome_of}
use Rattle.read_packet.specs.Meant.{Input}
use Rattle.layout.specs.Meant.{Field}
use Rattle.field_sealed.specs.Meant.{Sealing}
use Rattle.claim_one_cut.specs.MeantCut.{Filled, plaintext_of, Ready, Shut, Opened}
use Rattle.claim_one_cut.specs.MeantFaults.{SealFault, no_sealing, no_result, unusable, within, unknown, outside, too_long}
use Rattle.field_sealed.proofs.LawsSealing.{Judged, good, bad, judged, placed}
use Rattle.claim_one_cut.proofs.LawsPlaintexts.{plaintext_entries, accepted_whole, Seen, good as cut, bad as spoilt, seen}

module _ (i : Input) (k : ℕ) where
  abbrev l : Lent
  l = i.lent

  pub plaintext_length : start_of l k + len_of l k ≤ length l.plain → length (plaintext_of l k) ≡ len_of l k
  plaintext_length h =
      length-take-le (len_of l k) (drop (start_of l k) l.plain) (omega (arith, length-drop (start_of l k) l.plain))

  -- a result that says opened, with its plaintext inside
  plaintext_result : k < results l → verdict_of l k ≤ 3 → 2 ≤ verdict_of l k → start_of l k + len_of l k ≤ length l.plain
      → result_of l k ≡ plaintext_at (start_of l k) (start_of l k + len_of l k) (cookie_by (verdict_of l k) k)
  unfolding result_of
  plaintext_result a b c d =
      rw (
        lt-leb (results l) k a,
        le-ltb 3 (verdict_of l k) b,
        le-ltb (verdict_of l k) 2 c,
        le-ltb (length l.plain) (start_of l k + len_of l k) d,
      )

  failed_result : k < results l → verdict_of l k < 2 → result_of l k ≡ Ok None
  unfolding result_of
  failed_result a b =
      rw (lt-leb (results l) k a, le-ltb 3 (verdict_of l k) (omega arith), lt-ltb (verdict_of l k) 2 b)

  -- the fields of a plaintext by its own numbers
  of_plaintext : (n : ℕ) (c : Option ℕ)
      → on_result i.version l.plain k n (plaintext_at (start_of l k) (start_of l k + len_of l k) c)
      ≡ of_found c (inside_of i.version (plaintext_of l k) k n).fault (inside_of i.version (plaintext_of l k) k n).entries
  of_plaintext n c =
      let e : start_of l k + len_of l k - start_of l k ≡ len_of l k = omega arith in
      rw e

  module _ (f : Field) (n : ℕ) where
    pub shut_outcome : Ready i k → Shut i k f → outcome_of i.version f.message k l n ≡ failed
    unfolding outcome_of
    shut_outcome ready here = rw ((placed f.message here.sealing).parts, failed_result ready.lent here.says)

    pub opened_outcome : (fs : List Field) → Ready i k → Opened i k f fs → n + length fs ≤ capacity
        → outcome_of i.version f.message k l n ≡ opened (cookie_by (verdict_of l k) k) (plaintext_entries k 0 fs)
    unfolding outcome_of
    opened_outcome fs ready here room =
        let place = ready.inside here.says in
        let few = ready.short here.says in
        rw (
          (placed f.message here.sealing).parts,
          plaintext_result ready.lent ready.known here.says place,
          of_plaintext n (cookie_by (verdict_of l k) k),
          accepted_whole fs i.version (plaintext_of l k) k n here.filled (omega (arith, plaintext_length place)) room,
        )

-- what came of a sealed field
pub data Came (i : Input) (k outer n : ℕ) (f : Field) (o : Outcome) : Type 0 where
  came_failed : Sealing f.message → Ready i k → verdict_of i.lent k < 2 → o ≡ failed → Came i k outer n f o
  came_opened : Sealing f.message → Ready i k → 2 ≤ verdict_of i.lent k → (fs : List Field)
      → Filled i.version (plaintext_of i.lent k) fs
      → n + length fs ≤ capacity
      → o ≡ opened (cookie_by (verdict_of i.lent k) k) (plaintext_entries k 0 fs)
      → Came i k outer n f o
  came_refused : (r : Refusal) (es : List ℕ) → SealFault i k outer n f r → o ≡ refused_after r es → Came i k outer n f o

module _ (i : Input) (k outer n : ℕ) (f : Field) (few : n ≤ capacity) (b : Bytes i.lent.plain) (s : Sealing f.message) where
  abbrev lent : Lent
  lent = i.lent

  found_plaintext : Ready i k → (says : 2 ≤ verdict_of lent k) → {found : Found Refusal}
      → Seen i.version (plaintext_of lent k) k n 0 found
      → Came i k outer n f (of_found (cookie_by (verdict_of lent k) k) found.fault found.entries)
  found_plaintext ready says (cut fs filled room e) =
      came_opened s ready says fs filled room
      (ap (λ (x : Found Refusal). of_found (cookie_by (verdict_of lent k) k) x.fault x.entries) e)
  found_plaintext ready says (spoilt r es w e) =
      came_refused r es (within s ready says w)
      (ap (λ (x : Found Refusal). of_found (cookie_by (verdict_of lent k) k) x.fault x.entries) e)

  long_plaintext : 65535 < length (plaintext_of lent k) → (c : Option ℕ)
      → of_found c (inside_of i.version (plaintext_of lent k) k n).fault (inside_of i.version (plaintext_of lent k) k n).entries
      ≡ refused_after MalformedResult []
  unfolding inside_of
  long_plaintext h c = rw (lt-ltb 65535 (length (plaintext_of lent k)) h)

  by_length : (c : Bool) → ltb 65535 (len_of lent k) ≡ c → k < results lent → verdict_of lent k ≤ 3 → 2 ≤ verdict_of lent k
      → start_of lent k + len_of lent k ≤ length lent.plain
      → Came i k outer n f
      (of_found (cookie_by (verdict_of lent k) k) (inside_of i.version (plaintext_of lent k) k n).fault
      (inside_of i.version (plaintext_of lent k) k n).entries)
  by_length true e a v says place =
      let long : 65535 < len_of lent k = ltb-true _ _ e in
      came_refused MalformedResult [] (unusable s a (too_long says long))
      (long_plaintext (omega (arith, plaintext_length i k place)) (cookie_by (verdict_of lent k) k))
  by_length false e a v says place =
      let short : len_of lent k ≤ 65535 = ltb-false _ _ e in
      found_plaintext
      (record { lent = a; known = v; short = λ _. short; inside = λ _. place })
      says
      (seen i.version (plaintext_of lent k)
      (bytes_take (len_of lent k) (drop (start_of lent k) lent.plain) (bytes_drop (start_of lent k) lent.plain b)) k n
      (omega (arith, plaintext_length i k place)) few)

  by_result : Came i k outer n f (on_result i.version lent.plain k n (result_of lent k))
  unfolding result_of
  by_result =
      go (leb (results lent) k) refl (ltb 3 (verdict_of lent k)) refl (ltb (verdict_of lent k) 2) refl
      (ltb (length lent.plain) (start_of lent k + len_of lent k)) refl
    where
      go : (p : Bool) → leb (results lent) k ≡ p → (q : Bool) → ltb 3 (verdict_of lent k) ≡ q → (r : Bool)
          → ltb (verdict_of lent k) 2 ≡ r
          → (t : Bool)
          → ltb (length lent.plain) (start_of lent k + len_of lent k) ≡ t
          → Came i k outer n f
          (on_result i.version lent.plain k n
          (pick p (Err NoResult)
          (pick q (Err MalformedResult)
          (pick r (Ok None)
          (pick t (Err MalformedResult) (plaintext_at (start_of lent k) (start_of lent k + len_of lent k) (cookie_by (verdict_of lent k) k)))))))
      go true e q f r g t h = came_refused NoResult [] (no_result s (leb-true _ _ e)) refl
      go false e true f r g t h =
          came_refused MalformedResult [] (unusable s (leb-false _ _ e) (unknown (ltb-true _ _ f))) refl
      go false e false f true g t h =
          let says : verdict_of lent k < 2 = ltb-true _ _ g in
          came_failed s
          (record {
            lent = leb-false _ _ e;
            known = ltb-false _ _ f;
            short = λ x. absurd (omega arith);
            inside = λ x. absurd (omega arith);
          })
          says refl
      go false e false f false g true h =
          came_refused MalformedResult []
          (unusable s (leb-false _ _ e) (outside (ltb-false _ _ g) (ltb-true _ _ h))) refl
      go false e false f false g false h =
          rw (of_plaintext i k n (cookie_by (verdict_of lent k) k))
          (by_length (ltb 65535 (len_of lent k)) refl (leb-false _ _ e) (ltb-false _ _ f) (ltb-false _ _ g) (ltb-false _ _ h))

pub came : (i : Input) (k outer n : ℕ) (f : Field) → n ≤ capacity → Bytes i.lent.plain → Bytes f.message
    → Came i k outer n f (outcome_of i.version f.message k i.lent n)
unfolding outcome_of
came i k outer n f few b m = go (sealed_parts f.message) (judged f.message m)
  where
    go : (x : Result Sealed Refusal) → Judged f.message x
        → Came i k outer n f (on_parts x (on_result i.version i.lent.plain k n (result_of i.lent k)))
    go x (good s a c d) = by_result i k outer n f few b s
    go x (bad h) = came_refused IncorrectLength [] (no_sealing h) refl
