-- What a reply about a sealed field says of its outcome.
use Rattle.std.specs.Prelude.{◌≡◌, refl, List, [], ℕ, ◌+◌, ◌-◌, ◌≤◌, length, take, drop, Option, Some, None, Result, Ok, Err}
use Rattle.std.proofs.Common.{sym, ap, arith}
use Rattle.std.proofs.lemmas.List.Edits.{sets}
use Rattle.base_answers.specs.declared.Refusal.{Refusal}
use Rattle.base_version.specs.declared.Version.{Version}
use Rattle.field_sealed.specs.Model.{sealed_parts}
use Rattle.field_sealed.specs.declared.Sealed.{Sealed}
use Rattle.read_entries.specs.Meant.{capacity, TableReply}
use Rattle.read_plaintext.specs.Model.{inside_of}
use Rattle.read_plaintext.specs.Laws.{never_overfull}
use Rattle.read_opening.specs.Meant.{Lent}
use Rattle.read_opening.specs.Model.{Outcome, failed, opened, refused_after, result_of, on_parts, of_found, on_result, outcome_of, opening, faulty, opening_reply, replied, opening_of}
use Rattle.read_plaintext.specs.declared.InnerFault.{InnerFault}
use Rattle.read_opening.specs.declared.Opened.{Opened}
use Rattle.read_opening.specs.declared.Plaintext.{Plaintext}

-- the entries that were added to a table of `before`
pub record Added (o : List ℕ → Outcome) (out : Outcome) (old : List ℕ) (before n : ℕ) (new : List ℕ) : Type 0 where
  pub entries : List ℕ
  pub is : out ≡ o entries
  pub count : n ≡ before + length entries
  pub table : new ≡ sets old before entries

-- the parts of an answer
abbrev entries_in : Result (Option Opened) InnerFault → ℕ
entries_in (Ok None) = 0
entries_in (Ok (Some o)) = o.inner_count
entries_in (Err f) = f.inner_count

abbrev cookie_in : Result (Option Opened) InnerFault → Option ℕ
cookie_in (Ok None) = None
cookie_in (Ok (Some o)) = o.cookie
cookie_in (Err f) = None

abbrev refusal_in : Result (Option Opened) InnerFault → Refusal → Refusal
refusal_in (Ok o) other = other
refusal_in (Err f) other = f.refusal

answers : {x y : TableReply (Result (Option Opened) InnerFault)} → x ≡ y → x.answer ≡ y.answer
answers e = ap (λ (r : TableReply (Result (Option Opened) InnerFault)). r.answer) e

module _ (old : List ℕ) (before : ℕ) {new : List ℕ} where
  failed_says : (out : Outcome) → opening_reply (Ok None) new ≡ replied out before old → (out ≡ failed) × (new ≡ old)
  failed_says failed e = (refl, ap (λ (r : TableReply (Result (Option Opened) InnerFault)). r.table) e)
  failed_says (opened c es) e = let a = answers e in let z : ◌≡◌ {A = ℕ} 0 1 = cc in absurd (omega arith)
  failed_says (refused_after r es) e = let a = answers e in let z : ◌≡◌ {A = ℕ} 0 1 = cc in absurd (omega arith)

  opened_says : (out : Outcome) {n : ℕ} {c : Option ℕ} → opening_reply (opening n c) new ≡ replied out before old
      → Added (opened c) out old before n new
  opened_says failed e = let a = answers e in let z : ◌≡◌ {A = ℕ} 0 1 = cc in absurd (omega arith)
  opened_says (opened d es) {n} {c} e =
      let a = answers e in
      record {
        entries = es;
        is = ap (λ x. opened (cookie_in x) es) (sym a);
        count = ap entries_in a;
        table = ap (λ (r : TableReply (Result (Option Opened) InnerFault)). r.table) e;
      }
  opened_says (refused_after r es) e = let a = answers e in let z : ◌≡◌ {A = ℕ} 0 1 = cc in absurd (omega arith)

  refused_says : (out : Outcome) {n : ℕ} {r : Refusal} → opening_reply (faulty r n) new ≡ replied out before old
      → Added (refused_after r) out old before n new
  refused_says failed e = let a = answers e in let z : ◌≡◌ {A = ℕ} 0 1 = cc in absurd (omega arith)
  refused_says (opened c es) e = let a = answers e in let z : ◌≡◌ {A = ℕ} 0 1 = cc in absurd (omega arith)
  refused_says (refused_after q es) {r = r} e =
      let a = answers e in
      record {
        entries = es;
        is = ap (λ x. refused_after (refusal_in x r) es) (sym a);
        count = ap entries_in a;
        table = ap (λ (x : TableReply (Result (Option Opened) InnerFault)). x.table) e;
      }

module _ (v : Version) (message : List ℕ) (k : ℕ) (l : Lent) (old : List ℕ) (before : ℕ) {new : List ℕ} {o : Result (Option Opened) InnerFault} where
  pub says_failed : o ≡ Ok None → opening_reply o new ≡ opening_of v message k l old before
      → (outcome_of v message k l before ≡ failed) × (new ≡ old)
  unfolding opening_of
  says_failed e f = failed_says old before (outcome_of v message k l before) (rw e at f)

  pub says_opened : {n : ℕ} {c : Option ℕ} → o ≡ opening n c → opening_reply o new ≡ opening_of v message k l old before
      → Added (opened c) (outcome_of v message k l before) old before n new
  unfolding opening_of
  says_opened e f = opened_says old before (outcome_of v message k l before) (rw e at f)

  pub says_refused : {n : ℕ} {r : Refusal} → o ≡ faulty r n → opening_reply o new ≡ opening_of v message k l old before
      → Added (refused_after r) (outcome_of v message k l before) old before n new
  unfolding opening_of
  says_refused e f = refused_says old before (outcome_of v message k l before) (rw e at f)

-- an outcome leaves the table no fuller than it may be
abbrev pub entries_of : Outcome → List ℕ
entries_of failed = []
entries_of (opened c es) = es
entries_of (refused_after r es) = es

module _ (n : ℕ) (h : n ≤ capacity) where
  found_fits : (c : Option ℕ) (o : Option Refusal) (es : List ℕ) → n + length es ≤ capacity → n + length (entries_of (of_found c o es)) ≤ capacity
  found_fits c None es k = k
  found_fits c (Some r) es k = k

  none_fits : n + length {A = ℕ} [] ≤ capacity
  none_fits = omega arith

  result_fits : (v : Version) (plain : List ℕ) (k : ℕ) (r : Result (Option Plaintext) Refusal) → n + length (entries_of (on_result v plain k n r)) ≤ capacity
  result_fits v plain k (Ok None) = none_fits
  result_fits v plain k (Err r) = none_fits
  result_fits v plain k (Ok (Some p)) =
      let part = take (p.end - p.start) (drop p.start plain) in
      found_fits p.cookie (inside_of v part k n).fault (inside_of v part k n).entries (never_overfull v part k n h)

  parts_fit : (s : Result Sealed Refusal) (o : Outcome) → n + length (entries_of o) ≤ capacity → n + length (entries_of (on_parts s o)) ≤ capacity
  parts_fit (Ok s) o k = k
  parts_fit (Err r) o k = none_fits

  pub outcome_fits : (v : Version) (message : List ℕ) (k : ℕ) (l : Lent) → n + length (entries_of (outcome_of v message k l n)) ≤ capacity
  unfolding outcome_of
  outcome_fits v message k l =
      parts_fit (sealed_parts message) (on_result v l.plain k n (result_of l k)) (result_fits v l.plain k (result_of l k))
