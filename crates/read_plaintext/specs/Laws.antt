-- What a reply about inner fields says of them: the fault, the number of entries and the table.
use Rattle.std.specs.Prelude.{Option, Some, None, ◌≡◌, refl, Bool, true, false, List, [], ◌∷◌, ℕ, zero, suc, ◌+◌, ◌≤◌, ◌<◌, leb, ltb, length, Result, Ok, Err}
use Rattle.std.proofs.Common.{sym, ◌∙◌, arith, leb-false}
use Rattle.std.proofs.Math.Path.{ap}
use Rattle.std.proofs.lemmas.List.Edits.{sets}
use Rattle.base_answers.specs.Meant.{◌⇒◌, first_of}
use Rattle.base_answers.specs.declared.Refusal.{Refusal}
use Rattle.base_answers.specs.declared.Refusal.TheVariants.{MalformedCookiePlaceholder, TooManyFields, MalformedResult}
use Rattle.base_version.specs.declared.Version.{Version}
use Rattle.read_entries.specs.Model.{entry_of, Found, stopped, then}
use Rattle.read_entries.specs.Meant.{capacity, TableReply}
use Rattle.field_frame.specs.Model.{message_at}
use Rattle.read_step.specs.Model.{step_at}
use Rattle.read_step.specs.declared.Step.{Step}
use Rattle.read_step.specs.declared.Step.TheVariants.{End, Field, Sealed, Refused as Unlawful}
use Rattle.read_plaintext.specs.Model.{is_fouled, on_inner_step, inside_from, inside_of, inside_reply, inside_with, inner_fields}
use Rattle.read_plaintext.specs.declared.InnerFault.{InnerFault}

pub record Says (f : Found Refusal) (old : List ℕ) (before : ℕ) (o : Option Refusal) (n : ℕ) (new : List ℕ) : Type 0 where
  pub fault : f.fault ≡ o
  pub count : n ≡ before + length f.entries
  pub table : new ≡ sets old before f.entries

abbrev entries_in : Result ℕ InnerFault → ℕ
entries_in (Ok n) = n
entries_in (Err f) = f.inner_count

abbrev fault_in : Result ℕ InnerFault → Option Refusal
fault_in (Ok n) = None
fault_in (Err f) = Some f.refusal

-- the answer has the count, and names the fault or that there is none
counted : (o : Option Refusal) (n : ℕ) → entries_in (inside_with o n) ≡ n
counted None n = refl
counted (Some r) n = refl

faulted : (o : Option Refusal) (n : ℕ) → fault_in (inside_with o n) ≡ o
faulted None n = refl
faulted (Some r) n = refl

the_fault : (o : Option Refusal) {i : Result ℕ InnerFault} (m : ℕ) → i ≡ inside_with o m → o ≡ fault_in i
the_fault o m e = sym (ap fault_in e ∙ faulted o m)

module _ (v : Version) (p : List ℕ) (seal : ℕ) (table : List ℕ) (before : ℕ) {after : List ℕ} where
  pub says_fields : {i : Result ℕ InnerFault} {n : ℕ} → i ≡ Ok n → inside_reply i after ≡ inner_fields v p seal table before
      → Says (inside_of v p seal before) table before None n after
  unfolding inner_fields
  says_fields k e =
      let f = rw k at e in
      record {
        fault = the_fault (inside_of v p seal before).fault _ (ap (λ (r : TableReply (Result ℕ InnerFault)). r.answer) f);
        count = ap (λ (r : TableReply (Result ℕ InnerFault)). entries_in r.answer) f ∙ counted (inside_of v p seal before).fault _;
        table = ap (λ (r : TableReply (Result ℕ InnerFault)). r.table) f;
      }

  pub says_refused : {i : Result ℕ InnerFault} {f : InnerFault} → i ≡ Err f → inside_reply i after ≡ inner_fields v p seal table before
      → Says (inside_of v p seal before) table before (Some f.refusal) f.inner_count after
  unfolding inner_fields
  says_refused k e =
      let g = rw k at e in
      record {
        fault = the_fault (inside_of v p seal before).fault _ (ap (λ (r : TableReply (Result ℕ InnerFault)). r.answer) g);
        count = ap (λ (r : TableReply (Result ℕ InnerFault)). entries_in r.answer) g ∙ counted (inside_of v p seal before).fault _;
        table = ap (λ (r : TableReply (Result ℕ InnerFault)). r.table) g;
      }

-- a table that is not overfull stays so
module _ (n : ℕ) (h : n ≤ capacity) where
  none_added : n + length {A = ℕ} [] ≤ capacity
  none_added = omega arith

  one_added : (fouled full : Bool) → leb capacity n ≡ full → (e : ℕ) (f : Found Refusal)
      → (n < capacity → n + 1 + length f.entries ≤ capacity)
      → n
      + length
      (first_of (fouled ⇒ stopped MalformedCookiePlaceholder ∷ full ⇒ stopped TooManyFields ∷ []) (then e f)).entries
      ≤ capacity
  one_added true full g e f later = none_added
  one_added false true g e f later = none_added
  one_added false false g e f later = omega (arith, later (leb-false capacity n g))

  step_added : (p : List ℕ) (seal at : ℕ) (s : Step) (rest : ℕ → Found Refusal)
      → ((k : ℕ) → n < capacity → n + 1 + length (rest k).entries ≤ capacity)
      → n + length (on_inner_step p seal n at s rest).entries ≤ capacity
  step_added p seal at End rest later = none_added
  step_added p seal at (Unlawful r) rest later = none_added
  step_added p seal at (Sealed m k) rest later = none_added
  step_added p seal at (Field t m k placeholder) rest later =
      one_added (is_fouled placeholder (message_at p at m)) (leb capacity n) refl (entry_of m t at seal) (rest k) (later k)

from_added : (most : ℕ) (v : Version) (p : List ℕ) (seal n at : ℕ) → n ≤ capacity
    → n + length (inside_from most v p seal n at).entries ≤ capacity
unfolding inside_from
from_added zero v p seal n at h = none_added n h
from_added (suc most) v p seal n at h =
    step_added n h p seal at (step_at v 0 p at) (λ k. inside_from most v p seal (n + 1) (at + k))
    (λ k room. from_added most v p seal (n + 1) (at + k) (omega arith))

pub never_overfull : (v : Version) (p : List ℕ) (seal n : ℕ) → n ≤ capacity → n + length (inside_of v p seal n).entries ≤ capacity
unfolding inside_of
never_overfull v p seal n h = go (ltb 65535 (length p))
  where
    go : (b : Bool)
        → n + length (first_of (b ⇒ stopped MalformedResult ∷ []) (inside_from (suc (length p)) v p seal n 0)).entries ≤ capacity
    go true = none_added n h
    go false = from_added (suc (length p)) v p seal n 0 h
