-- What the loop over inner fields keeps, and how a turn of it goes: the fields that are left, added to the table as it is,
-- make the reply.
use Rattle.std.specs.Prelude.{Some}
use mathlib.Core.Path.{◌≡◌, refl, sym, ap, ◌∙◌}
use mathlib.Core.Bool.{Bool, true, false}
use mathlib.Core.List.{List, []}
use Prim.Native.Nat.{ℕ, zero, suc, ◌+◌, ◌-◌, ◌≤◌, ◌<◌}
use native.Mathlib.Omega.{arith}
use borrow.Author.Tests.{lt-ltb, le-ltb, lt-leb, le-leb}
use lib.ListN.{length, set}
use lib.Seq.{sets}
use Rattle.base_answers.specs.declared.Refusal.{Refusal}
use Rattle.base_answers.specs.declared.Refusal.TheVariants.{MalformedCookiePlaceholder, TooManyFields, MalformedResult}
use Rattle.base_version.specs.declared.Version.{Version}
use Rattle.read_entries.specs.Meant.{capacity}
use Rattle.read_entries.specs.Model.{entry_of, Found, stopped, then}
use Rattle.field_frame.specs.Model.{message_at}
use Rattle.read_step.specs.Model.{step_at}
use Rattle.read_step.specs.declared.Step.{Step}
use Rattle.read_step.specs.declared.Step.TheVariants.{Field}
use Rattle.read_plaintext.specs.Model.{is_fouled, on_inner_step, inside_from, inside_of, inside_with, inner_fields}

module _ (v : Version) (p : List ℕ) (seal count : ℕ) (before : List ℕ) where
  -- with `n` entries in the table, at a place of the plaintext
  pub record Going (inner : List ℕ) (n at : ℕ) : Type 0 where
    pub most : ℕ
    pub enough : length p < at + most
    pub inside : at ≤ length p
    pub fault : (inside_from most v p seal n at).fault ≡ (inside_of v p seal count).fault
    pub entries : n + length (inside_from most v p seal n at).entries ≡ count + length (inside_of v p seal count).entries
    pub table : sets inner n (inside_from most v p seal n at).entries ≡ sets before count (inside_of v p seal count).entries

  pub too_long : 65535 < length p → record { answer = inside_with (Some MalformedResult) count; table = before } ≡ inner_fields v p seal before count
  unfolding inner_fields inside_of
  too_long h =
      let e : count + 0 ≡ count = omega arith in
      rw (lt-ltb _ _ h, e)

  pub begun : length p ≤ 65535 → Going before count 0
  unfolding inside_of
  begun h = record {
    most = suc (length p);
    enough = omega arith;
    inside = omega arith;
    fault = rw (le-ltb _ _ h);
    entries = rw (le-ltb _ _ h);
    table = rw (le-ltb _ _ h);
  }

  module _ {inner : List ℕ} {n at : ℕ} (g : Going inner n at) where
    -- what is left, by the step that was taken
    stepped : (most : ℕ) → length p < at + most → {s : Step} → step_at v 0 p at ≡ s
        → inside_from most v p seal n at ≡ on_inner_step p seal n at s (λ k. inside_from (most - 1) v p seal (n + 1) (at + k))
    unfolding inside_from
    stepped zero h e = absurd (omega (arith, g.inside))
    stepped (suc most) h e =
        let o : suc most - 1 ≡ most = omega arith in
        rw (e, o)

    -- nothing is left, or a fault ends it
    pub closed : {s : Step} → step_at v 0 p at ≡ s → (f : Found Refusal)
        → on_inner_step p seal n at s (λ k. inside_from (g.most - 1) v p seal (n + 1) (at + k)) ≡ f
        → f.entries ≡ []
        → record { answer = inside_with f.fault n; table = inner } ≡ inner_fields v p seal before count
    unfolding inner_fields
    closed e f i none_left =
        let left : inside_from g.most v p seal n at ≡ f = stepped g.most g.enough e ∙ i in
        let no_entry : (inside_from g.most v p seal n at).entries ≡ [] = ap (λ (x : Found Refusal). x.entries) left ∙ none_left in
        let faults : f.fault ≡ (inside_of v p seal count).fault = sym (ap (λ (x : Found Refusal). x.fault) left) ∙ g.fault in
        let counts : n ≡ count + length (inside_of v p seal count).entries =
        omega (arith, g.entries, ap (λ (x : List ℕ). length x) no_entry) in
        let tables : inner ≡ sets before count (inside_of v p seal count).entries =
        sym (ap (λ (x : List ℕ). sets inner n x) no_entry) ∙ g.table in
        rw (faults, ← counts, ← tables)

    -- a placeholder that is fouled, or a field for which there is no room
    pub fouled : {t m k : ℕ} {placeholder : Bool} → step_at v 0 p at ≡ Field t m k placeholder
        → is_fouled placeholder (message_at p at m) ≡ true
        → record { answer = inside_with (Some MalformedCookiePlaceholder) n; table = inner } ≡ inner_fields v p seal before count
    fouled e f = closed e (stopped MalformedCookiePlaceholder) (rw f) refl

    pub full : {t m k : ℕ} {placeholder : Bool} → step_at v 0 p at ≡ Field t m k placeholder
        → is_fouled placeholder (message_at p at m) ≡ false
        → capacity ≤ n
        → record { answer = inside_with (Some TooManyFields) n; table = inner } ≡ inner_fields v p seal before count
    full e f h = closed e (stopped TooManyFields) (rw (f, le-leb capacity n h)) refl

    -- one entry more
    pub more : {t m k : ℕ} {placeholder : Bool} → step_at v 0 p at ≡ Field t m k placeholder
        → is_fouled placeholder (message_at p at m) ≡ false
        → n < capacity
        → 0 < k
        → at + k ≤ length p
        → Going (set inner n (entry_of m t at seal)) (n + 1) (at + k)
    more {t} {m} {k} e f h positive fits =
        let entry = entry_of m t at seal in
        let rest = inside_from (g.most - 1) v p seal (n + 1) (at + k) in
        let left : inside_from g.most v p seal n at ≡ then entry rest =
        stepped g.most g.enough e ∙ rw (f, lt-leb capacity n h) in
        let faults = ap (λ (x : Found Refusal). x.fault) left in
        let entries = ap (λ (x : Found Refusal). x.entries) left in
        let next : n + 1 ≡ suc n = omega arith in
        record {
          most = g.most - 1;
          enough = omega (arith, g.enough);
          inside = fits;
          fault = sym faults ∙ g.fault;
          entries = omega (arith, g.entries, ap (λ (x : List ℕ). length x) entries);
          table =
              ap (λ (i : ℕ). sets (set inner n entry) i rest.entries) next
              ∙ ap (λ (x : List ℕ). sets inner n x) (sym entries)
              ∙ g.table;
        }
