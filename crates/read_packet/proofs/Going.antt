-- What the walk keeps, and how a turn of it goes: what is left to walk, from the lists that the tables hold so far, ends as the
-- whole walk does.
use mathlib.Core.Path.{◌≡◌, refl, sym, ap, ◌∙◌}
use mathlib.Core.Bool.{Bool, true, false}
use mathlib.Core.List.{List, [], ◌∷◌, ◌++◌, append_assoc, append-nil}
use Prim.Native.Nat.{ℕ, zero, suc, ◌+◌, ◌-◌, ◌*◌, ◌≤◌, ◌<◌}
use native.Mathlib.Omega.{arith}
use borrow.Author.Tests.{lt-leb, le-leb}
use lib.ListN.{length, set, length-append}
use lib.Seq.{sets}
use Rattle.base_answers.specs.declared.Refusal.{Refusal}
use Rattle.base_answers.specs.declared.Refusal.TheVariants.{MalformedCookiePlaceholder, TooManyFields}
use Rattle.base_store.specs.Laws.{joined}
use Rattle.read_entries.specs.Meant.{capacity}
use Rattle.read_entries.specs.Model.{entry_of}
use Rattle.read_entries.specs.LawsTables.{several_more}
use Rattle.field_frame.specs.Model.{message_at}
use Rattle.read_step.specs.Model.{step_at}
use Rattle.layout.specs.Meant.{cutoff_of}
use Rattle.read_step.specs.declared.Step.{Step}
use Rattle.read_step.specs.declared.Step.TheVariants.{Field, Sealed}
use Rattle.read_plaintext.specs.Model.{is_fouled}
use Rattle.read_opening.specs.Model.{Outcome, failed, opened, refused_after, outcome_of}
use Rattle.read_opening.specs.Laws.{Added}
use Rattle.read_packet.specs.Meant.{Input}
use Rattle.read_packet.specs.ModelWalk.{Lists, empty, outer_of, with_field, with_marker, promoted, with_inner, Turn, on_outcome, on_outer_step, turn, on_turn, walk_from, end_of, walk_of}
use Rattle.std.specs.Prelude.{Some, Option, None}
use Rattle.field_kinds.specs.Meant.{nts_encrypted_field}

-- a table's front and one entry more
pub one_more : (old xs : List ℕ) (e : ℕ) {n : ℕ} → n ≡ length xs → set (sets old 0 xs) n e ≡ sets old 0 (xs ++ e ∷ [])
one_more old xs e {n} h =
    let place : n ≡ 0 + length xs = omega arith in
    rw place (joined old 0 xs (e ∷ []))

module _ (i : Input) (outer₀ inner₀ : List ℕ) where
  pub record Going (outer inner : List ℕ) (at n authenticated m seals : ℕ) (fails : Bool) (cookie : Option ℕ) : Type 0 where
    pub lists : Lists
    pub most : ℕ
    pub enough : length i.packet < at + most
    pub inside : at ≤ length i.packet
    pub left : walk_from most i at lists ≡ end_of i
    pub count : n ≡ length (outer_of lists)
    pub trusted : authenticated ≡ length lists.authenticated
    pub opened_count : m ≡ length lists.encrypted
    pub passed : seals ≡ lists.seals
    pub few : seals * 4 ≤ at
    pub fails_so : fails ≡ lists.failed
    pub cookie_so : cookie ≡ lists.cookie
    pub outer_table_law : outer ≡ sets outer₀ 0 (outer_of lists)
    pub inner_table_law : inner ≡ sets inner₀ 0 lists.encrypted

  pub begun : i.header_size ≤ length i.packet → Going outer₀ inner₀ i.header_size 0 0 0 0 false None
  unfolding end_of
  begun h = record {
    lists = empty;
    most = suc (length i.packet);
    enough = omega arith;
    inside = h;
    left = refl;
    count = refl;
    trusted = refl;
    opened_count = refl;
    passed = refl;
    few = omega arith;
    fails_so = refl;
    cookie_so = refl;
    outer_table_law = refl;
    inner_table_law = refl;
  }

  module _ {outer inner : List ℕ} {at n authenticated m seals : ℕ} {fails : Bool} {cookie : Option ℕ}
      (g : Going outer inner at n authenticated m seals fails cookie) where
    -- what is left, by the turn that was taken
    walked_on : (most : ℕ) → length i.packet < at + most → {t : Turn} → turn i at g.lists ≡ t
        → walk_from most i at g.lists ≡ on_turn t at g.lists (λ next s. walk_from (most - 1) i next s)
    unfolding walk_from
    walked_on zero h e = absurd (omega (arith, g.inside))
    walked_on (suc most) h e =
        let o : suc most - 1 ≡ most = omega arith in
        rw (e, o)

    ends : {t : Turn} → turn i at g.lists ≡ t → end_of i ≡ on_turn t at g.lists (λ next s. walk_from (g.most - 1) i next s)
    ends e = sym g.left ∙ walked_on g.most g.enough e

    -- the walk ends with the lists as they are
    pub closed : (o : Option Refusal) → end_of i ≡ record { fault = o; at = at; lists = g.lists }
        → record {
          fault = o;
          at = at;
          outer = n;
          authenticated = authenticated;
          inner = m;
          failed = fails;
          cookie = cookie;
          outer_table = outer;
          inner_table = inner;
        } ≡ walk_of i outer₀ inner₀
    unfolding walk_of
    closed o e =
        rw (
          e,
          ← g.count,
          ← g.trusted,
          ← g.opened_count,
          ← g.fails_so,
          ← g.cookie_so,
          ← g.outer_table_law,
          ← g.inner_table_law,
        )

    -- a turn, by the step that was taken
    stepped : {s : Step} → step_at i.version (cutoff_of i.version) i.packet at ≡ s → turn i at g.lists ≡ on_outer_step i g.lists at s
    unfolding turn
    stepped e = rw e

    -- the step itself ends the walk
    pub closed_by : {s : Step} → step_at i.version (cutoff_of i.version) i.packet at ≡ s → (o : Option Refusal)
        → on_turn (on_outer_step i g.lists at s) at g.lists (λ next t. walk_from (g.most - 1) i next t)
        ≡ record { fault = o; at = at; lists = g.lists }
        → record {
          fault = o;
          at = at;
          outer = n;
          authenticated = authenticated;
          inner = m;
          failed = fails;
          cookie = cookie;
          outer_table = outer;
          inner_table = inner;
        } ≡ walk_of i outer₀ inner₀
    closed_by e o f = closed o (ends (stepped e) ∙ f)

    module _ {t l k : ℕ} {placeholder : Bool}
        (e : step_at i.version (cutoff_of i.version) i.packet at ≡ Field t l k placeholder) where
      pub fouled : is_fouled placeholder (message_at i.packet at l) ≡ true
          → on_turn (on_outer_step i g.lists at (Field t l k placeholder)) at g.lists (λ next s. walk_from (g.most - 1) i next s)
          ≡ record { fault = Some MalformedCookiePlaceholder; at = at; lists = g.lists }
      fouled f = rw f

      pub full : is_fouled placeholder (message_at i.packet at l) ≡ false → capacity ≤ n
          → on_turn (on_outer_step i g.lists at (Field t l k placeholder)) at g.lists (λ next s. walk_from (g.most - 1) i next s)
          ≡ record { fault = Some TooManyFields; at = at; lists = g.lists }
      full f h = rw (f, le-leb capacity (length (outer_of g.lists)) (omega (arith, g.count)))

      -- one field more
      pub more : is_fouled placeholder (message_at i.packet at l) ≡ false → n < capacity → 4 ≤ k → at + k ≤ length i.packet
          → Going (set outer n (entry_of l t at 0)) inner (at + k) (n + 1) authenticated m seals fails cookie
      more f h four fits =
          let entry = entry_of l t at 0 in
          let s = g.lists in
          let next : end_of i ≡ walk_from (g.most - 1) i (at + k) (with_field s entry) =
          ends (stepped e) ∙ rw (f, lt-leb capacity (length (outer_of s)) (omega (arith, g.count))) in
          let wire : outer_of (with_field s entry) ≡ outer_of s ++ entry ∷ [] =
          sym (append_assoc s.authenticated s.untrusted (entry ∷ [])) in
          record {
            lists = with_field s entry;
            most = g.most - 1;
            enough = omega (arith, g.enough);
            inside = fits;
            left = sym next;
            count = omega (arith, g.count, ap (λ (x : List ℕ). length x) wire, length-append (outer_of s) (entry ∷ []));
            trusted = g.trusted;
            opened_count = g.opened_count;
            passed = g.passed;
            few = omega (arith, g.few);
            fails_so = g.fails_so;
            cookie_so = g.cookie_so;
            outer_table_law =
                ap (λ (x : List ℕ). set x n entry) g.outer_table_law
                ∙ one_more outer₀ (outer_of s) entry g.count
                ∙ ap (λ (x : List ℕ). sets outer₀ 0 x) (sym wire);
            inner_table_law = g.inner_table_law;
          }

    module _ {l k : ℕ} (e : step_at i.version (cutoff_of i.version) i.packet at ≡ Sealed l k) {out : Outcome}
        (came : outcome_of i.version (message_at i.packet at l) seals i.lent m ≡ out) where
      -- the outcome, by the counts that the lists have
      outcome : turn i at g.lists ≡ on_outcome g.lists at l k out
      outcome = stepped e ∙ rw (← g.passed, ← g.opened_count, came)

      pub full_of_markers : out ≡ failed → capacity ≤ n → end_of i ≡ record { fault = Some TooManyFields; at = at; lists = g.lists }
      full_of_markers f h =
          ends (rw f at outcome) ∙ rw (le-leb capacity (length (outer_of g.lists)) (omega (arith, g.count)))

      -- a failure marker
      pub marked : out ≡ failed → n < capacity → 4 ≤ k → at + k ≤ length i.packet
          → Going (set outer n (entry_of l nts_encrypted_field at 0)) inner (at + k) (n + 1) authenticated m (seals + 1) true cookie
      marked f h four fits =
          let entry = entry_of l nts_encrypted_field at 0 in
          let s = g.lists in
          let next : end_of i ≡ walk_from (g.most - 1) i (at + k) (with_marker s entry) =
          ends (rw f at outcome) ∙ rw (lt-leb capacity (length (outer_of s)) (omega (arith, g.count))) in
          let wire : outer_of (with_marker s entry) ≡ outer_of s ++ entry ∷ [] =
          sym (append_assoc s.authenticated s.untrusted (entry ∷ [])) in
          record {
            lists = with_marker s entry;
            most = g.most - 1;
            enough = omega (arith, g.enough);
            inside = fits;
            left = sym next;
            count = omega (arith, g.count, ap (λ (x : List ℕ). length x) wire, length-append (outer_of s) (entry ∷ []));
            trusted = g.trusted;
            opened_count = g.opened_count;
            passed = omega (arith, g.passed);
            few = omega (arith, g.few);
            fails_so = refl;
            cookie_so = g.cookie_so;
            outer_table_law =
                ap (λ (x : List ℕ). set x n entry) g.outer_table_law
                ∙ one_more outer₀ (outer_of s) entry g.count
                ∙ ap (λ (x : List ℕ). sets outer₀ 0 x) (sym wire);
            inner_table_law = g.inner_table_law;
          }

      -- an opened field
      pub promotes : {c : Option ℕ} {count : ℕ} {table : List ℕ} → Added (opened c) out inner m count table → 4 ≤ k → at + k ≤ length i.packet
          → Going outer table (at + k) n n count (seals + 1) fails c
      promotes {c} a four fits =
          let s = g.lists in
          let es = a.entries in
          let next : end_of i ≡ walk_from (g.most - 1) i (at + k) (promoted s c es) = ends (rw a.is at outcome) in
          record {
            lists = promoted s c es;
            most = g.most - 1;
            enough = omega (arith, g.enough);
            inside = fits;
            left = sym next;
            count = g.count ∙ sym (ap (λ (x : List ℕ). length x) (append-nil (outer_of s)));
            trusted = g.count;
            opened_count = omega (arith, a.count, g.opened_count, length-append s.encrypted es);
            passed = omega (arith, g.passed);
            few = omega (arith, g.few);
            fails_so = g.fails_so;
            cookie_so = refl;
            outer_table_law = g.outer_table_law ∙ ap (λ (x : List ℕ). sets outer₀ 0 x) (sym (append-nil (outer_of s)));
            inner_table_law =
                a.table
                ∙ ap (λ (x : List ℕ). sets x m es) g.inner_table_law
                ∙ several_more inner₀ s.encrypted es g.opened_count;
          }

      -- a refusal among a sealed field's lengths, result or inner fields
      pub refuses : {r : Refusal} {count : ℕ} {table : List ℕ} → Added (refused_after r) out inner m count table
          → record {
            fault = Some r;
            at = at;
            outer = n;
            authenticated = authenticated;
            inner = count;
            failed = fails;
            cookie = cookie;
            outer_table = outer;
            inner_table = table;
          } ≡ walk_of i outer₀ inner₀
      unfolding walk_of
      refuses {r} {count} {table} a =
          let s = g.lists in
          let es = a.entries in
          let ended : end_of i ≡ record { fault = Some r; at = at; lists = with_inner s es } = ends (rw a.is at outcome) in
          let counts : count ≡ length (s.encrypted ++ es) = omega (arith, a.count, g.opened_count, length-append s.encrypted es) in
          let tables : table ≡ sets inner₀ 0 (s.encrypted ++ es) =
          a.table
          ∙ ap (λ (x : List ℕ). sets x m es) g.inner_table_law
          ∙ several_more inner₀ s.encrypted es g.opened_count in
          rw (ended, ← g.count, ← g.trusted, ← counts, ← g.fails_so, ← g.cookie_so, ← g.outer_table_law, ← tables)
