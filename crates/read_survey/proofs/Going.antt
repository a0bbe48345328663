-- What the walk of a survey keeps, and how a turn of it goes: the entries of the fields that are left, added to the table as it
-- is, make the reply.
use mathlib.Core.Path.{◌≡◌, refl, sym, ap, ◌∙◌}
use mathlib.Core.List.{List, []}
use Prim.Native.Nat.{ℕ, zero, suc, ◌+◌, ◌-◌, ◌≤◌, ◌<◌}
use native.Mathlib.Omega.{arith}
use borrow.Author.Tests.{lt-ltb, le-ltb, lt-leb, le-leb}
use lib.ListN.{length, set}
use lib.Seq.{sets}
use Rattle.std.specs.Prelude.{Result, Ok, Err}
use Rattle.base_answers.specs.declared.Refusal.{Refusal}
use Rattle.base_answers.specs.declared.Refusal.TheVariants.{HeaderPastEnd, PacketTooLong, TooManyFields}
use Rattle.base_version.specs.declared.Version.{Version}
use Rattle.read_entries.specs.Model.{entry_of, Found, ended, then}
use Rattle.read_entries.specs.Meant.{blanks, capacity}
use Rattle.read_entries.specs.LawsTables.{over_after}
use Rattle.layout.specs.Meant.{cutoff_of}
use Rattle.read_survey.specs.Model.{Fault, outer_at, stopped_at, on_outer, survey_from, found_in, surveyed_with, survey_of}
use Rattle.read_survey.specs.Meant.{refusing_survey}
use Rattle.read_survey.specs.declared.Outer.{Outer}
use Rattle.read_survey.specs.declared.Outer.TheVariants.{Other, Sealed}
use Rattle.read_survey.proofs.Fields.{Within}

module _ (p : List ℕ) (header : ℕ) (v : Version) (before : List ℕ) where
  pub too_long : 65535 < length p → refusing_survey PacketTooLong 0 0 before ≡ survey_of p header v before
  unfolding survey_of found_in
  too_long h = rw (lt-ltb _ _ h)

  pub past_end : length p ≤ 65535 → length p < header → refusing_survey HeaderPastEnd 0 0 before ≡ survey_of p header v before
  unfolding survey_of found_in
  past_end h k = rw (le-ltb _ _ h, lt-ltb _ _ k)

  -- with `n` entries in the table, at a place of the packet
  pub record Going (table : List ℕ) (n at : ℕ) : Type 0 where
    pub most : ℕ
    pub enough : length p < at + most
    pub small : length p ≤ 65535
    pub inside : at ≤ length p
    pub fault : (survey_from most v p n at).fault ≡ (found_in p header v).fault
    pub count : n + length (survey_from most v p n at).entries ≡ length (found_in p header v).entries
    pub whole : sets table n (survey_from most v p n at).entries ≡ sets before 0 (found_in p header v).entries

  pub begun : length p ≤ 65535 → header ≤ length p → Going before 0 header
  unfolding found_in
  begun h k = record {
    most = suc (length p);
    enough = omega arith;
    small = h;
    inside = k;
    fault = rw (le-ltb _ _ h, le-ltb _ _ k);
    count = rw (le-ltb _ _ h, le-ltb _ _ k) (omega arith);
    whole = rw (le-ltb _ _ h, le-ltb _ _ k);
  }

  module _ {table : List ℕ} {n at : ℕ} (g : Going table n at) where
    -- nothing is left to list, and blank entries follow
    closed : (f : Found Fault) → survey_from g.most v p n at ≡ f → f.entries ≡ []
        → record { answer = surveyed_with f.fault n; table = sets table n (blanks n capacity) } ≡ survey_of p header v before
    unfolding survey_of
    closed f left none_left =
        let all = (found_in p header v).entries in
        let no_entry : (survey_from g.most v p n at).entries ≡ [] = ap (λ (x : Found Fault). x.entries) left ∙ none_left in
        let faults : f.fault ≡ (found_in p header v).fault = sym (ap (λ (x : Found Fault). x.fault) left) ∙ g.fault in
        let counts : n ≡ length all = omega (arith, g.count, ap (λ (x : List ℕ). length x) no_entry) in
        let tables : table ≡ sets before 0 all = sym (ap (λ (x : List ℕ). sets table n x) no_entry) ∙ g.whole in
        rw (faults, over_after before all capacity tables counts refl, counts)

    -- no more than what is kept remains
    short : (most : ℕ) → length p - at ≤ cutoff_of v → survey_from most v p n at ≡ ended
    unfolding survey_from
    short zero h = refl
    short (suc most) h = rw (le-leb _ _ h)

    pub complete : length p - at ≤ cutoff_of v
        → record { answer = Ok n; table = sets table n (blanks n capacity) } ≡ survey_of p header v before
    complete h = closed ended (short g.most h) refl

    module _ (left : cutoff_of v < length p - at) where
      -- what is left, by the field that is there
      turned : (most : ℕ) → length p < at + most → {o : Result Outer Refusal} → outer_at v p at ≡ o
          → survey_from most v p n at ≡ on_outer n at o (λ i k. survey_from (most - 1) v p i (at + k))
      unfolding survey_from
      turned zero h e = absurd (omega (arith, g.inside))
      turned (suc most) h e =
          let o : suc most - 1 ≡ most = omega arith in
          rw (lt-leb _ _ left, e, o)

      pub faulty : {r : Refusal} → outer_at v p at ≡ Err r → refusing_survey r at n table ≡ survey_of p header v before
      faulty {r} e = closed (stopped_at r at) (turned g.most g.enough e) refl

      -- a field that has no entry
      pub passes : {k : ℕ} → outer_at v p at ≡ Ok (Other k) → Within p at 0 0 k → Going table n (at + k)
      passes {k} e w =
          let rest : survey_from g.most v p n at ≡ survey_from (g.most - 1) v p n (at + k) = turned g.most g.enough e in
          record {
            most = g.most - 1;
            enough = omega (arith, g.enough, w);
            small = g.small;
            inside = w.inside;
            fault = rw rest at g.fault;
            count = rw rest at g.count;
            whole = rw rest at g.whole;
          }

      module _ {nonce ciphertext k : ℕ} (e : outer_at v p at ≡ Ok (Sealed nonce ciphertext k)) where
        pub full : capacity ≤ n → refusing_survey TooManyFields at n table ≡ survey_of p header v before
        full h = closed (stopped_at TooManyFields at) (turned g.most g.enough e ∙ rw (le-leb capacity n h)) refl

        -- one entry more
        pub more : n < capacity → Within p at nonce ciphertext k → Going (set table n (entry_of nonce ciphertext at 0)) (n + 1) (at + k)
        more h w =
            let entry = entry_of nonce ciphertext at 0 in
            let rest = survey_from (g.most - 1) v p (n + 1) (at + k) in
            let all : survey_from g.most v p n at ≡ then entry rest = turned g.most g.enough e ∙ rw (lt-leb capacity n h) in
            let entries = ap (λ (x : Found Fault). x.entries) all in
            let next : n + 1 ≡ suc n = omega arith in
            record {
              most = g.most - 1;
              enough = omega (arith, g.enough, w);
              small = g.small;
              inside = w.inside;
              fault = sym (ap (λ (x : Found Fault). x.fault) all) ∙ g.fault;
              count = omega (arith, g.count, ap (λ (x : List ℕ). length x) entries);
              whole =
                  ap (λ (i : ℕ). sets (set table n entry) i rest.entries) next
                  ∙ ap (λ (x : List ℕ). sets table n x) (sym entries)
                  ∙ g.whole;
            }
