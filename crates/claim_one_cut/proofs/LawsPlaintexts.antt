-- A plaintext is accepted exactly when it can be cut to its end, with an entry for each field; and else for its first fault.
use Rattle.std.specs.Prelude.{Some, None, ◌≡◌, refl, Bool, true, false, List, [], ◌∷◌, ◌++◌, ℕ, zero, suc, ◌+◌, ◌-◌, ◌≤◌, ◌<◌, leb, length, drop}
use Rattle.std.proofs.Common.{sym, ap, ◌∙◌, append_assoc, arith, le-ltb, leb-true, leb-false, length-append, length-drop, drop_of_length-le}
use Rattle.std.proofs.lemmas.Bool.{lt-leb}
use Rattle.base_answers.specs.Meant.{◌⇒◌, first_of}
use Rattle.base_answers.specs.declared.Refusal.{Refusal}
use Rattle.base_answers.specs.declared.Refusal.TheVariants.{MalformedCookiePlaceholder, TooManyFields}
use Rattle.base_version.specs.declared.Version.{Version}
use Rattle.base_big_endian.specs.Meant.{Bytes}
use Rattle.read_entries.specs.Model.{entry_of, Found, stopped, then}
use Rattle.read_entries.specs.Meant.{capacity}
use Rattle.read_step.specs.Model.{step_at}
use Rattle.read_step.specs.declared.Step.{Step}
use Rattle.read_plaintext.specs.Model.{is_fouled, on_inner_step, inside_from, inside_of}
use Rattle.layout.specs.Meant.{Field, bytes_of, joined}
use Rattle.field_contents.specs.Meant.{All}
use Rattle.claim_one_cut.specs.MeantCut.{Inner, Filled}
use Rattle.claim_one_cut.specs.MeantFaults.{InnerFault, own, sealed_inside, no_room, Spoilt, not_zeros}
use Rattle.field_frame.specs.LawsLayout.{left_of, message_here, next_here}
use Rattle.layout.proofs.Laws.{size_of}
use Rattle.claim_one_cut.proofs.LawsSteps.{Lies, front_of, Stepped, ended, refuses, plain, sealed, stepped, lawful_step, end_step}

-- the entries of a plaintext's fields
abbrev pub plaintext_entries : ℕ → ℕ → List Field → List ℕ
plaintext_entries seal at [] = []
plaintext_entries seal at (f ∷ fs) = entry_of (length f.message) f.type at seal ∷ plaintext_entries seal (at + length (bytes_of f)) fs

abbrev full : List ℕ → Found Refusal
full es = record { fault = None; entries = es }

abbrev short : Refusal → List ℕ → Found Refusal
short r es = record { fault = Some r; entries = es }

nothing_left : (most : ℕ) (v : Version) (p : List ℕ) (seal n at : ℕ) → length p ≤ at → inside_from most v p seal n at ≡ full []
unfolding inside_from
nothing_left zero v p seal n at h = refl
nothing_left (suc most) v p seal n at h = rw (end_step v 0 p at (omega arith))

-- a cut is accepted
pub accepted : (fs : List Field) (most : ℕ) (v : Version) (p : List ℕ) (seal n at : ℕ) → drop at p ≡ joined fs → All (Inner v) fs
    → length p < at + most
    → n + length fs ≤ capacity
    → inside_from most v p seal n at ≡ full (plaintext_entries seal at fs)
unfolding inside_from
accepted [] most v p seal n at e each enough room = nothing_left most v p seal n at (omega (arith, left_of p at e))
accepted (f ∷ fs) zero v p seal n at e each enough room =
    absurd (omega (arith, left_of p at e, length-append (bytes_of f) (joined fs), size_of f))
accepted (f ∷ fs) (suc most) v p seal n at e each enough room =
    let size = size_of f in
    let left : length p - at ≡ length (bytes_of f) + length (joined fs) = left_of p at e ∙ length-append (bytes_of f) (joined fs) in
    let step = lawful_step v 0 p at f (joined fs) (omega arith) each.0.shaped e each.0.lawful in
    let message = message_here p at v f (joined fs) e in
    let later =
    accepted fs most v p seal (n + 1) (at + length (bytes_of f)) (next_here p at v f (joined fs) e) each.1 (omega arith)
    (omega arith) in
    rw (step.is, message, step.clean, lt-leb capacity n (omega arith), later)

-- how a plaintext ends
pub data Seen (v : Version) (p : List ℕ) (seal n at : ℕ) (found : Found Refusal) : Type 0 where
  good : (fs : List Field) → Filled v (drop at p) fs → n + length fs ≤ capacity → found ≡ full (plaintext_entries seal at fs)
      → Seen v p seal n at found
  bad : (r : Refusal) (es : List ℕ) → Spoilt v (drop at p) n r → found ≡ short r es → Seen v p seal n at found

module _ (v : Version) (p : List ℕ) (seal n at : ℕ) where
  at_end : n ≤ capacity → length p ≤ at → Seen v p seal n at (full [])
  at_end few h =
      good [] (record { whole = drop_of_length-le p h; each = tt }) (omega arith) refl

  some_left : 0 < length p - at → 0 < length (drop at p)
  some_left h = omega (arith, length-drop at p)

  spoilt : {r : Refusal} → n ≤ capacity → 0 < length p - at → InnerFault v (drop at p) (n + 0) r → Seen v p seal n at (short r [])
  spoilt {r} few more fault =
      bad r []
      (record {
        fields = [];
        left = drop at p;
        whole = refl;
        each = tt;
        room = omega arith;
        some_left = some_left more;
        fault = fault;
      })
      refl

  -- a lawful field, and how what follows it ends
  longer : (f : Field) → Lies v p at f → Inner v f → {found : Found Refusal} → Seen v p seal (n + 1) (at + length (bytes_of f)) found
      → Seen v p seal n at (then (entry_of (length f.message) f.type at seal) found)
  longer f here inner (good fs filled room e) =
      good (f ∷ fs)
      (record {
        whole = here.whole ∙ ap (λ (l : List ℕ). bytes_of f ++ l) filled.whole;
        each = (inner, filled.each);
      })
      (omega arith)
      (ap (λ (x : Found Refusal). then (entry_of (length f.message) f.type at seal) x) e)
  longer f here inner (bad r es s e) =
      let count : n + 1 + length s.fields ≡ n + suc (length s.fields) = omega arith in
      bad r (entry_of (length f.message) f.type at seal ∷ es)
      (record {
        fields = f ∷ s.fields;
        left = s.left;
        whole =
            here.whole
            ∙ ap (λ (l : List ℕ). bytes_of f ++ l) s.whole
            ∙ sym (append_assoc (bytes_of f) (joined s.fields) s.left);
        each = (inner, s.each);
        room = omega (arith, s.room);
        some_left = s.some_left;
        fault = rw count at s.fault;
      })
      (ap (λ (x : Found Refusal). then (entry_of (length f.message) f.type at seal) x) e)

abbrev Sees : ℕ → Version → List ℕ → ℕ → Type 0
Sees most v p seal =
    (n at : ℕ) → length p < at + most → n ≤ capacity → Seen v p seal n at (inside_from most v p seal n at)

pub seen_from : (most : ℕ) (v : Version) (p : List ℕ) → Bytes p → (seal : ℕ) → Sees most v p seal
unfolding inside_from
seen_from zero v p b seal n at enough few = at_end v p seal n at few (omega arith)
seen_from (suc most) v p b seal n at enough few = go (seen_from most v p b seal) (step_at v 0 p at) (stepped v 0 p b at)
  where
    go : Sees most v p seal → (st : Step) → Stepped v 0 p at st
        → Seen v p seal n at (on_inner_step p seal n at st (λ k. inside_from most v p seal (n + 1) (at + k)))
    go later st (ended h) = at_end v p seal n at few (omega arith)
    go later st (refuses more fault) = spoilt v p seal n at few more (own fault)
    go later st (sealed f more here h) = spoilt v p seal n at few more (sealed_inside f (front_of here) h)
    go later st (plain f c more here scanned) =
        let message = message_here p at v f (drop (at + length (bytes_of f)) p) here.whole in
        rw message
        (decided (is_fouled c f.message) refl (leb capacity n) refl)
      where
        decided : (x : Bool) → is_fouled c f.message ≡ x → (y : Bool) → leb capacity n ≡ y
            → Seen v p seal n at
            (first_of (x ⇒ stopped MalformedCookiePlaceholder ∷ y ⇒ stopped TooManyFields ∷ [])
            (then (entry_of (length f.message) f.type at seal) (inside_from most v p seal (n + 1) (at + length (bytes_of f)))))
        decided true e y g =
            let w = scanned.fouled e in
            spoilt v p seal n at few more (own (not_zeros f (front_of here) w.0 w.1))
        decided false e true g =
            spoilt v p seal n at few more (no_room f (front_of here) (scanned.clean e) (omega (arith, leb-true capacity n g)))
        decided false e false g =
            longer v p seal n at f here (record { shaped = here.shaped; lawful = scanned.clean e })
            (later (n + 1) (at + length (bytes_of f)) (omega (arith, size_of f)) (omega (arith, leb-false capacity n g)))

-- all fields of a plaintext of at most 65,535 bytes
pub accepted_whole : (fs : List Field) (v : Version) (p : List ℕ) (seal n : ℕ) → Filled v p fs → length p ≤ 65535
    → n + length fs ≤ capacity
    → inside_of v p seal n ≡ full (plaintext_entries seal 0 fs)
unfolding inside_of
accepted_whole fs v p seal n filled few room =
    rw (le-ltb 65535 (length p) few)
    (accepted fs (suc (length p)) v p seal n 0 filled.whole filled.each (omega arith) room)

pub seen : (v : Version) (p : List ℕ) → Bytes p → (seal n : ℕ) → length p ≤ 65535 → n ≤ capacity → Seen v p seal n 0 (inside_of v p seal n)
unfolding inside_of
seen v p b seal n few room = rw (le-ltb 65535 (length p) few) (seen_from (suc (length p)) v p b seal n 0 (omega arith) room)
