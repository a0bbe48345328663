-- A survey that meets its promise says what is meant.
use Rattle.std.specs.Prelude.{Result, Ok, Err, Option, Some, None, ◌≡◌, Bool, List, [], ◌∷◌, ◌++◌, ℕ, zero, suc, ◌+◌, ◌-◌, ◌≤◌, ◌<◌, ltb, eqb, get_or, drop, replicate}
use Rattle.std.proofs.Math.Path.{refl, subst}
use Rattle.std.proofs.Common.{sym, ap, ◌∙◌, append_assoc, arith, length-append, drop_at}
use Rattle.std.proofs.Math.Bool.{true, false}
use borrow.Author.Tests.{leb-true, leb-false, ltb-true, ltb-false, eqb-true, eqb-false, eq-eqb, ne_eqb}
use Rattle.std.proofs.Math.Dec.{leb}
use Rattle.std.proofs.Math.ListN.{length, length-drop}
use Rattle.base_answers.specs.Meant.{pick, ◌⇒◌, first_of}
use Rattle.base_answers.specs.declared.Refusal.{Refusal}
use Rattle.base_answers.specs.declared.Refusal.TheVariants.{IncorrectLength, HeaderPastEnd, PacketTooLong, TooManyFields}
use Rattle.base_version.specs.declared.Version.{Version}
use Rattle.base_rounding.specs.Meant.{rounded_up}
use Rattle.base_big_endian.specs.Meant.{Bytes}
use Rattle.base_big_endian.specs.Laws.{bytes_take, bytes_drop}
use Rattle.field_contents.specs.Meant.{IsSealed}
use Rattle.field_frame.specs.Model.{frame_at}
use Rattle.field_frame.specs.LawsLayout.{left_of, frame_here, message_here, framed_here}
use Rattle.field_frame.specs.declared.Frame.{Frame}
use Rattle.field_sealed.specs.Meant.{Sealing}
use Rattle.field_sealed.specs.Model.{sealed_parts}
use Rattle.field_sealed.proofs.Laws.{parts_placed}
use Rattle.field_sealed.proofs.LawsSealing.{placed, Judged, good, bad, judged}
use Rattle.field_sealed.specs.declared.Sealed.{Sealed as Parts}
use Rattle.layout.specs.Meant.{Field, bytes_of, joined, cutoff_of, Front}
use Rattle.layout.proofs.Laws.{size_of, Along, each_of}
use Rattle.read_entries.specs.Meant.{capacity, blanks, over_table, TableReply}
use Rattle.read_entries.specs.Model.{entry_of, Found, ended, then}
use Rattle.read_entries.specs.LawsTables.{whole}
use Rattle.read_survey.specs.Model.{outer_at, Fault, stopped_at, on_outer, survey_from, found_in, survey_reply, surveyed_with, survey_of, seal_of}
use Rattle.read_survey.specs.Laws.{entry_says}
use Rattle.read_survey.specs.declared.Outer.{Outer}
use Rattle.read_survey.specs.declared.Outer.TheVariants.{Other, Sealed}
use Rattle.read_survey.specs.declared.SurveyFault.{SurveyFault}
use Rattle.read_survey.specs.Meant.{faulty_at}
use Rattle.claim_one_cut.proofs.LawsSteps.{Lies, front_of, frame_fault, no_front}
use Rattle.claim_one_cut.proofs.LawsTables.{sealed_kind}
use Rattle.claim_survey.proofs.LawsOuter.{plain_outer, sealed_outer, part_of_message}
use Rattle.claim_survey.specs.Meant.{seals_among, Names, Ends, complete, no_frame, no_sealing, no_room, SurveyTells, long, past_end, lists}

-- what there is at a place
data View (v : Version) (p : List ℕ) (at : ℕ) : Result Outer Refusal → Type 0 where
  unframed : ((f : Field) → Front v (drop at p) f → ⊥) → View v p at (Err IncorrectLength)
  unsealed : (f : Field) → Lies v p at f → IsSealed f → (Sealing f.message → ⊥) → View v p at (Err IncorrectLength)
  other : (f : Field) → Lies v p at f → (IsSealed f → ⊥) → View v p at (Ok (Other (length (bytes_of f))))
  seal : (f : Field) → Lies v p at f → IsSealed f → (s : Sealing f.message)
      → View v p at (Ok (Sealed (length s.nonce) (length s.ciphertext) (length (bytes_of f))))

module _ (v : Version) (p : List ℕ) (at : ℕ) (b : Bytes p) where
  sealing_or_not : (f : Field) → Lies v p at f → IsSealed f → (x : Result Parts Refusal) → sealed_parts f.message ≡ x → Judged f.message x
      → View v p at (outer_at v p at)
  unfolding outer_at
  sealing_or_not f here h x e (good s n to c) =
      subst (View v p at) (sym (sealed_outer v p at f _ here.whole here.shaped h s)) (seal f here h s)
  sealing_or_not f here h x e (bad none_there) =
      subst (View v p at) (sym faulty) (unsealed f here h none_there)
    where
      faulty : outer_at v p at ≡ Err IncorrectLength
      faulty =
          rw (
            frame_here p at v f _ here.whole here.shaped,
            h,
            sealed_kind v,
            message_here p at v f _ here.whole,
            e,
          )

  sealed_or_not : (f : Field) → Lies v p at f → Bytes f.message → (x : Bool) → eqb f.type 0x0404 ≡ x → View v p at (outer_at v p at)
  sealed_or_not f here small true e =
      sealing_or_not f here (eqb-true _ _ e) (sealed_parts f.message) refl (judged f.message small)
  sealed_or_not f here small false e =
      let h = eqb-false f.type 0x0404 e in
      subst (View v p at) (sym (plain_outer v p at f _ here.whole here.shaped h)) (other f here h)

  framed_or_not : (x : Result Frame Refusal) → frame_at v p at ≡ x → View v p at (outer_at v p at)
  unfolding outer_at
  framed_or_not (Err r) e =
      let q = frame_fault v p at e in
      let faulty : outer_at v p at ≡ Err IncorrectLength = rw (e, q) in
      subst (View v p at) (sym faulty) (unframed (no_front v p at e))
  framed_or_not (Ok fr) e =
      let h = framed_here p b at v e in
      let f = h.field in
      let here : Lies v p at f = record { shaped = h.shaped; whole = rw h.taken h.whole } in
      let small : Bytes f.message =
      subst Bytes (message_here p at v f _ here.whole) (bytes_take (length f.message) (drop (at + 4) p) (bytes_drop (at + 4) p b)) in
      sealed_or_not f here small (eqb f.type 0x0404) refl

  view : View v p at (outer_at v p at)
  view = framed_or_not (frame_at v p at) refl

abbrev Named : List ℕ → ℕ → List Field → List ℕ → Type 0
Named p at fs es = (before : List Field) (f : Field) (later : List Field) → fs ≡ before ++ (f ∷ later) → IsSealed f
    → Names p (at + length (joined before)) f (seal_of (get_or es (seals_among before) 0))

-- what a survey from a place on comes to, with `n` entries before it
record Seen (v : Version) (p : List ℕ) (n at : ℕ) (found : Found Fault) : Type 0 where
  fields : List Field
  left : List ℕ
  whole : drop at p ≡ joined fields ++ left
  along : Along v (cutoff_of v) fields left
  room : n + seals_among fields ≤ capacity
  ends : Ends v left (n + seals_among fields) (at + length (joined fields)) (surveyed_with found.fault (n + seals_among fields))
  count : length found.entries ≡ seals_among fields
  named : Named p at fields found.entries

none_named : (p : List ℕ) (at : ℕ) → Named p at [] []
none_named p at [] f later q h =
    let z : ◌≡◌ {A = ℕ} 0 1 = cc in
    absurd (omega arith)
none_named p at (y ∷ ys) f later q h =
    let z : ◌≡◌ {A = ℕ} 0 1 = cc in
    absurd (omega arith)

-- nothing more is taken
stays : (v : Version) (p : List ℕ) (n at : ℕ) (q : Option Fault) → n ≤ capacity → Ends v (drop at p) n at (surveyed_with q n)
    → Seen v p n at (record { fault = q; entries = [] })
stays v p n at q h e =
    let a : n + 0 ≡ n = omega arith in
    let b : at + 0 ≡ at = omega arith in
    record {
      fields = [];
      left = drop at p;
      whole = refl;
      along = tt;
      room = omega arith;
      ends = rw (a, b) e;
      count = refl;
      named = none_named p at;
    }

module _ (v : Version) (p : List ℕ) (n at : ℕ) (f : Field) (here : Lies v p at f) (more : cutoff_of v < length p - at) where
  names_it : IsSealed f → at < 65536 → (s : Sealing f.message) → Names p at f (seal_of (entry_of (length s.nonce) (length s.ciphertext) at 0))
  names_it h small s =
      let m = length s.nonce in
      let c = length s.ciphertext in
      let w = placed f.message s in
      let inside = parts_placed f.message w.parts in
      let says = entry_says f.message at (omega (arith, here.shaped)) small w.parts in
      let tl = drop (at + length (bytes_of f)) p in
      rw says
      (record {
        sealing = s;
        before = refl;
        nonce_place = omega arith;
        nonce_length = refl;
        nonce = part_of_message v p at f tl here.whole here.shaped 4 m (omega (arith, inside)) ∙ w.nonce;
        ciphertext_place = omega (arith, s.short, s.even);
        ciphertext_length = refl;
        ciphertext = part_of_message v p at f tl here.whole here.shaped (4 + rounded_up m) c inside.inside ∙ w.ciphertext;
      })

  module _ (k : ℕ) {found' : Found Fault} (later : Seen v p k (at + length (bytes_of f)) found') where
    whole_of : drop at p ≡ joined (f ∷ later.fields) ++ later.left
    whole_of =
        here.whole
        ∙ ap (λ (l : List ℕ). bytes_of f ++ l) later.whole
        ∙ sym (append_assoc (bytes_of f) (joined later.fields) later.left)

    place_of : (ys : List Field) → at + length (bytes_of f) + length (joined ys) ≡ at + length (joined (f ∷ ys))
    place_of ys = omega (arith, length-append (bytes_of f) (joined ys))

    step_on : (found : Found Fault) → found.fault ≡ found'.fault → n + pick (eqb f.type 0x0404) 1 0 ≡ k
        → length found.entries ≡ pick (eqb f.type 0x0404) 1 0 + length found'.entries
        → Named p at (f ∷ later.fields) found.entries
        → Seen v p n at found
    step_on found faults counts sizes named =
        let total : n + seals_among (f ∷ later.fields) ≡ k + seals_among later.fields = omega arith in
        record {
          fields = f ∷ later.fields;
          left = later.left;
          whole = whole_of;
          along = (
            record {
              more = omega (arith, left_of p at whole_of, more);
              shaped = here.shaped;
            },
            later.along,
          );
          room = rw total later.room;
          ends = rw (total, ← place_of later.fields, faults) later.ends;
          count = sizes ∙ ap (λ (x : ℕ). pick (eqb f.type 0x0404) 1 0 + x) later.count;
          named = named;
        }

    over_other : (IsSealed f → ⊥) → n ≡ k → Seen v p n at found'
    over_other h same =
        let no_seal_law = ne_eqb f.type 0x0404 h in
        step_on found' refl (rw no_seal_law (omega arith)) (rw no_seal_law (omega arith)) named
      where
        named : Named p at (f ∷ later.fields) found'.entries
        named [] g gs q t =
            let e : f ≡ g = cc in
            absurd (h (ap (λ (x : Field). x.type) e ∙ t))
        named (y ∷ ys) g gs q t =
            let e : f ≡ y = cc in
            let r : later.fields ≡ ys ++ (g ∷ gs) = cc in
            let zero_here : eqb y.type 0x0404 ≡ false = rw (sym e) (ne_eqb f.type 0x0404 h) in
            let w = later.named ys g gs r t in
            let number : 0 + seals_among ys ≡ seals_among ys = omega arith in
            rw (sym e) (rw (ne_eqb f.type 0x0404 h, number, ← place_of ys) w)

    over_seal : (h : IsSealed f) → (s : Sealing f.message) → at < 65536 → n + 1 ≡ k
        → Seen v p n at (then (entry_of (length s.nonce) (length s.ciphertext) at 0) found')
    over_seal h s small same =
        let is_seal = eq-eqb f.type 0x0404 h in
        step_on (then entry found') refl (rw is_seal (omega arith)) (rw is_seal (omega arith)) named
      where
        entry : ℕ
        entry = entry_of (length s.nonce) (length s.ciphertext) at 0

        named : Named p at (f ∷ later.fields) (entry ∷ found'.entries)
        named [] g gs q t =
            let e : f ≡ g = cc in
            let none_before : at + 0 ≡ at = omega arith in
            rw (sym e) (rw none_before (names_it h small s))
        named (y ∷ ys) g gs q t =
            let e : f ≡ y = cc in
            let r : later.fields ≡ ys ++ (g ∷ gs) = cc in
            let w = later.named ys g gs r t in
            let number : 1 + seals_among ys ≡ suc (seals_among ys) = omega arith in
            rw (sym e) (rw (eq-eqb f.type 0x0404 h, number, ← place_of ys) w)

module _ (v : Version) (p : List ℕ) (b : Bytes p) (short : length p ≤ 65535) where
  inside_after : (at : ℕ) (f : Field) → Lies v p at f → at ≤ length p → at + length (bytes_of f) ≤ length p
  inside_after at f here h =
      omega (arith, left_of p at here.whole, length-append (bytes_of f) (drop (at + length (bytes_of f)) p))

  one_turn : (most n at : ℕ) → at ≤ length p → length p < at + suc most → n ≤ capacity
      → ((i to : ℕ) → to ≤ length p → length p < to + most → i ≤ capacity → Seen v p i to (survey_from most v p i to))
      → Seen v p n at (survey_from (suc most) v p n at)
  unfolding survey_from
  one_turn most n at inside enough room onward = started (leb (length p - at) (cutoff_of v)) refl
    where
      sealed_so : (f : Field) → Lies v p at f → cutoff_of v < length p - at → IsSealed f → (s : Sealing f.message) → (x : Bool) → leb capacity n ≡ x
          → Seen v p n at
          (first_of (x ⇒ stopped_at TooManyFields at ∷ [])
          (then (entry_of (length s.nonce) (length s.ciphertext) at 0) (survey_from most v p (n + 1) (at + length (bytes_of f)))))
      sealed_so f here more h s true e =
          stays v p n at (Some (record { refusal = TooManyFields; offset = at })) room
          (no_room (omega (arith, length-drop at p, more)) f (front_of here) h s (omega (arith, leb-true capacity n e)))
      sealed_so f here more h s false e =
          over_seal v p n at f here more (n + 1)
          (onward (n + 1) (at + length (bytes_of f)) (inside_after at f here inside) (omega (arith, size_of f)) (omega (arith, leb-false capacity n e)))
          h s (omega (arith, more)) refl

      taken : cutoff_of v < length p - at → (o : Result Outer Refusal) → View v p at o
          → Seen v p n at (on_outer n at o (λ i k. survey_from most v p i (at + k)))
      taken more o (unframed h) =
          stays v p n at (Some (record { refusal = IncorrectLength; offset = at })) room
          (no_frame (omega (arith, length-drop at p, more)) h)
      taken more o (unsealed f here h none_there) =
          stays v p n at (Some (record { refusal = IncorrectLength; offset = at })) room
          (no_sealing (omega (arith, length-drop at p, more)) f (front_of here) h none_there)
      taken more o (other f here h) =
          over_other v p n at f here more n
          (onward n (at + length (bytes_of f)) (inside_after at f here inside) (omega (arith, size_of f)) room) h refl
      taken more o (seal f here h s) = sealed_so f here more h s (leb capacity n) refl

      started : (x : Bool) → leb (length p - at) (cutoff_of v) ≡ x
          → Seen v p n at (first_of (x ⇒ ended ∷ []) (on_outer n at (outer_at v p at) (λ i k. survey_from most v p i (at + k))))
      started true e =
          stays v p n at None room (complete (omega (arith, length-drop at p, leb-true (length p - at) (cutoff_of v) e)))
      started false e = taken (leb-false _ _ e) (outer_at v p at) (view v p at b)

  seen : (most n at : ℕ) → at ≤ length p → length p < at + most → n ≤ capacity → Seen v p n at (survey_from most v p n at)
  seen zero n at inside enough room = absurd (omega arith)
  seen (suc most) n at inside enough room = one_turn most n at inside enough room (λ i to a c d. seen most i to a c d)

seals_before : (xs : List Field) (f : Field) (ys : List Field) → IsSealed f → seals_among xs < seals_among (xs ++ (f ∷ ys))
seals_before [] f ys h = rw (eq-eqb f.type 0x0404 h) (omega arith)
seals_before (x ∷ xs) f ys h = omega (arith, seals_before xs f ys h)

in_front : (es after : List ℕ) (k : ℕ) → k < length es → get_or (es ++ after) k 0 ≡ get_or es k 0
in_front [] after k h = absurd (omega arith)
in_front (e ∷ es) after zero h = refl
in_front (e ∷ es) after (suc k) h = in_front es after k (omega arith)

-- the theorem, for any answer and table that meet the promise of `survey::survey`
pub survey_tells : (p : List ℕ) (header : ℕ) (v : Version) → Bytes p → (table : List ℕ) → length table ≡ capacity → (r : Result ℕ SurveyFault) {t : List ℕ}
    → survey_reply r t ≡ survey_of p header v table
    → SurveyTells p header v r t
unfolding survey_of found_in
survey_tells p header v b table h r {t} promise = go (ltb 65535 (length p)) refl (ltb (length p) header) refl
  where
    at_once : (q : Refusal) → survey_reply r t ≡ record { answer = faulty_at q 0 0; table = over_table table [] capacity }
        → (r ≡ faulty_at q 0 0) × (t ≡ replicate capacity 0)
    at_once q e = (
      ap (λ (x : TableReply (Result ℕ SurveyFault)). x.answer) e,
      ap (λ (x : TableReply (Result ℕ SurveyFault)). x.table) e ∙ whole table [] capacity h (omega arith) (omega arith),
    )

    go : (x : Bool) → ltb 65535 (length p) ≡ x → (y : Bool) → ltb (length p) header ≡ y → SurveyTells p header v r t
    go true e y g =
        let w = at_once PacketTooLong (promise ∙ rw e) in
        long (ltb-true _ _ e) w.0 w.1
    go false e true g =
        let w = at_once HeaderPastEnd (promise ∙ rw (e, g)) in
        past_end (ltb-false _ _ e) (ltb-true _ _ g) w.0 w.1
    go false e false g =
        let short = ltb-false 65535 (length p) e in
        let inside = ltb-false (length p) header g in
        let found = survey_from (suc (length p)) v p 0 header in
        let w = seen v p b short (suc (length p)) 0 header inside (omega arith) (omega arith) in
        let es = found.entries in
        let n = seals_among w.fields in
        let reply : survey_reply r t ≡ record { answer = surveyed_with found.fault (length es); table = over_table table es capacity } =
        promise ∙ rw (e, g) in
        let answer : r ≡ surveyed_with found.fault n =
        ap (λ (x : TableReply (Result ℕ SurveyFault)). x.answer) reply ∙ ap (surveyed_with found.fault) w.count in
        let tables : t ≡ es ++ blanks (length es) capacity =
        ap (λ (x : TableReply (Result ℕ SurveyFault)). x.table) reply ∙ whole table es capacity h (omega (arith, w.count, w.room)) (omega arith) in
        let none_before : 0 + n ≡ n = omega arith in
        lists short inside
        (record {
          fields = w.fields;
          left = w.left;
          begins = record { whole = w.whole; each = each_of v (cutoff_of v) w.fields w.left w.along };
          room = omega (arith, w.room);
          ends = rw answer (rw none_before at w.ends);
          names =
              λ before f later q s.
              rw (
                tables,
                in_front es (blanks (length es) capacity) (seals_among before)
                    (omega (arith, w.count, ap seals_among q, seals_before before f later s)),
              )
              (w.named before f later q s);
          blank = rw tables (drop_at es (blanks (length es) capacity) n w.count ∙ ap (λ (k : ℕ). replicate (capacity - k) 0) w.count);
        })
