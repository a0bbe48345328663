-- What is meant leaves one answer only.
use Rattle.std.specs.Prelude.{Result, ◌≡◌, refl, List, [], ◌∷◌, ◌++◌, ℕ, ◌+◌, ◌≤◌, ◌<◌, eqb, length}
use Rattle.std.proofs.Common.{sym, ap, subst, ◌∙◌, append_assoc, arith, eq-eqb, length-append}
use Rattle.base_answers.specs.Meant.{pick}
use Rattle.base_version.specs.declared.Version.{Version}
use Rattle.field_contents.specs.Meant.{All, IsSealed}
use Rattle.field_sealed.specs.Meant.{Sealing}
use Rattle.layout.specs.Meant.{Field, bytes_of, joined, cutoff_of, Front, Stands}
use Rattle.layout.proofs.Laws.{one_field, Along, along}
use Rattle.read_entries.specs.Meant.{capacity}
use Rattle.read_survey.specs.declared.SurveyFault.{SurveyFault}
use Rattle.claim_survey.specs.Meant.{seals_among, Ends, complete, no_frame, no_sealing, no_room, SurveyTells, long, past_end, lists}

-- each sealed field among these has its inner lengths
abbrev pub Sound : List Field → Type 0
Sound fs = All (λ (f : Field). IsSealed f → Sealing f.message) fs

pub sound : (fs : List Field) → ((before : List Field) (f : Field) (later : List Field) → fs ≡ before ++ (f ∷ later) → IsSealed f → Sealing f.message)
    → Sound fs
sound [] h = tt
sound (f ∷ fs) h = (h [] f fs refl, sound fs (λ ys g gs q. h (f ∷ ys) g gs (ap (λ (l : List Field). f ∷ l) q)))

same_front : (v : Version) (left : List ℕ) (f g : Field) → Front v left f → Front v left g → f ≡ g
same_front v left f g a b = (one_field v f g a.shaped b.shaped (sym a.whole ∙ b.whole)).0

-- one end at one place
one_end : (v : Version) (left : List ℕ) (n offset : ℕ) (r s : Result ℕ SurveyFault) → Ends v left n offset r → Ends v left n offset s → r ≡ s
one_end v left n offset r s (complete a) (complete b) = refl
one_end v left n offset r s (complete a) (no_frame b h) = absurd (omega (arith, a, b))
one_end v left n offset r s (complete a) (no_sealing b f w t h) = absurd (omega (arith, a, b))
one_end v left n offset r s (complete a) (no_room b f w t h q) = absurd (omega (arith, a, b))
one_end v left n offset r s (no_frame b h) (complete a) = absurd (omega (arith, a, b))
one_end v left n offset r s (no_frame b h) (no_frame c k) = refl
one_end v left n offset r s (no_frame b h) (no_sealing c g u t k) = refl
one_end v left n offset r s (no_frame b h) (no_room c g u t k q) = absurd (h g u)
one_end v left n offset r s (no_sealing b f w t h) (complete a) = absurd (omega (arith, a, b))
one_end v left n offset r s (no_sealing b f w t h) (no_frame c k) = refl
one_end v left n offset r s (no_sealing b f w t h) (no_sealing c g u x k) = refl
one_end v left n offset r s (no_sealing b f w t h) (no_room c g u x k q) =
    absurd (h (subst (λ (z : Field). Sealing z.message) (same_front v left g f u w) k))
one_end v left n offset r s (no_room b f w t h q) (complete a) = absurd (omega (arith, a, b))
one_end v left n offset r s (no_room b f w t h q) (no_frame c k) = absurd (k f w)
one_end v left n offset r s (no_room b f w t h q) (no_sealing c g u x k) =
    absurd (k (subst (λ (z : Field). Sealing z.message) (same_front v left f g w u) h))
one_end v left n offset r s (no_room b f w t h q) (no_room c g u x k q') = refl

-- no end where a sound field stands
no_end : (v : Version) (left later : List ℕ) (n offset : ℕ) (r : Result ℕ SurveyFault) (f : Field) → left ≡ bytes_of f ++ later → Stands v (cutoff_of v) f (length left)
    → (IsSealed f → Sealing f.message)
    → (IsSealed f → n < capacity)
    → Ends v left n offset r
    → ⊥
no_end v left later n offset r f e s sealing room (complete a) = omega (arith, s.more, a)
no_end v left later n offset r f e s sealing room (no_frame b h) = h f (record { later = later; shaped = s.shaped; whole = e })
no_end v left later n offset r f e s sealing room (no_sealing b g w t h) =
    let q : f ≡ g = same_front v left f g (record { later = later; shaped = s.shaped; whole = e }) w in
    h (subst (λ (z : Field). Sealing z.message) q (sealing (ap (λ (z : Field). z.type) q ∙ t)))
no_end v left later n offset r f e s sealing room (no_room b g w t h full) =
    let q : f ≡ g = same_front v left f g (record { later = later; shaped = s.shaped; whole = e }) w in
    omega (arith, room (ap (λ (z : Field). z.type) q ∙ t))

-- one way to the end, where `n` sealed fields came before
pub one_way : (v : Version) (xs ys : List Field) (left left' : List ℕ) (n at : ℕ) (r s : Result ℕ SurveyFault) → joined xs ++ left ≡ joined ys ++ left'
    → Along v (cutoff_of v) xs left
    → Along v (cutoff_of v) ys left'
    → Sound xs
    → Sound ys
    → n + seals_among xs ≤ capacity
    → n + seals_among ys ≤ capacity
    → Ends v left (n + seals_among xs) (at + length (joined xs)) r
    → Ends v left' (n + seals_among ys) (at + length (joined ys)) s
    → r ≡ s
one_way v [] [] left left' n at r s e a b c d j k x y =
    one_end v left (n + 0) (at + 0) r s x (subst (λ (l : List ℕ). Ends v l (n + 0) (at + 0) s) (sym e) y)
one_way v [] (g ∷ ys) left left' n at r s e a b c d j k x y =
    absurd
    (no_end v left (joined ys ++ left') (n + 0) (at + 0) r g (e ∙ append_assoc (bytes_of g) (joined ys) left')
    (rw e b.0) d.0 (λ t. omega (arith, k, ap (λ (z : ℕ). z) (seal_counts g t))) x)
  where
    seal_counts : (f : Field) → IsSealed f → seals_among (f ∷ ys) ≡ 1 + seals_among ys
    seal_counts f t = rw (eq-eqb f.type 0x0404 t) refl
one_way v (f ∷ xs) [] left left' n at r s e a b c d j k x y =
    absurd
    (no_end v left' (joined xs ++ left) (n + 0) (at + 0) s f (sym e ∙ append_assoc (bytes_of f) (joined xs) left)
    (rw (← e) a.0) c.0 (λ t. omega (arith, j, seal_counts f t)) y)
  where
    seal_counts : (f : Field) → IsSealed f → seals_among (f ∷ xs) ≡ 1 + seals_among xs
    seal_counts f t = rw (eq-eqb f.type 0x0404 t) refl
one_way v (f ∷ xs) (g ∷ ys) left left' n at r s e a b c d j k x y =
    let first =
    one_field v f g a.0.shaped b.0.shaped
    (sym (append_assoc (bytes_of f) (joined xs) left) ∙ e ∙ append_assoc (bytes_of g) (joined ys) left') in
    let m = n + pick (eqb f.type 0x0404) 1 0 in
    let number : n + seals_among (f ∷ xs) ≡ m + seals_among xs = omega arith in
    let number' : n + seals_among (f ∷ ys) ≡ m + seals_among ys = omega arith in
    let place : at + length (joined (f ∷ xs)) ≡ at + length (bytes_of f) + length (joined xs) = omega (arith, length-append (bytes_of f) (joined xs)) in
    let place' : at + length (joined (f ∷ ys)) ≡ at + length (bytes_of f) + length (joined ys) = omega (arith, length-append (bytes_of f) (joined ys)) in
    let y' : Ends v left' (n + seals_among (f ∷ ys)) (at + length (joined (f ∷ ys))) s =
    subst (λ (z : Field). Ends v left' (n + seals_among (z ∷ ys)) (at + length (joined (z ∷ ys))) s) (sym first.0) y in
    let k' : n + seals_among (f ∷ ys) ≤ capacity = subst (λ (z : Field). n + seals_among (z ∷ ys) ≤ capacity) (sym first.0) k in
    one_way v xs ys left left' m (at + length (bytes_of f)) r s first.1 a.1 b.1 c.1 d.1 (omega arith) (omega arith)
    (rw (number, place) at x)
    (rw (number', place') at y')

-- the theorem: for one packet there is one answer
pub one_answer : (p : List ℕ) (header : ℕ) (v : Version) (r s : Result ℕ SurveyFault) {t u : List ℕ} → SurveyTells p header v r t → SurveyTells p header v s u → r ≡ s
one_answer p header v r s (long a e t) (long b f u) = e ∙ sym f
one_answer p header v r s (long a e t) (past_end b h f u) = absurd (omega arith)
one_answer p header v r s (long a e t) (lists b h l) = absurd (omega arith)
one_answer p header v r s (past_end a h e t) (long b f u) = absurd (omega arith)
one_answer p header v r s (past_end a h e t) (past_end b k f u) = e ∙ sym f
one_answer p header v r s (past_end a h e t) (lists b k l) = absurd (omega arith)
one_answer p header v r s (lists a h l) (long b f u) = absurd (omega arith)
one_answer p header v r s (lists a h l) (past_end b k f u) = absurd (omega arith)
one_answer p header v r s (lists a h l) (lists b k m) =
    one_way v l.fields m.fields l.left m.left 0 header r s (sym l.begins.whole ∙ m.begins.whole)
    (along v (cutoff_of v) l.fields l.left l.begins.each) (along v (cutoff_of v) m.fields m.left m.begins.each)
    (sound l.fields (λ ys f zs q i. (l.names ys f zs q i).sealing))
    (sound m.fields (λ ys f zs q i. (m.names ys f zs q i).sealing))
    (omega (arith, l.room)) (omega (arith, m.room))
    (rw (nothing (seals_among l.fields)) l.ends)
    (rw (nothing (seals_among m.fields)) m.ends)
  where
    nothing : (n : ℕ) → 0 + n ≡ n
    nothing n = omega arith
