-- A packet has one first fault, and none where it has a cut: what stands at a place decides.
use Rattle.std.specs.Prelude.{◌≡◌, refl, List, [], ◌∷◌, ◌++◌, ℕ, suc, ◌+◌, ◌≤◌, ◌<◌, length}
use Rattle.std.proofs.Common.{sym, ap, subst, ◌∙◌, append_assoc, arith}
use Rattle.base_answers.specs.declared.Refusal.{Refusal}
use Rattle.base_version.specs.declared.Version.{Version}
use Rattle.read_entries.specs.Meant.{capacity}
use Rattle.read_opening.specs.Meant.{verdict_of}
use Rattle.read_packet.specs.Meant.{Input}
use Rattle.layout.specs.Meant.{Field, bytes_of, joined, Front}
use Rattle.field_contents.specs.Meant.{All, IsSealed, Lawful}
use Rattle.claim_one_cut.specs.MeantCut.{Inner, Filled, Ready, Shut, Opened}
use Rattle.claim_one_cut.specs.MeantFaults.{FieldFault, no_frame, not_zeros, not_ascii, no_offset, InnerFault, own, sealed_inside, no_room, Spoilt, Unusable, unknown, outside, too_long, SealFault, no_sealing, no_result, unusable, no_marker, within, OuterFault, own as own-outer, no_room as no-outer-room, seal}
use Rattle.layout.proofs.Laws.{one_field, not_nothing}

module _ (v : Version) (left : List ℕ) where
  -- one field stands in front
  pub same_front : (f g : Field) → Front v left f → Front v left g → f ≡ g
  same_front f g a b = (one_field v f g a.shaped b.shaped (sym a.whole ∙ b.whole)).0

  same_type : (f g : Field) → Front v left f → Front v left g → f.type ≡ g.type
  same_type f g a b = ap (λ (x : Field). x.type) (same_front f g a b)

  -- a field's own fault is one
  pub one_field_fault : {q r : Refusal} → FieldFault v left q → FieldFault v left r → q ≡ r
  one_field_fault (no_frame h) (no_frame k) = refl
  one_field_fault (no_frame h) (not_zeros g b t k) = absurd (h g b)
  one_field_fault (no_frame h) (not_ascii g b n t k) = absurd (h g b)
  one_field_fault (no_frame h) (no_offset g b n t k) = absurd (h g b)
  one_field_fault (not_zeros f a s h) (no_frame k) = absurd (k f a)
  one_field_fault (not_zeros f a s h) (not_zeros g b t k) = refl
  one_field_fault (not_zeros f a s h) (not_ascii g b n t k) = absurd (omega (arith, same_type f g a b))
  one_field_fault (not_zeros f a s h) (no_offset g b n t k) = absurd (omega (arith, same_type f g a b))
  one_field_fault (not_ascii f a n s h) (no_frame k) = absurd (k f a)
  one_field_fault (not_ascii f a n s h) (not_zeros g b t k) = absurd (omega (arith, same_type f g a b))
  one_field_fault (not_ascii f a n s h) (not_ascii g b m t k) = refl
  one_field_fault (not_ascii f a n s h) (no_offset g b m t k) = absurd (omega (arith, same_type f g a b))
  one_field_fault (no_offset f a n s h) (no_frame k) = absurd (k f a)
  one_field_fault (no_offset f a n s h) (not_zeros g b t k) = absurd (omega (arith, same_type f g a b))
  one_field_fault (no_offset f a n s h) (not_ascii g b m t k) = absurd (omega (arith, same_type f g a b))
  one_field_fault (no_offset f a n s h) (no_offset g b m t k) = refl

  -- a lawful field and a sealed one have none
  pub lawful_front : {q : Refusal} (g : Field) → FieldFault v left q → Front v left g → Lawful v g → ⊥
  lawful_front g (no_frame h) b l = h g b
  lawful_front g (not_zeros f a s h) b l =
      let e = same_front f g a b in
      h (subst (λ (x : Field). All (λ (y : ℕ). y ≡ 0) x.message) (sym e) (l.placeholder (sym (ap (λ (x : Field). x.type) e) ∙ s)))
  lawful_front g (not_ascii f a n s h) b l =
      let e = same_front f g a b in
      h
      (subst (λ (x : Field). All (λ (y : ℕ). y < 128) x.message) (sym e)
      (l.identification n (sym (ap (λ (x : Field). x.type) e) ∙ s)))
  lawful_front g (no_offset f a n s h) b l =
      let e = same_front f g a b in
      let k = l.request n (sym (ap (λ (x : Field). x.type) e) ∙ s) in
      omega (arith, ap (λ (x : Field). length x.message) e)

  pub sealed_front : {q : Refusal} (g : Field) → FieldFault v left q → Front v left g → IsSealed g → ⊥
  sealed_front g (no_frame h) b s = h g b
  sealed_front g (not_zeros f a t h) b s = omega (arith, same_type f g a b)
  sealed_front g (not_ascii f a n t h) b s = omega (arith, same_type f g a b)
  sealed_front g (no_offset f a n t h) b s = omega (arith, same_type f g a b)

  pub not_both : (f g : Field) → Front v left f → Front v left g → Lawful v f → IsSealed g → ⊥
  not_both f g a b l s = l.not_sealed (same_type f g a b ∙ s)

  one_inner_fault : {q r : Refusal} {n : ℕ} → InnerFault v left n q → InnerFault v left n r → q ≡ r
  one_inner_fault (own a) (own b) = one_field_fault a b
  one_inner_fault (own a) (sealed_inside g b s) = absurd (sealed_front g a b s)
  one_inner_fault (own a) (no_room g b l h) = absurd (lawful_front g a b l)
  one_inner_fault (sealed_inside f a s) (own b) = absurd (sealed_front f b a s)
  one_inner_fault (sealed_inside f a s) (sealed_inside g b t) = refl
  one_inner_fault (sealed_inside f a s) (no_room g b l h) = absurd (not_both g f b a l s)
  one_inner_fault (no_room f a l h) (own b) = absurd (lawful_front f b a l)
  one_inner_fault (no_room f a l h) (sealed_inside g b s) = absurd (not_both f g a b l s)
  one_inner_fault (no_room f a l h) (no_room g b m k) = refl

  -- a lawful field for which there is room has no fault
  no_inner_fault : {q : Refusal} {n : ℕ} (g : Field) → InnerFault v left n q → Front v left g → Lawful v g → n < capacity → ⊥
  no_inner_fault g (own a) b l h = lawful_front g a b l
  no_inner_fault g (sealed_inside f a s) b l h = not_both g f b a l s
  no_inner_fault g (no_room f a m k) b l h = omega arith

-- plaintexts
in_front : (v : Version) (f : Field) (fs : List Field) (left : List ℕ) → Inner v f → Front v (joined (f ∷ fs) ++ left) f
in_front v f fs left h =
    record { later = joined fs ++ left; shaped = h.shaped; whole = append_assoc (bytes_of f) (joined fs) left }

spoilt_from : (v : Version) (fs gs : List Field) (l m : List ℕ) (n : ℕ) {q r : Refusal} → joined fs ++ l ≡ joined gs ++ m
    → All (Inner v) fs
    → All (Inner v) gs
    → n + length fs ≤ capacity
    → n + length gs ≤ capacity
    → InnerFault v l (n + length fs) q
    → InnerFault v m (n + length gs) r
    → q ≡ r
spoilt_from v [] [] l m n {q} e a b h k x y = one_inner_fault v m (subst (λ (z : List ℕ). InnerFault v z (n + 0) q) e x) y
spoilt_from v [] (g ∷ gs) l m n {q} e a b h k x y =
    absurd
    (no_inner_fault v l g x (subst (λ (z : List ℕ). Front v z g) (sym e) (in_front v g gs m b.0)) b.0.lawful (omega arith))
spoilt_from v (f ∷ fs) [] l m n {q} e a b h k x y =
    absurd (no_inner_fault v m f y (subst (λ (z : List ℕ). Front v z f) e (in_front v f fs l a.0)) a.0.lawful (omega arith))
spoilt_from v (f ∷ fs) (g ∷ gs) l m n {q} e a b h k x y =
    let w =
    one_field v f g a.0.shaped b.0.shaped
    (sym (append_assoc (bytes_of f) (joined fs) l) ∙ e ∙ append_assoc (bytes_of g) (joined gs) m) in
    let i : n + suc (length fs) ≡ n + 1 + length fs = omega arith in
    let j : n + suc (length gs) ≡ n + 1 + length gs = omega arith in
    spoilt_from v fs gs l m (n + 1) w.1 a.1 b.1 (omega arith) (omega arith) (rw i at x) (rw j at y)

one_spoilt : (v : Version) (text : List ℕ) (n : ℕ) {q r : Refusal} → Spoilt v text n q → Spoilt v text n r → q ≡ r
one_spoilt v text n a b =
    spoilt_from v a.fields b.fields a.left b.left n (sym a.whole ∙ b.whole) a.each b.each a.room b.room
    a.fault b.fault

spoilt_filled_from : (v : Version) (fs gs : List Field) (l : List ℕ) (n : ℕ) {q : Refusal} → joined fs ++ l ≡ joined gs → All (Inner v) fs
    → All (Inner v) gs
    → n + length gs ≤ capacity
    → 0 < length l
    → InnerFault v l (n + length fs) q
    → ⊥
spoilt_filled_from v [] [] l n e a b h some x = omega (arith, ap (λ (z : List ℕ). length z) e)
spoilt_filled_from v [] (g ∷ gs) l n e a b h some x =
    no_inner_fault v l g x
    (record { later = joined gs; shaped = b.0.shaped; whole = e })
    b.0.lawful (omega arith)
spoilt_filled_from v (f ∷ fs) [] l n e a b h some x =
    not_nothing f (joined fs ++ l) (sym (append_assoc (bytes_of f) (joined fs) l) ∙ e)
spoilt_filled_from v (f ∷ fs) (g ∷ gs) l n e a b h some x =
    let w =
    one_field v f g a.0.shaped b.0.shaped (sym (append_assoc (bytes_of f) (joined fs) l) ∙ e) in
    let i : n + suc (length fs) ≡ n + 1 + length fs = omega arith in
    spoilt_filled_from v fs gs l (n + 1) w.1 a.1 b.1 (omega arith) some (rw i at x)

not_filled : (v : Version) (text : List ℕ) (n : ℕ) {q : Refusal} (fs : List Field) → Spoilt v text n q → Filled v text fs
    → n + length fs ≤ capacity
    → ⊥
not_filled v text n fs a b h =
    spoilt_filled_from v a.fields fs a.left n (sym a.whole ∙ b.whole) a.each b.each h a.some_left a.fault

-- results
module _ (i : Input) (k : ℕ) where
  usable : Unusable i k → Ready i k → ⊥
  usable (unknown h) r = omega (arith, r.known)
  usable (outside says h) r = omega (arith, r.inside says)
  usable (too_long says h) r = omega (arith, r.short says)

  not_failed : Unusable i k → verdict_of i.lent k < 2 → ⊥
  not_failed (unknown h) s = omega arith
  not_failed (outside says h) s = omega arith
  not_failed (too_long says h) s = omega arith

  module _ (n m : ℕ) (f : Field) where
    pub one_seal_fault : {q r : Refusal} → SealFault i k n m f q → SealFault i k n m f r → q ≡ r
    one_seal_fault (no_sealing h) (no_sealing l) = refl
    one_seal_fault (no_sealing h) (no_result s l) = absurd (h s)
    one_seal_fault (no_sealing h) (unusable s l u) = absurd (h s)
    one_seal_fault (no_sealing h) (no_marker s l u w) = absurd (h s)
    one_seal_fault (no_sealing h) (within s l u w) = absurd (h s)
    one_seal_fault (no_result s h) (no_sealing l) = absurd (l s)
    one_seal_fault (no_result s h) (no_result t l) = refl
    one_seal_fault (no_result s h) (unusable t l u) = absurd (omega arith)
    one_seal_fault (no_result s h) (no_marker t l u w) = absurd (omega arith)
    one_seal_fault (no_result s h) (within t l u w) = absurd (omega (arith, l.lent))
    one_seal_fault (unusable s h u) (no_sealing l) = absurd (l s)
    one_seal_fault (unusable s h u) (no_result t l) = absurd (omega arith)
    one_seal_fault (unusable s h u) (unusable t l w) = refl
    one_seal_fault (unusable s h u) (no_marker t l w x) = absurd (not_failed u w)
    one_seal_fault (unusable s h u) (within t l w x) = absurd (usable u l)
    one_seal_fault (no_marker s h u w) (no_sealing l) = absurd (l s)
    one_seal_fault (no_marker s h u w) (no_result t l) = absurd (omega arith)
    one_seal_fault (no_marker s h u w) (unusable t l x) = absurd (not_failed x u)
    one_seal_fault (no_marker s h u w) (no_marker t l x y) = refl
    one_seal_fault (no_marker s h u w) (within t l x y) = absurd (omega arith)
    one_seal_fault (within s h u w) (no_sealing l) = absurd (l s)
    one_seal_fault (within s h u w) (no_result t l) = absurd (omega (arith, h.lent))
    one_seal_fault (within s h u w) (unusable t l x) = absurd (usable x h)
    one_seal_fault (within s h u w) (no_marker t l x y) = absurd (omega arith)
    one_seal_fault (within s h u w) (within t l x y) = one_spoilt i.version _ m w y

    -- a sealed field that failed or was opened, with room, has no fault
    pub no_fault_shut : {q : Refusal} → SealFault i k n m f q → Shut i k f → Ready i k → n < capacity → ⊥
    no_fault_shut (no_sealing h) s r room = h s.sealing
    no_fault_shut (no_result t h) s r room = omega (arith, r.lent)
    no_fault_shut (unusable t h u) s r room = not_failed u s.says
    no_fault_shut (no_marker t h u w) s r room = omega arith
    no_fault_shut (within t h u w) s r room = omega (arith, s.says)

    pub no_fault_opened : {q : Refusal} (fs : List Field) → SealFault i k n m f q → Opened i k f fs → Ready i k → m + length fs ≤ capacity → ⊥
    no_fault_opened fs (no_sealing h) s r room = h s.sealing
    no_fault_opened fs (no_result t h) s r room = omega (arith, r.lent)
    no_fault_opened fs (unusable t h u) s r room = usable u r
    no_fault_opened fs (no_marker t h u w) s r room = omega (arith, s.says)
    no_fault_opened fs (within t h u w) s r room = not_filled i.version _ m fs w s.filled room

module _ (i : Input) (k n m : ℕ) (left : List ℕ) where
  pub one_outer_fault : {q r : Refusal} → OuterFault i k n m left q → OuterFault i k n m left r → q ≡ r
  one_outer_fault (own-outer a) (own-outer b) = one_field_fault i.version left a b
  one_outer_fault (own-outer a) (no-outer-room g b l h) = absurd (lawful_front i.version left g a b l)
  one_outer_fault (own-outer a) (seal g b s h) = absurd (sealed_front i.version left g a b s)
  one_outer_fault (no-outer-room f a l h) (own-outer b) = absurd (lawful_front i.version left f b a l)
  one_outer_fault (no-outer-room f a l h) (no-outer-room g b x y) = refl
  one_outer_fault (no-outer-room f a l h) (seal g b s x) = absurd (not_both i.version left f g a b l s)
  one_outer_fault (seal f a s h) (own-outer b) = absurd (sealed_front i.version left f b a s)
  one_outer_fault (seal f a s h) (no-outer-room g b l x) = absurd (not_both i.version left g f b a l s)
  one_outer_fault {q} (seal f a s h) (seal g b t x) =
      one_seal_fault i k n m g (subst (λ (z : Field). SealFault i k n m z q) (same_front i.version left f g a b) h) x
