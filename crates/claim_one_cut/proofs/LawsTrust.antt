-- Who vouches for an item: an outer one is reported authenticated exactly when the result lent for a later sealed field says
-- opened; inner fields are encrypted, and nothing else is.
use Rattle.std.specs.Prelude.{◌≡◌, refl, Bool, true, false, List, [], ◌∷◌, ◌++◌, ◌↔◌, ℕ, ◌+◌, ◌≤◌, length}
use Rattle.std.proofs.Common.{sym, ap, subst, ◌∙◌, append_assoc, arith}
use Rattle.std.proofs.lemmas.Bool.{false≢true}
use Rattle.base_answers.specs.Meant.{pick}
use Rattle.base_version.specs.declared.Version.{Version}
use Rattle.read_opening.specs.Meant.{verdict_of, start_of}
use Rattle.read_packet.specs.Meant.{Input}
use Rattle.read_records.specs.declared.Trust.TheVariants.{Untrusted, Authenticated, Encrypted}
use Rattle.read_records.specs.declared.Record.{Record}
use Rattle.layout.specs.Meant.{Field, bytes_of}
use Rattle.field_contents.specs.Meant.{All, IsSealed}
use Rattle.claim_one_cut.specs.MeantCut.{Item, plain, shut, opened, field_of, seals_in, Cut}
use Rattle.claim_one_cut.specs.MeantReport.{opens, trust_before, outer_records, plaintext_records, inner_records, OpenedLater}
use Rattle.claim_one_cut.proofs.LawsLaid.{next, seal_number, numbered, number_is, Laid, laid_after, laid}

-- an item further on
seal_step : (i : Input) (k : ℕ) (x : Item) (xs : List Item) → OpenedLater i (next k x) xs → OpenedLater i k (x ∷ xs)
seal_step i k x xs w = record {
  between = x ∷ w.between;
  item = w.item;
  after = w.after;
  place = ap (λ (l : List Item). x ∷ l) w.place;
  sealed = w.sealed;
  says = subst (λ (n : ℕ). 2 ≤ verdict_of i.lent n) (moved x) w.says;
}
  where
    moved : (y : Item) → next k y + seals_in w.between ≡ k + seals_in (y ∷ w.between)
    moved (plain f) = refl
    moved (shut f) = omega arith
    moved (opened f fs) = omega arith

opens_later : (xs : List Item) (i : Input) (k : ℕ) (rest : List ℕ) → Laid i k xs rest → opens xs ≡ true → OpenedLater i k xs
opens_later [] i k rest l e = absurd (false≢true e)
opens_later (plain f ∷ xs) i k rest l e = seal_step i k (plain f) xs (opens_later xs i k rest l.3 e)
opens_later (shut f ∷ xs) i k rest l e = seal_step i k (shut f) xs (opens_later xs i (k + 1) rest l.3 e)
opens_later (opened f fs ∷ xs) i k rest l e = record {
  between = [];
  item = opened f fs;
  after = xs;
  place = refl;
  sealed = l.2.sealed;
  says = omega (arith, l.2.says, here);
}
  where
    here : verdict_of i.lent (k + 0) ≡ verdict_of i.lent k
    here =
        let e : k + 0 ≡ k = omega arith in
        rw e

-- an item that is sealed and whose result says opened is an opened one
is_opened : (x : Item) (xs : List Item) (i : Input) (k : ℕ) (rest : List ℕ) → Laid i k (x ∷ xs) rest → IsSealed (field_of x)
    → 2 ≤ verdict_of i.lent k
    → opens (x ∷ xs) ≡ true
is_opened (plain f) xs i k rest l s h = absurd (l.2.not_sealed s)
is_opened (shut f) xs i k rest l s h = absurd (omega (arith, l.2.says))
is_opened (opened f fs) xs i k rest l s h = refl

opens_in : (ys : List Item) (x : Item) (xs : List Item) → opens (x ∷ xs) ≡ true → opens (ys ++ (x ∷ xs)) ≡ true
opens_in [] x xs e = e
opens_in (plain f ∷ ys) x xs e = opens_in ys x xs e
opens_in (shut f ∷ ys) x xs e = opens_in ys x xs e
opens_in (opened f fs ∷ ys) x xs e = refl

later_opens : (xs : List Item) (i : Input) (k : ℕ) (rest : List ℕ) → Laid i k xs rest → OpenedLater i k xs → opens xs ≡ true
later_opens xs i k rest l w =
    let l' : Laid i (seal_number k w.between) (w.item ∷ w.after) rest =
    laid_after i k w.between (w.item ∷ w.after) rest (subst (λ (z : List Item). Laid i k z rest) w.place l) in
    let n : seal_number k w.between ≡ k + seals_in w.between = number_is k w.between in
    rw w.place
    (opens_in w.between w.item w.after
    (is_opened w.item w.after i (seal_number k w.between) rest l' w.sealed
    (subst (λ (m : ℕ). 2 ≤ verdict_of i.lent m) (sym n) w.says)))

-- the trust class before later items
trusted_so : (b : Bool) → pick b Authenticated Untrusted ≡ Authenticated → b ≡ true
trusted_so true e = refl
trusted_so false e = cc

-- the theorem: for an item of the cut and the items after it
pub authenticated_exactly : (i : Input) (items : List Item) (rest : List ℕ) → Cut i items rest → (before : List Item) (x : Item)
    (later : List Item)
    → items ≡ before ++ (x ∷ later)
    → (trust_before later ≡ Authenticated) ↔ OpenedLater i (seals_in (before ++ (x ∷ []))) later
authenticated_exactly i items rest cut before x later e =
    let e' : items ≡ (before ++ (x ∷ [])) ++ later = e ∙ sym (append_assoc before (x ∷ []) later) in
    let l : Laid i (seals_in (before ++ (x ∷ []))) later rest =
    rw (← numbered (before ++ (x ∷ [])))
    (laid_after i 0 (before ++ (x ∷ [])) later rest
    (subst (λ (z : List Item). Laid i 0 z rest) e' (laid i items rest cut.led))) in (
      (λ t. opens_later later i (seals_in (before ++ (x ∷ []))) rest l (trusted_so (opens later) t)),
      (λ w. ap (λ (b : Bool). pick b Authenticated Untrusted) (later_opens later i (seals_in (before ++ (x ∷ []))) rest l w)),
    )

-- inner records are encrypted
plaintext_encrypted : (v : Version) (at : ℕ) (fs : List Field) → All (λ (r : Record). r.trust ≡ Encrypted) (plaintext_records v at fs)
unfolding plaintext_records
plaintext_encrypted v at [] = tt
plaintext_encrypted v at (f ∷ fs) = (refl, plaintext_encrypted v (at + length (bytes_of f)) fs)

all_append : {A : Type 0} (P : A → Type 0) (xs ys : List A) → All P xs → All P ys → All P (xs ++ ys)
all_append P [] ys p q = q
all_append P (x ∷ xs) ys p q = (p.0, all_append P xs ys p.1 q)

pub inner_encrypted : (xs : List Item) (i : Input) (k : ℕ) → All (λ (r : Record). r.trust ≡ Encrypted) (inner_records i k xs)
unfolding inner_records
inner_encrypted [] i k = tt
inner_encrypted (plain f ∷ xs) i k = inner_encrypted xs i k
inner_encrypted (shut f ∷ xs) i k = inner_encrypted xs i (k + 1)
inner_encrypted (opened f fs ∷ xs) i k =
    all_append (λ (r : Record). r.trust ≡ Encrypted) (plaintext_records i.version (start_of i.lent k) fs) (inner_records i (k + 1) xs)
    (plaintext_encrypted i.version (start_of i.lent k) fs) (inner_encrypted xs i (k + 1))

-- and outer ones are not
not_encrypted : (b : Bool) → pick b Authenticated Untrusted ≡ Encrypted → ⊥
not_encrypted true e =
    let z : ◌≡◌ {A = ℕ} 0 1 = cc in
    omega arith
not_encrypted false e =
    let z : ◌≡◌ {A = ℕ} 0 1 = cc in
    omega arith

pub outer_not_encrypted : (xs : List Item) (v : Version) (at : ℕ)
    → All (λ (r : Record). r.trust ≡ Encrypted → ⊥) (outer_records v at xs)
unfolding outer_records
outer_not_encrypted [] v at = tt
outer_not_encrypted (plain f ∷ xs) v at = (not_encrypted (opens xs), outer_not_encrypted xs v (at + length (bytes_of f)))
outer_not_encrypted (shut f ∷ xs) v at = (not_encrypted (opens xs), outer_not_encrypted xs v (at + length (bytes_of f)))
outer_not_encrypted (opened f fs ∷ xs) v at = outer_not_encrypted xs v (at + length (bytes_of f))
