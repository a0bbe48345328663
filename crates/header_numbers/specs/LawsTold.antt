-- What both headers' answers tell: a signed number is found again by what is told of it, a version that was seen is no refusal
-- that carries nothing, and two answers that tell the same are one if their values are.
use Rattle.std.specs.Prelude.{◌≡◌, refl, List, [], ◌∷◌, ℕ, suc, ◌-◌, zero, ℤ, pos, negsuc, nat_abs, get_or, Result, Ok, Err}
use Rattle.std.proofs.Common.{ap, sym, arith}
use Rattle.base_answers.specs.Meant.{Told, refused_with}
use Rattle.base_answers.proofs.Laws.{same_refusal, not_accepted, not_accepted_with}
use Rattle.base_answers.specs.declared.Refusal.{Refusal}
use Rattle.base_answers.specs.declared.Refusal.TheVariants.{InvalidVersion}
use Rattle.header_numbers.specs.Meant.{is_below_zero, told_by}
use Rattle.header_numbers.specs.declared.HeaderError.{HeaderError}
use Rattle.header_numbers.specs.declared.HeaderError.TheVariants.{InvalidVersion as OtherVersion, Refused}

-- the number that is told so
abbrev pub signed : ℕ → ℕ → ℤ
signed zero n = pos n
signed (suc k) n = negsuc (n - 1)

pub signed_found : (z : ℤ) → signed (is_below_zero z) (nat_abs z) ≡ z
signed_found (pos n) = refl
signed_found (negsuc n) =
    let e : suc n - 1 ≡ n = omega arith in
    ap negsuc e

pub version_carried : (v : ℕ) (r : Refusal) → refused_with InvalidVersion (v ∷ []) ≡ refused_with r [] → ⊥
version_carried v r e =
    let z : ◌≡◌ {A = List ℕ} (v ∷ []) [] = ap (λ (t : Told). t.values) e in
    let n : ◌≡◌ {A = ℕ} 0 1 = cc in
    omega arith

module _ {A : Type 0} (values : A → List ℕ) where
  -- a header is neither a refusal nor another version
  pub not_refused : (h : A) (r : Refusal) → told_by values (Ok h) ≡ told_by values (Err (Refused r)) → ⊥
  not_refused h r e = not_accepted r (values h) (sym e)

  pub no_version : (h : A) (v : ℕ) → told_by values (Ok h) ≡ told_by values (Err (OtherVersion v)) → ⊥
  no_version h v e = not_accepted_with InvalidVersion (v ∷ []) (values h) (sym e)

  -- two answers that tell the same are one, if their values are
  pub same_told : ((a b : A) → values a ≡ values b → a ≡ b) → (a b : Result A HeaderError)
      → told_by values a ≡ told_by values b → a ≡ b
  same_told only (Ok a) (Ok b) e = ap Ok (only a b (ap (λ (t : Told). t.values) e))
  same_told only (Ok a) (Err (OtherVersion v)) e = absurd (no_version a v e)
  same_told only (Ok a) (Err (Refused r)) e = absurd (not_refused a r e)
  same_told only (Err (OtherVersion v)) (Ok b) e = absurd (no_version b v (sym e))
  same_told only (Err (OtherVersion v)) (Err (OtherVersion w)) e = ap (λ (t : Told). Err (OtherVersion (get_or t.values 0 0))) e
  same_told only (Err (OtherVersion v)) (Err (Refused r)) e = absurd (version_carried v r e)
  same_told only (Err (Refused r)) (Ok b) e = absurd (not_refused b r (sym e))
  same_told only (Err (Refused r)) (Err (OtherVersion v)) e = absurd (version_carried v r (sym e))
  same_told only (Err (Refused r)) (Err (Refused q)) e = ap (λ (x : Refusal). Err (Refused x)) (same_refusal r q e)
