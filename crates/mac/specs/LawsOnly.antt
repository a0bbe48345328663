-- Two answers of the MAC reader that tell the pump the same are one, so its promise leaves no other answer.
use Rattle.std.specs.Prelude.{◌≡◌, [], ◌∷◌, ℕ, get_or, Result, Ok, Err}
use Rattle.std.proofs.Common.{sym, ap}
use Rattle.base_answers.proofs.Laws.{same_told, not_accepted}
use Rattle.base_answers.specs.declared.Refusal.{Refusal}
use Rattle.mac.specs.Meant.{told_of, mac_of}
use Rattle.mac.specs.declared.Mac.{Mac}

pub same_answer : (a b : Result Mac Refusal) → told_of a ≡ told_of b → a ≡ b
same_answer = same_told (λ m. m.keyid ∷ []) (λ m n e. ap (λ ns. mac_of (get_or ns 0 0)) e)

-- a MAC that was read was not refused
pub not_refused : (keyid : ℕ) (r : Refusal) → ◌≡◌ {A = Result Mac Refusal} (Ok (mac_of keyid)) (Err r) → ⊥
not_refused keyid r e = not_accepted r (keyid ∷ []) (sym (ap told_of e))

-- a MAC has one key id
pub same_keyid : (k l : ℕ) → ◌≡◌ {A = Result Mac Refusal} (Ok (mac_of k)) (Ok (mac_of l)) → k ≡ l
same_keyid k l e = ap (λ (a : Result Mac Refusal). get_or (told_of a).values 0 0) e
