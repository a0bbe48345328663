-- What the table of types asks of a message is what the layout rules say of it.
use Rattle.std.specs.Prelude.{None, ◌≡◌, refl, Bool, true, false, List, [], ◌∷◌, ℕ, ◌<◌, eqb, leb, length, ◌↔◌}
use Rattle.std.proofs.Common.{sym, arith, eqb-true, eq-eqb, ltb-true, lt-ltb, leb-true, le-leb}
use Rattle.std.proofs.lemmas.Bool.{false≢true, eqb-false}
use Rattle.base_answers.specs.declared.Refusal.{Refusal}
use Rattle.layout.specs.Meant.{Field}
use Rattle.base_answers.specs.Meant.{pick}
use Rattle.base_version.specs.declared.Version.{Version}
use Rattle.base_version.specs.declared.Version.TheVariants.{V4, V5}
use Rattle.field_kinds.specs.Meant.{both, only5, said, kind_of}
use Rattle.field_kinds.specs.declared.Kind.TheVariants.{Unknown, UniqueIdentifier, NtsCookie, NtsCookiePlaceholder, NtsEncryptedField, DraftIdentification, ReferenceIdRequest, ReferenceIdResponse}
use Rattle.field_contents.specs.Meant.{every, is_ascii, rule_of, All, IsSealed, Lawful}
use Rattle.field_contents.specs.Model.{is_zero, unless, contents_fault}
use Rattle.field_contents.specs.declared.Rule.{Rule}
use Rattle.field_contents.specs.declared.Rule.TheVariants.{Any, Zeros, Ascii, Offset, Sealed}

-- the rule of a type number
pub data Ruled (v : Version) (t : ℕ) : Rule → Type 0 where
  zeros : t ≡ 0x0304 → Ruled v t Zeros
  seal : t ≡ 0x0404 → Ruled v t Sealed
  ascii : v ≡ V5 → t ≡ 0xF5FF → Ruled v t Ascii
  offset : v ≡ V5 → t ≡ 0xF503 → Ruled v t Offset
  any : (t ≡ 0x0304 → ⊥) → (t ≡ 0x0404 → ⊥) → (v ≡ V5 → t ≡ 0xF5FF → ⊥) → (v ≡ V5 → t ≡ 0xF503 → ⊥) → Ruled v t Any

not_v5 : V4 ≡ V5 → ⊥
not_v5 e =
    let z : ◌≡◌ {A = ℕ} 0 1 = cc in
    omega arith

pub ruled : (v : Version) (t : ℕ) → Ruled v t (rule_of (kind_of t v))
unfolding kind_of
ruled v t =
    go v (eqb 0x0104 t) refl (eqb 0x0204 t) refl (eqb 0x0304 t) refl (eqb 0x0404 t) refl (eqb 0xF5FF t) refl (eqb 0xF503 t) refl
    (eqb 0xF504 t)
  where
    is : (n : ℕ) → eqb n t ≡ true → n ≡ t
    is n e = eqb-true n t e

    go : (v : Version) (a : Bool) → eqb 0x0104 t ≡ a → (b : Bool) → eqb 0x0204 t ≡ b → (c : Bool) → eqb 0x0304 t ≡ c → (d : Bool)
        → eqb 0x0404 t ≡ d
        → (e : Bool)
        → eqb 0xF5FF t ≡ e
        → (f : Bool)
        → eqb 0xF503 t ≡ f
        → (g : Bool)
        → Ruled v t
        (rule_of
        (pick a (said (both 0x0104 UniqueIdentifier) v)
        (pick b (said (both 0x0204 NtsCookie) v)
        (pick c (said (both 0x0304 NtsCookiePlaceholder) v)
        (pick d (said (both 0x0404 NtsEncryptedField) v)
        (pick e (said (only5 0xF5FF DraftIdentification) v)
        (pick f (said (only5 0xF503 ReferenceIdRequest) v) (pick g (said (only5 0xF504 ReferenceIdResponse) v) Unknown))))))))
    go V4 true p b q c r d s e t f u g =
        let x = is 0x0104 p in
        any (λ z. omega arith) (λ z. omega arith) (λ n z. not_v5 n) (λ n z. not_v5 n)
    go V4 false p true q c r d s e t f u g =
        let x = is 0x0204 q in
        any (λ z. omega arith) (λ z. omega arith) (λ n z. not_v5 n) (λ n z. not_v5 n)
    go V4 false p false q true r d s e t f u g = zeros (sym (is 0x0304 r))
    go V4 false p false q false r true s e t f u g = seal (sym (is 0x0404 s))
    go V4 false p false q false r false s true t f u g =
        let x = is 0xF5FF t in
        any (λ z. omega arith) (λ z. omega arith) (λ n z. not_v5 n) (λ n z. not_v5 n)
    go V4 false p false q false r false s false t true u g =
        let x = is 0xF503 u in
        any (λ z. omega arith) (λ z. omega arith) (λ n z. not_v5 n) (λ n z. not_v5 n)
    go V4 false p false q false r false s false t false u true =
        any (λ z. eqb-false _ _ r (sym z)) (λ z. eqb-false _ _ s (sym z)) (λ n z. not_v5 n) (λ n z. not_v5 n)
    go V4 false p false q false r false s false t false u false =
        any (λ z. eqb-false _ _ r (sym z)) (λ z. eqb-false _ _ s (sym z)) (λ n z. not_v5 n) (λ n z. not_v5 n)
    go V5 true p b q c r d s e t f u g =
        let x = is 0x0104 p in
        any (λ z. omega arith) (λ z. omega arith) (λ n z. omega arith) (λ n z. omega arith)
    go V5 false p true q c r d s e t f u g =
        let x = is 0x0204 q in
        any (λ z. omega arith) (λ z. omega arith) (λ n z. omega arith) (λ n z. omega arith)
    go V5 false p false q true r d s e t f u g = zeros (sym (is 0x0304 r))
    go V5 false p false q false r true s e t f u g = seal (sym (is 0x0404 s))
    go V5 false p false q false r false s true t f u g = ascii refl (sym (is 0xF5FF t))
    go V5 false p false q false r false s false t true u g = offset refl (sym (is 0xF503 u))
    go V5 false p false q false r false s false t false u true =
        any (λ z. eqb-false _ _ r (sym z)) (λ z. eqb-false _ _ s (sym z)) (λ n z. eqb-false _ _ t (sym z))
        (λ n z. eqb-false _ _ u (sym z))
    go V5 false p false q false r false s false t false u false =
        any (λ z. eqb-false _ _ r (sym z)) (λ z. eqb-false _ _ s (sym z)) (λ n z. eqb-false _ _ t (sym z))
        (λ n z. eqb-false _ _ u (sym z))

-- a test of every byte
module _ (test : ℕ → Bool) (P : ℕ → Type 0) (so : (b : ℕ) → test b ≡ true → P b) (back : (b : ℕ) → P b → test b ≡ true) where
  every_all : (m : List ℕ) → every test m ≡ true → All P m
  every_all [] e = tt
  every_all (b ∷ m) e = go (test b) refl (every_all m) e
    where
      go : (c : Bool) → test b ≡ c → (every test m ≡ true → All P m) → pick c (every test m) false ≡ true → P b × All P m
      go true q later f = (so b q, later f)
      go false q later f = absurd (false≢true f)

  all_every : (m : List ℕ) → All P m → every test m ≡ true
  all_every [] h = refl
  all_every (b ∷ m) h = rw (back b h.0) (all_every m h.1)

pub zeros_all : (m : List ℕ) → every is_zero m ≡ true → All (λ (b : ℕ). b ≡ 0) m
zeros_all = every_all is_zero (λ b. b ≡ 0) (λ b. eqb-true b 0) (λ b. eq-eqb b 0)

pub all_zeros : (m : List ℕ) → All (λ (b : ℕ). b ≡ 0) m → every is_zero m ≡ true
all_zeros = all_every is_zero (λ b. b ≡ 0) (λ b. eqb-true b 0) (λ b. eq-eqb b 0)

pub ascii_all : (m : List ℕ) → every is_ascii m ≡ true → All (λ (b : ℕ). b < 128) m
ascii_all = every_all is_ascii (λ b. b < 128) (λ b. ltb-true b 128) (λ b. lt-ltb b 128)

pub all_ascii : (m : List ℕ) → All (λ (b : ℕ). b < 128) m → every is_ascii m ≡ true
all_ascii = all_every is_ascii (λ b. b < 128) (λ b. ltb-true b 128) (λ b. lt-ltb b 128)

kept : (b : Bool) (r : Refusal) → unless b r ≡ None → b ≡ true
kept true r e = refl
kept false r e =
    let z : ◌≡◌ {A = ℕ} 0 1 = cc in
    absurd (omega arith)

-- the rule of a type finds no fault in a message exactly when the field is lawful, if it is not sealed
module _ (v : Version) (f : Field) where
  lawful_by : (r : Rule) → Ruled v f.type r → (IsSealed f → ⊥) → contents_fault r f.message ≡ None → Lawful v f
  lawful_by r (zeros t) h e = record {
    not_sealed = h;
    placeholder = λ _. zeros_all f.message (kept (every is_zero f.message) _ e);
    identification = λ _ u. absurd (omega arith);
    request = λ _ u. absurd (omega arith);
  }
  lawful_by r (seal t) h e = absurd (h t)
  lawful_by r (ascii w t) h e = record {
    not_sealed = h;
    placeholder = λ u. absurd (omega arith);
    identification = λ _ _. ascii_all f.message (kept (every is_ascii f.message) _ e);
    request = λ _ u. absurd (omega arith);
  }
  lawful_by r (offset w t) h e = record {
    not_sealed = h;
    placeholder = λ u. absurd (omega arith);
    identification = λ _ u. absurd (omega arith);
    request = λ _ _. leb-true 2 (length f.message) (kept (leb 2 (length f.message)) _ e);
  }
  lawful_by r (any z s a o) h e = record {
    not_sealed = h;
    placeholder = λ u. absurd (z u);
    identification = λ w u. absurd (a w u);
    request = λ w u. absurd (o w u);
  }

  no_fault_by : (r : Rule) → Ruled v f.type r → Lawful v f → contents_fault r f.message ≡ None
  no_fault_by r (zeros t) l = rw (all_zeros f.message (l.placeholder t))
  no_fault_by r (seal t) l = refl
  no_fault_by r (ascii w t) l = rw (all_ascii f.message (l.identification w t))
  no_fault_by r (offset w t) l = rw (le-leb 2 (length f.message) (l.request w t))
  no_fault_by r (any z s a o) l = refl

  pub lawful_exactly : (IsSealed f → ⊥) → (contents_fault (rule_of (kind_of f.type v)) f.message ≡ None) ↔ Lawful v f
  lawful_exactly h = (
    (λ e. lawful_by _ (ruled v f.type) h e),
    (λ l. no_fault_by _ (ruled v f.type) l),
  )
