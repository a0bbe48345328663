-- A field that can be written lies on the wire as the layout rules say, with lawful contents. Two conditions are the host's: an
-- Unknown field has a type without rules of its own, and in V4 a reference id response has a multiple of four bytes.
use Rattle.std.specs.Prelude.{◌≡◌, Bool, not, List, [], ◌∷◌, ◌++◌, ℕ, zero, suc, ◌+◌, ◌-◌, ◌%◌, ◌≤◌, ◌<◌, ltb, length, take, drop, Result, Ok, Err}
use Rattle.std.proofs.Math.Path.{refl, subst}
use Rattle.std.proofs.Common.{sym, ap, ◌∙◌, append_assoc, arith, ltb-false, length-append, length-take}
use Rattle.std.proofs.Math.Bool.{true, false}
use Rattle.std.proofs.lemmas.List.{length-replicate, replicate-append-replicate}
use Rattle.base_answers.specs.Meant.{pick}
use Rattle.base_answers.specs.declared.Refusal.{Refusal}
use Rattle.base_answers.specs.declared.Refusal.TheVariants.{FieldTooLong, CannotBeMade}
use Rattle.base_version.specs.declared.Version.{Version}
use Rattle.base_version.specs.declared.Version.TheVariants.{V4, V5}
use Rattle.base_sizes.specs.Meant.{is_inside}
use Rattle.base_rounding.specs.Meant.{rounded_up}
use Rattle.base_big_endian.specs.Meant.{big_endian}
use Rattle.base_big_endian.specs.Laws.{length_big_endian}
use Rattle.field_kinds.specs.Meant.{reference_id_request, reference_id_response}
use Rattle.field_contents.specs.Meant.{every, is_ascii, Lawful, All}
use Rattle.field_bytes.specs.Meant.{field_bytes}
use Rattle.field_reference_ids.specs.MeantRequest.{request_wire_length}
use Rattle.field_reference_ids.specs.MeantResponse.{response_wire_length}
use Rattle.field_reference_ids.specs.LawsSizes.{RequestTakes, request_takes, response_takes}
use Rattle.write_field.specs.Meant.{most_data, minimum_of, stated_of, framed_plan, data_of, lent_plan, draft_plan, padding_plan, on_wire_length, request_plan, response_plan, plan_of, wire_length_of, plan_bytes}
use Rattle.write_field.specs.declared.ToWrite.{ToWrite}
use Rattle.write_field.specs.declared.ToWrite.TheVariants.{Unknown, UniqueIdentifier, NtsCookie, NtsCookiePlaceholder, DraftIdentification, Padding, ReferenceIdRequest, ReferenceIdResponse, Marker}
use Rattle.write_field.specs.declared.Place.{Place}
use Rattle.write_field.specs.declared.Place.TheVariants.{Authenticated, Sealed, Untrusted, LastUntrusted}
use Rattle.write_field.specs.declared.Plan.{Plan}
use Rattle.write_field.specs.declared.Plan.TheVariants.{Field as Framed, Request}
use Rattle.layout.specs.Meant.{bytes_of, Shaped}
use Rattle.claim_one_cut.specs.MeantCut.{Inner}
use Rattle.field_contents.proofs.LawsRules.{ascii_all}
use Rattle.claim_round_trip.specs.MeantWire.{zeros, wire, wire_of}
use Rattle.claim_round_trip.specs.MeantReturning.{Free, Returns}

-- a planned field on the wire
pub record Wired (v : Version) (lent : List ℕ) (p : Result Plan Refusal) : Type 0 where
  pub bytes : plan_bytes lent p ≡ bytes_of (wire_of lent p)
  pub inner : Inner v (wire_of lent p)

-- a plan that has a wire length is wired
abbrev pub Sound : Version → List ℕ → Result Plan Refusal → Type 0
Sound v lent p = (n : ℕ) → wire_length_of p ≡ Ok n → Wired v lent p

-- the bytes of a field whose data ends within its length, and its length within its wire length
field_bytes_law : (t l : ℕ) (body : List ℕ) (k : ℕ) → 4 + length body ≤ l → l ≤ k → field_bytes t l body k ≡ bytes_of (wire t l body k)
field_bytes_law t l body k h g =
    let z = zeros (l - (4 + length body)) in
    let p = zeros (k - l) in
    let size : l ≡ 4 + length (body ++ z) =
    omega (arith, length-append body z, length-replicate {A = ℕ} (l - (4 + length body)) 0) in
    let sum : k - (4 + length body) ≡ (l - (4 + length body)) + (k - l) = omega arith in
    let tail : zeros (k - (4 + length body)) ≡ z ++ p =
    ap (λ (n : ℕ). zeros n) sum ∙ sym (replicate-append-replicate (l - (4 + length body)) (k - l) 0) in
    ap (λ (w : List ℕ). big_endian 2 t ++ (big_endian 2 l ++ (body ++ w))) tail
    ∙ ap (λ (w : List ℕ). big_endian 2 t ++ (big_endian 2 l ++ w)) (sym (append_assoc body z p))
    ∙ ap (λ (n : ℕ). big_endian 2 t ++ (big_endian 2 n ++ ((body ++ z) ++ p))) size

-- the length that a field states
pub record Length (v : Version) (d l : ℕ) : Type 0 where
  pub long : 4 + d ≤ l
  pub fits : l < 65536
  pub words : v ≡ V4 → l % 4 ≡ 0

v5_is_not_v4 : V5 ≡ V4 → ⊥
v5_is_not_v4 e =
    let z : ◌≡◌ {A = ℕ} 0 1 = cc in
    omega arith

minimum_small : (v : Version) (p : Place) → minimum_of v p ≤ 28
minimum_small v Authenticated = omega arith
minimum_small v Sealed = omega arith
minimum_small V4 Untrusted = omega arith
minimum_small V5 Untrusted = omega arith
minimum_small V4 LastUntrusted = omega arith
minimum_small V5 LastUntrusted = omega arith

stated_length : (v : Version) (m d : ℕ) → m ≤ 28 → d ≤ most_data v → Length v d (stated_of v m d)
stated_length V4 m d h g = record { long = omega arith; fits = omega arith; words = λ e. omega arith }
stated_length V5 m d h g = record { long = omega arith; fits = omega arith; words = λ e. absurd (v5_is_not_v4 e) }

wire_shaped : (v : Version) (t l : ℕ) (body : List ℕ) → t < 65536 → Length v (length body) l → Shaped v (wire t l body (rounded_up l))
wire_shaped v t l body h k =
    let z = length-replicate {A = ℕ} (l - (4 + length body)) 0 in
    let p = length-replicate {A = ℕ} (rounded_up l - l) 0 in
    let m = length-append body (zeros (l - (4 + length body))) in
    record {
      type_fits = h;
      length_fits = omega (arith, z, m, k.long, k.fits);
      short = omega (arith, p);
      even = omega (arith, z, m, p, k.long);
      none_in_v4 = λ e.
          let none : rounded_up l - l ≡ 0 = omega (arith, k.words e) in
          ap (λ (n : ℕ). zeros n) none;
    }

wire_bytes : (v : Version) (t l : ℕ) (body : List ℕ) → Length v (length body) l
    → field_bytes t l body (rounded_up l) ≡ bytes_of (wire t l body (rounded_up l))
wire_bytes v t l body k = field_bytes_law t l body (rounded_up l) k.long (omega arith)

-- a field with data that lies on the wire
framed_wired : (v : Version) (lent : List ℕ) (t l from to : ℕ) → t < 65536 → Length v (length (data_of lent from to)) l
    → Lawful v (wire t l (data_of lent from to) (rounded_up l))
    → Wired v lent (Ok (Framed t l (rounded_up l) from to))
unfolding plan_bytes
framed_wired v lent t l from to h k w = record {
  bytes = wire_bytes v t l (data_of lent from to) k;
  inner = record { shaped = wire_shaped v t l (data_of lent from to) h k; lawful = w };
}

part_long : (lent : List ℕ) (from to : ℕ) → length (data_of lent from to) ≤ to - from
unfolding data_of
part_long lent from to = go (ltb to from) (ltb (length lent) to)
  where
    go : (a b : Bool) → length (pick a [] (pick b [] (take (to - from) (drop from lent)))) ≤ to - from
    go true b = omega arith
    go false true = omega arith
    go false false = omega (arith, length-take (to - from) (drop from lent))

shorter : {v : Version} {d e l : ℕ} → e ≤ d → Length v d l → Length v e l
shorter h k = record { long = omega (arith, k.long); fits = k.fits; words = k.words }

module _ (v : Version) (lent : List ℕ) where
  refused_sound : (r : Refusal) → Sound v lent (Err r)
  refused_sound r n e =
      let z : ◌≡◌ {A = ℕ} 0 1 = cc in
      absurd (omega arith)

  or_refused_law : (b : Bool) (r : Refusal) (p : Result Plan Refusal) → (b ≡ false → Sound v lent p) → Sound v lent (pick b (Err r) p)
  or_refused_law true r p h = refused_sound r
  or_refused_law false r p h = h refl

  framed_sound : (place : Place) (t d from to : ℕ) → t < 65536 → to - from ≤ d
      → ((l : ℕ) → Lawful v (wire t l (data_of lent from to) (rounded_up l)))
      → Sound v lent (framed_plan v place t d from to)
  unfolding framed_plan
  framed_sound place t d from to h g w =
      let l = stated_of v (minimum_of v place) d in
      or_refused_law (ltb (most_data v) d) FieldTooLong (Ok (Framed t l (rounded_up l) from to))
      (λ e n f.
      framed_wired v lent t l from to h
      (shorter (omega (arith, g, part_long lent from to))
      (stated_length v (minimum_of v place) d (minimum_small v place) (ltb-false (most_data v) d e)))
      (w l))

-- contents without rules
free_lawful : (v : Version) (t l : ℕ) (body : List ℕ) (k : ℕ) → Free v t → Lawful v (wire t l body k)
free_lawful v t l body k f = record {
  not_sealed = f.not_sealed;
  placeholder = λ e. absurd (f.not_placeholder e);
  identification = λ n e. absurd (f.not_draft n e);
  request = λ n e. absurd (f.not_request n e);
}

pub part_empty : (lent : List ℕ) → data_of lent 0 0 ≡ []
unfolding data_of
part_empty lent = go (ltb (length lent) 0)
  where
    go : (b : Bool) → pick b [] (take 0 (drop 0 lent)) ≡ []
    go true = refl
    go false = refl

zeros_are : (n : ℕ) → All (λ (b : ℕ). b ≡ 0) (zeros n)
zeros_are zero = tt
zeros_are (suc n) = (refl, zeros_are n)

ascii_then_zeros : (xs : List ℕ) (n : ℕ) → All (λ (b : ℕ). b < 128) xs → All (λ (b : ℕ). b < 128) (xs ++ zeros n)
ascii_then_zeros [] zero h = tt
ascii_then_zeros [] (suc n) h = (omega arith, ascii_then_zeros [] n h)
ascii_then_zeros (x ∷ xs) n h = (h.0, ascii_then_zeros xs n h.1)

placeholder_lawful : (v : Version) (lent : List ℕ) (l k : ℕ) → Lawful v (wire 0x0304 l (data_of lent 0 0) k)
placeholder_lawful v lent l k = record {
  not_sealed = λ e. omega arith;
  placeholder = λ _. rw (part_empty lent) (zeros_are (l - 4));
  identification = λ _ e. absurd (omega arith);
  request = λ _ e. absurd (omega arith);
}

ascii_part : (lent : List ℕ) (start len : ℕ) → every is_ascii (take len (drop start lent)) ≡ true
    → All (λ (b : ℕ). b < 128) (data_of lent start (start + len))
unfolding data_of
ascii_part lent start len h = go (ltb (start + len) start) (ltb (length lent) (start + len))
  where
    go : (a b : Bool) → All (λ (x : ℕ). x < 128) (pick a [] (pick b [] (take (start + len - start) (drop start lent))))
    go true b = tt
    go false true = tt
    go false false =
        let e : start + len - start ≡ len = omega arith in
        rw e (ascii_all (take len (drop start lent)) h)

draft_lawful : (v : Version) (lent : List ℕ) (start len l k : ℕ) → every is_ascii (take len (drop start lent)) ≡ true
    → Lawful v (wire 0xF5FF l (data_of lent start (start + len)) k)
draft_lawful v lent start len l k h = record {
  not_sealed = λ e. omega arith;
  placeholder = λ e. absurd (omega arith);
  identification = λ _ _.
      ascii_then_zeros (data_of lent start (start + len)) (l - (4 + length (data_of lent start (start + len)))) (ascii_part lent start len h);
  request = λ _ e. absurd (omega arith);
}

request_lawful : (v : Version) (l offset k : ℕ) → Lawful v (wire reference_id_request l (big_endian 2 offset) k)
request_lawful v l offset k = record {
  not_sealed = λ e. omega arith;
  placeholder = λ e. absurd (omega arith);
  identification = λ _ e. absurd (omega arith);
  request = λ _ _.
      omega (arith, length-append (big_endian 2 offset) (zeros (l - (4 + length (big_endian 2 offset)))), length_big_endian 2 offset);
}

named : (v : Version) (t : ℕ) → t < 65536 → (t ≡ 0x0404 → ⊥) → (t ≡ 0x0304 → ⊥) → (t ≡ 0xF5FF → ⊥) → (t ≡ 0xF503 → ⊥) → Free v t
named v t a b c d e = record { fits = a; not_sealed = b; not_placeholder = c; not_draft = λ _ z. d z; not_request = λ _ z. e z }

-- a request's payload is a multiple of four and not 0, so it has room for the offset
request_length : (v : Version) (payload n : ℕ) → RequestTakes payload n → Length v 2 n
request_length v payload n t = record {
  long = omega (arith, t.some, t.count);
  fits = omega (arith, t.short, t.count);
  words = λ e. omega (arith, t.even, t.count);
}

response_returns : (v : Version) (number len : ℕ) → Returns v ReferenceIdResponse number len → Returns v ReferenceIdResponse 0 len
response_returns V4 number len h = h
response_returns V5 number len h = h

response_length : (v : Version) (len : ℕ) → Returns v ReferenceIdResponse 0 len → len ≤ 65531 → Length v len (len + 4)
response_length V4 len h g = record { long = omega arith; fits = omega arith; words = λ e. omega arith }
response_length V5 len h g = record { long = omega arith; fits = omega arith; words = λ e. absurd (v5_is_not_v4 e) }

module _ (v : Version) (lent : List ℕ) where
  lent_sound : (place : Place) (t start len : ℕ) → Free v t → Sound v lent (lent_plan v place t start len lent)
  unfolding lent_plan
  lent_sound place t start len f =
      or_refused_law v lent (not (is_inside start len (length lent))) CannotBeMade (framed_plan v place t len start (start + len))
      (λ _.
      framed_sound v lent place t len start (start + len) f.fits (omega arith)
      (λ l. free_lawful v t l (data_of lent start (start + len)) (rounded_up l) f))

  draft_sound : (place : Place) (start len : ℕ) → Sound v lent (draft_plan v place start len lent)
  unfolding draft_plan
  draft_sound place start len =
      or_refused_law v lent (not (is_inside start len (length lent))) CannotBeMade
      (pick (not (every is_ascii (take len (drop start lent)))) (Err CannotBeMade) (framed_plan v place 0xF5FF len start (start + len)))
      (λ _. ascii (every is_ascii (take len (drop start lent))) refl)
    where
      ascii : (b : Bool) → every is_ascii (take len (drop start lent)) ≡ b
          → Sound v lent (pick (not b) (Err CannotBeMade) (framed_plan v place 0xF5FF len start (start + len)))
      ascii false e = refused_sound v lent CannotBeMade
      ascii true e =
          framed_sound v lent place 0xF5FF len start (start + len) (omega arith) (omega arith)
          (λ l. draft_lawful v lent start len l (rounded_up l) e)

  padding_sound : (place : Place) (len : ℕ) → Sound v lent (padding_plan v place len)
  unfolding padding_plan
  padding_sound place len =
      or_refused_law v lent (ltb len 4) CannotBeMade (framed_plan v place 0xF501 (len - 4) 0 0)
      (λ _.
      framed_sound v lent place 0xF501 (len - 4) 0 0 (omega arith) (omega arith)
      (λ l.
      free_lawful v 0xF501 l (data_of lent 0 0) (rounded_up l)
      (named v 0xF501 (omega arith) (λ e. omega arith) (λ e. omega arith) (λ e. omega arith) (λ e. omega arith))))

  request_sound : (payload offset : ℕ) → Sound v lent (request_plan payload offset)
  unfolding request_plan plan_bytes
  request_sound payload offset = go (request_wire_length payload) refl
    where
      go : (w : Result ℕ Refusal) → request_wire_length payload ≡ w → Sound v lent (on_wire_length w (λ k. Ok (Request k k offset)))
      go (Err r) e = refused_sound v lent r
      go (Ok k) e =
          λ n f.
          let t = request_takes payload k e in
          let l : Length v (length (big_endian 2 offset)) k = rw (length_big_endian 2 offset) (request_length v payload k t) in
          let same : rounded_up k ≡ k = omega (arith, t.even, t.count) in
          record {
            bytes = subst (λ (z : ℕ). field_bytes reference_id_request k (big_endian 2 offset) z ≡ bytes_of (wire reference_id_request k (big_endian 2 offset) z))
                same (wire_bytes v reference_id_request k (big_endian 2 offset) l);
            inner = record {
              shaped = subst (λ (z : ℕ). Shaped v (wire reference_id_request k (big_endian 2 offset) z)) same
                  (wire_shaped v reference_id_request k (big_endian 2 offset) (omega arith) l);
              lawful = request_lawful v k offset k;
            };
          }

  response_sound : (start len available : ℕ) → Returns v ReferenceIdResponse 0 len → Sound v lent (response_plan start len available)
  unfolding response_plan
  response_sound start len available h =
      or_refused_law v lent (not (is_inside start len available)) CannotBeMade
      (on_wire_length (response_wire_length len) (λ k. Ok (Framed reference_id_response (len + 4) k start (start + len))))
      (λ _. go (response_wire_length len) refl)
    where
      go : (w : Result ℕ Refusal) → response_wire_length len ≡ w
          → Sound v lent (on_wire_length w (λ k. Ok (Framed reference_id_response (len + 4) k start (start + len))))
      go (Err r) e = refused_sound v lent r
      go (Ok k) e =
          λ n f.
          let t = response_takes len k e in
          rw t.count
          (framed_wired v lent reference_id_response (len + 4) start (start + len) (omega arith)
          (shorter (omega (arith, part_long lent start (start + len))) (response_length v len h t.short))
          (free_lawful v reference_id_response (len + 4) (data_of lent start (start + len)) (rounded_up (len + 4))
          (named v reference_id_response (omega arith) (λ e. omega arith) (λ e. omega arith) (λ e. omega arith) (λ e. omega arith))))

  pub plan_sound : (place : Place) (kind : ToWrite) (number start len : ℕ) → Returns v kind number len
      → Sound v lent (plan_of v place kind number start len lent)
  unfolding plan_of
  plan_sound place Unknown number start len h = lent_sound place number start len h
  plan_sound place UniqueIdentifier number start len h =
      lent_sound place 0x0104 start len
      (named v 0x0104 (omega arith) (λ e. omega arith) (λ e. omega arith) (λ e. omega arith) (λ e. omega arith))
  plan_sound place NtsCookie number start len h =
      lent_sound place 0x0204 start len
      (named v 0x0204 (omega arith) (λ e. omega arith) (λ e. omega arith) (λ e. omega arith) (λ e. omega arith))
  plan_sound place NtsCookiePlaceholder number start len h =
      framed_sound v lent place 0x0304 len 0 0 (omega arith) (omega arith) (λ l. placeholder_lawful v lent l (rounded_up l))
  plan_sound place DraftIdentification number start len h = draft_sound place start len
  plan_sound place Padding number start len h = padding_sound place len
  plan_sound place ReferenceIdRequest number start len h = request_sound len number
  plan_sound place ReferenceIdResponse number start len h = response_sound start len (length lent) (response_returns v number len h)
  plan_sound place Marker number start len h = refused_sound v lent CannotBeMade
