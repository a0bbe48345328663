-- A field that lies at a place is the field whose frame is found there, and the other way round.
use Rattle.std.specs.Prelude.{◌≡◌, refl, true, List, ◌++◌, ℕ, ◌+◌, ◌-◌, ◌%◌, take, drop}
use Rattle.std.proofs.Common.{sym, ap, ◌∙◌, append_assoc, length-append, length-drop, take-append-drop, drop-drop, drop_at, take_at, length-take-le}
use native.Mathlib.Omega.{arith}
use borrow.Author.Tests.{le-ltb, eq-eqb, eqb-true}
use Rattle.std.proofs.Math.ListN.{length}
use Rattle.std.proofs.Math.Seq.{drop-append_seam}
use Rattle.base_version.specs.declared.Version.{Version}
use Rattle.base_version.specs.declared.Version.TheVariants.{V4, V5}
use Rattle.base_rounding.specs.Meant.{rounded_up}
use Rattle.base_big_endian.specs.Meant.{big_endian, number_at, Bytes}
use Rattle.base_big_endian.specs.Laws.{length_big_endian, number_here, bytes_here}
use Rattle.field_frame.specs.Model.{framed, is_allowed, frame_of, frame_at, message_at}
use Rattle.field_frame.specs.Laws.{FoundFrame, found}
use Rattle.layout.proofs.Laws.{size_of}
use Rattle.layout.specs.Meant.{Field, stated, bytes_of, Shaped}

-- what is left at a place, and its length
pub left_of : (s : List ℕ) (at : ℕ) {r : List ℕ} → drop at s ≡ r → length s - at ≡ length r
left_of s at e = sym (length-drop at s) ∙ ap (λ (l : List ℕ). length l) e

allows : (v : Version) (f : Field) → Shaped v f → is_allowed v (stated f) ≡ true
allows V4 f h =
    let e : length f.padding ≡ 0 = ap (λ (l : List ℕ). length l) (h.none_in_v4 refl) in
    eq-eqb (stated f % 4) 0 (omega (arith, h.even))
allows V5 f h = refl

module _ (s : List ℕ) (at : ℕ) (v : Version) (f : Field) (tl : List ℕ) (e : drop at s ≡ bytes_of f ++ tl) where
  left_here : length s - at ≡ stated f + length f.padding + length tl
  left_here = omega (arith, left_of s at e, length-append (bytes_of f) tl, size_of f)

  type_first : drop at s ≡ big_endian 2 f.type ++ ((big_endian 2 (stated f) ++ (f.message ++ f.padding)) ++ tl)
  type_first = e ∙ append_assoc (big_endian 2 f.type) (big_endian 2 (stated f) ++ (f.message ++ f.padding)) tl

  length_next : drop (at + 2) s ≡ big_endian 2 (stated f) ++ ((f.message ++ f.padding) ++ tl)
  length_next =
      sym (drop-drop 2 at s)
      ∙ ap (λ (l : List ℕ). drop 2 l) type_first
      ∙ drop_at (big_endian 2 f.type) ((big_endian 2 (stated f) ++ (f.message ++ f.padding)) ++ tl) 2 (length_big_endian 2 f.type)
      ∙ append_assoc (big_endian 2 (stated f)) (f.message ++ f.padding) tl

  pub message_next : drop (at + 4) s ≡ f.message ++ (f.padding ++ tl)
  message_next =
      let place : at + 2 + 2 ≡ at + 4 = omega arith in
      rw place at (sym (drop-drop 2 (at + 2) s))
      ∙ ap (λ (l : List ℕ). drop 2 l) length_next
      ∙ drop_at (big_endian 2 (stated f)) ((f.message ++ f.padding) ++ tl) 2 (length_big_endian 2 (stated f))
      ∙ append_assoc f.message f.padding tl

  pub message_here : message_at s at (length f.message) ≡ f.message
  message_here =
      ap (λ (l : List ℕ). take (length f.message) l) message_next
      ∙ take_at f.message (f.padding ++ tl) (length f.message) refl

  pub next_here : drop (at + length (bytes_of f)) s ≡ tl
  next_here =
      sym (drop-drop (length (bytes_of f)) at s)
      ∙ ap (λ (l : List ℕ). drop (length (bytes_of f)) l) e
      ∙ drop-append_seam (bytes_of f) tl

  pub frame_here : Shaped v f → frame_at v s at ≡ framed f.type (length f.message) (length (bytes_of f))
  unfolding frame_at frame_of
  frame_here h =
      let left = left_here in
      let size = size_of f in
      let t : number_at 2 s at ≡ f.type = number_here s at f.type _ h.type_fits (omega arith) type_first in
      let l : number_at 2 s (at + 2) ≡ stated f = number_here s (at + 2) (stated f) _ h.length_fits (omega arith) length_next in
      let m : stated f - 4 ≡ length f.message = omega arith in
      let k : rounded_up (stated f) ≡ length (bytes_of f) = omega (arith, h) in
      rw (
        t,
        l,
        allows v f h,
        le-ltb (length s - at) 4 (omega arith),
        le-ltb (stated f) 4 (omega arith),
        le-ltb (length s - at) (rounded_up (stated f)) (omega (arith, h)),
        m,
        k,
      )

-- the other way round: the field that a frame found
abbrev field_found : List ℕ → ℕ → ℕ → ℕ → ℕ → Field
field_found s at t m k =
    record { type = t; message = take m (drop (at + 4) s); padding = take (k - (m + 4)) (drop (at + 4 + m) s) }

unpadded : (v : Version) (m k : ℕ) → is_allowed v (m + 4) ≡ true → k ≡ rounded_up (m + 4) → v ≡ V4 → k - (m + 4) ≡ 0
unpadded V4 m k a r e = omega (arith, eqb-true ((m + 4) % 4) 0 a)
unpadded V5 m k a r e =
    let z : ◌≡◌ {A = ℕ} 0 1 = cc in
    absurd (omega arith)

-- a place where a field was found: the field, and what follows it
pub record Here (v : Version) (s : List ℕ) (at : ℕ) (t m k : ℕ) : Type 0 where
  pub field : Field
  pub shaped : Shaped v field
  pub whole : drop at s ≡ bytes_of field ++ drop (at + k) s
  pub type : field.type ≡ t
  pub message : length field.message ≡ m
  pub taken : length (bytes_of field) ≡ k

module _ (s : List ℕ) (p : Bytes s) (at : ℕ) (v : Version) {t m k : ℕ} (w : FoundFrame v s at t m k) where
  here_of : Here v s at t m k
  here_of =
      let f = field_found s at t m k in
      let first = bytes_here s p at (omega (arith, w)) in
      let second = bytes_here s p (at + 2) (omega (arith, w)) in
      let message : length f.message ≡ m = length-take-le m (drop (at + 4) s) (omega (arith, length-drop (at + 4) s, w)) in
      let rest = k - (m + 4) in
      let padding : length f.padding ≡ rest =
      length-take-le rest (drop (at + 4 + m) s) (omega (arith, length-drop (at + 4 + m) s, w)) in
      let l : stated f ≡ number_at 2 s (at + 2) = omega (arith, w) in
      let four : at + 2 + 2 ≡ at + 4 = omega arith in
      let end : at + 4 + m + rest ≡ at + k = omega (arith, w) in
      let after : drop (at + 4) s ≡ (f.message ++ f.padding) ++ drop (at + k) s =
      sym (take-append-drop m (drop (at + 4) s))
      ∙ ap (λ (x : List ℕ). f.message ++ x)
      (drop-drop m (at + 4) s
      ∙ sym (take-append-drop rest (drop (at + 4 + m) s))
      ∙ ap (λ (x : List ℕ). f.padding ++ x) (drop-drop rest (at + 4 + m) s ∙ ap (λ (j : ℕ). drop j s) end))
      ∙ sym (append_assoc f.message f.padding (drop (at + k) s)) in
      let next : drop (at + 2) s ≡ (big_endian 2 (stated f) ++ (f.message ++ f.padding)) ++ drop (at + k) s =
      second.1
      ∙ rw (← l, four)
      (ap (λ (x : List ℕ). big_endian 2 (stated f) ++ x) after
      ∙ sym (append_assoc (big_endian 2 (stated f)) (f.message ++ f.padding) (drop (at + k) s))) in
      record {
        field = f;
        shaped = record {
          type_fits = omega (arith, w, first.0);
          length_fits = omega (arith, second.0);
          short = omega (arith, w);
          even = omega (arith, w);
          none_in_v4 = λ e. ap (λ (j : ℕ). take j (drop (at + 4 + m) s)) (unpadded v m k w.allowed w.taken e);
        };
        whole =
            first.1
            ∙ rw (← w.type)
            (ap (λ (x : List ℕ). big_endian 2 t ++ x) next
            ∙ sym (append_assoc (big_endian 2 t) (big_endian 2 (stated f) ++ (f.message ++ f.padding)) (drop (at + k) s)));
        type = refl;
        message = message;
        taken = size_of f ∙ omega (arith, w);
      }

pub framed_here : (s : List ℕ) → Bytes s → (at : ℕ) (v : Version) {t m k : ℕ} → frame_at v s at ≡ framed t m k → Here v s at t m k
framed_here s p at v e = here_of s p at v (found v s at e)
