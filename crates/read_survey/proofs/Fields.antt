-- What is seen of an outer field says of its place: the field lies inside the packet, and its nonce and ciphertext inside it.
use mathlib.Core.Path.{◌≡◌, refl, sym, ap, ◌∙◌}
use mathlib.Core.Bool.{Bool, true, false}
use mathlib.Core.List.{List}
use Prim.Native.Nat.{ℕ, ◌+◌, ◌≤◌}
use native.Mathlib.Omega.{arith}
use lib.ListN.{length, drop, length-take}
use Rattle.std.specs.Prelude.{Result, Ok, Err}
use Rattle.base_answers.specs.Meant.{pick}
use Rattle.base_answers.specs.declared.Refusal.{Refusal}
use Rattle.base_version.specs.declared.Version.{Version}
use Rattle.field_kinds.specs.Meant.{kind_of}
use Rattle.field_frame.specs.Model.{frame_at, message_at}
use Rattle.field_frame.specs.Laws.{FoundFrame, found}
use Rattle.field_frame.specs.declared.Frame.{Frame}
use Rattle.field_sealed.specs.Model.{sealed_parts}
use Rattle.field_sealed.proofs.Laws.{parts_placed}
use Rattle.field_sealed.specs.declared.Sealed.{Sealed as Lengths}
use Rattle.read_survey.specs.Model.{is_sealed, on_lengths, on_outer_frame, outer_at}
use Rattle.read_survey.specs.declared.Outer.{Outer}
use Rattle.read_survey.specs.declared.Outer.TheVariants.{Other, Sealed}

-- a field of `k` bytes, in which `n` and `c` bytes are nonce and ciphertext
pub record Within (p : List ℕ) (at n c k : ℕ) : Type 0 where
  pub own : n + c + 4 ≤ k
  pub inside : at + k ≤ length p

abbrev pub Sized : List ℕ → ℕ → Result Outer Refusal → Type 0
Sized p at (Err r) = Unit
Sized p at (Ok (Other k)) = Within p at 0 0 k
Sized p at (Ok (Sealed n c k)) = Within p at n c k

module _ (v : Version) (p : List ℕ) (at : ℕ) {t m k : ℕ} (here : FoundFrame v p at t m k) where
  sized_parts : (l : Result Lengths Refusal) → sealed_parts (message_at p at m) ≡ l → Sized p at (on_lengths k l)
  sized_parts (Err r) e = tt
  sized_parts (Ok s) e = record {
    own = omega (arith, here, parts_placed (message_at p at m) e, length-take m (drop (at + 4) p));
    inside = here.inside;
  }

  sized_kind : (b : Bool) → Sized p at (pick b (on_lengths k (sealed_parts (message_at p at m))) (Ok (Other k)))
  sized_kind true = sized_parts (sealed_parts (message_at p at m)) refl
  sized_kind false = record { own = omega (arith, here); inside = here.inside }

pub sized : (v : Version) (p : List ℕ) (at : ℕ) → Sized p at (outer_at v p at)
unfolding outer_at
sized v p at = go (frame_at v p at) refl
  where
    go : (f : Result Frame Refusal) → frame_at v p at ≡ f → Sized p at (on_outer_frame v p at f)
    go (Err r) e = tt
    go (Ok f) e = sized_kind v p at (found v p at e) (is_sealed (kind_of f.type_id v))

-- a field that was seen is the one that stands there, and its lengths say so
module _ (v : Version) (p : List ℕ) (at : ℕ) {x : Result Outer Refusal} {y z : Outer} (e : x ≡ outer_at v p at) (f : x ≡ Ok y) (g : y ≡ z) where
  pub seen : outer_at v p at ≡ Ok z
  seen = sym e ∙ f ∙ ap Ok g

  pub seen_sized : Sized p at (Ok z)
  seen_sized = rw seen at (sized v p at)
