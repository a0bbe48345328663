-- What stage one told and left, if it wrote.
use Rattle.std.specs.Prelude.{◌≡◌, refl, Bool, true, false, List, ℕ, ◌+◌, ◌≤◌, ltb, length, get_or, Result, Ok, Err}
use Rattle.std.proofs.Common.{sym, ap, ◌∙◌, arith, ltb-false}
use Rattle.base_answers.specs.Meant.{pick}
use Rattle.base_answers.specs.declared.Refusal.{Refusal}
use Rattle.base_answers.specs.declared.Refusal.TheVariants.{NoRoom, NoCipher}
use Rattle.base_version.specs.declared.Version.{Version}
use Rattle.base_sizes.specs.Meant.{most_bytes}
use Rattle.base_store.specs.Meant.{output_end, overlay, room_from}
use Rattle.write_field.specs.declared.Place.TheVariants.{Authenticated, Sealed}
use Rattle.write_list.specs.Meant.{Described, plans_from, measure_of, plans_bytes}
use Rattle.write_list.specs.LawsSizes.{list_sized, fits_room}
use Rattle.write_stage_one.specs.Meant.{StageOneWrite, needs_cipher, told_of, stage_reply, refusing_both, on_both_measured, stage_one, staged}
use Rattle.write_stage_one.specs.LawsOnly.{not_refused as not-refused-both}

-- stage one wrote
pub record FirstWrote (d : Described) (v : Version) (has : Bool) (a e : ℕ) (out : List ℕ) (at : ℕ) (plain : List ℕ) (n m : ℕ) (o p : List ℕ) : Type 0 where
  pub cipher : needs_cipher has a e ≡ false
  pub place : at ≤ output_end (length out)
  pub outer : measure_of (plans_from d v Authenticated Authenticated a 0) (room_from (length out) at) ≡ Ok n
  pub inner : measure_of (plans_from d v Sealed Sealed e a) (room_from (length plain) 0) ≡ Ok m
  pub output : o ≡ overlay out at (plans_bytes d.bytes (plans_from d v Authenticated Authenticated a 0))
  pub plaintext : p ≡ overlay plain 0 (plans_bytes d.bytes (plans_from d v Sealed Sealed e a))

pub first_wrote : (d : Described) (v : Version) (has : Bool) (a e : ℕ) (out : List ℕ) (at : ℕ) (plain : List ℕ) (n m : ℕ) {o p : List ℕ}
    → stage_reply (staged n m) o p ≡ stage_one d v has a e out at plain
    → FirstWrote d v has a e out at plain n m o p
unfolding stage_one
first_wrote d v has a e out at plain n m {o} {p} h =
    go (needs_cipher has a e) refl (ltb (output_end (length out)) at) refl (measure_of (plans_from d v Authenticated Authenticated a 0) (room_from (length out) at)) refl
    (measure_of (plans_from d v Sealed Sealed e a) (room_from (length plain) 0)) refl h
  where
    go : (b : Bool) → needs_cipher has a e ≡ b → (c : Bool) → ltb (output_end (length out)) at ≡ c → (w : Result ℕ Refusal)
        → measure_of (plans_from d v Authenticated Authenticated a 0) (room_from (length out) at) ≡ w
        → (u : Result ℕ Refusal)
        → measure_of (plans_from d v Sealed Sealed e a) (room_from (length plain) 0) ≡ u
        → stage_reply (staged n m) o p
        ≡ pick b (refusing_both NoCipher out plain)
        (pick c (refusing_both NoRoom out plain)
        (on_both_measured w u (plans_bytes d.bytes (plans_from d v Authenticated Authenticated a 0)) (plans_bytes d.bytes (plans_from d v Sealed Sealed e a)) out at plain))
        → FirstWrote d v has a e out at plain n m o p
    go true eb c ec w ew u eu f = absurd (not-refused-both n m NoCipher (ap (λ (x : StageOneWrite). x.answer) f))
    go false eb true ec w ew u eu f = absurd (not-refused-both n m NoRoom (ap (λ (x : StageOneWrite). x.answer) f))
    go false eb false ec (Err r) ew u eu f = absurd (not-refused-both n m r (ap (λ (x : StageOneWrite). x.answer) f))
    go false eb false ec (Ok x) ew (Err r) eu f = absurd (not-refused-both n m r (ap (λ (x : StageOneWrite). x.answer) f))
    go false eb false ec (Ok x) ew (Ok y) eu f =
        let values = ap (λ (z : StageOneWrite). (told_of z.answer).values) f in
        let en : n ≡ length (plans_bytes d.bytes (plans_from d v Authenticated Authenticated a 0)) = ap (λ (ns : List ℕ). get_or ns 0 0) values in
        let em : m ≡ length (plans_bytes d.bytes (plans_from d v Sealed Sealed e a)) = ap (λ (ns : List ℕ). get_or ns 1 0) values in
        let xs = list_sized d v Authenticated Authenticated a 0 (room_from (length out) at) x ew in
        let ys = list_sized d v Sealed Sealed e a (room_from (length plain) 0) y eu in
        record {
          cipher = eb;
          place = ltb-false (output_end (length out)) at ec;
          outer = ew ∙ ap Ok (sym (en ∙ xs));
          inner = eu ∙ ap Ok (sym (em ∙ ys));
          output = ap (λ (z : StageOneWrite). z.output) f;
          plaintext = ap (λ (z : StageOneWrite). z.plaintext) f;
        }

-- it ends inside the output, so the place where stage two goes on is a place of it
pub ends_inside : (d : Described) (v : Version) (has : Bool) (a e : ℕ) (out : List ℕ) (at : ℕ) (plain : List ℕ) (n m : ℕ) {o p : List ℕ}
    → stage_reply (staged n m) o p ≡ stage_one d v has a e out at plain
    → at + n ≤ most_bytes
ends_inside d v has a e out at plain n m h =
    let w = first_wrote d v has a e out at plain n m h in
    omega (arith, w.place, fits_room (plans_from d v Authenticated Authenticated a 0) (room_from (length out) at) n w.outer)
