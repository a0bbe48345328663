-- The walk stays inside the packet, and its lists within the tables.
use Rattle.std.specs.Prelude.{◌≡◌, refl, Bool, true, false, List, [], ◌∷◌, ◌++◌, ℕ, zero, suc, ◌+◌, ◌≤◌, ◌<◌, leb, length}
use Rattle.std.proofs.Common.{ap, append-nil, arith, leb-false, length-append}
use Rattle.base_answers.specs.Meant.{◌⇒◌, first_of}
use Rattle.base_answers.specs.declared.Refusal.TheVariants.{MalformedCookiePlaceholder, TooManyFields}
use Rattle.read_entries.specs.Model.{entry_of}
use Rattle.read_entries.specs.Meant.{capacity}
use Rattle.field_frame.specs.Model.{message_at}
use Rattle.read_step.specs.Model.{step_at}
use Rattle.layout.specs.Meant.{cutoff_of}
use Rattle.read_step.specs.Laws.{Sized, sized}
use Rattle.read_step.specs.declared.Step.{Step}
use Rattle.read_step.specs.declared.Step.TheVariants.{End, Field, Sealed, Refused as Unlawful}
use Rattle.read_plaintext.specs.Model.{is_fouled}
use Rattle.read_opening.specs.Model.{Outcome, failed, opened, refused_after, outcome_of}
use Rattle.read_opening.specs.Laws.{entries_of, outcome_fits}
use Rattle.read_packet.specs.Meant.{Input}
use Rattle.read_packet.specs.ModelWalk.{Lists, empty, outer_of, with_field, with_marker, Turn, finish, stop, on, on_outcome, on_outer_step, turn, Ended, on_turn, walk_from, end_of}

pub record Bounded (i : Input) (at : ℕ) (s : Lists) : Type 0 where
  pub inside : at ≤ length i.packet
  pub outer : length (outer_of s) ≤ capacity
  pub inner : length s.encrypted ≤ capacity

-- what a turn leads to
abbrev Leads : Input → ℕ → Turn → Type 0
Leads i at finish = Unit
Leads i at (stop r s) = Bounded i at s
Leads i at (on next s) = Bounded i next s

-- one item more
longer : (xs ys : List ℕ) (e : ℕ) → length (xs ++ ys) < capacity → length (xs ++ (ys ++ e ∷ [])) ≤ capacity
longer xs ys e h =
    omega (arith, length-append xs ys, length-append xs (ys ++ e ∷ []), length-append ys (e ∷ []))

module _ (i : Input) (at : ℕ) (s : Lists) (b : Bounded i at s) where
  field_leads : (fouled full : Bool) → leb capacity (length (outer_of s)) ≡ full → (k e : ℕ) → at + k ≤ length i.packet
      → Leads i at
      (first_of (fouled ⇒ stop MalformedCookiePlaceholder s ∷ full ⇒ stop TooManyFields s ∷ []) (on (at + k) (with_field s e)))
  field_leads true full g k e h = b
  field_leads false true g k e h = b
  field_leads false false g k e h =
      record { inside = h; outer = longer s.authenticated s.untrusted e (leb-false capacity _ g); inner = b.inner }

  marker_leads : (full : Bool) → leb capacity (length (outer_of s)) ≡ full → (k e : ℕ) → at + k ≤ length i.packet
      → Leads i at (first_of (full ⇒ stop TooManyFields s ∷ []) (on (at + k) (with_marker s e)))
  marker_leads true g k e h = b
  marker_leads false g k e h =
      record { inside = h; outer = longer s.authenticated s.untrusted e (leb-false capacity _ g); inner = b.inner }

  outcome_leads : (o : Outcome) → length s.encrypted + length (entries_of o) ≤ capacity → (l k : ℕ) → at + k ≤ length i.packet
      → Leads i at (on_outcome s at l k o)
  outcome_leads failed f l k h = marker_leads (leb capacity (length (outer_of s))) refl k (entry_of l 0x0404 at 0) h
  outcome_leads (opened c es) f l k h = record {
    inside = h;
    outer = omega (arith, b.outer, ap (λ (x : List ℕ). length x) (append-nil (outer_of s)));
    inner = omega (arith, length-append s.encrypted es);
  }
  outcome_leads (refused_after r es) f l k h =
      record { inside = b.inside; outer = b.outer; inner = omega (arith, length-append s.encrypted es) }

  step_leads : (t : Step) → Sized (cutoff_of i.version) i.packet at t → Leads i at (on_outer_step i s at t)
  step_leads End w = tt
  step_leads (Unlawful r) w = b
  step_leads (Field t l k placeholder) w =
      field_leads (is_fouled placeholder (message_at i.packet at l)) (leb capacity (length (outer_of s))) refl k (entry_of l t at 0) w.inside
  step_leads (Sealed l k) w =
      outcome_leads (outcome_of i.version (message_at i.packet at l) s.seals i.lent (length s.encrypted))
      (outcome_fits (length s.encrypted) b.inner i.version (message_at i.packet at l) s.seals i.lent) l k w.inside

  turn_leads : Leads i at (turn i at s)
  unfolding turn
  turn_leads =
      step_leads (step_at i.version (cutoff_of i.version) i.packet at) (sized i.version (cutoff_of i.version) i.packet at)

  ended_turn : (t : Turn) → Leads i at t → (rest : ℕ → Lists → Ended)
      → ((next : ℕ) (u : Lists) → Bounded i next u → Bounded i (rest next u).at (rest next u).lists)
      → Bounded i (on_turn t at s rest).at (on_turn t at s rest).lists
  ended_turn finish l rest later = b
  ended_turn (stop r u) l rest later = l
  ended_turn (on next u) l rest later = later next u l

walk_bounded : (most : ℕ) (i : Input) (at : ℕ) (s : Lists) → Bounded i at s → Bounded i (walk_from most i at s).at (walk_from most i at s).lists
unfolding walk_from
walk_bounded zero i at s b = b
walk_bounded (suc most) i at s b =
    ended_turn i at s b (turn i at s) (turn_leads i at s b) (λ next u. walk_from most i next u) (λ next u c. walk_bounded most i next u c)

pub end_bounded : (i : Input) → i.header_size ≤ length i.packet → Bounded i (end_of i).at (end_of i).lists
unfolding end_of
end_bounded i h =
    walk_bounded (suc (length i.packet)) i i.header_size empty
    (record { inside = h; outer = omega arith; inner = omega arith })
