-- The walk over the outer fields of a packet, in the order of rules 3. For a plain field: frame, contents, 8. For a sealed
-- field: frame, inner lengths, 9, 10, then for a failure marker 8, or its inner fields. 0 and 1 add a marker to the untrusted
-- items, 2 and 3 add the inner fields to the encrypted list and make every untrusted item so far authenticated. An entry
-- holds message length, type and offset of an outer item.
use Rattle.std.specs.Prelude.{Some, Bool, true, false, List, [], ◌∷◌, ◌++◌, ℕ, zero, suc, ◌+◌, leb, length, Option, None, Result, Ok, Err}
use Rattle.std.proofs.lemmas.List.Edits.{sets}
use Rattle.base_answers.specs.Meant.{◌⇒◌, first_of}
use Rattle.base_answers.specs.declared.Refusal.{Refusal}
use Rattle.base_answers.specs.declared.Refusal.TheVariants.{MalformedCookiePlaceholder, TooManyFields}
use Rattle.read_entries.specs.Model.{entry_of}
use Rattle.read_entries.specs.Meant.{capacity}
use Rattle.field_frame.specs.Model.{message_at}
use Rattle.read_step.specs.Model.{step_at}
use Rattle.layout.specs.Meant.{cutoff_of}
use Rattle.read_step.specs.declared.Step.{Step}
use Rattle.read_step.specs.declared.Step.TheVariants.{End, Field, Sealed, Refused as Unlawful}
use Rattle.read_plaintext.specs.Model.{is_fouled}
use Rattle.read_opening.specs.Model.{Outcome, failed, opened, refused_after, outcome_of}
use Rattle.read_packet.specs.declared.Walked.{Walked}
use Rattle.read_packet.specs.Meant.{Input}
use Rattle.field_kinds.specs.Meant.{nts_encrypted_field}

-- the three lists, how many sealed fields were passed, whether one failed, and the sealed field whose cookie opened last
pub record Lists : Type 0 where
  pub authenticated : List ℕ
  pub untrusted : List ℕ
  pub encrypted : List ℕ
  pub seals : ℕ
  pub failed : Bool
  pub cookie : Option ℕ

abbrev pub empty : Lists
empty = record { authenticated = []; untrusted = []; encrypted = []; seals = 0; failed = false; cookie = None }

-- the outer items in wire order
abbrev pub outer_of : Lists → List ℕ
outer_of s = s.authenticated ++ s.untrusted

-- a plain field
abbrev pub with_field : Lists → ℕ → Lists
with_field s e = record {
  authenticated = s.authenticated;
  untrusted = s.untrusted ++ e ∷ [];
  encrypted = s.encrypted;
  seals = s.seals;
  failed = s.failed;
  cookie = s.cookie;
}

-- a failure marker
abbrev pub with_marker : Lists → ℕ → Lists
with_marker s e = record {
  authenticated = s.authenticated;
  untrusted = s.untrusted ++ e ∷ [];
  encrypted = s.encrypted;
  seals = s.seals + 1;
  failed = true;
  cookie = s.cookie;
}

-- an opened field: every untrusted item so far becomes authenticated
abbrev pub promoted : Lists → Option ℕ → List ℕ → Lists
promoted s cookie es = record {
  authenticated = outer_of s;
  untrusted = [];
  encrypted = s.encrypted ++ es;
  seals = s.seals + 1;
  failed = s.failed;
  cookie = cookie;
}

-- inner fields before a fault among them
abbrev pub with_inner : Lists → List ℕ → Lists
with_inner s es = record {
  authenticated = s.authenticated;
  untrusted = s.untrusted;
  encrypted = s.encrypted ++ es;
  seals = s.seals;
  failed = s.failed;
  cookie = s.cookie;
}

-- one turn of the walk
pub data Turn : Type 0 where
  finish : Turn
  stop : Refusal → Lists → Turn
  on : ℕ → Lists → Turn

abbrev pub on_outcome : Lists → ℕ → ℕ → ℕ → Outcome → Turn
on_outcome s at m k failed =
    first_of (leb capacity (length (outer_of s)) ⇒ stop TooManyFields s ∷ []) (on (at + k) (with_marker s (entry_of m nts_encrypted_field at 0)))
on_outcome s at m k (opened cookie es) = on (at + k) (promoted s cookie es)
on_outcome s at m k (refused_after r es) = stop r (with_inner s es)

abbrev pub on_outer_step : Input → Lists → ℕ → Step → Turn
on_outer_step i s at End = finish
on_outer_step i s at (Unlawful r) = stop r s
on_outer_step i s at (Field t m k placeholder) =
    first_of
    (is_fouled placeholder (message_at i.packet at m) ⇒ stop MalformedCookiePlaceholder s
    ∷ leb capacity (length (outer_of s)) ⇒ stop TooManyFields s
    ∷ [])
    (on (at + k) (with_field s (entry_of m t at 0)))
on_outer_step i s at (Sealed m k) =
    on_outcome s at m k (outcome_of i.version (message_at i.packet at m) s.seals i.lent (length s.encrypted))

unfoldable pub turn : Input → ℕ → Lists → Turn
turn i at s = on_outer_step i s at (step_at i.version (cutoff_of i.version) i.packet at)

-- where the walk ended, why, and with which lists
pub record Ended : Type 0 where
  pub fault : Option Refusal
  pub at : ℕ
  pub lists : Lists

abbrev pub on_turn : Turn → ℕ → Lists → (ℕ → Lists → Ended) → Ended
on_turn finish at s rest = record { fault = None; at = at; lists = s }
on_turn (stop r t) at s rest = record { fault = Some r; at = at; lists = t }
on_turn (on next t) at s rest = rest next t

-- the first number bounds how many turns there can be
unfoldable pub walk_from : ℕ → Input → ℕ → Lists → Ended
walk_from zero i at s = record { fault = None; at = at; lists = s }
walk_from (suc most) i at s = on_turn (turn i at s) at s (λ next t. walk_from most i next t)

unfoldable pub end_of : Input → Ended
end_of i = walk_from (suc (length i.packet)) i i.header_size empty

-- what the code answers, and the tables as it leaves them
pub record Walk : Type 0 where
  pub fault : Option Refusal
  pub at : ℕ
  pub outer : ℕ
  pub authenticated : ℕ
  pub inner : ℕ
  pub failed : Bool
  pub cookie : Option ℕ
  pub outer_table : List ℕ
  pub inner_table : List ℕ

abbrev pub fault_of : Result Unit Refusal → Option Refusal
fault_of (Ok u) = None
fault_of (Err r) = Some r

abbrev pub walked : Walked → List ℕ → List ℕ → Walk
walked w outer inner = record {
  fault = fault_of w.ending;
  at = w.at;
  outer = w.outer;
  authenticated = w.authenticated;
  inner = w.inner;
  failed = w.failed;
  cookie = w.cookie;
  outer_table = outer;
  inner_table = inner;
}

abbrev pub walk_ended : Ended → List ℕ → List ℕ → Walk
walk_ended e outer inner = record {
  fault = e.fault;
  at = e.at;
  outer = length (outer_of e.lists);
  authenticated = length e.lists.authenticated;
  inner = length e.lists.encrypted;
  failed = e.lists.failed;
  cookie = e.lists.cookie;
  outer_table = sets outer 0 (outer_of e.lists);
  inner_table = sets inner 0 e.lists.encrypted;
}

unfoldable pub walk_of : Input → List ℕ → List ℕ → Walk
walk_of i outer inner = walk_ended (end_of i) outer inner
