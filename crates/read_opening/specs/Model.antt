-- A sealed field and its result. Rules 3.3 and 8 of docs/RULES.md: inner lengths (1), no result (9), an
-- unknown verdict (10), 0 and 1 a failure marker, for 2 and 3 the place of the plaintext (10), then its fields. A result is
-- lent where verdict, start and length are.
use Rattle.std.specs.Prelude.{List, [], ◌∷◌, ℕ, ◌+◌, ◌-◌, ltb, leb, eqb, length, take, drop, Option, Some, None, Result, Ok, Err}
use Rattle.std.proofs.lemmas.List.Edits.{sets}
use Rattle.base_answers.specs.Meant.{Told, told, ◌⇒◌, first_of, refused_with, pick}
use Rattle.base_answers.specs.declared.Refusal.{Refusal}
use Rattle.base_answers.specs.declared.Refusal.TheVariants.{NoResult, MalformedResult}
use Rattle.base_version.specs.declared.Version.{Version}
use Rattle.field_sealed.specs.Model.{sealed_parts}
use Rattle.field_sealed.specs.declared.Sealed.{Sealed}
use Rattle.read_plaintext.specs.Model.{inside_of}
use Rattle.read_plaintext.specs.declared.InnerFault.{InnerFault}
use Rattle.read_opening.specs.declared.Opened.{Opened}
use Rattle.read_opening.specs.declared.Plaintext.{Plaintext}
use Rattle.read_opening.specs.Meant.{cookie_told, Lent, results, verdict_of, start_of, len_of}
use Rattle.read_entries.specs.Meant.{TableReply}

-- verdict 3 says that a server cookie opened sealed field number `k`
abbrev pub cookie_by : ℕ → ℕ → Option ℕ
cookie_by verdict k = pick (eqb verdict 3) (Some k) None

-- what a result that gives a plaintext says
abbrev pub plaintext_at : ℕ → ℕ → Option ℕ → Result (Option Plaintext) Refusal
plaintext_at start end cookie = Ok (Some (record { start = start; end = end; cookie = cookie }))

-- what a result says, in the order of its tests
unfoldable pub result_of : Lent → ℕ → Result (Option Plaintext) Refusal
result_of l k =
    first_of
    (leb (results l) k ⇒ Err NoResult
    ∷ ltb 3 (verdict_of l k) ⇒ Err MalformedResult
    ∷ ltb (verdict_of l k) 2 ⇒ Ok None
    ∷ ltb (length l.plain) (start_of l k + len_of l k) ⇒ Err MalformedResult
    ∷ [])
    (plaintext_at (start_of l k) (start_of l k + len_of l k) (cookie_by (verdict_of l k) k))

-- what comes of a sealed field: a failure, the entries of its fields and the cookie that opened it, or a refusal with
-- the entries before it
pub data Outcome : Type 0 where
  failed : Outcome
  opened : Option ℕ → List ℕ → Outcome
  refused_after : Refusal → List ℕ → Outcome

abbrev pub on_parts : Result Sealed Refusal → Outcome → Outcome
on_parts (Ok s) on = on
on_parts (Err r) on = refused_after r []

abbrev pub of_found : Option ℕ → Option Refusal → List ℕ → Outcome
of_found cookie None es = opened cookie es
of_found cookie (Some r) es = refused_after r es

-- the fields of the plaintext that a result gives
abbrev pub on_result : Version → List ℕ → ℕ → ℕ → Result (Option Plaintext) Refusal → Outcome
on_result v plain k n (Ok None) = failed
on_result v plain k n (Err r) = refused_after r []
on_result v plain k n (Ok (Some p)) =
    let found = inside_of v (take (p.end - p.start) (drop p.start plain)) k n in
    of_found p.cookie found.fault found.entries

unfoldable pub outcome_of : Version → List ℕ → ℕ → Lent → ℕ → Outcome
outcome_of v message k l n = on_parts (sealed_parts message) (on_result v l.plain k n (result_of l k))

-- 0, for an opening with the number of entries and the cookie; or the refusal with the number of entries
abbrev pub told_of : Result (Option Opened) InnerFault → Told
told_of (Ok None) = told 0 []
told_of (Ok (Some o)) = told 0 (o.inner_count ∷ cookie_told o.cookie)
told_of (Err f) = refused_with f.refusal (f.inner_count ∷ [])

-- an opening that left `n` entries, and a fault after so many
abbrev pub opening : ℕ → Option ℕ → Result (Option Opened) InnerFault
opening n c = Ok (Some (record { inner_count = n; cookie = c }))

abbrev pub faulty : Refusal → ℕ → Result (Option Opened) InnerFault
faulty r n = Err (record { refusal = r; inner_count = n })

abbrev pub opening_reply : Result (Option Opened) InnerFault → List ℕ → TableReply (Result (Option Opened) InnerFault)
opening_reply o table = record { answer = o; table = table }

abbrev pub replied : Outcome → ℕ → List ℕ → TableReply (Result (Option Opened) InnerFault)
replied failed n table = record { answer = Ok None; table = table }
replied (opened c es) n table = record { answer = opening (n + length es) c; table = sets table n es }
replied (refused_after r es) n table = record { answer = faulty r (n + length es); table = sets table n es }

unfoldable pub opening_of : Version → List ℕ → ℕ → Lent → List ℕ → ℕ → TableReply (Result (Option Opened) InnerFault)
opening_of v message k l table n = replied (outcome_of v message k l n) n table
