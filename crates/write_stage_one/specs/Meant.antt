-- Stage one. Rules 13 of docs/RULES.md: the authenticated fields into one output and, apart, the plaintext of those to be sealed; 17
-- if either list is non-empty and there is no cipher; then a place past the end is 16 (rule 1.7: an output ends at 65,535 bytes); then each field in writing order. A
-- refusal changes no byte of either output.
use Rattle.std.specs.Prelude.{Bool, true, false, List, [], ◌∷◌, ℕ, ltb, length, Result, Ok, Err}
use Rattle.base_answers.specs.Meant.{Told, told_by, ◌⇒◌, first_of}
use Rattle.base_answers.specs.declared.Refusal.{Refusal}
use Rattle.base_answers.specs.declared.Refusal.TheVariants.{NoRoom, NoCipher}
use Rattle.base_version.specs.declared.Version.{Version}
use Rattle.base_store.specs.Meant.{overlay, output_end, room_from}
use Rattle.write_field.specs.declared.Place.TheVariants.{Authenticated, Sealed}
use Rattle.write_field.specs.declared.Plan.{Plan}
use Rattle.write_list.specs.Meant.{Described, plans_from, measure_of, plans_bytes}
use Rattle.write_stage_one.specs.declared.StageOne.{StageOne}

unfoldable pub needs_cipher : Bool → ℕ → ℕ → Bool
needs_cipher has authenticated encrypted = first_of (has ⇒ false ∷ ltb 0 authenticated ⇒ true ∷ []) (ltb 0 encrypted)

-- both lists were written, so many bytes to the output and so many to the plaintext
abbrev pub counts : ℕ → ℕ → StageOne
counts n m = record { output_len = n; plaintext_len = m }

abbrev pub staged : ℕ → ℕ → Result StageOne Refusal
staged n m = Ok (counts n m)

-- what an answer tells the pump: 0 with the numbers of bytes, or the refusal
abbrev pub told_of : Result StageOne Refusal → Told
told_of = told_by (λ s. s.output_len ∷ s.plaintext_len ∷ [])

-- what stage one comes to: its answer, and both outputs afterwards
pub record StageOneWrite : Type 0 where
  pub answer : Result StageOne Refusal
  pub output : List ℕ
  pub plaintext : List ℕ

abbrev pub stage_reply : Result StageOne Refusal → List ℕ → List ℕ → StageOneWrite
stage_reply s out plain = record { answer = s; output = out; plaintext = plain }

abbrev pub refusing_both : Refusal → List ℕ → List ℕ → StageOneWrite
refusing_both r out plain = stage_reply (Err r) out plain

-- both lists were measured
abbrev pub on_both_measured : Result ℕ Refusal → Result ℕ Refusal → List ℕ → List ℕ → List ℕ → ℕ → List ℕ → StageOneWrite
on_both_measured (Err r) w first inside out at plain = refusing_both r out plain
on_both_measured (Ok n) (Err r) first inside out at plain = refusing_both r out plain
on_both_measured (Ok n) (Ok m) first inside out at plain =
    stage_reply (staged (length first) (length inside)) (overlay out at first) (overlay plain 0 inside)

abbrev pub stage_plans : List ℕ → List (Result Plan Refusal) → List (Result Plan Refusal) → List ℕ → ℕ → List ℕ → StageOneWrite
stage_plans lent first inside out at plain =
    on_both_measured (measure_of first (room_from (length out) at)) (measure_of inside (room_from (length plain) 0)) (plans_bytes lent first)
    (plans_bytes lent inside) out at plain

unfoldable pub stage_one : Described → Version → Bool → ℕ → ℕ → List ℕ → ℕ → List ℕ → StageOneWrite
stage_one d v has authenticated encrypted out at plain =
    first_of
    (needs_cipher has authenticated encrypted ⇒ refusing_both NoCipher out plain
    ∷ ltb (output_end (length out)) at ⇒ refusing_both NoRoom out plain
    ∷ [])
    (stage_plans d.bytes (plans_from d v Authenticated Authenticated authenticated 0)
    (plans_from d v Sealed Sealed encrypted authenticated) out at plain)
