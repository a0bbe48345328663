-- Writing into lent memory. Rules 2.7, 2.8 and 1.7: a refused write changes no byte, an accepted write changes only the bytes that it
-- reports, and an output is treated as no longer than 65,535 bytes.
use Rattle.std.specs.Prelude.{List, [], ◌∷◌, ◌++◌, ℕ, ◌+◌, ◌-◌, min, length, take, drop, Result, Ok, Err}
use Rattle.base_answers.specs.Meant.{Told, told_by}
use Rattle.base_answers.specs.declared.Refusal.{Refusal}
use Rattle.base_sizes.specs.Meant.{most_bytes}

-- `out` with `bytes` laid over it from `at` on
abbrev pub overlay : List ℕ → ℕ → List ℕ → List ℕ
overlay out at bytes = take at out ++ bytes ++ drop (at + length bytes) out

-- where an output of `n` bytes ends: it is treated as no longer than 65,535 bytes
abbrev pub output_end : ℕ → ℕ
output_end n = min n most_bytes

-- how many bytes it has from `at` on
abbrev pub room_from : ℕ → ℕ → ℕ
room_from n at = output_end n - at

-- what a write comes to: its answer, and the output afterwards
pub record Write : Type 0 where
  pub answer : Result ℕ Refusal
  pub output : List ℕ

-- a refused write leaves the output as it was
abbrev pub refusing : Refusal → List ℕ → Write
refusing r out = record { answer = Err r; output = out }

-- an accepted write lays its bytes over the output and answers how many they are
abbrev pub writing : List ℕ → ℕ → List ℕ → Write
writing bytes at out = record { answer = Ok (length bytes); output = overlay out at bytes }

-- what a writer's answer tells the pump
abbrev pub told_of : Result ℕ Refusal → Told
told_of = told_by (λ n. n ∷ [])

-- a writer's answer and the output that it left
abbrev pub wrote : Result ℕ Refusal → List ℕ → Write
wrote w out = record { answer = w; output = out }
