-- What a survey leaves, its answer and its table, and what an answer tells.
use Rattle.std.specs.Prelude.{List, [], ◌∷◌, ℕ, Result, Ok, Err}
use Rattle.std.proofs.lemmas.List.Edits.{sets}
use Rattle.base_answers.specs.Meant.{Told, told, refused_with}
use Rattle.base_answers.specs.declared.Refusal.{Refusal}
use Rattle.read_entries.specs.Meant.{blanks, capacity, TableReply}
use Rattle.read_survey.specs.declared.SurveyFault.{SurveyFault}

-- what an answer tells the pump: 0 with the number of entries, or the refusal with its offset and the number of entries
abbrev pub told_of : Result ℕ SurveyFault → Told
told_of (Ok n) = told 0 (n ∷ [])
told_of (Err f) = refused_with f.refusal (f.field_offset ∷ f.seal_count ∷ [])

-- why no further field is listed, at which offset, and how many entries the table has
abbrev pub faulty_at : Refusal → ℕ → ℕ → Result ℕ SurveyFault
faulty_at r offset n = Err (record { refusal = r; field_offset = offset; seal_count = n })

-- a refusal where the table has `n` entries: blank ones follow them
abbrev pub refusing_survey : Refusal → ℕ → ℕ → List ℕ → TableReply (Result ℕ SurveyFault)
refusing_survey r offset n table =
    record { answer = faulty_at r offset n; table = sets table n (blanks n capacity) }
