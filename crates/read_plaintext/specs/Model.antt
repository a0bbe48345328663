-- The fields of an opened plaintext. Rules 4.9 and 6.4: a plaintext is cut to its end by
-- the rules for fields, none of them is sealed (3), contents are lawful, and there is room for each in the table (8). An entry
-- holds message length, type, place in the plaintext and the number of the sealed field.
use Rattle.std.specs.Prelude.{Option, Some, None, Bool, true, false, not, List, [], ◌∷◌, ℕ, zero, suc, ◌+◌, ltb, leb, length, Result, Ok, Err}
use Rattle.std.proofs.lemmas.List.Edits.{sets}
use Rattle.base_answers.specs.Meant.{Told, accepted, refused_with, ◌⇒◌, first_of}
use Rattle.base_answers.specs.declared.Refusal.{Refusal}
use Rattle.base_answers.specs.declared.Refusal.TheVariants.{MalformedCookiePlaceholder, MalformedNtsExtensionFields, TooManyFields, MalformedResult}
use Rattle.base_version.specs.declared.Version.{Version}
use Rattle.field_contents.specs.Meant.{every}
use Rattle.field_contents.specs.Model.{is_zero}
use Rattle.read_entries.specs.Model.{entry_of, Found, ended, stopped, then}
use Rattle.read_entries.specs.Meant.{capacity, TableReply}
use Rattle.field_frame.specs.Model.{message_at}
use Rattle.read_step.specs.Model.{step_at}
use Rattle.read_step.specs.declared.Step.{Step}
use Rattle.read_step.specs.declared.Step.TheVariants.{End, Field, Sealed, Refused as Unlawful}
use Rattle.read_plaintext.specs.declared.InnerFault.{InnerFault}
use Rattle.base_sizes.specs.Meant.{most_bytes}

-- whether a placeholder holds something else than zeros
abbrev pub is_fouled : Bool → List ℕ → Bool
is_fouled true m = not (every is_zero m)
is_fouled false m = false

-- one field and what follows it
abbrev pub on_inner_step : List ℕ → ℕ → ℕ → ℕ → Step → (ℕ → Found Refusal) → Found Refusal
on_inner_step p seal n at End rest = ended
on_inner_step p seal n at (Unlawful r) rest = stopped r
on_inner_step p seal n at (Sealed m k) rest = stopped MalformedNtsExtensionFields
on_inner_step p seal n at (Field t m k placeholder) rest =
    first_of
    (is_fouled placeholder (message_at p at m) ⇒ stopped MalformedCookiePlaceholder
    ∷ leb capacity n ⇒ stopped TooManyFields
    ∷ [])
    (then (entry_of m t at seal) (rest k))

-- the fields from `at` on, with `n` entries in the table; the first number bounds how many there can be
unfoldable pub inside_from : ℕ → Version → List ℕ → ℕ → ℕ → ℕ → Found Refusal
inside_from zero v p seal n at = ended
inside_from (suc most) v p seal n at = on_inner_step p seal n at (step_at v 0 p at) (λ k. inside_from most v p seal (n + 1) (at + k))

-- all fields of a plaintext, which has at most 65,535 bytes
unfoldable pub inside_of : Version → List ℕ → ℕ → ℕ → Found Refusal
inside_of v p seal n =
    first_of (ltb most_bytes (length p) ⇒ stopped MalformedResult ∷ []) (inside_from (suc (length p)) v p seal n 0)

-- 0 or the refusal, with the number of entries
abbrev pub told_of : Result ℕ InnerFault → Told
told_of (Ok n) = accepted (n ∷ [])
told_of (Err f) = refused_with f.refusal (f.inner_count ∷ [])

abbrev pub inside_reply : Result ℕ InnerFault → List ℕ → TableReply (Result ℕ InnerFault)
inside_reply i table = record { answer = i; table = table }

-- the answer to a plaintext with or without a fault, where the table has `n` entries now
abbrev pub inside_with : Option Refusal → ℕ → Result ℕ InnerFault
inside_with None n = Ok n
inside_with (Some r) n = Err (record { refusal = r; inner_count = n })

abbrev pub inside_replied : Found Refusal → ℕ → List ℕ → TableReply (Result ℕ InnerFault)
inside_replied f n table = record { answer = inside_with f.fault (n + length f.entries); table = sets table n f.entries }

unfoldable pub inner_fields : Version → List ℕ → ℕ → List ℕ → ℕ → TableReply (Result ℕ InnerFault)
inner_fields v p seal table n = inside_replied (inside_of v p seal n) n table
