-- The frame of a field. Rules 4.1 to 4.5 of docs/RULES.md; RFC 5905, section 7.5, and RFC 7822, section 3; the NTPv5 draft,
-- section 6. A field is a type and a length, two bytes each, and the message. It takes its length rounded up to four, all of
-- it present. In V4 the length counts the padding, so one that is no multiple of four is refused; in V5 it does not, and the
-- padding is not looked at. RFC 7822 asks V4 fields for at least 16 bytes (28 for the last without a MAC); like ntp-proto
-- this reads every length from 4 on.
use Rattle.std.specs.Prelude.{Bool, true, not, List, [], ◌∷◌, ℕ, ◌+◌, ◌-◌, ◌%◌, ltb, eqb, length, take, drop, Result, Ok, Err}
use Rattle.base_answers.specs.Meant.{Told, told_by, ◌⇒◌, first_of}
use Rattle.base_answers.specs.declared.Refusal.{Refusal}
use Rattle.base_answers.specs.declared.Refusal.TheVariants.{IncorrectLength}
use Rattle.base_version.specs.declared.Version.{Version}
use Rattle.base_version.specs.declared.Version.TheVariants.{V4, V5}
use Rattle.base_rounding.specs.Meant.{rounded_up}
use Rattle.base_big_endian.specs.Meant.{number_at}
use Rattle.field_frame.specs.declared.Frame.{Frame}

-- what an answer tells the pump: 0 with type, message length and bytes taken, or the refusal
abbrev pub told_of : Result Frame Refusal → Told
told_of = told_by (λ f. f.type_id ∷ f.message_len ∷ f.wire_length ∷ [])

-- a field of type `t` with `m` bytes of message, which takes `k` bytes
abbrev pub framed : ℕ → ℕ → ℕ → Result Frame Refusal
framed t m k = Ok (record { type_id = t; message_len = m; wire_length = k })

-- whether a version lets a field have this length
abbrev pub is_allowed : Version → ℕ → Bool
is_allowed V4 l = eqb (l % 4) 0
is_allowed V5 l = true

-- the frame of a field of type `t` and length `l` where `left` bytes are left from its start on
unfoldable pub frame_of : Version → ℕ → ℕ → ℕ → Result Frame Refusal
frame_of v t l left =
    first_of
    (ltb l 4 ⇒ Err IncorrectLength
    ∷ not (is_allowed v l) ⇒ Err IncorrectLength
    ∷ ltb left (rounded_up l) ⇒ Err IncorrectLength
    ∷ [])
    (framed t (l - 4) (rounded_up l))

-- the frame of the field whose header is at `at`
unfoldable pub frame_at : Version → List ℕ → ℕ → Result Frame Refusal
frame_at v region at =
    first_of
    (ltb (length region - at) 4 ⇒ Err IncorrectLength ∷ [])
    (frame_of v (number_at 2 region at) (number_at 2 region (at + 2)) (length region - at))

-- the message of the field at `at`
abbrev pub message_at : List ℕ → ℕ → ℕ → List ℕ
message_at region at n = take n (drop (at + 4) region)
