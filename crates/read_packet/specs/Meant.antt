-- What the reader is given, and what its answers tell.
use Rattle.std.specs.Prelude.{List, [], ◌∷◌, ℕ}
use Rattle.base_version.specs.declared.Version.{Version}
use Rattle.read_opening.specs.Meant.{cookie_told, Lent}
use Rattle.base_answers.specs.Meant.{Told, told, refused_with}
use Rattle.base_answers.specs.declared.Refusal.{Refusal}
use Rattle.base_answers.specs.declared.Refusal.TheVariants.{DecryptError as Decrypt}
use Rattle.read_packet.specs.declared.Read.{Read}
use Rattle.read_packet.specs.declared.Read.TheVariants.{Accepted, DecryptError, Refused}

pub record Input : Type 0 where
  pub packet : List ℕ
  pub header_size : ℕ
  pub version : Version
  pub lent : Lent

abbrev pub input_of : List ℕ → ℕ → Version → Lent → Input
input_of p h v l = record { packet = p; header_size = h; version = v; lent = l }

-- what an answer tells the pump: 0 with the counts of the three lists, the remainder and the cookie; 5 with the counts and the
-- remainder; any other refusal with its offset
abbrev pub told_of : Read → Told
told_of (Accepted a u e rest c) = told 0 (a ∷ u ∷ e ∷ rest ∷ cookie_told c)
told_of (DecryptError a u e rest) = refused_with Decrypt (a ∷ u ∷ e ∷ rest ∷ [])
told_of (Refused r offset) = refused_with r (offset ∷ [])

-- an answer and the two tables
pub record ReadReply : Type 0 where
  pub answer : Read
  pub outer : List ℕ
  pub inner : List ℕ

abbrev pub refusing_read : Refusal → ℕ → List ℕ → List ℕ → ReadReply
refusing_read r offset outer inner = record { answer = Refused r offset; outer = outer; inner = inner }
