-- The body of a read is refused only for a lack of room: no list of a read has more fields than a table has entries, and no refusal a
-- number above 18. With 4 bytes of room its four numbers are written.
use Rattle.std.specs.Prelude.{Option, Some, None, ◌≡◌, Bool, ℕ, ◌≤◌, length}
use Rattle.std.proofs.Math.Path.{refl}
use Rattle.std.proofs.Math.Bool.{true, false}
use mathlib.Core.List.{List, [], ◌∷◌}
use Rattle.std.proofs.Common.{arith, ltb-false, lit≤, length-append}
use Rattle.std.proofs.Math.Dec.{ltb}
use Rattle.base_answers.specs.Meant.{number_of, pick, ◌⇒◌, first_of}
use Rattle.base_answers.specs.declared.Refusal.{Refusal}
use Rattle.base_answers.specs.declared.Refusal.TheVariants.{IncorrectLength, MalformedCookiePlaceholder, MalformedNtsExtensionFields, InvalidDraftIdentification, DecryptError as Decrypt, HeaderPastEnd, PacketTooLong, TooManyFields, NoResult, MalformedResult, InvalidVersion, MalformedMode, MalformedTimescale, InvalidFlags, FieldTooLong, NoRoom, NoCipher, CannotBeMade}
use Rattle.base_sizes.specs.Meant.{most_bytes}
use Rattle.base_store.specs.Meant.{writing, room_from}
use Rattle.read_entries.specs.Meant.{capacity, over_table}
use Rattle.read_packet.specs.Meant.{Input, refusing_read}
use Rattle.read_packet.specs.ModelWalk.{Lists, outer_of, end_of}
use Rattle.read_packet.specs.ModelReply.{lists_read, on_fault, read_over}
use Rattle.read_packet.specs.LawsBounds.{end_bounded}
use Rattle.read_packet.specs.declared.Read.{Read}
use Rattle.read_packet.specs.declared.Read.TheVariants.{Accepted, DecryptError, Refused}
use Rattle.journal_body.specs.Meant.{counts_body, read_body, body_write, read_write}
use Rattle.journal_body.specs.LawsCases.{Small, are_bytes_law, all_written}

pub at_most_18 : (r : Refusal) → number_of r ≤ 18
at_most_18 IncorrectLength = lit≤ tt
at_most_18 MalformedCookiePlaceholder = lit≤ tt
at_most_18 MalformedNtsExtensionFields = lit≤ tt
at_most_18 InvalidDraftIdentification = lit≤ tt
at_most_18 Decrypt = lit≤ tt
at_most_18 HeaderPastEnd = lit≤ tt
at_most_18 PacketTooLong = lit≤ tt
at_most_18 TooManyFields = lit≤ tt
at_most_18 NoResult = lit≤ tt
at_most_18 MalformedResult = lit≤ tt
at_most_18 InvalidVersion = lit≤ tt
at_most_18 MalformedMode = lit≤ tt
at_most_18 MalformedTimescale = lit≤ tt
at_most_18 InvalidFlags = lit≤ tt
at_most_18 FieldTooLong = lit≤ tt
at_most_18 NoRoom = lit≤ tt
at_most_18 NoCipher = lit≤ tt
at_most_18 CannotBeMade = lit≤ tt

-- the four numbers of an answer stand in the output
abbrev Stands : List ℕ → ℕ → Read → Type 0
Stands out at r = read_write r out at ≡ writing (read_body r) at out

module _ (out : List ℕ) (at : ℕ) (room : 4 ≤ room_from (length out) at) where
  counts_written : (n a u e : ℕ) → Small n a u e → body_write (counts_body n a u e) out at ≡ writing (counts_body n a u e) at out
  counts_written n a u e s = all_written (counts_body n a u e) out at (are_bytes_law n a u e s) room

  -- an accepted read
  pub accepted_written : (a u e rest : ℕ) (cookie : Option ℕ) → a ≤ capacity → u ≤ capacity → e ≤ capacity
      → read_write (Accepted a u e rest cookie) out at ≡ writing (0 ∷ a ∷ u ∷ e ∷ []) at out
  accepted_written a u e rest cookie h i j =
      counts_written 0 a u e (record { number = omega arith; authenticated = omega arith; untrusted = omega arith; encrypted = omega arith })

  -- one with a sealed field that was not opened
  pub failed_written : (a u e rest : ℕ) → a ≤ capacity → u ≤ capacity → e ≤ capacity
      → read_write (DecryptError a u e rest) out at ≡ writing (5 ∷ a ∷ u ∷ e ∷ []) at out
  failed_written a u e rest h i j =
      counts_written 5 a u e (record { number = omega arith; authenticated = omega arith; untrusted = omega arith; encrypted = omega arith })

  -- every refusal
  pub refused_written : (r : Refusal) (offset : ℕ) → read_write (Refused r offset) out at ≡ writing (number_of r ∷ 0 ∷ 0 ∷ 0 ∷ []) at out
  refused_written r offset =
      counts_written (number_of r) 0 0 0
      (record { number = omega (arith, at_most_18 r); authenticated = omega arith; untrusted = omega arith; encrypted = omega arith })

  counted : (failed : Bool) (a u e rest : ℕ) (cookie : Option ℕ) → a ≤ capacity → u ≤ capacity → e ≤ capacity
      → Stands out at (pick failed (DecryptError a u e rest) (Accepted a u e rest cookie))
  counted true a u e rest cookie h i j = failed_written a u e rest h i j
  counted false a u e rest cookie h i j = accepted_written a u e rest cookie h i j

  lists_written : (s : Lists) (rest : ℕ) → length (outer_of s) ≤ capacity → length s.encrypted ≤ capacity
      → Stands out at (lists_read s rest)
  lists_written s rest h i =
      let both = length-append s.authenticated s.untrusted in
      counted s.failed (length s.authenticated) (length s.untrusted) (length s.encrypted) rest s.cookie
      (omega arith) (omega arith) i

  -- whatever a read of a packet answers
  pub read_written : (i : Input) (outer : List ℕ) (usedOuter : ℕ) (inner : List ℕ) (used_inner_of : ℕ)
      → read_write (read_over i outer usedOuter inner used_inner_of).answer out at
      ≡ writing (read_body (read_over i outer usedOuter inner used_inner_of).answer) at out
  unfolding read_over
  read_written i outer usedOuter inner used_inner_of =
      go (ltb most_bytes (length i.packet)) (ltb (length i.packet) i.header_size) refl (end_of i).fault
    where
      go : (b c : Bool) → ltb (length i.packet) i.header_size ≡ c → (fault : Option Refusal)
          → Stands out at
          (first_of
          (b ⇒ refusing_read PacketTooLong 0 (over_table outer [] usedOuter) (over_table inner [] used_inner_of)
          ∷ c ⇒ refusing_read HeaderPastEnd 0 (over_table outer [] usedOuter) (over_table inner [] used_inner_of)
          ∷ [])
          (on_fault fault (end_of i) (length i.packet) outer usedOuter inner used_inner_of)).answer
      go true c e fault = refused_written PacketTooLong 0
      go false true e fault = refused_written HeaderPastEnd 0
      go false false e (Some r) = refused_written r (end_of i).at
      go false false e None =
          let bounded = end_bounded i (ltb-false _ _ e) in
          lists_written (end_of i).lists _ bounded.outer bounded.inner
