-- What a survey sees of a field that lies at a place: another field, or a sealed one with its two inner lengths; and a part of its
-- message as a part of the packet.
use Rattle.std.specs.Prelude.{Ok, ◌≡◌, refl, false, List, ◌++◌, ℕ, ◌+◌, ◌≤◌, length, take, drop}
use Rattle.std.proofs.Common.{sym, ap, ◌∙◌, arith, length-drop, drop-drop}
use Rattle.std.proofs.lemmas.List.{drop-append-le, take-append-le}
use Rattle.base_version.specs.declared.Version.{Version}
use Rattle.field_kinds.specs.Meant.{kind_of}
use Rattle.field_kinds.specs.declared.Kind.{Kind}
use Rattle.field_kinds.specs.declared.Kind.TheVariants.{Unknown, UniqueIdentifier, NtsCookie, NtsCookiePlaceholder, NtsEncryptedField, InvalidNtsEncryptedField, DraftIdentification, ReferenceIdRequest, ReferenceIdResponse}
use Rattle.field_contents.specs.Meant.{rule_of, IsSealed}
use Rattle.field_contents.proofs.LawsRules.{ruled}
use Rattle.field_frame.specs.LawsLayout.{frame_here, message_here, message_next}
use Rattle.field_sealed.specs.Meant.{Sealing}
use Rattle.field_sealed.proofs.LawsSealing.{placed}
use Rattle.layout.specs.Meant.{Field, bytes_of, Shaped}
use Rattle.read_survey.specs.Model.{is_sealed, outer_at}
use Rattle.read_survey.specs.declared.Outer.TheVariants.{Other, Sealed}
use Rattle.claim_one_cut.proofs.LawsTables.{sealed_kind, sealed_type}

not_a_seal : (k : Kind) → (k ≡ NtsEncryptedField → ⊥) → is_sealed k ≡ false
not_a_seal Unknown h = refl
not_a_seal UniqueIdentifier h = refl
not_a_seal NtsCookie h = refl
not_a_seal NtsCookiePlaceholder h = refl
not_a_seal NtsEncryptedField h = absurd (h refl)
not_a_seal InvalidNtsEncryptedField h = refl
not_a_seal DraftIdentification h = refl
not_a_seal ReferenceIdRequest h = refl
not_a_seal ReferenceIdResponse h = refl

module _ (v : Version) (p : List ℕ) (at : ℕ) (f : Field) (tl : List ℕ) (e : drop at p ≡ bytes_of f ++ tl) (shaped : Shaped v f) where
  pub plain_outer : (IsSealed f → ⊥) → outer_at v p at ≡ Ok (Other (length (bytes_of f)))
  unfolding outer_at
  plain_outer h =
      let other =
      not_a_seal (kind_of f.type v)
      (λ k. h (sealed_type v f.type (rule_of (kind_of f.type v)) (ruled v f.type) (ap rule_of k))) in
      rw (frame_here p at v f tl e shaped, other)

  pub sealed_outer : IsSealed f → (s : Sealing f.message)
      → outer_at v p at ≡ Ok (Sealed (length s.nonce) (length s.ciphertext) (length (bytes_of f)))
  unfolding outer_at
  sealed_outer h s =
      rw (frame_here p at v f tl e shaped, h, sealed_kind v, message_here p at v f tl e, (placed f.message s).parts)

  -- a part of the message is a part of the packet
  pub part_of_message : (j n : ℕ) → j + n ≤ length f.message → take n (drop (at + 4 + j) p) ≡ take n (drop j f.message)
  part_of_message j n h =
      let rest = f.padding ++ tl in
      sym (ap (λ (l : List ℕ). take n l) (drop-drop j (at + 4) p))
      ∙ ap (λ (l : List ℕ). take n (drop j l)) (message_next p at v f tl e)
      ∙ ap (λ (l : List ℕ). take n l) (drop-append-le j f.message rest (omega arith))
      ∙ take-append-le n (drop j f.message) rest (omega (arith, length-drop j f.message))
