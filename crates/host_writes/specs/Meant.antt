-- What crosses to the host of a packet's writing: the answers and outputs of both stages. Another version than 4 and 5 is 11, with
-- the outputs as they were.
use Rattle.std.specs.Prelude.{List, [], ◌∷◌, ℕ, ◌+◌, ltb, Result, Ok, Err}
use Rattle.base_answers.specs.Meant.{number_of, ◌⇒◌, first_of}
use Rattle.base_answers.specs.declared.Refusal.{Refusal}
use Rattle.base_answers.specs.declared.Refusal.TheVariants.{InvalidVersion}
use Rattle.base_store.specs.Meant.{refusing}
use Rattle.write_list.specs.Meant.{Described}
use Rattle.write_stage_one.specs.Meant.{StageOneWrite, refusing_both as notStaged, stage_one}
use Rattle.write_stage_two.specs.Meant.{stage_two}
use Rattle.write_stage_one.specs.declared.StageOne.{StageOne}
use Rattle.host.specs.Meant.{version_of, on_version, is_true, Across, leaving_both, of_write}
use Rattle.host.specs.declared.NtpLength.{NtpLength}
use Rattle.host_writes.specs.declared.NtpStageOne.{NtpStageOne}

-- a sealed field is owed if there is a field to authenticate or to seal
abbrev pub owes_seal_of : ℕ → ℕ → ℕ
owes_seal_of authenticated encrypted = first_of (ltb 0 authenticated ⇒ 1 ∷ ltb 0 encrypted ⇒ 1 ∷ []) 0

abbrev pub no_stage : Refusal → NtpStageOne
no_stage r = record { number = number_of r; output_len = 0; plaintext_len = 0; associated_data_len = 0; owes_seal = 0 }

-- the row of stage one's answer: all bytes up to where it ended are the associated data, and stage two goes on there
abbrev pub stage_row : Result StageOne Refusal → ℕ → ℕ → NtpStageOne
stage_row (Ok s) at owes = record {
  number = 0;
  output_len = s.output_len;
  plaintext_len = s.plaintext_len;
  associated_data_len = at + s.output_len;
  owes_seal = owes;
}
stage_row (Err r) at owes = no_stage r

abbrev pub of_stage_one : StageOneWrite → ℕ → ℕ → Across NtpStageOne
of_stage_one r at owes = leaving_both (stage_row r.answer at owes) r.output r.plaintext

unfoldable pub stage_one_across : Described → ℕ → ℕ → ℕ → ℕ → List ℕ → ℕ → List ℕ → Across NtpStageOne
stage_one_across d version hasCipher authenticated encrypted out at plain =
    of_stage_one
    (on_version (version_of version) (notStaged InvalidVersion out plain)
    (λ v. stage_one d v (is_true hasCipher) authenticated encrypted out at plain))
    at (owes_seal_of authenticated encrypted)

unfoldable pub stage_two_across : Described → ℕ → ℕ → List ℕ → List ℕ → ℕ → List ℕ → ℕ → Across NtpLength
stage_two_across d version has_seal_of nonce ciphertext untrusted out at =
    of_write
    (on_version (version_of version) (refusing InvalidVersion out)
    (λ v. stage_two d v (is_true has_seal_of) nonce ciphertext untrusted out at))
