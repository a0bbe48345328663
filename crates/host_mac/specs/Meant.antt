-- What crosses to the host of a MAC: its key id, and how many bytes its body has.
use Rattle.std.specs.Prelude.{ℕ, Result, Ok, Err}
use Rattle.base_answers.specs.Meant.{number_of}
use Rattle.base_answers.specs.declared.Refusal.{Refusal}
use Rattle.mac.specs.declared.Mac.{Mac}
use Rattle.host_mac.specs.declared.NtpMac.{NtpMac}

abbrev pub mac_row : Result Mac Refusal → ℕ → NtpMac
mac_row (Ok m) body = record { number = 0; keyid = m.keyid; body_len = body }
mac_row (Err r) body = record { number = number_of r; keyid = 0; body_len = body }
