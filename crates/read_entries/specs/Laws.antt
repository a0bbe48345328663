-- What was packed is unpacked.
use Rattle.std.specs.Prelude.{◌≡◌, ℕ, ◌+◌, ◌*◌, ◌/◌, ◌%◌, ◌<◌}
use Rattle.std.proofs.Common.{arith}
use Rattle.read_entries.specs.Model.{entry_of, unpacked}

pub unpacked_entry : (a b c d : ℕ) → a < 65536 → b < 65536 → c < 65536
    → unpacked (entry_of a b c d) ≡ record { first = a; second = b; third = c; fourth = d }
unfolding unpacked entry_of
unpacked_entry a b c d ha hb hc =
    let high = c + d * 65536 in
    let middle = b + high * 65536 in
    let first : (a + middle * 65536) % 65536 ≡ a = omega arith in
    let rest : (a + middle * 65536) / 65536 ≡ middle = omega arith in
    let second : middle % 65536 ≡ b = omega arith in
    let rest₂ : middle / 65536 ≡ high = omega arith in
    let third : high % 65536 ≡ c = omega arith in
    let fourth : high / 65536 ≡ d = omega arith in
    rw (first, rest, second, rest₂, third, fourth)
