-- What is left of the numbers of a list.
use Rattle.std.specs.Prelude.{ℕ, ◌+◌, length}
use Rattle.std.specs.Option.{unwrap_or, option_map}
use Rattle.replay.specs.declared.numbers.Numbers.{Numbers}

-- nothing where all are taken, and else one more than the letters
abbrev pub left_in : Numbers → ℕ
left_in numbers = unwrap_or (option_map (λ text. length text.now + 1) numbers.left) 0
