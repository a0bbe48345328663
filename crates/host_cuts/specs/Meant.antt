-- What a judge says to a host: a bool. No list is the cut by the rules of another version than 4 and 5.
use Rattle.std.specs.Prelude.{Bool, false, List, ℕ}
use Rattle.host.specs.Meant.{version_of, on_version}
use Rattle.judge.specs.Model.{is_cut}

abbrev pub cut_across : List ℕ → ℕ → ℕ → List ℕ → List ℕ → Bool
cut_across packet header version offsets lengths =
    on_version (version_of version) false (λ v. is_cut packet header v offsets lengths)
