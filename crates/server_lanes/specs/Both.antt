-- What is left of a list whose places were worked on.
--     IsWorked f before after      each place has what a call of f left of it
use Rattle.std.specs.Prelude.{ℕ, List}
use denote.Ref.{MutBor}
use denote.Param.Members.{Shared}
use Rattle.std.specs.Fork.{ChangesEach}

pub record IsWorked {F T : Type 0} (calls : Shared F (ℕ × (MutBor T × Unit {0})) ((Unit {0}) × (MutBor T × Unit {0}))) (f : F) (before after : List T) : Type 0 where
  pub each : ChangesEach calls f before after
