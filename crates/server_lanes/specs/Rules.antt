-- What is always so of a door that lanes take links from.
--     DoorView A      what contracts see of a door: its accept, how many links it gave and may give, whether it is through, and how often that was told
--     IsKept most before failed connections given through told links gave over faults
--         the door of a run that may take `most` links, whose accept had given `before` and failed `failed` times when it began
use Rattle.std.specs.Prelude.{◌≡◌, ◌<◌, ◌≤◌, ℕ, Bool, true, false}
use Rattle.server_lanes.specs.Serving.{Gave, IsThrough}

pub record DoorView (A : Type 0) : Type 0 where
  pub accept : A
  pub connections : ℕ
  pub given : ℕ
  pub through : Bool
  pub told : ℕ

-- links: the total of their ledger;  gave, over, faults: of the accept now
pub record IsKept (most before failed connections given : ℕ) (through : Bool) (told links gave : ℕ) (over : Bool) (faults : ℕ) : Type 0 where
  pub most_is : connections ≡ most
  pub counted : links ≡ given
  pub few : given ≤ connections
  pub room : through ≡ false → given < connections
  pub gave_is : Gave given before gave
  pub grows : failed ≤ faults
  pub shut : through ≡ true → IsThrough given connections over failed faults
  pub told_so : 0 < told → through ≡ true
