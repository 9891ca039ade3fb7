-- An accept whose failures code can see.
--     WatchedView A      the accept, and how many of its calls failed
--     IsWatched since failures now      its count of faults was `since` and is now this
use Rattle.std.specs.Prelude.{◌≡◌, ℕ, ◌<◌, ◌≤◌}
use Rattle.ports.specs.Faults.{Rose}

pub record WatchedView (A : Type 0) : Type 0 where
  pub accept : A
  pub failures : ℕ

pub record IsWatched (since failures now : ℕ) : Type 0 where
  pub grows : since ≤ now
  pub cause : 0 < failures → Rose since now
  pub still : failures ≡ 0 → now ≡ since
