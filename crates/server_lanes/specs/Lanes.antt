-- What contracts see of a tally and of a lane, and what a lane does.
--     TallyView      the parts of its ledgers, how many links were served, how many stored entries their sessions saw sealed, and how often it was told that no more will come
--     LaneView      a lane's seat, and its tally
--     IsAt site lane      the lane's seat is for this repository, and it has one part
--     HasRun before after      a lane at its seat served links until it was told that no more will come
--     IsDone site lane      so it is of a lane that was at this repository
--     TakesBack before count after      a lead has joined so many seats
use Rattle.std.specs.Prelude.{◌≡◌, ◌-◌, ◌<◌, ◌≤◌, ℕ}
use mathlib.Core.List.{IsPrefix}
use Rattle.history_model.specs.History.{entries_by}
use Rattle.bookmark_lock.specs.Place.{Place, Site, home_of}

pub record TallyView : Type 0 where
  pub parts : ℕ
  pub served : ℕ
  pub sealed : ℕ
  pub told : ℕ

pub record LaneView : Type 0 where
  pub place : Place
  pub tally : TallyView

pub record IsAt (site : Site) (lane : LaneView) : Type 0 where
  pub lock : lane.place.lock ≡ site
  pub part : lane.tally.parts ≡ 1
  pub seen : lane.tally.sealed ≤ lane.place.sealed

pub record HasRun (before after : LaneView) : Type 0 where
  pub home : home_of after.place ≡ home_of before.place
  pub part : after.tally.parts ≡ before.tally.parts
  pub told : 0 < after.tally.told
  -- what its sessions saw sealed, its seat has seen sealed
  pub seen : before.tally.sealed ≤ before.place.sealed → after.tally.sealed ≤ after.place.sealed

pub record IsDone (site : Site) (lane : LaneView) : Type 0 where
  pub lock : lane.place.lock ≡ site
  pub part : lane.tally.parts ≡ 1
  pub told : 0 < lane.tally.told
  pub seen : lane.tally.sealed ≤ lane.place.sealed

pub record TakesBack (before : Place) (count : ℕ) (after : Place) : Type 0 where
  pub lock : after.lock ≡ before.lock
  pub number : after.number ≡ before.number
  pub split : after.split ≡ before.split
  pub out : after.out ≡ before.out - count
  pub begins : IsPrefix before.front after.front
  -- it has made no entry
  pub own : entries_by before.number after.front ≡ entries_by before.number before.front
  pub seals : before.sealed ≤ after.sealed
