use Rattle.std.proofs.Common.{◌≡◌, ◌≤◌, take}
use Rattle.bookmark_lock.specs.Place.{home_of}
use Rattle.repo_calls.specs.Replying.{Honestly}
use Rattle.repo_calls.specs.Sealing.{SealedAfter}
use Rattle.stacked_calls.specs.Stacking.{calls_seen}
use Rattle.stacked_calls.specs.Chain.{AreGranted}
use Rattle.shared_repo.proofs.served.ServedStackSeat.change_all.Given as goal

-- those so far are granted
abbrev pub invariant-loop-ask : goal.invariant-loop-ask
invariant-loop-ask g l = record {
  place : l.at ≡ l.ask-index;
  granted : AreGranted (Honestly l.fn.self.lock.opening.honest (SealedAfter l.self.sealed)) l.fn.self.lock.opening.header l.fn.self.number l.fn.self.front (calls_seen (take l.at l.earlier)) l.self.front;
  home : home_of l.self ≡ home_of l.fn.self;
  seals : l.fn.self.sealed ≤ l.self.sealed;
}
