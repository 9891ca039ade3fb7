-- Which end comes of what.
use Rattle.std.proofs.Common.{◌≡◌, ◌≢◌, ◌≤◌, ℕ, Bool, true, false, refl, ap, inl, inr, arith}
use Rattle.std.specs.Prelude.{Some, unwrap_or, ◌==◌, if◌then◌else◌}
use Rattle.ports.specs.Faults.{Rose}
use Rattle.follower.specs.declared.followed.FollowEnd.{FollowEnd}
use Rattle.follower.specs.declared.followed.FollowEnd.TheVariants as ends
use Rattle.follower.specs.declared.inbox.HearFault.{HearFault}
use Rattle.follower.specs.declared.inbox.HearFault.TheVariants.{LinkFault, BadReply, Memory}
use Rattle.follower.specs.declared.replayed.Replayed.{Replayed}
use Rattle.follower.specs.declared.replayed.Replayed.TheVariants as replays
use Rattle.follower.specs.Walking.{heard_end, page_end, replayed_end}

pub some_is : {end other : FollowEnd} → Some end ≡ Some other → end ≡ other
some_is {end} {other} is = ap (λ e. unwrap_or e end) is

-- ---- where nothing was heard

pub heard_link : (number : ℕ) (fault : HearFault) → heard_end number fault ≡ ends.LinkFault → fault ≡ LinkFault
heard_link number LinkFault is = refl
heard_link number BadReply is = absurd cc
heard_link number Memory is = absurd cc

pub heard_disk : (number : ℕ) (fault : HearFault) → heard_end number fault ≢ ends.DiskFault
heard_disk number LinkFault = λ is. absurd cc
heard_disk number BadReply = λ is. absurd cc
heard_disk number Memory = λ is. absurd cc

pub heard_old : (number : ℕ) (fault : HearFault) → heard_end number fault ≢ ends.OldFormat
heard_old number LinkFault = λ is. absurd cc
heard_old number BadReply = λ is. absurd cc
heard_old number Memory = λ is. absurd cc

-- ---- where an entry was replayed

pub replayed_link : (number : ℕ) (replayed : Replayed) → replayed_end number replayed ≢ Some ends.LinkFault
replayed_link number replays.Same = λ is. absurd cc
replayed_link number replays.Differs = λ is. absurd cc
replayed_link number replays.Full = λ is. absurd cc
replayed_link number replays.DiskFault = λ is. absurd cc
replayed_link number replays.Memory = λ is. absurd cc

pub replayed_disk : (number : ℕ) (replayed : Replayed) → replayed_end number replayed ≡ Some ends.DiskFault → replayed ≡ replays.DiskFault
replayed_disk number replays.Same is = absurd cc
replayed_disk number replays.Differs is = absurd cc
replayed_disk number replays.Full is = absurd cc
replayed_disk number replays.DiskFault is = refl
replayed_disk number replays.Memory is = absurd cc

pub replayed_old : (number : ℕ) (replayed : Replayed) → replayed_end number replayed ≢ Some ends.OldFormat
replayed_old number replays.Same = λ is. absurd cc
replayed_old number replays.Differs = λ is. absurd cc
replayed_old number replays.Full = λ is. absurd cc
replayed_old number replays.DiskFault = λ is. absurd cc
replayed_old number replays.Memory = λ is. absurd cc

-- ---- at a page without entries

pub page_link : (number total : ℕ) → page_end number total ≢ ends.LinkFault
page_link number total = by (total == number)
  where
    by : (b : Bool) → (if b then ends.Same else ends.Differs total) ≢ ends.LinkFault
    by true = λ is. absurd cc
    by false = λ is. absurd cc

pub page_disk : (number total : ℕ) → page_end number total ≢ ends.DiskFault
page_disk number total = by (total == number)
  where
    by : (b : Bool) → (if b then ends.Same else ends.Differs total) ≢ ends.DiskFault
    by true = λ is. absurd cc
    by false = λ is. absurd cc

pub page_old : (number total : ℕ) → page_end number total ≢ ends.OldFormat
page_old number total = by (total == number)
  where
    by : (b : Bool) → (if b then ends.Same else ends.Differs total) ≢ ends.OldFormat
    by true = λ is. absurd cc
    by false = λ is. absurd cc

-- ---- counts of faults

pub rose_from : (before between after : ℕ) → before ≤ between → Rose between after → Rose before after
rose_from before between after less (inl rose) = inl (omega (arith, less, rose))
rose_from before between after less (inr most) = inr most
