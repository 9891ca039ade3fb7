use Rattle.std.proofs.Common.{◌≡◌, ◌≤◌, ◌-◌, []}
use Rattle.history_model.specs.Journal.{size}
use Rattle.follower.specs.Receiving.{IsReady}
use Rattle.follower.specs.Walking.{Reached}
use Rattle.follower.proofs.log_walk.follow_pages.Given as goal

abbrev pub invariant-pages : goal.invariant-pages
invariant-pages g l =
    let own = g.R.OwnRepository in
    let rest = g.L.Link.rest in
    record {
      reached : Reached (own.opening l.fn.own) (own.history l.fn.own) (own.sealed l.fn.own) [] [] (rest l.fn.link) (own.history l.own) (own.sealed l.own) [] l.inbox.held.items (rest l.link);
      ready : IsReady l.inbox;
      opening : own.opening l.own ≡ own.opening l.fn.own;
      opens : own.open_to l.own ≤ own.open_to l.fn.own;
      link_faults : g.L.Link.faults l.fn.link ≤ g.L.Link.faults l.link;
      disk_faults : own.faults l.fn.own ≤ own.faults l.own;
    }

abbrev pub decreases-pages : goal.decreases-pages
decreases-pages g l = (g.R.OwnRepository.opening l.fn.own).header.capacity - size (g.R.OwnRepository.history l.own)
