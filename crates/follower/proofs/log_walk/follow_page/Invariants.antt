use Rattle.std.proofs.Common.{◌≡◌, ◌≤◌, drop}
use Rattle.repo_calls.specs.Calls.{lines_seen}
use Rattle.follower.specs.Making.{HasGrown}
use Rattle.follower.specs.Receiving.{IsReady}
use Rattle.follower.specs.Walking.{Reached}
use Rattle.follower.proofs.log_walk.follow_page.Given as goal

abbrev pub invariant-entries : goal.invariant-entries
invariant-entries g l =
    let own = g.R.OwnRepository in
    let rest = g.L.Link.rest in
    record {
      reached : Reached (own.opening l.fn.own) (own.history l.fn.own) (own.sealed l.fn.own) (lines_seen l.entries) l.fn.inbox.held.items (rest l.fn.link) (own.history l.own) (own.sealed l.own) (lines_seen (drop l.entry-index l.entries)) l.inbox.held.items (rest l.link);
      grown : HasGrown (own.opening l.fn.own).header (own.history l.fn.own) (own.history l.own) l.entry-index;
      ready : IsReady l.inbox;
      opening : own.opening l.own ≡ own.opening l.fn.own;
      opens : own.open_to l.own ≤ own.open_to l.fn.own;
      link_faults : g.L.Link.faults l.fn.link ≤ g.L.Link.faults l.link;
      disk_faults : own.faults l.fn.own ≤ own.faults l.own;
    }
