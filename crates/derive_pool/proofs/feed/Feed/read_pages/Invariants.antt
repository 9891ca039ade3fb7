use Rattle.std.proofs.Common.{◌≡◌, ◌≤◌, List}
use Rattle.reply_model.specs.After.{Answer}
use Rattle.derive_pool.specs.Pages.{ReadsPages}
use Rattle.derive_pool.proofs.feed.Feed.read_pages.Given as goal

abbrev pub invariant-loop : goal.invariant-loop
invariant-loop g l = record {
  header : g.S.Seat.header l.seat ≡ g.S.Seat.header l.initial.seat;
  number : g.S.Seat.number l.seat ≡ g.S.Seat.number l.initial.seat;
  home : g.S.Seat.home l.seat ≡ g.S.Seat.home l.initial.seat;
  seals : g.S.Seat.sealed l.initial.seat ≤ g.S.Seat.sealed l.seat;
  pages : (answers : List Answer) × ReadsPages (g.S.Seat.replies (g.S.Seat.home l.initial.seat) 0) (g.S.Seat.header l.initial.seat) (g.S.Seat.number l.initial.seat) (g.S.Seat.front l.initial.seat) l.initial.next answers (g.S.Seat.front l.seat) l.next;
}
