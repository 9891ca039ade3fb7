use Rattle.std.proofs.Common.{◌∙◌, arith}
use Rattle.derive_pool.proofs.Pages.{reads_on}
use Rattle.derive_pool.proofs.feed.Feed.read_pages.Goals as goal
use Rattle.derive_pool.proofs.feed.Feed.read_pages.Goals.{else-loop-test, then-loop-test+in-None}

pub loop-preserved : goal.loop-preserved
loop-preserved g c = record {
  header = c.read_page.ensures.header ∙ c.loop.invariant.header;
  number = c.read_page.ensures.number ∙ c.loop.invariant.number;
  home = c.read_page.ensures.home ∙ c.loop.invariant.home;
  seals = (let before = c.loop.invariant.seals in let more = c.read_page.ensures.seals in omega arith);
  pages = reads_on (λ place. g.S.Seat.replies place 0) (g.S.Seat.home c.args.seat.now) (g.S.Seat.home c.loop.seat) (g.S.Seat.header c.args.seat.now) (g.S.Seat.header c.loop.seat) (g.S.Seat.number c.args.seat.now) (g.S.Seat.number c.loop.seat) (g.S.Seat.front c.args.seat.now) c.self.inside.next (g.S.Seat.front c.loop.seat) c.loop.next (g.S.Seat.front c.read_page.new.seat) c.read_page.new.next
      c.loop.invariant.home c.loop.invariant.header c.loop.invariant.number c.loop.invariant.pages c.read_page.ensures.page;
}

pub returns-clause-pages : goal.returns-clause-pages
returns-clause-pages g c =
    elim c.loop-test.branch [
      | else-loop-test w ↦ rw (w.seat-is, w.next-is, ← c.self.view_is) c.loop.invariant.pages
      | then-loop-test+in-None w ↦ rw (w.seat-is, w.next-is, ← c.self.view_is) (reads_on (λ place. g.S.Seat.replies place 0) (g.S.Seat.home c.args.seat.now) (g.S.Seat.home c.loop.seat) (g.S.Seat.header c.args.seat.now) (g.S.Seat.header c.loop.seat) (g.S.Seat.number c.args.seat.now) (g.S.Seat.number c.loop.seat) (g.S.Seat.front c.args.seat.now) c.self.inside.next (g.S.Seat.front c.loop.seat) c.loop.next (g.S.Seat.front w.read_page.new.seat) w.read_page.new.next
          c.loop.invariant.home c.loop.invariant.header c.loop.invariant.number c.loop.invariant.pages w.read_page.ensures.page)
    ]
