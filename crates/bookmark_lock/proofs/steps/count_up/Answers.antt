use Rattle.std.proofs.Common.{◌+◌, ◌%◌, ◌^◌, arith}
use Rattle.bookmark_lock.proofs.Moves.{passes}
use Rattle.bookmark_lock.proofs.steps.count_up.Goals as goal

pub fetch_add-requires : goal.fetch_add-requires
fetch_add-requires g c = (
  c.requires.place.0,
  (let w = c.requires.place.1.words in let r = c.requires.counts.1 in omega arith),
  passes g.T.Recorded.history g.T.Recorded.opening g.T.Recorded.sealed g.T.Recorded.reach g.T.Recorded.disk g.T.Recorded.most c.args.board.now.key.value _ _ c.args.seat.now.me c.args.word (λ n. (n + 1) % 2 ^ 64) c.requires.counts.0,
)
