use Rattle.std.proofs.Common.{◌+◌, ◌++◌, ◌∙◌, take, drop, sym, subst, refl}
use Rattle.repo_journal.proofs.Walks.{leaves_walk}
use Rattle.content_pieces.specs.Joining.{AreJoined}
use Rattle.content_pieces.proofs.Blocks.{walk_more, read_since}
use Rattle.content_pieces.proofs.Joins.{joined_then, split_here, take_here, told_apart, told_same}
use Rattle.content_pieces.proofs.joined.joined_id.Goals as goal

pub returns-in_default-clause-time : goal.returns-in_default-clause-time
returns-in_default-clause-time g c = λ honest. leaves_walk _ _ _ c.loop-piece.invariant.walked c.feed.ensures.looked (c.feed.ensures.time (c.loop-piece.invariant.walked.kept.honest ∙ honest)) honest

pub returns-then-ne-clause-time : goal.returns-then-ne-clause-time
returns-then-ne-clause-time g c = λ honest. leaves_walk _ _ _ c.loop-piece.invariant.walked c.feed.ensures.looked (c.feed.ensures.time (c.loop-piece.invariant.walked.kept.honest ∙ honest)) honest

pub returns-then-ne-clause-err : goal.returns-then-ne-clause-err
returns-then-ne-clause-err g c =
    let (joined, are_theirs, fed) = c.loop-piece.invariant.joined in
    let (bytes, is_read, found_is, fed_on) = c.in-Ok.ensures.ok in
    record {
      before = take c.loop-piece.piece-index c.args.pieces.now;
      other = c.piece-item.result;
      after = drop (c.loop-piece.piece-index + 1) c.args.pieces.now;
      parts = split_here c.args.pieces.now c.loop-piece.piece-index c.piece-item.result c.loop-piece-test.true c.piece-item.is;
      joined = joined;
      are_theirs = are_theirs;
      bytes = bytes;
      is_read = read_since c.args.journal.now (g.D.Disk.meaning c.args.disk.now) (g.D.Disk.meaning c.loop-piece.disk) c.piece-item.result bytes c.loop-piece.invariant.walked is_read;
      wanted_is = refl;
      found_is = found_is;
      differ = told_apart c.in-Ok.found c.piece-item.result.id c.ne.result c.ne.ensures c.if-ne.true;
    }

pub loop-piece-preserved : goal.loop-piece-preserved
loop-piece-preserved g c =
    let (joined, are_theirs, fed) = c.loop-piece.invariant.joined in
    let (bytes, is_read, found_is, fed_on) = c.in-Ok.ensures.ok in
    record {
      walked = walk_more _ _ _ c.loop-piece.invariant.walked c.feed.ensures.looked c.feed.ensures.kept c.feed.ensures.time c.in-Ok.ensures.faults;
      joined = (
        joined ++ bytes,
        subst (λ ps. AreJoined c.args.journal.now (g.D.Disk.meaning c.args.disk.now) ps (joined ++ bytes)) (take_here c.args.pieces.now c.loop-piece.piece-index c.piece-item.result c.loop-piece-test.true c.piece-item.is) (joined_then c.args.journal.now (g.D.Disk.meaning c.args.disk.now) (take c.loop-piece.piece-index c.args.pieces.now) c.piece-item.result joined bytes are_theirs (read_since c.args.journal.now (g.D.Disk.meaning c.args.disk.now) (g.D.Disk.meaning c.loop-piece.disk) c.piece-item.result bytes c.loop-piece.invariant.walked is_read) (sym found_is ∙ told_same c.in-Ok.found c.piece-item.result.id c.ne.result c.ne.ensures c.if-ne.false)),
        fed_on joined fed,
      );
    }
