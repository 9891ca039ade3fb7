use Rattle.std.proofs.Common.{◌+◌, take, sym, subst, ap, ◌∙◌, arith}
use Rattle.path_conflict.specs.Places.{paths_of}
use Rattle.path_conflict.proofs.Walk.{in_paths, past_paths, length-paths_of}
use Rattle.path_conflict.proofs.Kept.{Keeps, path_at, next_left_out, next_put_in, paths_push, told, kept_all, same_clash}
use Rattle.path_conflict.proofs.outer.outermost.Goals as goal

pub loop-path-preserved-then-meets_last : goal.loop-path-preserved-then-meets_last
loop-path-preserved-then-meets_last c =
    let paths = c.args.paths.now in
    next_left_out (paths_of c.loop-path.outer.items) (paths_of paths) c.loop-path.path-index c.path-item.result.now (in_paths paths c.loop-path.path-index c.loop-path-test.true) (path_at paths c.loop-path.path-index c.path-item.result c.loop-path-test.true c.path-item.is) c.requires c.loop-path.invariant c.meets_last.result
    (told c.as_slice.result.now c.loop-path.outer.items c.path-item.result.now c.meets_last.result c.as_slice.ensures.value c.meets_last.ensures)
    c.if-meets_last.true

pub loop-path-preserved : goal.loop-path-preserved
loop-path-preserved c =
    let paths = c.args.paths.now in
    let items = c.loop-path.outer.items in
    let i = c.loop-path.path-index in
    subst (λ kept. Keeps kept (take (i + 1) (paths_of paths))) (sym (ap paths_of c.in_ok-push.ensures.items ∙ paths_push items c.path-item.result))
    (next_put_in (paths_of items) (paths_of paths) i c.path-item.result.now (in_paths paths i c.loop-path-test.true) (path_at paths i c.path-item.result c.loop-path-test.true c.path-item.is) c.requires c.loop-path.invariant c.meets_last.result
    (told c.as_slice.result.now items c.path-item.result.now c.meets_last.result c.as_slice.ensures.value c.meets_last.ensures)
    c.if-meets_last.false)

pub returns-clause-among : goal.returns-clause-among
returns-clause-among c =
    let paths = c.args.paths.now in
    (kept_all (paths_of c.loop-path.outer.items) (paths_of paths) c.loop-path.path-index (past_paths paths c.loop-path.path-index c.loop-path-test.false) c.loop-path.invariant).within

pub returns-clause-few : goal.returns-clause-few
returns-clause-few c =
    let paths = c.args.paths.now in
    let kept = (kept_all (paths_of c.loop-path.outer.items) (paths_of paths) c.loop-path.path-index (past_paths paths c.loop-path.path-index c.loop-path-test.false) c.loop-path.invariant).few in
    omega (arith, length-paths_of paths, length-paths_of c.loop-path.outer.items)

pub returns-clause-same_clash : goal.returns-clause-same_clash
returns-clause-same_clash c =
    let paths = c.args.paths.now in
    λ seen met best.
    same_clash (paths_of c.loop-path.outer.items) (paths_of paths) seen c.requires
    (kept_all (paths_of c.loop-path.outer.items) (paths_of paths) c.loop-path.path-index (past_paths paths c.loop-path.path-index c.loop-path-test.false) c.loop-path.invariant) met best
