use Rattle.changeset_store.specs.Fork.{following_at}
use Rattle.path_conflict.specs.Places.{paths_of}
use Rattle.repo_machine.specs.Clashes.{edited_paths}
use Rattle.repo_machine.proofs.LandingPaths.{clashing_paths}
use Rattle.repo_machine.proofs.clashes.check_apart.Goals as goal

pub returns-in-Some-clause-apart : goal.returns-in-Some-clause-apart
returns-in-Some-clause-apart g c =
    let since = following_at c.args.store.now.known c.args.ancestor c.args.last in
    clashing_paths (paths_of c.args.paths.now) c.in_ok-outer.outer.items since (c.in_ok-outer.ensures.same_clash (edited_paths since))
    c.as_slice.result.now c.as_slice.ensures.value c.least_since.result c.least_since.ensures.best c.in-Some.met c.in-Some.is
    c.index.result.now c.index.ensures c.in_ok-left-in-Some.left c.in_ok-right-in-Some.right c.in_ok-left-in-Some.ensures c.in_ok-right-in-Some.ensures
