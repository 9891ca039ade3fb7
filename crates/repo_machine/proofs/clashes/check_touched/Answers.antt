use Rattle.std.proofs.Common.{map, sym, ap, subst, ◌∙◌}
use Rattle.changeset_model.specs.Path.{IsRising}
use Rattle.changeset_model.proofs.Rising.{touched_paths_rise}
use Rattle.changeset_store.specs.Fork.{fork_between}
use Rattle.repo_machine.proofs.clashes.check_touched.Goals as goal

pub check_apart-requires-clause-rising : goal.check_apart-requires-clause-rising
check_apart-requires-clause-rising g c =
    subst IsRising (sym (ap (map (λ p. p.now)) c.as_slice.ensures.value ∙ c.in_ok-paths.ensures ∙ c.requires.touched)) (touched_paths_rise (fork_between c.args.store.now.known c.args.fork.now).stack)
