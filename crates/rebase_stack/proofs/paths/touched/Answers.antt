use Rattle.std.proofs.Common.{◌++◌, map, sym, subst, ap, ◌∙◌}
use Rattle.std.specs.Prelude.{flat_map}
use Rattle.std.proofs.lemmas.List.{take_all}
use Rattle.changeset_model.specs.Path.{IsRising, rising}
use Rattle.changeset_model.proofs.Rising.{touched_paths_rise}
use Rattle.bonsai.proofs.Touched.{paths_view}
use Rattle.rebase_stack.proofs.Rising.{settled}
use Rattle.rebase_stack.proofs.Rewriting.{edits_of_one_more}
use Rattle.rebase_stack.proofs.paths.touched.Goals as goal

pub loop-changeset-preserved : goal.loop-changeset-preserved
loop-changeset-preserved c =
    let old = map (λ p. p.now) c.loop-changeset.paths.items in
    c.in_ok-push_paths.ensures
    ∙ ap (λ ps. old ++ ps) (paths_view c.edits.result.now ∙ ap (map (λ e. e.0)) c.edits.ensures.edits)
    ∙ ap (λ ps. ps ++ map (λ e. e.0) c.changeset-item.result.now.changes) c.loop-changeset.invariant
    ∙ sym (edits_of_one_more c.args.stack.now c.loop-changeset.changeset-index c.changeset-item.result c.loop-changeset-test.true c.changeset-item.is)

pub returns-clause-touched : goal.returns-clause-touched
returns-clause-touched c =
    settled c.loop-changeset.paths.items c.sort.new.self.items c.dedup.new.self.items c.in_ok-sort.ensures.permutation c.in_ok-sort.ensures.sorted c.dedup.ensures.filtered
    ∙ ap rising (c.loop-changeset.invariant ∙ ap (λ cs. flat_map (λ c. map (λ e. e.0) c.changes) (map (λ c. c.now) cs)) (take_all c.loop-changeset.changeset-index c.args.stack.now c.loop-changeset-test.false))

pub returns-clause-rising : goal.returns-clause-rising
returns-clause-rising c = subst IsRising (sym (returns-clause-touched c)) (touched_paths_rise (map (λ c. c.now) c.args.stack.now))
