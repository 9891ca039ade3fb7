use Rattle.std.proofs.Common.{length, ◌∙◌, ap, map}
use Rattle.bonsai.proofs.Touched.{paths_view}
use Rattle.path_conflict.specs.Places.{paths_of}
use Rattle.repo_machine.proofs.Looking.{looked_further}
use Rattle.repo_machine.proofs.clashes.seen_down_to.Goals as goal

pub range-preserved : goal.range-preserved
range-preserved g c = record {
  ancestor_is = c.in-Some.ensures.ancestor;
  looked = λ last before h.
      looked_further c.args.store.now.known (paths_of c.args.outer.now) (length c.args.outer.now) c.args.ancestor last c.range.number c.in-Some.earlier c.range.least c.least_with-least.result
      before c.range.steps c.least_with-least.new.steps c.edits-edits.result.now (c.range.invariant.looked last before h) c.in-Some.ensures.ancestor c.in-Some.ensures.newest
      (paths_view c.edits-edits.result.now ∙ ap (map (λ e. e.0)) (c.edits-edits.ensures.edits ∙ ap (λ x. x.changes) (c.changeset.ensures ∙ c.at.ensures)))
      c.least_with-least.ensures.best c.least_with-least.ensures.counted c.least_with-least.ensures.cost;
}
