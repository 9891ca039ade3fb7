use Rattle.std.proofs.Common.{[], ap, ◌∙◌}
use Rattle.history_model.specs.History.{known}
use Rattle.history_model.specs.Tree.{files_of}
use Rattle.manifest_model.specs.Fsnode.{fsnode, fsnode_id}
use Rattle.repo_machine.specs.declared.counts.Counts.{Counts}
use Rattle.run_gen.proofs.summary.sum_up.Goals as goal

pub returns-clause-sums : goal.returns-clause-sums
returns-clause-sums g c = record {
  landed = ap (λ (k : Counts). k.landings) c.counts-counts.ensures;
  entries = ap (λ (k : Counts). k.entries) c.counts-counts.ensures;
  at = c.in_ok-head.head;
  head_is = c.in_ok-head.ensures.head;
  root = c.in_ok-root.ensures.root ∙ ap (λ h. fsnode_id (fsnode (files_of (known h) c.in_ok-head.head) [])) c.head_of.ensures.same;
}
