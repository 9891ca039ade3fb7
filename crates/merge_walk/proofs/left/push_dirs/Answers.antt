use Rattle.std.proofs.Common.{◌∙◌}
use Rattle.fsnode.specs.Parts.{child_seen}
use Rattle.merge_walk.specs.Left.{dir_in}
use Rattle.merge_walk.specs.View.{dirs_seen}
use Rattle.merge_walk.proofs.Lookup.{gathered, all_gathered}
use Rattle.merge_walk.proofs.left.push_dirs.Goals as goal

pub loop-child-preserved : goal.loop-child-preserved
loop-child-preserved c = gathered (dir_in c.args.path.now) child_seen c.args.entries.now c.loop-child.child-index c.child-item.result (dirs_seen c.loop-child.rest.items) (dirs_seen c.push_dir.new.rest.items) c.loop-child-test.true c.child-item.is c.in_ok-push_dir.ensures ∙ c.loop-child.invariant

pub returns : goal.returns
returns c = all_gathered (dir_in c.args.path.now) child_seen c.args.entries.now c.loop-child.child-index (dirs_seen c.loop-child.rest.items) _ c.loop-child-test.false c.loop-child.invariant
