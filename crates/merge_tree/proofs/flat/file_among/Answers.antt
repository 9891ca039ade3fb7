use Rattle.std.proofs.Common.{true, false, sym, ◌∙◌}
use Rattle.merge_tree.proofs.Steps.{file_step}
use Rattle.merge_tree.proofs.flat.file_among.Goals as goal

pub returns-then-eq : goal.returns-then-eq
returns-then-eq c =
    sym (file_step c.args.path.now c.args.files.now c.loop-file.file-index c.file-item.result true c.loop-file-test.true c.file-item.is (sym c.eq.ensures ∙ c.if-eq.true)) ∙ c.loop-file.invariant

pub loop-file-preserved : goal.loop-file-preserved
loop-file-preserved c =
    sym (file_step c.args.path.now c.args.files.now c.loop-file.file-index c.file-item.result false c.loop-file-test.true c.file-item.is (sym c.eq.ensures ∙ c.if-eq.false)) ∙ c.loop-file.invariant
