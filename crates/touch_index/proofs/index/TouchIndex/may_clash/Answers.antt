use Rattle.touch_index.proofs.Asking.{one_out, all_out}
use Rattle.touch_index.proofs.index.TouchIndex.may_clash.Goals as goal

pub paths-preserved : goal.paths-preserved
paths-preserved g c =
    one_out (g.R.Range.contains c.args.range.now) c.args.above c.args.self.now c.args.paths.now c.paths.path-index c.path-item.result c.paths-test.true c.path-item.is c.paths.invariant (c.may_touch.ensures c.if-may_touch.false)

pub returns : goal.returns
returns g c = λ no. all_out (g.R.Range.contains c.args.range.now) c.args.above c.args.self.now c.args.paths.now c.paths.path-index c.paths-test.false c.paths.invariant
