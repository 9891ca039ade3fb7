use Rattle.reply_reader.proofs.Fronts.{front_whole, front_found, front_unfinished, front_bound, front_bad, front_early, front_cause}
use Rattle.reply_reader.proofs.front.read_reply.Goals as goal

pub returns-clause-whole : goal.returns-clause-whole
returns-clause-whole c = front_whole c.args.limit c.args.bytes.now c.stand_first.result c.stand_first.ensures

pub returns-clause-found : goal.returns-clause-found
returns-clause-found c = front_found c.args.limit c.args.bytes.now c.stand_first.result c.stand_first.ensures

pub returns-clause-unfinished : goal.returns-clause-unfinished
returns-clause-unfinished c = front_unfinished c.args.limit c.args.bytes.now c.stand_first.result c.stand_first.ensures

pub returns-clause-bound : goal.returns-clause-bound
returns-clause-bound c = front_bound c.args.limit c.args.bytes.now c.stand_first.result c.stand_first.ensures

pub returns-clause-bad : goal.returns-clause-bad
returns-clause-bad c = front_bad c.args.limit c.args.bytes.now c.stand_first.result c.stand_first.ensures

pub returns-clause-early : goal.returns-clause-early
returns-clause-early c = front_early c.args.limit c.args.bytes.now c.stand_first.result c.stand_first.ensures

pub returns-clause-cause : goal.returns-clause-cause
returns-clause-cause c = front_cause c.args.limit c.args.bytes.now c.stand_first.result c.stand_first.ensures
