use Rattle.std.proofs.Common.{arith, sym, ◌∙◌}
use Rattle.http_wire.proofs.HeadOutcomeLemmas.{fronts_more, fronts_all}
use Rattle.http_wire.proofs.cutting.head_len.Goals as goal

pub fronts-preserved : goal.fronts-preserved
fronts-preserved c = fronts_more c.args.bytes.now c.fronts.len c.fronts.invariant (sym c.ends_head_at.ensures ∙ c.if-ends_head_at.false)

pub returns-clause-none : goal.returns-clause-none
returns-clause-none c = λ _. let past = c.fronts-test.false in let limit = c.min-limit.ensures in fronts_all c.args.bytes.now c.fronts.len 16384 (omega arith) c.fronts.invariant
