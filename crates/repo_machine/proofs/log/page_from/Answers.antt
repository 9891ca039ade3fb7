use Rattle.std.proofs.Common.{ap, take, drop, ◌∙◌, ◌+◌, ◌-◌, ◌≡◌, arith}
use Rattle.repo_machine.proofs.Logging.{page_is}
use Rattle.repo_machine.proofs.log.page_from.Goals as goal

pub returns-clause-page : goal.returns-clause-page
returns-clause-page c =
    let count : c.min-start.result + c.min-count.result - c.min-start.result ≡ c.min-count.result = omega arith in
    ap (λ n. take n (drop c.min-start.result c.args.kept.now)) count ∙ page_is c.args.kept.now c.args.from c.min-start.result c.min-count.result c.min-start.ensures c.min-count.ensures
