use Rattle.http_wire.proofs.HeadOutcomeLemmas.{seen_is_head, refused_stands}
use Rattle.http_wire.proofs.head_outcome.read_head.Goals as goal

pub returns-in-Err-clause-first : goal.returns-in-Err-clause-first
returns-in-Err-clause-first c =
    let head = seen_is_head _ _ c.in-Some-parse.spans c.in-Some-parse.ensures.head c.in-Some-parse.ensures.whole in
    refused_stands c.args.bytes.now c.in-Some.len _ c.in-Err.refusal c.in-Some.ensures.end c.in-Some.ensures.fits head c.in-Err.ensures
