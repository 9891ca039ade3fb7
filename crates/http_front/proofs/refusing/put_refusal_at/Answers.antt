use Rattle.std.proofs.Common.{false, subst}
use Rattle.std.specs.Prelude.{IsTrue}
use Rattle.http_front.proofs.Listing.{refusal_put_at}
use Rattle.http_front.proofs.refusing.put_refusal_at.Goals as goal

pub returns-else-is_memory : goal.returns-else-is_memory
returns-else-is_memory c =
    λ call. refusal_put_at c.args.refusal.now call c.args.at _ _ _ (λ is. let both : IsTrue false = subst IsTrue c.if-is_memory.false (c.is_memory.ensures.1 is) in cc) c.put_placed.ensures
