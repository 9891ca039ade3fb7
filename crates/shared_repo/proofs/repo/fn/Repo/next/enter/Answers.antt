use Rattle.std.proofs.Common.{refl}
use Rattle.std.proofs.lemmas.Result.{IfOk-weaker}
use Rattle.shared_repo.proofs.repo.fn.Repo.next.enter.Goals as goal

pub returns : goal.returns
returns g c = record {
  same = c.next_in.ensures.same;
  opening = c.next_in.ensures.opening;
  sealed = c.next_in.ensures.sealed;
  disk = c.next_in.ensures.disk;
  reaches = c.next_in.ensures.reaches;
  none = refl;
  ok = IfOk-weaker c.next_in.result _ _ (λ next is. (c.args.state.now.table, is)) c.next_in.ensures.ok;
  err = c.next_in.ensures.err;
  front = c.next_in.ensures.front;
}
