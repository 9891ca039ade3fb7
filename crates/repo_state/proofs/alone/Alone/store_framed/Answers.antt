use Rattle.std.proofs.Common.{◌≤◌, IsTrue, subst, ◌∙◌}
use Rattle.ports.specs.Faults.{Counts}
use Rattle.disk_model.specs.Calls.{Kept}
use Rattle.disk_model.specs.Meaning.{Meaning}
use Rattle.reply_model.specs.After.{Asks}
use Rattle.reply_model.specs.Reply.{PutContent}
use Rattle.repo_calls.specs.Asking.{is_disk_fault}
use Rattle.repo_state.specs.AloneSteps.{IsStored, IsSealedFor}
use Rattle.repo_state.specs.Images.{LeavesChange}
use Rattle.repo_state.proofs.LeftOver.{idle_alone}
use Rattle.repo_state.proofs.alone.Alone.store_framed.Given.{Over}
use Rattle.repo_state.proofs.alone.Alone.store_framed.Goals as goal

stored : (g : Over) (c : goal.After-seal_stored g) → IsStored c.self.inside.state (Asks (PutContent c.args.content)) c.store_framed-entered.result c.store_framed-entered.new.self
stored g c =
    let s = c.self.inside.state in
    let e = c.store_framed-entered.ensures in
    record {
      all = c.self.invariant;
      most = subst (λ k. s.sealed ≤ k) c.stored_length-stored.ensures.length c.stored_length-stored.ensures.most;
      undone = e.undone;
      header = e.header;
      sealed = e.sealed;
      left = e.left;
      idle = idle_alone _ s.history s.sealed _ s.left _ c.history_length-length.ensures.leaves_now c.self.invariant;
      broken = c.history_length-length.ensures.leaves_now.cut_is;
      replies = e.reply;
      core = e.core;
    }

change : (g : Over) (c : goal.After-seal_stored g) → IsSealedFor c.self.inside.state (Asks (PutContent c.args.content)) c.store_framed-entered.new.self c.seal_stored.result c.seal_stored.new.self
change g c = c.seal_stored.ensures.change c.self.inside.state (Asks (PutContent c.args.content)) (stored g c)

pub invariant_of-self : goal.invariant_of-self
invariant_of-self g c = (change g c).all

pub returns-clause-reply : goal.returns-clause-reply
returns-clause-reply g c = rw (← c.self.view_is) (change g c).replies

pub returns-clause-same : goal.returns-clause-same
returns-clause-same g c = rw (← c.self.view_is) (λ fine made. (change g c).same fine made ∙ c.store_framed-entered.ensures.disk)

pub returns-clause-leaves : goal.returns-clause-leaves
returns-clause-leaves g c =
    let s = c.self.inside.state in
    let new = c.seal_stored.new.self in
    rw (← c.self.view_is) (subst (λ (m : Meaning). IsTrue m.honest → LeavesChange s.header s.history new.history m new.disk) c.store_framed-entered.ensures.disk (change g c).leaves)

pub returns-clause-kept : goal.returns-clause-kept
returns-clause-kept g c = rw (← c.self.view_is) (subst (λ m. Kept m c.seal_stored.new.self.disk) c.store_framed-entered.ensures.disk c.seal_stored.ensures.kept)

pub returns-clause-faults : goal.returns-clause-faults
returns-clause-faults g c =
    let new = c.seal_stored.new.self in
    rw (← c.self.view_is) (subst (λ (m : Meaning). Counts m.faults new.disk.faults (is_disk_fault c.seal_stored.result)) c.store_framed-entered.ensures.disk (change g c).faults)

pub returns-clause-core : goal.returns-clause-core
returns-clause-core g c = rw (← c.self.view_is) (change g c).core
