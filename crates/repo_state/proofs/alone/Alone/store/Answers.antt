use Rattle.std.proofs.Common.{◌≤◌, ◌||◌, List, sym, ap, subst, ◌∙◌}
use Rattle.std.specs.Prelude.{Option}
use Rattle.std.proofs.lemmas.Result.{IfOk-at_ok, IfOk-weaker}
use Rattle.ports.specs.Faults.{Counts}
use Rattle.blob_disk.proofs.Clients.{kept_then}
use Rattle.bookmark_lock.specs.Opening.{Opening}
use Rattle.disk_model.specs.Calls.{Looked}
use Rattle.disk_model.specs.Meaning.{Meaning}
use Rattle.history_model.specs.History.{Entry}
use Rattle.repo_calls.specs.Calls.{call_seen, granted_seen}
use Rattle.repo_calls.specs.Asking.{is_disk_fault, is_unread}
use Rattle.repo_state.specs.AloneSteps.{IsStored, IsSealedFor}
use Rattle.repo_state.specs.Groups.{reach_of}
use Rattle.repo_state.specs.Images.{StandsNow}
use Rattle.repo_state.specs.Trees.{LandsAs}
use Rattle.repo_state.specs.declared.left.Left.{Left}
use Rattle.repo_state.proofs.AloneSteps.{either_counts, stored_leaves}
use Rattle.repo_state.proofs.Chains.{leaves_then}
use Rattle.repo_state.proofs.LeftOver.{idle_alone}
use Rattle.repo_state.proofs.alone.Alone.store.Given.{Over}
use Rattle.repo_state.proofs.alone.Alone.store.Goals as goal

stored : (g : Over) (c : goal.After-seal_stored g) → IsStored c.self.inside.state (call_seen c.args.ask.now) c.store-stored.result c.store-stored.new.self
stored g c =
    let s = c.self.inside.state in
    let e = c.store-stored.ensures in
    record {
      all = c.self.invariant;
      most = subst (λ k. s.sealed ≤ k) c.stored_length-stored.ensures.length c.stored_length-stored.ensures.most;
      undone = e.undone;
      header = e.header;
      sealed = e.sealed;
      left = e.left;
      idle = idle_alone _ s.history s.sealed _ s.left _ c.history_length-length.ensures.leaves_now c.self.invariant;
      broken = c.history_length-length.ensures.leaves_now.cut_is;
      replies = e.reply;
      core = e.core;
    }

change : (g : Over) (c : goal.After-seal_stored g) → IsSealedFor c.self.inside.state (call_seen c.args.ask.now) c.store-stored.new.self c.seal_stored.result c.seal_stored.new.self
change g c = c.seal_stored.ensures.change c.self.inside.state (call_seen c.args.ask.now) (stored g c)

pub invariant_of-self : goal.invariant_of-self
invariant_of-self g c = (change g c).all

pub returns-clause-reply : goal.returns-clause-reply
returns-clause-reply g c = rw (← c.self.view_is) (change g c).replies

pub returns-clause-same : goal.returns-clause-same
returns-clause-same g c = rw (← c.self.view_is) (λ single fine made. (change g c).same fine made ∙ c.store-stored.ensures.disk single)

pub returns-clause-looked : goal.returns-clause-looked
returns-clause-looked g c =
    let s = c.self.inside.state in
    rw (← c.self.view_is) (λ fine made. subst (λ (m : Meaning). Looked s.disk m) (sym ((change g c).same fine made)) c.store-stored.ensures.looked)

pub returns-clause-leaves : goal.returns-clause-leaves
returns-clause-leaves g c =
    let s = c.self.inside.state in
    let e = c.store-stored.ensures in
    let mid = c.store-stored.new.self in
    let new = c.seal_stored.new.self in
    let header = ap (λ (o : Opening). o.header) e.opening ∙ sym c.history_length-length.ensures.header in
    rw (← c.self.view_is)
    (λ honest.
    let still = e.kept.honest ∙ honest in
    leaves_then s.disk mid.disk new.disk e.kept
    (stored_leaves s (call_seen c.args.ask.now) c.store-stored.result mid new.history (stored g c) e.down
    (λ image is. subst (λ x. StandsNow x mid.history s.sealed (reach_of s.sealed s.left) image) header
    (subst (λ n. StandsNow mid.opening.header mid.history n (reach_of n s.left) image) e.sealed
    (subst (λ (o : Option Left). StandsNow mid.opening.header mid.history mid.sealed (reach_of mid.sealed o) image) e.left ((e.sound.leaves still).now image is))))
    (e.leaves honest))
    ((change g c).leaves still))

pub returns-clause-kept : goal.returns-clause-kept
returns-clause-kept g c = rw (← c.self.view_is) (kept_then c.self.inside.state.disk c.store-stored.new.self.disk c.seal_stored.new.self.disk c.store-stored.ensures.kept c.seal_stored.ensures.kept)

pub returns-clause-faults : goal.returns-clause-faults
returns-clause-faults g c =
    let s = c.self.inside.state in
    let mid = c.store-stored.new.self in
    let new = c.seal_stored.new.self in
    let stored = c.store-stored.result in
    let result = c.seal_stored.result in
    rw (← c.self.view_is)
    (subst (λ b. Counts s.disk.faults new.disk.faults (is_disk_fault result || b)) (sym c.seal_stored.ensures.unread)
    (either_counts s.disk.faults mid.disk.faults new.disk.faults (is_unread stored) (is_disk_fault result) c.store-stored.ensures.faults (change g c).faults))

pub returns-clause-lands : goal.returns-clause-lands
returns-clause-lands g c =
    let s = c.self.inside.state in
    let call = call_seen c.args.ask.now in
    let mid = c.store-stored.new.self in
    rw (← c.self.view_is)
    (IfOk-weaker c.seal_stored.result _ _
    (λ granted is. subst (λ (h : List Entry). LandsAs call (granted_seen granted) s.history h) (sym is.1) (IfOk-at_ok (λ granted. LandsAs call (granted_seen granted) s.history mid.history) is.0 c.store-stored.ensures.lands))
    c.seal_stored.ensures.granted)

pub returns-clause-core : goal.returns-clause-core
returns-clause-core g c = rw (← c.self.view_is) (change g c).core
