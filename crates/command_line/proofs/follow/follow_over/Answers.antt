use Rattle.std.proofs.Common.{refl, ap, subst, ◌∙◌}
use Rattle.bookmark_lock.specs.Opening.{Opening}
use Rattle.repo_state.specs.State.{IsSound, reach}
use Rattle.command_line.specs.Followed.{report_of}
use Rattle.command_line.proofs.Followed.{is_current}
use Rattle.command_line.proofs.follow.follow_over.Goals as goal

pub returns : goal.returns
returns g c =
    let done = c.follow-followed in
    record {
      after = done.new.link;
      left_is = refl;
      end = done.result.end;
      history = done.new.state.history;
      sealed = done.new.state.sealed;
      followed = done.ensures.followed;
      reach = reach done.new.state;
      sound = subst (λ (o : Opening). IsSound o done.new.state.history done.new.state.sealed (reach done.new.state) done.new.state.disk) done.ensures.opening done.ensures.sound;
      report_is = c.report_of.ensures ∙ ap (λ n. report_of n done.result.end) done.ensures.entries;
      current = is_current _ done.result.end c.requires (λ is. done.ensures.version.0 is);
      link_fault = done.ensures.link_cause;
      disk_fault = done.ensures.disk_cause;
    }
