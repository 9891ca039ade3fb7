use Rattle.std.proofs.Common.{◌-◌, ◌<◌, ℕ, List, [], ◌∙◌, refl, sym, ap, subst, arith}
use Rattle.std.specs.Prelude.{Some}
use Rattle.history_model.specs.Journal.{size}
use Rattle.bookmark_lock.specs.Opening.{Opening}
use Rattle.follower.specs.Walking.{Reached}
use Rattle.follower.proofs.Causes.{rose_from}
use Rattle.follower.proofs.Stepping.{pages_end, pages_on}
use Rattle.follower.proofs.Walked.{begins}
use Rattle.follower.proofs.log_walk.follow_pages.Goals as goal

pub pages-init : goal.pages-init
pages-init g c =
    let own = g.R.OwnRepository in
    let opening = own.opening c.args.own.now in
    let h = own.history c.args.own.now in
    let n = own.sealed c.args.own.now in
    let rest = g.L.Link.rest c.args.link.now in
    record {
      reached = subst (λ (held : List ℕ). Reached opening h n [] [] rest h n [] held rest) (sym c.requires.empty) (begins opening h n [] [] rest);
      ready = c.requires.ready;
      opening = refl;
      opens = omega arith;
      link_faults = omega arith;
      disk_faults = omega arith;
    }

pub returns-in-Some-clause-followed : goal.returns-in-Some-clause-followed
returns-in-Some-clause-followed g c =
    let own = g.R.OwnRepository in
    pages_end (own.opening c.args.own.now) (own.opening c.pages.own) (own.history c.args.own.now) (own.history c.pages.own) (own.sealed c.args.own.now) (own.sealed c.pages.own) [] c.pages.inbox.held.items (g.L.Link.rest c.args.link.now) (g.L.Link.rest c.pages.link) c.pages.invariant.opening c.pages.invariant.reached
    (own.history c.turn.new.own) (own.sealed c.turn.new.own) c.in-Some.end c.in-Some.ensures.goes

pub pages-smaller : goal.pages-smaller
pages-smaller g c =
    let own = g.R.OwnRepository in
    subst (λ (opening : Opening). opening.header.capacity - size (own.history c.turn.new.own) < opening.header.capacity - size (own.history c.pages.own)) c.pages.invariant.opening c.in-None.ensures.goes.less

pub pages-preserved : goal.pages-preserved
pages-preserved g c =
    let own = g.R.OwnRepository in
    let open0 = c.pages.invariant.opens in
    let open1 = c.turn.ensures.opens in
    let link0 = c.pages.invariant.link_faults in
    let link1 = c.turn.ensures.link_faults in
    let disk0 = c.pages.invariant.disk_faults in
    let disk1 = c.turn.ensures.disk_faults in
    record {
      reached = pages_on (own.opening c.args.own.now) (own.opening c.pages.own) (own.history c.args.own.now) (own.history c.pages.own) (own.sealed c.args.own.now) (own.sealed c.pages.own) [] c.pages.inbox.held.items (g.L.Link.rest c.args.link.now) (g.L.Link.rest c.pages.link) c.pages.invariant.opening c.pages.invariant.reached
          (own.history c.turn.new.own) (own.sealed c.turn.new.own) c.turn.new.inbox.held.items (g.L.Link.rest c.turn.new.link) c.in-None.ensures.goes;
      ready = c.turn.ensures.ready;
      opening = c.turn.ensures.opening ∙ c.pages.invariant.opening;
      opens = omega arith;
      link_faults = omega arith;
      disk_faults = omega arith;
    }

pub returns-in-Some-clause-link_cause : goal.returns-in-Some-clause-link_cause
returns-in-Some-clause-link_cause g c = λ is.
    rose_from (g.L.Link.faults c.args.link.now) (g.L.Link.faults c.pages.link) (g.L.Link.faults c.turn.new.link) c.pages.invariant.link_faults (c.in-Some.ensures.link_cause (ap Some is))

pub returns-in-Some-clause-disk_cause : goal.returns-in-Some-clause-disk_cause
returns-in-Some-clause-disk_cause g c = λ is.
    rose_from (g.R.OwnRepository.faults c.args.own.now) (g.R.OwnRepository.faults c.pages.own) (g.R.OwnRepository.faults c.turn.new.own) c.pages.invariant.disk_faults (c.in-Some.ensures.disk_cause (ap Some is))

pub returns-in-Some-clause-version : goal.returns-in-Some-clause-version
returns-in-Some-clause-version g c = λ is. c.in-Some.ensures.version (ap Some is)
