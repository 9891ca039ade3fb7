use Rattle.std.specs.Prelude.{All, IfErr, OnOk, Ok, Err}
use Rattle.std.proofs.Common.{◌≡◌, ℕ, ◌+◌, ◌<◌, ◌≤◌, List, length, get_or, refl, ap, sym, subst, ◌∙◌, arith}
use Rattle.history_model.specs.History.{Entry}
use Rattle.bookmark_lock.specs.Place.{Place, Site}
use Rattle.repo_machine.specs.Seats.{cleared}
use Rattle.bookmark_lock.specs.Opening.{Opening}
use Rattle.repo_state.specs.State.{HasNoFault, IsQuiet}
use Rattle.run_gen.specs.Joining.{IsOf, seats_of}
use Rattle.run_gen.specs.declared.crew.Finished.{Finished}
use Rattle.run_gen.proofs.Crews.{begun_of, leaves, places}
use Rattle.run_gen.proofs.loading.run.Goals as goal

pub join_all-requires-clause-places : goal.join_all-requires-clause-places
join_all-requires-clause-places g c =
    let first = c.in-Ok.lead in
    let lock = ap (λ (p : Place). p.lock) c.in-Ok.ensures.lead in
    subst (λ (site : Site). All (IsOf site) c.in_ok-finished.finished.items) lock
    (places first c.args.clients c.args.seed c.args.stacks c.in_ok-all.all.items c.in_ok-finished.finished.items c.in_ok-all.ensures.clients c.in_ok-all.ensures.len c.in_ok-finished.ensures.len c.in_ok-finished.ensures.did)

pub returns-clause-leaves : goal.returns-clause-leaves
returns-clause-leaves g c =
    let first = c.in-Ok.lead in
    let fin = c.in_ok-finished.finished.items in
    let before = c.split_all.new.lead in
    let now = c.join_all.new.lead in
    let lead_is = c.in-Ok.ensures.lead in
    let split_is = c.in_ok-all.ensures.lead in
    let front = ap (λ (p : Place). p.front) lead_is ∙ ap cleared c.in_ok-state.ensures.led.history in
    let none = ap (λ (p : Place). p.split) lead_is in
    let plain : 0 + c.args.clients ≡ c.args.clients = omega arith in
    let most = c.join_all.ensures.split ∙ ap (λ (p : Place). p.split) split_is ∙ ap (λ n. n + c.args.clients) none ∙ plain in
    let numbers = subst (λ (t : ℕ × List Entry). All (λ (e : Entry). e.who ≤ t.0) t.1) (λ i. (most i, c.close.ensures.history i)) c.close.ensures.recorded in
    let begun = begun_of c.args.clients before now (seats_of fin) now.front c.join_all.ensures (ap (λ (p : Place). p.front) split_is ∙ front) (ap (λ (p : Place). p.number) split_is ∙ ap (λ (p : Place). p.number) lead_is) refl numbers in
    let quiet = subst IsQuiet (sym (c.close.ensures.opening ∙ c.in-Ok.ensures.opening)) c.in_ok-state.ensures.led.quiet in
    let calm = subst HasNoFault c.close.ensures.history (c.close.ensures.front.calm quiet) in
    let outcome = c.outcome_of-outcome.result in
    let ok = subst (λ (fs : List Finished). OnOk outcome (All (λ (f : Finished). f.outcome ≡ Ok tt) fs)) c.as_slice.ensures.value c.outcome_of-outcome.ensures.ok in
    let err = subst (λ (fs : List Finished). IfErr outcome (λ fault. (k : ℕ) × (k < length fs) × ((d : Finished) → (get_or fs k d).outcome ≡ Err fault))) c.as_slice.ensures.value c.outcome_of-outcome.ensures.err in
    leaves first c.args.clients c.args.seed c.args.stacks c.in_ok-all.all.items fin c.in_ok-all.ensures.clients c.in_ok-all.ensures.len c.in_ok-finished.ensures.len c.in_ok-finished.ensures.did front none now c.join_all.ensures.each now.front refl calm begun
    outcome ok err c.close.result c.close.ensures.history (ap (λ (o : Opening). o.header) c.close.ensures.opening ∙ sym (ap (λ (p : Place). p.lock.opening.header) lead_is))
