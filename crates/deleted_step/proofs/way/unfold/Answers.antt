use Rattle.std.proofs.Common.{◌≡◌, Some, refl, sym, ap, ◌∙◌}
use Rattle.std.specs.Prelude.{if◌then◌else◌}
use Rattle.std.specs.BTreeMap.{get, is_at}
use Rattle.changeset_model.specs.Path.{path_cmp}
use Rattle.manifest_model.specs.Deleted.{deleted}
use Rattle.deleted_step.specs.declared.fault.StepFault.TheVariants.{Memory}
use Rattle.deleted_step.specs.declared.unfolded.Unfolded.{Unfolded}
use Rattle.deleted_step.specs.Texts.{dir_of}
use Rattle.deleted_step.specs.Opened.{IsOf}
use Rattle.deleted_step.proofs.Unfolding.{answer_is, fault_is, led_to, now_unfolded, was_unfolded}
use Rattle.deleted_step.proofs.way.unfold.Goals as goal

pub returns-then-contains_key-clause-unfolded : goal.returns-then-contains_key-clause-unfolded
returns-then-contains_key-clause-unfolded g c = λ first ls held are.
    was_unfolded first ls (dir_of c.args.above) c.args.name.now c.args.unfolded.now c.args.here.now c.requires.here are (sym c.contains_key.ensures ∙ c.if-contains_key.true)

pub returns-in-Err-clause-unfolded : goal.returns-in-Err-clause-unfolded
returns-in-Err-clause-unfolded g c = λ first ls held are.
    fault_is c.opened_at.result (λ o. IsOf o (deleted first c.args.here.now)) (λ fault. fault ≡ Memory) c.in-Err.fault c.in-Err.is
    (c.opened_at.ensures.read (deleted first c.args.here.now) (led_to first ls (dir_of c.args.above) c.args.name.now c.args.unfolded.now c.args.here.now c.requires.here are (g.N.Nodes.contents c.args.nodes.now) c.in_ok-id.id held c.in_ok-id.ensures))

pub returns-clause-unfolded : goal.returns-clause-unfolded
returns-clause-unfolded g c = λ first ls held are.
    let u = c.args.unfolded.now in
    let a = dir_of c.args.above in
    let n = c.args.name.now in
    let p = c.args.here.now in
    let v : Unfolded = record { root = u.root; places = c.insert.new.self } in
    let of = answer_is c.opened_at.result (λ o. IsOf o (deleted first p)) (λ fault. fault ≡ Memory) c.in-Ok.opened c.in-Ok.is (c.opened_at.ensures.read (deleted first p) (led_to first ls a n u p c.requires.here are (g.N.Nodes.contents c.args.nodes.now) c.in_ok-id.id held c.in_ok-id.ensures)) in
    now_unfolded first ls a n u p c.requires.here are c.in-Ok.opened v (sym c.contains_key.ensures ∙ c.if-contains_key.false) of refl
    (λ q. c.in_ok-insert.ensures.updates.0 q ∙ ap (λ p. if is_at (path_cmp p) q then Some c.in-Ok.opened else get path_cmp u.places q) c.in_ok-copy.ensures)
