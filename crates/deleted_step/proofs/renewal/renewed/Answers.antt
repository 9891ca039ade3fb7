use Rattle.std.proofs.Common.{◌≡◌, ◌++◌, ◌∷◌, [], cond, sym, ap, ◌∙◌, arith}
use Rattle.std.specs.Prelude.{None, Some}
use Rattle.std.proofs.lemmas.Grind.{common_steps}
use Rattle.std.specs.BTreeMap.{btree_map_len}
use Rattle.changeset_model.specs.Path.{is_path}
use Rattle.manifest_model.specs.Deleted.{DeletedNode, deleted, deleted_bytes, deleted_id, is_deleted}
use Rattle.deleted_node.specs.Views.{deleted_seen}
use Rattle.deleted_step.specs.declared.done.Done.{Done}
use Rattle.deleted_step.specs.Opened.{is_there}
use Rattle.deleted_step.proofs.Texts.{path_some}
use Rattle.deleted_step.proofs.Defined.{entries_rise}
use Rattle.deleted_step.proofs.Renewing.{one_made, popped}
use Rattle.deleted_step.proofs.Whole.{done_of, few_ways, root_is, started}
use Rattle.deleted_step.proofs.renewal.renewed.Goals as goal

pub loop-path-init : goal.loop-path-init
loop-path-init c = λ first now ls start. started first now ls start.links c.args.unfolded start.unfolded c.in_ok-nodes.nodes.items c.in_ok-nodes.ensures.items

pub loop-path-preserved : goal.loop-path-preserved
loop-path-preserved c = λ first now ls start.
    let u = c.loop-path.unfolded in
    let nodes = c.loop-path.nodes.items in
    let most = btree_map_len c.args.unfolded.places in
    let are = c.loop-path.invariant first now ls start in
    let t = c.in-Some.path in
    let o = c.in-Some.opened in
    let rest = c.pop_last.new.self in
    let told = c.in-Some.ensures in
    let some = path_some t (ap is_path (sym c.path.view_is) ∙ c.path.invariant) in
    let of = popped first now ls u nodes most are t some o rest told.value told.greatest told.updates.0 told.len in
    let same = c.in_ok-node.ensures (deleted now t) (entries_rise now t) of in
    one_made first now ls u nodes most are t some o rest told.value told.greatest told.updates.0 told.len c.in_ok-id.id c.set_above.new.unfolded c.put_there.new.nodes.items
    (c.in_ok-id.ensures.id ∙ ap (λ (n : DeletedNode). cond (is_there n) (Some (deleted_id n)) None) same)
    (c.in_ok-id.ensures.nodes ∙ ap (λ (n : DeletedNode). nodes ++ cond (is_there n) (deleted_bytes n ∷ []) []) same)
    (λ there. ap is_deleted (sym same) ∙ c.in_ok-id.ensures.valid (ap is_there same ∙ there))
    c.in_ok-set_above.ensures.same c.in_ok-set_above.ensures.link c.in_ok-set_above.ensures.entries c.in_ok-set_above.ensures.len

pub returns : goal.returns
returns c = λ first now ls start.
    let u = c.loop-path.unfolded in
    let nodes = c.loop-path.nodes.items in
    let most = btree_map_len c.args.unfolded.places in
    let are = c.loop-path.invariant first now ls start in
    let none : btree_map_len c.loop-path.unfolded.places ≡ 0 = grind (arith, common_steps) in
    let done : Done = record { root = c.in_ok-root.root; nodes = c.put.new.nodes } in
    let same = c.in_ok-node-2.ensures (deleted now []) (entries_rise now []) (root_is first now ls start.links u nodes most are none) in
    done_of first now ls start.links u nodes most are none done (deleted_seen c.in_ok-node-2.node) same c.in_ok-root.ensures.id c.in_ok-root.ensures.nodes c.in_ok-root.ensures.valid (few_ways first ls c.args.unfolded start.unfolded c.len.ensures.ordered)
