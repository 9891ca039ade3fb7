use Rattle.std.proofs.Common.{[], ◌++◌}
use Rattle.std.specs.Prelude.{Some, map}
use Rattle.manifest_model.specs.Deleted.{deleted}
use Rattle.deleted_step.specs.declared.unfolded.Unfolded.{Unfolded}
use Rattle.deleted_step.proofs.Unfolding.{held_left, held_right}
use Rattle.deleted_step.proofs.Begun.{root_alone, root_led}
use Rattle.deleted_step.proofs.derivation.linked.Goals as goal

pub returns-in-Err-clause-linked : goal.returns-in-Err-clause-linked
returns-in-Err-clause-linked g c = λ first root held.
    c.in-Err.ensures.read (deleted first []) (root_led (g.N.Nodes.contents c.args.nodes.now) first c.args.root root (c.args.gone.now ++ c.args.come.now) held)

pub returns-in-Err-set_links-clause-linked : goal.returns-in-Err-set_links-clause-linked
returns-in-Err-set_links-clause-linked g c = λ first root held.
    let u : Unfolded = record { root = c.in-Ok.root; places = c.new-places.result } in
    c.in-Err-set_links.ensures.set first [] (held_left (g.N.Nodes.contents c.args.nodes.now) first c.args.gone.now c.args.come.now held) (root_alone first u (c.in-Ok.ensures.read (deleted first []) (root_led (g.N.Nodes.contents c.args.nodes.now) first c.args.root root (c.args.gone.now ++ c.args.come.now) held)) c.new-places.ensures.empty)

pub returns-in-Err-set_links-2-clause-linked : goal.returns-in-Err-set_links-2-clause-linked
returns-in-Err-set_links-2-clause-linked g c = λ first root held.
    let u : Unfolded = record { root = c.in-Ok.root; places = c.new-places.result } in
    c.in-Err-set_links-2.ensures.set first (map (λ p. (p, Some c.args.id)) c.args.gone.now) (held_right (g.N.Nodes.contents c.args.nodes.now) first c.args.gone.now c.args.come.now held)
    (c.in_default.ensures.set first [] (held_left (g.N.Nodes.contents c.args.nodes.now) first c.args.gone.now c.args.come.now held) (root_alone first u (c.in-Ok.ensures.read (deleted first []) (root_led (g.N.Nodes.contents c.args.nodes.now) first c.args.root root (c.args.gone.now ++ c.args.come.now) held)) c.new-places.ensures.empty))

pub returns-clause-linked : goal.returns-clause-linked
returns-clause-linked g c = λ first root held.
    let u : Unfolded = record { root = c.in-Ok.root; places = c.new-places.result } in
    c.in_default-set_links.ensures.set first (map (λ p. (p, Some c.args.id)) c.args.gone.now) (held_right (g.N.Nodes.contents c.args.nodes.now) first c.args.gone.now c.args.come.now held)
    (c.in_default.ensures.set first [] (held_left (g.N.Nodes.contents c.args.nodes.now) first c.args.gone.now c.args.come.now held) (root_alone first u (c.in-Ok.ensures.read (deleted first []) (root_led (g.N.Nodes.contents c.args.nodes.now) first c.args.root root (c.args.gone.now ++ c.args.come.now) held)) c.new-places.ensures.empty))
