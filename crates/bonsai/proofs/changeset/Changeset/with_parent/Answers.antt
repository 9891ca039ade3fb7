use Rattle.std.proofs.Common.{◌≡◌, sym, subst}
use Rattle.history_model.specs.Pushrebase.{on_parent}
use Rattle.bonsai.specs.Kept.{IsKept}
use Rattle.bonsai.specs.Making.{KeepsOnParent}
use Rattle.bonsai.specs.View.{view_of}
use Rattle.bonsai.proofs.Rules.{on_parent_keeps}
use Rattle.bonsai.proofs.changeset.Changeset.with_parent.Goals as goal

pub sharing-requires : goal.sharing-requires
sharing-requires c =
    let f = view_of c.self.inside.version c.self.inside.parents.items c.self.inside.date c.self.inside.told.value in
    let kept : IsKept (on_parent c.args.parent c.args.moment f) = record { rules = on_parent_keeps f c.args.parent c.args.moment c.self.invariant.rules c.sole_parent.ensures.rule (subst KeepsOnParent (sym c.self.view_is) c.requires); apart = c.self.invariant.apart } in
    subst IsKept (λ i. record (c.self.view_is i) { parents = sym c.in_ok-parents.ensures.parents i; seconds = sym c.landed.ensures.seconds i; offset = sym c.landed.ensures.offset i }) kept
