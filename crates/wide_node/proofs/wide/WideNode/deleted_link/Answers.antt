use Rattle.std.proofs.Common.{◌∙◌, ap, subst}
use Rattle.deleted_node.specs.Lookup.{link_in as link_of}
use Rattle.wide_node.specs.Wide.{IsWide}
use Rattle.wide_node.proofs.Fronts.{link_there}
use Rattle.wide_node.proofs.wide.WideNode.deleted_link.Goals as goal

pub returns-in-Deleted : goal.returns-in-Deleted
returns-in-Deleted c =
    let node = c.self.inside in
    c.link_in.ensures.link ∙ ap link_of c.deref.ensures.value
    ∙ link_there node.count node.front.items node.parts.items (subst (λ kind. IsWide kind node.count node.front.items node.parts.items) c.in-Deleted.is c.self.invariant)
    ∙ ap link_of c.self.view_is
