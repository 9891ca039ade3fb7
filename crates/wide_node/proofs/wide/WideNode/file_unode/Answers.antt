use Rattle.std.proofs.Common.{◌∙◌, ap}
use Rattle.manifest_model.specs.NodeReading.{unode_of}
use Rattle.unode.specs.Views.{file_in}
use Rattle.wide_node.proofs.Fronts.{no_file_in}
use Rattle.wide_node.proofs.wide.WideNode.file_unode.Goals as goal

pub returns : goal.returns
returns c =
    let node = c.self.inside in
    no_file_in node.kind node.count node.front.items node.parts.items c.self.invariant ∙ ap (λ bytes. file_in (unode_of bytes)) c.self.view_is
