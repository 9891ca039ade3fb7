use Rattle.std.proofs.Common.{◌∙◌, ap}
use Rattle.node_fields.specs.Lookup.{named_in}
use Rattle.node_parts.proofs.Found.{in_none, in_part}
use Rattle.node_parts.proofs.finding.entry_in_parts.Goals as goal

pub returns-in-Some : goal.returns-in-Some
returns-in-Some g c =
    c.entry_named.ensures.named ∙ ap (named_in g.E.Entry.reader c.args.count c.args.name.now) c.bytes.ensures
    ∙ in_part g.E.Entry.reader c.args.count c.args.parts.now c.args.name.now c.requires c.in-Some.part.now c.in-Some.ensures

pub returns-in-None : goal.returns-in-None
returns-in-None g c = in_none g.E.Entry.reader c.args.count c.args.parts.now c.args.name.now c.requires c.in-None.ensures
