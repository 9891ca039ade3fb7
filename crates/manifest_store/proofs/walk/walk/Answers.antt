use Rattle.std.proofs.Common.{sym, ◌∙◌}
use Rattle.changeset_model.specs.Path.{elements}
use Rattle.changeset_model.proofs.Accepting.{elements_some as some_elements}
use Rattle.unode.specs.Parts.{entry_seen}
use Rattle.manifest_store.specs.Nodes.{walk as walked}
use Rattle.manifest_store.specs.Dirs.{left}
use Rattle.manifest_store.proofs.Held.{no_walk}
use Rattle.manifest_store.proofs.walk.walk.Goals as goal

pub returns-in_default-at : goal.returns-in_default-at
returns-in_default-at g c =
    let look = g.T.Tree.look c.args.tree.now in
    no_walk look c.in_default-at.field-0 (elements c.in-Some.text.now) (some_elements c.in-Some.text.now)
    ∙ (λ i. walked look (entry_seen (sym c.in_default-at.is i)) (left (sym c.in-Some.is i)))
    ∙ c.loop-rest.invariant
