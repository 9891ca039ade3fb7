use Rattle.std.proofs.Common.{sym, ◌∙◌, ap}
use Rattle.std.specs.Prelude.{bytes_eq}
use Rattle.unode.specs.Parts.{child_seen}
use Rattle.manifest_store.proofs.Finding.{found_here, passed}
use Rattle.manifest_store.proofs.nodes.unode_entry_among.Goals as goal

pub returns-then-eq : goal.returns-then-eq
returns-then-eq c =
    found_here child_seen c.args.name.now c.args.children.now c.loop-child.child-index c.child-item.result c.loop-child-test.true c.child-item.is (ap (λ k. bytes_eq k c.args.name.now) (sym c.as_bytes.ensures.bytes) ∙ sym c.eq.ensures ∙ c.if-eq.true)
    ∙ c.loop-child.invariant

pub loop-child-preserved : goal.loop-child-preserved
loop-child-preserved c =
    passed child_seen c.args.name.now c.args.children.now c.loop-child.child-index c.child-item.result c.loop-child-test.true c.child-item.is (ap (λ k. bytes_eq k c.args.name.now) (sym c.as_bytes.ensures.bytes) ∙ sym c.eq.ensures ∙ c.if-eq.false)
    ∙ c.loop-child.invariant
