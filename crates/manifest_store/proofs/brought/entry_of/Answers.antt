use Rattle.std.proofs.Common.{sym, ap, ◌∙◌}
use Rattle.std.specs.Prelude.{option_map}
use Rattle.std.specs.Ordering.{nat_cmp}
use Rattle.std.specs.Cmp.Lexicographic.{slice_cmp}
use Rattle.std.specs.FinMap.{is_sorted, find as find_key}
use Rattle.fsnode.specs.Parts.{children_seen}
use Rattle.fsnode.specs.Views.{fsnode_seen}
use Rattle.manifest_store.specs.Brought.{entry_under}
use Rattle.manifest_store.proofs.Searched.{node_rises}
use Rattle.manifest_store.proofs.brought.entry_of.Goals as goal

pub returns-in-Some : goal.returns-in-Some
returns-in-Some c =
    let same = c.deref.ensures.value in
    c.entry_among.ensures (ap (λ xs. is_sorted (slice_cmp nat_cmp) (children_seen xs)) same ∙ node_rises (fsnode_seen c.in-Some.node) c.in-Some.node.valid)
    ∙ ap (λ xs. find_key (slice_cmp nat_cmp) c.args.name.now (children_seen xs)) same
    ∙ ap (λ dir. entry_under (option_map fsnode_seen dir) c.args.name.now) (sym c.in-Some.is)

pub returns-in-None : goal.returns-in-None
returns-in-None c = ap (λ dir. entry_under (option_map fsnode_seen dir) c.args.name.now) (sym c.in-None.is)
