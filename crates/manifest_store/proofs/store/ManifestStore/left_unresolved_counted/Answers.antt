use Rattle.std.proofs.Common.{ℕ, ◌+◌, ◌≤◌, drop, sym, ap, subst, ◌∙◌}
use Rattle.history_model.specs.Tree.{files_of}
use Rattle.node_table.specs.Table.{Table}
use Rattle.merge_walk.specs.Table.{entries_under}
use Rattle.merge_walk.specs.Walk.{IsTreeAt}
use Rattle.manifest_store.specs.Merging.{read_between}
use Rattle.manifest_store.proofs.Sides.{two_of, left_between, read_by}
use Rattle.manifest_store.proofs.store.ManifestStore.left_unresolved_counted.Goals as goal

pub returns-clause-exact : goal.returns-clause-exact
returns-clause-exact g c =
    let ks = c.args.changesets.now.known in
    let first = c.first-item.result in
    let second = c.second-item.result in
    let are = sym c.parents.ensures.parents ∙ two_of c.parents.result.now c.in-len2-up.len_at_least first second c.first-item.is c.second-item.is in
    let held = λ (t : Table). IsTreeAt (entries_under t.nodes) c.in-Some.left (files_of ks first) in
    let held_too = λ (t : Table). IsTreeAt (entries_under t.nodes) c.in-Some-root_of.right (files_of ks second) in
    left_between ks c.self.inside.table c.args.change.now c.args.change.now.parents first second (drop 2 c.parents.result.now) are c.in-Some.left c.in-Some-root_of.right c.least_unresolved.result c.least_unresolved.ensures.exact
    (subst held (sym c.self.view_is) c.in-Some.ensures.tree) (subst held_too (sym c.self.view_is) c.in-Some-root_of.ensures.tree)

pub returns-clause-cost : goal.returns-clause-cost
returns-clause-cost g c =
    let ks = c.args.changesets.now.known in
    let change = c.args.change.now in
    let first = c.first-item.result in
    let second = c.second-item.result in
    let are = sym c.parents.ensures.parents ∙ two_of c.parents.result.now c.in-len2-up.len_at_least first second c.first-item.is c.second-item.is in
    subst (λ (k : ℕ). c.least_unresolved.new.steps ≤ c.args.steps.now + k)
    (read_by ks c.self.inside.table change change.parents first second (drop 2 c.parents.result.now) are c.in-Some.left c.in-Some-root_of.right c.in-Some.ensures.root c.in-Some-root_of.ensures.root ∙ ap (λ (t : Table). read_between ks t change change.parents) c.self.view_is)
    c.least_unresolved.ensures.cost
