use Rattle.std.proofs.Common.{ap, map, ◌∙◌}
use Rattle.std.specs.BTreeMap.{insert_entry}
use Rattle.std.specs.Ordering.{nat_cmp}
use Rattle.byte_fields.proofs.Booleans.{same_some}
use Rattle.manifest_model.specs.Unode.{linknode_of}
use Rattle.unode.specs.Parts.{file_seen}
use Rattle.changeset_store.specs.Store.{number_in}
use Rattle.manifest_store.specs.Histories.{left_seen, one_seen}
use Rattle.manifest_store.proofs.Makings.{seen_put}
use Rattle.manifest_store.proofs.history.add_node.Goals as goal

pub returns : goal.returns
returns c = λ n u is.
    let ks = c.args.changesets.now.known in
    let same = same_some (file_seen c.in-Some.file) u (c.in-Some.ensures ∙ is.0) in
    let number = same_some c.in-Some-number_of.number n (c.in-Some-number_of.ensures.number ∙ ap (λ v. number_in ks (linknode_of v)) same ∙ is.1) in
    ap (map one_seen) c.in_ok-insert.ensures.entries
    ∙ seen_put c.args.left.now.entries c.in-Some-number_of.number c.in-Some.file
    ∙ (λ i. insert_entry nat_cmp (left_seen c.args.left.now) (number i) (same i))
