use Rattle.std.proofs.Common.{◌≡◌, ◌++◌, ◌∷◌, [], ap, subst, ◌∙◌}
use Rattle.std.specs.Prelude.{bytes_eq, option_map}
use Rattle.std.specs.List.{dedup}
use Rattle.std.specs.Option.{option_to_list}
use Rattle.std.specs.Global.{Vec}
use Rattle.bonsai.specs.View.{edits_view}
use Rattle.node_fields.specs.declared.child.Child.{Child}
use Rattle.fsnode.specs.Parts.{children_seen as files_seen}
use Rattle.unode.specs.declared.entry.UnodeEntry.{UnodeEntry}
use Rattle.unode.specs.Parts.{entry_seen}
use Rattle.unode.specs.Views.{manifest_seen}
use Rattle.derive_step.specs.Places.{dir_of}
use Rattle.derive_step.specs.Join.{AreJoined, joined_by, made_at}
use Rattle.derive_step.specs.Steps.{file_now, joined_unode, set_nodes, unode_after, unode_join, unode_made_in, unodes_before}
use Rattle.derive_step.specs.Walk.{entries_among, entry_among}
use Rattle.derive_step.proofs.unodes.manifest_in.Goals as goal

pub returns-clause-entries : goal.returns-clause-entries
returns-clause-entries c = λ n.
    let d = dir_of c.args.dir in
    let link = c.args.kind.now.link in
    let found : entries_among entry_seen c.children_before-first.result.items c.children_before-second.result.items ≡ unodes_before (option_map (λ b. manifest_seen b.node) c.args.first) (option_map (λ b. manifest_seen b.node) c.args.second) =
    λ i m. (c.children_before-first.ensures.found m i, c.children_before-second.ensures.found m i) in
    ap (λ (es : Vec (Child UnodeEntry)). entry_among entry_seen es.items n) c.manifest_of.ensures.2
    ∙ c.in_ok-entries.ensures.entries n
    ∙ ap (λ o. joined_by (unode_join link (d ++ n ∷ []) (file_now (files_seen c.args.kind.now.files.now) n) (made_at (unode_made_in c.args.made.now) (d ++ n ∷ []))) (unode_after link c.args.made.now d (edits_view c.args.edits.now) o n)) found

pub returns-clause-parents : goal.returns-clause-parents
returns-clause-parents c =
    c.manifest_of.ensures.0
    ∙ c.parents_of-parents.ensures
    ∙ (λ i. dedup bytes_eq (option_to_list (c.id_before-first_id.ensures i) ++ option_to_list (c.id_before-second_id.ensures i)))

pub returns-clause-nodes : goal.returns-clause-nodes
returns-clause-nodes c =
    let d = dir_of c.args.dir in
    let es = edits_view c.args.edits.now in
    let made = c.args.made.now in
    let link = c.args.kind.now.link in
    let found : entries_among entry_seen c.children_before-first.result.items c.children_before-second.result.items ≡ unodes_before (option_map (λ b. manifest_seen b.node) c.args.first) (option_map (λ b. manifest_seen b.node) c.args.second) =
    λ i m. (c.children_before-first.ensures.found m i, c.children_before-second.ensures.found m i) in
    subst (λ o. AreJoined (λ n. joined_unode link (d ++ n ∷ []) (file_now (files_seen c.args.kind.now.files.now) n)) (λ n. unode_after link made d es o n) (c.args.nodes.now.items ++ set_nodes link made d es o) c.children_after.new.nodes.items) found c.in_ok-entries.ensures.nodes
