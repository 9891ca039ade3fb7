use Rattle.std.proofs.Common.{◌≡◌, ◌++◌, ◌∷◌, [], ap, ◌∙◌, append-nil}
use Rattle.std.specs.Prelude.{option_map}
use Rattle.bonsai.specs.View.{edits_view}
use Rattle.manifest_laws.specs.EntryEdits.{is_fs_file}
use Rattle.fsnode.specs.Parts.{entry_seen}
use Rattle.fsnode.specs.Views.{fsnode_seen}
use Rattle.derive_step.specs.Places.{dir_of}
use Rattle.derive_step.specs.Join.{joined_by, made_at}
use Rattle.derive_step.specs.Steps.{fs_after, fs_join, fs_made_in, fs_set, fsnodes_before}
use Rattle.derive_step.specs.Walk.{entries_among}
use Rattle.derive_step.proofs.Edits.{no_own_nodes}
use Rattle.derive_step.proofs.JoinedNodes.{no_joined_nodes}
use Rattle.derive_step.proofs.fsnodes.fsnode_in.Goals as goal

pub returns-clause-entries : goal.returns-clause-entries
returns-clause-entries c = λ n.
    let d = dir_of c.args.dir in
    let found : entries_among entry_seen c.children_before-first.result.items c.children_before-second.result.items ≡ fsnodes_before (option_map fsnode_seen c.args.first) (option_map fsnode_seen c.args.second) =
    λ i m. (c.children_before-first.ensures.found m i, c.children_before-second.ensures.found m i) in
    c.in_ok-entries.ensures.entries n
    ∙ ap (λ o. joined_by (fs_join (made_at (fs_made_in c.args.made.now) (d ++ n ∷ []))) (fs_after c.args.made.now d (edits_view c.args.edits.now) o n)) found

pub returns-clause-nodes : goal.returns-clause-nodes
returns-clause-nodes c =
    let old = c.args.nodes.now.items in
    let d = dir_of c.args.dir in
    let es = edits_view c.args.edits.now in
    let start = entries_among entry_seen c.children_before-first.result.items c.children_before-second.result.items in
    let put = c.in_ok-entries.ensures.nodes in
    put.nodes
    ∙ (λ i. (old ++ no_own_nodes fs_set (fs_made_in c.args.made.now) is_fs_file d es start i) ++ no_joined_nodes (λ n. (fs_after c.args.made.now d es start n).0) put.second i)
    ∙ append-nil (old ++ [])
    ∙ append-nil old
