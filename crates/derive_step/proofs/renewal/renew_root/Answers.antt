use Rattle.std.proofs.Common.{◌≡◌, ◌++◌, ◌∷◌, [], ℕ, List, refl, sym, ap, subst, ◌∙◌}
use Rattle.std.specs.Prelude.{IfOk, bytes_eq, option_map}
use Rattle.std.specs.List.{dedup}
use Rattle.bonsai.specs.View.{edits_view}
use Rattle.bonsai.proofs.Rules.{changes_rise}
use Rattle.changeset_model.specs.Changeset.{id_of}
use Rattle.history_model.specs.Past.{At}
use Rattle.manifest_model.specs.Merged.{unode_at}
use Rattle.manifest_laws.specs.Entries.{fs_entry_at}
use Rattle.fsnode.specs.Parts.{children_seen as files_seen}
use Rattle.fsnode.specs.Views.{fsnode_seen}
use Rattle.unode.specs.Views.{manifest_seen}
use Rattle.std.specs.FinMap.{is_sorted}
use Rattle.changeset_model.specs.Path.{path_cmp}
use Rattle.derive_step.specs.Slices.{edits_in}
use Rattle.derive_step.specs.Steps.{file_now, fs_after, fs_join, fs_made_in, fsnodes_before, unode_after, unode_join, unode_made_in, unodes_before}
use Rattle.derive_step.specs.Join.{joined_by, made_at}
use Rattle.derive_step.specs.Views.{before_seen}
use Rattle.derive_step.specs.Renewal.{ArePutFor, fsnode_part, ids_at, unode_part}
use Rattle.derive_step.proofs.PutAll.{joined_same, put_all}
use Rattle.derive_step.proofs.Renewed.{files_are, had_is, step_from, root_seen, node_is, unode_is}
use Rattle.derive_step.proofs.renewal.renew_root.Goals as goal

pub fsnode_in-requires : goal.fsnode_in-requires
fsnode_in-requires c = ap (is_sorted path_cmp) c.edits-edits.ensures.edits ∙ changes_rise c.changeset.result.now c.edits-edits.ensures.rules

pub manifest_in-requires : goal.manifest_in-requires
manifest_in-requires c = ap (is_sorted path_cmp) c.edits-edits.ensures.edits ∙ changes_rise c.changeset.result.now c.edits-edits.ensures.rules

pub returns : goal.returns
returns c = λ k p q due one two under.
    let made = c.args.made.now in
    let a = option_map before_seen c.args.before.0 in
    let b = option_map before_seen c.args.before.1 in
    let left = c.apart-fsnode_first.ensures in
    let right = c.apart-fsnode_second.ensures in
    let node = c.in_ok-fsnode.fsnode in
    let told = c.in_ok-fsnode.ensures in
    let edits = edits_view c.edits-edits.result.now in
    let are_edits = ap (edits_in []) (c.edits-edits.ensures.edits ∙ ap (λ x. x.changes) (c.changeset.ensures ∙ due.changeset)) in
    let step = step_from k p q c.args.commit.now [] made a b due refl under (root_seen k p q p a due.sound one) (root_seen k p q q b due.sound two) in
    let found : (n : List ℕ) → fs_entry_at (fsnode_seen node) n ≡ joined_by (fs_join (made_at (fs_made_in made) (n ∷ []))) (fs_after made [] edits (fsnodes_before (fsnode_part a) (fsnode_part b)) n) =
    λ n. told.entries n ∙ (λ i. joined_by (fs_join (made_at (fs_made_in made) (n ∷ []))) (fs_after made [] edits (fsnodes_before (left.fsnode i) (right.fsnode i)) n)) in
    let same = node_is k p q c.args.commit.now [] made a b step edits are_edits node found told.rising told.summary refl in
    let link = c.id-link.result in
    let is_link : link ≡ k.id = c.id-link.ensures ∙ ap id_of due.changeset ∙ sym due.id in
    let m = c.in_ok-unode.unode in
    let un = c.in_ok-unode.ensures in
    let is_files = c.as_slice-files.ensures.value in
    let same_manifest : manifest_seen m ≡ unode_at (At k p q) [] = unode_is k p q c.args.commit.now [] made a b step edits are_edits node found told.rising refl link is_link m
    (λ n. un.entries n ∙ (λ i. joined_by (unode_join link (n ∷ []) (file_now (files_seen (is_files i)) n) (made_at (unode_made_in made) (n ∷ []))) (unode_after link made [] edits (unodes_before (left.unode i) (right.unode i)) n)))
    un.rising (un.parents ∙ (λ i. dedup bytes_eq (left.id i ++ right.id i))) un.link in
    subst (λ ns. IfOk c.put_nodes.result (λ ids. (ids ≡ ids_at (At k p q) []) × ArePutFor k p q ([] ∷ []) ns c.put_nodes.new.nodes.items)) told.nodes
    (put_all k p q step.due.sound [] made under refl edits are_edits (files_seen node.entries.items) (files_are k p q c.args.commit.now [] made a b step edits are_edits node found told.rising) (unodes_before (unode_part a) (unode_part b)) (had_is k p q c.args.commit.now [] made a b step edits are_edits node found told.rising refl) link is_link c.put_nodes.result (fsnode_seen node) (manifest_seen m) c.fsnode_in.new.nodes.items c.manifest_in.new.nodes.items c.put_nodes.new.nodes.items same same_manifest
    c.put_nodes.ensures.ids
    (joined_same link [] edits made c.as_slice-files.result.now node.entries.items _ (unode_part a) _ (unode_part b) c.fsnode_in.new.nodes.items c.manifest_in.new.nodes.items is_files left.unode right.unode un.nodes)
    c.put_nodes.ensures.nodes)
