use Rattle.std.proofs.Common.{◌≡◌, ◌++◌, ◌∷◌, [], ℕ, List, sym, ap, subst, ◌∙◌}
use Rattle.std.specs.Prelude.{bytes_eq, option_map}
use Rattle.std.specs.List.{dedup}
use Rattle.bonsai.specs.View.{edits_view}
use Rattle.bonsai.proofs.Rules.{changes_rise}
use Rattle.changeset_model.specs.Changeset.{id_of}
use Rattle.history_model.specs.Past.{At}
use Rattle.manifest_model.specs.Merged.{unode_at}
use Rattle.manifest_laws.specs.Entries.{fs_entry_at}
use Rattle.fsnode.specs.Parts.{children_seen as files_seen}
use Rattle.fsnode.specs.Views.{fsnode_seen}
use Rattle.unode.specs.Views.{manifest_seen}
use Rattle.std.specs.Prelude.{◌==◌, Ok}
use Rattle.changeset_model.specs.Path.{is_path}
use Rattle.derive_step.specs.Join.{joined_by, made_at}
use Rattle.derive_step.specs.Steps.{file_now, fs_after, fs_join, fs_made_in, fsnodes_before, unode_after, unode_join, unode_made_in, unodes_before}
use Rattle.derive_step.specs.Views.{before_seen}
use Rattle.derive_step.specs.Renewal.{ArePutFor, IsRenewed, fsnode_part, unode_part}
use Rattle.derive_step.proofs.Paths.{no_root}
use Rattle.derive_step.proofs.PutAll.{joined_same, put_all}
use Rattle.derive_step.proofs.Sliced.{is_empty_list, is_some_list, slice_is, slice_rises}
use Rattle.derive_step.proofs.Renewed.{files_are, had_is, left_out, node_is, not_there, noted, step_from, there, unode_is}
use Rattle.derive_step.proofs.renewal.renew_dir.Goals as goal

pub fsnode_in-requires : goal.fsnode_in-requires
fsnode_in-requires c = slice_rises c.args.dir (edits_view c.edits.result.now) (edits_view c.edits_under-edits.result.now) c.changeset.result.now.changes c.edits.ensures.edits (changes_rise c.changeset.result.now c.edits.ensures.rules) c.edits_under-edits.ensures

pub manifest_in-requires : goal.manifest_in-requires
manifest_in-requires c = slice_rises c.args.dir (edits_view c.edits.result.now) (edits_view c.edits_under-edits.result.now) c.changeset.result.now.changes c.edits.ensures.edits (changes_rise c.changeset.result.now c.edits.ensures.rules) c.edits_under-edits.ensures

pub returns-then-is_empty : goal.returns-then-is_empty
returns-then-is_empty c = λ k p q due one two touched under new.
    let made = c.args.made.now in
    let d = c.args.dir in
    let a = option_map before_seen c.args.before.0 in
    let b = option_map before_seen c.args.before.1 in
    let left = c.apart-fsnode_first.ensures in
    let right = c.apart-fsnode_second.ensures in
    let node = c.in_ok-fsnode.fsnode in
    let told = c.in_ok-fsnode.ensures in
    let edits = edits_view c.edits_under-edits.result.now in
    let all : edits_view c.edits.result.now ≡ k.changeset.changes = c.edits.ensures.edits ∙ ap (λ x. x.changes) (c.changeset.ensures ∙ due.changeset) in
    let are_edits = slice_is k p q due.sound d (edits_view c.edits.result.now) edits all c.edits_under-edits.ensures in
    let step = step_from k p q c.args.commit.now d made a b due touched under one two in
    let found : (n : List ℕ) → fs_entry_at (fsnode_seen node) n ≡ joined_by (fs_join (made_at (fs_made_in made) (d ++ n ∷ []))) (fs_after made d edits (fsnodes_before (fsnode_part a) (fsnode_part b)) n) =
    λ n. told.entries n ∙ (λ i. joined_by (fs_join (made_at (fs_made_in made) (d ++ n ∷ []))) (fs_after made d edits (fsnodes_before (left.fsnode i) (right.fsnode i)) n)) in
    subst (IsRenewed k p q d made made c.args.nodes.now.items) (sym told.nodes)
    (left_out k p q c.args.commit.now d made a b step edits are_edits node found told.rising c.args.nodes.now.items (not_there k p q c.args.commit.now d made a b step edits are_edits node found told.rising (no_root d (ap is_path (sym c.dir.view_is) ∙ c.dir.invariant)) (is_empty_list node.entries.items c.is_empty.result (c.is_empty.ensures ∙ ap (λ n. n == 0) node.entries.ok.0) c.if-is_empty.true)) new)

pub returns : goal.returns
returns c = λ k p q due one two touched under new.
    let made = c.args.made.now in
    let d = c.args.dir in
    let a = option_map before_seen c.args.before.0 in
    let b = option_map before_seen c.args.before.1 in
    let left = c.apart-fsnode_first.ensures in
    let right = c.apart-fsnode_second.ensures in
    let node = c.in_ok-fsnode.fsnode in
    let told = c.in_ok-fsnode.ensures in
    let edits = edits_view c.edits_under-edits.result.now in
    let all : edits_view c.edits.result.now ≡ k.changeset.changes = c.edits.ensures.edits ∙ ap (λ x. x.changes) (c.changeset.ensures ∙ due.changeset) in
    let are_edits = slice_is k p q due.sound d (edits_view c.edits.result.now) edits all c.edits_under-edits.ensures in
    let step = step_from k p q c.args.commit.now d made a b due touched under one two in
    let found : (n : List ℕ) → fs_entry_at (fsnode_seen node) n ≡ joined_by (fs_join (made_at (fs_made_in made) (d ++ n ∷ []))) (fs_after made d edits (fsnodes_before (fsnode_part a) (fsnode_part b)) n) =
    λ n. told.entries n ∙ (λ i. joined_by (fs_join (made_at (fs_made_in made) (d ++ n ∷ []))) (fs_after made d edits (fsnodes_before (left.fsnode i) (right.fsnode i)) n)) in
    let dir = there k p q c.args.commit.now d made a b step edits are_edits node found told.rising (no_root d (ap is_path (sym c.dir.view_is) ∙ c.dir.invariant)) (is_some_list node.entries.items c.is_empty.result (c.is_empty.ensures ∙ ap (λ n. n == 0) node.entries.ok.0) c.if-is_empty.false) in
    let same = node_is k p q c.args.commit.now d made a b step edits are_edits node found told.rising told.summary dir in
    let link = c.id-link.result in
    let is_link : link ≡ k.id = c.id-link.ensures ∙ ap id_of due.changeset ∙ sym due.id in
    let m = c.in_ok-unode.unode in
    let un = c.in_ok-unode.ensures in
    let is_files = c.as_slice-files.ensures.value in
    let same_manifest : manifest_seen m ≡ unode_at (At k p q) d = unode_is k p q c.args.commit.now d made a b step edits are_edits node found told.rising dir link is_link m
    (λ n. un.entries n ∙ (λ i. joined_by (unode_join link (d ++ n ∷ []) (file_now (files_seen (is_files i)) n) (made_at (unode_made_in made) (d ++ n ∷ []))) (unode_after link made d edits (unodes_before (left.unode i) (right.unode i)) n)))
    un.rising (un.parents ∙ (λ i. dedup bytes_eq (left.id i ++ right.id i))) un.link in
    let put = put_all k p q step.due.sound d made under dir edits are_edits (files_seen node.entries.items) (files_are k p q c.args.commit.now d made a b step edits are_edits node found told.rising) (unodes_before (unode_part a) (unode_part b)) (had_is k p q c.args.commit.now d made a b step edits are_edits node found told.rising dir) link is_link (Ok c.in_ok-ids.ids) (fsnode_seen node) (manifest_seen m) c.fsnode_in.new.nodes.items c.manifest_in.new.nodes.items c.put_nodes.new.nodes.items same same_manifest
    c.in_ok-ids.ensures.ids
    (joined_same link d edits made c.as_slice-files.result.now node.entries.items _ (unode_part a) _ (unode_part b) c.fsnode_in.new.nodes.items c.manifest_in.new.nodes.items is_files left.unode right.unode un.nodes)
    c.in_ok-ids.ensures.nodes in
    noted k p q c.args.commit.now d made a b step edits are_edits node found told.rising c.insert.new.self c.args.nodes.now.items c.put_nodes.new.nodes.items c.made_of.result c.in_ok-ids.ids dir same
    c.in_ok-insert.ensures.updates c.made_of.ensures.fsnode c.made_of.ensures.unode put.0 (subst (λ ns. ArePutFor k p q (d ∷ []) ns c.put_nodes.new.nodes.items) told.nodes put.1)
