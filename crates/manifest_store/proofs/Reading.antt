-- What is read of a settled changeset is what the definitions say.
use Rattle.std.proofs.Common.{◌≡◌, ℕ, ◌<◌, Bool, true, false, not, cond, ◌||◌, List, length, refl, sym, ap, ◌∙◌}
use Rattle.std.specs.Prelude.{Option, Some, None, is_some, option_map, Result, Ok, Err}
use Rattle.std.specs.FinMap as map
use Rattle.byte_fields.specs.Bytes.{Id}
use Rattle.byte_fields.proofs.Booleans.{same_some}
use Rattle.changeset_model.specs.Path.{Path}
use Rattle.changeset_model.specs.Changeset.{File}
use Rattle.history_model.specs.History.{Known, is_known}
use Rattle.history_model.specs.Past.{Past, Begin, At, past}
use Rattle.history_model.specs.Tree.{files_of, files_in, tree_of, is_file, is_dir}
use Rattle.manifest_model.specs.Fsnode.{fsnode, fsnode_bytes}
use Rattle.manifest_model.specs.Unode.{UnodeEntry, UnodeFile, UnodeDir, unode_bytes}
use Rattle.manifest_model.specs.Merged.{unode_at as unode_of, history_of}
use Rattle.manifest_model.proofs.Deletions.{file_at-files_in}
use Rattle.merge_laws.proofs.Trees.{no_file_at}
use Rattle.reply_model.specs.Reply.{Absent, AbsentChangeset, NoPath, NotADir, NotAFile, refuse_if, ◌>>=◌}
use Rattle.node_table.specs.Table.{Nodes, Table, is_settled}
use Rattle.node_table.specs.declared.roots.Roots.{Roots}
use Rattle.changeset_store.specs.Store.{known_at}
use Rattle.changeset_store.specs.Pasts.{past_at}
use Rattle.derive_step.specs.Pasts.{roots_of, all_nodes_of}
use Rattle.derive_step.proofs.Members.{has_contains}
use Rattle.derive_step.proofs.PastNodes.{has_fsnode, has_dir_node, old_file}
use Rattle.manifest_store.specs.Manifests.{AreManifests, HoldsAll, IsRight}
use Rattle.manifest_store.specs.Histories.{IsFileNode}
use Rattle.manifest_store.specs.Nodes.{entry_id, fs_entry_under, unode_entry_under, walk}
use Rattle.manifest_store.specs.Reads.{fsnode_by, unode_by, history_by, fsnode_at, unode_at, history_at}
use Rattle.manifest_store.proofs.Lines.{known_here}
use Rattle.manifest_store.proofs.NodesApart.{settled_apart}
use Rattle.manifest_store.proofs.Held.{fs_node, un_node, fs_place, un_place, fs_walked, un_walked}

-- ---- what an entry tells

module _ (x : Id) (leaf : File → Id) where
  abbrev told_by : Bool → Option File → Option UnodeEntry
  told_by b o = cond b (Some (UnodeDir x)) (option_map (λ f. UnodeFile (leaf f)) o)

  dir_told : (b : Bool) (o : Option File) (id : Id) → Some (UnodeDir id) ≡ told_by b o → (b ≡ true) × (id ≡ x)
  dir_told true o id e = (refl, cc)
  dir_told false None id e = absurd cc
  dir_told false (Some f) id e = absurd cc

  file_told : (b : Bool) (o : Option File) (id : Id) → Some (UnodeFile id) ≡ told_by b o → (b ≡ false) × (f : File) × (o ≡ Some f) × (id ≡ leaf f)
  file_told true o id e = absurd cc
  file_told false None id e = absurd cc
  file_told false (Some f) id e = (refl, f, refl, cc)

  none_told : (b : Bool) (o : Option File) → None ≡ told_by b o → (b ≡ false) × (o ≡ None)
  none_told true o e = absurd cc
  none_told false None e = (refl, refl)
  none_told false (Some f) e = absurd cc

-- ---- what is read of a known changeset

module _ (ks : List Known) (x : Id) (there : is_known ks x ≡ true) (p : Path) where
  abbrev found_if : Bool → Bool → Bool → Result (Unit {0}) Absent
  found_if k f d = refuse_if (not k) (AbsentChangeset x) >>= (λ _. refuse_if (not (f || d)) NoPath)

  fs_as : (f d : Bool) → is_file (files_of ks x) p ≡ f → is_dir (files_of ks x) p ≡ d → fsnode_by ks x p ≡ (found_if true f d >>= (λ _. refuse_if f NotADir >>= (λ _. Ok (fsnode_bytes (fsnode (files_of ks x) p)))))
  fs_as f d ef ed = λ i. found_if (there i) (ef i) (ed i) >>= (λ _. refuse_if (ef i) NotADir >>= (λ _. Ok (fsnode_bytes (fsnode (files_of ks x) p))))

  un_as : (f d : Bool) → is_file (files_of ks x) p ≡ f → is_dir (files_of ks x) p ≡ d → unode_by ks x p ≡ (found_if true f d >>= (λ _. Ok (unode_bytes (unode_of (past ks x) p))))
  un_as f d ef ed = λ i. found_if (there i) (ef i) (ed i) >>= (λ _. Ok (unode_bytes (unode_of (past ks x) p)))

  past_as : (f d : Bool) → is_file (files_of ks x) p ≡ f → is_dir (files_of ks x) p ≡ d → history_by ks x p ≡ (found_if true f d >>= (λ _. refuse_if d NotAFile >>= (λ _. Ok (history_of ks x p))))
  past_as f d ef ed = λ i. found_if (there i) (ef i) (ed i) >>= (λ _. refuse_if (ed i) NotAFile >>= (λ _. Ok (history_of ks x p)))

-- ---- of a past whose nodes are held

file_is : (past : Past) (p : Path) (o : Option File) → tree_of past p ≡ o → is_file (files_in past) p ≡ is_some o
file_is past p o e = ap is_some (file_at-files_in past p ∙ e)

fs_held : (m : Nodes) (past : Past) → HoldsAll m past → (r : Roots) → Some r ≡ roots_of past → (p : Path) → is_dir (files_in past) p ≡ true → map.get m (fs_node past p) ≡ Some (fsnode_bytes (fsnode (files_in past) p))
fs_held m Begin held r e p dir = absurd cc
fs_held m (At c first second) held r e p dir = held _ (has_contains (all_nodes_of (At c first second)) (fsnode_bytes (fsnode (files_in (At c first second)) p)) (has_fsnode c first second p dir))

dir_held : (m : Nodes) (past : Past) → HoldsAll m past → (r : Roots) → Some r ≡ roots_of past → (p : Path) → is_dir (files_in past) p ≡ true → map.get m (un_node past p) ≡ Some (unode_bytes (unode_of past p))
dir_held m Begin held r e p dir = absurd cc
dir_held m (At c first second) held r e p dir = held _ (has_contains (all_nodes_of (At c first second)) (unode_bytes (unode_of (At c first second) p)) (has_dir_node c first second p dir))

pub file_held : (m : Nodes) (past : Past) → HoldsAll m past → (p : Path) (f : File) → tree_of past p ≡ Some f → map.get m (un_node past p) ≡ Some (unode_bytes (unode_of past p))
file_held m past held p f at = held _ (has_contains (all_nodes_of past) (unode_bytes (unode_of past p)) (old_file past p f at))

-- ---- of a settled changeset

module _ (ks : List Known) (t : Table) (a : AreManifests ks t) (n : ℕ) (settled : is_settled t n ≡ true) (r : Roots) (at : Some r ≡ map.get t.roots n) (p : Path) where
  abbrev q : Past
  q = past_at ks n

  less : n < length ks
  less = a.numbered n settled

  right : IsRight (past_at ks n)
  right = a.right n less

  roots : Some r ≡ roots_of (past_at ks n)
  roots = at ∙ a.roots n settled

  known_one : is_known ks (known_at ks n).id ≡ true
  known_one = known_here ks n less

  fs_told : walk (fs_entry_under t.nodes) (UnodeDir r.fsnode) p ≡ fs_place q p
  fs_told = fs_walked t.nodes q right (a.held n settled) r roots p

  un_told : walk (unode_entry_under t.nodes) (UnodeDir r.unode) p ≡ un_place q p
  un_told = un_walked t.nodes q right (a.held n settled) (settled_apart ks t a n settled) r roots p

  no_file : is_dir (files_in q) p ≡ true → is_file (files_in q) p ≡ false
  no_file dir = file_is q p None (no_file_at q p right.resolved dir)

  -- ---- fsnodes

  fs_dir_told : (id : Id) → Some (UnodeDir id) ≡ walk (fs_entry_under t.nodes) (UnodeDir r.fsnode) p → (is_dir (files_in q) p ≡ true) × (id ≡ fs_node q p)
  fs_dir_told id e = dir_told (fs_node q p) (λ f. f.content) (is_dir (files_in q) p) (tree_of q p) id (e ∙ fs_told)

  pub fs_dir : (id : Id) → Some (UnodeDir id) ≡ walk (fs_entry_under t.nodes) (UnodeDir r.fsnode) p → map.get t.nodes id ≡ Some (fsnode_bytes (fsnode (files_in q) p))
  fs_dir id e = let d = fs_dir_told id e in ap (map.get t.nodes) d.1 ∙ fs_held t.nodes q (a.held n settled) r roots p d.0

  pub fs_read : (id : Id) (bytes : List ℕ) → Some (UnodeDir id) ≡ walk (fs_entry_under t.nodes) (UnodeDir r.fsnode) p → map.get t.nodes id ≡ Some bytes → fsnode_at ks n p ≡ Ok bytes
  fs_read id bytes e got =
      let d = fs_dir_told id e in
      fs_as ks (known_at ks n).id known_one p false true (no_file d.0) d.0 ∙ ap (λ b. Ok b) (same_some _ bytes (sym (fs_dir id e) ∙ got))

  pub fs_file : (id : Id) → Some (UnodeFile id) ≡ walk (fs_entry_under t.nodes) (UnodeDir r.fsnode) p → fsnode_at ks n p ≡ Err NotADir
  fs_file id e =
      let d = file_told (fs_node q p) (λ f. f.content) (is_dir (files_in q) p) (tree_of q p) id (e ∙ fs_told) in
      fs_as ks (known_at ks n).id known_one p true false (file_is q p (Some d.1) d.2) d.0

  pub fs_none : None ≡ walk (fs_entry_under t.nodes) (UnodeDir r.fsnode) p → fsnode_at ks n p ≡ Err NoPath
  fs_none e =
      let d = none_told (fs_node q p) (λ f. f.content) (is_dir (files_in q) p) (tree_of q p) (e ∙ fs_told) in
      fs_as ks (known_at ks n).id known_one p false false (file_is q p None d.1) d.0

  -- ---- unodes

  un_dir_told : (id : Id) → Some (UnodeDir id) ≡ walk (unode_entry_under t.nodes) (UnodeDir r.unode) p → (is_dir (files_in q) p ≡ true) × (id ≡ un_node q p)
  un_dir_told id e = dir_told (un_node q p) (λ f. un_node q p) (is_dir (files_in q) p) (tree_of q p) id (e ∙ un_told)

  pub un_found : (id : Id) → Some (UnodeFile id) ≡ walk (unode_entry_under t.nodes) (UnodeDir r.unode) p → (is_dir (files_in q) p ≡ false) × (f : File) × (tree_of q p ≡ Some f) × (id ≡ un_node q p)
  un_found id e = file_told (un_node q p) (λ f. un_node q p) (is_dir (files_in q) p) (tree_of q p) id (e ∙ un_told)

  un_none_told : None ≡ walk (unode_entry_under t.nodes) (UnodeDir r.unode) p → (is_dir (files_in q) p ≡ false) × (tree_of q p ≡ None)
  un_none_told e = none_told (un_node q p) (λ f. un_node q p) (is_dir (files_in q) p) (tree_of q p) (e ∙ un_told)

  pub un_got : (id : Id) (file : Bool) → Some (cond file (UnodeFile id) (UnodeDir id)) ≡ walk (unode_entry_under t.nodes) (UnodeDir r.unode) p → map.get t.nodes id ≡ Some (unode_bytes (unode_of q p))
  un_got id true e = let d = un_found id e in ap (map.get t.nodes) d.3 ∙ file_held t.nodes q (a.held n settled) p d.1 d.2
  un_got id false e = let d = un_dir_told id e in ap (map.get t.nodes) d.1 ∙ dir_held t.nodes q (a.held n settled) r roots p d.0

  un_there : (id : Id) (file : Bool) → Some (cond file (UnodeFile id) (UnodeDir id)) ≡ walk (unode_entry_under t.nodes) (UnodeDir r.unode) p → unode_at ks n p ≡ Ok (unode_bytes (unode_of q p))
  un_there id true e = let d = un_found id e in un_as ks (known_at ks n).id known_one p true false (file_is q p (Some d.1) d.2) d.0
  un_there id false e = let d = un_dir_told id e in un_as ks (known_at ks n).id known_one p false true (no_file d.0) d.0

  un_read : (id : Id) (file : Bool) (bytes : List ℕ) → Some (cond file (UnodeFile id) (UnodeDir id)) ≡ walk (unode_entry_under t.nodes) (UnodeDir r.unode) p → map.get t.nodes id ≡ Some bytes → unode_at ks n p ≡ Ok bytes
  un_read id file bytes e got = un_there id file e ∙ ap (λ b. Ok b) (same_some _ bytes (sym (un_got id file e) ∙ got))

  pub un_none : None ≡ walk (unode_entry_under t.nodes) (UnodeDir r.unode) p → unode_at ks n p ≡ Err NoPath
  un_none e = let d = un_none_told e in un_as ks (known_at ks n).id known_one p false false (file_is q p None d.1) d.0

  -- ---- whether a file is there

  pub un_no_file : (id : Id) → Some (UnodeDir id) ≡ walk (unode_entry_under t.nodes) (UnodeDir r.unode) p → tree_of q p ≡ None
  un_no_file id e = no_file_at q p right.resolved (un_dir_told id e).0

  pub un_missing : None ≡ walk (unode_entry_under t.nodes) (UnodeDir r.unode) p → tree_of q p ≡ None
  un_missing e = (un_none_told e).1

  -- by whatever entry is there
  pub entry_got : (entry : UnodeEntry) (id : Id) → id ≡ entry_id entry → Some entry ≡ walk (unode_entry_under t.nodes) (UnodeDir r.unode) p → map.get t.nodes id ≡ Some (unode_bytes (unode_of q p))
  entry_got (UnodeFile x) id same e = ap (map.get t.nodes) same ∙ un_got x true e
  entry_got (UnodeDir x) id same e = ap (map.get t.nodes) same ∙ un_got x false e

  pub entry_read : (entry : UnodeEntry) (id : Id) → id ≡ entry_id entry → (bytes : List ℕ) → Some entry ≡ walk (unode_entry_under t.nodes) (UnodeDir r.unode) p → map.get t.nodes id ≡ Some bytes → unode_at ks n p ≡ Ok bytes
  entry_read (UnodeFile x) id same bytes e got = un_read x true bytes e (ap (map.get t.nodes) (sym same) ∙ got)
  entry_read (UnodeDir x) id same bytes e got = un_read x false bytes e (ap (map.get t.nodes) (sym same) ∙ got)

  -- ---- the history of a file

  pub file_node : (id : Id) → Some (UnodeFile id) ≡ walk (unode_entry_under t.nodes) (UnodeDir r.unode) p → IsFileNode ks t n p id
  file_node id e = let d = un_found id e in record { settled = settled; file = ap is_some d.2; id = d.3 }

  pub past_read : (id : Id) (ids : List Id) → Some (UnodeFile id) ≡ walk (unode_entry_under t.nodes) (UnodeDir r.unode) p → ids ≡ history_of ks (known_at ks n).id p → history_at ks n p ≡ Ok ids
  past_read id ids e is =
      let d = un_found id e in
      past_as ks (known_at ks n).id known_one p true false (file_is q p (Some d.1) d.2) d.0 ∙ ap (λ ids. Ok ids) (sym is)

  pub past_dir : (id : Id) → Some (UnodeDir id) ≡ walk (unode_entry_under t.nodes) (UnodeDir r.unode) p → history_at ks n p ≡ Err NotAFile
  past_dir id e = let d = un_dir_told id e in past_as ks (known_at ks n).id known_one p false true (no_file d.0) d.0

  pub past_none : None ≡ walk (unode_entry_under t.nodes) (UnodeDir r.unode) p → history_at ks n p ≡ Err NoPath
  past_none e = let d = un_none_told e in past_as ks (known_at ks n).id known_one p false false (file_is q p None d.1) d.0
