-- All that is put to the nodes for a directory that is there.
use Rattle.std.proofs.Common.{◌≡◌, ℕ, true, cond, ◌||◌, List, [], ◌∷◌, ◌++◌, map, refl, sym, ap, ◌∙◌}
use Rattle.std.specs.Prelude.{Contains, Option, Some, None, is_some, Result, Ok, Err, IfOk, OnOk}
use Rattle.std.specs.declared.alloc.AllocError.{AllocError}
use Rattle.std.specs.List.{AllByRecursion}
use Rattle.std.specs.BTreeMap.{BTreeMap}
use Rattle.byte_fields.specs.Bytes.{Id}
use Rattle.changeset_model.specs.Path.{Path}
use Rattle.changeset_model.specs.Changeset.{File, FileChange, set_at}
use Rattle.history_model.specs.History.{Known}
use Rattle.history_model.specs.Past.{Past, Begin, At}
use Rattle.history_model.specs.Tree.{files_in, is_dir, tree_of}
use Rattle.manifest_model.specs.Fsnode.{Fsnode, FsEntry, fsnode, fsnode_bytes, fsnode_id}
use Rattle.manifest_model.specs.Unode.{Unode, UnodeEntry, UnodeFile, unode_bytes, unode_id}
use Rattle.manifest_model.specs.Merged.{unode_at}
use Rattle.manifest_laws.specs.EntryEdits.{is_unode_file}
use Rattle.merge_laws.specs.Joined.{files_differ}
use Rattle.node_fields.specs.declared.child.Child.{Child}
use Rattle.fsnode.specs.declared.entry.FsEntry.{FsEntry as RustFsEntry}
use Rattle.fsnode.specs.Parts.{children_seen as fs_children_seen}
use Rattle.derive_step.specs.declared.job.DirIds.{DirIds}
use Rattle.derive_step.specs.declared.made.Made.{Made}
use Rattle.derive_step.specs.Pasts.{IsSound, all_nodes_of}
use Rattle.derive_step.specs.Walk.{Sides}
use Rattle.derive_step.specs.Join.{AreJoined, joined_nodes}
use Rattle.derive_step.specs.Steps.{file_now, joined_unode, own_unode, set_nodes, unode_after, unode_made_in, unode_set, unodes_before}
use Rattle.derive_step.specs.Slices.{edits_in}
use Rattle.derive_step.specs.Renewal.{AreIn, ArePutFor, IsMadeUnder, nodes_there, dir_nodes, ids_at, files_set_in, is_new_file}
use Rattle.derive_step.proofs.Edits.{same_in, same_in_nodes}
use Rattle.derive_step.proofs.PastLaws.{rise, file_here}
use Rattle.derive_step.proofs.FileNodes.{all_found, both_on, file_nodes, joined_right, left_in, new_joined, none_new, own_at, set_now}
use Rattle.derive_step.proofs.Members.{has_contains}
use Rattle.derive_step.proofs.PastNodes.{all_set, has_dir_node, has_file, has_fsnode, set_has, set_name}
use Rattle.derive_step.proofs.PutFor.{all_put, dir_in, fs_in, joined_in_put, put_alone, put_is, put_right, set_in_put}

ok_with : {P Q : Type 0} (r : Result DirIds AllocError) (a b : DirIds) → IfOk r (λ x. x ≡ a) → a ≡ b → OnOk r P → (P → Q) → IfOk r (λ x. (x ≡ b) × Q)
ok_with (Ok x) a b h e p f = (h ∙ e, f p)
ok_with (Err x) a b h e p f = tt

-- ---- the same of equal entries

module _ {E : Type 0} (own again : List ℕ → E → E → List (List ℕ)) (o left : List ℕ → Sides E) (had more put : List (List ℕ)) where
  pub joined_as : ((n : List ℕ) (a b : E) → own n a b ≡ again n a b) → ((n : List ℕ) → o n ≡ left n) → had ≡ more → AreJoined own o had put → AreJoined again left more put
  joined_as same now before of = record {
    second = of.second;
    rising = of.rising;
    found = λ n. of.found n ∙ ap (λ s. s.1) (now n);
    nodes = of.nodes ∙ (λ i. before i ++ joined_nodes (λ n a b. same n a b i) (λ n. (now n i).0) of.second);
  }

pub joined_same : (link : Id) (d : Path) (es : List (Path × FileChange)) (made : BTreeMap Path Made) (fs gs : List (Child RustFsEntry)) (u a v b : Option Unode) (old mid : List (List ℕ)) → fs ≡ gs → u ≡ a → v ≡ b
    → AreJoined (λ n. joined_unode link (d ++ n ∷ []) (file_now (fs_children_seen fs) n)) (λ n. unode_after link made d es (unodes_before u v) n) (old ++ set_nodes link made d es (unodes_before u v)) mid
    → AreJoined (λ n. joined_unode link (d ++ n ∷ []) (file_now (fs_children_seen gs) n)) (λ n. unode_after link made d es (unodes_before a b) n) (old ++ set_nodes link made d es (unodes_before a b)) mid
joined_same link d es made fs gs u a v b old mid files one two of =
    joined_as (λ n. joined_unode link (d ++ n ∷ []) (file_now (fs_children_seen fs) n)) (λ n. joined_unode link (d ++ n ∷ []) (file_now (fs_children_seen gs) n))
    (λ n. unode_after link made d es (unodes_before u v) n) (λ n. unode_after link made d es (unodes_before a b) n)
    (old ++ set_nodes link made d es (unodes_before u v)) (old ++ set_nodes link made d es (unodes_before a b)) mid
    (λ n x y i. joined_unode link (d ++ n ∷ []) (file_now (fs_children_seen (files i)) n) x y)
    (λ n i. unode_after link made d es (unodes_before (one i) (two i)) n)
    (λ i. old ++ set_nodes link made d es (unodes_before (one i) (two i)))
    of

-- ---- by the definitions

module _ (c : Known) (first second : Past) (sound : IsSound (At c first second)) (d : Path) (made : BTreeMap Path Made) (under : IsMadeUnder c first second made d) (dir : is_dir (files_in (At c first second)) d ≡ true) where
  abbrev past : Past
  past = At c first second

  abbrev bytes_at : Path → List ℕ
  bytes_at p = unode_bytes (unode_at (At c first second) p)

  abbrev fs : List ℕ
  fs = fsnode_bytes (fsnode (files_in (At c first second)) d)

  abbrev sets : List Path
  sets = files_set_in d c.changeset.changes

  there : (p : Path) (f : File) → tree_of past p ≡ Some f → Contains (all_nodes_of (At c first second)) (bytes_at p)
  there p f at = has_contains (all_nodes_of (At c first second)) (bytes_at p) (has_file c first second p f at)

  sets_there : AllByRecursion (λ p. Contains (all_nodes_of (At c first second)) (bytes_at p)) sets
  sets_there = all_set d (λ p. Contains (all_nodes_of (At c first second)) (bytes_at p)) c.changeset.changes (λ p f copied h. there p f (set_now c first second sound d p f (set_name p f copied c.changeset.changes (all_found c.changeset.changes (rise c first second sound)) h)))

  fs_there : Contains (all_nodes_of (At c first second)) fs
  fs_there = has_contains (all_nodes_of (At c first second)) fs (has_fsnode c first second d dir)

  dir_there : Contains (all_nodes_of (At c first second)) (bytes_at d)
  dir_there = has_contains (all_nodes_of (At c first second)) (bytes_at d) (has_dir_node c first second d dir)

  own_there : (n : List ℕ) (a b : UnodeEntry) → (left_in c first second sound d made n).0 ≡ Some a → (left_in c first second sound d made n).1 ≡ Some b → AllByRecursion (Contains (all_nodes_of (At c first second))) (own_at c first second sound d made n a b)
  own_there n a b one two = joined_right c first second sound d made (Contains (all_nodes_of (At c first second))) there n a b one two

  module _ (old mid : List (List ℕ)) (files : AreJoined (own_at c first second sound d made) (left_in c first second sound d made) (old ++ map bytes_at sets) mid) where
    abbrev more : List (List ℕ)
    more = all_put bytes_at sets fs d (own_at c first second sound d made) (left_in c first second sound d made) old mid files

    is_right : AllByRecursion (Contains (all_nodes_of (At c first second))) more
    is_right = put_right bytes_at sets fs d (own_at c first second sound d made) (left_in c first second sound d made) old mid files (Contains (all_nodes_of (At c first second))) sets_there fs_there dir_there own_there

    joined_file : (n : List ℕ) (f : File) → tree_of past (d ++ n ∷ []) ≡ Some f → set_at c.changeset (d ++ n ∷ []) ≡ None → files_differ first second (d ++ n ∷ []) ≡ true → Contains more (bytes_at (d ++ n ∷ []))
    joined_file n f at unset differ =
        joined_in_put bytes_at sets fs d (own_at c first second sound d made) (left_in c first second sound d made) old mid files n (UnodeFile (unode_id (unode_at first (d ++ n ∷ [])))) (UnodeFile (unode_id (unode_at second (d ++ n ∷ [])))) (bytes_at (d ++ n ∷ []))
        (new_joined c first second sound d made under n f at unset differ).0
        (new_joined c first second sound d made under n f at unset differ).1
        (new_joined c first second sound d made under n f at unset differ).2

    set_file : (n : List ℕ) (g : File) → set_at c.changeset (d ++ n ∷ []) ≡ Some g → Contains more (bytes_at (d ++ n ∷ []))
    set_file n g is_set = set_in_put bytes_at sets fs d (own_at c first second sound d made) (left_in c first second sound d made) old mid files (d ++ n ∷ []) (set_has d n g c.changeset.changes is_set)

    new_file : (n : List ℕ) (f : File) → tree_of past (d ++ n ∷ []) ≡ Some f → is_new_file c first second (d ++ n ∷ []) ≡ true → (o : Option File) → set_at c.changeset (d ++ n ∷ []) ≡ o → Contains more (bytes_at (d ++ n ∷ []))
    new_file n f at new (Some g) is_set = set_file n g is_set
    new_file n f at new None unset = joined_file n f at unset (sym (ap (λ o. is_some o || files_differ first second (d ++ n ∷ [])) unset) ∙ new)

    is_whole : AreIn c first second d more
    is_whole = record {
      fsnode = λ _. fs_in bytes_at sets fs d (own_at c first second sound d made) (left_in c first second sound d made) old mid files;
      unode = λ _. dir_in bytes_at sets fs d (own_at c first second sound d made) (left_in c first second sound d made) old mid files;
      files = λ n f at new. new_file n f at new (set_at c.changeset (d ++ n ∷ [])) refl;
    }

    are_alone : second ≡ Begin → more ≡ dir_nodes c first second d ++ []
    are_alone none =
        put_alone bytes_at sets fs d (own_at c first second sound d made) (left_in c first second sound d made) old mid files (none_new c first second sound d made none)
        ∙ ap (λ v. cond v (nodes_there c first second d) [] ++ []) (sym dir)

    pub put_for : (new : List (List ℕ)) → new ≡ mid ++ fs ∷ bytes_at d ∷ [] → ArePutFor c first second (d ∷ []) old new
    put_for new puts = record {
      more = more;
      nodes = put_is bytes_at sets fs d (own_at c first second sound d made) (left_in c first second sound d made) old mid files new puts;
      right = is_right;
      whole = (is_whole, tt);
      alone = are_alone;
    }

-- ---- from the nodes of both parents, of which contracts tell the entries before

module _ (c : Known) (first second : Past) (sound : IsSound (At c first second)) (d : Path) (made : BTreeMap Path Made) (under : IsMadeUnder c first second made d) (dir : is_dir (files_in (At c first second)) d ≡ true)
    (es : List (Path × FileChange)) (are_edits : edits_in d es ≡ edits_in d c.changeset.changes) (entries : List (List ℕ × FsEntry)) (files_are : (n : List ℕ) → file_now entries n ≡ file_here c first second sound d n)
    (had : List ℕ → Sides UnodeEntry) (had_is : (n : List ℕ) → had n ≡ both_on c first second sound d n) (link : Id) (is_link : link ≡ c.id) where
  sets_are : set_nodes link made d es had ≡ map (λ p. unode_bytes (unode_at (At c first second) p)) (files_set_in d c.changeset.changes)
  sets_are =
      ap (λ x. set_nodes x made d es had) is_link
      ∙ same_in_nodes (unode_set c.id) (unode_made_in made) is_unode_file (own_unode c.id) d es c.changeset.changes had are_edits
      ∙ file_nodes c first second sound d made c.changeset.changes had (rise c first second sound) (all_found c.changeset.changes (rise c first second sound)) (λ n h. had_is n)

  own_is : (n : List ℕ) (a b : UnodeEntry) → joined_unode link (d ++ n ∷ []) (file_now entries n) a b ≡ own_at c first second sound d made n a b
  own_is n a b = λ i. joined_unode (is_link i) (d ++ n ∷ []) (files_are n i) a b

  left_is : (n : List ℕ) → unode_after link made d es had n ≡ left_in c first second sound d made n
  left_is n =
      ap (λ x. unode_after x made d es had n) is_link
      ∙ same_in (unode_set c.id) is_unode_file (unode_made_in made) d n es c.changeset.changes (had n) are_edits
      ∙ (λ i. unode_after c.id made d c.changeset.changes (λ m. had_is m i) n)

  joined_is : (old mid : List (List ℕ)) → AreJoined (λ n. joined_unode link (d ++ n ∷ []) (file_now entries n)) (λ n. unode_after link made d es had n) (old ++ set_nodes link made d es had) mid
      → AreJoined (own_at c first second sound d made) (left_in c first second sound d made) (old ++ map (λ p. unode_bytes (unode_at (At c first second) p)) (files_set_in d c.changeset.changes)) mid
  joined_is old mid files =
      joined_as (λ n. joined_unode link (d ++ n ∷ []) (file_now entries n)) (own_at c first second sound d made) (λ n. unode_after link made d es had n) (left_in c first second sound d made)
      (old ++ set_nodes link made d es had) (old ++ map (λ p. unode_bytes (unode_at (At c first second) p)) (files_set_in d c.changeset.changes)) mid
      own_is left_is (ap (λ ns. old ++ ns) sets_are) files

  same_ids : (node : Fsnode) (un : Unode) → node ≡ fsnode (files_in (At c first second)) d → un ≡ unode_at (At c first second) d → record { fsnode = fsnode_id node; unode = unode_id un } ≡ ids_at (At c first second) d
  same_ids node un same_fs same_un = λ i. record { fsnode = fsnode_id (same_fs i); unode = unode_id (same_un i) }

  same_own : (node : Fsnode) (un : Unode) (mid : List (List ℕ)) → node ≡ fsnode (files_in (At c first second)) d → un ≡ unode_at (At c first second) d
      → mid ++ fsnode_bytes node ∷ unode_bytes un ∷ [] ≡ mid ++ fsnode_bytes (fsnode (files_in (At c first second)) d) ∷ unode_bytes (unode_at (At c first second) d) ∷ []
  same_own node un mid same_fs same_un = λ i. mid ++ fsnode_bytes (same_fs i) ∷ unode_bytes (same_un i) ∷ []

  pub put_all : (r : Result DirIds AllocError) (node : Fsnode) (un : Unode) (old mid new : List (List ℕ)) → node ≡ fsnode (files_in (At c first second)) d → un ≡ unode_at (At c first second) d
      → IfOk r (λ ids. ids ≡ record { fsnode = fsnode_id node; unode = unode_id un })
      → AreJoined (λ n. joined_unode link (d ++ n ∷ []) (file_now entries n)) (λ n. unode_after link made d es had n) (old ++ set_nodes link made d es had) mid
      → OnOk r (new ≡ mid ++ fsnode_bytes node ∷ unode_bytes un ∷ [])
      → IfOk r (λ ids. (ids ≡ ids_at (At c first second) d) × ArePutFor c first second (d ∷ []) old new)
  put_all r node un old mid new same_fs same_un ids files own =
      ok_with {P = new ≡ mid ++ fsnode_bytes node ∷ unode_bytes un ∷ []} {Q = ArePutFor c first second (d ∷ []) old new} r (record { fsnode = fsnode_id node; unode = unode_id un }) (ids_at (At c first second) d) ids (same_ids node un same_fs same_un) own
      (λ h. put_for c first second sound d made under dir old mid (joined_is old mid files) new (h ∙ same_own node un mid same_fs same_un))
