-- The entry of a name in a unode after a changeset with two parents, from both parents' entries.
use Rattle.std.proofs.Common.{◌≡◌, ℕ, Bool, true, false, cond, not, ◌||◌, List, [], ◌∷◌, ◌++◌, length, refl, sym, ap, ◌∙◌}
use Rattle.std.specs.Prelude.{Option, Some, None, bytes_eq, is_some, option_map, ◌==◌}
use mathlib.Core.Bool.{true≢false}
use Rattle.std.specs.List.{list_any, dedup}
use Rattle.std.specs.Option.{option_or, option_and_then}
use Rattle.std.specs.FinMap.{find as find_key}
use Rattle.std.proofs.lemmas.Bool.{false_from_ne_true}
use Rattle.sha2.specs.Sha256.{sha256}
use Rattle.byte_fields.specs.Bytes.{Id}
use Rattle.changeset_model.specs.Path.{Path, path_cmp, text_of, is_strict_prefix}
use Rattle.changeset_model.specs.Changeset.{File, CopySource, FileChange, Set, Delete, file_of, set_at}
use Rattle.history_model.specs.History.{Known}
use Rattle.history_model.specs.Past.{Past, Begin, At}
use Rattle.history_model.specs.Tree.{decides, files_in, file_at, is_dir}
use Rattle.history_model.proofs.Landings.{prefix_self}
use Rattle.manifest_model.specs.Unode.{Unode, UnodeEntry, UnodeFile, UnodeDir, Manifest, FileUnode, is_renewed, no_unode, unode_id}
use Rattle.manifest_model.specs.Merged.{unode_at}
use Rattle.manifest_laws.specs.Changes.{is_covered}
use Rattle.manifest_laws.specs.Entries.{unode_entry_for}
use Rattle.manifest_laws.specs.EntryEdits.{without_file, without_dir, entry_by, is_unode_file}
use Rattle.manifest_laws.proofs.Changes.{none_decides}
use Rattle.manifest_laws.proofs.Folded.{folded}
use Rattle.manifest_laws.proofs.Lists.{none_some, true_and_false}
use Rattle.manifest_laws.proofs.Names.{name_itself}
use Rattle.manifest_laws.proofs.Reach.{Edits, deletes, uncovered, uncovered_deleted, undecided, unreached}
use Rattle.manifest_laws.proofs.UnodeSide.{parents_of_entry}
use Rattle.manifest_laws.proofs.Unodes.{not_root}
use Rattle.merge_laws.specs.Resolved.{AreResolved, has_dir}
use Rattle.merge_laws.specs.Joined.{both_parents, new_file, unode_differ, unode_entries_on, unode_joined, unode_made_on, unode_merged}
use Rattle.merge_laws.proofs.Trees.{Files, Merges, alone, merges}
use Rattle.merge_laws.proofs.Sides.{decided_at, dir_either, free, left_above, none_set, now_alone, right_above, set_is, undecided_at}
use Rattle.merge_laws.proofs.Nodes.{apart_by, dir_node, file_node, one}

-- ---- joining

record AreAlone (f g : Option File) (a b : Bool) : Type 0 where
  left_alone : a ≡ true → f ≡ None
  right_alone : b ≡ true → g ≡ None
  left_above : (h : File) → f ≡ Some h → b ≡ false
  right_above : (h : File) → g ≡ Some h → a ≡ false

-- the ids of both sides, and the one afterwards
record FileIds (new : Option UnodeEntry) (f g : Option File) (x y z : Id) : Type 0 where
  left_only : (h : File) → f ≡ Some h → g ≡ None → z ≡ x
  right_only : (h : File) → f ≡ None → g ≡ Some h → z ≡ y
  both : (h k : File) → f ≡ Some h → g ≡ Some k → bytes_eq x y ≡ true → z ≡ x
  made_new : (h k : File) → f ≡ Some h → g ≡ Some k → bytes_eq x y ≡ false → new ≡ Some (UnodeFile z)

record DirIds (made : Option UnodeEntry) (a b : Bool) (x y z : Id) : Type 0 where
  left_only : a ≡ true → b ≡ false → z ≡ x
  right_only : a ≡ false → b ≡ true → z ≡ y
  both : a ≡ true → b ≡ true → bytes_eq x y ≡ true → z ≡ x
  made_new : a ≡ true → b ≡ true → bytes_eq x y ≡ false → made ≡ Some (UnodeDir z)

joined_files : (new : Option UnodeEntry) (x y z : Id) (b : Bool) → bytes_eq x y ≡ b → (b ≡ true → z ≡ x) → (b ≡ false → new ≡ Some (UnodeFile z)) → cond b (Some (UnodeFile x)) new ≡ Some (UnodeFile z)
joined_files new x y z true e same other = ap (λ w. Some (UnodeFile w)) (sym (same refl))
joined_files new x y z false e same other = other refl

joined_dirs : (made : Option UnodeEntry) (x y z : Id) (b : Bool) → bytes_eq x y ≡ b → (b ≡ true → z ≡ x) → (b ≡ false → made ≡ Some (UnodeDir z)) → cond b (Some (UnodeDir x)) made ≡ Some (UnodeDir z)
joined_dirs made x y z true e same other = ap (λ w. Some (UnodeDir w)) (sym (same refl))
joined_dirs made x y z false e same other = other refl

joined : (new made : Option UnodeEntry) (f g : Option File) (a b : Bool) (x y z : Id) → AreAlone f g a b → FileIds new f g x y z → DirIds made a b x y z
    → unode_joined new made (unode_entry_for f a x) (unode_entry_for g b y) ≡ unode_entry_for (option_or f g) (a || b) z
joined new made (Some f) g true b x y z l fs ds = none_some f (sym (l.left_alone refl))
joined new made (Some f) g false true x y z l fs ds = true_and_false true refl (l.left_above f refl)
joined new made (Some f) (Some g) false false x y z l fs ds = joined_files new x y z (bytes_eq x y) refl (fs.both f g refl refl) (fs.made_new f g refl refl)
joined new made (Some f) None false false x y z l fs ds = ap (λ w. Some (UnodeFile w)) (sym (fs.left_only f refl refl))
joined new made None (Some g) a true x y z l fs ds = none_some g (sym (l.right_alone refl))
joined new made None (Some g) true false x y z l fs ds = true_and_false true refl (l.right_above g refl)
joined new made None (Some g) false false x y z l fs ds = ap (λ w. Some (UnodeFile w)) (sym (fs.right_only g refl refl))
joined new made None None true true x y z l fs ds = joined_dirs made x y z (bytes_eq x y) refl (ds.both refl refl) (ds.made_new refl refl)
joined new made None None true false x y z l fs ds = ap (λ w. Some (UnodeDir w)) (sym (ds.left_only refl refl))
joined new made None None false true x y z l fs ds = ap (λ w. Some (UnodeDir w)) (sym (ds.right_only refl refl))
joined new made None None false false x y z l fs ds = refl

no_files : (new : Option UnodeEntry) (x y z : Id) → FileIds new None None x y z
no_files new x y z = record {
  left_only = λ h f g. none_some h f;
  right_only = λ h f g. none_some h g;
  both = λ h k f g e. none_some h f;
  made_new = λ h k f g e. none_some h f;
}

no_dirs : (made : Option UnodeEntry) (x y z : Id) → DirIds made false false x y z
no_dirs made x y z = record {
  left_only = λ h k. absurd (true≢false (sym h));
  right_only = λ h k. absurd (true≢false (sym k));
  both = λ h k e. absurd (true≢false (sym h));
  made_new = λ h k e. absurd (true≢false (sym h));
}

files_alone : (f g : Option File) → AreAlone f g false false
files_alone f g = record {
  left_alone = λ h. absurd (true≢false (sym h));
  right_alone = λ h. absurd (true≢false (sym h));
  left_above = λ h e. refl;
  right_above = λ h e. refl;
}

-- ---- what an edit leaves of one side

module _ (set_entry : Option UnodeEntry → File → UnodeEntry) (made : Option UnodeEntry) where
  dir_left : (f : Option File) (b : Bool) (x : Id) → (b ≡ true → f ≡ None) → without_file set_entry made is_unode_file (unode_entry_for f b x) ≡ unode_entry_for None b x
  dir_left (Some f) true x alone = none_some f (sym (alone refl))
  dir_left (Some f) false x alone = refl
  dir_left None true x alone = refl
  dir_left None false x alone = refl

  file_left : (f : Option File) (b : Bool) (x : Id) → without_dir set_entry made is_unode_file (unode_entry_for f b x) ≡ unode_entry_for f false x
  file_left (Some f) b x = refl
  file_left None true x = refl
  file_left None false x = refl

  nothing_left : (o : Option UnodeEntry) → without_dir set_entry made is_unode_file (without_file set_entry made is_unode_file o) ≡ None
  nothing_left None = refl
  nothing_left (Some (UnodeFile x)) = refl
  nothing_left (Some (UnodeDir x)) = refl

pub has_is : (past : Past) (p : Path) → (length p == 0) ≡ false → has_dir past p ≡ is_dir (files_in past) p
has_is Begin p deep = sym (ap (λ b. b || false) deep)
has_is (At c first second) p deep = refl

-- what contracts see of a path in a past
abbrev pub seen_on : Past → Path → Option UnodeEntry
seen_on past p = unode_entry_for (file_at (files_in past) p) (is_dir (files_in past) p) (unode_id (unode_at past p))

-- ---- the entry of a name

module _ (c : Known) (first second : Past) (all : AreResolved (At c first second)) (d : Path) (n : List ℕ) where
  abbrev at : Path
  at = d ++ n ∷ []

  abbrev q : Past
  q = At c first second

  abbrev now : Files
  now = files_in (At c first second)

  abbrev left : Files
  left = files_in first

  abbrev right : Files
  right = files_in second

  m : Merges c.changeset now left right
  m = merges c first second all

  deep : (length at == 0) ≡ false
  deep = not_root d n

  abbrev es : Edits
  es = c.changeset.changes

  abbrev file_now : Option File
  file_now = file_at now at

  abbrev file_left_at : Option File
  file_left_at = file_at left at

  abbrev file_right_at : Option File
  file_right_at = file_at right at

  abbrev dir_now : Bool
  dir_now = is_dir now at

  abbrev dir_left_at : Bool
  dir_left_at = is_dir left at

  abbrev dir_right_at : Bool
  dir_right_at = is_dir right at

  abbrev id_now : Id
  id_now = unode_id (unode_at (At c first second) at)

  abbrev id_left : Id
  id_left = unode_id (unode_at first at)

  abbrev id_right : Id
  id_right = unode_id (unode_at second at)

  abbrev new_by : File → UnodeEntry
  new_by f = new_file c.id at (seen_on first at) (seen_on second at) f

  abbrev new : Option UnodeEntry
  new = option_map new_by file_now

  abbrev set_by : Option UnodeEntry → File → UnodeEntry
  set_by o f = new_by f

  abbrev step : (made : Option UnodeEntry) → Option FileChange → Bool → Option UnodeEntry → Option UnodeEntry
  step made change u o = entry_by set_by made is_unode_file change u o

  abbrev IsUnder : Bool → Type 0
  IsUnder b = list_any (λ e. is_strict_prefix at e.0) es ≡ b

  nothing : file_now ≡ None → dir_now ≡ false → ◌≡◌ {A = Option UnodeEntry} None (seen_on q at)
  nothing file dir = λ i. unode_entry_for (sym file i) (sym dir i) id_now

  decided_none : decides c.changeset at ≡ true → option_and_then file_of (find_key path_cmp at es) ≡ None → file_now ≡ None
  decided_none decided none = decided_at c.changeset now left right m at decided ∙ none

  -- the parents of a new file
  parents_are : both_parents (seen_on first at) (seen_on second at) ≡ dedup bytes_eq (one (is_some file_left_at) id_left ++ one (is_some file_right_at) id_right)
  parents_are = λ i. dedup bytes_eq (parents_of_entry file_left_at dir_left_at id_left i ++ parents_of_entry file_right_at dir_right_at id_right i)

  -- ---- a file is set

  set_case : (made : Option UnodeEntry) (f : File) (copied : Option CopySource) → find_key path_cmp at es ≡ Some (Set f copied) → (u : Bool) → (u ≡ true → made ≡ unode_made_on q at) → (o p : Option UnodeEntry)
      → unode_joined new made (step made (Some (Set f copied)) u o) (step made (Some (Set f copied)) u p) ≡ seen_on q at
  set_case made f copied e u due o p = by u due
    where
      sets : set_at c.changeset at ≡ Some f
      sets = ap (option_and_then file_of) e

      there : file_now ≡ Some f
      there = set_is c.changeset now left right m at f sets

      no_dir : dir_now ≡ false
      no_dir = false_from_ne_true dir_now (λ h. none_some f (sym (now_alone c.changeset now left right m at deep h) ∙ there))

      node : unode_at q at ≡ FileUnode (both_parents (seen_on first at) (seen_on second at)) f.content f.kind (sha256 (text_of at)) c.id
      node =
          file_node c first second at f there
          ∙ (λ i. cond (is_some (sets i) || apart_by (is_some file_left_at) (is_some file_right_at) id_left id_right)
          (FileUnode (sym parents_are i) f.content f.kind (sha256 (text_of at)) c.id)
          (cond (is_some file_left_at) (unode_at first at) (cond (is_some file_right_at) (unode_at second at) no_unode)))

      same : Some (new_by f) ≡ seen_on q at
      same = (λ i. Some (UnodeFile (unode_id (sym node i)))) ∙ (λ i. unode_entry_for (sym there i) dir_now id_now)

      twice : (made : Option UnodeEntry) → unode_joined new made (Some (new_by f)) (Some (new_by f)) ≡ Some (new_by f)
      twice made =
          let x : Id = unode_id (FileUnode (both_parents (seen_on first at) (seen_on second at)) f.content f.kind (sha256 (text_of at)) c.id) in
          ap (λ b. cond b (Some (UnodeFile x)) new) (name_itself x)

      by : (u : Bool) → (u ≡ true → made ≡ unode_made_on q at) → unode_joined new made (step made (Some (Set f copied)) u o) (step made (Some (Set f copied)) u p) ≡ seen_on q at
      by false due = twice made ∙ same
      by true due = ap (λ x. unode_joined new made (option_or x (Some (new_by f))) (option_or x (Some (new_by f)))) (due refl ∙ ap (λ b. cond b (Some (UnodeDir id_now)) None) no_dir) ∙ twice made ∙ same

  -- ---- files that aren't set

  abbrev node_of : Bool → Bool → File → Unode
  node_of a b h = cond (apart_by a b id_left id_right)
      (FileUnode (dedup bytes_eq (one a id_left ++ one b id_right)) h.content h.kind (sha256 (text_of at)) c.id)
      (cond a (unode_at first at) (cond b (unode_at second at) no_unode))

  abbrev by_sides : Bool → File → Unode
  by_sides b h = cond (not b) (FileUnode (dedup bytes_eq (id_left ∷ id_right ∷ [])) h.content h.kind (sha256 (text_of at)) c.id) (unode_at first at)

  files_ids : set_at c.changeset at ≡ None → file_now ≡ option_or file_left_at file_right_at → FileIds new file_left_at file_right_at id_left id_right id_now
  files_ids unset file = record {
    left_only = λ h f g. node h (file ∙ (λ i. option_or (f i) (g i))) ∙ (λ i. unode_id (node_of (is_some (f i)) (is_some (g i)) h));
    right_only = λ h f g. node h (file ∙ (λ i. option_or (f i) (g i))) ∙ (λ i. unode_id (node_of (is_some (f i)) (is_some (g i)) h));
    both = λ h k f g e. same h k f g ∙ ap (λ b. unode_id (by_sides b h)) e;
    made_new = λ h k f g e.
        ap (option_map new_by) (file ∙ (λ i. option_or (f i) (g i)))
        ∙ (λ i. Some (UnodeFile (unode_id (FileUnode (parents_are i) h.content h.kind (sha256 (text_of at)) c.id))))
        ∙ (λ i. Some (UnodeFile (unode_id (FileUnode (dedup bytes_eq (one (is_some (f i)) id_left ++ one (is_some (g i)) id_right)) h.content h.kind (sha256 (text_of at)) c.id))))
        ∙ sym (ap (λ w. Some (UnodeFile w)) (same h k f g ∙ ap (λ b. unode_id (by_sides b h)) e));
  }
    where
      node : (h : File) → file_now ≡ Some h → id_now ≡ unode_id (node_of (is_some file_left_at) (is_some file_right_at) h)
      node h e = ap unode_id (file_node c first second at h e ∙ (λ i. cond (is_some (unset i) || apart_by (is_some file_left_at) (is_some file_right_at) id_left id_right)
          (FileUnode (dedup bytes_eq (one (is_some file_left_at) id_left ++ one (is_some file_right_at) id_right)) h.content h.kind (sha256 (text_of at)) c.id)
          (cond (is_some file_left_at) (unode_at first at) (cond (is_some file_right_at) (unode_at second at) no_unode))))

      same : (h k : File) → file_left_at ≡ Some h → file_right_at ≡ Some k → id_now ≡ unode_id (cond (not (bytes_eq id_left id_right)) (FileUnode (dedup bytes_eq (id_left ∷ id_right ∷ [])) h.content h.kind (sha256 (text_of at)) c.id) (unode_at first at))
      same h k f g = node h (file ∙ (λ i. option_or (f i) (g i))) ∙ (λ i. unode_id (node_of (is_some (f i)) (is_some (g i)) h))

  files_joined : (made : Option UnodeEntry) → set_at c.changeset at ≡ None → file_now ≡ option_or file_left_at file_right_at → dir_now ≡ false → unode_joined new made (unode_entry_for file_left_at false id_left) (unode_entry_for file_right_at false id_right) ≡ seen_on q at
  files_joined made unset file dir =
      joined new made file_left_at file_right_at false false id_left id_right id_now (files_alone file_left_at file_right_at) (files_ids unset file) (no_dirs made id_left id_right id_now)
      ∙ (λ i. unode_entry_for (sym file i) (sym dir i) id_now)

  -- ---- an edit lies under it

  made_both : (x y : Option UnodeEntry) (made : Option UnodeEntry) → made ≡ unode_made_on q at → dir_now ≡ true → unode_joined new made (option_or made x) (option_or made y) ≡ seen_on q at
  made_both x y made due dir =
      ap (λ e. unode_joined new e (option_or e x) (option_or e y)) (due ∙ ap (λ b. cond b (Some (UnodeDir id_now)) None) dir)
      ∙ ap (λ b. cond b (Some (UnodeDir id_now)) (Some (UnodeDir id_now))) (name_itself id_now)
      ∙ (λ i. unode_entry_for (sym (now_alone c.changeset now left right m at deep dir) i) (sym dir i) id_now)

  none_made : (made x : Option UnodeEntry) → made ≡ unode_made_on q at → dir_now ≡ false → option_or made x ≡ x
  none_made made x due dir = ap (λ e. option_or e x) (due ∙ ap (λ b. cond b (Some (UnodeDir id_now)) None) dir)

  under_by : (made : Option UnodeEntry) → is_covered c.changeset d ≡ false → made ≡ unode_made_on q at → (change : Option FileChange) → find_key path_cmp at es ≡ change → option_and_then file_of change ≡ None → (b : Bool) → dir_now ≡ b
      → unode_joined new made (step made change true (seen_on first at)) (step made change true (seen_on second at)) ≡ seen_on q at
  under_by made out due change e none true dir = made_both _ _ made due dir
  under_by made out due None e none false dir =
      (λ i. unode_joined new made ((none_made made (without_dir set_by made is_unode_file (seen_on first at)) due dir ∙ file_left set_by made file_left_at dir_left_at id_left) i) ((none_made made (without_dir set_by made is_unode_file (seen_on second at)) due dir ∙ file_left set_by made file_right_at dir_right_at id_right) i))
      ∙ files_joined made (ap (option_and_then file_of) e) (undecided_at c.changeset now left right m at (undecided d n es e out (none_set c.changeset now left right m at deep dir))) dir
  under_by made out due (Some Delete) e none false dir =
      (λ i. unode_joined new made ((none_made made _ due dir ∙ nothing_left set_by made (seen_on first at)) i) ((none_made made _ due dir ∙ nothing_left set_by made (seen_on second at)) i))
      ∙ nothing (decided_none (deletes at es e) (ap (option_and_then file_of) e)) dir
  under_by made out due (Some (Set f copied)) e none false dir = absurd (cc)

  -- ---- nothing lies under it

  unrenewed : IsUnder false → is_renewed c.changeset at ≡ false
  unrenewed h = λ i. deep i || h i

  abbrev dir_of : Bool → Bool → Unode
  dir_of a b = cond (apart_by a b id_left id_right)
      (Manifest (dedup bytes_eq (one a id_left ++ one b id_right)) c.id (unode_entries_on (At c first second) at))
      (cond a (unode_at first at) (cond b (unode_at second at) no_unode))

  dirs_ids : (made : Option UnodeEntry) → IsUnder false → is_covered c.changeset at ≡ false → (unode_differ (seen_on first at) (seen_on second at) ≡ true → dir_now ≡ true → made ≡ unode_made_on q at) → DirIds made dir_left_at dir_right_at id_left id_right id_now
  dirs_ids made under uncovered due = record {
    left_only = λ h k. ap unode_id (dir_is (there ∙ (λ i. h i || k i)) ∙ (λ i. dir_of (h i) (k i)));
    right_only = λ h k. ap unode_id (dir_is (there ∙ (λ i. h i || k i)) ∙ (λ i. dir_of (h i) (k i)));
    both = λ h k e. ap unode_id (dir_is (there ∙ (λ i. h i || k i)) ∙ (λ i. dir_of (h i) (k i)) ∙ ap (λ b. cond (not b) (Manifest (dedup bytes_eq (id_left ∷ id_right ∷ [])) c.id (unode_entries_on (At c first second) at)) (unode_at first at)) e);
    made_new = λ h k e. due (differs h k e) (there ∙ (λ i. h i || k i)) ∙ ap (λ b. cond b (Some (UnodeDir id_now)) None) (there ∙ (λ i. h i || k i));
  }
    where
      there : dir_now ≡ (dir_left_at || dir_right_at)
      there = dir_either c.changeset now left right m at deep (free c.changeset now left right m at deep under uncovered)

      dir_is : dir_now ≡ true → unode_at q at ≡ dir_of dir_left_at dir_right_at
      dir_is dir =
          dir_node c first second at (now_alone c.changeset now left right m at deep dir)
          ∙ (λ i. cond (unrenewed under i || apart_by (has_is first at deep i) (has_is second at deep i) id_left id_right)
          (Manifest (dedup bytes_eq (one (has_is first at deep i) id_left ++ one (has_is second at deep i) id_right)) c.id (unode_entries_on (At c first second) at))
          (cond (has_is first at deep i) (unode_at first at) (cond (has_is second at deep i) (unode_at second at) no_unode)))

      differs : dir_left_at ≡ true → dir_right_at ≡ true → bytes_eq id_left id_right ≡ false → unode_differ (seen_on first at) (seen_on second at) ≡ true
      differs h k e =
          (λ i. unode_differ (unode_entry_for (alone left m.left_flat at deep h i) (h i) id_left) (unode_entry_for (alone right m.right_flat at deep k i) (k i) id_right))
          ∙ ap (λ b. cond b false true) e

  sides_joined : (made : Option UnodeEntry) → (unode_differ (seen_on first at) (seen_on second at) ≡ true → dir_now ≡ true → made ≡ unode_made_on q at) → IsUnder false → is_covered c.changeset at ≡ false → (f g : Option File) → file_now ≡ option_or f g
      → AreAlone f g dir_left_at dir_right_at → FileIds new f g id_left id_right id_now
      → unode_joined new made (unode_entry_for f dir_left_at id_left) (unode_entry_for g dir_right_at id_right) ≡ seen_on q at
  sides_joined made due under uncovered f g file lone ids =
      joined new made f g dir_left_at dir_right_at id_left id_right id_now lone ids (dirs_ids made under uncovered due)
      ∙ (λ i. unode_entry_for (sym file i) (sym (dir_either c.changeset now left right m at deep (free c.changeset now left right m at deep under uncovered)) i) id_now)

  pub unedited : (made : Option UnodeEntry) → (unode_differ (seen_on first at) (seen_on second at) ≡ true → dir_now ≡ true → made ≡ unode_made_on q at) → find_key path_cmp at es ≡ None → IsUnder false → is_covered c.changeset d ≡ false
      → unode_joined new made (seen_on first at) (seen_on second at) ≡ seen_on q at
  unedited made due e under out =
      sides_joined made due under (uncovered d n es e out) file_left_at file_right_at file
      (record {
        left_alone = alone left m.left_flat at deep;
        right_alone = alone right m.right_flat at deep;
        left_above = left_above c.changeset now left right m at deep every free_here;
        right_above = right_above c.changeset now left right m at deep every free_here;
      })
      (files_ids (ap (option_and_then file_of) e) file)
    where
      free_here : decides c.changeset at ≡ false
      free_here = none_decides at at (prefix_self at) es (unreached d n es e out under)

      every : (q : Path) → is_strict_prefix at q ≡ true → decides c.changeset q ≡ false
      every = free c.changeset now left right m at deep under (uncovered d n es e out)

      file : file_now ≡ option_or file_left_at file_right_at
      file = undecided_at c.changeset now left right m at free_here

  deleted : (made : Option UnodeEntry) → (unode_differ (seen_on first at) (seen_on second at) ≡ true → dir_now ≡ true → made ≡ unode_made_on q at) → find_key path_cmp at es ≡ Some Delete → IsUnder false → is_covered c.changeset d ≡ false
      → unode_joined new made (without_file set_by made is_unode_file (seen_on first at)) (without_file set_by made is_unode_file (seen_on second at)) ≡ seen_on q at
  deleted made due e under out =
      (λ i. unode_joined new made (dir_left set_by made file_left_at dir_left_at id_left (alone left m.left_flat at deep) i) (dir_left set_by made file_right_at dir_right_at id_right (alone right m.right_flat at deep) i))
      ∙ sides_joined made due under (uncovered_deleted d n es m.edits e out) None None (decided_none (deletes at es e) (ap (option_and_then file_of) e))
      (record { left_alone = λ h. refl; right_alone = λ h. refl; left_above = λ h k. none_some h k; right_above = λ h k. none_some h k })
      (no_files new id_left id_right id_now)

  -- ---- all together

  told : (made : Option UnodeEntry) → (unode_differ (seen_on first at) (seen_on second at) ≡ true → dir_now ≡ true → made ≡ unode_made_on q at) → is_covered c.changeset d ≡ false → (change : Option FileChange) → find_key path_cmp at es ≡ change → (u : Bool) → IsUnder u → (u ≡ true → made ≡ unode_made_on q at)
      → unode_joined new made (step made change u (seen_on first at)) (step made change u (seen_on second at)) ≡ seen_on q at
  told made other out (Some (Set f copied)) e u under due = set_case made f copied e u due (seen_on first at) (seen_on second at)
  told made other out None e true under due = under_by made out (due refl) None e refl dir_now refl
  told made other out (Some Delete) e true under due = under_by made out (due refl) (Some Delete) e refl dir_now refl
  told made other out None e false under due = unedited made other e under out
  told made other out (Some Delete) e false under due = deleted made other e under out

  pub unode_after : (made : Option UnodeEntry) → is_covered c.changeset d ≡ false → (list_any (λ e. is_strict_prefix at e.0) es ≡ true → made ≡ unode_made_on q at) → (unode_differ (seen_on first at) (seen_on second at) ≡ true → dir_now ≡ true → made ≡ unode_made_on q at)
      → unode_merged c.id file_now made at es (seen_on first at) (seen_on second at) ≡ seen_on q at
  unode_after made out due other =
      (λ i. unode_joined new made (folded set_by made is_unode_file at es (seen_on first at) m.edits i) (folded set_by made is_unode_file at es (seen_on second at) m.edits i))
      ∙ told made other out (find_key path_cmp at es) refl (list_any (λ e. is_strict_prefix at e.0) es) refl due
