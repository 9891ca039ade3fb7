-- The entry of a name in an fsnode after a changeset with two parents, from both parents' entries.
use Rattle.std.proofs.Common.{◌≡◌, ℕ, Bool, true, false, cond, ◌||◌, List, [], ◌∷◌, ◌++◌, length, refl, sym, ap, ◌∙◌}
use Rattle.std.specs.Prelude.{Option, Some, None, bytes_eq, is_some, ◌==◌}
use mathlib.Core.Bool.{true≢false}
use Rattle.std.specs.List.{list_any}
use Rattle.std.specs.Option.{option_map_or, option_or, option_and_then}
use Rattle.std.specs.FinMap.{find as find_key}
use Rattle.std.proofs.lemmas.Bool.{false_from_ne_true}
use Rattle.changeset_model.specs.Path.{Path, path_cmp, is_strict_prefix}
use Rattle.changeset_model.specs.Changeset.{File, CopySource, FileChange, Set, Delete, Changeset, file_of}
use Rattle.history_model.specs.Tree.{decides, file_at, is_dir}
use Rattle.history_model.proofs.Landings.{prefix_self}
use Rattle.manifest_model.specs.Fsnode.{Fsnode, FsEntry, FsFile, FsDir, fs_dir, fsnode, fsnode_id}
use Rattle.manifest_laws.specs.Changes.{is_covered}
use Rattle.manifest_laws.specs.Entries.{fs_entry_at}
use Rattle.manifest_laws.specs.EntryEdits.{without_file, without_dir, entry_by, fs_set, is_fs_file, fs_made}
use Rattle.manifest_laws.proofs.Changes.{none_decides}
use Rattle.manifest_laws.proofs.Folded.{folded}
use Rattle.manifest_laws.proofs.Fsnodes.{entry_is, same_node}
use Rattle.manifest_laws.proofs.Lists.{none_some, true_and_false}
use Rattle.manifest_laws.proofs.Names.{name_itself, same_name}
use Rattle.manifest_laws.proofs.Reach.{covers_decides, covers_push, deletes, uncovered, uncovered_deleted, undecided, unreached}
use Rattle.manifest_laws.proofs.Unodes.{not_root}
use Rattle.merge_laws.specs.Joined.{fs_joined, fs_merged, fs_differ}
use Rattle.merge_laws.proofs.Trees.{Files, Merges, alone}
use Rattle.merge_laws.proofs.Sides.{both_alike, decided_at, dir_either, free, left_above, left_only, no_dir_covered, none_set, now_alone, right_above, right_only, set_is, undecided_at}

-- the entry of a file, if there is one, and else of a directory, if one is there
abbrev pub fs_entry_for : Option File → Bool → Fsnode → Option FsEntry
fs_entry_for f b node = cond (is_some f || b) (Some (option_map_or FsFile f (fs_dir node))) None

-- ---- joining

-- two sides, and what is there afterwards
record IsJoined (made : Option FsEntry) (f g : Option File) (a b : Bool) (x y z : Fsnode) : Type 0 where
  left_alone : a ≡ true → f ≡ None
  right_alone : b ≡ true → g ≡ None
  left_above : (h : File) → f ≡ Some h → b ≡ false
  right_above : (h : File) → g ≡ Some h → a ≡ false
  left_only : a ≡ true → b ≡ false → z ≡ x
  right_only : a ≡ false → b ≡ true → z ≡ y
  both : a ≡ true → b ≡ true → bytes_eq (fsnode_id x) (fsnode_id y) ≡ true → z ≡ x
  made_new : a ≡ true → b ≡ true → bytes_eq (fsnode_id x) (fsnode_id y) ≡ false → made ≡ Some (fs_dir z)

joined_dirs : (made : Option FsEntry) (x y z : Fsnode) (b : Bool) → bytes_eq (fsnode_id x) (fsnode_id y) ≡ b → (b ≡ true → z ≡ x) → (b ≡ false → made ≡ Some (fs_dir z)) → cond b (Some (fs_dir x)) made ≡ Some (fs_dir z)
joined_dirs made x y z true e same new = ap (λ n. Some (fs_dir n)) (sym (same refl))
joined_dirs made x y z false e same new = new refl

joined : (made : Option FsEntry) (f g : Option File) (a b : Bool) (x y z : Fsnode) → IsJoined made f g a b x y z → fs_joined made (fs_entry_for f a x) (fs_entry_for g b y) ≡ fs_entry_for (option_or f g) (a || b) z
joined made (Some f) g true b x y z h = none_some f (sym (h.left_alone refl))
joined made (Some f) g false true x y z h = true_and_false true refl (h.left_above f refl)
joined made (Some f) (Some g) false false x y z h = refl
joined made (Some f) None false false x y z h = refl
joined made None (Some g) a true x y z h = none_some g (sym (h.right_alone refl))
joined made None (Some g) true false x y z h = true_and_false true refl (h.right_above g refl)
joined made None (Some g) false false x y z h = refl
joined made None None true true x y z h = joined_dirs made x y z (bytes_eq (fsnode_id x) (fsnode_id y)) refl (h.both refl refl) (h.made_new refl refl)
joined made None None true false x y z h = ap (λ n. Some (fs_dir n)) (sym (h.left_only refl refl))
joined made None None false true x y z h = ap (λ n. Some (fs_dir n)) (sym (h.right_only refl refl))
joined made None None false false x y z h = refl

-- ---- what an edit leaves of one side

dir_left : (made : Option FsEntry) (f : Option File) (b : Bool) (x : Fsnode) → (b ≡ true → f ≡ None) → without_file fs_set made is_fs_file (fs_entry_for f b x) ≡ fs_entry_for None b x
dir_left made (Some f) true x alone = none_some f (sym (alone refl))
dir_left made (Some f) false x alone = refl
dir_left made None true x alone = refl
dir_left made None false x alone = refl

file_left : (made : Option FsEntry) (f : Option File) (b : Bool) (x : Fsnode) → without_dir fs_set made is_fs_file (fs_entry_for f b x) ≡ fs_entry_for f false x
file_left made (Some f) b x = refl
file_left made None true x = refl
file_left made None false x = refl

nothing_left : (made o : Option FsEntry) → without_dir fs_set made is_fs_file (without_file fs_set made is_fs_file o) ≡ None
nothing_left made None = refl
nothing_left made (Some (FsFile f)) = refl
nothing_left made (Some (FsDir x s)) = refl

-- ---- the entry of a name

module _ (c : Changeset) (now left right : Files) (m : Merges c now left right) (d : Path) (n : List ℕ) where
  abbrev at : Path
  at = d ++ n ∷ []

  deep : (length at == 0) ≡ false
  deep = not_root d n

  abbrev entry : Files → Option FsEntry
  entry fs = fs_entry_at (fsnode fs d) n

  abbrev seen : Files → Option FsEntry
  seen fs = fs_entry_for (file_at fs at) (is_dir fs at) (fsnode fs at)

  abbrev IsUnder : Bool → Type 0
  IsUnder b = list_any (λ e. is_strict_prefix at e.0) c.changes ≡ b

  abbrev IsTold : Type 0
  IsTold = is_dir left at ≡ true → is_dir right at ≡ true → fsnode_id (fsnode left at) ≡ fsnode_id (fsnode right at) → (q : Path) → is_strict_prefix at q ≡ true → file_at left q ≡ file_at right q

  abbrev step : (made : Option FsEntry) → Option FileChange → Bool → Option FsEntry → Option FsEntry
  step made change u o = entry_by fs_set made is_fs_file change u o

  -- a file is set
  set_case : (made : Option FsEntry) (f : File) (copied : Option CopySource) → find_key path_cmp at c.changes ≡ Some (Set f copied) → (u : Bool) → (u ≡ true → made ≡ fs_made now at) → (o p : Option FsEntry)
      → fs_joined made (step made (Some (Set f copied)) u o) (step made (Some (Set f copied)) u p) ≡ seen now
  set_case made f copied e u due o p = by u due
    where
      there : file_at now at ≡ Some f
      there = set_is c now left right m at f (ap (option_and_then file_of) e)

      no_dir : is_dir now at ≡ false
      no_dir = false_from_ne_true (is_dir now at) (λ h. none_some f (sym (now_alone c now left right m at deep h) ∙ there))

      same : Some (FsFile f) ≡ seen now
      same = λ i. fs_entry_for (sym there i) (is_dir now at) (fsnode now at)

      by : (u : Bool) → (u ≡ true → made ≡ fs_made now at) → fs_joined made (step made (Some (Set f copied)) u o) (step made (Some (Set f copied)) u p) ≡ seen now
      by false due = same
      by true due = ap (λ x. fs_joined made (option_or x (Some (FsFile f))) (option_or x (Some (FsFile f)))) (due refl ∙ ap (λ b. cond b (Some (fs_dir (fsnode now at))) None) no_dir) ∙ same

  -- what decides the path and sets nothing leaves no file
  decided_none : decides c at ≡ true → option_and_then file_of (find_key path_cmp at c.changes) ≡ None → file_at now at ≡ None
  decided_none decided none = decided_at c now left right m at decided ∙ none

  nothing : file_at now at ≡ None → is_dir now at ≡ false → ◌≡◌ {A = Option FsEntry} None (seen now)
  nothing file dir = λ i. fs_entry_for (sym file i) (sym dir i) (fsnode now at)

  -- files alone
  files_joined : (made : Option FsEntry) → (f g : Option File) → file_at now at ≡ option_or f g → is_dir now at ≡ false → fs_joined made (fs_entry_for f false (fsnode left at)) (fs_entry_for g false (fsnode right at)) ≡ seen now
  files_joined made f g file dir =
      joined made f g false false (fsnode left at) (fsnode right at) (fsnode now at) (record {
        left_alone = λ h. absurd (true≢false (sym h));
        right_alone = λ h. absurd (true≢false (sym h));
        left_above = λ h e. refl;
        right_above = λ h e. refl;
        left_only = λ h e. absurd (true≢false (sym h));
        right_only = λ h e. absurd (true≢false (sym e));
        both = λ h e g. absurd (true≢false (sym h));
        made_new = λ h e g. absurd (true≢false (sym h));
      })
      ∙ (λ i. fs_entry_for (sym file i) (sym dir i) (fsnode now at))

  -- ---- an edit lies under it

  made_both : (x y : Option FsEntry) (made : Option FsEntry) → made ≡ fs_made now at → is_dir now at ≡ true → fs_joined made (option_or made x) (option_or made y) ≡ seen now
  made_both x y made due dir =
      ap (λ e. fs_joined e (option_or e x) (option_or e y)) (due ∙ ap (λ b. cond b (Some (fs_dir (fsnode now at))) None) dir)
      ∙ ap (λ b. cond b (Some (fs_dir (fsnode now at))) (Some (fs_dir (fsnode now at)))) (name_itself (fsnode_id (fsnode now at)))
      ∙ (λ i. fs_entry_for (sym (now_alone c now left right m at deep dir) i) (sym dir i) (fsnode now at))

  none_made : (made x : Option FsEntry) → made ≡ fs_made now at → is_dir now at ≡ false → option_or made x ≡ x
  none_made made x due dir = ap (λ e. option_or e x) (due ∙ ap (λ b. cond b (Some (fs_dir (fsnode now at))) None) dir)

  under_none : (made : Option FsEntry) → find_key path_cmp at c.changes ≡ None → is_dir now at ≡ false → (v : Bool) → is_covered c d ≡ v
      → fs_joined made (without_dir fs_set made is_fs_file (cond v None (seen left))) (without_dir fs_set made is_fs_file (cond v None (seen right))) ≡ seen now
  under_none made e dir true out = nothing (decided_none (covers_decides at c.changes (covers_push d n c.changes out)) (ap (option_and_then file_of) e)) dir
  under_none made e dir false out =
      (λ i. fs_joined made (file_left made (file_at left at) (is_dir left at) (fsnode left at) i) (file_left made (file_at right at) (is_dir right at) (fsnode right at) i))
      ∙ files_joined made (file_at left at) (file_at right at) (undecided_at c now left right m at (undecided d n c.changes e out (none_set c now left right m at deep dir))) dir

  under_by : (made : Option FsEntry) → made ≡ fs_made now at → (change : Option FileChange) → find_key path_cmp at c.changes ≡ change → option_and_then file_of change ≡ None → (b : Bool) → is_dir now at ≡ b → (v : Bool) → is_covered c d ≡ v
      → fs_joined made (step made change true (cond v None (seen left))) (step made change true (cond v None (seen right))) ≡ seen now
  under_by made due change e none true dir v out = made_both _ _ made due dir
  under_by made due None e none false dir v out =
      (λ i. fs_joined made (none_made made (without_dir fs_set made is_fs_file (cond v None (seen left))) due dir i) (none_made made (without_dir fs_set made is_fs_file (cond v None (seen right))) due dir i))
      ∙ under_none made e dir v out
  under_by made due (Some Delete) e none false dir v out =
      (λ i. fs_joined made ((none_made made _ due dir ∙ nothing_left made (cond v None (seen left))) i) ((none_made made _ due dir ∙ nothing_left made (cond v None (seen right))) i))
      ∙ nothing (decided_none (deletes at c.changes e) (ap (option_and_then file_of) e)) dir
  under_by made due (Some (Set f copied)) e none false dir v out = absurd (cc)

  -- ---- nothing lies under it

  covered_none : (change : Option FileChange) → find_key path_cmp at c.changes ≡ change → option_and_then file_of change ≡ None → IsUnder false → is_covered c d ≡ true → ◌≡◌ {A = Option FsEntry} None (seen now)
  covered_none change e none under out = nothing (decided_none (covers_decides at c.changes covered) (ap (option_and_then file_of) e ∙ none)) gone
    where
      covered : is_covered c at ≡ true
      covered = covers_push d n c.changes out

      gone : is_dir now at ≡ false
      gone = no_dir_covered c now left right m at deep under covered

  -- both sides, of which the edits leave these files at the path itself
  sides_joined : (made : Option FsEntry) → IsTold → (fs_differ (seen left) (seen right) ≡ true → is_dir now at ≡ true → made ≡ fs_made now at) → IsUnder false → is_covered c at ≡ false → (f g : Option File)
      → file_at now at ≡ option_or f g → (is_dir left at ≡ true → f ≡ None) → (is_dir right at ≡ true → g ≡ None) → ((h : File) → f ≡ Some h → is_dir right at ≡ false) → ((h : File) → g ≡ Some h → is_dir left at ≡ false)
      → fs_joined made (fs_entry_for f (is_dir left at) (fsnode left at)) (fs_entry_for g (is_dir right at) (fsnode right at)) ≡ seen now
  sides_joined made told new under uncovered f g file l r la ra =
      joined made f g (is_dir left at) (is_dir right at) (fsnode left at) (fsnode right at) (fsnode now at) (record {
        left_alone = l;
        right_alone = r;
        left_above = la;
        right_above = ra;
        left_only = λ h k. same_node now left at (left_only c now left right m at deep all h k);
        right_only = λ h k. same_node now right at (right_only c now left right m at deep all h k);
        both = λ h k e. same_node now left at (both_alike c now left right m at deep all h (told h k (same_name (fsnode_id (fsnode left at)) (fsnode_id (fsnode right at)) e)));
        made_new = λ h k e. new (differs h k e) (dir_either c now left right m at deep all ∙ ap (λ b. b || is_dir right at) h) ∙ ap (λ b. cond b (Some (fs_dir (fsnode now at))) None) (dir_either c now left right m at deep all ∙ ap (λ b. b || is_dir right at) h);
      })
      ∙ (λ i. fs_entry_for (sym file i) (sym (dir_either c now left right m at deep all) i) (fsnode now at))
    where
      all : (q : Path) → is_strict_prefix at q ≡ true → decides c q ≡ false
      all = free c now left right m at deep under uncovered

      differs : is_dir left at ≡ true → is_dir right at ≡ true → bytes_eq (fsnode_id (fsnode left at)) (fsnode_id (fsnode right at)) ≡ false → fs_differ (seen left) (seen right) ≡ true
      differs h k e =
          (λ i. fs_differ (fs_entry_for (alone left m.left_flat at deep h i) (h i) (fsnode left at)) (fs_entry_for (alone right m.right_flat at deep k i) (k i) (fsnode right at)))
          ∙ ap (λ b. cond b false true) e

  -- ---- all together

  told : (made : Option FsEntry) → IsTold → (fs_differ (seen left) (seen right) ≡ true → is_dir now at ≡ true → made ≡ fs_made now at) → (change : Option FileChange) → find_key path_cmp at c.changes ≡ change → (u : Bool) → IsUnder u → (u ≡ true → made ≡ fs_made now at) → (v : Bool) → is_covered c d ≡ v
      → fs_joined made (step made change u (cond v None (seen left))) (step made change u (cond v None (seen right))) ≡ seen now
  told made tell new (Some (Set f copied)) e u under due v out = set_case made f copied e u due (cond v None (seen left)) (cond v None (seen right))
  told made tell new None e true under due v out = under_by made (due refl) None e refl (is_dir now at) refl v out
  told made tell new (Some Delete) e true under due v out = under_by made (due refl) (Some Delete) e refl (is_dir now at) refl v out
  told made tell new None e false under due true out = covered_none None e refl under out
  told made tell new (Some Delete) e false under due true out = covered_none (Some Delete) e refl under out
  told made tell new None e false under due false out =
      sides_joined made tell new under (uncovered d n c.changes e out) (file_at left at) (file_at right at) (undecided_at c now left right m at free_here)
      (alone left m.left_flat at deep) (alone right m.right_flat at deep)
      (left_above c now left right m at deep all free_here) (right_above c now left right m at deep all free_here)
    where
      free_here : decides c at ≡ false
      free_here = none_decides at at (prefix_self at) c.changes (unreached d n c.changes e out under)

      all : (q : Path) → is_strict_prefix at q ≡ true → decides c q ≡ false
      all = free c now left right m at deep under (uncovered d n c.changes e out)
  told made tell new (Some Delete) e false under due false out =
      (λ i. fs_joined made (dir_left made (file_at left at) (is_dir left at) (fsnode left at) (alone left m.left_flat at deep) i) (dir_left made (file_at right at) (is_dir right at) (fsnode right at) (alone right m.right_flat at deep) i))
      ∙ sides_joined made tell new under (uncovered_deleted d n c.changes m.edits e out) None None (decided_none (deletes at c.changes e) (ap (option_and_then file_of) e))
      (λ h. refl) (λ h. refl) (λ h k. none_some h k) (λ h k. none_some h k)

  fs_is : (fs : Files) → entry fs ≡ seen fs
  fs_is fs = entry_is fs d n

  pub fs_after : (made : Option FsEntry) → IsTold → (list_any (λ e. is_strict_prefix at e.0) c.changes ≡ true → made ≡ fs_made now at) → (fs_differ (entry left) (entry right) ≡ true → is_dir now at ≡ true → made ≡ fs_made now at)
      → fs_merged made at c.changes (cond (is_covered c d) None (entry left)) (cond (is_covered c d) None (entry right)) ≡ entry now
  fs_after made tell due new =
      (λ i. fs_joined made (folded fs_set made is_fs_file at c.changes (cond (is_covered c d) None (fs_is left i)) m.edits i) (folded fs_set made is_fs_file at c.changes (cond (is_covered c d) None (fs_is right i)) m.edits i))
      ∙ told made tell (λ h. new ((λ i. fs_differ (fs_is left i) (fs_is right i)) ∙ h)) (find_key path_cmp at c.changes) refl (list_any (λ e. is_strict_prefix at e.0) c.changes) refl due (is_covered c d) refl
      ∙ sym (fs_is now)
