-- Files of a past that a set or a delete takes away.
use Rattle.std.proofs.Common.{◌≡◌, ◌⊎◌, inl, inr, ℕ, suc, ◌+◌, ◌<◌, ◌≤◌, Bool, true, false, not, cond, ◌&&◌, ◌||◌, List, [], ◌∷◌, ◌++◌, length, drop, drop-cons, get_or, refl, sym, ap, subst, ◌∙◌, arith}
use Rattle.std.specs.Prelude.{Option, Some, None, is_some, option_map, ◌==◌, Result, Ok, Err, OnOk}
use Rattle.std.specs.List.{list_any}
use Rattle.std.specs.Ordering.{eq_by_cmp}
use mathlib.Core.Bool.{true≢false}
use Rattle.std.proofs.lemmas.Bool.{and_parts, false_from_ne_true, ne_eqb}
use Rattle.std.proofs.lemmas.List.{drop_all}
use Rattle.std.proofs.lemmas.List.Folds.{list_any-append}
use Rattle.byte_fields.proofs.Booleans.{or_false, and_false}
use Rattle.changeset_model.specs.Path.{Path, path_cmp, is_path, is_prefix, is_strict_prefix}
use Rattle.changeset_model.specs.Changeset.{File, FileChange}
use Rattle.history_model.specs.Past.{Past, Begin, At}
use Rattle.history_model.specs.Tree.{file_at, files_in, is_dir, tree_of}
use Rattle.bonsai.specs.declared.edit.Edit.{Edit}
use Rattle.bonsai.specs.View.{edit_view, edits_view}
use Rattle.manifest_model.specs.Unode.{UnodeEntry, UnodeFile, UnodeDir}
use Rattle.manifest_model.proofs.Deletions.{file_at-files_in}
use Rattle.manifest_model.proofs.Derivations.{tied_same, or_case as or_either}
use Rattle.manifest_laws.proofs.Lists.{none_some, true_and_false}
use Rattle.manifest_laws.proofs.Changes.{prefixes_compare}
use Rattle.manifest_laws.proofs.Steps.{both_ways}
use Rattle.manifest_laws.proofs.PastBounds.{rules_past}
use Rattle.manifest_laws.proofs.Flat.{strict_parts, strict_then, is_strict_or_same, tied_self}
use Rattle.deleted_step.specs.Steps.{is_among}
use Rattle.node_table.specs.Table.{Nodes}
use Rattle.node_table.specs.declared.roots.Roots.{Roots}
use Rattle.unode.specs.declared.entry.UnodeEntry.{UnodeEntry as RustEntry}
use Rattle.unode.specs.Parts.{entry_seen}
use Rattle.derive_step.proofs.Above.{between, one_above, all_between, above_from}
use Rattle.tree_fold.proofs.Trees.{both as and_both}
use Rattle.manifest_store.specs.Nodes.{fs_entry_under, walk}
use Rattle.merge_laws.proofs.Trees.{rules_of, flat, no_root as root_free, file_under, dir_from, no_file_at}
use Rattle.manifest_store.specs.Manifests.{IsRight}
use Rattle.manifest_store.specs.Moves.{Stands, HasPast, IsDirectory, IsEntryAt, has_file, takes_at, Adds}
use Rattle.manifest_store.proofs.Held.{fs_node, fs_walked}

-- ---- truth values

pub and_same : (b x y : Bool) → (b ≡ true → x ≡ y) → (b && x) ≡ (b && y)
and_same true x y f = f refl
and_same false x y f = refl

pub and_none : (b x : Bool) → (b ≡ true → x ≡ false) → (b && x) ≡ false
and_none true x f = f refl
and_none false x f = refl

pub one_further : (r h s l : Bool) → ((r || (h && s)) || (h && l)) ≡ (r || (h && (s || l)))
one_further true h s l = refl
one_further false true s l = refl
one_further false false s l = refl

same_if : (t b : Bool) → (t ≡ true → b ≡ true) → t ≡ (b && t)
same_if true b f = sym (ap (λ b. b && true) (f refl))
same_if false b f = sym (and_false b)

none_if : (b t : Bool) → (t ≡ true → b ≡ false) → (b && t) ≡ false
none_if b true f = ap (λ b. b && true) (f refl)
none_if b false f = and_false b

pub some_of : {X : Type 0} (o : Option X) → is_some o ≡ true → (x : X) × (o ≡ Some x)
some_of None h = absurd (true≢false (sym h))
some_of (Some x) h = (x, refl)

-- ---- what is added

pub adds_same : (P Q : Path → Bool) (old new : List Path) → ((p : Path) → P p ≡ Q p) → Adds P old new → Adds Q old new
adds_same P Q old new same a p = a p ∙ ap (λ b. is_among p old || b) (same p)

pub adds_none : (P : Path → Bool) (old : List Path) → ((p : Path) → P p ≡ false) → Adds P old old
adds_none P old none p = sym (ap (λ b. is_among p old || b) (none p) ∙ or_false (is_among p old))

pub adds_one : (P : Path → Bool) (old new : List Path) (q : Path) → new ≡ old ++ q ∷ [] → ((p : Path) → eq_by_cmp path_cmp p q ≡ P p) → Adds P old new
adds_one P old new q e same p = ap (is_among p) e ∙ list_any-append (eq_by_cmp path_cmp p) old (q ∷ []) ∙ ap (λ b. is_among p old || b) (or_false (eq_by_cmp path_cmp p q) ∙ same p)

-- a copy of the path was pushed
pub adds_copy : (P : Path → Bool) (old new : List Path) (q copy : Path) → new ≡ old ++ copy ∷ [] → copy ≡ q → ((p : Path) → eq_by_cmp path_cmp p q ≡ P p) → Adds P old new
adds_copy P old new q copy e is same = adds_one P old new q (e ∙ ap (λ x. old ++ x ∷ []) is) same

-- ---- the files of a past

module _ (past : Past) (right : IsRight past) where
  filed : (p : Path) (f : File) → tree_of past p ≡ Some f → file_at (files_in past) p ≡ Some f
  filed p f e = file_at-files_in past p ∙ e

  pub file_path : (p : Path) → has_file past p ≡ true → is_path p ≡ true
  file_path p here =
      let f = some_of (tree_of past p) here in
      (rules_past past (rules_of past right.resolved) p f.0 f.1).path

  pub apart : (p q : Path) → has_file past p ≡ true → has_file past q ≡ true → is_strict_prefix p q ≡ false
  apart p q here there = false_from_ne_true (is_strict_prefix p q) (λ under.
      let f = some_of (tree_of past p) here in
      true≢false (sym there ∙ ap is_some (sym (file_at-files_in past q) ∙ flat past right.resolved p q f.0 under (filed p f.0 f.1))))

  pub dir_above : (d q : Path) → is_strict_prefix d q ≡ true → has_file past q ≡ true → is_dir (files_in past) d ≡ true
  dir_above d q under there = let f = some_of (tree_of past q) there in dir_from (files_in past) d q f.0 under (filed q f.0 f.1)

  pub no_root : has_file past [] ≡ false
  no_root = ap is_some (root_free past right.resolved)

  -- no file lies above a directory
  pub none_above : (d p : Path) → (length d == 0) ≡ false → is_dir (files_in past) d ≡ true → has_file past p ≡ true → is_strict_prefix p d ≡ false
  none_above d p deep dir here = false_from_ne_true (is_strict_prefix p d) (λ under.
      let found = file_under (files_in past) d deep dir in
      let long = strict_then p d found.0 under (strict_parts d found.0 found.2).0 in
      true≢false (sym long ∙ apart p found.0 here (ap is_some (sym (file_at-files_in past found.0) ∙ found.3))))

  -- ---- a set

  pub taken_above : (q p : Path) → is_dir (files_in past) q ≡ false → (has_file past p && is_strict_prefix p q) ≡ (has_file past p && takes_at q p)
  taken_above q p out = and_same (has_file past p) (is_strict_prefix p q) (takes_at q p) (λ here.
      let none = false_from_ne_true (is_strict_prefix q p) (λ under. true≢false (sym (dir_above q p under here) ∙ out)) in
      sym (ap (λ b. is_strict_prefix p q || b) none ∙ or_false (is_strict_prefix p q)))

  pub taken_under : (q p : Path) → (length q == 0) ≡ false → is_dir (files_in past) q ≡ true → (has_file past p && is_strict_prefix q p) ≡ (has_file past p && takes_at q p)
  taken_under q p deep dir = and_same (has_file past p) (is_strict_prefix q p) (takes_at q p) (λ here. sym (ap (λ b. b || is_strict_prefix q p) (none_above q p deep dir here)))

  pub taken_nowhere : (q p : Path) → has_file past q ≡ true → (has_file past p && takes_at q p) ≡ false
  taken_nowhere q p at = and_none (has_file past p) (takes_at q p) (λ here i. apart p q here at i || apart q p at here i)

  -- ---- the path itself

  pub itself_there : (q p : Path) → has_file past q ≡ true → eq_by_cmp path_cmp p q ≡ (has_file past p && eq_by_cmp path_cmp p q)
  itself_there q p at = same_if (eq_by_cmp path_cmp p q) (has_file past p) (λ t. ap (has_file past) (tied_same p q t) ∙ at)

  pub itself_new : (q p : Path) → has_file past q ≡ false → eq_by_cmp path_cmp p q ≡ (not (has_file past p) && eq_by_cmp path_cmp p q)
  itself_new q p out = same_if (eq_by_cmp path_cmp p q) (not (has_file past p)) (λ t. ap (λ x. not (has_file past x)) (tied_same p q t) ∙ ap not out)

  pub itself_absent : (q p : Path) → has_file past q ≡ false → (has_file past p && eq_by_cmp path_cmp p q) ≡ false
  itself_absent q p out = none_if (has_file past p) (eq_by_cmp path_cmp p q) (λ t. ap (has_file past) (tied_same p q t) ∙ out)

  pub itself_old : (q p : Path) → has_file past q ≡ true → (not (has_file past p) && eq_by_cmp path_cmp p q) ≡ false
  itself_old q p at = none_if (not (has_file past p)) (eq_by_cmp path_cmp p q) (λ t. ap (λ x. not (has_file past x)) (tied_same p q t) ∙ ap not at)

-- ---- what is at a path

placed : (past : Past) (p : Path) (b : Bool) (o : Option File) → is_dir (files_in past) p ≡ b → tree_of past p ≡ o → (b ≡ true → o ≡ None) → IsEntryAt past p (cond b (Some (UnodeDir (fs_node past p))) (option_map (λ f. UnodeFile f.content) o))
placed past p true o dir at alone = (ap is_some (at ∙ alone refl), (dir, refl))
placed past p false (Some f) dir at alone = ap is_some at
placed past p false None dir at alone = (ap is_some at, dir)

pub entry_walked : (m : Nodes) (past : Past) (r : Roots) (p : Path) (o : Option UnodeEntry) → Stands m (Some r) past → o ≡ walk (fs_entry_under m) (UnodeDir r.fsnode) p → IsEntryAt past p o
entry_walked m past r p o s e =
    subst (IsEntryAt past p) (sym (e ∙ fs_walked m past s.right s.held r s.roots p)) (placed past p (is_dir (files_in past) p) (tree_of past p) refl refl (no_file_at past p s.right.resolved))

some_path : (p : Path) → 0 < length p → (length p == 0) ≡ false
some_path p some = ne_eqb (length p) 0 (λ e. absurd (omega arith))

-- nothing is there before the first changeset
pub nothing_walked : (m : Nodes) (past : Past) (p : Path) → 0 < length p → Stands m None past → IsEntryAt past p None
nothing_walked m Begin p some s = (refl, λ i. some_path p some i || false)
nothing_walked m (At c first second) p some s = none_some _ s.roots

-- ---- an entry that was found

abbrev pub Found : Past → Path → Option RustEntry → Type 0
Found past p o = IsEntryAt past p (option_map entry_seen o)

pub found_file : (past : Past) (p : Path) (o : Option RustEntry) (e : RustEntry) (x : List ℕ) → o ≡ Some e → entry_seen e ≡ UnodeFile x → Found past p o → has_file past p ≡ true
found_file past p o e x is file f = subst (λ o. IsEntryAt past p o) (ap (option_map entry_seen) is ∙ ap Some file) f

pub found_dir : (past : Past) (p : Path) (o : Option RustEntry) (e : RustEntry) (x : List ℕ) → o ≡ Some e → entry_seen e ≡ UnodeDir x → Found past p o → (has_file past p ≡ false) × IsDirectory past p x
found_dir past p o e x is dir f = subst (λ o. IsEntryAt past p o) (ap (option_map entry_seen) is ∙ ap Some dir) f

pub found_none : (past : Past) (p : Path) (o : Option RustEntry) → o ≡ None → Found past p o → (has_file past p ≡ false) × (is_dir (files_in past) p ≡ false)
found_none past p o is f = subst (λ o. IsEntryAt past p o) (ap (option_map entry_seen) is) f

-- ---- the file above a path

module _ (past : Past) (right : IsRight past) (q : Path) where
  pub only_above : (a p : Path) → has_file past a ≡ true → is_strict_prefix a q ≡ true → eq_by_cmp path_cmp p a ≡ (has_file past p && is_strict_prefix p q)
  only_above a p at under = both_ways (eq_by_cmp path_cmp p a) (has_file past p && is_strict_prefix p q) there back
    where
      there : eq_by_cmp path_cmp p a ≡ true → (has_file past p && is_strict_prefix p q) ≡ true
      there t = let same = tied_same p a t in and_both (has_file past p) (is_strict_prefix p q) (ap (has_file past) same ∙ at) (ap (λ x. is_strict_prefix x q) same ∙ under)

      back : (has_file past p && is_strict_prefix p q) ≡ true → eq_by_cmp path_cmp p a ≡ true
      back h =
          let parts = and_parts (has_file past p) (is_strict_prefix p q) h in
          or_either (is_prefix a p) (is_prefix p a) (λ g. above (is_strict_or_same a p g)) (λ g. below (is_strict_or_same p a g)) (prefixes_compare p a q (strict_parts p q parts.1).0 (strict_parts a q under).0)
        where
          parts : (has_file past p ≡ true) × (is_strict_prefix p q ≡ true)
          parts = and_parts (has_file past p) (is_strict_prefix p q) h

          above : (p ≡ a) ⊎ (is_strict_prefix a p ≡ true) → eq_by_cmp path_cmp p a ≡ true
          above (inl e) = ap (λ x. eq_by_cmp path_cmp x a) e ∙ tied_self a
          above (inr more) = true_and_false (is_strict_prefix a p) more (apart past right a p at parts.0)

          below : (a ≡ p) ⊎ (is_strict_prefix p a ≡ true) → eq_by_cmp path_cmp p a ≡ true
          below (inl e) = ap (eq_by_cmp path_cmp p) e ∙ tied_self p
          below (inr more) = true_and_false (is_strict_prefix p a) more (apart past right p a parts.0 at)

  -- the directory above the text is no file
  pub no_file_so_far : (a t p : Path) (n : List ℕ) → t ≡ a ++ n ∷ [] → is_prefix t q ≡ true → has_file past a ≡ false → (has_file past p && between t q p) ≡ false → (has_file past p && between a q p) ≡ false
  no_file_so_far a t p n cut front out none = ap (λ b. has_file past p && b) (sym (one_above a t q p n cut front)) ∙ by (eq_by_cmp path_cmp a p) refl
    where
      by : (b : Bool) → eq_by_cmp path_cmp a p ≡ b → (has_file past p && cond b true (between t q p)) ≡ false
      by true same = ap (λ x. has_file past x && true) (sym (tied_same a p same)) ∙ ap (λ b. b && true) out
      by false apart = none

  -- the text is one element
  pub no_file_above : (t p : Path) (n : List ℕ) → t ≡ n ∷ [] → is_prefix t q ≡ true → (has_file past p && between t q p) ≡ false → (has_file past p && is_strict_prefix p q) ≡ false
  no_file_above t p n alone front none = by p refl
    where
      by : (x : Path) → p ≡ x → (has_file past p && is_strict_prefix p q) ≡ false
      by [] e = ap (λ x. has_file past x && is_strict_prefix x q) e ∙ ap (λ b. b && is_strict_prefix [] q) (no_root past right)
      by (k ∷ x) e = and_none (has_file past p) (is_strict_prefix p q) (λ here. false_from_ne_true (is_strict_prefix p q) (λ under.
          true≢false (sym (and_both (has_file past p) (between t q p) here (all_between t q p n alone front ∙ above_from p q (let long = ap length e in omega arith) under)) ∙ none)))

-- ---- where a call that adds comes last

pub then_same : {X E : Type 0} (r : Result X E) (P Q : Path → Bool) (old new : List Path) → ((p : Path) → P p ≡ Q p) → OnOk r (Adds P old new) → OnOk r (Adds Q old new)
then_same (Ok x) P Q old new same a = adds_same P Q old new same a
then_same (Err e) P Q old new same a = tt

pub then_that : {X E : Type 0} {T : Type 0} (r : Result X E) → T → OnOk r T
then_that (Ok x) h = h
then_that (Err e) h = tt

pub deep_path : (p : Path) → 0 < length p → (length p == 0) ≡ false
deep_path p some = some_path p some

-- where a directory is, there is a changeset
pub past_there : (m : Nodes) (parent : Option Roots) (past : Past) (d : Path) → 0 < length d → Stands m parent past → is_dir (files_in past) d ≡ true → HasPast m past
past_there m parent Begin d some s dir = absurd (true≢false (sym dir ∙ (λ i. some_path d some i || false)))
past_there m parent (At c first second) d some s dir = (s.right, s.held)

-- ---- edit by edit

pub from_here : {X : Type 0} (xs : List X) (i : ℕ) (x : X) → i < length xs → x ≡ get_or xs i x → drop i xs ≡ x ∷ drop (i + 1) xs
from_here xs i x less is = drop-cons xs i x less ∙ (λ k. sym is k ∷ drop (sym (one i) k) xs)
  where
    one : (i : ℕ) → i + 1 ≡ suc i
    one i = omega arith

pub next_adds : (b : Bool) (t : Path × FileChange → Bool) (es : List Edit) (i : ℕ) (x : Edit) (was now all : Bool) → i < length es → x ≡ get_or es i x → now ≡ (was || (b && t (edit_view x))) → (was || (b && list_any t (edits_view (drop i es)))) ≡ all → (now || (b && list_any t (edits_view (drop (i + 1) es)))) ≡ all
next_adds b t es i x was now all less is more before =
    ap (λ now. now || (b && list_any t (edits_view (drop (i + 1) es)))) more
    ∙ one_further was b (t (edit_view x)) (list_any t (edits_view (drop (i + 1) es)))
    ∙ ap (λ es. was || (b && list_any t (edits_view es))) (sym (from_here es i x less is))
    ∙ before

pub all_added : (b : Bool) (t : Path × FileChange → Bool) (es : List Edit) (i : ℕ) (now all : Bool) → length es ≤ i → (now || (b && list_any t (edits_view (drop i es)))) ≡ all → now ≡ all
all_added b t es i now all most h = sym (ap (λ x. now || x) (ap (λ es. b && list_any t (edits_view es)) (drop_all i es most) ∙ and_false b) ∙ or_false now) ∙ h
