-- A derivation from its directories.
use Rattle.std.proofs.Common.{◌≡◌, ◌⊎◌, inl, inr, ℕ, Bool, true, false, cond, not, ◌&&◌, ◌||◌, List, [], ◌∷◌, ◌++◌, length, reverse, refl, sym, ap, subst, ◌∙◌, arith, append-nil}
use Rattle.std.specs.Prelude.{Contains, flat_map, bytes_eq, Option, None, Some, option_map, ◌==◌}
use mathlib.Core.Bool.{true≢false}
use mathlib.Core.List.{reverse-cons}
use Rattle.std.specs.List.{AllByRecursion, list_any}
use Rattle.std.specs.List.Sorted.{IsStrictlySortedBy}
use Rattle.std.specs.Arc.{arc_value}
use Rattle.std.specs.BTreeMap.{BTreeMap, get}
use Rattle.std.specs.BTreeSet.{BTreeSet, contains}
use Rattle.std.proofs.lemmas.Bool.{ne_eqb, false_from_ne_true, or_left, or_right}
use Rattle.std.proofs.lemmas.List.{length-append}
use Rattle.std.proofs.lemmas.Grind.{flat_map-append}
use Rattle.byte_fields.specs.Bytes.{Id}
use Rattle.byte_fields.proofs.Booleans.{and_false, or_false}
use Rattle.changeset_model.specs.Path.{Path, path_cmp, is_strict_prefix}
use Rattle.changeset_model.specs.Changeset.{Changeset}
use Rattle.history_model.specs.History.{Known}
use Rattle.history_model.specs.Past.{Past, Begin, At}
use Rattle.manifest_model.specs.Unode.{is_renewed, unode_id}
use Rattle.manifest_model.specs.Merged.{unode_at}
use Rattle.manifest_model.proofs.Derivations.{or_case as or_either}
use Rattle.merge_laws.specs.Joined.{dirs_differ}
use Rattle.merge_laws.specs.Resolved.{has_dir}
use Rattle.deleted_step.specs.declared.done.Done.{Done as DeletedDone}
use Rattle.deleted_step.specs.Steps.{AreGiven, IsDoneOf as AreDeletedOf, root_on}
use Rattle.derive_step.specs.declared.job.DirIds.{DirIds}
use Rattle.derive_step.specs.declared.job.DirNodes.{DirNodes}
use Rattle.derive_step.specs.declared.job.Job.{Job}
use Rattle.derive_step.specs.declared.job.Parent.{Parent}
use Rattle.derive_step.specs.declared.done.Done.{Done}
use Rattle.derive_step.specs.declared.made.Made.{Made}
use Rattle.derive_step.specs.Views.{are_apart, are_held_apart, before_seen, first_of, held_in, nodes_before, roots_before, second_of}
use Rattle.derive_step.specs.Pasts.{IsDoneAt, IsJobAt, all_nodes_of, is_touched, nodes_in_past, nodes_of, roots_of}
use Rattle.derive_step.specs.Touched.{differ_in, is_above}
use Rattle.derive_step.specs.Renewal.{AreBefore, ArePutFor, AreRenewed, AreTouched, IsDue, IsMadeUnder, dir_nodes, ids_at, is_gone_through}
use Rattle.derive_step.proofs.Gone.{above_any, above_some, put_more, touched_under, under_any}
use Rattle.derive_step.proofs.Lines.{none_differ}
use Rattle.derive_step.proofs.Members.{Has, any_has, has_left, has_right}
use Rattle.derive_step.proofs.PastNodes.{all_right, all_whole}
use Rattle.derive_step.proofs.Few.{few_put}

has_reverse : (xs : List Path) (x : Path) → Has xs x → Has (reverse xs) x
has_reverse [] x h = absurd h
has_reverse (y ∷ xs) x (inl e) = subst (λ ys. Has ys x) (sym (reverse-cons y xs)) (has_right (reverse xs) (y ∷ []) x (inl e))
has_reverse (y ∷ xs) x (inr h) = subst (λ ys. Has ys x) (sym (reverse-cons y xs)) (has_left (reverse xs) (y ∷ []) x (has_reverse xs x h))

-- both parents' nodes of a directory differ where the definitions' do
apart_is : (first second : Past) (d : Path) → are_apart (nodes_of first d) (nodes_of second d) ≡ dirs_differ first second d
apart_is first second d = by (has_dir first d) (has_dir second d)
  where
    by : (a b : Bool) → are_apart (cond a (Some (nodes_in_past first d)) None) (cond b (Some (nodes_in_past second d)) None) ≡ (a && (b && not (bytes_eq (unode_id (unode_at first d)) (unode_id (unode_at second d)))))
    by true true = refl
    by true false = refl
    by false b = refl

module _ (c : Known) (first second : Past) (job : Job) (of : IsJobAt c first second job) where
  pub is_due : (commit : Changeset) → commit ≡ arc_value job.commit → IsDue c first second commit
  is_due commit is = record { sound = of.sound; changeset = is ∙ of.changeset; id = of.id }

  pub are_before : (past : Past) (parent : Option Parent) (dirs : BTreeMap Path DirNodes) → ((n : List ℕ) (d : Path) → option_map before_seen (get path_cmp dirs (n ∷ d)) ≡ nodes_before parent (n ∷ d))
      → ((d : Path) → is_touched c first second d ≡ true → nodes_before parent d ≡ nodes_of past d) → AreBefore c first second past dirs
  are_before past parent dirs told nodes [] some touched = absurd (omega arith)
  are_before past parent dirs told nodes (n ∷ d) some touched = told n d ∙ nodes (n ∷ d) touched

  pub deleted_given : (x : Id) (top : Option Id) → x ≡ c.id → top ≡ option_map (λ r. r.deleted) (roots_before (first_of job.parents)) → AreGiven (held_in job.deletions.nodes) top c first second x job.deletions.gone.items job.deletions.come.items
  deleted_given x top id is = record { id = id; root = is ∙ ap (option_map (λ r. r.deleted)) of.first_roots ∙ root_is first; held = of.held; files = of.files }
    where
      root_is : (past : Past) → option_map (λ r. r.deleted) (roots_of past) ≡ root_on past
      root_is Begin = refl
      root_is (At k p q) = refl

  held_is : (d : Path) → are_held_apart (first_of job.parents) (second_of job.parents) d ≡ dirs_differ first second d
  held_is d = by (dirs_differ first second d) refl
    where
      by : (b : Bool) → dirs_differ first second d ≡ b → are_held_apart (first_of job.parents) (second_of job.parents) d ≡ dirs_differ first second d
      by true e =
          let touched = or_right (is_renewed c.changeset d) (dirs_differ first second d) e in
          (λ i. are_apart (of.first_nodes d touched i) (of.second_nodes d touched i)) ∙ apart_is first second d
      by false e = false_from_ne_true (are_held_apart (first_of job.parents) (second_of job.parents) d) (λ h. true≢false (sym (of.differ d h) ∙ e)) ∙ sym e

  pub are_touched : (dirs above : BTreeSet Path) (one two : BTreeMap Path DirNodes)
      → ((n : List ℕ) (d : Path) → option_map before_seen (get path_cmp one (n ∷ d)) ≡ nodes_before (first_of job.parents) (n ∷ d))
      → ((n : List ℕ) (d : Path) → option_map before_seen (get path_cmp two (n ∷ d)) ≡ nodes_before (second_of job.parents) (n ∷ d))
      → ((p : Path) → contains path_cmp above p ≡ list_any (λ e. is_above p e.0) c.changeset.changes)
      → ((p : Path) → contains path_cmp dirs p ≡ (contains path_cmp above p || (not (length p == 0) && differ_in one two p))) → AreTouched c first second dirs
  are_touched dirs above one two first_told second_told edits all p = all p ∙ (λ i. edits p i || differ p i)
    where
      differ : (p : Path) → (not (length p == 0) && differ_in one two p) ≡ (not (length p == 0) && dirs_differ first second p)
      differ [] = refl
      differ (n ∷ d) = ap (λ b. not (length (n ∷ d) == 0) && b) ((λ i. are_apart (first_told n d i) (second_told n d i)) ∙ held_is (n ∷ d))

module _ (c : Known) (first second : Past) (job : Job) (of : IsJobAt c first second job) (dirs : BTreeSet Path) (touched : AreTouched c first second dirs) where
  abbrev ds : List Path
  ds = reverse dirs.keys ++ [] ∷ []

  -- what is under the root was gone through
  pub under_root_made : (made : BTreeMap Path Made) (had mid : List (List ℕ)) → AreRenewed c first second dirs made had mid → IsMadeUnder c first second made []
  under_root_made made had mid renewed n h = renewed.noted (n ∷ []) (touched_under c first second dirs touched had [] n h)

  inside : (d : Path) → is_touched c first second d ≡ true → Has ds d
  inside [] h = has_right (reverse dirs.keys) ([] ∷ []) [] (inl refl)
  inside (e ∷ d) h = has_left (reverse dirs.keys) ([] ∷ []) (e ∷ d) (has_reverse dirs.keys (e ∷ d) (any_has dirs.keys (e ∷ d) (touched (e ∷ d) ∙ through h)))
    where
      deep : (length (e ∷ d) == 0) ≡ false
      deep = ne_eqb (length (e ∷ d)) 0 (λ z. absurd (omega arith))

      through : is_touched c first second (e ∷ d) ≡ true → is_gone_through c first second (e ∷ d) ≡ true
      through h = or_either (is_renewed c.changeset (e ∷ d)) (dirs_differ first second (e ∷ d))
          (λ g. or_left (list_any (λ x. is_above (e ∷ d) x.0) c.changeset.changes) (not (length (e ∷ d) == 0) && dirs_differ first second (e ∷ d)) (above_any (e ∷ d) c.changeset.changes (omega arith) (sym (ap (λ b. b || list_any (λ x. is_strict_prefix (e ∷ d) x.0) c.changeset.changes) deep) ∙ g)))
          (λ g. or_right (list_any (λ x. is_above (e ∷ d) x.0) c.changeset.changes) (not (length (e ∷ d) == 0) && dirs_differ first second (e ∷ d)) (λ i. not (deep i) && g i)) h

  abbrev paths : List Path
  paths = job.deletions.gone.items ++ job.deletions.come.items

  -- with one parent alone, the directories are those above the change paths
  one_through : second ≡ Begin → (p : Path) → list_any (λ e. is_above p e.0) c.changeset.changes ≡ contains path_cmp dirs p
  one_through none p = sym (
      touched p
      ∙ ap (λ past. is_gone_through c first past p) none
      ∙ ap (λ b. list_any (λ e. is_above p e.0) c.changeset.changes || (not (length p == 0) && b)) (none_differ first p)
      ∙ ap (λ b. list_any (λ e. is_above p e.0) c.changeset.changes || b) (and_false (not (length p == 0)))
      ∙ or_false (list_any (λ e. is_above p e.0) c.changeset.changes))

  pub done_of : (done : Done) (made : BTreeMap Path Made) (had mid put : List (List ℕ)) (ids : DirIds) (new : DeletedDone) → IsStrictlySortedBy path_cmp dirs.keys → done.number ≡ job.number → done.first ≡ roots_before (first_of job.parents) → done.second ≡ roots_before (second_of job.parents) → had ≡ [] → AreRenewed c first second dirs made had mid
      → ids ≡ ids_at (At c first second) [] → ArePutFor c first second ([] ∷ []) mid put → AreDeletedOf first (At c first second) paths new → done.roots ≡ record { fsnode = ids.fsnode; unode = ids.unode; deleted = new.root } → done.nodes.items ≡ put ++ new.nodes.items → IsDoneAt c first second job done
  done_of done made had mid put ids new ordered number one two none renewed same root deleted roots nodes = record {
    number = number;
    first_roots = one ∙ of.first_roots;
    second_roots = two ∙ of.second_roots;
    roots = ap Some (roots ∙ (λ i. record { fsnode = (same i).fsnode; unode = (same i).unode; deleted = deleted.root i }));
    right = subst (AllByRecursion (Contains (all_nodes_of (At c first second)))) (sym are) (all_right c first second of.sound ds all.more inside all.whole all.right paths new deleted);
    whole = λ n h. found n (all_whole c first second of.sound ds all.more inside all.whole all.right paths new deleted n h);
    few = λ alone. (
        let same = ap length (are ∙ ap (λ ns. ns ++ new.nodes.items) (all.alone alone ∙ flat_map-append (dir_nodes c first second) (reverse dirs.keys) ([] ∷ []) ∙ ap (λ ns. flat_map (dir_nodes c first second) (reverse dirs.keys) ++ ns) (append-nil (dir_nodes c first second [])))) in
        let both = length-append (flat_map (dir_nodes c first second) (reverse dirs.keys) ++ dir_nodes c first second []) new.nodes.items in
        let most = few_put c first second dirs.keys ordered (λ p h. (let above = one_through alone p ∙ h in (above_some p c.changeset.changes above, or_right (length p == 0) (list_any (λ e. is_strict_prefix p e.0) c.changeset.changes) (under_any p c.changeset.changes above)))) in
        let more = deleted.few in
        omega (arith, same, both, most, more));
  }
    where
      all : ArePutFor c first second ds had put
      all = put_more c first second (reverse dirs.keys) ([] ∷ []) had mid put renewed.nodes root

      are : done.nodes.items ≡ all.more ++ new.nodes.items
      are = nodes ∙ ap (λ ns. ns ++ new.nodes.items) (all.nodes ∙ ap (λ ns. ns ++ all.more) none)

      found : (n : List ℕ) → Contains (all.more ++ new.nodes.items) n ⊎ (Contains (all_nodes_of first) n ⊎ Contains (all_nodes_of second) n) → Contains done.nodes.items n ⊎ (Contains (all_nodes_of first) n ⊎ Contains (all_nodes_of second) n)
      found n (inl h) = inl (subst (λ ns. Contains ns n) (sym are) h)
      found n (inr h) = inr h
