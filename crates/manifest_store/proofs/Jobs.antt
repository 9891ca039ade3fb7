-- The job of a changeset whose parents are settled, by what was read of them.
--     IsGrown m before after      of a parent more was gathered
use Rattle.std.proofs.Common.{◌≡◌, ◌⊎◌, inl, inr, ℕ, ◌<◌, true, not, ◌&&◌, List, [], ◌∷◌, length, refl, sym, ap, subst, ◌∙◌, arith}
use Rattle.std.specs.Prelude.{Option, Some, None, IfSome, is_some, Result, IfOk, bytes_eq}
use Rattle.std.specs.Option.{option_and_then}
use Rattle.std.specs.Arc.{arc_value}
use Rattle.std.specs.FinMap as map
use mathlib.Core.Bool.{true≢false}
use Rattle.std.proofs.lemmas.Bool.{and_parts}
use Rattle.byte_fields.specs.Bytes.{Id}
use Rattle.changeset_model.specs.Path.{Path, is_path}
use Rattle.changeset_model.specs.Changeset.{Changeset, FileChange}
use Rattle.history_model.specs.History.{Known, is_known}
use Rattle.history_model.specs.Chain.{first_of, first_parent}
use Rattle.history_model.specs.Past.{Past, Begin, At, second_of}
use Rattle.manifest_model.specs.Merged.{unode_at}
use Rattle.manifest_model.specs.Unode.{is_renewed, unode_id}
use Rattle.manifest_model.proofs.Derivations.{or_case as or_either}
use Rattle.manifest_laws.proofs.Lists.{none_some}
use Rattle.merge_laws.specs.Joined.{dirs_differ}
use Rattle.merge_laws.specs.Resolved.{AreAllApart, has_dir}
use Rattle.node_table.specs.Table.{Nodes, Table}
use Rattle.node_table.specs.declared.roots.Roots.{Roots}
use Rattle.changeset_store.specs.Store.{number_in, known_at, changeset_at, parent_at, second_parent_at}
use Rattle.changeset_store.specs.Pasts.{past_at, past_at_some}
use Rattle.changeset_store.proofs.Parents.{number_is_some}
use Rattle.changeset_store.proofs.Places.{known_at-changeset}
use Rattle.derive_step.specs.declared.job.Deletions.{Deletions}
use Rattle.derive_step.specs.declared.job.Job.{Job}
use Rattle.derive_step.specs.declared.job.Parent.{Parent}
use Rattle.derive_step.specs.declared.job.Parents.TheVariants.{Absent, One, Two}
use Rattle.derive_step.specs.Pasts.{IsJobAt, is_touched, nodes_of}
use Rattle.derive_step.specs.Views.{are_apart, before_seen, first_of as first_parent_of, nodes_before, second_of as second_parent_of}
use Rattle.derive_step.proofs.Members.{contains_has}
use Rattle.manifest_store.specs.Apart.{AreApartGathered, are_apart_from}
use Rattle.manifest_store.specs.Dirs.{AreDirs, IsFull, IsMore, found}
use Rattle.manifest_store.specs.Jobs.{AreDeletionsAt, AreDeletionsOf, IsJobIn, is_ready}
use Rattle.manifest_store.specs.Manifests.{AreManifests, IsRight}
use Rattle.manifest_store.specs.Moves.{Stands}
use Rattle.manifest_store.specs.Nodes.{dir_from}
use Rattle.manifest_store.specs.Parents.{AreParentsOf, IsParentOf, are_apart_in, dir_in}
use Rattle.manifest_store.proofs.Lines.{apart_back, own_id, parent_there}
use Rattle.manifest_store.proofs.NodesApart.{ready_apart, ready_parents}
use Rattle.manifest_store.proofs.Pasts.{past_step}
use Rattle.manifest_store.proofs.Shown.{AreSettled, apart_from_none, apart_in_is, dir_is, nodes_above, nodes_found, none_in, path_of_dir, root_of, root_seen, roots_are}

-- ---- what was read of both parents

pub record IsGrown (m : Nodes) (before after : Parent) : Type 0 where
  pub roots : after.roots ≡ before.roots
  pub root : before_seen after.root ≡ before_seen before.root
  pub dirs : AreDirs m (before_seen before.root) after.dirs
  pub more : IsMore m (before_seen before.root) before.dirs after.dirs

module _ (t : Table) (es : List (Path × FileChange)) where
  dir_in_some : (o : Option ℕ) (p : Parent) → IsParentOf o t es (Some p) → (d : Path) → dir_in t o d ≡ dir_from t.nodes (before_seen p.root) d
  dir_in_some None p of d = absurd cc
  dir_in_some (Some k) p of d = ap (option_and_then (λ b. dir_from t.nodes b d)) (root_seen t k es p of)

  parent_after : (o : Option ℕ) (p q : Parent) → IsParentOf o t es (Some p) → IsGrown t.nodes p q → IsParentOf o t es (Some q)
  parent_after None p q of grown = absurd cc
  parent_after (Some k) p q of grown =
      let b = before_seen p.root in
      record {
        roots = ap Some grown.roots ∙ of.roots;
        nodes = λ d h. nodes_found q b grown.root d ∙ grown.more d (sym (nodes_found p b refl d) ∙ of.nodes d h ∙ dir_in_some (Some k) p of d) ∙ sym (dir_in_some (Some k) p of d);
      }

  pub told_of : (o r : Option ℕ) (old : Table) (p q : Option Parent) → IsParentOf o old es p → o ≡ r → old ≡ t → p ≡ q → IsParentOf r t es q
  told_of o r old p q of e f g = subst (λ o. IsParentOf o t es q) e (subst (λ (t : Table). IsParentOf o t es q) f (subst (IsParentOf o old es) g of))

  module _ (ks : List Known) (n : ℕ) where
    pub two_parents : (one two one_after two_after : Parent) → IsParentOf (parent_at ks n) t es (Some one) → IsParentOf (second_parent_at ks n) t es (Some two) → IsGrown t.nodes one one_after → IsGrown t.nodes two two_after
        → AreApartGathered t.nodes (before_seen one.root) (before_seen two.root) one_after.dirs two_after.dirs → AreParentsOf ks t n es (Two one_after two_after)
    two_parents one two one_after two_after of also grown more gathered = record {
      first = parent_after (parent_at ks n) one one_after of grown;
      second = parent_after (second_parent_at ks n) two two_after also more;
      first_apart = λ d path e. nodes_found one_after (before_seen one.root) grown.root d ∙ gathered.first_full d path (sym (by_table d) ∙ e) ∙ sym (dir_in_some (parent_at ks n) one of d);
      second_apart = λ d path e. nodes_found two_after (before_seen two.root) more.root d ∙ gathered.second_full d path (sym (by_table d) ∙ e) ∙ sym (dir_in_some (second_parent_at ks n) two also d);
      apart = λ d h. held d (grown.dirs d) (more.dirs d) ((λ i. are_apart (sym (nodes_found one_after (before_seen one.root) grown.root d) i) (sym (nodes_found two_after (before_seen two.root) more.root d) i)) ∙ h);
    }
      where
        by_table : (d : Path) → are_apart_in t ks n d ≡ are_apart_from t.nodes (before_seen one.root) (before_seen two.root) d
        by_table d = λ i. are_apart (dir_in_some (parent_at ks n) one of d i) (dir_in_some (second_parent_at ks n) two also d i)

        held : (d : Path) → (found (before_seen one.root) one_after.dirs d ≡ None) ⊎ IsFull t.nodes (before_seen one.root) one_after.dirs d → (found (before_seen two.root) two_after.dirs d ≡ None) ⊎ IsFull t.nodes (before_seen two.root) two_after.dirs d
            → are_apart (found (before_seen one.root) one_after.dirs d) (found (before_seen two.root) two_after.dirs d) ≡ true → are_apart_in t ks n d ≡ true
        held d (inl none) filled h = absurd (true≢false (sym h ∙ ap (λ o. are_apart o (found (before_seen two.root) two_after.dirs d)) none))
        held d (inr full) (inl none) h = absurd (apart_from_none (found (before_seen one.root) one_after.dirs d) (found (before_seen two.root) two_after.dirs d) none h)
        held d (inr full) (inr filled) h = by_table d ∙ (λ i. are_apart (sym full i) (sym filled i)) ∙ h

    pub one_parent : (one : Parent) → IsParentOf (parent_at ks n) t es (Some one) → IsParentOf (second_parent_at ks n) t es None → AreParentsOf ks t n es (One one)
    one_parent one of none = record {
      first = of;
      second = none;
      first_apart = λ d path e. absurd (apart_from_none (dir_in t (parent_at ks n) d) (dir_in t (second_parent_at ks n) d) (none_in (second_parent_at ks n) t es none d) e);
      second_apart = λ d path e. absurd (apart_from_none (dir_in t (parent_at ks n) d) (dir_in t (second_parent_at ks n) d) (none_in (second_parent_at ks n) t es none d) e);
      apart = λ d h. absurd (apart_from_none (nodes_before (Some one) d) None refl h);
    }

-- ---- of a known changeset

module _ (ks : List Known) (t : Table) (a : AreManifests ks t) (n : ℕ) (less : n < length ks) (ready : is_ready ks t n ≡ true) where
  abbrev first : Past
  first = past_at_some ks (parent_at ks n)

  abbrev second : Past
  second = past_at_some ks (second_parent_at ks n)

  abbrev k : Known
  k = known_at ks n

  settled : AreSettled ks t a (parent_at ks n) × AreSettled ks t a (second_parent_at ks n)
  settled = ready_parents ks t a n ready

  step : past_at ks n ≡ At k first second
  step = past_step ks a.store n less

  right : IsRight (At k first second)
  right = subst IsRight step (a.right n less)

  -- without a first parent there is no second
  no_second : parent_at ks n ≡ None → second_parent_at ks n ≡ None
  no_second = by (changeset_at ks n).parents (subst (λ (c : Changeset). IfSome (first_parent c) (λ q. is_known ks q ≡ true)) (known_at-changeset ks n) (parent_there ks a.store n less))
    where
      by : (ps : List Id) → IfSome (first_of ps) (λ q. is_known ks q ≡ true) → option_and_then (number_in ks) (first_of ps) ≡ None → option_and_then (number_in ks) (second_of ps) ≡ None
      by [] known e = refl
      by (p ∷ ps) known e = absurd (true≢false (sym known ∙ sym (number_is_some ks (apart_back ks a.store) p) ∙ ap is_some e))

  is_there : (p : ℕ) → p < length ks → past_at ks p ≡ Begin → ⊥
  is_there p below e = let is = sym (past_step ks a.store p below) ∙ e in absurd cc

  pub no_parents : (es : List (Path × FileChange)) → IsParentOf (parent_at ks n) t es None → AreParentsOf ks t n es Absent
  no_parents es none = record {
    first = none;
    second = subst (λ o. IsParentOf o t es None) (sym no_other) refl;
    first_apart = λ d path e. absurd (apart_from_none (dir_in t (parent_at ks n) d) (dir_in t (second_parent_at ks n) d) (ap (λ o. dir_in t o d) no_other) e);
    second_apart = λ d path e. absurd (apart_from_none (dir_in t (parent_at ks n) d) (dir_in t (second_parent_at ks n) d) (ap (λ o. dir_in t o d) no_other) e);
    apart = λ d h. absurd (true≢false (sym h));
  }
    where
      by : (o : Option ℕ) → parent_at ks n ≡ o → IsParentOf o t es None → second_parent_at ks n ≡ None
      by None e of = no_second e
      by (Some p) e of = absurd (let done = settled.0 p e in let below = a.numbered p done in root_of ks t a p done below (is_there p below) es of)

      no_other : second_parent_at ks n ≡ None
      no_other = by (parent_at ks n) refl none

  -- ---- the files that come and go

  nothing_right : IsRight Begin
  nothing_right = record {
    resolved = tt;
    counted = record { rising = refl; named = tt; with_ids = tt; few = omega arith; small = omega arith };
    directories = λ d h. absurd (true≢false (sym h));
    files = λ p f e. none_some f e;
    deletions = λ d. refl;
  }

  stands_some : (o : Option ℕ) → AreSettled ks t a o → Stands t.nodes (option_and_then (λ p. map.get t.roots p) o) (past_at_some ks o)
  stands_some None h = record { right = nothing_right; held = λ bytes c. absurd (contains_has [] bytes c); roots = refl }
  stands_some (Some p) h = let done = h p refl in record { right = a.right p (a.numbered p done); held = a.held p done; roots = a.roots p done }

  pub deletions_are : {E : Type 0} (r : Result Deletions E) (one two : Option Roots) (es : List (Path × FileChange)) → one ≡ option_and_then (λ p. map.get t.roots p) (parent_at ks n) → two ≡ option_and_then (λ p. map.get t.roots p) (second_parent_at ks n) → es ≡ (changeset_at ks n).changes
      → ((c : Known) (first other : Past) → Stands t.nodes one first → Stands t.nodes two other → IsRight (At c first other) → es ≡ c.changeset.changes → IfOk r (λ deletions. AreDeletionsAt c first other deletions)) → IfOk r (λ deletions. AreDeletionsOf (past_at ks n) deletions)
  deletions_are r one two es is also edits told =
      subst (λ (q : Past). IfOk r (λ deletions. AreDeletionsOf q deletions)) (sym step)
      (told k first second
      (subst (λ roots. Stands t.nodes roots first) (sym is) (stands_some (parent_at ks n) settled.0))
      (subst (λ roots. Stands t.nodes roots second) (sym also) (stands_some (second_parent_at ks n) settled.1))
      right
      (edits ∙ ap (λ (c : Changeset). c.changes) (sym (known_at-changeset ks n))))

  -- ---- the job

  abbrev es : List (Path × FileChange)
  es = (changeset_at ks n).changes

  apart_in : (d : Path) → are_apart_in t ks n d ≡ dirs_differ first second d
  apart_in d = apart_in_is ks t a (parent_at ks n) (second_parent_at ks n) settled.0 settled.1 d

  nodes_by : (o : Option ℕ) → AreSettled ks t a o → (parent : Option Parent) → IsParentOf o t es parent → ((d : Path) → is_path d ≡ true → are_apart_in t ks n d ≡ true → nodes_before parent d ≡ dir_in t o d)
      → ((d : Path) → dirs_differ first second d ≡ true → has_dir (past_at_some ks o) d ≡ true) → (d : Path) → is_touched k first second d ≡ true → nodes_before parent d ≡ nodes_of (past_at_some ks o) d
  nodes_by o done parent of gathered there d h =
      or_either (is_renewed k.changeset d) (dirs_differ first second d) (λ e. nodes_above ks t a o done es parent of d (ap (λ c. is_renewed c d) (sym (known_at-changeset ks n)) ∙ e)) (λ e. differing d e) h
    where
      differing : (d : Path) → dirs_differ first second d ≡ true → nodes_before parent d ≡ nodes_of (past_at_some ks o) d
      differing [] e = nodes_above ks t a o done es parent of [] refl
      differing (x ∷ d) e = gathered (x ∷ d) (path_of_dir ks t a o done (x ∷ d) (omega arith) (there (x ∷ d) e)) (apart_in (x ∷ d) ∙ e) ∙ dir_is ks t a o done (x ∷ d)

  both_have : (d : Path) → dirs_differ first second d ≡ true → (has_dir first d ≡ true) × (has_dir second d ≡ true)
  both_have d e =
      let other = not (bytes_eq (unode_id (unode_at first d)) (unode_id (unode_at second d))) in
      let one = and_parts (has_dir first d) (has_dir second d && other) e in
      (one.0, (and_parts (has_dir second d) other one.1).0)

  pub job_is : (job : Job) → arc_value job.commit ≡ changeset_at ks n → AreParentsOf ks t n es job.parents → AreDeletionsOf (past_at ks n) job.deletions → IsJobIn (past_at ks n) job
  job_is job commit parents moves = subst (λ (q : Past). IsJobIn q job) (sym step) at
    where
      of : AreDeletionsAt k first second job.deletions
      of = subst (λ (q : Past). AreDeletionsOf q job.deletions) step moves

      at : IsJobAt k first second job
      at = record {
        sound = record { resolved = right.resolved; apart = subst AreAllApart step (ready_apart ks t a n less ready); counted = right.counted };
        changeset = commit ∙ sym (known_at-changeset ks n);
        id = own_id ks a.store n less;
        first_roots = roots_are ks t a (parent_at ks n) settled.0 es (first_parent_of job.parents) parents.first;
        second_roots = roots_are ks t a (second_parent_at ks n) settled.1 es (second_parent_of job.parents) parents.second;
        first_nodes = nodes_by (parent_at ks n) settled.0 (first_parent_of job.parents) parents.first parents.first_apart (λ d e. (both_have d e).0);
        second_nodes = nodes_by (second_parent_at ks n) settled.1 (second_parent_of job.parents) parents.second parents.second_apart (λ d e. (both_have d e).1);
        differ = λ d h. sym (apart_in d) ∙ parents.apart d h;
        files = of.files;
        held = of.held;
      }
