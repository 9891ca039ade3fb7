-- What is gathered of two parents, as directories are added.
use Rattle.std.proofs.Common.{◌≡◌, ◌⊎◌, inl, inr, ℕ, suc, ◌≤◌, true, false, ◌||◌, List, [], ◌∷◌, ◌++◌, length, drop, refl, sym, ap, subst, ◌∙◌, arith}
use Rattle.std.specs.Prelude.{Option, Some, None, ◌==◌}
use Rattle.std.specs.Option.{option_and_then}
use Rattle.std.specs.BTreeMap.{Updates}
use mathlib.Core.Bool.{true≢false}
use Rattle.std.proofs.lemmas.Bool.{or_left, or_right, false_from_ne_true, ne_eqb}
use Rattle.std.proofs.lemmas.List.{length-append}
use Rattle.std.proofs.lemmas.List.Folds.{list_any-append}
use Rattle.byte_fields.proofs.Lists.{all_push, weaker}
use Rattle.changeset_model.specs.Path.{Path, path_cmp, is_path, is_prefix, is_strict_prefix}
use Rattle.manifest_laws.proofs.Flat.{strict_parts, is_strict_or_same}
use Rattle.tree_fold.proofs.Texts.{front_rest}
use Rattle.node_table.specs.Table.{Nodes}
use Rattle.derive_step.specs.declared.job.DirIds.{DirIds}
use Rattle.derive_step.specs.declared.job.DirNodes.{DirNodes}
use Rattle.derive_step.specs.declared.job.Parent.{Parent}
use Rattle.derive_step.specs.Views.{Before, before_seen}
use Rattle.manifest_store.specs.Nodes.{dir_under, child_ids, child_under, dir_from}
use Rattle.manifest_store.specs.Dirs.{found, IsFull, AreDirs, IsMore}
use Rattle.manifest_store.specs.Apart.{AreApartGathered, are_apart_from, are_apart_at, ids_in, IsGathered, HasDir, HaveDir, HaveDirs, LieDeep, is_under, IsReached, IsGrown, AreGrown}
use Rattle.manifest_store.proofs.Levels.{short_path}
use Rattle.manifest_store.proofs.Gathered.{Dirs, child_is, are_after, more_after, full_after, front_path, some_snoc}

module _ (m : Nodes) where
  -- ---- nothing more, and more twice

  same_parent : (p : Parent) → IsGathered m p → IsGrown m p p
  same_parent p are = record { roots = refl; root = refl; gathered = are; more = λ d h. h }

  parent_on : (p q r : Parent) → IsGrown m p q → IsGrown m q r → IsGrown m p r
  parent_on p q r g h = record {
    roots = h.roots ∙ g.roots;
    root = h.root ∙ g.root;
    gathered = h.gathered;
    more = λ d f. h.more d (g.more d f);
  }

  pub same_parents : (p q : Parent) (dirs : List Path) → IsGathered m p → IsGathered m q → AreGrown m p q dirs p q dirs
  same_parents p q dirs a b = record { first_grown = same_parent p a; second_grown = same_parent q b; under = λ d h. h; have = λ h. h }

  module _ (p q : Parent) (dirs : List Path) (p' q' : Parent) (dirs' : List Path) (grown : AreGrown m p q dirs p' q' dirs') where
    pub parents_on : (p'' q'' : Parent) (dirs'' : List Path) → AreGrown m p' q' dirs' p'' q'' dirs'' → AreGrown m p q dirs p'' q'' dirs''
    parents_on p'' q'' dirs'' more = record {
      first_grown = parent_on p p' p'' grown.first_grown more.first_grown;
      second_grown = parent_on q q' q'' grown.second_grown more.second_grown;
      under = λ d h. more.under d (grown.under d h);
      have = λ h. more.have (grown.have h);
    }

    pub still_have : (d : Path) → HaveDir m p q d → HaveDir m p' q' d
    still_have d h = (grown.first_grown.more d h.0, grown.second_grown.more d h.1)

    pub still_apart : (d : Path) → are_apart_at m p q d ≡ true → are_apart_at m p' q' d ≡ true
    still_apart d h = (λ i. are_apart_from m (grown.first_grown.root i) (grown.second_grown.root i) d) ∙ h

    pub still_reached : (d : Path) → IsReached m p q dirs d → IsReached m p' q' dirs' d
    still_reached d (inl h) = inl (still_have d h)
    still_reached d (inr h) = inr (grown.under d h)

  -- ---- one directory more

  module _ (p : Parent) (are : IsGathered m p) (above here : Path) (name : List ℕ) (is : here ≡ above ++ name ∷ []) (full : HasDir m p above) (ids : DirIds) (at : ids_in m p above name ≡ Some ids) where
    abbrev root : Before
    root = before_seen p.root

    child_told : dir_under m ids ≡ option_and_then (λ c. child_under m c name) (dir_from m root above)
    child_told = by (dir_from m root above) at
      where
        by : (o : Option Before) → option_and_then (λ b. child_ids b name) o ≡ Some ids → dir_under m ids ≡ option_and_then (λ c. child_under m c name) o
        by None e = absurd cc
        by (Some c) e = sym (ap (option_and_then (dir_under m)) e)

    pub child_there : dir_under m ids ≡ dir_from m root here
    child_there = child_is m root p.dirs are above here name is full (dir_under m ids) (dir_from m root above) (sym full) child_told

    module _ (nodes : DirNodes) (key : Path) (same : key ≡ here) (after : Dirs) (updates : Updates path_cmp p.dirs after key (Some nodes)) (seen : dir_under m ids ≡ Some (before_seen nodes)) where
      pub parent_with : IsGrown m p (record p { dirs = after })
      parent_with = record {
        roots = refl;
        root = refl;
        gathered = are_after m root p.dirs are above here name is full (dir_under m ids) (dir_from m root above) (sym full) child_told nodes key same after updates seen;
        more = more_after m root p.dirs are above here name is full (dir_under m ids) (dir_from m root above) (sym full) child_told nodes key same after updates seen;
      }

      pub has_with : HasDir m (record p { dirs = after }) here
      has_with = full_after m root p.dirs are above here name is full (dir_under m ids) (dir_from m root above) (sym full) child_told nodes key same after updates seen

  module _ (p q p' q' : Parent) (dirs after : List Path) (here : Path) (pushed : after ≡ dirs ++ here ∷ []) (first : IsGrown m p p') (second : IsGrown m q q') (have : HaveDir m p' q' here) where
    under_pushed : (d : Path) → is_under after d ≡ (is_under dirs d || is_under (here ∷ []) d)
    under_pushed d = ap (λ ds. is_under ds d) pushed ∙ list_any-append (λ p. is_strict_prefix p d) dirs (here ∷ [])

    pub parents_with : AreGrown m p q dirs p' q' after
    parents_with = record {
      first_grown = first;
      second_grown = second;
      under = λ d h. under_pushed d ∙ or_left (is_under dirs d) (is_under (here ∷ []) d) h;
      have = λ all. subst (HaveDirs m p' q') (sym pushed) (all_push (HaveDir m p' q') dirs here (weaker (HaveDir m p q) (HaveDir m p' q') (λ d h. (first.more d h.0, second.more d h.1)) dirs all) have);
    }

    pub reached_with : (d : Path) → is_prefix here d ≡ true → IsReached m p' q' after d
    reached_with d h = by (is_strict_or_same here d h)
      where
        by : (d ≡ here) ⊎ (is_strict_prefix here d ≡ true) → IsReached m p' q' after d
        by (inl e) = inl (subst (HaveDir m p' q') (sym e) have)
        by (inr under) = inr (under_pushed d ∙ or_right (is_under dirs d) (is_under (here ∷ []) d) (or_left (is_strict_prefix here d) false under))

  -- by the next level
  pub levels_on : (p q p' q' p'' q'' : Parent) (dirs next : List Path) → AreGrown m p q [] p' q' dirs → AreGrown m p' q' [] p'' q'' next → AreGrown m p q [] p'' q'' next
  levels_on p q p' q' p'' q'' dirs next grown more = record {
    first_grown = parent_on p p' p'' grown.first_grown more.first_grown;
    second_grown = parent_on q q' q'' grown.second_grown more.second_grown;
    under = more.under;
    have = λ h. more.have tt;
  }

  pub next_reached : (p q p' q' : Parent) (dirs next : List Path) → AreGrown m p q [] p' q' next → (d : Path) → (is_under dirs d ≡ true → IsReached m p' q' next d) → IsReached m p q dirs d → IsReached m p' q' next d
  next_reached p q p' q' dirs next grown d under (inl h) = inl (still_have p q [] p' q' next grown d h)
  next_reached p q p' q' dirs next grown d under (inr h) = under h

  -- ---- the ids in a directory that was gathered

  pub ids_still : (p p' : Parent) → IsGrown m p p' → (above : Path) (name : List ℕ) (x : Before) (ids : DirIds) → HasDir m p above → found (before_seen p.root) p.dirs above ≡ Some x → child_ids x name ≡ Some ids → ids_in m p' above name ≡ Some ids
  ids_still p p' grown above name x ids has at e =
      (λ i. option_and_then (λ b. child_ids b name) (dir_from m (grown.root i) above))
      ∙ ap (option_and_then (λ b. child_ids b name)) (sym has ∙ at) ∙ e

  -- ---- from one parent's view

  pub dirs_of : (p p' : Parent) → IsGrown m p p' → AreDirs m (before_seen p.root) p'.dirs
  dirs_of p p' grown = subst (λ b. AreDirs m b p'.dirs) grown.root grown.gathered

  has_of : (p p' : Parent) → IsGrown m p p' → (d : Path) → HasDir m p' d → IsFull m (before_seen p.root) p'.dirs d
  has_of p p' grown d h = subst (λ b. IsFull m b p'.dirs d) grown.root h

  pub more_of : (p p' : Parent) → IsGrown m p p' → IsMore m (before_seen p.root) p.dirs p'.dirs
  more_of p p' grown d h = has_of p p' grown d (grown.more d h)

  pub all_gathered : (p q p' q' : Parent) (dirs : List Path) → AreGrown m p q [] p' q' dirs → ((d : Path) → is_path d ≡ true → are_apart_at m p q d ≡ true → HaveDir m p' q' d) → AreApartGathered m (before_seen p.root) (before_seen q.root) p'.dirs q'.dirs
  all_gathered p q p' q' dirs grown have = record {
    first_full = λ d path apart. has_of p p' grown.first_grown d (have d path apart).0;
    second_full = λ d path apart. has_of q q' grown.second_grown d (have d path apart).1;
  }

pub deeper_pushed : (n : ℕ) (dirs after : List Path) (above here : Path) (name : List ℕ) → after ≡ dirs ++ here ∷ [] → here ≡ above ++ name ∷ [] → n ≤ length above → LieDeep (suc n) dirs → LieDeep (suc n) after
deeper_pushed n dirs after above here name pushed is less all = subst (LieDeep (suc n)) (sym pushed) (all_push (λ d. suc n ≤ length d) dirs here all (let long = ap length is ∙ length-append above (name ∷ []) in omega arith))

-- a directory of the table, at or above one that is no path
pub no_such : {P : Type 0} (above : Path) (name : List ℕ) (d : Path) → is_path (above ++ name ∷ []) ≡ false → is_path d ≡ true → is_prefix (above ++ name ∷ []) d ≡ true → P
no_such above name d out path under = absurd (true≢false (sym (front_path (above ++ name ∷ []) (drop (length (above ++ name ∷ [])) d) d (front_rest (above ++ name ∷ []) d under) path (some_snoc above name)) ∙ out))

-- ---- the last level

pub none_left : (dirs : List Path) (d : Path) (n : ℕ) → 4096 ≤ n → LieDeep n dirs → is_path d ≡ true → is_under dirs d ≡ false
none_left [] d n most deep path = refl
none_left (p ∷ dirs) d n most deep path = λ i. first i || none_left dirs d n most deep.1 path i
  where
    first : is_strict_prefix p d ≡ false
    first = false_from_ne_true (is_strict_prefix p d) (λ under.
        let more = (strict_parts p d under).1 in
        let short = short_path d path in
        let long = deep.0 in
        absurd (omega arith))

pub none_in : (dirs : List Path) (d : Path) → (length dirs == 0) ≡ true → is_under dirs d ≡ false
none_in [] d e = refl
none_in (p ∷ dirs) d e = absurd (true≢false (sym e ∙ ne_eqb (length (p ∷ dirs)) 0 (λ e. absurd (omega arith))))

pub have_all : (m : Nodes) (p q : Parent) (dirs : List Path) (d : Path) → is_under dirs d ≡ false → IsReached m p q dirs d → HaveDir m p q d
have_all m p q dirs d none (inl h) = h
have_all m p q dirs d none (inr h) = absurd (true≢false (sym h ∙ none))
