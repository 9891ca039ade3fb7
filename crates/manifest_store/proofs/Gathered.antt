-- Nodes of directories as they are gathered from the root down.
use Rattle.std.proofs.Common.{◌≡◌, ◌⊎◌, inl, inr, ℕ, ◌<◌, Bool, true, false, cond, ◌&&◌, List, [], ◌∷◌, ◌++◌, length, refl, sym, ap, subst, ◌∙◌, arith, append_assoc, Bor}
use Rattle.std.specs.Prelude.{Option, Some, None, option_map, is_some, bytes_eq}
use Rattle.std.specs.Option.{option_and_then, option_copied}
use Rattle.std.specs.Ordering.{eq_by_cmp}
use Rattle.std.specs.BTreeMap.{BTreeMap, get, Updates}
use mathlib.Core.Bool.{true≢false}
use Rattle.std.proofs.lemmas.Bool.{and_parts}
use Rattle.std.proofs.lemmas.List.{append-nil, length-append}
use Rattle.changeset_model.specs.Path.{Path, path_cmp, elements, is_path, is_prefix}
use Rattle.manifest_model.proofs.Derivations.{tied_same}
use Rattle.manifest_laws.proofs.Names.{same_name}
use Rattle.manifest_laws.proofs.Flat.{tied_self}
use Rattle.node_table.specs.Table.{Nodes}
use Rattle.derive_step.specs.declared.job.DirNodes.{DirNodes}
use Rattle.derive_step.specs.Views.{Before, before_seen}
use Rattle.derive_step.proofs.Paths.{path_front}
use Rattle.manifest_store.specs.Nodes.{child_under, dir_from}
use Rattle.manifest_store.specs.Dirs.{found, IsFull, AreDirs, IsMore, AreFull, left}
use Rattle.manifest_store.specs.Reads.{dir_of}
use Rattle.manifest_laws.proofs.Reach.{prefix_push as prefix_snoc}

abbrev pub Dirs : Type 0
Dirs = BTreeMap Path DirNodes

abbrev pub own : Option Path → Path
own None = []
own (Some p) = p

pub dir_of_ref : (o : Option (Bor Path)) (p : Option Path) → option_copied o ≡ p → dir_of o ≡ own p
dir_of_ref None p e = ap own e
dir_of_ref (Some x) p e = ap own e

-- ---- in the table

some_kept : {X : Type 0} (o : Option X) → option_and_then (λ c. Some c) o ≡ o
some_kept None = refl
some_kept (Some x) = refl

module _ (m : Nodes) where
  -- a directory is found in the one above it
  pub snoc : (d : Path) (b : Before) (n : List ℕ) → dir_from m b (d ++ n ∷ []) ≡ option_and_then (λ c. child_under m c n) (dir_from m b d)
  snoc [] b n = some_kept (child_under m b n)
  snoc (x ∷ d) b n = by (snoc d) (child_under m b x)
    where
      by : ((b : Before) (n : List ℕ) → dir_from m b (d ++ n ∷ []) ≡ option_and_then (λ c. child_under m c n) (dir_from m b d)) → (o : Option Before) → option_and_then (λ c. dir_from m c (d ++ n ∷ [])) o ≡ option_and_then (λ c. child_under m c n) (option_and_then (λ c. dir_from m c d) o)
      by later None = refl
      by later (Some c) = later c n

  none_under : (d : Path) (b : Before) (p : Path) → dir_from m b d ≡ None → dir_from m b (d ++ p) ≡ None
  none_under [] b p e = absurd cc
  none_under (x ∷ d) b p e = by (none_under d) (child_under m b x) e
    where
      by : ((b : Before) (p : Path) → dir_from m b d ≡ None → dir_from m b (d ++ p) ≡ None) → (o : Option Before) → option_and_then (λ c. dir_from m c d) o ≡ None → option_and_then (λ c. dir_from m c (d ++ p)) o ≡ None
      by later None h = refl
      by later (Some c) h = later c p h

-- ---- prefixes

-- a prefix of a longer path is one of its front, or goes on from it
prefix_beyond : (d a q : Path) → is_prefix d (a ++ q) ≡ true → (is_prefix d a ≡ true) ⊎ ((r : Path) × (d ≡ a ++ r))
prefix_beyond [] a q h = inl refl
prefix_beyond (e ∷ d) [] q h = inr (e ∷ d, refl)
prefix_beyond (e ∷ d) (x ∷ a) q h = by (prefix_beyond d a q parts.1)
  where
    parts : (bytes_eq e x ≡ true) × (is_prefix d (a ++ q) ≡ true)
    parts = and_parts (bytes_eq e x) (is_prefix d (a ++ q)) h

    by : (is_prefix d a ≡ true) ⊎ ((r : Path) × (d ≡ a ++ r)) → (is_prefix (e ∷ d) (x ∷ a) ≡ true) ⊎ ((r : Path) × (e ∷ d ≡ x ∷ a ++ r))
    by (inl g) = inl (λ i. parts.0 i && g i)
    by (inr g) = inr (g.0, λ i. same_name e x parts.0 i ∷ g.1 i)

-- ---- what was gathered

found_deep : (b : Before) (dirs : Dirs) (p : Path) → 0 < length p → found b dirs p ≡ option_map before_seen (get path_cmp dirs p)
found_deep b dirs [] some = absurd (omega arith)
found_deep b dirs (n ∷ p) some = refl

no_some : {P X : Type 0} (o : Option X) → o ≡ None → is_some o ≡ true → P
no_some o e h = absurd (true≢false (sym h ∙ ap is_some e))

module _ (m : Nodes) (b : Before) (dirs : Dirs) (are : AreDirs m b dirs) where
  -- what isn't in the table isn't gathered either
  full_if_none : (d : Path) → dir_from m b d ≡ None → IsFull m b dirs d
  full_if_none d e = by (are d)
    where
      by : (found b dirs d ≡ None) ⊎ IsFull m b dirs d → IsFull m b dirs d
      by (inl none) = none ∙ sym e
      by (inr full) = full

  full_if_found : (d : Path) → is_some (found b dirs d) ≡ true → IsFull m b dirs d
  full_if_found d h = by (are d)
    where
      by : (found b dirs d ≡ None) ⊎ IsFull m b dirs d → IsFull m b dirs d
      by (inl none) = no_some (found b dirs d) none h
      by (inr full) = full

  -- one directory more
  module _ (above here : Path) (name : List ℕ) (is : here ≡ above ++ name ∷ []) where
    some_elements : 0 < length here
    some_elements = let long = ap length is ∙ length-append above (name ∷ []) in omega arith

    seen_there : (o : Option DirNodes) → is_some (option_map before_seen o) ≡ is_some o
    seen_there None = refl
    seen_there (Some x) = refl

    pub was_full : is_some (get path_cmp dirs here) ≡ true → IsFull m b dirs here
    was_full h = full_if_found here (ap is_some (found_deep b dirs here some_elements) ∙ seen_there (get path_cmp dirs here) ∙ h)

    pub was_there : is_some (get path_cmp dirs here) ≡ true → true ≡ is_some (dir_from m b here)
    was_there h = sym (ap is_some (sym (was_full h)) ∙ ap is_some (found_deep b dirs here some_elements) ∙ seen_there (get path_cmp dirs here) ∙ h)

    -- what the table has of it
    module _ (full : IsFull m b dirs above) (child : Option Before) (was : Option Before) (at : was ≡ found b dirs above) (told : child ≡ option_and_then (λ c. child_under m c name) was) where
      pub child_is : child ≡ dir_from m b here
      child_is = told ∙ ap (option_and_then (λ c. child_under m c name)) (at ∙ full) ∙ sym (snoc m above b name) ∙ ap (dir_from m b) (sym is)

      pub full_none : child ≡ None → IsFull m b dirs here
      full_none e = full_if_none here (sym child_is ∙ e)

      pub not_there : child ≡ None → false ≡ is_some (dir_from m b here)
      not_there e = ap is_some (sym e ∙ child_is)

      module _ (nodes : DirNodes) (key : Path) (same : key ≡ here) (after : Dirs) (updates : Updates path_cmp dirs after key (Some nodes)) (seen : child ≡ Some (before_seen nodes)) where
        found_after : (p : Path) → found b after p ≡ cond (eq_by_cmp path_cmp key p) (Some (before_seen nodes)) (found b dirs p)
        found_after [] = sym (root_kept (eq_by_cmp path_cmp key []) refl)
          where
            root_kept : (t : Bool) → eq_by_cmp path_cmp key [] ≡ t → cond t (Some (before_seen nodes)) (Some b) ≡ Some b
            root_kept true e = absurd (let none = ap length (sym same ∙ tied_same key [] e) in let some = some_elements in omega arith)
            root_kept false e = refl
        found_after (n ∷ p) = ap (option_map before_seen) (updates.0 (n ∷ p)) ∙ by (eq_by_cmp path_cmp key (n ∷ p))
          where
            by : (t : Bool) → option_map before_seen (cond t (Some nodes) (get path_cmp dirs (n ∷ p))) ≡ cond t (Some (before_seen nodes)) (option_map before_seen (get path_cmp dirs (n ∷ p)))
            by true = refl
            by false = refl

        either : (p : Path) → ((found b dirs p ≡ None) ⊎ IsFull m b dirs p) → (found b after p ≡ None) ⊎ IsFull m b after p
        either p h = by (eq_by_cmp path_cmp key p) refl h
          where
            by : (t : Bool) → eq_by_cmp path_cmp key p ≡ t → ((found b dirs p ≡ None) ⊎ IsFull m b dirs p) → (found b after p ≡ None) ⊎ IsFull m b after p
            by true e h = inr (found_after p ∙ ap (λ t. cond t (Some (before_seen nodes)) (found b dirs p)) e ∙ sym seen ∙ child_is ∙ ap (dir_from m b) (sym same ∙ tied_same key p e))
            by false e (inl none) = inl (found_after p ∙ ap (λ t. cond t (Some (before_seen nodes)) (found b dirs p)) e ∙ none)
            by false e (inr full) = inr (found_after p ∙ ap (λ t. cond t (Some (before_seen nodes)) (found b dirs p)) e ∙ full)

        pub are_after : AreDirs m b after
        are_after p = either p (are p)

        pub more_after : IsMore m b dirs after
        more_after p full = by (eq_by_cmp path_cmp key p) refl
          where
            by : (t : Bool) → eq_by_cmp path_cmp key p ≡ t → IsFull m b after p
            by true e = found_after p ∙ ap (λ t. cond t (Some (before_seen nodes)) (found b dirs p)) e ∙ sym seen ∙ child_is ∙ ap (dir_from m b) (sym same ∙ tied_same key p e)
            by false e = found_after p ∙ ap (λ t. cond t (Some (before_seen nodes)) (found b dirs p)) e ∙ full

        pub full_after : IsFull m b after here
        full_after = found_after here ∙ by (eq_by_cmp path_cmp key here) refl
          where
            by : (t : Bool) → eq_by_cmp path_cmp key here ≡ t → cond t (Some (before_seen nodes)) (found b dirs here) ≡ dir_from m b here
            by true e = sym seen ∙ child_is
            by false e = absurd (true≢false (sym (ap (eq_by_cmp path_cmp key) (sym same) ∙ tied_self key) ∙ e))

        pub there_after : true ≡ is_some (dir_from m b here)
        there_after = ap is_some (sym seen ∙ child_is)

-- ---- along a path

-- with the next directory, all at and above it are there
pub next_full : (m : Nodes) (b : Before) (before after : Dirs) (above here : Path) (name : List ℕ) → here ≡ above ++ name ∷ [] → AreFull m b before above → IsMore m b before after → IsFull m b after here → AreFull m b after here
next_full m b before after above here name is full more now d h = by (prefix_snoc d above name (ap (is_prefix d) (sym is) ∙ h))
  where
    by : (is_prefix d above ≡ true) ⊎ (d ≡ above ++ name ∷ []) → IsFull m b after d
    by (inl g) = more d (full d g)
    by (inr e) = subst (IsFull m b after) (is ∙ sym e) now

-- where the next directory isn't there, nothing under it is
pub rest_full : (m : Nodes) (b : Before) (before after : Dirs) (above here : Path) (name : List ℕ) (rest whole : Path) → here ≡ above ++ name ∷ [] → whole ≡ here ++ rest → AreFull m b before above → AreDirs m b after → IsMore m b before after → false ≡ is_some (dir_from m b here) → AreFull m b after whole
rest_full m b before after above here name rest whole is cut full are more none d h = by (prefix_beyond d above (name ∷ rest) (ap (is_prefix d) (sym long) ∙ h))
  where
    long : whole ≡ above ++ name ∷ rest
    long = cut ∙ ap (λ p. p ++ rest) is ∙ append_assoc above (name ∷ []) rest

    gone : (o : Option Before) → false ≡ is_some o → o ≡ None
    gone None e = refl
    gone (Some x) e = absurd (true≢false (sym e))

    under : (r : Path) → d ≡ above ++ r → is_prefix d (above ++ name ∷ rest) ≡ true → IsFull m b after d
    under r e g = beyond (prefix_beyond d here rest (ap (is_prefix d) (sym cut) ∙ h))
      where
        beyond : (is_prefix d here ≡ true) ⊎ ((r : Path) × (d ≡ here ++ r)) → IsFull m b after d
        beyond (inl k) = last (prefix_snoc d above name (ap (is_prefix d) (sym is) ∙ k))
          where
            last : (is_prefix d above ≡ true) ⊎ (d ≡ above ++ name ∷ []) → IsFull m b after d
            last (inl g) = more d (full d g)
            last (inr e) = full_if_none m b after are d (ap (dir_from m b) (e ∙ sym is) ∙ gone (dir_from m b here) none)
        beyond (inr k) = full_if_none m b after are d (ap (dir_from m b) k.1 ∙ none_under m here b k.0 (gone (dir_from m b here) none))

    by : (is_prefix d above ≡ true) ⊎ ((r : Path) × (d ≡ above ++ r)) → IsFull m b after d
    by (inl g) = more d (full d g)
    by (inr e) = under e.0 e.1 (ap (is_prefix d) (sym long) ∙ h)

-- ---- texts

pub next_cut : (whole a : Path) (rest : Option (Bor (List ℕ))) (text : Bor (List ℕ)) (name : List ℕ) (after : Option (Bor (List ℕ))) → whole ≡ a ++ left rest → rest ≡ Some text → elements text.now ≡ name ∷ left after → whole ≡ (a ++ name ∷ []) ++ left after
next_cut whole a rest text name after cut is parted = cut ∙ ap (λ r. a ++ left r) is ∙ ap (λ p. a ++ p) parted ∙ sym (append_assoc a (name ∷ []) (left after))

pub some_snoc : (a : Path) (n : List ℕ) → 0 < length (a ++ n ∷ [])
some_snoc a n = let long = length-append a (n ∷ []) in omega arith

pub front_path : (d q whole : Path) → whole ≡ d ++ q → is_path whole ≡ true → 0 < length d → is_path d ≡ true
front_path d [] whole e h some = ap is_path (sym (append-nil d) ∙ sym e) ∙ h
front_path d (x ∷ q) whole e h some = path_front d (x ∷ q) (ap is_path (sym e) ∙ h) some (more q)
  where
    more : (q : Path) → 0 < length (x ∷ q)
    more q = omega arith
