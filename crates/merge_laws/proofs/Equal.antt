-- Where both parents have one unode of a directory, they have its files alike.
use Rattle.std.proofs.Common.{◌≡◌, ◌⊎◌, inl, inr, Bool, true, false, [], ◌∷◌, ◌++◌, length, refl, sym, ap, ◌∙◌, arith}
use Rattle.std.specs.Prelude.{Option, Some, None, is_some, ◌==◌}
use mathlib.Core.Bool.{true≢false}
use Rattle.std.proofs.lemmas.List.{length-append}
use Rattle.byte_fields.specs.Bytes.{Id}
use Rattle.changeset_model.specs.Path.{Path, is_strict_prefix}
use Rattle.changeset_model.specs.Changeset.{File}
use Rattle.history_model.specs.History.{Known}
use Rattle.history_model.specs.Past.{Past, At}
use Rattle.history_model.specs.Tree.{decides, files_in, file_at, is_dir}
use Rattle.manifest_model.specs.Fsnode.{fsnode}
use Rattle.manifest_model.specs.Unode.{UnodeEntry, UnodeFile, UnodeDir, is_renewed, unode_id}
use Rattle.manifest_model.specs.Merged.{unode_at}
use Rattle.manifest_laws.specs.Entries.{is_dir_unode_entry, is_file_unode_entry, unode_entry_at, unode_entry_for}
use Rattle.manifest_laws.proofs.Changes.{prefix_itself, same_below}
use Rattle.manifest_laws.proofs.Flat.{is_strict_or_same, strict_from, strict_under}
use Rattle.manifest_laws.proofs.Fsnodes.{same_node}
use Rattle.manifest_laws.proofs.Lists.{none_some, true_and_false}
use Rattle.manifest_laws.proofs.Names.{Name}
use Rattle.manifest_laws.proofs.Seen.{one_more as under_dir}
use Rattle.manifest_laws.proofs.Unodes.{not_root}
use Rattle.merge_laws.specs.Resolved.{AreResolved, AreAllApart, has_dir}
use Rattle.merge_laws.proofs.Trees.{Files, alone, dir_from, flat, merges, rises}
use Rattle.merge_laws.proofs.FsTold.{all_free, deep_of, had, has, nested, rest_of}
use Rattle.merge_laws.proofs.UnodeEntries.{entry_there}
use Rattle.merge_laws.proofs.UnodeMerge.{seen_on}

pub tells_file : (f : Option File) (b : Bool) (x : Id) → is_file_unode_entry (unode_entry_for f b x) ≡ is_some f
tells_file (Some f) b x = refl
tells_file None true x = refl
tells_file None false x = refl

pub tells_dir : (f : Option File) (b : Bool) (x : Id) → (b ≡ true → f ≡ None) → is_dir_unode_entry (unode_entry_for f b x) ≡ b
tells_dir (Some f) true x alone = none_some f (sym (alone refl))
tells_dir (Some f) false x alone = refl
tells_dir None true x alone = refl
tells_dir None false x alone = refl

abbrev pub id_of : Option UnodeEntry → Id
id_of None = []
id_of (Some (UnodeFile x)) = x
id_of (Some (UnodeDir x)) = x

-- of two files that agree, where one is there if the other is
same_file : (f g : Option File) → is_some f ≡ is_some g → ((x y : File) → f ≡ Some x → g ≡ Some y → x ≡ y) → f ≡ g
same_file None None e agree = refl
same_file None (Some y) e agree = absurd (true≢false (sym e))
same_file (Some x) None e agree = absurd (true≢false e)
same_file (Some x) (Some y) e agree = ap (λ z. Some z) (agree x y refl refl)

nothing_under : (fs : Files) (p q : Path) → is_strict_prefix p q ≡ true → is_dir fs p ≡ false → file_at fs q ≡ None
nothing_under fs p q under none = by (file_at fs q) refl
  where
    by : (o : Option File) → file_at fs q ≡ o → file_at fs q ≡ None
    by None e = e
    by (Some f) e = true_and_false (is_dir fs p) (dir_from fs p q f under e) none

more_under : (p : Path) (m : Name) (r : Path) → is_strict_prefix p (p ++ m ∷ r) ≡ true
more_under p m r = strict_from p (p ++ m ∷ r) (prefix_itself p (m ∷ r)) (let long = length-append p (m ∷ r) in omega (arith, long))

module _ (c : Known) (first second : Past) (all : AreResolved (At c first second)) (apart : AreAllApart (At c first second)) where
  abbrev left : Files
  left = files_in first

  abbrev right : Files
  right = files_in second

  abbrev IsFree : Path → Type 0
  IsFree d = (q : Path) → is_strict_prefix d q ≡ true → decides c.changeset q ≡ false

  pub seen_alike : (d : Path) (n : Name) → has_dir first d ≡ true → has_dir second d ≡ true → unode_at first d ≡ unode_at second d → seen_on first (d ++ n ∷ []) ≡ seen_on second (d ++ n ∷ [])
  seen_alike d n h k e = sym (entry_there first d n all.1 apart.1 h) ∙ ap (λ node. unode_entry_at node n) e ∙ entry_there second d n all.2 apart.2 k

  here_alike : (d : Path) (n : Name) → IsFree d → seen_on first (d ++ n ∷ []) ≡ seen_on second (d ++ n ∷ []) → file_at left (d ++ n ∷ []) ≡ file_at right (d ++ n ∷ [])
  here_alike d n free same =
      let p = d ++ n ∷ [] in
      same_file (file_at left p) (file_at right p)
      (sym (tells_file (file_at left p) (is_dir left p) (unode_id (unode_at first p))) ∙ ap is_file_unode_entry same ∙ tells_file (file_at right p) (is_dir right p) (unode_id (unode_at second p)))
      (λ x y f g. (merges c first second all).agree p x y f g (free p (under_dir d n)))

  alike : (r : Path) (d : Path) (n : Name) → IsFree d → has_dir first d ≡ true → has_dir second d ≡ true → unode_at first d ≡ unode_at second d → file_at left (d ++ n ∷ r) ≡ file_at right (d ++ n ∷ r)
  alike [] d n free h k e = here_alike d n free (seen_alike d n h k e)
  alike (m ∷ r) d n free h k e =
      ap (file_at left) (nested d n m r)
      ∙ by (λ a b same. alike r (d ++ n ∷ []) m (λ q under. free q (strict_under d (d ++ n ∷ []) q (prefix_itself d (n ∷ [])) under)) a b same) (is_dir left p) refl
      ∙ ap (file_at right) (sym (nested d n m r))
    where
      p : Path
      p = d ++ n ∷ []

      deep : (length p == 0) ≡ false
      deep = not_root d n

      same : seen_on first p ≡ seen_on second p
      same = seen_alike d n h k e

      dirs : is_dir left p ≡ is_dir right p
      dirs = sym (tells_dir (file_at left p) (is_dir left p) (unode_id (unode_at first p)) (alone left (flat first all.1) p deep)) ∙ ap is_dir_unode_entry same ∙ tells_dir (file_at right p) (is_dir right p) (unode_id (unode_at second p)) (alone right (flat second all.2) p deep)

      ids : is_dir left p ≡ true → is_dir right p ≡ true → unode_id (unode_at first p) ≡ unode_id (unode_at second p)
      ids a b =
          (λ i. id_of (unode_entry_for (sym (alone left (flat first all.1) p deep a) i) (sym a i) (unode_id (unode_at first p))))
          ∙ ap id_of same
          ∙ (λ i. id_of (unode_entry_for (alone right (flat second all.2) p deep b i) (b i) (unode_id (unode_at second p))))

      by : (has_dir first p ≡ true → has_dir second p ≡ true → unode_at first p ≡ unode_at second p → file_at left (p ++ m ∷ r) ≡ file_at right (p ++ m ∷ r)) → (b : Bool) → is_dir left p ≡ b → file_at left (p ++ m ∷ r) ≡ file_at right (p ++ m ∷ r)
      by later false a = nothing_under left p (p ++ m ∷ r) (more_under p m r) a ∙ sym (nothing_under right p (p ++ m ∷ r) (more_under p m r) (sym dirs ∙ a))
      by later true a =
          let b = sym dirs ∙ a in
          later (has first p deep a) (has second p deep b) (apart.0.unodes p (has first p deep a) (has second p deep b) (ids a b))

  under_alike : (d : Path) → IsFree d → has_dir first d ≡ true → has_dir second d ≡ true → unode_at first d ≡ unode_at second d → (q : Path) → is_strict_prefix d q ≡ true → file_at left q ≡ file_at right q
  under_alike d free h k e q under = let rest = rest_of d q under in ap (file_at left) rest.2 ∙ alike rest.1 d rest.0 free h k e ∙ ap (file_at right) (sym rest.2)

pub same_fsnode : (c : Known) (first second : Past) (d : Path) → AreResolved (At c first second) → AreAllApart (At c first second) → is_renewed c.changeset d ≡ false → is_dir (files_in (At c first second)) d ≡ true
    → has_dir first d ≡ true → has_dir second d ≡ true → unode_id (unode_at first d) ≡ unode_id (unode_at second d) → fsnode (files_in first) d ≡ fsnode (files_in second) d
same_fsnode c first second d all apart still dir h k e =
    same_node (files_in first) (files_in second) d (same_below (files_in first) (files_in second) d (rises first) (rises second) (λ q inside. by q (is_strict_or_same d q inside)))
  where
    deep : (length d == 0) ≡ false
    deep = deep_of c first second d all still dir

    here : file_at (files_in first) d ≡ file_at (files_in second) d
    here = alone (files_in first) (flat first all.1) d deep (had first d h) ∙ sym (alone (files_in second) (flat second all.2) d deep (had second d k))

    by : (q : Path) → (q ≡ d) ⊎ (is_strict_prefix d q ≡ true) → file_at (files_in first) q ≡ file_at (files_in second) q
    by q (inl same) = ap (file_at (files_in first)) same ∙ here ∙ ap (file_at (files_in second)) (sym same)
    by q (inr under) = under_alike c first second all apart d (all_free c first second d all still dir) h k (apart.0.unodes d h k e) q under
