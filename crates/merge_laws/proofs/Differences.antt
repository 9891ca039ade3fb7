-- Where both parents have different unodes of a name, they have different ones of its directory too.
use Rattle.std.proofs.Common.{◌≡◌, Bool, true, false, not, ◌&&◌, [], ◌∷◌, ◌++◌, length, refl, sym, ap, ◌∙◌}
use Rattle.std.specs.Prelude.{Option, Some, None, bytes_eq, is_some, ◌==◌}
use mathlib.Core.Bool.{true≢false}
use Rattle.std.proofs.lemmas.Bool.{and_parts}
use Rattle.changeset_model.specs.Path.{Path}
use Rattle.changeset_model.specs.Changeset.{File}
use Rattle.history_model.specs.History.{Known}
use Rattle.history_model.specs.Past.{Past, Begin, At}
use Rattle.history_model.specs.Tree.{files_in, file_at, is_file, is_dir}
use Rattle.manifest_model.specs.Unode.{unode_id}
use Rattle.manifest_model.specs.Merged.{unode_at}
use Rattle.manifest_laws.specs.Entries.{unode_entry_for}
use Rattle.manifest_laws.proofs.Changes.{prefix_itself}
use Rattle.manifest_laws.proofs.Flat.{strict_under}
use Rattle.manifest_laws.proofs.Lists.{true_and_false}
use Rattle.manifest_laws.proofs.Names.{Name, name_itself, same_name}
use Rattle.manifest_laws.proofs.Seen.{one_more as under_dir}
use Rattle.manifest_laws.proofs.Unodes.{not_root}
use Rattle.merge_laws.specs.Joined.{dirs_differ, files_differ}
use Rattle.merge_laws.specs.Resolved.{AreAllApart, AreResolved, has_dir}
use Rattle.merge_laws.proofs.Equal.{id_of, seen_alike}
use Rattle.merge_laws.proofs.FsTold.{had}
use Rattle.merge_laws.proofs.Trees.{alone, dir_from, file_under, flat}
use Rattle.merge_laws.proofs.UnodeMerge.{seen_on}

some_of : (o : Option File) → is_some o ≡ true → (f : File) × (o ≡ Some f)
some_of None h = absurd (true≢false (sym h))
some_of (Some f) h = (f, refl)

-- a directory that has a name is there
pub file_in : (past : Past) (d : Path) (n : Name) → is_file (files_in past) (d ++ n ∷ []) ≡ true → has_dir past d ≡ true
file_in Begin d n h = absurd (true≢false (sym h))
file_in (At c first second) d n h =
    let some = some_of (file_at (files_in (At c first second)) (d ++ n ∷ [])) h in
    dir_from (files_in (At c first second)) d (d ++ n ∷ []) some.0 (under_dir d n) some.1

pub dir_in : (past : Past) (d : Path) (n : Name) → has_dir past (d ++ n ∷ []) ≡ true → has_dir past d ≡ true
dir_in Begin d n h = absurd (true≢false (sym h))
dir_in (At c first second) d n h =
    let found = file_under (files_in (At c first second)) (d ++ n ∷ []) (not_root d n) h in
    dir_from (files_in (At c first second)) d found.0 found.1 (strict_under d (d ++ n ∷ []) found.0 (prefix_itself d (n ∷ [])) found.2) found.3

pub file_id : (past : Past) (p : Path) → is_file (files_in past) p ≡ true → id_of (seen_on past p) ≡ unode_id (unode_at past p)
file_id past p h =
    let some = some_of (file_at (files_in past) p) h in
    (λ i. id_of (unode_entry_for (some.1 i) (is_dir (files_in past) p) (unode_id (unode_at past p))))

pub dir_id : (past : Past) (p : Path) → (length p == 0) ≡ false → AreResolved past → is_dir (files_in past) p ≡ true → id_of (seen_on past p) ≡ unode_id (unode_at past p)
dir_id past p deep all h = (λ i. id_of (unode_entry_for (alone (files_in past) (flat past all) p deep h i) (h i) (unode_id (unode_at past p))))

module _ (c : Known) (first second : Past) (all : AreResolved (At c first second)) (apart : AreAllApart (At c first second)) (d : Path) (n : Name) where
  abbrev at : Path
  at = d ++ n ∷ []

  abbrev AreOther : Type 0
  AreOther = not (bytes_eq (unode_id (unode_at first at)) (unode_id (unode_at second at))) ≡ true

  other_ids : AreOther → unode_id (unode_at first at) ≡ unode_id (unode_at second at) → ⊥
  other_ids other same =
      true_and_false (not (bytes_eq (unode_id (unode_at first at)) (unode_id (unode_at second at)))) other
      (ap not (ap (bytes_eq (unode_id (unode_at first at))) (sym same) ∙ name_itself (unode_id (unode_at first at))))

  up : has_dir first d ≡ true → has_dir second d ≡ true → (seen_on first at ≡ seen_on second at → ⊥) → dirs_differ first second d ≡ true
  up h k away = by (bytes_eq (unode_id (unode_at first d)) (unode_id (unode_at second d))) refl
    where
      by : (b : Bool) → bytes_eq (unode_id (unode_at first d)) (unode_id (unode_at second d)) ≡ b → dirs_differ first second d ≡ true
      by true e = absurd (away (seen_alike c first second all apart d n h k (apart.0.unodes d h k (same_name (unode_id (unode_at first d)) (unode_id (unode_at second d)) e))))
      by false e = λ i. h i && (k i && not (e i))

  pub files_up : files_differ first second at ≡ true → dirs_differ first second d ≡ true
  files_up h =
      let one = and_parts (is_file (files_in first) at) (is_file (files_in second) at && not (bytes_eq (unode_id (unode_at first at)) (unode_id (unode_at second at)))) h in
      let two = and_parts (is_file (files_in second) at) (not (bytes_eq (unode_id (unode_at first at)) (unode_id (unode_at second at)))) one.1 in
      up (file_in first d n one.0) (file_in second d n two.0) (λ same. other_ids two.1 (sym (file_id first at one.0) ∙ ap id_of same ∙ file_id second at two.0))

  pub dirs_up : dirs_differ first second at ≡ true → dirs_differ first second d ≡ true
  dirs_up h =
      let one = and_parts (has_dir first at) (has_dir second at && not (bytes_eq (unode_id (unode_at first at)) (unode_id (unode_at second at)))) h in
      let two = and_parts (has_dir second at) (not (bytes_eq (unode_id (unode_at first at)) (unode_id (unode_at second at)))) one.1 in
      up (dir_in first d n one.0) (dir_in second d n two.0)
      (λ same. other_ids two.1 (sym (dir_id first at (not_root d n) all.1 (had first at one.0)) ∙ ap id_of same ∙ dir_id second at (not_root d n) all.2 (had second at two.0)))
