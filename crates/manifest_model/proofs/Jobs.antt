-- What a job derives is what the definitions give from scratch.
use Rattle.std.proofs.Common.{◌≡◌, ℕ, zero, suc, ◌+◌, ◌++◌, Bool, true, false, cond, ◌||◌, List, [], ◌∷◌, map, refl, sym, ap, ◌∙◌}
use Rattle.std.specs.Prelude.{Option, Some, None, is_some, filter_map, if◌then◌else◌}
use Rattle.std.specs.List.{cons_option}
use Rattle.std.specs.Option.{option_map_or}
use Rattle.std.proofs.lemmas.List.{map-append}
use Rattle.sha2.specs.Sha256.{sha256}
use Rattle.changeset_model.specs.Path.{Path, text_of}
use Rattle.changeset_model.specs.Changeset.{File, set_at}
use Rattle.history_model.specs.History.{Known}
use Rattle.history_model.specs.Past.{Past, Begin, At}
use Rattle.history_model.specs.Tree.{files_in, file_at, is_file, is_dir, below, children, depth}
use Rattle.manifest_model.specs.Unode.{Unode, Manifest, FileUnode, unode_id, unode_entry, is_renewed}
use Rattle.manifest_model.specs.Merged.{Side, files_before, dirs_before, parents_from, differ, kept, merged_within, side_of, unode_at}
use Rattle.manifest_model.specs.Deleted.{deletions, gone_on}
use Rattle.manifest_model.specs.Manifests.{paths_of, Manifests, manifests_by, manifests_in, Job, unode_in, side_in, gone_from, derive}
use Rattle.manifest_model.proofs.Deletions.{deletions_go_on}
use Rattle.manifest_model.proofs.Derivations.{look, dir_has, file_has}

guarded : (b : Bool) (m n : Unode) → (b ≡ true → m ≡ n) → cond b (Some m) None ≡ cond b (Some n) None
guarded true m n e = ap (λ u. Some u) (e refl)
guarded false m n e = refl

-- the sides matter by the nodes before alone
module _ (c : Known) (now : List (Path × File)) (sides others : List Side) (files_are : (p : Path) → files_before sides p ≡ files_before others p) (dirs_are : (p : Path) → dirs_before sides p ≡ dirs_before others p) where
  within_same : (n : ℕ) (p : Path) → merged_within c now sides n p ≡ merged_within c now others n p
  within_same zero p = (λ i. option_map_or (λ f. cond (is_some (set_at c.changeset p) || differ (files_are p i)) (FileUnode (parents_from (files_are p i)) f.content f.kind (sha256 (text_of p)) c.id) (kept (files_are p i))) (file_at now p) (kept (dirs_are p i)))
  within_same (suc n) p = (λ i. option_map_or (λ f. cond (is_some (set_at c.changeset p) || differ (files_are p i)) (FileUnode (parents_from (files_are p i)) f.content f.kind (sha256 (text_of p)) c.id) (kept (files_are p i))) (file_at now p)
      (cond (is_renewed c.changeset p || differ (dirs_are p i))
      (Manifest (parents_from (dirs_are p i)) c.id (map (λ child. (child.0, unode_entry child.1 (unode_id (within_same n (p ++ child.0 ∷ []) i)))) (children (below p now))))
      (kept (dirs_are p i))))

-- the manifests of a parent, if there is one
abbrev pub of_past : Past → List Manifests
of_past Begin = []
of_past (At k first second) = manifests_in k.id (At k first second) ∷ []

files_by : (past : Past) (p : Path) → files_before (map side_in (of_past past)) p ≡ files_before (side_of past (unode_at past)) p
files_by Begin p = refl
files_by (At k first second) p =
    let past = At k first second in
    let files = files_in past in
    (λ i. cons_option (guarded (is_file files p) (unode_in (manifests_in k.id past) p) (unode_at past p) (λ h. look (unode_at past) p (paths_of files) (file_has files p h)) i) [])

dirs_by : (past : Past) (p : Path) → dirs_before (map side_in (of_past past)) p ≡ dirs_before (side_of past (unode_at past)) p
dirs_by Begin p = refl
dirs_by (At k first second) p =
    let past = At k first second in
    let files = files_in past in
    (λ i. cons_option (guarded (is_dir files p) (unode_in (manifests_in k.id past) p) (unode_at past p) (λ h. look (unode_at past) p (paths_of files) (dir_has files p h)) i) [])

some_append : (o : Option Unode) (xs ys : List Unode) → cons_option o (xs ++ ys) ≡ cons_option o xs ++ ys
some_append None xs ys = refl
some_append (Some n) xs ys = refl

before_append : (f : Side → Option Unode) (xs ys : List Side) → filter_map f (xs ++ ys) ≡ filter_map f xs ++ filter_map f ys
before_append f [] ys = refl
before_append f (x ∷ xs) ys = ap (cons_option (f x)) (before_append f xs ys) ∙ some_append (f x) (filter_map f xs) (filter_map f ys)

abbrev pub job_of_past : Known → Past → Past → List Manifests → Job
job_of_past c first second parents = record { changeset = c; files = files_in (At c first second); parents = parents }

gone_of_first : (c : Known) (first second : Past) (now : List (Path × File)) → (first ≡ Begin → second ≡ Begin) → gone_from c.id now (of_past first ++ of_past second) ≡ gone_on c.id now (files_in first) (deletions first)
gone_of_first c Begin second now only = ap (λ s. gone_from c.id now (of_past s)) (only refl)
gone_of_first c (At k first other) second now only = refl

-- on the manifests of the parents, which are those from scratch. A changeset without a first parent has no second one
pub derives : (c : Known) (first second : Past) → (first ≡ Begin → second ≡ Begin) → derive (job_of_past c first second (of_past first ++ of_past second)) ≡ manifests_in c.id (At c first second)
derives c first second only =
    let now = files_in (At c first second) in
    let a = of_past first in
    let b = of_past second in
    let left = side_of first (unode_at first) in
    let right = side_of second (unode_at second) in
    let is_f = λ (p : Path) (side : Side). if is_file side.files p then Some (side.unode_at p) else None in
    let is_d = λ (p : Path) (side : Side). if is_dir side.files p then Some (side.unode_at p) else None in
    let files_are : (p : Path) → files_before (map side_in (a ++ b)) p ≡ files_before (left ++ right) p =
    λ p. ap (λ sides. files_before sides p) (map-append side_in a b) ∙ before_append (is_f p) (map side_in a) (map side_in b) ∙ (λ i. files_by first p i ++ files_by second p i) ∙ sym (before_append (is_f p) left right)
    in
    let dirs_are : (p : Path) → dirs_before (map side_in (a ++ b)) p ≡ dirs_before (left ++ right) p =
    λ p. ap (λ sides. dirs_before sides p) (map-append side_in a b) ∙ before_append (is_d p) (map side_in a) (map side_in b) ∙ (λ i. dirs_by first p i ++ dirs_by second p i) ∙ sym (before_append (is_d p) left right)
    in
    (λ i. manifests_by c.id now ((gone_of_first c first second now only ∙ deletions_go_on c first second) i) (λ p. within_same c now (map side_in (a ++ b)) (left ++ right) files_are dirs_are (depth now + 1) p i))
