-- What a merge leaves unresolved, by what walks from both roots find.
use Rattle.std.proofs.Common.{◌≡◌, ◌⊎◌, inl, inr, Bool, true, false, cond, not, ◌&&◌, ◌||◌, [], ◌∷◌, ◌++◌, refl, sym, ap, subst, ◌∙◌, append_assoc}
use Rattle.std.specs.Prelude.{Option, None, Some, bytes_eq, ◌==◌}
use mathlib.Core.Bool.{true≢false}
use Rattle.std.specs.List.{AllByRecursion}
use Rattle.std.specs.FinMap.{find as find_key}
use Rattle.std.proofs.lemmas.Bool.{and_parts, eqb-true, eq-eqb}
use Rattle.std.proofs.lemmas.List.{append-nil}
use Rattle.std.proofs.lemmas.Slice.Eq.{bytes_eq-Decides}
use Rattle.byte_fields.specs.Bytes.{Id}
use Rattle.byte_fields.proofs.Booleans.{same_some}
use Rattle.changeset_model.specs.Path.{Path, path_eq, is_path, is_prefix, comparable}
use Rattle.changeset_model.specs.Changeset.{kind_byte, File, Changeset}
use Rattle.changeset_model.specs.Decoding.{kind_of}
use Rattle.changeset_model.specs.Codes.{kind_of-kind_byte}
use Rattle.history_model.specs.Tree.{decides}
use Rattle.history_model.specs.Merge.{file_eq, stands_against}
use Rattle.manifest_model.specs.Fsnode.{Summary, FsEntry, FsFile, FsDir}
use Rattle.manifest_laws.specs.Entries.{file_of_entry}
use Rattle.manifest_laws.proofs.Names.{Name, name_cmp, name_itself}
use Rattle.tree_fold.proofs.Files.{same_path, path_eq_itself}
use Rattle.merge_walk.specs.Walk.{Listing, entry_from}
use Rattle.merge_walk.specs.Meeting.{is_same, met}
use Rattle.merge_walk.proofs.Entries.{from_nothing, from_there, none_under_file, files_apart, goes_through}
use Rattle.merge_walk.proofs.Lookup.{of_met}
use Rattle.merge_walk.proofs.Fronts.{front_ruled}

-- ---- equal files

file_eq_same : (f g : File) → file_eq f g ≡ true → f ≡ g
file_eq_same f g h =
    let both = and_parts (bytes_eq f.content g.content && (kind_byte f.kind == kind_byte g.kind)) (f.size == g.size) h in
    let parts = and_parts (bytes_eq f.content g.content) (kind_byte f.kind == kind_byte g.kind) both.0 in
    let content = (bytes_eq-Decides f.content g.content).0 parts.0 in
    let kind : f.kind ≡ g.kind = sym (kind_of-kind_byte f.kind) ∙ ap kind_of (eqb-true (kind_byte f.kind) (kind_byte g.kind) parts.1) ∙ kind_of-kind_byte g.kind in
    let size = eqb-true f.size g.size both.1 in
    (λ i. record { content = content i; kind = kind i; size = size i })

file_eq_itself : (f : File) → file_eq f f ≡ true
file_eq_itself f = (λ i. name_itself f.content i && eq-eqb (kind_byte f.kind) (kind_byte f.kind) refl i && eq-eqb f.size f.size refl i)

pub file_eq-comm : (f g : File) → file_eq g f ≡ false → file_eq f g ≡ false
file_eq-comm f g h = by (file_eq f g) refl
  where
    by : (b : Bool) → file_eq f g ≡ b → file_eq f g ≡ false
    by true e = absurd (true≢false (sym (file_eq_itself f) ∙ ap (λ x. file_eq x f) (file_eq_same f g e) ∙ h))
    by false e = e

-- ---- what stands against a file

prefix_itself : (p : Path) → is_prefix p p ≡ true
prefix_itself [] = refl
prefix_itself (e ∷ p) = (λ i. name_itself e i && prefix_itself p i)

prefix_front : (p q : Path) → is_prefix p (p ++ q) ≡ true
prefix_front [] q = refl
prefix_front (e ∷ p) q = (λ i. name_itself e i && prefix_front p q i)

pub front_comparable : (p q : Path) → comparable p (p ++ q) ≡ true
front_comparable p q = (λ i. prefix_front p q i || is_prefix (p ++ q) p)

pub stands_comparable : (c : Changeset) (e g : Path × File) → stands_against c e g ≡ true → comparable e.0 g.0 ≡ true
stands_comparable c e g h = by (path_eq e.0 g.0) refl h
  where
    by : (b : Bool) → path_eq e.0 g.0 ≡ b → cond b (not (file_eq e.1 g.1)) (comparable e.0 g.0 && not (decides c g.0)) ≡ true → comparable e.0 g.0 ≡ true
    by true same h = ap (comparable e.0) (sym (same_path e.0 g.0 same)) ∙ (λ i. prefix_itself e.0 i || is_prefix e.0 e.0)
    by false apart h = (and_parts (comparable e.0 g.0) (not (decides c g.0)) h).0

pub is_not : (b : Bool) → not b ≡ true → b ≡ false
is_not true h = absurd (true≢false (sym h))
is_not false h = refl

-- it is at another path, so it is left too
pub stands_left : (c : Changeset) (e g : Path × File) → (e.0 ≡ g.0 → ⊥) → stands_against c e g ≡ true → decides c g.0 ≡ false
stands_left c e g apart h = by (path_eq e.0 g.0) refl h
  where
    by : (b : Bool) → path_eq e.0 g.0 ≡ b → cond b (not (file_eq e.1 g.1)) (comparable e.0 g.0 && not (decides c g.0)) ≡ true → decides c g.0 ≡ false
    by true same h = absurd (apart (same_path e.0 g.0 same))
    by false other h = is_not (decides c g.0) (and_parts (comparable e.0 g.0) (not (decides c g.0)) h).1

pub stands_here : (c : Changeset) (p q : Path) (f g : File) → p ≡ q → stands_against c (p, f) (q, g) ≡ true → file_eq f g ≡ false
stands_here c p q f g same h = is_not (file_eq f g) (ap (λ b. cond b (not (file_eq f g)) (comparable p q && not (decides c q))) (sym (path_eq_itself p) ∙ ap (path_eq p) same) ∙ h)

-- ---- by walks

-- a file from the one root, which the changeset leaves, stands against one from the other
pub record Against (listed : Listing) (c : Changeset) (a b : Option FsEntry) (q : Path) : Type 0 where
  pub file : File
  pub there : entry_from listed a q ≡ Some (FsFile file)
  pub ruled : is_path q ≡ true
  pub is_left : decides c q ≡ false
  pub other : Path
  pub other_file : File
  pub other_there : entry_from listed b other ≡ Some (FsFile other_file)
  pub other_ruled : is_path other ≡ true
  pub stands : stands_against c (q, file) (other, other_file) ≡ true

abbrev pub IsOpen : Listing → Changeset → Option FsEntry → Option FsEntry → Path → Type 0
IsOpen listed c a b q = Against listed c a b q ⊎ Against listed c b a q

moved : (listed : Listing) (c : Changeset) (a b : Option FsEntry) (p q : Path) → p ≡ q → Against listed c a b p → Against listed c a b q
moved listed c a b p q e u = subst (Against listed c a b) e u

pub same_file : (o : Option FsEntry) (f g : File) → o ≡ Some (FsFile f) → o ≡ Some (FsFile g) → f ≡ g
same_file o f g e h = same_some f g (ap file_of_entry (sym e ∙ h))

pub no_dir : {P : Type 0} (o : Option FsEntry) (f : File) (x : Id) (s : Summary) → o ≡ Some (FsDir x s) → o ≡ Some (FsFile f) → P
no_dir o f x s dir file = absurd cc

pub no_file : {P : Type 0} (o : Option FsEntry) (f : File) → o ≡ None → o ≡ Some (FsFile f) → P
no_file o f none some = absurd cc

-- ---- directories with one id

pub nothing_in_one : (listed : Listing) (c : Changeset) (a b : Option FsEntry) (d : Path) (x : Id) (s t : Summary) (r : Path) → entry_from listed a d ≡ Some (FsDir x s) → entry_from listed b d ≡ Some (FsDir x t) → Against listed c a b (d ++ r) → ⊥
nothing_in_one listed c a b d x s t [] left right u = no_dir (entry_from listed a d) u.file x s left (ap (entry_from listed a) (sym (append-nil d)) ∙ u.there)
nothing_in_one listed c a b d x s t (n ∷ r) left right u =
    let q = d ++ n ∷ r in
    let here : entry_from listed b q ≡ Some (FsFile u.file) = from_there listed b (Some (FsDir x t)) d (n ∷ r) right ∙ sym (from_there listed a (Some (FsDir x s)) d (n ∷ r) left) ∙ u.there in
    let path : q ≡ u.other = files_apart listed b q u.other u.file u.other_file here u.other_there (stands_comparable c (q, u.file) (u.other, u.other_file) u.stands) in
    let file : u.file ≡ u.other_file = same_file (entry_from listed b q) u.file u.other_file here (ap (entry_from listed b) path ∙ u.other_there) in
    true≢false (sym (file_eq_itself u.file) ∙ ap (file_eq u.file) file ∙ stands_here c q u.other u.file u.other_file path u.stands)

-- ---- two directories

-- both have the name under which something is unresolved, and different entries there
record Common (listed : Listing) (x y : Id) (r : Path) : Type 0 where
  name : Name
  rest : Path
  goes : r ≡ name ∷ rest
  of_left : FsEntry
  left_there : find_key name_cmp name (listed x) ≡ Some of_left
  of_right : FsEntry
  right_there : find_key name_cmp name (listed y) ≡ Some of_right
  differ : is_same of_left of_right ≡ false

differ_by : (listed : Listing) (c : Changeset) (a b : Option FsEntry) (d : Path) (r : Path) (e g : FsEntry) → entry_from listed a d ≡ Some e → entry_from listed b d ≡ Some g → Against listed c a b (d ++ r) → is_same e g ≡ true → ⊥
differ_by listed c a b d [] (FsFile f) (FsFile g) left right u same =
    let nil = append-nil d in
    let path : d ++ [] ≡ u.other = nil ∙ files_apart listed b d u.other g u.other_file right u.other_there (ap (λ p. comparable p u.other) (sym nil) ∙ stands_comparable c (d ++ [], u.file) (u.other, u.other_file) u.stands) in
    let of_left = same_file (entry_from listed a d) u.file f (ap (entry_from listed a) (sym nil) ∙ u.there) left in
    let of_right = same_file (entry_from listed b d) u.other_file g (ap (entry_from listed b) (sym nil ∙ path) ∙ u.other_there) right in
    true≢false (sym same ∙ (λ i. file_eq (sym of_left i) (sym of_right i)) ∙ stands_here c (d ++ []) u.other u.file u.other_file path u.stands)
differ_by listed c a b d (n ∷ r) (FsFile f) (FsFile g) left right u same = no_file (entry_from listed a (d ++ n ∷ r)) u.file (none_under_file listed a d f n r left) u.there
differ_by listed c a b d r (FsFile f) (FsDir y t) left right u same = true≢false (sym same)
differ_by listed c a b d r (FsDir x s) (FsFile g) left right u same = true≢false (sym same)
differ_by listed c a b d r (FsDir x s) (FsDir y t) left right u same =
    let one = (bytes_eq-Decides x y).0 same in
    nothing_in_one listed c a b d y s t r (left ∙ ap (λ z. Some (FsDir z s)) one) right u

common : (listed : Listing) (c : Changeset) (a b : Option FsEntry) (d : Path) (x y : Id) (s t : Summary) (r : Path) → entry_from listed a d ≡ Some (FsDir x s) → entry_from listed b d ≡ Some (FsDir y t) → Against listed c a b (d ++ r) → Common listed x y r
common listed c a b d x y s t [] left right u = no_dir (entry_from listed a d) u.file x s left (ap (entry_from listed a) (sym (append-nil d)) ∙ u.there)
common listed c a b d x y s t (n ∷ r) left right u =
    let through = goes_through listed b d y t n r u.other u.other_file right u.other_there (stands_comparable c (d ++ n ∷ r, u.file) (u.other, u.other_file) u.stands) in
    let of_left : entry_from listed (find_key name_cmp n (listed x)) r ≡ Some (FsFile u.file) = sym (from_there listed a (Some (FsDir x s)) d (n ∷ r) left) ∙ u.there in
    let of_right : entry_from listed (find_key name_cmp n (listed y)) through.0 ≡ Some (FsFile u.other_file) = sym (from_there listed b (Some (FsDir y t)) d (n ∷ through.0) right) ∙ ap (entry_from listed b) (sym through.1) ∙ u.other_there in
    by through.0 (find_key name_cmp n (listed x)) refl (find_key name_cmp n (listed y)) refl of_left of_right
  where
    here : (o : Option FsEntry) (z : Id) (w : Summary) → entry_from listed o d ≡ Some (FsDir z w) → entry_from listed o (d ++ n ∷ []) ≡ find_key name_cmp n (listed z)
    here o z w e = from_there listed o (Some (FsDir z w)) d (n ∷ []) e

    differs : (e g : FsEntry) → find_key name_cmp n (listed x) ≡ Some e → find_key name_cmp n (listed y) ≡ Some g → (same : Bool) → is_same e g ≡ same → is_same e g ≡ false
    differs e g le ge true same = absurd (differ_by listed c a b (d ++ n ∷ []) r e g (here a x s left ∙ le) (here b y t right ∙ ge) (moved listed c a b (d ++ n ∷ r) ((d ++ n ∷ []) ++ r) (sym (append_assoc d (n ∷ []) r)) u) same)
    differs e g le ge false same = same

    by : (v : Path) (o : Option FsEntry) → find_key name_cmp n (listed x) ≡ o → (p : Option FsEntry) → find_key name_cmp n (listed y) ≡ p → entry_from listed o r ≡ Some (FsFile u.file) → entry_from listed p v ≡ Some (FsFile u.other_file) → Common listed x y (n ∷ r)
    by v None le p ge l g = no_file (entry_from listed None r) u.file (from_nothing listed r) l
    by v (Some e) le None ge l g = no_file (entry_from listed None v) u.other_file (from_nothing listed v) g
    by v (Some e) le (Some h) ge l g = record { name = n; rest = r; goes = refl; of_left = e; left_there = le; of_right = h; right_there = ge; differ = differs e h le ge (is_same e h) refl }

is_same-comm : (e g : FsEntry) → is_same g e ≡ false → is_same e g ≡ false
is_same-comm (FsFile f) (FsFile g) h = file_eq-comm f g h
is_same-comm (FsFile f) (FsDir y t) h = refl
is_same-comm (FsDir x s) (FsFile g) h = refl
is_same-comm (FsDir x s) (FsDir y t) h = by (bytes_eq x y) refl
  where
    by : (b : Bool) → bytes_eq x y ≡ b → bytes_eq x y ≡ false
    by true e = absurd (true≢false (sym (name_itself x) ∙ ap (λ z. bytes_eq z x) ((bytes_eq-Decides x y).0 e) ∙ h))
    by false e = e

-- what holds of all that is open under the meetings in a directory holds of all that is open in it
abbrev pub HoldsUnder : Listing → Changeset → Option FsEntry → Option FsEntry → (Path → Bool) → Path → Type 0
HoldsUnder listed c a b test d = (r : Path) → IsOpen listed c a b (d ++ r) → test (d ++ r) ≡ true

pub holds_in : (listed : Listing) (c : Changeset) (a b : Option FsEntry) (d : Path) (x y : Id) (s t : Summary) (test : Path → Bool) → entry_from listed a d ≡ Some (FsDir x s) → entry_from listed b d ≡ Some (FsDir y t) → AllByRecursion (λ m. HoldsUnder listed c a b test m.0) (met d (listed x) (listed y)) → HoldsUnder listed c a b test d
holds_in listed c a b d x y s t test left right all r u = by u
  where
    at_name : (n : Name) (v : Path) → r ≡ n ∷ v → (e g : FsEntry) → find_key name_cmp n (listed x) ≡ Some e → find_key name_cmp n (listed y) ≡ Some g → is_same e g ≡ false → is_path (d ++ r) ≡ true → IsOpen listed c a b (d ++ r) → test (d ++ r) ≡ true
    at_name n v goes e g le ge differ ruled o =
        let path : d ++ r ≡ (d ++ n ∷ []) ++ v = ap (λ w. d ++ w) goes ∙ sym (append_assoc d (n ∷ []) v) in
        let front = front_ruled (d ++ n ∷ []) v (ap is_path (sym path) ∙ ruled) d n refl in
        ap test path ∙ of_met (λ m. HoldsUnder listed c a b test m.0) d (listed x) (listed y) n e g le ge differ front all v (subst (IsOpen listed c a b) path o)

    by : IsOpen listed c a b (d ++ r) → test (d ++ r) ≡ true
    by (inl w) = let k = common listed c a b d x y s t r left right w in at_name k.name k.rest k.goes k.of_left k.of_right k.left_there k.right_there k.differ w.ruled (inl w)
    by (inr w) = let k = common listed c b a d y x t s r right left w in at_name k.name k.rest k.goes k.of_right k.of_left k.right_there k.left_there (is_same-comm k.of_right k.of_left k.differ) w.ruled (inr w)
