-- What a walk finds along a path.
use Rattle.std.proofs.Common.{◌≡◌, ◌⊎◌, inl, inr, Bool, true, false, ◌||◌, [], ◌∷◌, ◌++◌, length, drop, refl, sym, ap, ◌∙◌, append_assoc}
use Rattle.std.specs.Prelude.{Option, None, Some}
use Rattle.byte_fields.specs.Bytes.{Id}
use Rattle.changeset_model.specs.Path.{Path, is_prefix, comparable}
use Rattle.changeset_model.specs.Changeset.{File}
use Rattle.manifest_model.specs.Fsnode.{Summary, FsEntry, FsFile, FsDir}
use Rattle.manifest_laws.specs.Entries.{file_of_entry}
use Rattle.manifest_laws.proofs.Names.{Name}
use Rattle.tree_fold.proofs.Texts.{front_rest}
use Rattle.std.proofs.lemmas.List.{append-nil}
use Rattle.merge_walk.specs.Walk.{Listing, under, entry_from}

pub from_nothing : (listed : Listing) (p : Path) → entry_from listed None p ≡ None
from_nothing listed [] = refl
from_nothing listed (n ∷ p) = from_nothing listed p

pub entry_from-append : (listed : Listing) (o : Option FsEntry) (p q : Path) → entry_from listed o (p ++ q) ≡ entry_from listed (entry_from listed o p) q
entry_from-append listed o [] q = refl
entry_from-append listed o (n ∷ p) q = entry_from-append listed (under listed o n) p q

-- from what is at d
pub from_there : (listed : Listing) (o here : Option FsEntry) (d q : Path) → entry_from listed o d ≡ here → entry_from listed o (d ++ q) ≡ entry_from listed here q
from_there listed o here d q e = entry_from-append listed o d q ∙ ap (λ x. entry_from listed x q) e

pub none_under_file : (listed : Listing) (o : Option FsEntry) (d : Path) (f : File) (n : Name) (q : Path) → entry_from listed o d ≡ Some (FsFile f) → entry_from listed o (d ++ n ∷ q) ≡ None
none_under_file listed o d f n q e = from_there listed o (Some (FsFile f)) d (n ∷ q) e ∙ from_nothing listed q

-- which summary a directory has doesn't matter under it
pub any_summary : (listed : Listing) (x : Id) (s t : Summary) (p : Path) (f : File) → entry_from listed (Some (FsDir x s)) p ≡ Some (FsFile f) → entry_from listed (Some (FsDir x t)) p ≡ Some (FsFile f)
any_summary listed x s t [] f e = absurd cc
any_summary listed x s t (n ∷ p) f e = e

pub is_file_entry : (o : Option FsEntry) (f : File) → file_of_entry o ≡ Some f → o ≡ Some (FsFile f)
is_file_entry None f e = absurd cc
is_file_entry (Some (FsFile g)) f e = ap (λ (x : Option File). elim x [ None ↦ None | Some y ↦ Some (FsFile y) ]) e
is_file_entry (Some (FsDir x s)) f e = absurd cc

-- ---- paths above and under one another

pub above_or_under : (p q : Path) → comparable p q ≡ true → ((r : Path) × (q ≡ p ++ r)) ⊎ ((r : Path) × (p ≡ q ++ r))
above_or_under p q h = by (is_prefix p q) refl h
  where
    by : (b : Bool) → is_prefix p q ≡ b → (b || is_prefix q p) ≡ true → ((r : Path) × (q ≡ p ++ r)) ⊎ ((r : Path) × (p ≡ q ++ r))
    by true e h = inl (drop (length p) q, front_rest p q e)
    by false e h = inr (drop (length q) p, front_rest q p h)

-- two paths above one
pub above_both : (d p q r : Path) → d ++ q ≡ p ++ r → ((s : Path) × (p ≡ d ++ s) × (q ≡ s ++ r)) ⊎ ((s : Path) × (d ≡ p ++ s))
above_both [] p q r e = inl (p, refl, e)
above_both (k ∷ d) [] q r e = inr (k ∷ d, refl)
above_both (k ∷ d) (m ∷ p) q r e = by (above_both d p q r (ap (λ (xs : Path). drop 1 xs) e))
  where
    same : k ≡ m
    same = cc

    by : ((s : Path) × (p ≡ d ++ s) × (q ≡ s ++ r)) ⊎ ((s : Path) × (d ≡ p ++ s)) → ((s : Path) × (m ∷ p ≡ k ∷ (d ++ s)) × (q ≡ s ++ r)) ⊎ ((s : Path) × (k ∷ d ≡ m ∷ (p ++ s)))
    by (inl w) = inl (w.0, (λ i. sym same i ∷ w.1 i), w.2)
    by (inr w) = inr (w.0, (λ i. same i ∷ w.1 i))

no_file : {P : Type 0} (o : Option FsEntry) (f : File) → o ≡ None → o ≡ Some (FsFile f) → P
no_file o f none some = absurd cc

no_dir : {P : Type 0} (o : Option FsEntry) (f : File) (x : Id) (s : Summary) → o ≡ Some (FsDir x s) → o ≡ Some (FsFile f) → P
no_dir o f x s dir file = absurd cc

-- no file is above what is there
pub file_above : {P : Type 0} (listed : Listing) (o : Option FsEntry) (p s : Path) (f : File) (x : Id) (t : Summary) → entry_from listed o p ≡ Some (FsFile f) → entry_from listed o (p ++ s) ≡ Some (FsDir x t) → P
file_above listed o p [] f x t file dir = no_dir (entry_from listed o p) f x t (ap (entry_from listed o) (sym (append-nil p)) ∙ dir) file
file_above listed o p (n ∷ s) f x t file dir = absurd (let none = none_under_file listed o p f n s file in cc)

-- of two files of one tree that are comparable: they are at one path
pub files_apart : (listed : Listing) (o : Option FsEntry) (p q : Path) (f g : File) → entry_from listed o p ≡ Some (FsFile f) → entry_from listed o q ≡ Some (FsFile g) → comparable p q ≡ true → p ≡ q
files_apart listed o p q f g at_p at_q h = by (above_or_under p q h)
  where
    under_p : (r : Path) → q ≡ p ++ r → p ≡ q
    under_p [] e = sym (append-nil p) ∙ sym e
    under_p (n ∷ r) e = no_file (entry_from listed o q) g (ap (entry_from listed o) e ∙ none_under_file listed o p f n r at_p) at_q

    under_q : (r : Path) → p ≡ q ++ r → p ≡ q
    under_q [] e = e ∙ append-nil q
    under_q (n ∷ r) e = no_file (entry_from listed o p) f (ap (entry_from listed o) e ∙ none_under_file listed o q g n r at_q) at_p

    by : ((r : Path) × (q ≡ p ++ r)) ⊎ ((r : Path) × (p ≡ q ++ r)) → p ≡ q
    by (inl w) = under_p w.0 w.1
    by (inr w) = under_q w.0 w.1

-- a file that is comparable to a path that goes on from a directory by a name goes on by that name too
pub goes_through : (listed : Listing) (o : Option FsEntry) (d : Path) (x : Id) (t : Summary) (n : Name) (r p : Path) (g : File) → entry_from listed o d ≡ Some (FsDir x t) → entry_from listed o p ≡ Some (FsFile g) → comparable (d ++ n ∷ r) p ≡ true → (s : Path) × (p ≡ d ++ n ∷ s)
goes_through listed o d x t n r p g dir file h = by (above_or_under (d ++ n ∷ r) p h)
  where
    shorter : (s u : Path) → p ≡ d ++ s → n ∷ r ≡ s ++ u → (s : Path) × (p ≡ d ++ n ∷ s)
    shorter [] u e cut = file_above listed o p [] g x t file (ap (entry_from listed o) (append-nil p ∙ e ∙ append-nil d) ∙ dir)
    shorter (m ∷ s) u e cut = let same : n ≡ m = cc in (s, e ∙ (λ i. d ++ sym same i ∷ s))

    split : (u : Path) → ((s : Path) × (p ≡ d ++ s) × (n ∷ r ≡ s ++ u)) ⊎ ((s : Path) × (d ≡ p ++ s)) → (s : Path) × (p ≡ d ++ n ∷ s)
    split u (inl w) = shorter w.0 u w.1 w.2
    split u (inr w) = file_above listed o p w.0 g x t file (ap (entry_from listed o) (sym w.1) ∙ dir)

    by : ((u : Path) × (p ≡ (d ++ n ∷ r) ++ u)) ⊎ ((u : Path) × (d ++ n ∷ r ≡ p ++ u)) → (s : Path) × (p ≡ d ++ n ∷ s)
    by (inl w) = (r ++ w.0, w.1 ∙ append_assoc d (n ∷ r) w.0)
    by (inr w) = split w.0 (above_both d p (n ∷ r) w.0 w.1)
