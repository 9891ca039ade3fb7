-- A file's unodes are a line, and those who made them are its history.
use Rattle.std.proofs.Common.{◌≡◌, ℕ, ◌+◌, ◌≤◌, Bool, true, false, cond, List, [], ◌∷◌, length, map, reverse, refl, sym, ap, subst, ◌∙◌, arith}
use Rattle.std.specs.Prelude.{Option, None, Some, is_some}
use Rattle.std.specs.List.{AllByRecursion}
use Rattle.byte_fields.specs.Bytes.{Id}
use Rattle.changeset_model.specs.Path.{Path}
use Rattle.changeset_model.specs.Changeset.{File, set_at}
use Rattle.history_model.specs.History.{Known}
use Rattle.history_model.specs.Chain.{changesets}
use Rattle.manifest_model.specs.Unode.{Unode, linknode_of, unode, unode_id}
use Rattle.manifest_model.specs.FileHistory.{file_history}
use Rattle.manifest_model.proofs.Links.{tree_on, tree_on-cons, was_there, unode_kept, unode_made}
use Rattle.unode.specs.History.{parents_of, IsLine, file_unodes}
use Rattle.manifest_model.proofs.Links.{none_some}

was_file : (c : Known) (older : List Known) (p : Path) (f : File) → tree_on (c ∷ older) p ≡ Some f → set_at c.changeset p ≡ None → tree_on older p ≡ Some f
was_file c older p f e n = was_there (changesets (reverse older)) c.changeset p f n (sym (tree_on-cons c older p) ∙ e)

-- each stands under its id
abbrev pub Stands : (Id → Option Unode) → List Unode → Type 0
Stands at line = AllByRecursion (λ n. at (unode_id n) ≡ Some n) line

older_line : (at : Id → Option Unode) (older : List Known) (p : Path) → ((f : File) → tree_on older p ≡ Some f → Stands at (file_unodes older p) → IsLine at (unode_id (unode older p) ∷ []) (file_unodes older p))
    → (o : Option File) → tree_on older p ≡ o → Stands at (cond (is_some o) (file_unodes older p) []) → IsLine at (cond (is_some o) (unode_id (unode older p) ∷ []) []) (cond (is_some o) (file_unodes older p) [])
older_line at older p later (Some f) e all = later f e all
older_line at older p later None e all = tt

abbrev from_set : Bool → Known → List Known → Path → List Unode
from_set b c older p = cond b (unode (c ∷ older) p ∷ cond (is_some (tree_on older p)) (file_unodes older p) []) (file_unodes older p)

line_by : (at : Id → Option Unode) (c : Known) (older : List Known) (p : Path) (f : File) → tree_on (c ∷ older) p ≡ Some f → ((f : File) → tree_on older p ≡ Some f → Stands at (file_unodes older p) → IsLine at (unode_id (unode older p) ∷ []) (file_unodes older p))
    → (o : Option File) → set_at c.changeset p ≡ o → Stands at (from_set (is_some o) c older p) → IsLine at (unode_id (unode (c ∷ older) p) ∷ []) (from_set (is_some o) c older p)
line_by at c older p f e later (Some g) s all =
    let rest : List Unode = cond (is_some (tree_on older p)) (file_unodes older p) [] in
    (all.0, subst (λ xs. IsLine at xs rest) (sym (ap parents_of (unode_made c older p f g e s))) (older_line at older p later (tree_on older p) refl all.1))
line_by at c older p f e later None s all =
    subst (λ n. IsLine at (unode_id n ∷ []) (file_unodes older p)) (sym (unode_kept c older p f e s)) (later f (was_file c older p f e s) all)

-- the unodes of a file are a line from the file's unode, wherever they all stand under their ids
pub file_line : (at : Id → Option Unode) (ks : List Known) (p : Path) (f : File) → tree_on ks p ≡ Some f → Stands at (file_unodes ks p) → IsLine at (unode_id (unode ks p) ∷ []) (file_unodes ks p)
file_line at [] p f e all = absurd (none_some f e)
file_line at (c ∷ older) p f e all = line_by at c older p f e (file_line at older p) (set_at c.changeset p) refl all

older_links : (older : List Known) (p : Path) → ((f : File) → tree_on older p ≡ Some f → map linknode_of (file_unodes older p) ≡ file_history older p)
    → (o : Option File) → tree_on older p ≡ o → map linknode_of (cond (is_some o) (file_unodes older p) []) ≡ cond (is_some o) (file_history older p) []
older_links older p later (Some f) e = later f e
older_links older p later None e = refl

abbrev history_from : Bool → Known → List Known → Path → List Id
history_from b c older p = cond b (c.id ∷ cond (is_some (tree_on older p)) (file_history older p) []) (file_history older p)

links_by : (c : Known) (older : List Known) (p : Path) (f : File) → tree_on (c ∷ older) p ≡ Some f → ((f : File) → tree_on older p ≡ Some f → map linknode_of (file_unodes older p) ≡ file_history older p)
    → (o : Option File) → set_at c.changeset p ≡ o → map linknode_of (from_set (is_some o) c older p) ≡ history_from (is_some o) c older p
links_by c older p f e later (Some g) s = λ i. ap linknode_of (unode_made c older p f g e s) i ∷ older_links older p later (tree_on older p) refl i
links_by c older p f e later None s = later f (was_file c older p f e s)

-- and the changesets that made them are the history of the file
pub file_links : (ks : List Known) (p : Path) (f : File) → tree_on ks p ≡ Some f → map linknode_of (file_unodes ks p) ≡ file_history ks p
file_links [] p f e = absurd (none_some f e)
file_links (c ∷ older) p f e = links_by c older p f e (file_links older p) (set_at c.changeset p) refl

no_longer : (u : Unode) (rest : List Unode) (n : ℕ) → length rest ≤ n → (a b : Bool) → length (cond a (u ∷ cond b rest []) rest) ≤ length (u ∷ []) + n
no_longer u rest n h true true = omega arith
no_longer u rest n h true false = omega arith
no_longer u rest n h false b = omega arith

-- there are no more of them than changesets
pub file_unodes_few : (ks : List Known) (p : Path) → length (file_unodes ks p) ≤ length ks
file_unodes_few [] p = omega arith
file_unodes_few (c ∷ older) p =
    let h = no_longer (unode (c ∷ older) p) (file_unodes older p) (length older) (file_unodes_few older p) (is_some (set_at c.changeset p)) (is_some (tree_on older p)) in
    omega arith
