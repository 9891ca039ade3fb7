-- The trees and the nodes of a history's changesets, where these keep their rules.
use Rattle.std.proofs.Common.{◌≡◌, suc, ◌^◌, ◌<◌, arith, Bool, true, false, cond, ◌||◌, List, [], ◌∷◌, length, reverse, refl, sym, ap, ◌∙◌}
use Rattle.std.specs.Prelude.{Option, Some, None, bytes_eq, ◌==◌}
use mathlib.Core.Bool.{true≢false}
use mathlib.Core.List.{reverse-cons}
use Rattle.std.specs.List.{AllByRecursion}
use Rattle.std.specs.Option.{option_map_or}
use Rattle.std.proofs.lemmas.Bool.{ne_eqb}
use Rattle.std.proofs.lemmas.List.Folds.{list_any-append}
use Rattle.byte_fields.specs.Bytes.{Id, is_bytes}
use Rattle.changeset_model.specs.Path.{Path, is_path}
use Rattle.changeset_model.specs.Changeset.{File, Changeset, is_changeset}
use Rattle.history_model.specs.History.{Entry, Known, known, is_known}
use Rattle.history_model.specs.Chain.{first_parent, line_among, line, chain, changesets}
use Rattle.history_model.specs.Tree.{tree, files, is_dir}
use Rattle.history_model.specs.Journal.{size}
use Rattle.manifest_model.specs.Fsnode.{fsnode, is_fsnode}
use Rattle.manifest_model.specs.Unode.{unode, is_unode}
use Rattle.manifest_laws.specs.Changes.{AreClear, tree_at, files_in}
use Rattle.manifest_laws.specs.Bounds.{changesets_of, ChangesetsKeepRules, chain_files}
use Rattle.manifest_laws.specs.Rules.{AreFiles}
use Rattle.manifest_laws.proofs.Flat.{file_under, no_file_above}
use Rattle.manifest_laws.proofs.Rules.{fsnode_kept, directory_kept, file_kept}
use Rattle.manifest_laws.proofs.Bounds.{FileRules, rules_tree, chain_right, line_ids, line_clear, chain_clear, files_counted}
use Rattle.byte_fields.proofs.Booleans.{or_turned as or_comm}

-- ---- no directory is a file

none_by : (d : Path) (o : Option File) → ((f : File) → o ≡ Some f → ⊥) → o ≡ None
none_by d None h = refl
none_by d (Some f) h = absurd (h f refl)

root_by : (d : Path) (f : File) → (length d == 0) ≡ true → FileRules d f → ⊥
root_by d f h good = by d h good.path
  where
    by : (d : Path) → (length d == 0) ≡ true → is_path d ≡ true → ⊥
    by [] h g = true≢false (sym g)
    by (e ∷ d) h g = true≢false (sym h ∙ ne_eqb (length (e ∷ d)) 0 (λ k. absurd (omega (arith, k))))

pub no_file_at : (cs : List Changeset) → AllByRecursion (λ c. is_changeset c ≡ true) cs → AreClear cs → (d : Path) → is_dir (files cs) d ≡ true → tree cs d ≡ None
no_file_at cs right clear d dir = by (length d == 0) refl
  where
    by : (b : Bool) → (length d == 0) ≡ b → tree cs d ≡ None
    by true e = none_by d (tree cs d) (λ f h. root_by d f e (rules_tree cs right d f h))
    by false e = let found = file_under cs d e dir in no_file_above cs clear d found.0 found.1 found.2 found.3

-- ---- of a history

pub fsnodes_kept : (h : List Entry) (x : Id) (d : Path) → ChangesetsKeepRules h → size h < 2 ^ 36 → is_fsnode (fsnode (chain_files h x) d) ≡ true
fsnodes_kept h x d all small = fsnode_kept (chain_files h x) d (files_counted h x all small)

-- a known changeset has a line
begun_by : (k : Known) (older : List Known) (x : Id) → (is_known older x ≡ true → line_among older x ≡ [] → ⊥) → (b : Bool) → bytes_eq k.id x ≡ b → (b || is_known older x) ≡ true → cond b (k ∷ option_map_or (line_among older) (first_parent k.changeset) []) (line_among older x) ≡ [] → ⊥
begun_by k older x ih true e h g = absurd (let none : suc (length (option_map_or (line_among older) (first_parent k.changeset) [])) ≡ 0 = ap length g in omega (arith, none))
begun_by k older x ih false e h g = ih h g

begun : (ks : List Known) (x : Id) → is_known ks x ≡ true → line_among ks x ≡ [] → ⊥
begun [] x h g = true≢false (sym h)
begun (k ∷ older) x h g = begun_by k older x (begun older x) (bytes_eq k.id x) refl h g

known_back : (ks : List Known) (x : Id) → is_known (reverse ks) x ≡ is_known ks x
known_back [] x = refl
known_back (k ∷ ks) x =
    ap (λ ks. is_known ks x) (reverse-cons k ks)
    ∙ list_any-append (λ (k : Known). bytes_eq k.id x) (reverse ks) (k ∷ [])
    ∙ or_comm (is_known (reverse ks) x) (bytes_eq k.id x)
    ∙ ap (λ b. bytes_eq k.id x || b) (known_back ks x)

directory_by : (ks : List Known) (d : Path) → (ks ≡ [] → ⊥) → AreClear (changesets ks) → AllByRecursion (λ k. is_bytes 32 k.id ≡ true) ks → AreFiles (files_in ks) → is_dir (files_in ks) d ≡ true → tree_at ks d ≡ None → is_unode (unode ks d) ≡ true
directory_by [] d some clear ids are dir none = absurd (some refl)
directory_by (c ∷ older) d some clear ids are dir none = directory_kept c older d clear ids are dir none

pub directories_kept : (h : List Entry) (x : Id) (d : Path) → ChangesetsKeepRules h → AreClear (changesets_of h) → size h < 2 ^ 36 → is_known (known h) x ≡ true → is_dir (chain_files h x) d ≡ true → is_unode (unode (line (known h) x) d) ≡ true
directories_kept h x d all clear small there dir =
    directory_by (line (known h) x) d (begun (reverse (known h)) x (known_back (known h) x ∙ there)) (line_clear h x clear) (line_ids h x) (files_counted h x all small) dir
    (no_file_at (changesets (chain (known h) x)) (chain_right h x all) (chain_clear h x clear) d dir)

pub files_kept : (h : List Entry) (x : Id) (p : Path) (f : File) → ChangesetsKeepRules h → tree (changesets (chain (known h) x)) p ≡ Some f → is_unode (unode (line (known h) x) p) ≡ true
files_kept h x p f all at = file_kept (line (known h) x) p f (line_ids h x) (rules_tree (changesets (chain (known h) x)) (chain_right h x all) p f at).with_id at
