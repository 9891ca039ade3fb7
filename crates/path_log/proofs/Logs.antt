-- The log of a path goes from link to link.
use Rattle.std.proofs.Common.{◌≡◌, Bool, true, false, cond, not, ◌||◌, ◌&&◌, List, [], ◌∷◌, reverse, refl, sym, ap, ◌∙◌}
use Rattle.std.specs.Prelude.{Option, Some, None, IsTrue, is_some, is_none, option_map, ◌==◌, bytes_eq}
use mathlib.Core.Bool.{true≢false}
use Rattle.std.specs.List.{list_any}
use Rattle.std.specs.Option.{option_and_then, option_eq, option_or}
use Rattle.std.specs.Ordering.{eq_by_cmp}
use Rattle.std.specs.FinMap.{find as find_key}
use Rattle.std.specs.Cmp.{nat_eq_equiv}
use Rattle.std.specs.Cmp.Lexicographic.{lists_equiv}
use Rattle.std.proofs.lemmas.Bool.{and_from}
use Rattle.changeset_model.specs.Path.{Path, is_prefix, path_cmp}
use Rattle.changeset_model.specs.Changeset.{Changeset, Delete, File, FileChange, Set, change_at, file_of, kind_byte, set_at}
use Rattle.history_model.specs.History.{Known}
use Rattle.history_model.specs.Past.{At, Begin, Past, past_on}
use Rattle.history_model.specs.Tree.{decides, decides_at, tree_of}
use Rattle.history_model.specs.Merge.{file_eq}
use Rattle.history_model.proofs.Landings.{or_left, or_true, prefix_self}
use Rattle.history_model.proofs.Pasts.{tree_of-past_on}
use Rattle.manifest_model.specs.Unode.{linknode_of, unode}
use Rattle.manifest_model.specs.Deleted.{deleted_at, is_logged, last_deletion, path_log}
use Rattle.manifest_model.proofs.Derivations.{tied_same}
use Rattle.manifest_model.proofs.Links.{link_is_setter, none_some, setter, tree_on, tree_on-cons, was_there}
use Rattle.history_model.specs.Chain.{changesets}
use Rattle.path_log.specs.Pasts.{id_in, last_past, log_from}

-- ---- what is set is there

self_decides : (c : FileChange) (p : Path) → decides_at c p p ≡ true
self_decides (Set f copied) p = or_left (is_prefix p p) (is_prefix p p) (prefix_self p)
self_decides Delete p = (lists_equiv (lists_equiv nat_eq_equiv)).refl p

found_decides : (es : List (Path × FileChange)) (p : Path) → is_some (find_key path_cmp p es) ≡ true → list_any (λ e. decides_at e.1 e.0 p) es ≡ true
found_decides [] p h = absurd (true≢false (sym h))
found_decides (e ∷ es) p h = by (found_decides es p) (eq_by_cmp path_cmp p e.0) refl h
  where
    by : (is_some (find_key path_cmp p es) ≡ true → list_any (λ e. decides_at e.1 e.0 p) es ≡ true) → (b : Bool) → eq_by_cmp path_cmp p e.0 ≡ b → is_some (cond b (Some e.1) (find_key path_cmp p es)) ≡ true → (decides_at e.1 e.0 p || list_any (λ e. decides_at e.1 e.0 p) es) ≡ true
    by later true t found = or_left (decides_at e.1 e.0 p) (list_any (λ e. decides_at e.1 e.0 p) es) (ap (λ q. decides_at e.1 q p) (sym (tied_same p e.0 t)) ∙ self_decides e.1 p)
    by later false t found = or_true (decides_at e.1 e.0 p) (list_any (λ e. decides_at e.1 e.0 p) es) (later found)

set_some : (o : Option FileChange) (f : File) → option_and_then file_of o ≡ Some f → is_some o ≡ true
set_some None f h = absurd (none_some f h)
set_some (Some c) f h = refl

set_decides : (c : Changeset) (p : Path) (f : File) → set_at c p ≡ Some f → decides c p ≡ true
set_decides c p f h = found_decides c.changes p (set_some (change_at c p) f h)

set_is_there : (c : Known) (first second : Past) (p : Path) (f : File) → set_at c.changeset p ≡ Some f → tree_of (At c first second) p ≡ Some f
set_is_there c first second p f h =
    ap (λ b. cond b (set_at c.changeset p) (option_or (tree_of first p) (tree_of second p))) (set_decides c.changeset p f h) ∙ h

-- ---- which changesets are logged

abbrev logs_by : Option File → Option File → Option File → Bool
logs_by set here before = is_some set || not (option_eq file_eq here before)

-- where the file is gone, that which had it at its first parent
gone_logs : (c : Known) (first second : Past) (p : Path) → tree_of (At c first second) p ≡ None → is_logged (At c first second) p ≡ is_some (tree_of first p)
gone_logs c first second p gone = ap (λ here. logs_by (set_at c.changeset p) here (tree_of first p)) gone ∙ by (set_at c.changeset p) refl (tree_of first p)
  where
    by : (set : Option File) → set_at c.changeset p ≡ set → (before : Option File) → logs_by set None before ≡ is_some before
    by (Some f) e before = absurd (none_some f (sym gone ∙ set_is_there c first second p f e))
    by None e None = refl
    by None e (Some g) = refl

-- what isn't logged had the file at its first parent
was_before : (c : Known) (first second : Past) (p : Path) (f : File) → tree_of (At c first second) p ≡ Some f → is_logged (At c first second) p ≡ false → (g : File) × (tree_of first p ≡ Some g)
was_before c first second p f there quiet = by (tree_of first p) (sym (ap (λ here. logs_by (set_at c.changeset p) here (tree_of first p)) there) ∙ quiet)
  where
    by : (before : Option File) → logs_by (set_at c.changeset p) (Some f) before ≡ false → (g : File) × (before ≡ Some g)
    by None e = absurd (true≢false (sym (or_true (is_some (set_at c.changeset p)) true refl) ∙ e))
    by (Some g) e = (g, refl)

-- ---- the log

pub log_is_from_last : (past : Past) (p : Path) → path_log past p ≡ log_from (last_past past p) p
log_is_from_last Begin p = refl
log_is_from_last (At c first second) p = by (log_is_from_last first p) (is_logged (At c first second) p)
  where
    by : path_log first p ≡ log_from (last_past first p) p → (b : Bool) → cond b (c.id ∷ path_log first p) (path_log first p) ≡ log_from (cond b (At c first second) (last_past first p)) p
    by older true = refl
    by older false = older

pub file_has_last : (past : Past) (p : Path) (f : File) → tree_of past p ≡ Some f → IsTrue (is_some (id_in (last_past past p)))
file_has_last Begin p f there = absurd (none_some f there)
file_has_last (At c first second) p f there = by (file_has_last first p) (is_logged (At c first second) p) refl
  where
    by : ((g : File) → tree_of first p ≡ Some g → is_some (id_in (last_past first p)) ≡ true) → (b : Bool) → is_logged (At c first second) p ≡ b → is_some (id_in (cond b (At c first second) (last_past first p))) ≡ true
    by older true e = refl
    by older false e = let g = was_before c first second p f there e in older g.0 g.1

deletion_is_last : (past : Past) (p : Path) → tree_of past p ≡ None → last_deletion past p ≡ id_in (last_past past p)
deletion_is_last Begin p gone = refl
deletion_is_last (At c first second) p gone =
    ap (λ here. cond (is_some (tree_of first p) && is_none here) (Some c.id) (last_deletion first p)) gone
    ∙ by (deletion_is_last first p) (tree_of first p) refl
    ∙ ap (λ b. id_in (cond b (At c first second) (last_past first p))) (sym (gone_logs c first second p gone))
  where
    by : (tree_of first p ≡ None → last_deletion first p ≡ id_in (last_past first p)) → (before : Option File) → tree_of first p ≡ before → cond (is_some before && true) (Some c.id) (last_deletion first p) ≡ id_in (cond (is_some before) (At c first second) (last_past first p))
    by older None e = older e
    by older (Some g) e = refl

pub deleted_is_last : (past : Past) (p : Path) → tree_of past p ≡ None → deleted_at past p ≡ id_in (last_past past p)
deleted_is_last past p gone = ap (λ here. cond (is_some here) None (last_deletion past p)) gone ∙ deletion_is_last past p gone

no_log : (past : Past) (p : Path) → id_in past ≡ None → log_from past p ≡ []
no_log Begin p e = refl
no_log (At c first second) p e = absurd cc

pub nothing_logged : (past : Past) (p : Path) → tree_of past p ≡ None → deleted_at past p ≡ None → path_log past p ≡ []
nothing_logged past p gone never = log_is_from_last past p ∙ no_log (last_past past p) p (sym (deleted_is_last past p gone) ∙ never)

-- ---- without merges

same_file : (f : File) → file_eq f f ≡ true
same_file f =
    and_from (bytes_eq f.content f.content && (kind_byte f.kind == kind_byte f.kind)) (f.size == f.size)
    (and_from (bytes_eq f.content f.content) (kind_byte f.kind == kind_byte f.kind) ((lists_equiv nat_eq_equiv).refl f.content) (nat_eq_equiv.refl (kind_byte f.kind)))
    (nat_eq_equiv.refl f.size)

last_is_setter : (ks : List Known) (p : Path) (f : File) → tree_on ks p ≡ Some f → id_in (last_past (past_on ks) p) ≡ option_map (λ k. k.id) (setter ks p)
last_is_setter [] p f there = absurd (none_some f there)
last_is_setter (c ∷ older) p f there = by (last_is_setter older p f) (set_at c.changeset p) refl
  where
    before : set_at c.changeset p ≡ None → tree_on older p ≡ Some f
    before e = was_there (changesets (reverse older)) c.changeset p f e (sym (tree_on-cons c older p) ∙ there)

    logged_as : (set : Option File) → set_at c.changeset p ≡ set → is_logged (past_on (c ∷ older)) p ≡ is_some set
    logged_as (Some g) e = ap (λ set. logs_by set (tree_of (past_on (c ∷ older)) p) (tree_of (past_on older) p)) e
    logged_as None e = (λ i. logs_by (e i) ((tree_of-past_on (c ∷ older) p ∙ there) i) ((tree_of-past_on older p ∙ before e) i)) ∙ ap not (same_file f)

    by : (tree_on older p ≡ Some f → id_in (last_past (past_on older) p) ≡ option_map (λ k. k.id) (setter older p)) → (set : Option File) → set_at c.changeset p ≡ set → id_in (last_past (past_on (c ∷ older)) p) ≡ option_map (λ k. k.id) (setter (c ∷ older) p)
    by later (Some g) e =
        ap (λ b. id_in (cond b (past_on (c ∷ older)) (last_past (past_on older) p))) (logged_as (Some g) e)
        ∙ ap (λ set. option_map (λ (k : Known). k.id) (cond (is_some set) (Some c) (setter older p))) (sym e)
    by later None e =
        ap (λ b. id_in (cond b (past_on (c ∷ older)) (last_past (past_on older) p))) (logged_as None e)
        ∙ later (before e)
        ∙ ap (λ set. option_map (λ (k : Known). k.id) (cond (is_some set) (Some c) (setter older p))) (sym e)

pub last_is_linknode : (ks : List Known) (p : Path) (f : File) → tree_on ks p ≡ Some f → id_in (last_past (past_on ks) p) ≡ Some (linknode_of (unode ks p))
last_is_linknode ks p f there = last_is_setter ks p f there ∙ link_is_setter ks p f there
