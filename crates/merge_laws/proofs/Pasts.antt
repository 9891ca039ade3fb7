-- Which pasts have their merges resolved, and different nodes apart.
use Rattle.std.proofs.Common.{◌≡◌, Bool, true, false, cond, not, List, [], ◌∷◌, ◌++◌, map, refl, sym, ap, subst, ◌∙◌}
use Rattle.std.specs.Prelude.{None, filter}
use mathlib.Core.Bool.{true≢false}
use Rattle.std.specs.List.{AllByRecursion}
use Rattle.byte_fields.specs.Bytes.{Id}
use Rattle.byte_fields.proofs.Booleans.{and_false}
use Rattle.changeset_model.specs.Path.{Path, rising}
use Rattle.changeset_model.specs.Changeset.{File, Changeset, is_changeset, self_conflict}
use Rattle.history_model.specs.History.{Entry, Known, known}
use Rattle.history_model.specs.Chain.{changesets, line}
use Rattle.history_model.specs.Merge.{is_unresolved, least_of, unresolved}
use Rattle.history_model.specs.Past.{Past, Begin, At, HaveOneParent, past, past_on}
use Rattle.history_model.specs.Tree.{decides, files_in, files_of}
use Rattle.history_model.proofs.Pasts.{past_is_its_line}
use Rattle.manifest_laws.specs.Bounds.{ChangesetsKeepRules, changesets_of}
use Rattle.manifest_laws.specs.Changes.{AreClear}
use Rattle.manifest_laws.specs.Summaries.{IsFlat}
use Rattle.manifest_laws.proofs.PastBounds.{AllOf, past_all}
use Rattle.merge_laws.specs.Resolved.{AreAllApart, AreMergesResolved, AreResolved}
use Rattle.merge_laws.proofs.Trees.{Files, flat}

-- ---- of a history

resolved_by : (q : Past) → AllOf (λ k. is_changeset k.changeset ≡ true) q → AllOf (λ k. self_conflict k.changeset ≡ None) q → AreMergesResolved q → AreResolved q
resolved_by Begin rules clear resolved = tt
resolved_by (At c first second) rules clear resolved = (
  record { rules = rules.0; clear = clear.0; resolved = resolved.0 },
  resolved_by first rules.1 clear.1 resolved.1,
  resolved_by second rules.2 clear.2 resolved.2,
)

pub known_resolved : (h : List Entry) (x : Id) → ChangesetsKeepRules h → AreClear (changesets_of h) → AreMergesResolved (past (known h) x) → AreResolved (past (known h) x)
known_resolved h x rules clear resolved = resolved_by (past (known h) x) (past_all (λ c. is_changeset c ≡ true) h x rules) (past_all (λ c. self_conflict c ≡ None) h x clear) resolved

pub known_flat : (h : List Entry) (x : Id) → ChangesetsKeepRules h → AreClear (changesets_of h) → AreMergesResolved (past (known h) x) → IsFlat (files_of (known h) x)
known_flat h x rules clear resolved = flat (past (known h) x) (known_resolved h x rules clear resolved)

-- ---- on a line

none_pass : {X : Type 0} (pass : X → Bool) (xs : List X) → ((x : X) → pass x ≡ false) → filter pass xs ≡ []
none_pass pass [] h = refl
none_pass pass (x ∷ xs) h = ap (λ b. cond b (x ∷ filter pass xs) (filter pass xs)) (h x) ∙ none_pass pass xs h

one_side : (c : Changeset) (fs : Files) → unresolved c fs [] ≡ None
one_side c fs = ap (λ (es : Files). least_of (rising (map (λ (e : Path × File). e.0) (es ++ [])))) (none_pass (is_unresolved c []) fs (λ e. and_false (not (decides c e.0))))

pub line_resolved : (ks : List Known) → AreMergesResolved (past_on ks)
line_resolved [] = tt
line_resolved (k ∷ older) = (one_side k.changeset (files_in (past_on older)), line_resolved older, tt)

pub line_apart : (ks : List Known) → AreAllApart (past_on ks)
line_apart [] = tt
line_apart (k ∷ older) = (
  record { fsnodes = λ d h none e. absurd (true≢false (sym none)); unodes = λ d h none e. absurd (true≢false (sym none)) },
  line_apart older,
  tt,
)

pub rules_on_a_line : (ks : List Known) → AllByRecursion (λ c. is_changeset c ≡ true) (changesets ks) → AreClear (changesets ks) → AreResolved (past_on ks)
rules_on_a_line [] rules clear = tt
rules_on_a_line (k ∷ older) rules clear = (record { rules = rules.0; clear = clear.0; resolved = one_side k.changeset (files_in (past_on older)) }, rules_on_a_line older rules.1 clear.1, tt)

pub lines_resolved : (ks : List Known) (x : Id) → HaveOneParent ks → AreMergesResolved (past ks x)
lines_resolved ks x one = subst AreMergesResolved (sym (past_is_its_line ks x one)) (line_resolved (line ks x))

pub lines_apart : (ks : List Known) (x : Id) → HaveOneParent ks → AreAllApart (past ks x)
lines_apart ks x one = subst AreAllApart (sym (past_is_its_line ks x one)) (line_apart (line ks x))
