-- The trees of a line.
use Rattle.std.proofs.Common.{◌≡◌, true, List, [], ◌∷◌, ◌++◌, reverse, sym, subst}
use Rattle.std.specs.Prelude.{None}
use Rattle.std.specs.List.{AllByRecursion}
use Rattle.changeset_model.specs.Path.{Path}
use Rattle.changeset_model.specs.Changeset.{Changeset, is_changeset}
use Rattle.history_model.specs.History.{Known}
use Rattle.history_model.specs.Chain.{changesets}
use Rattle.history_model.specs.Tree.{is_dir}
use Rattle.manifest_laws.specs.Changes.{tree_at, files_in}
use Rattle.manifest_laws.proofs.Legal.{no_file_at}
use Rattle.manifest_laws.proofs.Unodes.{chain_more, clear_chain}
use Rattle.derive_step.specs.Jobs.{IsRight}

rules_snoc : (cs : List Changeset) (c : Changeset) → AllByRecursion (λ c. is_changeset c ≡ true) cs → is_changeset c ≡ true → AllByRecursion (λ c. is_changeset c ≡ true) (cs ++ c ∷ [])
rules_snoc [] c h g = (g, tt)
rules_snoc (b ∷ cs) c h g = (h.0, rules_snoc cs c h.1 g)

rules_chain : (ks : List Known) → AllByRecursion (λ c. is_changeset c ≡ true) (changesets ks) → AllByRecursion (λ c. is_changeset c ≡ true) (changesets (reverse ks))
rules_chain [] h = tt
rules_chain (c ∷ older) h = subst (AllByRecursion (λ c. is_changeset c ≡ true)) (sym (chain_more c older)) (rules_snoc (changesets (reverse older)) c.changeset (rules_chain older h.1) h.0)

-- no directory is a file
pub alone : (c : Known) (older : List Known) → IsRight (c ∷ older) → (d : Path) → is_dir (files_in (c ∷ older)) d ≡ true → tree_at (c ∷ older) d ≡ None
alone c older right d dir = no_file_at (changesets (reverse (c ∷ older))) (rules_chain (c ∷ older) right.rules) (clear_chain (c ∷ older) right.clear) d dir
