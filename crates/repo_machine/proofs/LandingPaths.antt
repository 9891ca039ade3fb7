-- The paths of a stack, as the code reads them, against those of the changesets since.
use Rattle.std.proofs.Common.{◌≡◌, ◌<◌, List, length, refl, sym, ap, subst, ◌∙◌, arith}
use Rattle.std.specs.Prelude.{Option, Some, option_map, slice_index_or}
use Rattle.std.specs.Borrow.{Bor}
use Rattle.std.proofs.lemmas.List.{length-map}
use Rattle.changeset_model.specs.Path.{Path, rising}
use Rattle.changeset_model.specs.Changeset.{Changeset}
use Rattle.history_model.specs.Pushrebase.{clash}
use Rattle.reply_model.specs.Reply as reply
use Rattle.path_conflict.specs.Places.{paths_of}
use Rattle.path_conflict.specs.Best.{IsBest, pair_of}
use Rattle.path_conflict.specs.declared.lesser.Met.{Met}
use Rattle.repo_calls.specs.declared.refusal.Refusal.TheVariants as refusals
use Rattle.repo_calls.specs.Refusing.{IsRefusal}
use Rattle.repo_machine.specs.Clashes.{edited_paths, apart_checked}
use Rattle.repo_machine.proofs.LandingSteps.{refused_some}
use Rattle.path_conflict.proofs.Kept.{path_at as at_place}

pub is_within : (outer : List (Bor Path)) (seen : List Path) (m : Met) → IsBest (paths_of outer) seen (Some m) → m.place < length outer
is_within outer seen m best = let inside = best.0 in omega (arith, length-map outer (λ (p : Bor Path). p.now))

-- the least clash with the paths that are left of the list is that of the list
module _ (paths : List Path) (outer : List (Bor Path)) (cs : List Changeset) (same : (met : Option Met) → IsBest (paths_of outer) (edited_paths cs) met → clash paths (rising (edited_paths cs)) ≡ option_map (pair_of (paths_of outer)) met) where
  pub clashing_paths : (slice : List (Bor Path)) → slice ≡ outer → (met : Option Met) → IsBest (paths_of slice) (edited_paths cs) met → (m : Met) → met ≡ Some m → (o : Bor Path) → o ≡ slice_index_or outer m.place o → (p q : Path) → p ≡ o.now → q ≡ m.path.now → IsRefusal (apart_checked paths cs) (refusals.Clash p q)
  clashing_paths slice is met of_slice m some o o_is p q p_is q_is =
      let best : IsBest (paths_of outer) (edited_paths cs) met = subst (λ ps. IsBest (paths_of ps) (edited_paths cs) met) is of_slice in
      let found : IsBest (paths_of outer) (edited_paths cs) (Some m) = subst (λ met. IsBest (paths_of outer) (edited_paths cs) met) some best in
      let place = at_place outer m.place o (is_within outer (edited_paths cs) m found) o_is in
      refused_some (clash paths (rising (edited_paths cs))) (λ pair. reply.Clash pair.0 pair.1) (p, q) (refusals.Clash p q)
      (same met best ∙ ap (option_map (pair_of (paths_of outer))) some ∙ (λ i. Some ((place ∙ sym p_is) i, sym q_is i))) refl
