-- Jobs of histories without merges.
use Rattle.std.proofs.Common.{◌≡◌, ◌⊎◌, inl, inr, ℕ, arith, true, false, cond, ◌||◌, List, [], ◌∷◌, refl, sym, ap, subst, ◌∙◌}
use Rattle.std.specs.Prelude.{Contains, Option, Some, None}
use mathlib.Core.Bool.{true≢false}
use Rattle.std.specs.List.{AllByRecursion}
use Rattle.byte_fields.proofs.Booleans.{and_false, or_false}
use Rattle.changeset_model.specs.Path.{Path}
use Rattle.history_model.specs.History.{Known}
use Rattle.history_model.specs.Past.{Past, Begin, past_on}
use Rattle.history_model.specs.Tree.{is_dir}
use Rattle.history_model.proofs.Pasts.{files_in-past_on}
use Rattle.manifest_model.specs.Fsnode.{fsnode, fsnode_id}
use Rattle.manifest_model.specs.Unode.{is_renewed, unode_id}
use Rattle.manifest_model.specs.Manifests.{nodes_in}
use Rattle.manifest_model.specs.Deleted.{deleted, deleted_id}
use Rattle.manifest_model.proofs.Merging.{manifests_in-past_on, unode_at-past_on}
use Rattle.manifest_laws.specs.Rules.{AreFiles}
use Rattle.merge_laws.specs.Joined.{dirs_differ}
use Rattle.merge_laws.specs.Resolved.{has_dir}
use Rattle.merge_laws.proofs.Pasts.{line_apart, rules_on_a_line}
use Rattle.derive_step.specs.declared.job.Job.{Job}
use Rattle.derive_step.specs.declared.job.Parent.{Parent}
use Rattle.derive_step.specs.declared.done.Done.{Done}
use Rattle.derive_step.specs.Views.{Before, are_apart, are_held_apart, first_of, nodes_before, roots_before, second_of}
use Rattle.derive_step.specs.Jobs.{IsDoneOf, IsJobOf, IsRight, all_nodes_on, nodes_on, roots_on}
use Rattle.derive_step.specs.Pasts.{IsDoneAt, IsJobAt, IsSound, all_nodes_of, is_touched, nodes_of, roots_of}

-- ---- by the definitions

roots_same : (ks : List Known) → roots_of (past_on ks) ≡ roots_on ks
roots_same [] = refl
roots_same (k ∷ ks) = λ i. Some (record {
  fsnode = fsnode_id (fsnode (files_in-past_on (k ∷ ks) i) []);
  unode = unode_id (unode_at-past_on (k ∷ ks) [] i);
  deleted = deleted_id (deleted (past_on (k ∷ ks)) []);
})

nodes_same : (ks : List Known) (d : Path) → nodes_of (past_on ks) d ≡ nodes_on ks d
nodes_same [] d = refl
nodes_same (k ∷ ks) d = λ i. cond (is_dir (files_in-past_on (k ∷ ks) i) d) (Some (record {
  fsnode = fsnode (files_in-past_on (k ∷ ks) i) d;
  unode = unode_at-past_on (k ∷ ks) d i;
  unode_id = unode_id (unode_at-past_on (k ∷ ks) d i);
})) None

all_same : (ks : List Known) → all_nodes_of (past_on ks) ≡ all_nodes_on ks
all_same [] = refl
all_same (k ∷ ks) = ap nodes_in (manifests_in-past_on k.id (k ∷ ks))

none_contained : (n : List ℕ) → Contains [] n → ⊥
none_contained n h = let less = h.1 in omega (arith, less)

-- ---- with one parent

pub none_differ : (past : Past) (d : Path) → dirs_differ past Begin d ≡ false
none_differ past d = and_false (has_dir past d)

one_touched : (c : Known) (past : Past) (d : Path) → is_touched c past Begin d ≡ true → is_renewed c.changeset d ≡ true
one_touched c past d h = sym (ap (λ b. is_renewed c.changeset d || b) (none_differ past d) ∙ or_false (is_renewed c.changeset d)) ∙ h

sound_on : (ks : List Known) → IsRight ks → IsSound (past_on ks)
sound_on ks right = record {
  resolved = rules_on_a_line ks right.rules right.clear;
  apart = line_apart ks;
  counted = subst AreFiles (sym (files_in-past_on ks)) right.counted;
}

alone_held : (first second : Option Parent) (d : Path) → second ≡ None → are_held_apart first second d ≡ false
alone_held first second d none = ap (λ p. are_held_apart first p d) none ∙ by (nodes_before first d)
  where
    by : (a : Option Before) → are_apart a None ≡ false
    by None = refl
    by (Some x) = refl

module _ (c : Known) (older : List Known) (job : Job) where
  pub job_at : IsJobOf c older job → IsJobAt c (past_on older) Begin job
  job_at of = record {
    sound = sound_on (c ∷ older) of.right;
    changeset = of.changeset;
    id = of.id;
    first_roots = of.roots ∙ sym (roots_same older);
    second_roots = ap roots_before of.alone;
    first_nodes = λ d h. of.nodes d (one_touched c (past_on older) d h) ∙ sym (nodes_same older d);
    second_nodes = λ d h. ap (λ p. nodes_before p d) of.alone;
    differ = λ d h. absurd (true≢false (sym h ∙ alone_held (first_of job.parents) (second_of job.parents) d of.alone));
    files = of.files;
    held = of.held;
  }

  pub done_on : (done : Done) → IsDoneAt c (past_on older) Begin job done → IsDoneOf c older job done
  done_on done of = record {
    number = of.number;
    first = of.first_roots ∙ roots_same older;
    second = of.second_roots;
    roots = of.roots ∙ roots_same (c ∷ older);
    right = subst (λ ns. AllByRecursion (Contains ns) done.nodes.items) (all_same (c ∷ older)) of.right;
    whole = λ n h. found n (of.whole n (subst (λ ns. Contains ns n) (sym (all_same (c ∷ older))) h));
    few = of.few refl;
  }
    where
      found : (n : List ℕ) → Contains done.nodes.items n ⊎ (Contains (all_nodes_of (past_on older)) n ⊎ Contains (all_nodes_of Begin) n) → Contains done.nodes.items n ⊎ Contains (all_nodes_on older) n
      found n (inl h) = inl h
      found n (inr (inl h)) = inr (subst (λ ns. Contains ns n) (all_same older) h)
      found n (inr (inr h)) = absurd (none_contained n h)
