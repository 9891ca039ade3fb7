-- A plan that is made again, once the bookmark may have another head.
--     WasPlan h plan      it was a plan at a history with which h begins
--     since ks old new      the changesets that follow one in the chain of another
--     GoesOn ks plan new      the planned head is in the new head's chain, and the draft's chain parts from both at one changeset
--     IsPlannedHead ks plan f n      n is the number of the planned head, from which the head of the fork f goes on
use Rattle.std.specs.Prelude.{◌≡◌, ◌++◌, ℕ, true, List, bytes_eq, Some, option_map}
use Rattle.std.specs.List.{after_first}
use mathlib.Core.List.{IsPrefix}
use Rattle.byte_fields.specs.Bytes.{Id}
use Rattle.changeset_model.specs.Changeset.{Changeset}
use Rattle.history_model.specs.History.{Entry, Known, is_known}
use Rattle.history_model.specs.Chain.{chain, changesets}
use Rattle.history_model.specs.Pushrebase.{fork}
use Rattle.changeset_store.specs.Store.{known_at}
use Rattle.changeset_store.specs.Fork.{IsAncestor, fork_between, following_at}
use Rattle.changeset_store.specs.declared.fork.Fork as store
use Rattle.repo_machine.specs.Plans.{PlannedLanding, IsPlan}

pub record WasPlan (h : List Entry) (plan : PlannedLanding) : Type 0 where
  pub then : List Entry
  pub begins : IsPrefix then h
  pub planned : IsPlan then plan.caller plan.name plan.draft plan

abbrev pub since : List Known → Id → Id → List Changeset
since ks old new = changesets (after_first (λ k. bytes_eq k.id old) (chain ks new))

pub record GoesOn (ks : List Known) (plan : PlannedLanding) (new : Id) : Type 0 where
  pub in_chain : is_known (chain ks new) plan.old ≡ true
  pub one_root : option_map (λ f. f.root) (fork ks new plan.draft) ≡ option_map (λ f. f.root) (fork ks plan.old plan.draft)

pub record IsPlannedHead (ks : List Known) (plan : PlannedLanding) (f : store.Fork) (n : ℕ) : Type 0 where
  pub ancestor : IsAncestor ks n f.head
  pub old_is : (known_at ks n).id ≡ plan.old
  pub forked : fork ks plan.old plan.draft ≡ Some (record { root = known_at ks f.root; stack = (fork_between ks f).stack; range = following_at ks f.root n })
  pub goes_on : (fork_between ks f).range ≡ following_at ks f.root n ++ following_at ks n f.head
