-- What a crash may leave of a repository's file is what a crash of the core leaves, and begins with what is sealed.
use Rattle.std.proofs.Common.{◌≡◌, ℕ, ◌≤◌, Bool, true, false, List, ◌++◌, map, length, take, drop, refl, sym, ap, subst, ◌∙◌, arith}
use Rattle.std.specs.Prelude.{if◌then◌else◌, IsTrue, Option, None, Some, option_map}
use mathlib.Core.List.{IsPrefix}
use mathlib.Core.Logic.{inl, inr}
use Rattle.std.proofs.lemmas.List.{map-append, take-take, take-append-drop, take-append-le}
use Rattle.disk_model.specs.Images.{IsImage}
use Rattle.disk_model.specs.Meaning.{Meaning}
use Rattle.history_model.specs.History.{Entry, bodies, unnumbered}
use Rattle.history_model.specs.Journal.{Header, Stands}
use Rattle.reply_model.proofs.Histories.{bodies-append}
use Rattle.core_model.specs.Core.{State, group_end as core_end, may_be_kept, reopened}
use Rattle.landing_core.specs.Steps.{Shows}
use Rattle.bookmark_lock.specs.Opening.{Opening}
use Rattle.repo_state.specs.Cores.{CrashLeaves, CrashesOf, ShowsLeft}
use Rattle.repo_state.specs.Images.{sealed_part}
use Rattle.repo_state.specs.Groups.{group_end}
use Rattle.repo_state.specs.State.{IsSound, LeavesAfter}
use Rattle.repo_state.specs.declared.left.Left.{Left}
use Rattle.repo_state.proofs.LeftGates.{end_by, kept_by}

-- ---- a crash of the core

-- nothing of what waits
alone_left : (header : Header) (h : List Entry) (n : ℕ) (s : State) (image : List ℕ) → s.history ≡ h → s.sealed ≡ n → Stands header image (sealed_part n h) → CrashLeaves header s image
alone_left header h n s image same sealed stands = record {
  kept = false;
  after = reopened s s.sealed;
  crashes = refl;
  stands = subst (Stands header image) (λ i. sealed_part (sym sealed i) (sym same i)) stands;
}

-- or the whole group, where the gate may stand open
group_left : (header : Header) (h : List Entry) (upto : ℕ) (s : State) (image : List ℕ) → s.history ≡ h → may_be_kept s.sealing ≡ true → core_end s ≡ upto → Stands header image (sealed_part upto h) → CrashLeaves header s image
group_left header h upto s image same gate ends stands = record {
  kept = true;
  after = reopened s (core_end s);
  crashes = ap (λ (b : Bool). option_map (reopened s) (if b then Some (core_end s) else None)) gate;
  stands = subst (Stands header image) (λ i. sealed_part (sym ends i) (sym same i)) stands;
}

pub crashes_of : (header : Header) (h : List Entry) (n : ℕ) (pending : List ℕ) (left : Option Left) (m : Meaning) (s : State) → LeavesAfter header h n pending left m → IsTrue m.honest → Shows h n s → ShowsLeft left s → CrashesOf header m s
crashes_of header h n pending left m s leaves honest shows gate image is =
    elim (leaves.now honest image is) as (λ _. CrashLeaves header s image) [
      | inl stands ↦ alone_left header h n s image shows.history_is shows.sealed_is stands
      | inr whole ↦ group_left header h (group_end n left) s image shows.history_is (kept_by s left gate whole.0) (end_by s n left shows.sealed_is gate) whole.1
    ]

-- ---- what is sealed

part_begins : (h later : List Entry) (n more : ℕ) → n ≤ length (bodies h) → IsPrefix h later → n ≤ more → IsPrefix (sealed_part n h) (sealed_part more later)
part_begins h later n more most prefix le =
    let all = take more (bodies later) in
    let whole : bodies later ≡ bodies h ++ bodies prefix.0 = ap (λ g. bodies g) (sym prefix.1) ∙ bodies-append h prefix.0 in
    let front : take n (bodies h) ≡ take n all =
    sym (take-append-le n (bodies h) (bodies prefix.0) most) ∙ ap (take n) (sym whole) ∙ sym (take-take n more (bodies later) le) in (
      map unnumbered (drop n all),
      sym (map-append unnumbered (take n (bodies h)) (drop n all)) ∙ ap (map unnumbered) (ap (λ bs. bs ++ drop n all) front ∙ take-append-drop n all),
    )

pub sealed_outlasts : (opening : Opening) (h later : List Entry) (n more reach : ℕ) (m : Meaning) (image : List ℕ) → n ≤ length (bodies h) → IsPrefix h later → n ≤ more → IsSound opening later more reach m → IsTrue m.honest → IsImage m.state image
    → (g : List Entry) × Stands opening.header image g × IsPrefix (sealed_part n h) g
sealed_outlasts opening h later n more reach m image most prefix le sound honest is =
    let further = sound.reaches in
    elim ((sound.leaves honest).now image is) as (λ _. (g : List Entry) × Stands opening.header image g × IsPrefix (sealed_part n h) g) [
      | inl stands ↦ (sealed_part more later, stands, part_begins h later n more most prefix le)
      | inr stands ↦ (sealed_part reach later, stands, part_begins h later n reach most prefix (omega arith))
    ]
