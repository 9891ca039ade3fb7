-- A plan that is made again.
use Rattle.std.proofs.Common.{◌≡◌, ℕ, Bool, true, false, List, ◌++◌, map, ◌⊎◌, refl, sym, ap, subst, ◌∙◌, ⊎_elim}
use Rattle.std.specs.List.{after_first}
use Rattle.std.specs.Prelude.{Option, None, Some, Contains, find, option_map, bytes_eq}
use Rattle.std.specs.Option.{option_or}
use Rattle.std.proofs.lemmas.List.Folds.{find-append}
use mathlib.Core.List.{IsPrefix}
use Rattle.std.proofs.lemmas.List.Elements.{Contains-append_right, Contains-append_cases}
use Rattle.std.proofs.lemmas.Grind.{flat_map-append}
use Rattle.byte_fields.specs.Bytes.{Id}
use Rattle.changeset_model.specs.Path.{Path, comparable, rising, IsRising}
use Rattle.changeset_model.specs.Changeset.{Changeset, id_of, touched_paths}
use Rattle.changeset_model.proofs.Rising.{touched_paths_rise, Contains-rising, IsRising-rising}
use Rattle.changeset_store.specs.declared.fork.Fork as store
use Rattle.changeset_store.specs.Store.{number_in, known_at}
use Rattle.changeset_store.specs.Fork.{IsAncestor, IsFork, chain_at, fork_between, following_at}
use Rattle.history_model.specs.History.{Entry, Known, known, is_known}
use Rattle.history_model.specs.Chain.{chain, changesets}
use Rattle.history_model.specs.Pushrebase.{Fork, fork, fork_at, clash, IsLeastClash}
use Rattle.history_model.proofs.Clashes.{clash_is_least, no_clash}
use Rattle.path_conflict.proofs.Kept.{only_clash}
use Rattle.reply_model.specs.Reply as reply
use Rattle.reply_model.specs.Reply.{◌>>=◌, refuse_some, is_merge}
use Rattle.reply_model.proofs.Lines.{known_grows}
use Rattle.repo_machine.specs.Landings.{merges_checked, paths_checked}
use Rattle.repo_machine.specs.Clashes.{edited_paths, apart_checked}
use Rattle.repo_machine.specs.Plans.{PlannedLanding, IsPlan}
use Rattle.repo_machine.specs.Again.{WasPlan, since, GoesOn, IsPlannedHead}
use Rattle.repo_machine.proofs.Planning.{fork_grows, prefix_on}
use Rattle.history_model.proofs.Clashes.{not_both}

-- ---- the planned head

module _ (ks : List Known) (plan : PlannedLanding) (f : store.Fork) (of_draft : (known_at ks f.draft).id ≡ plan.draft) (forks : fork ks (known_at ks f.head).id plan.draft ≡ Some (fork_between ks f)) where
  -- the draft parted from the planned head nowhere
  pub without_root : (found : Option store.Fork) → option_map (fork_between ks) found ≡ fork ks plan.old plan.draft → found ≡ None → GoesOn ks plan (known_at ks f.head).id → ⊥
  without_root found is none on =
      let same : option_map (λ (f : Fork). f.root) (Some (fork_between ks f)) ≡ None =
      ap (option_map (λ (f : Fork). f.root)) (sym forks) ∙ on.one_root ∙ ap (option_map (λ (f : Fork). f.root)) (sym is ∙ ap (option_map (fork_between ks)) none) in
      absurd cc

  module _ (p : store.Fork) (is : Some (fork_between ks p) ≡ fork ks plan.old plan.draft) where
    -- it parted elsewhere
    pub other_root : number_in ks (known_at ks p.root).id ≡ Some p.root → (number_in ks (known_at ks f.root).id ≡ Some f.root) → (p.root ≡ f.root → ⊥) → GoesOn ks plan (known_at ks f.head).id → ⊥
    other_root p_is f_is other on =
        let same : Some (known_at ks f.root) ≡ Some (known_at ks p.root) =
        ap (option_map (λ (f : Fork). f.root)) (sym forks) ∙ on.one_root ∙ ap (option_map (λ (f : Fork). f.root)) (sym is) in
        let roots : known_at ks f.root ≡ known_at ks p.root = cc in
        let numbers : Some p.root ≡ Some f.root = sym p_is ∙ ap (λ (k : Known). number_in ks k.id) (sym roots) ∙ f_is in
        other cc

    -- the head doesn't go on from it
    pub left_behind : (known_at ks p.head).id ≡ plan.old → (b : Bool) → b ≡ is_known (chain_at ks f.head) (known_at ks p.head).id → b ≡ false → GoesOn ks plan (known_at ks f.head).id → ⊥
    left_behind p_is b tells out on = not_both b (tells ∙ ap (is_known (chain_at ks f.head)) p_is ∙ on.in_chain) out

    pub is_planned : IsFork ks p → IsFork ks f → (known_at ks p.head).id ≡ plan.old → (known_at ks p.draft).id ≡ plan.draft → p.root ≡ f.root → is_known (chain_at ks f.head) (known_at ks p.head).id ≡ true
        → ((root : ℕ) → IsAncestor ks root p.head → following_at ks root f.head ≡ following_at ks root p.head ++ following_at ks p.head f.head) → IsPlannedHead ks plan f p.head
    is_planned p_forks f_forks p_is draft_is root there joined = record {
      ancestor = record { above_known = p_forks.of_head.known; known = f_forks.of_head.known; in_chain = there };
      old_is = p_is;
      forked = sym is ∙ (λ i. Some (fork_at (chain_at ks p.head) (chain ks ((draft_is ∙ sym of_draft) i)) (known_at ks (root i))));
      goes_on = ap (λ r. following_at ks r f.head) (sym root) ∙ joined p.root p_forks.of_head ∙ ap (λ r. following_at ks r p.head ++ following_at ks p.head f.head) root;
    }

-- ---- paths that clash with none of those before

module _ (left xs ys : List Path) (rises : IsRising left) (none : clash left (rising xs) ≡ None) where
  apart : (l r : Path) → Contains left l → Contains xs r → comparable l r ≡ false
  apart l r in_left in_xs = no_clash left (rising xs) none l r in_left ((Contains-rising xs r).1 in_xs)

  later : (r : Path) → Contains (rising (xs ++ ys)) r → Contains xs r ⊎ Contains ys r
  later r c = Contains-append_cases xs ys r ((Contains-rising (xs ++ ys) r).0 c)

  least_of_all : (q : Path × Path) → IsLeastClash left (rising ys) q → IsLeastClash left (rising (xs ++ ys)) q
  least_of_all q h = record {
    in_left = h.in_left;
    in_right = (Contains-rising (xs ++ ys) q.1).1 (Contains-append_right xs ys q.1 ((Contains-rising ys q.1).0 h.in_right));
    clashes = h.clashes;
    least_left = λ l r in_left in_all meets. ⊎_elim (λ old. absurd (not_both (comparable l r) meets (apart l r in_left old))) (λ new. h.least_left l r in_left ((Contains-rising ys r).1 new) meets) (later r in_all);
    least_right = λ r in_all meets. ⊎_elim (λ old. absurd (not_both (comparable q.0 r) meets (apart q.0 r h.in_left old))) (λ new. h.least_right r ((Contains-rising ys r).1 new) meets) (later r in_all);
  }

  none_at_all : (o : Option (Path × Path)) → clash left (rising (xs ++ ys)) ≡ o → clash left (rising ys) ≡ None → clash left (rising (xs ++ ys)) ≡ None
  none_at_all None e apart_too = e
  none_at_all (Some q) e apart_too =
      let h = clash_is_least left (rising (xs ++ ys)) q rises (IsRising-rising (xs ++ ys)) e in
      absurd (⊎_elim
      (λ old. not_both (comparable q.0 q.1) h.clashes (apart q.0 q.1 h.in_left old))
      (λ new. not_both (comparable q.0 q.1) h.clashes (no_clash left (rising ys) apart_too q.0 q.1 h.in_left ((Contains-rising ys q.1).1 new)))
      (later q.1 h.in_right))

  past_by : (o : Option (Path × Path)) → clash left (rising ys) ≡ o → clash left (rising (xs ++ ys)) ≡ o
  past_by None e = none_at_all (clash left (rising (xs ++ ys))) refl e
  past_by (Some q) e = only_clash left (rising (xs ++ ys)) q rises (IsRising-rising (xs ++ ys)) (least_of_all q (clash_is_least left (rising ys) q rises (IsRising-rising ys) e))

  pub clash_past : clash left (rising (xs ++ ys)) ≡ clash left (rising ys)
  clash_past = past_by (clash left (rising ys)) refl

-- ---- at a longer history

pub was_known : (g h : List Entry) (x : Id) → IsPrefix g h → is_known (known g) x ≡ true → is_known (known h) x ≡ true
was_known g h x begins there = subst (λ h. is_known (known h) x ≡ true) begins.1 (known_grows g begins.0 x there)

pub was_plan : (g h : List Entry) (caller name : List ℕ) (draft : Id) (plan : PlannedLanding) → IsPrefix g h → IsPlan g caller name draft plan → WasPlan h plan
was_plan g h caller name draft plan begins p = record {
  then = g;
  begins = begins;
  planned = subst (λ c. IsPlan g c plan.name plan.draft plan) (sym p.callers) (subst (λ n. IsPlan g caller n plan.draft plan) (sym p.names) (subst (λ d. IsPlan g caller name d plan) (sym p.drafts) p));
}

pub was_plan_later : (g h : List Entry) (plan : PlannedLanding) → IsPrefix g h → WasPlan g plan → WasPlan h plan
was_plan_later g h plan begins w = record { then = w.then; begins = prefix_on w.then g h w.begins begins; planned = w.planned }

fork_was : (g h : List Entry) (old draft : Id) → IsPrefix g h → is_known (known g) old ≡ true → is_known (known g) draft ≡ true → fork (known h) old draft ≡ fork (known g) old draft
fork_was g h old draft begins old_known draft_known = subst (λ h. fork (known h) old draft ≡ fork (known g) old draft) begins.1 (fork_grows g begins.0 old draft old_known draft_known)

some_same : (a b : Fork) → Some a ≡ Some b → a ≡ b
some_same a b e = cc

module _ (h : List Entry) (ks : List Known) (known_are : ks ≡ known h) (plan : PlannedLanding) (w : WasPlan h plan) (f : store.Fork) (n : ℕ) (p : IsPlannedHead ks plan f n) where
  planned_fork : w.planned.fork_is ≡ record { root = known_at ks f.root; stack = (fork_between ks f).stack; range = following_at ks f.root n }
  planned_fork =
      some_same _ _ (sym w.planned.forks ∙ sym (fork_was w.then h plan.old plan.draft w.begins w.planned.old_known w.planned.draft_known) ∙ ap (λ ks. fork ks plan.old plan.draft) (sym known_are) ∙ p.forked)

  pub stack_again : plan.stack ≡ (fork_between ks f).stack
  stack_again = w.planned.stack_is ∙ ap (λ (f : Fork). f.stack) planned_fork

  pub touched_again : plan.touched ≡ touched_paths (fork_between ks f).stack
  touched_again = w.planned.touched_is ∙ ap touched_paths stack_again

  -- no merge was in the stack, nor in the range before
  pub merges_again : merges_checked (fork_between ks f) ≡ refuse_some (option_map id_of (find is_merge (following_at ks n f.head))) reply.MergeInRange
  merges_again =
      let stack : find is_merge (fork_between ks f).stack ≡ None = ap (λ (f : Fork). find is_merge f.stack) (sym planned_fork) ∙ w.planned.stack_in_line in
      let before : find is_merge (following_at ks f.root n) ≡ None = ap (λ (f : Fork). find is_merge f.range) (sym planned_fork) ∙ w.planned.range_in_line in
      let range : find is_merge (fork_between ks f).range ≡ find is_merge (following_at ks n f.head) =
      ap (find is_merge) p.goes_on ∙ find-append is_merge (following_at ks f.root n) (following_at ks n f.head) ∙ ap (λ o. option_or o (find is_merge (following_at ks n f.head))) before in
      (λ i. refuse_some (option_map id_of (stack i)) reply.MergeInStack >>= λ _. refuse_some (option_map id_of (range i)) reply.MergeInRange)

  apart_before : clash plan.touched (rising (edited_paths (following_at ks f.root n))) ≡ None
  apart_before = ap (λ ps. clash ps (rising (edited_paths (following_at ks f.root n)))) touched_again ∙ ap (λ (f : Fork). clash (touched_paths f.stack) (touched_paths f.range)) (sym planned_fork) ∙ w.planned.apart

  pub touched_rise : IsRising plan.touched
  touched_rise = subst IsRising (sym touched_again) (touched_paths_rise (fork_between ks f).stack)

  pub paths_again : paths_checked (fork_between ks f) ≡ apart_checked plan.touched (following_at ks n f.head)
  paths_again =
      let before = following_at ks f.root n in
      let new = following_at ks n f.head in
      ap (λ o. refuse_some o (λ pair. reply.Clash pair.0 pair.1))
      ((λ i. clash (sym touched_again i) (rising (edited_paths (p.goes_on i))))
      ∙ ap (λ ps. clash plan.touched (rising ps)) (flat_map-append (λ (c : Changeset). map (λ e. e.0) c.changes) before new)
      ∙ clash_past plan.touched (edited_paths before) (edited_paths new) touched_rise apart_before)

  pub since_again : (old new : Id) → (known_at ks f.head).id ≡ old → Some old ≡ Some new → following_at ks n f.head ≡ since (known h) plan.old new
  since_again old new is same =
      let new_is : (known_at ks f.head).id ≡ new = is ∙ cc in
      (λ i. changesets (after_first (λ k. bytes_eq k.id (p.old_is i)) (chain (known_are i) (new_is i))))
