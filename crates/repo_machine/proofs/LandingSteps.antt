-- What the steps of a landing give, and what is judged by them.
use Rattle.std.proofs.Common.{◌≡◌, ℕ, ◌<◌, ◌≤◌, lt-ltb, le-ltb, Bool, true, false, List, length, map, inl, inr, refl, sym, ap, subst, ◌∙◌, arith}
use Rattle.std.specs.Prelude.{Option, None, Some, Result, Ok, Err, not, nat_lt, ◌==◌, ok_or, find, option_map}
use Rattle.std.proofs.lemmas.Bool.{eq-eqb}
use Rattle.std.proofs.lemmas.Bool.Decides.{Decides-eqb, nat_tests}
use mathlib.Core.Bool.{true≢false}
use Rattle.byte_fields.specs.Bytes.{Id}
use Rattle.changeset_model.specs.Changeset.{Changeset, id_of}
use Rattle.history_model.specs.History as model
use Rattle.history_model.specs.History.{Entry, Known, Land, is_down, known, is_known}
use Rattle.history_model.specs.Bookmark.{head}
use Rattle.history_model.specs.Pushrebase.{Fork, fork, rewrite, moment_of}
use Rattle.history_model.specs.Journal.{Header, payload_len, most_payload}
use Rattle.reply_model.specs.Reply as reply
use Rattle.reply_model.specs.Reply.{◌>>=◌, refuse_if, refuse_some, most_range, most_stack, is_merge, told, denial, denied_at, first_collision, LandDraft, Judged, judge, entered, enter_landing, land}
use Rattle.reply_model.specs.After.{Refuses}
use Rattle.repo_calls.specs.Calls.{refused}
use Rattle.repo_calls.specs.declared.refusal.Refusal.{Refusal}
use Rattle.repo_calls.specs.declared.refusal.Refusal.TheVariants as refusals
use Rattle.repo_calls.specs.Refusing.{IsRefusal}
use Rattle.repo_machine.specs.Landings.{IsLandingRefusal, Checked, forking, lengths_checked, merges_checked, policy_checked, paths_checked, payload_checked, collisions_checked}
use Rattle.repo_machine.proofs.Judging.{judged_up, refused_down}

-- ---- lengths

lengths_by : Bool → ℕ → Bool → Bool → ℕ → Checked
lengths_by far distance none many count = refuse_if far (reply.TooFarBehind distance) >>= λ _. (refuse_if none reply.AlreadyIn >>= λ _. refuse_if many (reply.StackTooLong count))

not_zero : (n : ℕ) → (n ≡ 0 → ⊥) → (n == 0) ≡ false
not_zero n apart = by (n == 0) refl
  where
    by : (t : Bool) → (n == 0) ≡ t → (n == 0) ≡ false
    by true e = absurd (apart ((Decides-eqb n 0).0 e))
    by false e = e

module _ (f : Fork) (distance : ℕ) (is : distance ≡ length f.range) where
  lengths_are : (far : Bool) → nat_lt most_range distance ≡ far → lengths_checked f ≡ lengths_by far distance (length f.stack == 0) (nat_lt most_stack (length f.stack)) (length f.stack)
  unfolding lengths_by
  lengths_are far e = (λ i. lengths_by (nat_lt most_range (sym is i)) (sym is i) (length f.stack == 0) (nat_lt most_stack (length f.stack)) (length f.stack)) ∙ ap (λ b. lengths_by b distance (length f.stack == 0) (nat_lt most_stack (length f.stack)) (length f.stack)) e

  pub too_far : most_range < distance → IsRefusal (lengths_checked f) (refusals.TooFarBehind distance)
  unfolding lengths_by
  too_far far = inr (reply.TooFarBehind distance, lengths_are true (lt-ltb most_range distance far), refl)

  module _ (near : distance ≤ most_range) (count : ℕ) (counts : count ≡ length f.stack) where
    near_are : lengths_checked f ≡ lengths_by false distance (count == 0) (nat_lt most_stack count) count
    near_are = lengths_are false (le-ltb most_range distance near) ∙ (λ i. lengths_by false distance (sym counts i == 0) (nat_lt most_stack (sym counts i)) (sym counts i))

    pub already_in : count ≡ 0 → IsRefusal (lengths_checked f) refusals.AlreadyIn
    unfolding lengths_by
    already_in none = inr (reply.AlreadyIn, near_are ∙ ap (λ b. lengths_by false distance b (nat_lt most_stack count) count) (eq-eqb count 0 none), refl)

    pub too_many : (count ≡ 0 → ⊥) → most_stack < count → IsRefusal (lengths_checked f) (refusals.StackTooLong count)
    unfolding lengths_by
    too_many some many = inr (reply.StackTooLong count, near_are ∙ (λ i. lengths_by false distance (not_zero count some i) (lt-ltb most_stack count many i) count), refl)

    pub fine_lengths : (count ≡ 0 → ⊥) → count ≤ most_stack → lengths_checked f ≡ Ok tt
    unfolding lengths_by
    fine_lengths some few = near_are ∙ (λ i. lengths_by false distance (not_zero count some i) (le-ltb most_stack count few i) count)

-- what passes is short, and something
passed_by : (far none many : Bool) (distance count : ℕ) → lengths_by far distance none many count ≡ Ok tt → (far ≡ false) × (none ≡ false) × (many ≡ false)
unfolding lengths_by
passed_by true none many distance count e = absurd cc
passed_by false true many distance count e = absurd cc
passed_by false false true distance count e = absurd cc
passed_by false false false distance count e = (refl, refl, refl)

pub record IsShort (f : Fork) : Type 0 where
  pub near : length f.range ≤ most_range
  pub some : 0 < length f.stack
  pub few : length f.stack ≤ most_stack

some_by : (n : ℕ) → (n == 0) ≡ false → 0 < n
some_by n e = by n e
  where
    by : (n : ℕ) → (n == 0) ≡ false → 0 < n
    by n e = let apart : n ≡ 0 → ⊥ = λ z. true≢false (sym ((Decides-eqb n 0).1 z) ∙ e) in omega (arith, apart)

most_by : (most n : ℕ) → nat_lt most n ≡ false → n ≤ most
most_by most n e = grind (arith, nat_tests)

pub is_short : (f : Fork) → lengths_checked f ≡ Ok tt → IsShort f
unfolding lengths_by
is_short f e =
    let both = passed_by (nat_lt most_range (length f.range)) (length f.stack == 0) (nat_lt most_stack (length f.stack)) (length f.range) (length f.stack) e in
    record { near = most_by most_range (length f.range) both.0; some = some_by (length f.stack) both.1; few = most_by most_stack (length f.stack) both.2 }

-- ---- the fork

fork_by : Bool → Id → Option Fork → Result Fork reply.Refusal
fork_by there draft found = refuse_if (not there) (reply.NoChangeset draft) >>= λ _. ok_or found reply.NoRoot

module _ (ks : List Known) (old : Id) (draft : Id) where
  pub unknown_draft : is_known ks draft ≡ false → IsRefusal (forking ks old draft) (refusals.NoChangeset draft)
  unfolding fork_by
  unknown_draft e = inr (reply.NoChangeset draft, ap (λ b. fork_by b draft (fork ks old draft)) e, refl)

  pub no_root : is_known ks draft ≡ true → fork ks old draft ≡ None → IsRefusal (forking ks old draft) refusals.NoRoot
  unfolding fork_by
  no_root e none = inr (reply.NoRoot, (λ i. fork_by (e i) draft (none i)), refl)

  pub forked : (f : Fork) → is_known ks draft ≡ true → fork ks old draft ≡ Some f → forking ks old draft ≡ Ok f
  unfolding fork_by
  forked f e some = (λ i. fork_by (e i) draft (some i))

-- ---- refusals of some

pub refused_some : {X : Type 0} (found : Option X) (make : X → reply.Refusal) (x : X) (e : Refusal) → found ≡ Some x → refused e ≡ Refuses (make x) → IsRefusal (refuse_some found make) e
refused_some found make x e some same = inr (make x, ap (λ o. refuse_some o make) some, same)

pub refused_none : {X : Type 0} (found : Option X) (make : X → reply.Refusal) → found ≡ None → refuse_some found make ≡ Ok tt
refused_none found make none = ap (λ o. refuse_some o make) none

pub none_refused : {X : Type 0} (found : Option X) (make : X → reply.Refusal) → refuse_some found make ≡ Ok tt → found ≡ None
none_refused None make e = refl
none_refused (Some x) make e = absurd cc

-- ---- merges

line_by : (stack range : Option Changeset) → (refuse_some (option_map id_of stack) reply.MergeInStack >>= λ _. refuse_some (option_map id_of range) reply.MergeInRange) ≡ Ok tt → (stack ≡ None) × (range ≡ None)
line_by None None e = (refl, refl)
line_by None (Some c) e = absurd cc
line_by (Some c) range e = absurd cc

pub stack_in_line : (f : Fork) → merges_checked f ≡ Ok tt → find is_merge f.stack ≡ None
stack_in_line f e = (line_by (find is_merge f.stack) (find is_merge f.range) e).0

pub range_in_line : (f : Fork) → merges_checked f ≡ Ok tt → find is_merge f.range ≡ None
range_in_line f e = (line_by (find is_merge f.stack) (find is_merge f.range) e).1

pub in_line_again : (f : Fork) → find is_merge f.stack ≡ None → find is_merge f.range ≡ None → merges_checked f ≡ Ok tt
in_line_again f stack range = (λ i. refuse_some (option_map id_of (stack i)) reply.MergeInStack >>= λ _. refuse_some (option_map id_of (range i)) reply.MergeInRange)

-- the two checks, as they are made
pub merge_in_stack : (f : Fork) (x : Id) → option_map id_of (find is_merge f.stack) ≡ Some x → IsRefusal (merges_checked f) (refusals.MergeInStack x)
merge_in_stack f x some = inr (reply.MergeInStack x, ap (λ o. refuse_some o reply.MergeInStack >>= λ _. refuse_some (option_map id_of (find is_merge f.range)) reply.MergeInRange) some, refl)

pub merge_in_range : (f : Fork) (x : Id) → option_map id_of (find is_merge f.stack) ≡ None → option_map id_of (find is_merge f.range) ≡ Some x → IsRefusal (merges_checked f) (refusals.MergeInRange x)
merge_in_range f x none some = inr (reply.MergeInRange x, (λ i. refuse_some (none i) reply.MergeInStack >>= λ _. refuse_some (some i) reply.MergeInRange), refl)

pub no_merge_in : (f : Fork) → option_map id_of (find is_merge f.stack) ≡ None → option_map id_of (find is_merge f.range) ≡ None → merges_checked f ≡ Ok tt
no_merge_in f stack range = (λ i. refuse_some (stack i) reply.MergeInStack >>= λ _. refuse_some (range i) reply.MergeInRange)

-- ---- the payload

pub too_large : (l : model.Landing) (n : ℕ) → n ≡ payload_len (Land l) → most_payload < n → IsRefusal (payload_checked l) (refusals.TooLarge n)
too_large l n is large = inr (reply.TooLarge n, (λ i. refuse_if (nat_lt most_payload (sym is i)) (reply.TooLarge (sym is i))) ∙ ap (λ b. refuse_if b (reply.TooLarge n)) (lt-ltb most_payload n large), refl)

pub fine_payload : (l : model.Landing) (n : ℕ) → n ≡ payload_len (Land l) → n ≤ most_payload → payload_checked l ≡ Ok tt
fine_payload l n is short = (λ i. refuse_if (nat_lt most_payload (sym is i)) (reply.TooLarge (sym is i))) ∙ ap (λ b. refuse_if b (reply.TooLarge n)) (le-ltb most_payload n short)

-- ---- what is judged

three : (first second third : Checked) (rest : Result Judged reply.Refusal) → (first >>= λ _. (second >>= λ _. (third >>= λ _. rest))) ≡ ((first >>= λ _. (second >>= λ _. third)) >>= λ _. rest)
three (Ok a) (Ok b) (Ok c) rest = refl
three (Ok a) (Ok b) (Err e) rest = refl
three (Ok a) (Err e) third rest = refl
three (Err e) second third rest = refl

both : (first second : Checked) (rest : Result Judged reply.Refusal) → (first >>= λ _. (second >>= λ _. rest)) ≡ ((first >>= λ _. second) >>= λ _. rest)
both (Ok a) (Ok b) rest = refl
both (Ok a) (Err e) rest = refl
both (Err e) second rest = refl

two : (first : Checked) (found : Result Fork reply.Refusal) (rest : Fork → Result Judged reply.Refusal) → (first >>= λ _. (found >>= rest)) ≡ ((first >>= λ _. found) >>= rest)
two (Ok a) found rest = refl
two (Err e) found rest = refl

module _ (header : Header) (h : List Entry) (caller name : List ℕ) (draft : Id) (moment : ℕ) (up : is_down h ≡ false) where
  abbrev ask : reply.Ask
  ask = LandDraft caller name draft moment

  abbrev after_paths : Id → Fork → Result Judged reply.Refusal
  after_paths old f = enter_landing header h (told h caller) name old draft (rewrite f.stack old moment) (moment_of f.stack moment)

  abbrev after_policy : Id → Fork → Result Judged reply.Refusal
  after_policy old f = paths_checked f >>= λ _. after_paths old f

  abbrev after_merges : Id → Fork → Result Judged reply.Refusal
  after_merges old f = policy_checked h caller f >>= λ _. after_policy old f

  abbrev after_lengths : Id → Fork → Result Judged reply.Refusal
  after_lengths old f = merges_checked f >>= λ _. after_merges old f

  abbrev after_fork : Id → Fork → Result Judged reply.Refusal
  after_fork old f = lengths_checked f >>= λ _. after_lengths old f

  abbrev after_head : Id → Result Judged reply.Refusal
  after_head old = forking (known h) old draft >>= after_fork old

  in_order : (old : Id) (f : Fork) → (refuse_if (nat_lt most_range (length f.range)) (reply.TooFarBehind (length f.range)) >>= λ _. (refuse_if (length f.stack == 0) reply.AlreadyIn >>= λ _. (refuse_if (nat_lt most_stack (length f.stack)) (reply.StackTooLong (length f.stack)) >>= λ _.
      (refuse_some (option_map id_of (find is_merge f.stack)) reply.MergeInStack >>= λ _. (refuse_some (option_map id_of (find is_merge f.range)) reply.MergeInRange >>= λ _. after_merges old f))))) ≡ after_fork old f
  in_order old f =
      (λ i. refuse_if (nat_lt most_range (length f.range)) (reply.TooFarBehind (length f.range)) >>= λ _. (refuse_if (length f.stack == 0) reply.AlreadyIn >>= λ _. (refuse_if (nat_lt most_stack (length f.stack)) (reply.StackTooLong (length f.stack)) >>= λ _.
      both (refuse_some (option_map id_of (find is_merge f.stack)) reply.MergeInStack) (refuse_some (option_map id_of (find is_merge f.range)) reply.MergeInRange) (after_merges old f) i)))
      ∙ three (refuse_if (nat_lt most_range (length f.range)) (reply.TooFarBehind (length f.range))) (refuse_if (length f.stack == 0) reply.AlreadyIn) (refuse_if (nat_lt most_stack (length f.stack)) (reply.StackTooLong (length f.stack))) (after_lengths old f)

  judged_head : (found : Option Id) → head h name ≡ found → judge header h ask ≡ (ok_or found reply.NoBookmark >>= after_head)
  judged_head found e =
      judged_up header h ask up
      ∙ (λ i. ok_or (e i) reply.NoBookmark >>= λ old. (refuse_if (not (is_known (known h) draft)) (reply.NoChangeset draft) >>= λ _. (ok_or (fork (known h) old draft) reply.NoRoot >>= λ f. in_order old f i)))
      ∙ (λ i. ok_or found reply.NoBookmark >>= λ old. two (refuse_if (not (is_known (known h) draft)) (reply.NoChangeset draft)) (ok_or (fork (known h) old draft) reply.NoRoot) (after_fork old) i)

  pub no_bookmark : head h name ≡ None → IsRefusal (judge header h ask) refusals.NoBookmark
  no_bookmark none = inr (reply.NoBookmark, judged_head None none, refl)

  module _ (old : Id) (e : head h name ≡ Some old) where
    pub fork_refused : (refusal : Refusal) → IsRefusal (forking (known h) old draft) refusal → IsRefusal (judge header h ask) refusal
    fork_refused refusal (inl memory) = inl memory
    fork_refused refusal (inr (r, is, same)) = inr (r, judged_head (Some old) e ∙ ap (λ x. x >>= after_fork old) is, same)

    module _ (f : Fork) (forks : forking (known h) old draft ≡ Ok f) where
      judged_fork : judge header h ask ≡ after_fork old f
      judged_fork = judged_head (Some old) e ∙ ap (λ x. x >>= after_fork old) forks

      pub lengths_refused : (refusal : Refusal) → IsRefusal (lengths_checked f) refusal → IsRefusal (judge header h ask) refusal
      lengths_refused refusal (inl memory) = inl memory
      lengths_refused refusal (inr (r, is, same)) = inr (r, judged_fork ∙ ap (λ x. x >>= λ _. after_lengths old f) is, same)

      module _ (short : lengths_checked f ≡ Ok tt) where
        judged_lengths : judge header h ask ≡ after_lengths old f
        judged_lengths = judged_fork ∙ ap (λ x. x >>= λ _. after_lengths old f) short

        pub merges_refused : (refusal : Refusal) → IsRefusal (merges_checked f) refusal → IsRefusal (judge header h ask) refusal
        merges_refused refusal (inl memory) = inl memory
        merges_refused refusal (inr (r, is, same)) = inr (r, judged_lengths ∙ ap (λ x. x >>= λ _. after_merges old f) is, same)

      module _ (short : lengths_checked f ≡ Ok tt) (in_line : merges_checked f ≡ Ok tt) where
        judged_merges : judge header h ask ≡ after_merges old f
        judged_merges = judged_lengths short ∙ ap (λ x. x >>= λ _. after_merges old f) in_line

        pub policy_refused : (refusal : Refusal) → IsRefusal (policy_checked h caller f) refusal → IsRefusal (judge header h ask) refusal
        policy_refused refusal (inl memory) = inl memory
        policy_refused refusal (inr (r, is, same)) = inr (r, judged_merges ∙ ap (λ x. x >>= λ _. after_policy old f) is, same)

        pub paths_refused : policy_checked h caller f ≡ Ok tt → (refusal : Refusal) → IsRefusal (paths_checked f) refusal → IsRefusal (judge header h ask) refusal
        paths_refused allowed refusal (inl memory) = inl memory
        paths_refused allowed refusal (inr (r, is, same)) = inr (r, judged_merges ∙ ap (λ x. x >>= λ _. after_policy old f) allowed ∙ ap (λ x. x >>= λ _. after_paths old f) is, same)

        pub judged_planned : paths_checked f ≡ Ok tt → judge header h ask ≡ (policy_checked h caller f >>= λ _. enter_landing header h (told h caller) name old draft (rewrite f.stack old moment) (moment_of f.stack moment))
        judged_planned apart = judged_merges ∙ ap (λ x. policy_checked h caller f >>= λ _. (x >>= λ _. after_paths old f)) apart

-- after a breaking fault
pub down_as : (header : Header) (h : List Entry) (caller name : List ℕ) (draft : Id) (e : Refusal) → (e ≡ refusals.Down) × (is_down h ≡ true) → IsLandingRefusal header h caller name draft e
down_as header h caller name draft e down moment = subst (IsRefusal (judge header h (LandDraft caller name draft moment))) (sym down.0) (refused_down header h (LandDraft caller name draft moment) down.1)

-- entering it
module _ (header : Header) (h : List Entry) (ask : reply.Ask) (landing : model.Landing) (judged : judge header h ask ≡ enter_landing header h landing.caller landing.name landing.old landing.draft landing.new landing.moment) where
  abbrev after_collisions : Result Judged reply.Refusal
  after_collisions = entered header h (reply.Landed landing.old (map id_of landing.new)) (Land landing)

  abbrev after_payload : Result Judged reply.Refusal
  after_payload = collisions_checked (known h) landing.new >>= λ _. after_collisions

  pub payload_refused : (refusal : Refusal) → IsRefusal (payload_checked landing) refusal → IsRefusal (judge header h ask) refusal
  payload_refused refusal (inl memory) = inl memory
  payload_refused refusal (inr (r, is, same)) = inr (r, judged ∙ ap (λ x. x >>= λ _. after_payload) is, same)

  module _ (short : payload_checked landing ≡ Ok tt) where
    judged_payload : judge header h ask ≡ after_payload
    judged_payload = judged ∙ ap (λ x. x >>= λ _. after_payload) short

    pub collision_refused : (refusal : Refusal) → IsRefusal (collisions_checked (known h) landing.new) refusal → IsRefusal (judge header h ask) refusal
    collision_refused refusal (inl memory) = inl memory
    collision_refused refusal (inr (r, is, same)) = inr (r, judged_payload ∙ ap (λ x. x >>= λ _. after_collisions) is, same)

    pub judged_landing : collisions_checked (known h) landing.new ≡ Ok tt → judge header h ask ≡ after_collisions
    judged_landing apart = judged_payload ∙ ap (λ x. x >>= λ _. after_collisions) apart
