-- What is planned, over the indexes.
use Rattle.std.proofs.Common.{◌≡◌, ℕ, Bool, true, false, not, List, refl, sym, ap, subst, ◌∙◌}
use Rattle.std.specs.Prelude.{Option, None, Some, Ok, ok_or}
use Rattle.byte_fields.specs.Bytes.{Id}
use Rattle.changeset_model.specs.Path.{Path}
use Rattle.changeset_model.specs.Changeset.{Changeset, touched_paths}
use Rattle.history_model.specs.History.{Entry, Known, is_down, known, is_known}
use Rattle.history_model.specs.Bookmark.{head}
use Rattle.history_model.specs.Pushrebase.{Fork, fork}
use Rattle.history_model.specs.Journal.{Header}
use Rattle.history_model.specs.Repository.{Repository}
use Rattle.reply_model.specs.Reply as reply
use Rattle.reply_model.specs.Reply.{LandDraft, judge, refuse_if, ◌>>=◌}
use Rattle.reply_model.proofs.Parents.{grown, brought}
use Rattle.changeset_store.specs.declared.fork.Fork as store
use Rattle.changeset_store.specs.Fork.{IsFork, fork_between}
use Rattle.repo_calls.specs.declared.refusal.Refusal.{Refusal}
use Rattle.bonsai.specs.Making.{KeepOnParents}
use Rattle.repo_machine.specs.Plans.{IsPlan}
use Rattle.repo_machine.specs.Indexes.{AreIndexes}
use Rattle.repo_calls.specs.Refusing.{IsRefusal}
use Rattle.repo_machine.specs.Landings.{IsLandingRefusal, forking, lengths_checked, merges_checked, policy_checked, paths_checked}
use Rattle.changeset_store.proofs.KnownOnce.{is_known-once}
use Rattle.repo_machine.proofs.Uploading.{known_as}
use Rattle.repo_machine.proofs.Forks.{stack_keeps}
use Rattle.repo_machine.proofs.Judging.{legal_as}
use Rattle.repo_machine.proofs.LandingSteps.{is_short, stack_in_line, range_in_line, none_refused, fork_refused, lengths_refused, merges_refused, policy_refused, paths_refused}
use Rattle.reply_model.proofs.Parents.{head_known as from_some}

fork_some_by : (there : Bool) (draft : Id) (found : Option Fork) (f : Fork) → (refuse_if (not there) (reply.NoChangeset draft) >>= λ _. ok_or found reply.NoRoot) ≡ Ok f → found ≡ Some f
fork_some_by true draft None f e = absurd cc
fork_some_by true draft (Some g) f e = cc
fork_some_by false draft found f e = absurd cc

fork_some : (ks : List Known) (old draft : Id) (f : Fork) → forking ks old draft ≡ Ok f → fork ks old draft ≡ Some f
fork_some ks old draft f e = fork_some_by (is_known ks draft) draft (fork ks old draft) f e

known_by : (there : Bool) (draft : Id) (found : Option Fork) (f : Fork) → (refuse_if (not there) (reply.NoChangeset draft) >>= λ _. ok_or found reply.NoRoot) ≡ Ok f → there ≡ true
known_by true draft found f e = refl
known_by false draft found f e = absurd cc

fork_known : (ks : List Known) (old draft : Id) (f : Fork) → forking ks old draft ≡ Ok f → is_known ks draft ≡ true
fork_known ks old draft f e = known_by (is_known ks draft) draft (fork ks old draft) f e

module _ {header : Header} {h : List Entry} {ks : List Known} {heads : List ℕ → Option Id} {lengths : Id → Option ℕ} {size : ℕ} {down : Bool} (k : AreIndexes header h ks heads lengths size down) (r : Repository) (is : ◌≡◌ {A = Repository} (record { header = header; history = h }) r) (up : is_down r.history ≡ false) (caller name : List ℕ) where
  module _ (old : Id) (at : head r.history name ≡ Some old) where
    pub head_known : is_known ks old ≡ true
    head_known =
        ap (λ ks. is_known ks old) k.known_are ∙ is_known-once (brought h) old
        ∙ from_some (brought h) (head h name) old (ap (λ r. head r.history name) is ∙ at) ((grown header h k.legal).heads name)

    module _ (draft : Id) where
      pub fork_refused_as : (e : Refusal) → IsRefusal (forking ks old draft) e → IsLandingRefusal r.header r.history caller name draft e
      fork_refused_as e refusal moment = fork_refused r.header r.history caller name draft moment up old at e (subst (λ ks. IsRefusal (forking ks old draft) e) (known_as k r is) refusal)

      module _ (f : store.Fork) (is_fork : IsFork ks f) (forks : forking ks old draft ≡ Ok (fork_between ks f)) where
        forks_as : forking (known r.history) old draft ≡ Ok (fork_between (known r.history) f)
        forks_as = subst (λ ks. forking ks old draft ≡ Ok (fork_between ks f)) (known_as k r is) forks

        pub lengths_refused_as : (e : Refusal) → IsRefusal (lengths_checked (fork_between ks f)) e → IsLandingRefusal r.header r.history caller name draft e
        lengths_refused_as e refusal moment =
            lengths_refused r.header r.history caller name draft moment up old at (fork_between (known r.history) f) forks_as e (subst (λ ks. IsRefusal (lengths_checked (fork_between ks f)) e) (known_as k r is) refusal)

        pub merges_refused_as : lengths_checked (fork_between ks f) ≡ Ok tt → (e : Refusal) → IsRefusal (merges_checked (fork_between ks f)) e → IsLandingRefusal r.header r.history caller name draft e
        merges_refused_as short e refusal moment =
            merges_refused r.header r.history caller name draft moment up old at (fork_between (known r.history) f) forks_as
            (subst (λ ks. lengths_checked (fork_between ks f) ≡ Ok tt) (known_as k r is) short) e (subst (λ ks. IsRefusal (merges_checked (fork_between ks f)) e) (known_as k r is) refusal)

        module _ (short : lengths_checked (fork_between ks f) ≡ Ok tt) (line : merges_checked (fork_between ks f) ≡ Ok tt) where
          short_as : lengths_checked (fork_between (known r.history) f) ≡ Ok tt
          short_as = subst (λ ks. lengths_checked (fork_between ks f) ≡ Ok tt) (known_as k r is) short

          in_line : merges_checked (fork_between (known r.history) f) ≡ Ok tt
          in_line = subst (λ ks. merges_checked (fork_between ks f) ≡ Ok tt) (known_as k r is) line

          pub policy_refused_as : (e : Refusal) → IsRefusal (policy_checked r.history caller (fork_between ks f)) e → IsLandingRefusal r.header r.history caller name draft e
          policy_refused_as e refusal moment =
              policy_refused r.header r.history caller name draft moment up old at (fork_between (known r.history) f) forks_as short_as in_line e (subst (λ ks. IsRefusal (policy_checked r.history caller (fork_between ks f)) e) (known_as k r is) refusal)

          pub paths_refused_as : policy_checked r.history caller (fork_between ks f) ≡ Ok tt → (e : Refusal) → IsRefusal (paths_checked (fork_between ks f)) e → IsLandingRefusal r.header r.history caller name draft e
          paths_refused_as allowed e refusal moment =
              paths_refused r.header r.history caller name draft moment up old at (fork_between (known r.history) f) forks_as short_as in_line (subst (λ ks. policy_checked r.history caller (fork_between ks f) ≡ Ok tt) (known_as k r is) allowed) e (subst (λ ks. IsRefusal (paths_checked (fork_between ks f)) e) (known_as k r is) refusal)

          pub planned : (caller' : List ℕ) → caller' ≡ caller → (name' : List ℕ) → name' ≡ name → (stack : List Changeset) → stack ≡ (fork_between ks f).stack → (touched : List Path) → touched ≡ touched_paths (fork_between ks f).stack → paths_checked (fork_between ks f) ≡ Ok tt → IsPlan r.history caller name draft (record { caller = caller'; name = name'; draft = draft; old = old; stack = stack; touched = touched })
          planned caller' calling name' named stack stack_is touched touched_is apart =
              let apart_as = subst (λ ks. paths_checked (fork_between ks f) ≡ Ok tt) (known_as k r is) apart in
              let lengths = is_short (fork_between (known r.history) f) short_as in
              record {
                callers = calling;
                names = named;
                drafts = refl;
                head_is = at;
                old_known = subst (λ ks. is_known ks old ≡ true) (known_as k r is) head_known;
                draft_known = fork_known (known r.history) old draft (fork_between (known r.history) f) forks_as;
                fork_is = fork_between (known r.history) f;
                forks = fork_some (known r.history) old draft (fork_between (known r.history) f) forks_as;
                stack_is = stack_is ∙ ap (λ ks. (fork_between ks f).stack) (known_as k r is);
                near = lengths.near;
                some = lengths.some;
                few = lengths.few;
                stack_in_line = stack_in_line (fork_between (known r.history) f) in_line;
                range_in_line = range_in_line (fork_between (known r.history) f) in_line;
                apart = none_refused _ _ apart_as;
                touched_is = touched_is ∙ ap touched_paths (sym stack_is);
              }

        -- the copy sources of the stack are kept on the head
        pub stack_keeps_as : merges_checked (fork_between ks f) ≡ Ok tt → (stack : List Changeset) → stack ≡ (fork_between ks f).stack → KeepOnParents stack
        stack_keeps_as line stack stack_is =
            subst KeepOnParents (sym (stack_is ∙ ap (λ ks. (fork_between ks f).stack) (known_as k r is)))
            (stack_keeps r.header r.history (legal_as k r is) f (stack_in_line (fork_between (known r.history) f) (subst (λ ks. merges_checked (fork_between ks f) ≡ Ok tt) (known_as k r is) line)))
