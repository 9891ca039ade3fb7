-- How a repository that is served alone answers.
--     RepliesAlone header h who call answer new      as the repository of one thread at h. The disk fails no change whose entry wasn't made first, so an entry that isn't sealed is that of a change which was answered so
--     SealedAlone n header h who call answer new      so, and where it is granted, all that is stored is among the first n
--     sealed_alone, alone_wider      a seat may be answered so, and what is sealed stays so
use Rattle.std.proofs.Common.{sym, ap, subst, ◌∙◌, le_trans}
use Rattle.std.specs.Prelude.{◌≡◌, ◌≤◌, ◌++◌, ℕ, Bool, true, List, length, Option, None, Some, IsSome, MatchOption}
use Rattle.history_model.specs.History.{Entry, bodies}
use Rattle.history_model.specs.Journal.{Header}
use Rattle.reply_model.specs.After.{Call, Asks, Joins, Looks, Derives, Answer, Grants, Memory, Made, nothing, Answers, Replies, entries_of}
use Rattle.reply_model.specs.Reply.{Granted}
use Rattle.repo_calls.specs.Replying.{IsReplying, MakesNothing}
use Rattle.repo_calls.specs.Widening.{Widens}
use Rattle.repo_calls.proofs.Lawful.{alone}

pub record RepliesAlone (header : Header) (h : List Entry) (who : ℕ) (call : Call) (answer : Answer) (new : List Entry) : Type 0 where
  pub made : Made
  pub answers : Answers header h call answer made
  pub new_is : new ≡ h ++ entries_of who made
  pub made_first : made.fault ≡ Some true → IsSome made.entry

-- as the repository of one thread
abbrev pub as_one : {header : Header} {h : List Entry} {who : ℕ} {call : Call} {answer : Answer} {new : List Entry} → RepliesAlone header h who call answer new → Replies header h who call answer new
as_one r = record { made = r.made; answers = r.answers; new_is = r.new_is }

none_is_met : {T : Type 0} → {b : Bool} → None ≡ Some b → T
none_is_met {T} e = absurd (subst (λ (o : Option Bool). MatchOption o (Unit {0}) (λ _. ⊥)) e tt)

-- want of memory makes nothing
pub wanted : (header : Header) (h : List Entry) (call : Call) (made : Made) → Answers header h call Memory made → made ≡ nothing
wanted header h (Asks ask) made a = a
wanted header h (Joins body) made a = a
wanted header h (Looks question) made a = a
wanted header h (Derives x) made a = a

replying_alone : IsReplying RepliesAlone
replying_alone = record {
  fits = λ header h who ask granted new r. alone.fits header h who ask granted new (as_one r);
  shown = λ header h who question seen new r. alone.shown header h who question seen new (as_one r);
  memory = λ header h who call answer new m r.
      let p = alone.memory header h who call answer new m (as_one r) in
      record { made = p.made; answers = p.answers; new_is = p.new_is; made_first = λ e. none_is_met (sym (ap (λ (made : Made). made.fault) (wanted header h call p.made p.answers)) ∙ e) };
}

pub record SealedAlone (n : ℕ) (header : Header) (h : List Entry) (who : ℕ) (call : Call) (answer : Answer) (new : List Entry) : Type 0 where
  pub replies : RepliesAlone header h who call answer new
  pub sealed_to : (granted : Granted) → answer ≡ Grants granted → length (bodies new) ≤ n

pub sealed_alone : (n : ℕ) → IsReplying (SealedAlone n)
sealed_alone n = record {
  fits = λ header h who call granted new r. replying_alone.fits header h who call granted new r.replies;
  shown = λ header h who question seen new r. replying_alone.shown header h who question seen new r.replies;
  memory = λ header h who call answer new m r. record { replies = replying_alone.memory header h who call answer new m r.replies; sealed_to = λ granted is. absurd (subst MakesNothing is tt) };
}

pub alone_wider : (m n : ℕ) → m ≤ n → Widens (SealedAlone m) (SealedAlone n)
alone_wider m n le = record {
  each = λ header h who call answer new r. record { replies = r.replies; sealed_to = λ granted is. le_trans (r.sealed_to granted is) le };
}
