-- A call that is a change, by the change that it asks for.
--     for_call      what answers the change answers the call
--     IsAskedAs header h who call answer new      the call is answered so as it asks for this change
use Rattle.std.proofs.Common.{◌≡◌, ℕ, List, subst, refl}
use Rattle.history_model.specs.History.{Entry}
use Rattle.history_model.specs.Journal.{Header}
use Rattle.reply_model.specs.Reply as reply
use Rattle.reply_model.specs.Reply.{PutWhole, Granted, Refusal, parts_of}
use Rattle.reply_model.specs.After.{Call, Asks, Joins, Looks, Derives, Answer, Grants, Refuses, Shows, Lacks, Roots, DiskFault, ReadFault, BadBytes, NodeCollision, Memory, Made, nothing, Answers, Replies, IsJoining}
use Rattle.reply_model.proofs.Joining.{joined_granted, joined_refused}
use Rattle.repo_machine.specs.Asked.{IsAskOf}
use Rattle.repo_state.specs.Alone.{RepliesAlone}

-- ---- what answers the change answers the call

joined : (header : Header) (h : List Entry) (body : List ℕ) (pieces : List (List ℕ)) (answer : Answer) (made : Made) → IsJoining (parts_of header h body) h pieces → Answers header h (Asks (PutWhole body pieces)) answer made → Answers header h (Joins body) answer made
joined header h body pieces (Grants granted) made joins a = (a.0, pieces, joins, a.1)
joined header h body pieces (Refuses refusal) made joins a = (a.0, pieces, joins, a.1)
joined header h body pieces (Shows seen) made joins a = absurd a
joined header h body pieces (Lacks absent) made joins a = absurd a
joined header h body pieces (Roots fs un gone) made joins a = absurd a
joined header h body pieces DiskFault made joins a = (a.0, pieces, a.1, joins, a.2)
joined header h body pieces ReadFault made joins a = absurd a
joined header h body pieces (BadBytes wanted found) made joins a = absurd a
joined header h body pieces (NodeCollision x) made joins a = absurd a.1
joined header h body pieces Memory made joins a = a

answers_call : (header : Header) (h : List Entry) (call : Call) (ask : reply.Ask) (answer : Answer) (made : Made) → IsAskOf header h call ask → Answers header h (Asks ask) answer made → Answers header h call answer made
answers_call header h (Asks asked) ask answer made is a = subst (λ ask. Answers header h (Asks ask) answer made) is a
answers_call header h (Joins body) ask answer made is a = joined header h body is.0 answer made is.1 (subst (λ ask. Answers header h (Asks ask) answer made) is.2 a)
answers_call header h (Looks question) ask answer made is a = absurd is
answers_call header h (Derives id) ask answer made is a = absurd is

pub for_call : {header : Header} {h : List Entry} {call : Call} {ask : reply.Ask} {who : ℕ} {answer : Answer} {new : List Entry} → IsAskOf header h call ask → Replies header h who (Asks ask) answer new → Replies header h who call answer new
for_call {header} {h} {call} {ask} {who} {answer} is r = record { made = r.made; answers = answers_call header h call ask answer r.made is r.answers; new_is = r.new_is }

pub alone_for_call : {header : Header} {h : List Entry} {call : Call} {ask : reply.Ask} {who : ℕ} {answer : Answer} {new : List Entry} → IsAskOf header h call ask → RepliesAlone header h who (Asks ask) answer new → RepliesAlone header h who call answer new
alone_for_call {header} {h} {call} {ask} {who} {answer} is r = record { made = r.made; answers = answers_call header h call ask answer r.made is r.answers; new_is = r.new_is; made_first = r.made_first }

-- ---- and the other way

pub record IsAskedAs (header : Header) (h : List Entry) (who : ℕ) (call : Call) (answer : Answer) (new : List Entry) : Type 0 where
  pub ask : reply.Ask
  pub asks : IsAskOf header h call ask
  pub replies : Replies header h who (Asks ask) answer new

pub granted_ask : (header : Header) (h : List Entry) (who : ℕ) (call : Call) (granted : Granted) (new : List Entry) → Replies header h who call (Grants granted) new → IsAskedAs header h who call (Grants granted) new
granted_ask header h who (Asks ask) granted new r = record { ask = ask; asks = refl; replies = r }
granted_ask header h who (Joins body) granted new r = let j = joined_granted header h who body granted new r in record { ask = PutWhole body j.0; asks = (j.0, j.1, refl); replies = j.2 }
granted_ask header h who (Looks question) granted new r = absurd r.answers
granted_ask header h who (Derives id) granted new r = absurd r.answers

pub refuses_ask : (header : Header) (h : List Entry) (who : ℕ) (call : Call) (refusal : Refusal) (new : List Entry) → Replies header h who call (Refuses refusal) new → IsAskedAs header h who call (Refuses refusal) new
refuses_ask header h who (Asks ask) refusal new r = record { ask = ask; asks = refl; replies = r }
refuses_ask header h who (Joins body) refusal new r = let j = joined_refused header h who body refusal new r in record { ask = PutWhole body j.0; asks = (j.0, j.1, refl); replies = j.2 }
refuses_ask header h who (Looks question) refusal new r = absurd r.answers
refuses_ask header h who (Derives id) refusal new r = absurd r.answers

-- ---- a refusal makes nothing, and want of memory may stand for any answer

pub refuses_nothing : (header : Header) (h : List Entry) (call : Call) (refusal : Refusal) (made : Made) → Answers header h call (Refuses refusal) made → made ≡ nothing
refuses_nothing header h (Asks ask) refusal made a = a.0
refuses_nothing header h (Joins body) refusal made a = a.0
refuses_nothing header h (Looks question) refusal made a = absurd a
refuses_nothing header h (Derives id) refusal made a = absurd a

pub any_wants : (header : Header) (h : List Entry) (call : Call) → Answers header h call Memory nothing
any_wants header h (Asks ask) = refl
any_wants header h (Joins body) = refl
any_wants header h (Looks question) = refl
any_wants header h (Derives id) = refl
