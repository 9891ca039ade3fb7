-- What was answered by a relation was answered by a wider one.
use Rattle.std.proofs.Common.{◌≡◌, ℕ, Bool, List, [], ◌∷◌, Option, inl, inr}
use Rattle.history_model.specs.History.{Entry}
use Rattle.history_model.specs.Journal.{Header}
use Rattle.http_model.specs.Stream.{Request}
use Rattle.reply_model.specs.After.{Relation, Answer, Call, Asks, Joins, Looks, Derives, Memory}
use Rattle.reply_model.specs.Reply.{LogFrom, PutContent, PutWhole, PutChangeset, SetBookmark, LandDraft, SetPolicy}
use Rattle.session_model.specs.Asking as asking
use Rattle.session_model.specs.Asking.{Asked, asked}
use Rattle.session_model.specs.Dating.{Dated}
use Rattle.stacked_calls.specs.Chain.{Answering, OnWay, SeesOn, Chained}
use Rattle.stacked_calls.proofs.Stacking.{granted_wider}
use Rattle.http_front.specs.Dating.{DatedBy}
use Rattle.session_model.specs.Responses.{Response}
use Rattle.session_model.specs.Session.{Answers, AnswersAsked, Serves}
use Rattle.http_front.specs.Answered.{Replied}
use Rattle.http_front.specs.Serving.{Start, Going}
use Rattle.repo_calls.specs.Widening.{Widens}

pub wide_self : (replies : Relation) → Widens replies replies
wide_self replies = record { each = λ header h who call answer new r. r }

pub dated_wider : (tells : ℕ → Type 0) (narrow wide : Relation) → Widens narrow wide → Widens (Dated tells narrow) (Dated tells wide)
dated_wider tells narrow wide w = record { each = by }
  where
    by : (header : Header) (h : List Entry) (who : ℕ) (call : Call) (answer : Answer) (new : List Entry) → Dated tells narrow header h who call answer new → Dated tells wide header h who call answer new
    by header h who (Asks (PutContent bytes)) answer new r = w.each header h who (Asks (PutContent bytes)) answer new r
    by header h who (Asks (PutWhole body pieces)) answer new r = w.each header h who (Asks (PutWhole body pieces)) answer new r
    by header h who (Asks (PutChangeset bytes)) answer new r = w.each header h who (Asks (PutChangeset bytes)) answer new r
    by header h who (Asks (SetBookmark caller name from to)) answer new r = w.each header h who (Asks (SetBookmark caller name from to)) answer new r
    by header h who (Asks (LandDraft caller name draft asked)) answer new r = (r.0, r.1, w.each header h who (Asks (LandDraft caller name draft r.0)) answer new r.2)
    by header h who (Asks (SetPolicy caller text)) answer new r = w.each header h who (Asks (SetPolicy caller text)) answer new r
    by header h who (Joins body) answer new r = w.each header h who (Joins body) answer new r
    by header h who (Looks question) answer new r = w.each header h who (Looks question) answer new r
    by header h who (Derives x) answer new r = w.each header h who (Derives x) answer new r

-- of two ways to answer, the wider
pub record WidensAll (narrow wide : Answering) : Type 0 where
  pub replies : Widens narrow.replies wide.replies
  pub enters : Widens narrow.enters wide.enters

pub all_self : (answering : Answering) → WidensAll answering answering
all_self answering = record { replies = wide_self answering.replies; enters = wide_self answering.enters }

pub dated_all_wider : (tells : ℕ → Type 0) (narrow wide enters : Relation) → Widens narrow wide → WidensAll (DatedBy tells narrow enters) (DatedBy tells wide enters)
dated_all_wider tells narrow wide enters wider = record { replies = dated_wider tells narrow wide wider; enters = wide_self enters }

pub replied_wider : (narrow wide : Relation) → Widens narrow wide → (header : Header) (who : ℕ) (h : List Entry) (call : Call) (respond : Answer → Response) (close head_only : Bool) (out : List ℕ) (after : List Entry)
    → Replied narrow header who h call respond close head_only out after → Replied wide header who h call respond close head_only out after
replied_wider narrow wide wider header who h call respond close head_only out after r = record { answer = r.answer; answered = wider.each header h who call r.answer after r.answered; text = r.text }

module _ (narrow wide : Answering) (wider : WidensAll narrow wide) where
  on_way_wider : (end : Answer) → Widens (OnWay narrow end) (OnWay wide end)
  on_way_wider end = record { each = by }
    where
      by : (header : Header) (h : List Entry) (who : ℕ) (call : Call) (answer : Answer) (new : List Entry) → OnWay narrow end header h who call answer new → OnWay wide end header h who call answer new
      by header h who call answer new (inl r) = inl (wider.replies.each header h who call answer new r)
      by header h who call answer new (inr e) = inr (e.0, wider.enters.each header h who call answer new e.1)

  chained_wider : (header : Header) (who : ℕ) (h : List Entry) (calls : List Call) (at : ℕ) (answer : Answer) (new : List Entry) → Chained narrow header who h calls at answer new → Chained wide header who h calls at answer new
  chained_wider header who h calls at answer new chained = record {
    earlier = chained.earlier;
    call = chained.call;
    later = chained.later;
    calls_are = chained.calls_are;
    at_is = chained.at_is;
    between = chained.between;
    granted = granted_wider (OnWay narrow answer) (OnWay wide answer) (on_way_wider answer) header who h chained.earlier chained.between chained.granted;
    then = chained.then;
    answered = wider.replies.each header chained.between who chained.call answer chained.then chained.answered;
    ends = chained.ends;
    sees = sees chained.sees;
  }
    where
      sees : SeesOn narrow.replies header who chained.then new → SeesOn wide.replies header who chained.then new
      sees (inl is) = inl is
      sees (inr r) = inr (wider.replies.each header chained.then who (Looks (LogFrom 0)) Memory new r)

  asked_wider : (header : Header) (who : ℕ) (h : List Entry) (a : Asked) (q : Request) (out : List ℕ) (after : List Entry) → AnswersAsked narrow header who h a q out after → AnswersAsked wide header who h a q out after
  unfolding chained_wider
  asked_wider header who h (asking.Calls call) q out after a = record { answer = a.answer; answered = wider.replies.each header h who call a.answer after a.answered; text = a.text }
  asked_wider header who h (asking.Lists calls) q out after a = record { at = a.at; answer = a.answer; chained = chained_wider header who h calls a.at a.answer after a.chained; text = a.text }
  asked_wider header who h (asking.Fails r) q out after a = a

  answers_wider : (header : Header) (who : ℕ) (h : List Entry) (q : Request) (out : List ℕ) (after : List Entry) → Answers narrow header who h q out after → Answers wide header who h q out after
  answers_wider header who h q out after (inl a) = inl (asked_wider header who h (asked q) q out after a)
  answers_wider header who h q out after (inr a) = inr a

  pub serves_wider : (header : Header) (who : ℕ) (h : List Entry) (requests : List Request) (texts : List (List ℕ)) (after : List Entry) → Serves narrow header who h requests texts after → Serves wide header who h requests texts after
  serves_wider header who h [] [] after s = s
  serves_wider header who h (q ∷ qs) (t ∷ ts) after s = (s.0, answers_wider header who h q t s.0 s.1, serves_wider header who s.0 qs ts after s.2)
  serves_wider header who h [] (t ∷ ts) after s = absurd s
  serves_wider header who h (q ∷ qs) [] after s = absurd s

  pub going_wider : (from : Start) (h : List Entry) (rest written : Option (List ℕ)) (held : List ℕ) (budget : ℕ) → Going narrow from h rest written held budget → Going wide from h rest written held budget
  going_wider from h rest written held budget g = record {
    read = g.read;
    requests = g.requests;
    texts = g.texts;
    takes = g.takes;
    serves = serves_wider from.header from.who from.history g.requests g.texts h g.serves;
    consumes = g.consumes;
    emits = g.emits;
    may_read = g.may_read;
  }
