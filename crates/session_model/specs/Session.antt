-- A session: what goes out and what the history is then, for the bytes that came in.
--     Answers answering header who h q out after      the request q is answered at h by these bytes, and the history is then `after`
--     Serves answering header who h requests texts after      so are these requests in order, each by its text
--     Session answering header who h s out after end      for all bytes read, where the session came to this end
--     Broken answering header who h s out after      where the link failed: what went out lacks at most an end of the last text
--     closing refusal, closing_memory      what is written last where the session is refused, and where there was no memory to begin
use Rattle.std.specs.Prelude.{◌≡◌, ◌≤◌, ◌⊎◌, ℕ, true, false, List, [], ◌∷◌, ◌++◌, length}
use Rattle.std.specs.List.{concat}
use mathlib.Core.List.{IsPrefix}
use Rattle.history_model.specs.History.{Entry}
use Rattle.history_model.specs.Journal.{Header}
use Rattle.reply_model.specs.After.{Relation, Answer, Call}
use Rattle.stacked_calls.specs.Chain.{Answering, Chained}
use Rattle.http_model.specs.declared.head_refusal.HeadRefusal.{HeadRefusal}
use Rattle.http_model.specs.declared.head_refusal.HeadRefusal.TheVariants as refusals
use Rattle.http_model.specs.Refusals.{code_of, status_of}
use Rattle.http_model.specs.Stream.{Request, Whole, Refuses, is_head_only}
use Rattle.http_model.specs.Session.{End, Ended, Closed, Cut, Refused, Spent, Takes, Leaves, Requests, most_read}
use Rattle.session_model.specs.declared.status.Status.{Status}
use Rattle.session_model.specs.declared.status.Status.TheVariants.{BadRequest, LengthRequired, ContentTooLarge, HeaderFieldsTooLarge, NotImplemented}
use Rattle.session_model.specs.Responses.{Response, text_of}
use Rattle.session_model.specs.Bodies.{of_code, memory}
use Rattle.session_model.specs.Asking as asking
use Rattle.session_model.specs.Asking.{Asked, asked, response, list_response}

-- ---- one request

abbrev pub text_for : Request → Response → List ℕ
text_for q r = text_of r q.close (is_head_only q)

-- a call is answered as the repository answers it at h, which may be by want of memory
pub record AnswersCall (replies : Relation) (header : Header) (who : ℕ) (h : List Entry) (call : Call) (q : Request) (out : List ℕ) (after : List Entry) : Type 0 where
  pub answer : Answer
  pub answered : replies header h who call answer after
  pub text : out ≡ text_for q (response call answer)

pub record AnswersAlone (h : List Entry) (q : Request) (r : Response) (out : List ℕ) (after : List Entry) : Type 0 where
  pub same : after ≡ h
  pub text : out ≡ text_for q r

-- a list is answered by its calls, in their order, up to the first that isn't granted, and is told what came of that or of the last
pub record AnswersList (answering : Answering) (header : Header) (who : ℕ) (h : List Entry) (calls : List Call) (q : Request) (out : List ℕ) (after : List Entry) : Type 0 where
  pub at : ℕ
  pub answer : Answer
  pub chained : Chained answering header who h calls at answer after
  pub text : out ≡ text_for q (list_response chained.call at answer)

abbrev pub AnswersAsked : Answering → Header → ℕ → List Entry → Asked → Request → List ℕ → List Entry → Type 0
AnswersAsked answering header who h (asking.Calls call) q out after = AnswersCall answering.replies header who h call q out after
AnswersAsked answering header who h (asking.Lists calls) q out after = AnswersList answering header who h calls q out after
AnswersAsked answering header who h (asking.Fails r) q out after = AnswersAlone h q r out after

-- where there is no memory to tell what is asked for, that is told, and nothing changes
abbrev pub Answers : Answering → Header → ℕ → List Entry → Request → List ℕ → List Entry → Type 0
Answers answering header who h q out after = AnswersAsked answering header who h (asked q) q out after ⊎ AnswersAlone h q memory out after

-- ---- a session

abbrev pub Serves : Answering → Header → ℕ → List Entry → List Request → List (List ℕ) → List Entry → Type 0
Serves answering header who h [] [] after = after ≡ h
Serves answering header who h (q ∷ requests) (text ∷ texts) after = (between : List Entry) × Answers answering header who h q text between × Serves answering header who between requests texts after
Serves answering header who h [] (text ∷ texts) after = ⊥
Serves answering header who h (q ∷ requests) [] after = ⊥

abbrev pub status_for : HeadRefusal → Status
status_for refusals.HeadTooLarge = HeaderFieldsTooLarge
status_for refusals.BadHead = BadRequest
status_for refusals.TooManyHeaders = HeaderFieldsTooLarge
status_for refusals.TransferEncoding = NotImplemented
status_for refusals.BadLength = BadRequest
status_for refusals.NoLength = LengthRequired
status_for refusals.BodyTooLarge = ContentTooLarge

abbrev pub closing : HeadRefusal → List ℕ
closing refusal = text_of (of_code (status_for refusal) (code_of refusal)) true false

abbrev pub closing_memory : List ℕ
closing_memory = text_of memory true false

-- what is written after the answers
abbrev pub Closes : List ℕ → List Request → End → List (List ℕ) → Type 0
Closes s requests Ended last = last ≡ []
Closes s requests Closed last = last ≡ []
Closes s requests (Cut read) last = last ≡ []
Closes s requests (Refused status) last = (refusal : HeadRefusal) × Leaves s requests (Refuses refusal) × (status_of refusal ≡ status) × (last ≡ closing refusal ∷ [])
Closes s requests Spent last = last ≡ []

pub record Session (answering : Answering) (header : Header) (who : ℕ) (h : List Entry) (s out : List ℕ) (after : List Entry) (end : End) : Type 0 where
  pub requests : List Request
  pub told : Requests s requests end
  pub texts : List (List ℕ)
  pub serves : Serves answering header who h requests texts after
  pub last : List (List ℕ)
  pub closes : Closes s requests end last
  pub out_is : out ≡ concat (texts ++ last)

-- ---- a link that failed

-- these requests were taken, the last of which may end the session
abbrev pub Took : List ℕ → List Request → Type 0
Took s requests =
    ((rest : List ℕ) × Takes s requests rest)
    ⊎ ((before : List Request) × (last : Request) × (rest : List ℕ) × (requests ≡ before ++ last ∷ []) × Leaves s before (Whole last rest))

-- of these texts all went out, or all before one and a front of it
abbrev pub CutOff : List (List ℕ) → List ℕ → Type 0
CutOff texts out =
    (out ≡ concat texts)
    ⊎ ((before : List (List ℕ)) × (text front : List ℕ) × (texts ≡ before ++ text ∷ []) × IsPrefix front text × (out ≡ concat before ++ front))

-- the closing text, once it was begun
abbrev pub MayClose : List ℕ → List Request → List (List ℕ) → Type 0
MayClose s requests last =
    (last ≡ []) ⊎ ((refusal : HeadRefusal) × Leaves s requests (Refuses refusal) × (last ≡ closing refusal ∷ [])) ⊎ ((s ≡ []) × (requests ≡ []) × (last ≡ closing_memory ∷ []))

pub record Broken (answering : Answering) (header : Header) (who : ℕ) (h : List Entry) (s out : List ℕ) (after : List Entry) : Type 0 where
  pub requests : List Request
  pub took : Took s requests
  pub few : length s ≤ most_read
  pub texts : List (List ℕ)
  pub serves : Serves answering header who h requests texts after
  pub last : List (List ℕ)
  pub closes : MayClose s requests last
  pub cut : CutOff (texts ++ last) out
