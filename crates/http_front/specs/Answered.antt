-- How a call is answered, and in which form: whether the session ends after it, and whether its head goes out alone.
--     Replied replies header who h call respond close head_only out after      the call is answered at h as the repository answers it
--     RepliedAll answering header who h calls close head_only out after      the calls are answered at h as the repository answers a list
--     IsPut answer response close head_only out      the response to this answer goes out, or that there was no memory to make it, where the answer made nothing
use Rattle.std.specs.Prelude.{◌≡◌, ◌⊎◌, ℕ, Bool, List}
use Rattle.history_model.specs.History.{Entry}
use Rattle.history_model.specs.Journal.{Header}
use Rattle.reply_model.specs.After.{Relation, Answer, Call}
use Rattle.repo_calls.specs.Replying.{MakesNothing}
use Rattle.stacked_calls.specs.Chain.{Answering, Chained}
use Rattle.session_model.specs.Bodies.{memory}
use Rattle.session_model.specs.Responses.{Response, text_of}
use Rattle.session_model.specs.Asking.{list_response}

pub record Replied (replies : Relation) (header : Header) (who : ℕ) (h : List Entry) (call : Call) (respond : Answer → Response) (close head_only : Bool) (out : List ℕ) (after : List Entry) : Type 0 where
  pub answer : Answer
  pub answered : replies header h who call answer after
  pub text : out ≡ text_of (respond answer) close head_only

pub record RepliedAll (answering : Answering) (header : Header) (who : ℕ) (h : List Entry) (calls : List Call) (close head_only : Bool) (out : List ℕ) (after : List Entry) : Type 0 where
  pub at : ℕ
  pub answer : Answer
  pub chained : Chained answering header who h calls at answer after
  pub text : out ≡ text_of (list_response chained.call at answer) close head_only

abbrev pub IsPut : Answer → Response → Bool → Bool → List ℕ → Type 0
IsPut answer response close head_only out = (out ≡ text_of response close head_only) ⊎ (MakesNothing answer × (out ≡ text_of memory close head_only))
