-- A landing that is made at a moment that the clock tells answers one at a moment that is left open.
use Rattle.std.proofs.Common.{◌≡◌, ℕ, Bool, List, refl, ap, subst, ◌∙◌}
use Rattle.history_model.specs.History.{Entry}
use Rattle.history_model.specs.Journal.{Header}
use Rattle.reply_model.specs.After.{Relation, Call, Asks, Joins, Looks, Derives, Answer, Grants, Refuses, Shows, Lacks, Roots, DiskFault, ReadFault, BadBytes, NodeCollision, Memory}
use Rattle.reply_model.specs.Reply.{PutContent, PutWhole, PutChangeset, SetBookmark, LandDraft, SetPolicy, Granted, ContentPut, WholePut, ChangesetPut, BookmarkSet, Landed, PolicySet, Question}
use Rattle.session_model.specs.Responses.{text_of}
use Rattle.session_model.specs.Asking.{granted, change_response, read_response}
use Rattle.session_model.specs.Dating.{Dated}
use Rattle.http_front.specs.Answered.{Replied}
use Rattle.http_front.specs.Dating.{IsDated}

-- the body of a landing's response doesn't tell when it was
pub granted_at : (caller name draft : List ℕ) (t u : ℕ) (g : Granted) → granted (Asks (LandDraft caller name draft t)) g ≡ granted (Asks (LandDraft caller name draft u)) g
granted_at caller name draft t u (ContentPut x) = refl
granted_at caller name draft t u (WholePut x n) = refl
granted_at caller name draft t u (ChangesetPut x) = refl
granted_at caller name draft t u BookmarkSet = refl
granted_at caller name draft t u (Landed old ids) = refl
granted_at caller name draft t u (PolicySet n) = refl

response_at : (caller name draft : List ℕ) (t u : ℕ) (answer : Answer) → change_response (Asks (LandDraft caller name draft t)) answer ≡ change_response (Asks (LandDraft caller name draft u)) answer
response_at caller name draft t u (Grants g) = granted_at caller name draft t u g
response_at caller name draft t u (Refuses refusal) = refl
response_at caller name draft t u (Shows seen) = refl
response_at caller name draft t u (Lacks absent) = refl
response_at caller name draft t u (Roots fs un gone) = refl
response_at caller name draft t u DiskFault = refl
response_at caller name draft t u ReadFault = refl
response_at caller name draft t u (BadBytes wanted found) = refl
response_at caller name draft t u (NodeCollision x) = refl
response_at caller name draft t u Memory = refl

module _ (tells : ℕ → Type 0) (replies : Relation) (header : Header) (who : ℕ) (h : List Entry) (close head_only : Bool) (text : List ℕ) (after : List Entry) where
  abbrev pub Made : Call → Type 0
  Made call = Replied replies header who h call (change_response call) close head_only text after

  abbrev pub MadeDated : Call → Type 0
  MadeDated call = Replied (Dated tells replies) header who h call (change_response call) close head_only text after

  pub dated_change : (call made : Call) → IsDated tells call made → Made made → MadeDated call
  dated_change (Asks (PutContent bytes)) made is r =
      let same = subst Made is r in
      record { answer = same.answer; answered = same.answered; text = same.text }
  dated_change (Asks (PutWhole body pieces)) made is r =
      let same = subst Made is r in
      record { answer = same.answer; answered = same.answered; text = same.text }
  dated_change (Asks (PutChangeset bytes)) made is r =
      let same = subst Made is r in
      record { answer = same.answer; answered = same.answered; text = same.text }
  dated_change (Asks (SetBookmark caller name from to)) made is r =
      let same = subst Made is r in
      record { answer = same.answer; answered = same.answered; text = same.text }
  dated_change (Asks (LandDraft caller name draft asked)) made is r =
      let same = subst Made is.2 r in
      record {
        answer = same.answer;
        answered = (is.0, is.1, same.answered);
        text = same.text ∙ ap (λ response. text_of response close head_only) (response_at caller name draft is.0 asked same.answer);
      }
  dated_change (Asks (SetPolicy caller text)) made is r =
      let same = subst Made is r in
      record { answer = same.answer; answered = same.answered; text = same.text }
  dated_change (Joins body) made is r =
      let same = subst Made is r in
      record { answer = same.answer; answered = same.answered; text = same.text }
  dated_change (Looks question) made is r =
      let same = subst Made is r in
      record { answer = same.answer; answered = same.answered; text = same.text }
  dated_change (Derives x) made is r =
      let same = subst Made is r in
      record { answer = same.answer; answered = same.answered; text = same.text }

  pub dated_read : (question : Question) → Replied replies header who h (Looks question) (read_response question) close head_only text after
      → Replied (Dated tells replies) header who h (Looks question) (read_response question) close head_only text after
  dated_read question r = record { answer = r.answer; answered = r.answered; text = r.text }
