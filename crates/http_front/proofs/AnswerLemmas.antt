-- The answer to a request, from what the seat replied.
use Rattle.std.proofs.Common.{◌≡◌, ◌≤◌, ◌-◌, ◌⊎◌, ℕ, Bool, List, [], ◌∷◌, length, Option, Some, None, Ok, Err, arith, refl, sym, ap, subst, ◌∙◌, inl, inr}
use Rattle.std.proofs.lemmas.List.{length-map}
use Rattle.history_model.specs.History.{Entry}
use Rattle.history_model.specs.Journal.{Header}
use Rattle.reply_model.specs.Reply as reply
use Rattle.reply_model.specs.Log.{LogLine, line_of, lines_of}
use Rattle.reply_model.specs.After.{Relation, Call, Answer, Asks, Looks, Shows, Memory}
use Rattle.repo_calls.specs.declared.log.LogEntry.{LogEntry}
use Rattle.repo_calls.specs.declared.ask.Ask.{Ask}
use Rattle.repo_calls.specs.declared.ask.Ask.TheVariants as asks
use Rattle.repo_calls.specs.declared.refusal.Refusal as calls
use Rattle.repo_calls.specs.declared.refusal.Refusal.TheVariants as refusals
use Rattle.repo_calls.specs.Calls.{call_seen, refused, line_seen, lines_seen}
use Rattle.repo_calls.specs.declared.calls.AskFault.{AskFault}
use Rattle.repo_calls.specs.declared.calls.Question.{Question}
use Rattle.repo_calls.specs.declared.calls.Question.TheVariants as questions
use Rattle.repo_calls.specs.declared.calls.Seen.{Seen}
use Rattle.repo_calls.specs.declared.calls.Seen.TheVariants as seen
use Rattle.repo_calls.specs.Asking.{fault_answer, question_seen, copies_seen, IsAnswer}
use Rattle.repo_calls.specs.Replying as replying
use Rattle.repo_calls.specs.Replying.{MakesNothing, SeenKind, HeadKind, BytesKind, PageKind, IdsKind, CopiesKind, kind_of, IsReplying}
use Rattle.stacked_calls.specs.Chain.{Answering}
use Rattle.session_model.specs.declared.status.Status.TheVariants.{Fine}
use Rattle.session_model.specs.Responses.{Response, text_of}
use Rattle.session_model.specs.Bodies.{json, octets, log_body, memory}
use Rattle.http_model.specs.Stream.{Request, is_head_only}
use Rattle.session_model.specs.Asking as model
use Rattle.session_model.specs.Asking.{asked, change_response, read_response, response}
use Rattle.session_model.specs.Session.{Answers, AnswersAsked}
use Rattle.routes.specs.declared.route_refusal.RouteRefusal.{RouteRefusal}
use Rattle.routes.specs.declared.route_refusal.RouteRefusal.TheVariants as route_refusals
use Rattle.routes.specs.Failed.{failed, unless_memory}
use Rattle.repo_text.specs.Refusing.{response_to}
use Rattle.repo_text.proofs.Answered.{change_response-refused}
use Rattle.http_front.specs.Answered.{IsPut, Replied, RepliedAll}
use Rattle.http_front.specs.Reading as reading
use Rattle.http_front.specs.Reading.{seen_response, Suits, SuitsKind}
use Rattle.http_front.proofs.Uploads.{content_is_body}

-- a refusal makes nothing
pub makes_nothing : (refusal : calls.Refusal) → MakesNothing (refused refusal)
makes_nothing refusals.Down = tt
makes_nothing (refusals.TooLong n) = tt
makes_nothing (refusals.BadEncoding at) = tt
makes_nothing (refusals.SelfConflict short long) = tt
makes_nothing (refusals.BadParts n) = tt
makes_nothing refusals.OldFormat = tt
makes_nothing (refusals.NoPiece x) = tt
makes_nothing (refusals.NotAPiece x) = tt
makes_nothing (refusals.NoParent x) = tt
makes_nothing (refusals.NoContent p x) = tt
makes_nothing (refusals.WrongSize p wanted found) = tt
makes_nothing (refusals.Unresolved p) = tt
makes_nothing (refusals.Collision x) = tt
makes_nothing (refusals.NoChangeset x) = tt
makes_nothing (refusals.Moved found) = tt
makes_nothing refusals.NoBookmark = tt
makes_nothing refusals.NoRoot = tt
makes_nothing (refusals.TooFarBehind n) = tt
makes_nothing refusals.AlreadyIn = tt
makes_nothing (refusals.StackTooLong n) = tt
makes_nothing (refusals.MergeInStack x) = tt
makes_nothing (refusals.MergeInRange x) = tt
makes_nothing (refusals.Denied place rule) = tt
makes_nothing (refusals.Clash left right) = tt
makes_nothing (refusals.TooLarge n) = tt
makes_nothing (refusals.BadPolicy line) = tt
makes_nothing (refusals.Full size n) = tt
makes_nothing refusals.Memory = tt

-- a refusal is put as its response, or as want of memory
pub refusal_put : (refusal : calls.Refusal) (call : Call) (close head_only : Bool) (text : List ℕ)
    → ((text ≡ text_of (response_to refusal) close head_only) ⊎ (text ≡ text_of memory close head_only))
    → IsPut (refused refusal) (change_response call (refused refusal)) close head_only text
refusal_put refusal call close head_only text (inl e) = inl (e ∙ ap (λ r. text_of r close head_only) (sym (change_response-refused call refusal)))
refusal_put refusal call close head_only text (inr e) = inr (makes_nothing refusal, e)

lines-shorten : (entries : List Entry) → length (lines_of entries) ≤ length entries
lines-shorten [] = omega arith
lines-shorten (e ∷ entries) = shorter e entries (line_of e.body) refl (lines-shorten entries)
  where
    shorter : (e : Entry) (entries : List Entry) (o : Option LogLine) → line_of e.body ≡ o → length (lines_of entries) ≤ length entries → length (lines_of (e ∷ entries)) ≤ length (e ∷ entries)
    shorter e entries None is less = rw is (omega arith)
    shorter e entries (Some line) is less = rw is (omega arith)

page_suits : (lines : List LogEntry) (entries : List Entry) (most : ℕ) → lines_seen lines ≡ lines_of entries → length entries ≤ most → length lines ≤ most
page_suits lines entries most same few =
    let short = lines-shorten entries in
    let all : length lines ≡ length (lines_of entries) = sym (length-map lines line_seen) ∙ ap length same in
    omega arith

-- what is seen is what was asked for
suits_head : (s : Seen) (answer : Answer) → IsAnswer (Ok s) answer → ((x : reply.Seen) → answer ≡ Shows x → replying.IsHead x) → reading.IsHead s
suits_head (seen.Head head) answer is shown = tt
suits_head (seen.Bytes bytes) answer is shown = shown (reply.SeenBytes bytes.items) is
suits_head (seen.Log page) answer is shown = shown (reply.SeenLog is.0 page.total) is.1
suits_head (seen.Ids ids) answer is shown = shown (reply.SeenIds ids.items) is
suits_head (seen.Copies copies) answer is shown = shown (reply.SeenCopies (copies_seen copies.items)) is

suits_bytes : (s : Seen) (answer : Answer) → IsAnswer (Ok s) answer → ((x : reply.Seen) → answer ≡ Shows x → replying.AreBytes x) → reading.AreBytes s
suits_bytes (seen.Head head) answer is shown = shown (reply.SeenHead head) is
suits_bytes (seen.Bytes bytes) answer is shown = tt
suits_bytes (seen.Log page) answer is shown = shown (reply.SeenLog is.0 page.total) is.1
suits_bytes (seen.Ids ids) answer is shown = shown (reply.SeenIds ids.items) is
suits_bytes (seen.Copies copies) answer is shown = shown (reply.SeenCopies (copies_seen copies.items)) is

suits_page : (from : ℕ) (s : Seen) (answer : Answer) → IsAnswer (Ok s) answer → ((x : reply.Seen) → answer ≡ Shows x → replying.IsPageFrom from x) → reading.IsPageFrom from s
suits_page from (seen.Head head) answer is shown = shown (reply.SeenHead head) is
suits_page from (seen.Bytes bytes) answer is shown = shown (reply.SeenBytes bytes.items) is
suits_page from (seen.Log page) answer is shown = page_suits page.entries.items is.0 (page.total - from) is.2 (shown (reply.SeenLog is.0 page.total) is.1)
suits_page from (seen.Ids ids) answer is shown = shown (reply.SeenIds ids.items) is
suits_page from (seen.Copies copies) answer is shown = shown (reply.SeenCopies (copies_seen copies.items)) is

suits_ids : (s : Seen) (answer : Answer) → IsAnswer (Ok s) answer → ((x : reply.Seen) → answer ≡ Shows x → replying.AreIds x) → reading.AreIds s
suits_ids (seen.Head head) answer is shown = shown (reply.SeenHead head) is
suits_ids (seen.Bytes bytes) answer is shown = shown (reply.SeenBytes bytes.items) is
suits_ids (seen.Log page) answer is shown = shown (reply.SeenLog is.0 page.total) is.1
suits_ids (seen.Ids ids) answer is shown = tt
suits_ids (seen.Copies copies) answer is shown = shown (reply.SeenCopies (copies_seen copies.items)) is

suits_copies : (s : Seen) (answer : Answer) → IsAnswer (Ok s) answer → ((x : reply.Seen) → answer ≡ Shows x → replying.AreCopies x) → reading.AreCopies s
suits_copies (seen.Head head) answer is shown = shown (reply.SeenHead head) is
suits_copies (seen.Bytes bytes) answer is shown = shown (reply.SeenBytes bytes.items) is
suits_copies (seen.Log page) answer is shown = shown (reply.SeenLog is.0 page.total) is.1
suits_copies (seen.Ids ids) answer is shown = shown (reply.SeenIds ids.items) is
suits_copies (seen.Copies copies) answer is shown = tt

suits : (kind : SeenKind) (s : Seen) (answer : Answer) → IsAnswer (Ok s) answer → ((x : reply.Seen) → answer ≡ Shows x → replying.IsOfKind kind x) → SuitsKind kind s
suits HeadKind s answer is shown = suits_head s answer is shown
suits BytesKind s answer is shown = suits_bytes s answer is shown
suits (PageKind from) s answer is shown = suits_page from s answer is shown
suits IdsKind s answer is shown = suits_ids s answer is shown
suits CopiesKind s answer is shown = suits_copies s answer is shown

-- a read that is answered by bytes as they are
answers_bytes : (question : Question) (s : Seen) (answer : Answer) → ((bytes : List ℕ) → read_response (question_seen question) (Shows (reply.SeenBytes bytes)) ≡ octets bytes)
    → IsAnswer (Ok s) answer → reading.AreBytes s → read_response (question_seen question) answer ≡ seen_response question s
answers_bytes question (seen.Head head) answer as_octets is suits = absurd suits
answers_bytes question (seen.Bytes bytes) answer as_octets is suits = ap (read_response (question_seen question)) is ∙ as_octets bytes.items
answers_bytes question (seen.Log page) answer as_octets is suits = absurd suits
answers_bytes question (seen.Ids ids) answer as_octets is suits = absurd suits
answers_bytes question (seen.Copies copies) answer as_octets is suits = absurd suits

response_is : (question : Question) (s : Seen) (answer : Answer) → IsAnswer (Ok s) answer → Suits question s → read_response (question_seen question) answer ≡ seen_response question s
response_is (questions.Head name) (seen.Head head) answer is suits = ap (read_response (question_seen (questions.Head name))) is
response_is (questions.Head name) (seen.Bytes bytes) answer is suits = absurd suits
response_is (questions.Head name) (seen.Log page) answer is suits = absurd suits
response_is (questions.Head name) (seen.Ids ids) answer is suits = absurd suits
response_is (questions.Head name) (seen.Copies copies) answer is suits = absurd suits
response_is (questions.Content id) s answer is suits = answers_bytes (questions.Content id) s answer (λ bytes. refl) is suits
response_is (questions.Changeset id) s answer is suits = answers_bytes (questions.Changeset id) s answer (λ bytes. refl) is suits
response_is (questions.Log from) (seen.Head head) answer is suits = absurd suits
response_is (questions.Log from) (seen.Bytes bytes) answer is suits = absurd suits
response_is (questions.Log from) (seen.Log page) answer is suits = ap (read_response (question_seen (questions.Log from))) is.1 ∙ ap (λ lines. json Fine (log_body from lines page.total)) (sym is.2)
response_is (questions.Log from) (seen.Ids ids) answer is suits = absurd suits
response_is (questions.Log from) (seen.Copies copies) answer is suits = absurd suits
response_is (questions.Fsnode id dir) s answer is suits = answers_bytes (questions.Fsnode id dir) s answer (λ bytes. refl) is suits
response_is (questions.Unode id path) s answer is suits = answers_bytes (questions.Unode id path) s answer (λ bytes. refl) is suits
response_is (questions.History id path) (seen.Head head) answer is suits = absurd suits
response_is (questions.History id path) (seen.Bytes bytes) answer is suits = absurd suits
response_is (questions.History id path) (seen.Log page) answer is suits = absurd suits
response_is (questions.History id path) (seen.Ids ids) answer is suits = ap (read_response (question_seen (questions.History id path))) is
response_is (questions.History id path) (seen.Copies copies) answer is suits = absurd suits
response_is (questions.Copies id) (seen.Head head) answer is suits = absurd suits
response_is (questions.Copies id) (seen.Bytes bytes) answer is suits = absurd suits
response_is (questions.Copies id) (seen.Log page) answer is suits = absurd suits
response_is (questions.Copies id) (seen.Ids ids) answer is suits = absurd suits
response_is (questions.Copies id) (seen.Copies copies) answer is suits = ap (read_response (question_seen (questions.Copies id))) is
response_is (questions.PathLog id path) (seen.Head head) answer is suits = absurd suits
response_is (questions.PathLog id path) (seen.Bytes bytes) answer is suits = absurd suits
response_is (questions.PathLog id path) (seen.Log page) answer is suits = absurd suits
response_is (questions.PathLog id path) (seen.Ids ids) answer is suits = ap (read_response (question_seen (questions.PathLog id path))) is
response_is (questions.PathLog id path) (seen.Copies copies) answer is suits = absurd suits
response_is (questions.Deleted id dir) s answer is suits = answers_bytes (questions.Deleted id dir) s answer (λ bytes. refl) is suits
response_is (questions.Policy number) s answer is suits = answers_bytes (questions.Policy number) s answer (λ bytes. refl) is suits

-- what answers a change is the response to its call
response_to_change : (ask : Ask) (answer : Answer) → change_response (call_seen ask) answer ≡ response (call_seen ask) answer
response_to_change (asks.PutContent bytes) answer = refl
response_to_change (asks.PutWhole body) answer = refl
response_to_change (asks.PutChangeset bytes) answer = refl
response_to_change (asks.SetBookmark caller name from to) answer = refl
response_to_change (asks.Land caller name draft moment) answer = refl
response_to_change (asks.SetPolicy caller text) answer = refl

shows_nothing : (s : Seen) (answer : Answer) → IsAnswer (Ok s) answer → MakesNothing answer
shows_nothing (seen.Head head) answer is = subst MakesNothing (sym is) tt
shows_nothing (seen.Bytes bytes) answer is = subst MakesNothing (sym is) tt
shows_nothing (seen.Log page) answer is = subst MakesNothing (sym is.1) tt
shows_nothing (seen.Ids ids) answer is = subst MakesNothing (sym is) tt
shows_nothing (seen.Copies copies) answer is = subst MakesNothing (sym is) tt

module _ (replies : Relation) (lawful : IsReplying replies) (header : Header) (h : List Entry) (who : ℕ) (after : List Entry) where
  -- a change is answered by the response that is put
  pub put_answers : (call : Call) (answer : Answer) (close head_only : Bool) (text : List ℕ)
      → replies header h who call answer after → IsPut answer (change_response call answer) close head_only text → Replied replies header who h call (change_response call) close head_only text after
  put_answers call answer close head_only text answered (inl e) = record { answer = answer; answered = answered; text = e }
  put_answers call answer close head_only text answered (inr (none, e)) =
      record { answer = Memory; answered = lawful.memory header h who call answer after none answered; text = e }

  -- what is seen is what was asked for
  pub seen_suits : (question : Question) (s : Seen) (answer : Answer) → IsAnswer (Ok s) answer → replies header h who (Looks (question_seen question)) answer after → Suits question s
  seen_suits question s answer is answered =
      suits (kind_of (question_seen question)) s answer is (λ x e. lawful.shown header h who (question_seen question) x after (subst (λ a. replies header h who (Looks (question_seen question)) a after) e answered))

  -- a read that sees something is answered by that, or by want of memory
  pub seen_answers : (question : Question) (s : Seen) (answer : Answer) (close head_only : Bool) (text : List ℕ)
      → IsAnswer (Ok s) answer → replies header h who (Looks (question_seen question)) answer after
      → ((text ≡ text_of (seen_response question s) close head_only) ⊎ (text ≡ text_of memory close head_only))
      → Replied replies header who h (Looks (question_seen question)) (read_response (question_seen question)) close head_only text after
  seen_answers question s answer close head_only text is answered (inl e) =
      let same = response_is question s answer is (seen_suits question s answer is answered) in
      record { answer = answer; answered = answered; text = e ∙ ap (λ r. text_of r close head_only) (sym same) }
  seen_answers question s answer close head_only text is answered (inr e) =
      record { answer = Memory; answered = lawful.memory header h who (Looks (question_seen question)) answer after (shows_nothing s answer is) answered; text = e }

module _ (replies : Relation) (header : Header) (h : List Entry) (who : ℕ) where
  -- a read that sees nothing is answered by why
  pub fault_answers : (question : Question) (fault : AskFault) (answer : Answer) (close head_only : Bool) (text : List ℕ) (after : List Entry)
      → IsAnswer (Err fault) answer → replies header h who (Looks (question_seen question)) answer after
      → ((q : reply.Question) → text ≡ text_of (read_response q (fault_answer fault)) close head_only)
      → Replied replies header who h (Looks (question_seen question)) (read_response (question_seen question)) close head_only text after
  fault_answers question fault answer close head_only text after is answered e =
      record { answer = answer; answered = answered; text = e (question_seen question) ∙ ap (λ a. text_of (read_response (question_seen question) a) close head_only) (sym is) }

module _ (answering : Answering) (header : Header) (h : List Entry) (who : ℕ) where
  -- a request is answered by the change that it asks for
  pub change_answers : (q : Request) (ask : Ask) (text : List ℕ) (after : List Entry) → asked q ≡ model.Calls (call_seen ask)
      → Replied answering.replies header who h (call_seen ask) (change_response (call_seen ask)) q.close (is_head_only q) text after → Answers answering header who h q text after
  change_answers q ask text after is r =
      let same = r.text ∙ ap (λ x. text_of x q.close (is_head_only q)) (response_to_change ask r.answer) in
      inl (subst (λ b. AnswersAsked answering header who h b q text after) (sym is) (record { answer = r.answer; answered = r.answered; text = same }))

  -- or by a content, where it's the body that is stored
  pub content_answers : (q : Request) (bytes : List ℕ) (text : List ℕ) (after : List Entry) → asked q ≡ model.Calls (Asks (reply.PutContent bytes))
      → Replied answering.replies header who h (Asks (reply.PutContent q.body)) (change_response (Asks (reply.PutContent q.body))) q.close (is_head_only q) text after → Answers answering header who h q text after
  content_answers q bytes text after asks r =
      let stored = asks ∙ ap (λ b. model.Calls (Asks (reply.PutContent b))) (content_is_body q bytes asks) in
      inl (subst (λ b. AnswersAsked answering header who h b q text after) (sym stored) (record { answer = r.answer; answered = r.answered; text = r.text }))

  -- or by the read
  pub read_answers : (q : Request) (question : reply.Question) (text : List ℕ) (after : List Entry) → asked q ≡ model.Calls (Looks question)
      → Replied answering.replies header who h (Looks question) (read_response question) q.close (is_head_only q) text after → Answers answering header who h q text after
  read_answers q question text after asks r = inl (subst (λ b. AnswersAsked answering header who h b q text after) (sym asks) (record { answer = r.answer; answered = r.answered; text = r.text }))

  -- or by the calls of a list
  pub list_answers : (q : Request) (calls : List Call) (text : List ℕ) (after : List Entry) → asked q ≡ model.Lists calls → RepliedAll answering header who h calls q.close (is_head_only q) text after → Answers answering header who h q text after
  list_answers q calls text after asks r =
      inl (subst (λ b. AnswersAsked answering header who h b q text after) (sym asks) (record { at = r.at; answer = r.answer; chained = r.chained; text = r.text }))

  fails_by : (q : Request) (r : Response) (text : List ℕ) → asked q ≡ model.Fails r → text ≡ text_of r q.close (is_head_only q) → Answers answering header who h q text h
  fails_by q r text asks e = inl (subst (λ b. AnswersAsked answering header who h b q text h) (sym asks) (record { same = refl; text = e }))

  -- a request that asks for nothing is answered by why
  pub route_refusal_answers : (q : Request) (refusal : RouteRefusal) (text : List ℕ)
      → unless_memory refusal (asked q ≡ model.Fails (failed refusal)) → text ≡ text_of (failed refusal) q.close (is_head_only q) → Answers answering header who h q text h
  route_refusal_answers q route_refusals.BadTarget text asks e = fails_by q (failed route_refusals.BadTarget) text asks e
  route_refusal_answers q route_refusals.NoRoute text asks e = fails_by q (failed route_refusals.NoRoute) text asks e
  route_refusal_answers q (route_refusals.Method m) text asks e = fails_by q (failed (route_refusals.Method m)) text asks e
  route_refusal_answers q (route_refusals.BadName at) text asks e = fails_by q (failed (route_refusals.BadName at)) text asks e
  route_refusal_answers q (route_refusals.BadId at) text asks e = fails_by q (failed (route_refusals.BadId at)) text asks e
  route_refusal_answers q (route_refusals.BadPath at) text asks e = fails_by q (failed (route_refusals.BadPath at)) text asks e
  route_refusal_answers q route_refusals.BadNumber text asks e = fails_by q (failed route_refusals.BadNumber) text asks e
  route_refusal_answers q (route_refusals.BadList at) text asks e = fails_by q (failed (route_refusals.BadList at)) text asks e
  route_refusal_answers q route_refusals.BadCaller text asks e = fails_by q (failed route_refusals.BadCaller) text asks e
  route_refusal_answers q route_refusals.Memory text asks e = inr (record { same = refl; text = e })
