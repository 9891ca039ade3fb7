-- The answer to a list of changes, from what the seat replied.
use Rattle.std.proofs.Common.{◌≡◌, ◌≢◌, ◌⊎◌, ◌<◌, ℕ, Bool, List, [], ◌∷◌, ◌++◌, length, Ok, Err, arith, refl, sym, ap, subst, ◌∙◌, inl, inr, append_assoc}
use Rattle.std.proofs.lemmas.List.{map-append}
use Rattle.stacked_calls.proofs.Stacking.{granted_wider}
use Rattle.history_model.specs.History.{Entry}
use Rattle.history_model.specs.Journal.{Header}
use Rattle.reply_model.specs.Reply.{Granted, LandDraft, PutChangeset, PutContent, PutWhole, SetBookmark, SetPolicy}
use Rattle.reply_model.specs.After.{Relation, Call, Asks, Joins, Looks, Derives, Answer, Grants, Refuses, Shows, Lacks, Roots, DiskFault, ReadFault, BadBytes, NodeCollision, Memory}
use Rattle.repo_calls.specs.declared.ask.Ask.{Ask}
use Rattle.repo_calls.specs.declared.ask.Granted as calls
use Rattle.repo_calls.specs.declared.calls.ChangeFault.{ChangeFault}
use Rattle.repo_calls.specs.declared.refusal.Refusal.{Refusal}
use Rattle.repo_calls.specs.declared.refusal.Refusal.TheVariants as refusals
use Rattle.repo_calls.specs.Asking.{stored_answer}
use Rattle.repo_calls.specs.Calls.{call_seen, granted_seen, refused}
use Rattle.repo_calls.specs.Replying.{MakesNothing, Fits, IsReplying}
use Rattle.repo_text.specs.Refusing.{response_to}
use Rattle.session_model.specs.Bodies.{memory}
use Rattle.session_model.specs.Dating.{Dated, DatedAll}
use Rattle.session_model.specs.Stacks.{put, puts, placed}
use Rattle.session_model.specs.Responses.{text_of}
use Rattle.session_model.specs.Asking as model
use Rattle.session_model.specs.Asking.{list_response}
use Rattle.stacked_calls.specs.Chain.{Answering, IsNoGrant, OnWay, AreGranted, SeesOn, Chained}
use Rattle.stacked_calls.specs.Stacking.{calls_seen}
use Rattle.http_front.specs.Answered.{IsPut, RepliedAll}
use Rattle.http_front.specs.Dating.{IsDated, IsLastDated, IsStack}
use Rattle.http_front.proofs.AnswerLemmas.{makes_nothing}
use Rattle.http_front.proofs.Dating.{granted_at}

-- ---- texts

-- a refusal that isn't want of memory tells its place
pub refused_at : (call : Call) (at : ℕ) (refusal : Refusal) → refusal ≢ refusals.Memory → list_response call at (refused refusal) ≡ placed at (response_to refusal)
refused_at call at refusals.Down other = refl
refused_at call at (refusals.TooLong n) other = refl
refused_at call at (refusals.BadEncoding place) other = refl
refused_at call at (refusals.SelfConflict short long) other = refl
refused_at call at (refusals.BadParts n) other = refl
refused_at call at refusals.OldFormat other = refl
refused_at call at (refusals.NoPiece x) other = refl
refused_at call at (refusals.NotAPiece x) other = refl
refused_at call at (refusals.NoParent x) other = refl
refused_at call at (refusals.NoContent p x) other = refl
refused_at call at (refusals.WrongSize p wanted found) other = refl
refused_at call at (refusals.Unresolved p) other = refl
refused_at call at (refusals.Collision x) other = refl
refused_at call at (refusals.NoChangeset x) other = refl
refused_at call at (refusals.Moved found) other = refl
refused_at call at refusals.NoBookmark other = refl
refused_at call at refusals.NoRoot other = refl
refused_at call at (refusals.TooFarBehind n) other = refl
refused_at call at refusals.AlreadyIn other = refl
refused_at call at (refusals.StackTooLong n) other = refl
refused_at call at (refusals.MergeInStack x) other = refl
refused_at call at (refusals.MergeInRange x) other = refl
refused_at call at (refusals.Denied place rule) other = refl
refused_at call at (refusals.Clash left right) other = refl
refused_at call at (refusals.TooLarge n) other = refl
refused_at call at (refusals.BadPolicy line) other = refl
refused_at call at (refusals.Full size n) other = refl
refused_at call at refusals.Memory other = absurd (other refl)

-- a refusal is put with its place, or as want of memory
pub refusal_put_at : (refusal : Refusal) (call : Call) (at : ℕ) (close head_only : Bool) (text : List ℕ) → refusal ≢ refusals.Memory
    → ((text ≡ text_of (placed at (response_to refusal)) close head_only) ⊎ (text ≡ text_of memory close head_only))
    → IsPut (refused refusal) (list_response call at (refused refusal)) close head_only text
refusal_put_at refusal call at close head_only text other (inl e) = inl (e ∙ ap (λ r. text_of r close head_only) (sym (refused_at call at refusal other)))
refusal_put_at refusal call at close head_only text other (inr e) = inr (makes_nothing refusal, e)

-- the response doesn't tell when a landing was made
list_response_at : (caller name draft : List ℕ) (t u : ℕ) (at : ℕ) (answer : Answer) → list_response (Asks (LandDraft caller name draft t)) at answer ≡ list_response (Asks (LandDraft caller name draft u)) at answer
list_response_at caller name draft t u at (Grants g) = granted_at caller name draft t u g
list_response_at caller name draft t u at (Refuses refusal) = refl
list_response_at caller name draft t u at (Shows seen) = refl
list_response_at caller name draft t u at (Lacks absent) = refl
list_response_at caller name draft t u at (Roots fs un gone) = refl
list_response_at caller name draft t u at DiskFault = refl
list_response_at caller name draft t u at ReadFault = refl
list_response_at caller name draft t u at (BadBytes wanted found) = refl
list_response_at caller name draft t u at (NodeCollision x) = refl
list_response_at caller name draft t u at Memory = refl

module _ (tells : ℕ → Type 0) where
  same_response : (call made : Call) (at : ℕ) (answer : Answer) → IsDated tells call made → list_response made at answer ≡ list_response call at answer
  same_response (Asks (PutContent bytes)) made at answer is = ap (λ c. list_response c at answer) is
  same_response (Asks (PutWhole body pieces)) made at answer is = ap (λ c. list_response c at answer) is
  same_response (Asks (PutChangeset bytes)) made at answer is = ap (λ c. list_response c at answer) is
  same_response (Asks (SetBookmark caller name from to)) made at answer is = ap (λ c. list_response c at answer) is
  same_response (Asks (LandDraft caller name draft asked)) made at answer is = ap (λ c. list_response c at answer) is.2 ∙ list_response_at caller name draft is.0 asked at answer
  same_response (Asks (SetPolicy caller text)) made at answer is = ap (λ c. list_response c at answer) is
  same_response (Joins body) made at answer is = ap (λ c. list_response c at answer) is
  same_response (Looks question) made at answer is = ap (λ c. list_response c at answer) is
  same_response (Derives x) made at answer is = ap (λ c. list_response c at answer) is

  dated_answered : (replies : Relation) (header : Header) (h : List Entry) (who : ℕ) (call made : Call) (answer : Answer) (new : List Entry) → IsDated tells call made → replies header h who made answer new → Dated tells replies header h who call answer new
  dated_answered replies header h who (Asks (PutContent bytes)) made answer new is r = subst (λ c. replies header h who c answer new) is r
  dated_answered replies header h who (Asks (PutWhole body pieces)) made answer new is r = subst (λ c. replies header h who c answer new) is r
  dated_answered replies header h who (Asks (PutChangeset bytes)) made answer new is r = subst (λ c. replies header h who c answer new) is r
  dated_answered replies header h who (Asks (SetBookmark caller name from to)) made answer new is r = subst (λ c. replies header h who c answer new) is r
  dated_answered replies header h who (Asks (LandDraft caller name draft asked)) made answer new is r = (is.0, is.1, subst (λ c. replies header h who c answer new) is.2 r)
  dated_answered replies header h who (Asks (SetPolicy caller text)) made answer new is r = subst (λ c. replies header h who c answer new) is r
  dated_answered replies header h who (Joins body) made answer new is r = subst (λ c. replies header h who c answer new) is r
  dated_answered replies header h who (Looks question) made answer new is r = subst (λ c. replies header h who c answer new) is r
  dated_answered replies header h who (Derives x) made answer new is r = subst (λ c. replies header h who c answer new) is r

-- ---- lists

push_same : (xs ys : List Call) (x y : Call) → xs ++ x ∷ [] ≡ ys ++ y ∷ [] → (xs ≡ ys) × (x ≡ y)
push_same [] [] x y e = (refl, cc)
push_same [] (b ∷ []) x y e = absurd cc
push_same [] (b ∷ (d ∷ ys)) x y e = absurd cc
push_same (a ∷ []) [] x y e = absurd cc
push_same (a ∷ (b ∷ xs)) [] x y e = absurd cc
push_same (a ∷ xs) (b ∷ ys) x y e =
    let heads : a ≡ b = cc in
    let tails : xs ++ x ∷ [] ≡ ys ++ y ∷ [] = cc in
    let rest = push_same xs ys x y tails in
    ((λ i. heads i ∷ rest.0 i), rest.1)

-- where a list is cut before one of its elements: that is its last, or stands before its last
pub data Cut (es : List Call) (m : Call) (before : List Call) (call : Call) (after : List Call) : Type 0 where
  Last_cut : after ≡ [] → before ≡ es → call ≡ m → Cut es m before call after
  Earlier_cut : (between : List Call) → after ≡ between ++ m ∷ [] → es ≡ before ++ call ∷ between → Cut es m before call after

cut_of : (es : List Call) (m : Call) (before : List Call) (call : Call) (after : List Call) → before ++ call ∷ after ≡ es ++ m ∷ [] → Cut es m before call after
cut_of [] m [] call [] e = Last_cut refl refl cc
cut_of [] m [] call (d ∷ after) e = absurd cc
cut_of [] m (b ∷ []) call after e = absurd cc
cut_of [] m (b ∷ (d ∷ before)) call after e = absurd cc
cut_of (x ∷ es) m [] call after e =
    let tails : after ≡ es ++ m ∷ [] = cc in
    let heads : x ≡ call = cc in
    Earlier_cut es tails (ap (λ c. c ∷ es) heads)
cut_of (x ∷ es) m (b ∷ before) call after e =
    let heads : b ≡ x = cc in
    let tails : before ++ call ∷ after ≡ es ++ m ∷ [] = cc in
    behind heads (cut_of es m before call after tails)
  where
    behind : b ≡ x → Cut es m before call after → Cut (x ∷ es) m (b ∷ before) call after
    behind heads (Last_cut none same is) = Last_cut none (λ i. heads i ∷ same i) is
    behind heads (Earlier_cut between is split) = Earlier_cut between is (λ i. sym heads i ∷ split i)

-- ---- chains

-- the last of a list is granted
granted_last : (answering : Answering) (header : Header) (who : ℕ) (h : List Entry) (calls : List Call) (at : ℕ) (granted : Granted) (new : List Entry) → (chained : Chained answering header who h calls at (Grants granted) new) → calls ≡ chained.earlier ++ chained.call ∷ []
granted_last answering header who h calls at granted new chained = chained.calls_are ∙ ap (λ later. chained.earlier ++ chained.call ∷ later) (none chained.ends)
  where
    none : ((chained.later ≡ []) ⊎ IsNoGrant (Grants granted)) → chained.later ≡ []
    none (inl is) = is
    none (inr never) = absurd (never granted refl)

last_seen : (asks earlier : List Ask) (last : Ask) → asks ≡ earlier ++ last ∷ [] → calls_seen asks ≡ calls_seen earlier ++ call_seen last ∷ []
last_seen asks earlier last is = ap calls_seen is ∙ map-append call_seen earlier (last ∷ [])

-- the last that is asked for is the one that is granted
pub granted_is : (answering : Answering) (header : Header) (who : ℕ) (h : List Entry) (asks earlier : List Ask) (last : Ask) (at : ℕ) (granted : Granted) (new : List Entry) → asks ≡ earlier ++ last ∷ []
    → (chained : Chained answering header who h (calls_seen asks) at (Grants granted) new) → chained.call ≡ call_seen last
granted_is answering header who h asks earlier last at granted new is chained =
    (push_same chained.earlier (calls_seen earlier) chained.call (call_seen last) (sym (granted_last answering header who h (calls_seen asks) at granted new chained) ∙ last_seen asks earlier last is)).1

no_disk_fault : (answer : Answer) → MakesNothing answer → answer ≢ DiskFault
no_disk_fault answer nothing is = subst MakesNothing is nothing

-- what isn't granted and made nothing might be want of memory
pub chained_memory : (answering : Answering) → IsReplying answering.replies → (header : Header) (who : ℕ) (h : List Entry) (calls : List Call) (at : ℕ) (answer : Answer) (new : List Entry) → MakesNothing answer
    → Chained answering header who h calls at answer new → Chained answering header who h calls at Memory new
chained_memory answering lawful header who h calls at answer new nothing chained = record {
  earlier = chained.earlier;
  call = chained.call;
  later = chained.later;
  calls_are = chained.calls_are;
  at_is = chained.at_is;
  between = chained.between;
  granted = granted_wider (OnWay answering answer) (OnWay answering Memory) (record { each = by }) header who h chained.earlier chained.between chained.granted;
  then = chained.then;
  answered = lawful.memory header chained.between who chained.call answer chained.then nothing chained.answered;
  ends = inr (λ granted is. cc);
  sees = chained.sees;
}
  where
    by : (header : Header) (h : List Entry) (who : ℕ) (call : Call) (a : Answer) (new : List Entry) → OnWay answering answer header h who call a new → OnWay answering Memory header h who call a new
    by header h who call a new (inl r) = inl r
    by header h who call a new (inr e) = absurd (no_disk_fault answer nothing e.0)

-- ---- what is put

pub grant_fits : (answering : Answering) → IsReplying answering.replies → (header : Header) (who : ℕ) (h : List Entry) (asks earlier : List Ask) (last : Ask) (at : ℕ) (granted : Granted) (new : List Entry) → asks ≡ earlier ++ last ∷ []
    → Chained answering header who h (calls_seen asks) at (Grants granted) new → Fits (call_seen last) granted
grant_fits answering lawful header who h asks earlier last at granted new is chained =
    subst (λ call. Fits call granted) (granted_is answering header who h asks earlier last at granted new is chained) (lawful.fits header chained.between who chained.call granted chained.then chained.answered)

module _ (answering : Answering) (lawful : IsReplying answering.replies) (header : Header) (who : ℕ) (h : List Entry) (close head_only : Bool) (text : List ℕ) (new : List Entry) where
  pub grant_answers : (asks earlier : List Ask) (last : Ask) (at : ℕ) (granted : Granted) → asks ≡ earlier ++ last ∷ [] → Chained answering header who h (calls_seen asks) at (Grants granted) new
      → text ≡ text_of (model.granted (call_seen last) granted) close head_only → RepliedAll answering header who h (calls_seen asks) close head_only text new
  grant_answers asks earlier last at granted is chained e = record {
    at = at;
    answer = Grants granted;
    chained = chained;
    text = e ∙ ap (λ call. text_of (model.granted call granted) close head_only) (sym (granted_is answering header who h asks earlier last at granted new is chained));
  }

  pub fault_answers_at : (calls : List Call) (at : ℕ) (answer : Answer) → Chained answering header who h calls at answer new
      → ((call : Call) → IsPut answer (list_response call at answer) close head_only text) → RepliedAll answering header who h calls close head_only text new
  fault_answers_at calls at answer chained puts = by (puts chained.call)
    where
      by : IsPut answer (list_response chained.call at answer) close head_only text → RepliedAll answering header who h calls close head_only text new
      by (inl e) = record { at = at; answer = answer; chained = chained; text = e }
      by (inr e) = record { at = at; answer = Memory; chained = chained_memory answering lawful header who h calls at answer new e.0 chained; text = e.1 }

-- ---- the moment of the last

-- changesets are stored whenever a clock tells a landing's moment
dated_puts : (tells : ℕ → Type 0) (answering : Answering) (end : Answer) (header : Header) (who : ℕ) (h : List Entry) (changesets : List (List ℕ)) (new : List Entry) → AreGranted (OnWay answering end) header who h (puts changesets) new
    → AreGranted (OnWay (DatedAll tells answering) end) header who h (puts changesets) new
dated_puts tells answering end header who h [] new are = are
dated_puts tells answering end header who h (c ∷ cs) new are = (are.0, are.1, by are.2, dated_puts tells answering end header who are.1 cs new are.3)
  where
    by : OnWay answering end header h who (put c) (Grants are.0) are.1 → OnWay (DatedAll tells answering) end header h who (put c) (Grants are.0) are.1
    by (inl r) = inl r
    by (inr e) = inr e

puts_cut : (changesets : List (List ℕ)) (before : List Call) (call : Call) (after : List Call) → puts changesets ≡ before ++ call ∷ after
    → (front : List (List ℕ)) × (one : List ℕ) × (before ≡ puts front) × (call ≡ put one)
puts_cut [] [] call after e = absurd cc
puts_cut [] (b ∷ before) call after e = absurd cc
puts_cut (c ∷ cs) [] call after e = ([], c, refl, cc)
puts_cut (c ∷ cs) (b ∷ before) call after e =
    let heads : b ≡ put c = cc in
    let tails : puts cs ≡ before ++ call ∷ after = cc in
    let rest = puts_cut cs before call after tails in
    (c ∷ rest.0, rest.1, (λ i. heads i ∷ rest.2 i), rest.3)

module _ (tells : ℕ → Type 0) (answering : Answering) (header : Header) (who : ℕ) (h : List Entry) where
  sees_dated : (then new : List Entry) → SeesOn answering.replies header who then new → SeesOn (Dated tells answering.replies) header who then new
  sees_dated then new (inl is) = inl is
  sees_dated then new (inr r) = inr r

  -- the calls before the last store changesets, and where they end the last is made at a moment that the clock tells
  pub chained_dated : (calls made : List Call) (at : ℕ) (answer : Answer) (new : List Entry) → IsStack calls → IsLastDated tells calls made → (chained : Chained answering header who h made at answer new)
      → (chained' : Chained (DatedAll tells answering) header who h calls at answer new) × (list_response chained.call at answer ≡ list_response chained'.call at answer)
  chained_dated calls made at answer new stack last chained =
      by (cut_of last.earlier last.last_made chained.earlier chained.call chained.later (sym chained.calls_are ∙ last.made_is))
    where
      same : (puts stack.earlier ≡ last.earlier) × (stack.last ≡ last.last)
      same = push_same (puts stack.earlier) last.earlier stack.last last.last (sym stack.calls_are ∙ last.asked_is)

      by : Cut last.earlier last.last_made chained.earlier chained.call chained.later → (chained' : Chained (DatedAll tells answering) header who h calls at answer new) × (list_response chained.call at answer ≡ list_response chained'.call at answer)
      by (Last_cut none front is) =
          let all : puts stack.earlier ≡ chained.earlier = same.0 ∙ sym front in
          let granted = dated_puts tells answering answer header who h stack.earlier chained.between (subst (λ cs. AreGranted (OnWay answering answer) header who h cs chained.between) (sym all) chained.granted) in
          let dated : IsDated tells last.last chained.call = subst (IsDated tells last.last) (sym is) last.dated in (
            record {
              earlier = chained.earlier;
              call = last.last;
              later = [];
              calls_are = last.asked_is ∙ ap (λ cs. cs ++ last.last ∷ []) (sym front);
              at_is = chained.at_is;
              between = chained.between;
              granted = subst (λ cs. AreGranted (OnWay (DatedAll tells answering) answer) header who h cs chained.between) all granted;
              then = chained.then;
              answered = dated_answered tells answering.replies header chained.between who last.last chained.call answer chained.then dated chained.answered;
              ends = inl refl;
              sees = sees_dated chained.then new chained.sees;
            },
            same_response tells last.last chained.call at answer dated,
          )
      by (Earlier_cut between is split) =
          let cut = puts_cut stack.earlier chained.earlier chained.call between (same.0 ∙ split) in
          let granted = dated_puts tells answering answer header who h cut.0 chained.between (subst (λ cs. AreGranted (OnWay answering answer) header who h cs chained.between) cut.2 chained.granted) in (
            record {
              earlier = chained.earlier;
              call = chained.call;
              later = between ++ last.last ∷ [];
              calls_are = last.asked_is ∙ ap (λ cs. cs ++ last.last ∷ []) split ∙ append_assoc chained.earlier (chained.call ∷ between) (last.last ∷ []);
              at_is = chained.at_is;
              between = chained.between;
              granted = subst (λ cs. AreGranted (OnWay (DatedAll tells answering) answer) header who h cs chained.between) (sym cut.2) granted;
              then = chained.then;
              answered = dated_answered tells answering.replies header chained.between who chained.call chained.call answer chained.then (subst (λ call. IsDated tells call call) (sym cut.3) refl) chained.answered;
              ends = inr (more chained.ends is);
              sees = sees_dated chained.then new chained.sees;
            },
            refl,
          )
        where
          not_empty : (xs : List Call) → [] ≡ xs ++ last.last_made ∷ [] → ⊥
          not_empty [] e = cc
          not_empty (x ∷ xs) e = cc

          more : ((chained.later ≡ []) ⊎ IsNoGrant answer) → chained.later ≡ between ++ last.last_made ∷ [] → IsNoGrant answer
          more (inl none) is = absurd (not_empty between (sym none ∙ is))
          more (inr never) is = never

  pub dated_list : (calls made : List Call) (close head_only : Bool) (text : List ℕ) (new : List Entry) → IsStack calls → IsLastDated tells calls made
      → RepliedAll answering header who h made close head_only text new → RepliedAll (DatedAll tells answering) header who h calls close head_only text new
  dated_list calls made close head_only text new stack last r =
      let dated = chained_dated calls made r.at r.answer new stack last r.chained in
      record { at = r.at; answer = r.answer; chained = dated.0; text = r.text ∙ ap (λ response. text_of response close head_only) dated.1 }
