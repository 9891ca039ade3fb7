-- The reply to a change, by what is judged.
use Rattle.std.proofs.Common.{◌≡◌, ℕ, ◌+◌, ◌<◌, ◌≤◌, lt-ltb, le-ltb, Bool, true, false, cond, inl, inr, List, [], ◌∷◌, ◌++◌, length, refl, sym, ap, subst, ◌∙◌, suc}
use Rattle.std.specs.Prelude.{Option, None, Some, Result, Ok, Err, IsErrAnd, IfErr, not, is_some, find, bytes_eq, ◌&&◌, slice_index}
use Rattle.std.specs.Option.{option_eq, option_to_list}
use Rattle.std.proofs.lemmas.List.{append-nil}
use Rattle.sha2.specs.Sha256.{sha256}
use Rattle.byte_fields.specs.Bytes.{Id, are_bytes}
use Rattle.changeset_model.specs.Changeset.{most_content}
use Rattle.history_model.specs.History.{Body, Content, Book, Entry, is_down, known, is_known, content_len, Known}
use Rattle.history_model.specs.Bookmark.{head}
use Rattle.history_model.specs.Journal.{Header, payload_len, is_full}
use Rattle.history_model.specs.Journal as journal
use Rattle.policy_model.specs.Rules.{bookmark_place}
use Rattle.reply_model.specs.Reply.{told, denied_at, denial, PutContent, SetBookmark, ContentPut, BookmarkSet, TooLong, NoChangeset, Moved, refuse_some, Full, Down, Ask, Granted, Refusal, Judged, by_ask, judge, refuse_if, unchanged, entered, put_content, ◌>>=◌}
use Rattle.reply_model.specs.After.{Answer, Asks, Grants, Refuses, Memory, nothing, Replies, entry_by, entries_of}
use Rattle.repo_calls.specs.declared.refusal.Refusal as refusal
use Rattle.repo_calls.specs.declared.refusal.Refusal.TheVariants as refusals
use Rattle.repo_calls.specs.Calls.{refused}
use Rattle.repo_machine.specs.Entering.{Prevents}
use Rattle.repo_machine.specs.Judged.{JudgedChange, IsJudged}
use Rattle.repo_calls.specs.Refusing.{IsRefusal}
use Rattle.history_model.specs.Repository.{Repository}
use Rattle.reply_model.specs.Legal.{IsLegal}
use Rattle.changeset_store.proofs.Numbering.{not_some}
use Rattle.repo_machine.specs.Indexes.{AreIndexes}
use Rattle.byte_fields.proofs.Booleans.{not_false as not_not}
use Rattle.changeset_model.proofs.Spelling.{is_false as not_yes}

-- ---- what is answered

pub replies_refused : (header : Header) (h : List Entry) (who : ℕ) (ask : Ask) (refusal : Refusal) → judge header h ask ≡ Err refusal → Replies header h who (Asks ask) (Refuses refusal) h
replies_refused header h who ask refusal e = record { made = nothing; answers = (refl, e); new_is = sym (append-nil h) }

pub replies_unchanged : (header : Header) (h : List Entry) (who : ℕ) (ask : Ask) (granted : Granted) → judge header h ask ≡ unchanged granted → Replies header h who (Asks ask) (Grants granted) h
replies_unchanged header h who ask granted e = record { made = nothing; answers = (refl, e); new_is = sym (append-nil h) }

pub replies_memory : (header : Header) (h : List Entry) (who : ℕ) (ask : Ask) → Replies header h who (Asks ask) Memory h
replies_memory header h who ask = record { made = nothing; answers = refl; new_is = sym (append-nil h) }

pub replies_made : (header : Header) (h : List Entry) (who : ℕ) (ask : Ask) (granted : Granted) (body : Body) → judge header h ask ≡ Ok (record { granted = granted; made = Some body }) → Replies header h who (Asks ask) (Grants granted) (h ++ entry_by who body ∷ [])
replies_made header h who ask granted body e = record { made = record { entry = Some body; fault = None }; answers = (refl, e); new_is = refl }

-- ---- what is judged

pub judged_up : (header : Header) (h : List Entry) (ask : Ask) → is_down h ≡ false → judge header h ask ≡ by_ask header h ask
judged_up header h ask up = (λ i. refuse_if (up i) Down >>= λ _. by_ask header h ask)

abbrev made_of : Granted → Body → Judged
made_of granted body = record { granted = granted; made = Some body }

by_room : (header : Header) (h : List Entry) (granted : Granted) (body : Body) (full : Bool) → is_full header h (payload_len body) ≡ full → entered header h granted body ≡ cond full (Err (Full (journal.size h) (payload_len body))) (Ok (made_of granted body))
by_room header h granted body true e = (λ i. refuse_if (e i) (Full (journal.size h) (payload_len body)) >>= λ _. Ok (made_of granted body))
by_room header h granted body false e = (λ i. refuse_if (e i) (Full (journal.size h) (payload_len body)) >>= λ _. Ok (made_of granted body))

pub entered_full : (header : Header) (h : List Entry) (granted : Granted) (body : Body) → header.capacity < journal.size h + 5 + payload_len body → entered header h granted body ≡ Err (Full (journal.size h) (payload_len body))
entered_full header h granted body full = by_room header h granted body true (lt-ltb _ _ full)

pub entered_made : (header : Header) (h : List Entry) (granted : Granted) (body : Body) → journal.size h + 5 + payload_len body ≤ header.capacity → entered header h granted body ≡ Ok (made_of granted body)
entered_made header h granted body room = by_room header h granted body false (le-ltb _ _ room)

-- ---- a content

abbrev put_short : Header → List Entry → List ℕ → Bool → Result Judged Refusal
put_short header h bytes known = cond known (unchanged (ContentPut (sha256 bytes))) (entered header h (ContentPut (sha256 bytes)) (Content (sha256 bytes) (length bytes)))

not_long : (header : Header) (h : List Entry) (bytes : List ℕ) → length bytes ≤ most_content → put_content header h bytes ≡ put_short header h bytes (is_some (content_len h (sha256 bytes)))
not_long header h bytes few = (λ i. refuse_if (le-ltb most_content (length bytes) few i) (TooLong (length bytes)) >>= λ _. put_short header h bytes (is_some (content_len h (sha256 bytes))))

pub judged_short : (header : Header) (h : List Entry) (bytes : List ℕ) (known : Bool) → is_down h ≡ false → length bytes ≤ most_content → is_some (content_len h (sha256 bytes)) ≡ known → judge header h (PutContent bytes) ≡ put_short header h bytes known
judged_short header h bytes known up few e = judged_up header h (PutContent bytes) up ∙ not_long header h bytes few ∙ ap (put_short header h bytes) e

pub judged_long : (header : Header) (h : List Entry) (bytes : List ℕ) → is_down h ≡ false → most_content < length bytes → judge header h (PutContent bytes) ≡ Err (TooLong (length bytes))
judged_long header h bytes up long =
    judged_up header h (PutContent bytes) up
    ∙ (λ i. refuse_if (lt-ltb most_content (length bytes) long i) (TooLong (length bytes)) >>= λ _. put_short header h bytes (is_some (content_len h (sha256 bytes))))

-- ---- a bookmark

module _ (header : Header) (h : List Entry) (caller name : List ℕ) (from to : Option Id) (up : is_down h ≡ false) where
  abbrev unknown : Option Id
  unknown = find (λ x. not (is_known (known h) x)) (option_to_list to)

  abbrev moving : Result Judged Refusal
  moving = cond (option_eq bytes_eq from to) (unchanged BookmarkSet) (entered header h BookmarkSet (Book (record { name = name; from = from; to = to; caller = told h caller })))

  abbrev decided : Result (Unit {0}) Refusal
  decided = refuse_some (denied_at h caller (bookmark_place name ∷ [])) denial

  abbrev from_head : Bool → Result Judged Refusal
  from_head same = refuse_if (not same) (Moved (head h name)) >>= λ _. (decided >>= λ _. moving)

  abbrev to_target : Option Id → Result Judged Refusal
  to_target none = refuse_some none NoChangeset >>= λ _. from_head (option_eq bytes_eq (head h name) from)

  pub judged_unknown : (x : Id) → unknown ≡ Some x → judge header h (SetBookmark caller name from to) ≡ Err (NoChangeset x)
  judged_unknown x e = judged_up header h (SetBookmark caller name from to) up ∙ ap to_target e

  known_target : unknown ≡ None → judge header h (SetBookmark caller name from to) ≡ from_head (option_eq bytes_eq (head h name) from)
  known_target e = judged_up header h (SetBookmark caller name from to) up ∙ ap to_target e

  pub judged_moved : unknown ≡ None → option_eq bytes_eq (head h name) from ≡ false → judge header h (SetBookmark caller name from to) ≡ Err (Moved (head h name))
  judged_moved e other = known_target e ∙ ap from_head other

  pub move_refused : unknown ≡ None → option_eq bytes_eq (head h name) from ≡ true → (e : refusal.Refusal) → IsRefusal decided e → IsRefusal (judge header h (SetBookmark caller name from to)) e
  move_refused none there e (inl memory) = inl memory
  move_refused none there e (inr (r, is, same)) = inr (r, known_target none ∙ ap from_head there ∙ ap (λ x. x >>= λ _. moving) is, same)

  allowed_move : unknown ≡ None → option_eq bytes_eq (head h name) from ≡ true → decided ≡ Ok tt → judge header h (SetBookmark caller name from to) ≡ moving
  allowed_move e there allowed = known_target e ∙ ap from_head there ∙ ap (λ x. x >>= λ _. moving) allowed

  pub judged_same : unknown ≡ None → option_eq bytes_eq (head h name) from ≡ true → decided ≡ Ok tt → option_eq bytes_eq from to ≡ true → judge header h (SetBookmark caller name from to) ≡ unchanged BookmarkSet
  judged_same e there allowed same = allowed_move e there allowed ∙ ap (λ b. cond b (unchanged BookmarkSet) (entered header h BookmarkSet (Book (record { name = name; from = from; to = to; caller = told h caller })))) same

  pub judged_moving : unknown ≡ None → option_eq bytes_eq (head h name) from ≡ true → decided ≡ Ok tt → option_eq bytes_eq from to ≡ false → judge header h (SetBookmark caller name from to) ≡ entered header h BookmarkSet (Book (record { name = name; from = from; to = to; caller = told h caller }))
  judged_moving e there allowed apart = allowed_move e there allowed ∙ ap (λ b. cond b (unchanged BookmarkSet) (entered header h BookmarkSet (Book (record { name = name; from = from; to = to; caller = told h caller })))) apart

-- ---- refusals

pub refused_down : (header : Header) (h : List Entry) (ask : Ask) → is_down h ≡ true → IsRefusal (judge header h ask) refusals.Down
refused_down header h ask down = inr (Down, (λ i. refuse_if (down i) Down >>= λ _. by_ask header h ask), refl)

pub prevented : (header : Header) (h : List Entry) (ask : Ask) (granted : Granted) (body : Body) (e : refusal.Refusal) → Prevents header h body e → judge header h ask ≡ entered header h granted body → IsRefusal (judge header h ask) e
prevented header h ask granted body e (inl memory) judged = inl memory
prevented header h ask granted body e (inr (is, full)) judged = inr (Full (journal.size h) (payload_len body), judged ∙ entered_full header h granted body full, ap refused is)

pub answers_refusal : {X : Type 0} (answer : Result X refusal.Refusal → Answer) (errs : (e : refusal.Refusal) → answer (Err e) ≡ refused e) (header : Header) (h : List Entry) (who : ℕ) (ask : Ask) (result : Result X refusal.Refusal) (e : refusal.Refusal) (after : List Entry) → IsErrAnd result (λ x. x ≡ e) → IsRefusal (judge header h ask) e → after ≡ h → Replies header h who (Asks ask) (answer result) after
answers_refusal answer errs header h who ask (Ok x) e after err refusal same = absurd err
answers_refusal answer errs header h who ask (Err x) e after err (inl memory) same =
    subst (Replies header h who (Asks ask) (answer (Err x))) (sym same)
    (subst (λ a. Replies header h who (Asks ask) a h) (sym (errs x ∙ ap refused (err ∙ memory))) (replies_memory header h who ask))
answers_refusal answer errs header h who ask (Err x) e after err (inr (r, is, refuses)) same =
    subst (Replies header h who (Asks ask) (answer (Err x))) (sym same)
    (subst (λ a. Replies header h who (Asks ask) a h) (sym (errs x ∙ ap refused err ∙ refuses)) (replies_refused header h who ask r is))

pub passes_refusal : {X : Type 0} (P : refusal.Refusal → Type 0) (result : Result X refusal.Refusal) (e : refusal.Refusal) → IsErrAnd result (λ x. x ≡ e) → P e → IfErr result P
passes_refusal P (Ok x) e err holds = tt
passes_refusal P (Err x) e err holds = subst P (sym err) holds

-- ---- what is admitted

pub replies_admitted : (header : Header) (h : List Entry) (who : ℕ) (ask : Ask) (judged : JudgedChange) (after : List Entry) → IsJudged header h ask judged → judged.who ≡ who → after ≡ h ++ entries_of judged.who (record { entry = judged.made; fault = None }) → Replies header h who (Asks ask) (Grants judged.granted) after
replies_admitted header h who ask judged after is by grows = record {
  made = record { entry = judged.made; fault = None };
  answers = (refl, is.granted);
  new_is = grows ∙ ap (λ w. h ++ entries_of w (record { entry = judged.made; fault = None })) by;
}

pub are_bytes-from : (bytes : List ℕ) → ((i : ℕ) → slice_index bytes i < 256) → are_bytes bytes ≡ true
are_bytes-from [] all = refl
are_bytes-from (b ∷ bytes) all = (λ i. lt-ltb b 256 (all 0) i && are_bytes-from bytes (λ i. all (suc i)) i)

module _ {header : Header} {h : List Entry} {ks : List Known} {heads : List ℕ → Option Id} {lengths : Id → Option ℕ} {size : ℕ} {down : Bool} (k : AreIndexes header h ks heads lengths size down) (r : Repository) (is : ◌≡◌ {A = Repository} (record { header = header; history = h }) r) where
  pub down_as : down ≡ is_down r.history
  down_as = k.down_is ∙ ap (λ r. is_down r.history) is

  pub legal_as : IsLegal r.header r.history
  legal_as = subst (λ r. IsLegal r.header r.history) is k.legal

  module _ (up : is_down r.history ≡ false) (bytes : List ℕ) (x : Id) (e : x ≡ sha256 bytes) (few : length bytes ≤ most_content) where
    by_index : (known : Bool) → is_some (lengths x) ≡ known → is_some (content_len r.history (sha256 bytes)) ≡ known
    by_index known found = (λ i. is_some (content_len (sym is i).history (sym e i))) ∙ ap is_some (sym (k.lengths_are x)) ∙ found

    pub judged_known : is_some (lengths x) ≡ true → judge r.header r.history (PutContent bytes) ≡ unchanged (ContentPut x)
    judged_known found = judged_short r.header r.history bytes true up few (by_index true found) ∙ ap (λ y. unchanged (ContentPut y)) (sym e)

    pub judged_new : is_some (lengths x) ≡ false → judge r.header r.history (PutContent bytes) ≡ entered r.header r.history (ContentPut x) (Content x (length bytes))
    judged_new found = judged_short r.header r.history bytes false up few (by_index false found) ∙ ap (λ y. entered r.header r.history (ContentPut y) (Content y (length bytes))) (sym e)

    pub is_absent : is_some (lengths x) ≡ false → content_len r.history x ≡ None
    is_absent found = not_some (content_len r.history x) (ap (λ r. is_some (content_len r.history x)) (sym is) ∙ ap is_some (sym (k.lengths_are x)) ∙ found)

pub not_true : (found h from : Option Id) → found ≡ h → not (option_eq bytes_eq found from) ≡ true → option_eq bytes_eq h from ≡ false
not_true found h from same e = ap (λ o. option_eq bytes_eq o from) (sym same) ∙ not_yes _ e

module _ (header : Header) (h : List Entry) (up : is_down h ≡ false) (caller name : List ℕ) (from to found target : Option Id) (targeted : target ≡ find (λ x. not (is_known (known h) x)) (option_to_list to)) (none : target ≡ None) (head_is : found ≡ head h name) (there : not (option_eq bytes_eq found from) ≡ false) where
  no_unknown : find (λ x. not (is_known (known h) x)) (option_to_list to) ≡ None
  no_unknown = sym targeted ∙ none

  at_head : option_eq bytes_eq (head h name) from ≡ true
  at_head = ap (λ o. option_eq bytes_eq o from) (sym head_is) ∙ not_not _ there

  pub denied_as : (e : refusal.Refusal) → IsRefusal (refuse_some (denied_at h caller (bookmark_place name ∷ [])) denial) e → IsRefusal (judge header h (SetBookmark caller name from to)) e
  denied_as e refusal = move_refused header h caller name from to up no_unknown at_head e refusal

  module _ (allowed : refuse_some (denied_at h caller (bookmark_place name ∷ [])) denial ≡ Ok tt) where
    pub same_as : option_eq bytes_eq from to ≡ true → judge header h (SetBookmark caller name from to) ≡ unchanged BookmarkSet
    same_as same = judged_same header h caller name from to up no_unknown at_head allowed same

    pub moving_as : option_eq bytes_eq from to ≡ false → judge header h (SetBookmark caller name from to) ≡ entered header h BookmarkSet (Book (record { name = name; from = from; to = to; caller = told h caller }))
    moving_as apart = judged_moving header h caller name from to up no_unknown at_head allowed apart

-- the name and the caller are copied
pub moved_as : (header : Header) (h : List Entry) (ask : Ask) (from to : Option Id) {copy name : List ℕ} {telling told : Option (List ℕ)} → copy ≡ name → telling ≡ told → judge header h ask ≡ entered header h BookmarkSet (Book (record { name = name; from = from; to = to; caller = told }))
    → judge header h ask ≡ entered header h BookmarkSet (Book (record { name = copy; from = from; to = to; caller = telling }))
moved_as header h ask from to named calls judged = judged ∙ (λ i. entered header h BookmarkSet (Book (record { name = sym named i; from = from; to = to; caller = sym calls i })))
