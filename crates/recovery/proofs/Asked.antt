-- What a payload's change makes.
--     kept bytes made      what is made, if it has this payload
use Rattle.std.proofs.Common.{◌≡◌, ℕ, Bool, true, false, cond, List, [], ◌∷◌, ◌++◌, drop, refl, sym, ap, subst, ◌∙◌, inl, inr}
use Rattle.std.specs.Prelude.{Option, None, Some, Result, Ok, Err, IsSome, bytes_eq, is_some, unwrap_or}
use mathlib.Core.Bool.{true≢false}
use Rattle.std.specs.Option.{option_and_then}
use Rattle.std.specs.Result.{result_ok}
use Rattle.std.proofs.lemmas.Bool.{and_parts}
use Rattle.std.proofs.lemmas.List.{append-nil}
use Rattle.std.proofs.lemmas.Slice.Eq.{bytes_eq-Decides}
use Rattle.byte_fields.specs.Bytes.{are_bytes}
use Rattle.byte_fields.specs.Reading.{keeping}
use Rattle.byte_fields.proofs.FieldLemmas.{keeps}
use Rattle.changeset_model.specs.Changeset.{Changeset, spelling}
use Rattle.changeset_model.specs.Decoding.{decoded}
use Rattle.history_model.specs.History.{Body, Policy, Move, Landing, Entry, is_stored, unnumbered}
use Rattle.history_model.specs.Journal.{Header, payload, framed, IsPayload}
use Rattle.reply_model.specs.After.{entries_of}
use Rattle.reply_model.specs.Opening.{nobody, made_by}
use Rattle.reply_model.specs.Reply as refusing
use Rattle.reply_model.specs.Reply.{Ask, is_ask, are_pieces, ids_in, PutContent, PutWhole, PutChangeset, SetBookmark, LandDraft, SetPolicy, Judged, judge}
use Rattle.reply_model.proofs.Granted.{MakesStored, judge_stored}
use Rattle.opening_laws.proofs.Made.{MadeBy, Fitting, MakesEach, judge_makes}
use Rattle.repo_machine.specs.Judged.{JudgedChange, IsJudged, Frames}
use Rattle.repo_machine.specs.Entering.{IsJudgedHere}
use Rattle.repo_machine.specs.Replaying.{IsReplayed}
use Rattle.repo_calls.specs.declared.refusal.Refusal.{Refusal}
use Rattle.repo_calls.specs.Refusing.{IsRefusal}
use Rattle.recovery.specs.ReplayFaults.{is_read_fault, refusal_fault, wants_memory}
use Rattle.recovery.specs.declared.replay_fault.ReplayFault.{ReplayFault}
use Rattle.recovery.specs.declared.replay_fault.ReplayFault.TheVariants.{BadPayload, DiskFault, Memory}
use Rattle.recovery.specs.Entering.{asked_entry, Enters}
use Rattle.recovery.proofs.Frames.{framed_once}

abbrev has_payload : List ℕ → Body → Bool
has_payload bytes body = bytes_eq (payload body (drop 1 bytes)) bytes

abbrev kept : List ℕ → Option Body → Option Body
kept bytes made = option_and_then (λ body. keeping (has_payload bytes) body) made

-- a change that is granted, without its record
record IsAnswer (header : Header) (h : List Entry) (ask : Ask) (judged : Judged) : Type 0 where
  asks : is_ask h ask ≡ true
  granted : judge header h ask ≡ Ok judged

abbrev answer : JudgedChange → Judged
answer judged = record { granted = judged.granted; made = judged.made }

answered : (header : Header) (h : List Entry) (ask : Ask) (judged : JudgedChange) → IsJudged header h ask judged → IsAnswer header h ask (answer judged)
answered header h ask judged is = record { asks = is.asks; granted = is.granted }

asked_kept : (header : Header) (h : List Entry) (bytes : List ℕ) (ask : Ask) (judged : Judged) → IsAnswer header h ask judged → asked_entry header h bytes ask ≡ kept bytes judged.made
asked_kept header h bytes ask judged is =
    ap (option_and_then (made_by header h bytes)) (keeps (is_ask h) ask is.asks)
    ∙ ap (λ r. option_and_then (λ body. keeping (has_payload bytes) body) (option_and_then (λ (judged : Judged). judged.made) (result_ok r))) is.granted

-- ---- an entry of this payload

kept_same : (bytes : List ℕ) (made : Option Body) → ((body : Body) → made ≡ Some body → payload body (drop 1 bytes) ≡ bytes) → kept bytes made ≡ made
kept_same bytes None same = refl
kept_same bytes (Some body) same = keeps (has_payload bytes) body ((bytes_eq-Decides (payload body (drop 1 bytes)) bytes).1 (same body refl))

asked_same : (header : Header) (h : List Entry) (bytes : List ℕ) (ask : Ask) (judged : Judged) → IsAnswer header h ask judged → ((body : Body) → judged.made ≡ Some body → payload body (drop 1 bytes) ≡ bytes) → asked_entry header h bytes ask ≡ judged.made
asked_same header h bytes ask judged is same = asked_kept header h bytes ask judged is ∙ kept_same bytes judged.made same

-- ---- an entry of another payload

drops : {A : Type 0} (rule : A → Bool) (x : A) (b : Bool) → rule x ≡ b → (b ≡ true → ⊥) → keeping rule x ≡ None
drops rule x true e not = absurd (not refl)
drops rule x false e not = ap (λ b. cond b (Some x) None) e

kept_other : (bytes : List ℕ) (made : Option Body) → ((body : Body) → made ≡ Some body → payload body (drop 1 bytes) ≡ bytes → ⊥) → kept bytes made ≡ None
kept_other bytes None other = refl
kept_other bytes (Some body) other = drops (has_payload bytes) body (has_payload bytes body) refl (λ e. other body refl ((bytes_eq-Decides (payload body (drop 1 bytes)) bytes).0 e))

other_asked : (header : Header) (h : List Entry) (bytes : List ℕ) (ask : Ask) (judged : Judged) → IsAnswer header h ask judged → kept bytes judged.made ≡ None → asked_entry header h bytes ask ≡ None
other_asked header h bytes ask judged is none = asked_kept header h bytes ask judged is ∙ none

-- ---- where it is refused

refused_by : (header : Header) (h : List Entry) (bytes : List ℕ) (given : Ask) (r : refusing.Refusal) → judge header h given ≡ Err r → (b : Bool) → is_ask h given ≡ b → asked_entry header h bytes given ≡ None
refused_by header h bytes given r is false e = ap (λ b. option_and_then (made_by header h bytes) (cond b (Some given) None)) e
refused_by header h bytes given r is true e =
    ap (λ b. option_and_then (made_by header h bytes) (cond b (Some given) None)) e
    ∙ ap (λ r. option_and_then (λ body. keeping (has_payload bytes) body) (option_and_then (λ (judged : Judged). judged.made) (result_ok r))) is

-- it is no fault of the disk
pub calm_refusal : (e : Refusal) → is_read_fault {T = Unit {0}} (Err (refusal_fault e)) ≡ false
calm_refusal e = by (wants_memory e)
  where
    by : (b : Bool) → is_read_fault {T = Unit {0}} (Err (cond b Memory BadPayload)) ≡ false
    by true = refl
    by false = refl

nothing_entered : (h : List Entry) (next : Option Body) (fault : ReplayFault) (after : List Entry) → next ≡ None → after ≡ h → Enters h next (Err fault) after
nothing_entered h next BadPayload after none same = (none, same)
nothing_entered h next DiskFault after none same = same
nothing_entered h next Memory after none same = same

pub refused_asked : (header : Header) (h : List Entry) (bytes : List ℕ) (ask given : Ask) (e : Refusal) (after : List Entry) → given ≡ ask → IsRefusal (judge header h ask) e → after ≡ h → Enters h (asked_entry header h bytes given) (Err (refusal_fault e)) after
refused_asked header h bytes ask given e after same is kept = elim is [
  | inl memory ↦ subst (λ e. Enters h (asked_entry header h bytes given) (Err (refusal_fault e)) after) (sym memory) kept
  | inr refused ↦ nothing_entered h (asked_entry header h bytes given) (refusal_fault e) after (refused_by header h bytes given refused.0 (ap (judge header h) same ∙ refused.1) (is_ask h given) refl) kept
]

-- ---- what each change makes

makes_of : (header : Header) (h : List Entry) (ask : Ask) (judged : Judged) → IsAnswer header h ask judged → (body : Body) → judged.made ≡ Some body → MadeBy h ask body
makes_of header h ask judged is body made = (subst (MakesEach (Fitting header h (MadeBy h ask))) is.granted (judge_makes header h ask) body made).0

content_asked : (header : Header) (h : List Entry) (content : List ℕ) (judged : Judged) → IsAnswer header h (PutContent content) judged → asked_entry header h (0x42 ∷ content) (PutContent content) ≡ judged.made
content_asked header h content judged is =
    asked_same header h (0x42 ∷ content) (PutContent content) judged is
    (λ body made. ap (λ b. payload b content) (makes_of header h (PutContent content) judged is body made).1)

one_decoded : {E : Type 0} (r : Result Changeset E) (c d : Changeset) → r ≡ Ok c → r ≡ Ok d → d ≡ c
one_decoded r c d a b = cc

change_asked : (header : Header) (h : List Entry) (c : Changeset) (judged : Judged) → decoded (spelling c) ≡ Ok c → IsAnswer header h (PutChangeset (spelling c)) judged → asked_entry header h (spelling c) (PutChangeset (spelling c)) ≡ judged.made
change_asked header h c judged read is =
    asked_same header h (spelling c) (PutChangeset (spelling c)) judged is
    (λ body made. let m = makes_of header h (PutChangeset (spelling c)) judged is body made in
    ap (λ b. payload b (drop 1 (spelling c))) m.3 ∙ ap spelling (one_decoded (decoded (spelling c)) c m.0 read m.1))

pub policy_asked : (header : Header) (h : List Entry) (caller text bytes : List ℕ) (judged : JudgedChange) → bytes ≡ payload (Policy caller text) [] → IsJudged header h (SetPolicy caller text) judged → asked_entry header h bytes (SetPolicy caller text) ≡ judged.made
policy_asked header h caller text bytes judged spelled is =
    let a = answered header h (SetPolicy caller text) judged is in
    asked_same header h bytes (SetPolicy caller text) (answer judged) a
    (λ body made. ap (λ b. payload b (drop 1 bytes)) (makes_of header h (SetPolicy caller text) (answer judged) a body made).0 ∙ sym spelled)

-- ---- a move or a landing, by its frame

-- it has one payload
abbrev HasOne : Body → Type 0
HasOne body = (bytes other : List ℕ) → IsPayload body bytes → payload body other ≡ bytes

module _ (header : Header) (h : List Entry) (bytes : List ℕ) (ask : Ask) (judged : JudgedChange) (is : IsJudged header h ask judged) (one : (body : Body) → judged.made ≡ Some body → HasOne body) where
  -- the payload in the frame
  framed_payload : (body : Body) → judged.made ≡ Some body → (inner : List ℕ) × (judged.frame ≡ framed inner) × (payload body (drop 1 bytes) ≡ inner)
  framed_payload body made =
      let f = subst (λ o. Frames o judged.frame) made is.frames in
      (f.0, f.2, one body made f.0 (drop 1 bytes) f.1)

  same_payload : judged.frame ≡ framed bytes → (body : Body) → judged.made ≡ Some body → payload body (drop 1 bytes) ≡ bytes
  same_payload same body made = let f = framed_payload body made in f.2 ∙ framed_once f.0 bytes (sym f.1 ∙ same)

  framed_asked : judged.frame ≡ framed bytes → asked_entry header h bytes ask ≡ judged.made
  framed_asked same = asked_same header h bytes ask (answer judged) (answered header h ask judged is) (same_payload same)

  not_framed : (IsSome judged.made × (judged.frame ≡ framed bytes) → ⊥) → kept bytes judged.made ≡ None
  not_framed other = kept_other bytes judged.made (λ body made e. let f = framed_payload body made in other (ap is_some made, f.1 ∙ ap framed (sym f.2 ∙ e)))

  framed_differs : (IsSome judged.made × (judged.frame ≡ framed bytes) → ⊥) → asked_entry header h bytes ask ≡ None
  framed_differs other = other_asked header h bytes ask (answer judged) (answered header h ask judged is) (not_framed other)

-- a move
module _ (header : Header) (h : List Entry) (caller : List ℕ) (m : Move) (bytes : List ℕ) (judged : JudgedChange) (who : caller ≡ unwrap_or m.caller nobody) (is : IsJudged header h (SetBookmark caller m.name m.from m.to) judged) where
  abbrev move_ask : Ask
  move_ask = SetBookmark caller m.name m.from m.to

  move_asks : SetBookmark (unwrap_or m.caller nobody) m.name m.from m.to ≡ move_ask
  move_asks = ap (λ caller. SetBookmark caller m.name m.from m.to) (sym who)

  move_once : (body : Body) → judged.made ≡ Some body → HasOne body
  move_once body made inner other p =
      let e = (makes_of header h move_ask (answer judged) (answered header h move_ask judged is) body made).0 in
      ap (λ b. payload b other) e ∙ sym (subst (λ b. IsPayload b inner) e p).2

  pub move_asked : IsSome judged.made × (judged.frame ≡ framed bytes) → asked_entry header h bytes (SetBookmark (unwrap_or m.caller nobody) m.name m.from m.to) ≡ judged.made
  move_asked there = ap (asked_entry header h bytes) move_asks ∙ framed_asked header h bytes move_ask judged is move_once there.1

  pub move_differs : (IsSome judged.made × (judged.frame ≡ framed bytes) → ⊥) → asked_entry header h bytes (SetBookmark (unwrap_or m.caller nobody) m.name m.from m.to) ≡ None
  move_differs other = ap (asked_entry header h bytes) move_asks ∙ framed_differs header h bytes move_ask judged is move_once other

-- a landing
module _ (header : Header) (h : List Entry) (caller : List ℕ) (l : Landing) (moment : ℕ) (bytes : List ℕ) (judged : JudgedChange) (who : caller ≡ unwrap_or l.caller nobody) (at : moment ≡ unwrap_or l.moment 0) (is : IsJudged header h (LandDraft caller l.name l.draft moment) judged) where
  abbrev landing_ask : Ask
  landing_ask = LandDraft caller l.name l.draft moment

  landing_asks : LandDraft (unwrap_or l.caller nobody) l.name l.draft (unwrap_or l.moment 0) ≡ landing_ask
  landing_asks = (λ i. LandDraft (sym who i) l.name l.draft (sym at i))

  landing_once : (body : Body) → judged.made ≡ Some body → HasOne body
  landing_once body made inner other p =
      let e = (makes_of header h landing_ask (answer judged) (answered header h landing_ask judged is) body made).8 in
      ap (λ b. payload b other) e ∙ sym (subst (λ b. IsPayload b inner) e p).2

  pub landing_asked : IsSome judged.made × (judged.frame ≡ framed bytes) → asked_entry header h bytes (LandDraft (unwrap_or l.caller nobody) l.name l.draft (unwrap_or l.moment 0)) ≡ judged.made
  landing_asked there = ap (asked_entry header h bytes) landing_asks ∙ framed_asked header h bytes landing_ask judged is landing_once there.1

  pub landing_differs : (IsSome judged.made × (judged.frame ≡ framed bytes) → ⊥) → asked_entry header h bytes (LandDraft (unwrap_or l.caller nobody) l.name l.draft (unwrap_or l.moment 0)) ≡ None
  landing_differs other = ap (asked_entry header h bytes) landing_asks ∙ framed_differs header h bytes landing_ask judged is landing_once other

-- a whole
module _ (header : Header) (h : List Entry) (body : List ℕ) (pieces : List (List ℕ)) (bytes : List ℕ) (judged : JudgedChange) (is : IsJudged header h (PutWhole body pieces) judged) where
  whole_once : (made : Body) → judged.made ≡ Some made → HasOne made
  whole_once made e inner other p =
      let same = (makes_of header h (PutWhole body pieces) (answer judged) (answered header h (PutWhole body pieces) judged is) made e).3 in
      ap (λ b. payload b other) same ∙ sym (subst (λ b. IsPayload b inner) same p).2

  pub whole_asked : IsSome judged.made × (judged.frame ≡ framed bytes) → asked_entry header h bytes (PutWhole body pieces) ≡ judged.made
  whole_asked there = framed_asked header h bytes (PutWhole body pieces) judged is whole_once there.1

  pub whole_differs : (IsSome judged.made × (judged.frame ≡ framed bytes) → ⊥) → asked_entry header h bytes (PutWhole body pieces) ≡ None
  whole_differs other = framed_differs header h bytes (PutWhole body pieces) judged is whole_once other

-- what was read isn't of the parts
pub not_pieces : (header : Header) (h : List Entry) (body : List ℕ) (pieces : List (List ℕ)) (bytes : List ℕ) → are_pieces h (ids_in body) pieces ≡ false → asked_entry header h bytes (PutWhole body pieces) ≡ None
not_pieces header h body pieces bytes other =
    ap (option_and_then (made_by header h bytes)) (drops (is_ask h) (PutWhole body pieces) (is_ask h (PutWhole body pieces)) refl (λ e. true≢false (sym (and_parts (are_bytes body) (are_pieces h (ids_in body) pieces) e).1 ∙ other)))

-- ---- what is entered

pub enters_as : (h : List Entry) (made next : Option Body) (result : Result (Unit {0}) ReplayFault) (after now : List Entry) → next ≡ made → now ≡ h → Enters now made result after → Enters h next result after
enters_as h made next result after now same is entered = subst (λ g. Enters g next result after) is (subst (λ o. Enters now o result after) (sym same) entered)

entered_by : (header : Header) (h : List Entry) (judged : JudgedChange) (after : List Entry) (made : Option Body) → IsJudgedHere header h judged → judged.who ≡ 0 → judged.made ≡ made → is_some made ≡ true → after ≡ h ++ entries_of judged.who (record { entry = judged.made; fault = None }) → (body : Body) × (judged.made ≡ Some body) × (is_stored body ≡ true) × (after ≡ h ++ unnumbered body ∷ [])
entered_by header h judged after None here by e some grows = absurd (true≢false (sym some))
entered_by header h judged after (Some body) here by e some grows = (
  body,
  e,
  subst MakesStored here.is_judged.granted (judge_stored header h here.ask) body e,
  grows ∙ (λ i. h ++ entries_of (by i) (record { entry = e i; fault = None })),
)

pub entered_here : (header : Header) (h : List Entry) (judged : JudgedChange) (after : List Entry) → IsJudgedHere header h judged → judged.who ≡ 0 → is_some judged.made ≡ true → after ≡ h ++ entries_of judged.who (record { entry = judged.made; fault = None }) → (body : Body) × (judged.made ≡ Some body) × (is_stored body ≡ true) × (after ≡ h ++ unnumbered body ∷ [])
entered_here header h judged after here by some grows = entered_by header h judged after judged.made here by refl some grows

-- ---- what is entered as it is judged

none_replayed : (h : List Entry) (o : Option Body) (after : List Entry) → is_some o ≡ false → after ≡ h ++ entries_of 0 (record { entry = o; fault = None }) → (o ≡ None) × (after ≡ h)
none_replayed h None after none grows = (refl, grows ∙ append-nil h)
none_replayed h (Some body) after none grows = absurd (true≢false none)

one_replayed : (h : List Entry) (o : Option Body) (after : List Entry) → is_some o ≡ true → after ≡ h ++ entries_of 0 (record { entry = o; fault = None }) → (body : Body) × (o ≡ Some body) × (after ≡ h ++ unnumbered body ∷ [])
one_replayed h None after some grows = absurd (true≢false (sym some))
one_replayed h (Some body) after some grows = (body, refl, grows)

module _ (header : Header) (h : List Entry) (bytes : List ℕ) (ask : Ask) (made : Bool) (after : List Entry) (is : IsReplayed header h 0 ask made after) (asked : asked_entry header h bytes ask ≡ is.judged.made) where
  enters_replayed : made ≡ true → Enters h (asked_entry header h bytes ask) (Ok tt) after
  enters_replayed e =
      let one = one_replayed h is.judged.made after (sym is.told ∙ e) is.grows in
      (one.0, asked ∙ one.1, subst MakesStored is.judged_is (judge_stored header h ask) one.0 one.1, one.2)

  skips_replayed : made ≡ false → Enters h (asked_entry header h bytes ask) (Err BadPayload) after
  skips_replayed e = let none = none_replayed h is.judged.made after (sym is.told ∙ e) is.grows in (asked ∙ none.0, none.1)

module _ (header : Header) (h : List Entry) (content : List ℕ) (made : Bool) (after : List Entry) (is : IsReplayed header h 0 (PutContent content) made after) where
  content_made : asked_entry header h (0x42 ∷ content) (PutContent content) ≡ is.judged.made
  content_made = content_asked header h content is.judged (record { asks = is.asks; granted = is.judged_is })

  pub enters_content : made ≡ true → Enters h (asked_entry header h (0x42 ∷ content) (PutContent content)) (Ok tt) after
  enters_content e = enters_replayed header h (0x42 ∷ content) (PutContent content) made after is content_made e

  pub skips_content : made ≡ false → Enters h (asked_entry header h (0x42 ∷ content) (PutContent content)) (Err BadPayload) after
  skips_content e = skips_replayed header h (0x42 ∷ content) (PutContent content) made after is content_made e

module _ (header : Header) (h : List Entry) (c : Changeset) (made : Bool) (after : List Entry) (read : decoded (spelling c) ≡ Ok c) (is : IsReplayed header h 0 (PutChangeset (spelling c)) made after) where
  changeset_made : asked_entry header h (spelling c) (PutChangeset (spelling c)) ≡ is.judged.made
  changeset_made = change_asked header h c is.judged read (record { asks = is.asks; granted = is.judged_is })

  pub enters_changeset : made ≡ true → Enters h (asked_entry header h (spelling c) (PutChangeset (spelling c))) (Ok tt) after
  enters_changeset e = enters_replayed header h (spelling c) (PutChangeset (spelling c)) made after is changeset_made e

  pub skips_changeset : made ≡ false → Enters h (asked_entry header h (spelling c) (PutChangeset (spelling c))) (Err BadPayload) after
  skips_changeset e = skips_replayed header h (spelling c) (PutChangeset (spelling c)) made after is changeset_made e
