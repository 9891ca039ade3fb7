-- A change of a repository in a file: judged, and entered or not.
use Rattle.std.proofs.Common.{◌≡◌, ℕ, ◌≤◌, true, false, List, [], ◌∷◌, ◌++◌, refl, sym, ap, subst, ◌∙◌, append-nil}
use Rattle.std.specs.Prelude.{Option, None, Some, Ok, IsSome, IsTrue, option_map}
use mathlib.Core.Logic.{inl, inr}
use Rattle.disk_model.specs.Meaning.{Meaning}
use Rattle.disk_model.specs.Meaning as disk
use Rattle.history_model.specs.History.{Body, Entry, bodies, is_down, is_stored}
use Rattle.history_model.specs.Journal.{Header, HoldsParts, IsPayload, framed, size}
use Rattle.reply_model.specs.Reply.{Ask, judge}
use Rattle.reply_model.specs.After.{Call, Answer, Answers, Asks, Grants, Replies, entries_of, entry_by, nothing}
use Rattle.reply_model.specs.Legal.{MayFollow}
use Rattle.reply_model.proofs.Granted.{MakesStored, judge_stored, follows_granted}
use Rattle.reply_model.proofs.Stored.{granted_is_up}
use Rattle.byte_fields.proofs.Booleans.{same_some}
use Rattle.repo_journal.specs.Groups.{grown, with_group}
use Rattle.repo_journal.specs.View.{JournalView}
use Rattle.repo_calls.specs.declared.refusal.Refusal.{Refusal}
use Rattle.repo_calls.specs.Calls.{refused}
use Rattle.repo_calls.specs.Refusing.{IsRefusal}
use Rattle.repo_machine.specs.Asked.{JudgesCall}
use Rattle.repo_machine.specs.Entering.{Judges}
use Rattle.repo_machine.specs.Held.{Room}
use Rattle.repo_machine.specs.Judged.{JudgedChange, IsJudged, Frames}
use Rattle.repo_state.specs.Groups.{left_of, reach_of}
use Rattle.repo_state.specs.Images.{sealed_part}
use Rattle.repo_state.specs.Joining.{Holds as HoldsNext}
use Rattle.repo_state.specs.State.{State, HasFaultRoom, IsSound, opening_of}
use Rattle.repo_state.proofs.Answered.{unmade}
use Rattle.repo_state.proofs.Asked.{for_call}
use Rattle.repo_state.proofs.Entering.{sound_entered, agrees_entered}
use Rattle.repo_state.proofs.Sounds.{Holds, holds_at}

-- a change that makes this entry
pub record Making (header : Header) (h : List Entry) (ask : Ask) (judged : JudgedChange) (frame : List ℕ) : Type 0 where
  pub body : Body
  pub made_is : judged.made ≡ Some body
  pub granted : judge header h ask ≡ Ok (record { granted = judged.granted; made = Some body })
  pub payload : List ℕ
  pub is_payload : IsPayload body payload
  pub framed_is : frame ≡ framed payload
  pub kind : is_stored body ≡ true
  pub follows : MayFollow header h body
  pub up : is_down h ≡ false

pub frame_by : (frame other : List ℕ) (o : Option Body) → Some frame ≡ option_map (λ body. other) o → frame ≡ other
frame_by frame other None e = absurd cc
frame_by frame other (Some body) e = same_some frame other e

making_by : (header : Header) (h : List Entry) (ask : Ask) (judged : JudgedChange) (frame : List ℕ) (o : Option Body) → judged.made ≡ o → IsJudged header h ask judged → Some frame ≡ option_map (λ body. judged.frame) o → Making header h ask judged frame
making_by header h ask judged frame None e is gives = absurd cc
making_by header h ask judged frame (Some body) e is gives =
    let same : frame ≡ judged.frame = same_some frame judged.frame gives in
    let frames : Frames (Some body) judged.frame = subst (λ o. Frames o judged.frame) e is.frames in
    let granted : judge header h ask ≡ Ok (record { granted = judged.granted; made = Some body }) = is.granted ∙ ap (λ (o : Option Body). Ok (record { granted = judged.granted; made = o })) e in
    let kind = subst MakesStored granted (judge_stored header h ask) body refl in
    record {
      body = body;
      made_is = e;
      granted = granted;
      payload = frames.0;
      is_payload = frames.1;
      framed_is = same ∙ frames.2;
      kind = kind;
      follows = follows_granted header h ask judged.granted body is.asks kind granted;
      up = granted_is_up header h ask _ granted;
    }

pub making : (header : Header) (h : List Entry) (ask : Ask) (judged : JudgedChange) (frame : List ℕ) → IsJudged header h ask judged → Some frame ≡ option_map (λ body. judged.frame) judged.made → Making header h ask judged frame
making header h ask judged frame is gives = making_by header h ask judged frame judged.made refl is gives

-- ---- it makes no entry

pub none_made : (other : List ℕ) (o : Option Body) → ◌≡◌ {A = Option (List ℕ)} None (option_map (λ body. other) o) → o ≡ None
none_made other None e = refl
none_made other (Some body) e = absurd cc

pub still : (h h1 : List Entry) (who : ℕ) (o : Option Body) → o ≡ None → h1 ≡ h ++ entries_of who (record { entry = o; fault = None }) → h1 ≡ h
still h h1 who o none e = e ∙ ap (λ (o : Option Body). h ++ entries_of who (record { entry = o; fault = None })) none ∙ append-nil h

-- ---- it is entered, and waits

pub holds_entered : (header header1 header2 : Header) (h h1 h2 : List Entry) (n : ℕ) (ask : Ask) (judged : JudgedChange) (frame : List ℕ) (upto : ℕ) (journal after : JournalView) (first m : Meaning)
    → header1 ≡ header → header2 ≡ header1 → h1 ≡ h → h2 ≡ h1 ++ entries_of judged.who (record { entry = judged.made; fault = None }) → (making : Making header h ask judged frame) → disk.IsSound m
    → after ≡ record journal { pending = after.pending } → after.pending.bytes ≡ grown journal.pending.bytes frame
    → (IsTrue m.honest → HoldsParts (with_group journal.size journal.pending.bytes m.state.reads) (bodies h) making.body)
    → Holds first m header h n upto journal → Holds first m header2 h2 n upto after
holds_entered header header1 header2 h h1 h2 n ask judged frame upto journal after first m eh1 eh2 e1 e2 making told same grows parts holds =
    let entry : Entry = entry_by judged.who making.body in
    let now : h2 ≡ h ++ entry ∷ [] = e2 ∙ ap (λ (g : List Entry). g ++ entries_of judged.who (record { entry = judged.made; fault = None })) e1 ∙ ap (λ (o : Option Body). h ++ entries_of judged.who (record { entry = o; fault = None })) making.made_is in
    holds_at first m header header2 (h ++ entry ∷ []) h2 n upto after (eh2 ∙ eh1) now (
      subst (λ (j : JournalView). IsSound (opening_of header j.opening first) (h ++ entry ∷ []) n (reach_of n (left_of upto j.left)) m) (sym same)
          (sound_entered (opening_of header journal.opening first) h n (reach_of n (left_of upto journal.left)) entry m making.kind making.follows holds.1.waits.most holds.0),
      agrees_entered header h n upto entry making.payload frame journal after m told holds.0.legal making.kind making.follows making.is_payload making.framed_is same grows parts holds.1,
    )

-- what it needs of the file, as the repository tells
pub holds_made : {inside now : State} → inside ≡ now → (journal : JournalView) (made : Option Body) (body : Body) → made ≡ Some body → journal.size ≡ size (sealed_part inside.sealed inside.history) → journal.pending.bytes ≡ inside.pending.bytes → HoldsNext now made → IsTrue inside.disk.honest → HoldsParts (with_group journal.size journal.pending.bytes inside.disk.state.reads) (bodies inside.history) body
holds_made {inside} {now} same journal made body is file waits holds honest =
    subst (λ f. HoldsParts f (bodies inside.history) body) (λ i. with_group (sym file i) (sym waits i) inside.disk.state.reads) (subst (HoldsNext inside) is (subst (λ s. HoldsNext s made) (sym same) holds) honest)

some_made : (o : Option Body) (body : Body) → o ≡ Some body → IsSome o
some_made o body e = subst (λ (o : Option Body). IsSome o) (sym e) search

-- the entry leaves room for a fault
pub room_entered : (header : Header) (h h2 : List Entry) (n : ℕ) (ask : Ask) (judged : JudgedChange) (frame : List ℕ) (room : Room) → Making header h ask judged frame → (IsSome judged.made → 1 ≤ room.entries) → HasFaultRoom h2 n room
room_entered header h h2 n ask judged frame room making one = λ up some. one (some_made judged.made making.body making.made_is)

-- ---- its replies

pub granted_replies : (header : Header) (h h1 h2 : List Entry) (who : ℕ) (ask : Ask) (judged : JudgedChange) → h1 ≡ h → h2 ≡ h1 ++ entries_of judged.who (record { entry = judged.made; fault = None }) → judged.who ≡ who → IsJudged header h ask judged
    → Replies header h who (Asks ask) (Grants judged.granted) h2
granted_replies header h h1 h2 who ask judged e1 e2 by is = record {
  made = record { entry = judged.made; fault = None };
  answers = (refl, is.granted);
  new_is = e2 ∙ ap (λ (g : List Entry). g ++ entries_of judged.who (record { entry = judged.made; fault = None })) e1 ∙ ap (λ n. h ++ entries_of n (record { entry = judged.made; fault = None })) by;
}

pub refused_replies : (header : Header) (h h1 : List Entry) (who : ℕ) (ask : Ask) (e : Refusal) → h1 ≡ h → IsRefusal (judge header h ask) e → Replies header h who (Asks ask) (refused e) h1
refused_replies header h h1 who ask e same why =
    subst (λ g. Replies header h who (Asks ask) (refused e) g) (sym same)
    (unmade header h who (Asks ask) (refused e) (elim why as (λ _. Answers header h (Asks ask) (refused e) nothing) [
      | inl memory ↦ subst (λ (x : Refusal). Answers header h (Asks ask) (refused x) nothing) (sym memory) refl
      | inr r ↦ subst (λ a. Answers header h (Asks ask) a nothing) (sym r.2) (refl, r.1)
    ]))

-- the answer to a call that was judged, and was entered or not
pub entered_replies : {header header1 : Header} {h h1 new : List Entry} {room : Room} {who : ℕ} {call : Call} {judged : JudgedChange} {answer : Answer} → JudgesCall header h room who call judged → header1 ≡ header → h1 ≡ h
    → ((ask : Ask) → Judges header1 h1 room judged.who ask judged → Replies header1 h1 judged.who (Asks ask) answer new) → Replies header h who call answer new
entered_replies {header} {header1} {h} {h1} {new} {room} {who} {call} {judged} {answer} j eh e replies =
    let at = subst (λ x. Judges x h room judged.who j.ask judged → Replies x h judged.who (Asks j.ask) answer new) eh
    (subst (λ g. Judges header1 g room judged.who j.ask judged → Replies header1 g judged.who (Asks j.ask) answer new) e (replies j.ask)) in
    for_call j.asks
    (subst (λ w. Replies header h w (Asks j.ask) answer new) j.judges.by (at (subst (λ w. Judges header h room w j.ask judged) (sym j.judges.by) j.judges)))
