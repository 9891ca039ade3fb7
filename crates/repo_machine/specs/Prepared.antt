-- Changes that are made ready where no machine is at hand.
--     IsRefusedAs ask e      it is refused so at each history at which no disk has failed
--     IsReadyContent bytes id frame, IsReadyChangeset c frame      an upload that may be judged, with its record
--     content_in frame      the bytes of the content that a record is of
--     IsReadyAsk ask ready      this is ready of the change;  IsReadyTo call ready      and of the call that is one
--     IsReadyToJoin ready      nothing is ready of contents that are to be joined
--     asked_by p      the call that is the change;  IsPrepared p      what it has is ready of it;  IsPreparedFor call p      so it is, and this is the change
use Rattle.std.specs.Prelude.{◌≡◌, ◌≤◌, ℕ, ◌-◌, true, false, List, length, take, drop, Some, Ok, Err}
use Rattle.std.specs.Arc.{arc_value}
use Rattle.sha2.specs.Sha256.{sha256}
use Rattle.byte_fields.specs.Bytes.{Id, are_bytes}
use Rattle.changeset_model.specs.Changeset.{Changeset, spelling, most_content}
use Rattle.changeset_model.specs.Decoding.{decoded}
use Rattle.history_model.specs.History.{Content, Change, Entry, is_down}
use Rattle.history_model.specs.Journal.{Header}
use Rattle.reply_model.specs.Reply as reply
use Rattle.reply_model.specs.Reply.{Ask, judge}
use Rattle.reply_model.specs.After.{Refuses, Call, Asks, Joins, Looks, Derives}
use Rattle.repo_calls.specs.Calls.{call_seen, refused}
use Rattle.repo_calls.specs.declared.refusal.Refusal as refusals
use Rattle.repo_machine.specs.declared.prepared.Prepared.{Prepared}
use Rattle.repo_machine.specs.declared.prepared.Ready.{Ready}
use Rattle.repo_machine.specs.declared.prepared.Ready.TheVariants as ready
use Rattle.repo_machine.specs.declared.policies.ReadText.{ReadText}
use Rattle.repo_machine.specs.Policies.{IsReadOf}
use Rattle.repo_machine.specs.Judged.{Frames}

pub record IsRefusedAs (ask : Ask) (e : refusals.Refusal) : Type 0 where
  pub refusal : reply.Refusal
  pub same : refused e ≡ Refuses refusal
  pub always : (header : Header) (h : List Entry) → is_down h ≡ false → judge header h ask ≡ Err refusal

pub record IsReadyContent (bytes : List ℕ) (id : Id) (frame : List ℕ) : Type 0 where
  pub id_is : id ≡ sha256 bytes
  pub short : length bytes ≤ most_content
  pub frames : Frames (Some (Content id (length bytes))) frame

-- behind the payload's length and a mark, and before the gate
abbrev pub content_in : List ℕ → List ℕ
content_in frame = drop 5 (take (length frame - 1) frame)

pub record IsReadyChangeset (c : Changeset) (frame : List ℕ) : Type 0 where
  pub decodes : decoded (spelling c) ≡ Ok c
  pub are : are_bytes (spelling c) ≡ true
  pub frames : Frames (Some (Change c)) frame

abbrev pub IsContentOf : Ask → Id → List ℕ → Type 0
IsContentOf (reply.PutContent bytes) id frame = IsReadyContent bytes id frame
IsContentOf (reply.PutWhole body pieces) id frame = ⊥
IsContentOf (reply.PutChangeset bytes) id frame = ⊥
IsContentOf (reply.SetBookmark caller name from to) id frame = ⊥
IsContentOf (reply.LandDraft caller name draft moment) id frame = ⊥
IsContentOf (reply.SetPolicy caller text) id frame = ⊥

abbrev pub IsChangesetOf : Ask → Changeset → List ℕ → Type 0
IsChangesetOf (reply.PutContent bytes) c frame = ⊥
IsChangesetOf (reply.PutWhole body pieces) c frame = ⊥
IsChangesetOf (reply.PutChangeset bytes) c frame = (spelling c ≡ bytes) × IsReadyChangeset c frame
IsChangesetOf (reply.SetBookmark caller name from to) c frame = ⊥
IsChangesetOf (reply.LandDraft caller name draft moment) c frame = ⊥
IsChangesetOf (reply.SetPolicy caller text) c frame = ⊥

abbrev pub IsNoUpload : Ask → Type 0
IsNoUpload (reply.PutContent bytes) = ⊥
IsNoUpload (reply.PutWhole body pieces) = ⊥
IsNoUpload (reply.PutChangeset bytes) = ⊥
IsNoUpload (reply.SetBookmark caller name from to) = Unit {0}
IsNoUpload (reply.LandDraft caller name draft moment) = Unit {0}
IsNoUpload (reply.SetPolicy caller text) = ⊥

abbrev pub IsPolicyOf : Ask → ReadText → Type 0
IsPolicyOf (reply.PutContent bytes) read = ⊥
IsPolicyOf (reply.PutWhole body pieces) read = ⊥
IsPolicyOf (reply.PutChangeset bytes) read = ⊥
IsPolicyOf (reply.SetBookmark caller name from to) read = ⊥
IsPolicyOf (reply.LandDraft caller name draft moment) read = ⊥
IsPolicyOf (reply.SetPolicy caller text) read = IsReadOf caller text read

abbrev pub IsReadyAsk : Ask → Ready → Type 0
IsReadyAsk ask (ready.Refused refusal) = IsRefusedAs ask refusal
IsReadyAsk ask (ready.Content id frame) = IsContentOf ask id frame.items
IsReadyAsk ask (ready.Changeset framed) = IsChangesetOf ask (arc_value framed.commit) framed.frame.items
IsReadyAsk ask (ready.Policy read) = IsPolicyOf ask read
IsReadyAsk ask ready.Asked = IsNoUpload ask

abbrev pub IsReadyToJoin : Ready → Type 0
IsReadyToJoin (ready.Refused refusal) = ⊥
IsReadyToJoin (ready.Content id frame) = ⊥
IsReadyToJoin (ready.Changeset framed) = ⊥
IsReadyToJoin (ready.Policy read) = ⊥
IsReadyToJoin ready.Asked = Unit {0}

abbrev pub IsReadyTo : Call → Ready → Type 0
IsReadyTo (Asks ask) ready = IsReadyAsk ask ready
IsReadyTo (Joins body) ready = IsReadyToJoin ready
IsReadyTo (Looks question) ready = ⊥
IsReadyTo (Derives id) ready = ⊥

abbrev pub asked_by : Prepared → Call
asked_by p = call_seen p.ask.now

abbrev pub IsPrepared : Prepared → Type 0
IsPrepared p = IsReadyTo (asked_by p) p.ready

pub record IsPreparedFor (call : Call) (p : Prepared) : Type 0 where
  pub asks : asked_by p ≡ call
  pub prepared : IsPrepared p
