-- The answers to a call for contents to be joined.
use Rattle.std.proofs.Common.{◌≡◌, ℕ, Bool, true, false, List, refl, sym, ap, subst, ◌∙◌, append-nil}
use Rattle.std.specs.Prelude.{IsTrue, Option, None, Some, Result, Ok, Err}
use Rattle.byte_fields.specs.Bytes.{Id, are_bytes}
use Rattle.disk_model.specs.Calls.{Kept, Looked}
use Rattle.history_model.specs.History.{Body, Whole, Entry, bodies, is_down}
use Rattle.history_model.specs.Journal.{Header, HoldsParts, size}
use Rattle.opening_laws.proofs.Made.{MakesEach, Fitting, MadeBy, judge_makes}
use Rattle.reply_model.proofs.Opened.{parts_held}
use Rattle.repo_journal.specs.Groups.{with_group}
use Rattle.reply_model.specs.Reply as reply
use Rattle.reply_model.specs.Reply.{PutWhole, ◌>>=◌, refuse_if, Down, parts_of, are_pieces, judge}
use Rattle.reply_model.specs.After.{Asks, Joins, Answer, Replies, IsJoining, MayRead, nothing, only_fault}
use Rattle.content_table.specs.declared.part.Part.{Part}
use Rattle.repo_calls.specs.Asking.{stored_answer}
use Rattle.repo_calls.specs.Calls.{refused}
use Rattle.repo_calls.specs.Refusing.{IsRefusal}
use Rattle.repo_calls.specs.declared.calls.ChangeFault.{ChangeFault}
use Rattle.repo_calls.specs.declared.calls.ChangeFault.TheVariants.{Refused, DiskFault, ReadFault, BadBytes}
use Rattle.repo_calls.specs.declared.refusal.Refusal.{Refusal}
use Rattle.repo_machine.specs.Asked.{IsAskOf}
use Rattle.repo_machine.specs.Entering.{Judges}
use Rattle.repo_machine.specs.Held.{Room}
use Rattle.repo_machine.specs.Judged.{JudgedChange}
use Rattle.repo_machine.specs.Wholes.{pieces_judged, IsWholeOf}
use Rattle.repo_machine.specs.declared.found.Joined.{Joined}
use Rattle.repo_state.specs.Cores.{StoresCall}
use Rattle.repo_state.specs.Images.{sealed_part}
use Rattle.repo_state.specs.Joining.{ids_of, Holds, IsJoinOf, JoinFails}
use Rattle.repo_state.specs.State.{State, laid}
use Rattle.repo_state.proofs.Asked.{for_call}
use Rattle.repo_state.proofs.Stepping.{looks_done, looks_fault, refused_call}
use Rattle.repo_state.proofs.Storing.{entered_replies, refused_replies}

-- ---- what may be read

may_read_by : (down : Bool) (r : Result (List Id) reply.Refusal) (ids : List Id) → (refuse_if down Down >>= λ _. r) ≡ Ok ids → (down ≡ false) × (r ≡ Ok ids)
may_read_by true r ids e = absurd cc
may_read_by false r ids e = (refl, e)

pub may_read : (header : Header) (h : List Entry) (body : List ℕ) (ids : List Id) → pieces_judged header h body ≡ Ok ids → MayRead header h body ids
may_read header h body ids e = may_read_by (is_down h) (parts_of header h body) ids e

-- ---- they weren't joined

pub join_replies : (header : Header) (h new : List Entry) (who : ℕ) (body : List ℕ) (ids : List Id) (fault : ChangeFault) → MayRead header h body ids → JoinFails h who ids fault new → Replies header h who (Joins body) (stored_answer (Err fault)) new
join_replies header h new who body ids (Refused refusal) may fails =
    subst (λ (e : Refusal). Replies header h who (Joins body) (refused e) new) (sym fails.0)
    (record { made = nothing; answers = refl; new_is = fails.1 ∙ sym (append-nil h) })
join_replies header h new who body ids DiskFault may fails = absurd fails
join_replies header h new who body ids ReadFault may fails = record { made = only_fault false; answers = (refl, ids, may); new_is = fails }
join_replies header h new who body ids (BadBytes wanted found) may fails = record { made = nothing; answers = (refl, ids, may, fails.0, fails.1); new_is = fails.2 ∙ sym (append-nil h) }

pub join_core : (header : Header) (h new : List Entry) (n who : ℕ) (body : List ℕ) (ids : List Id) (fault : ChangeFault) → MayRead header h body ids → JoinFails h who ids fault new → StoresCall header h n who (Joins body) (stored_answer (Err fault)) new
join_core header h new n who body ids (Refused refusal) may fails = refused_call header h n who (Joins body) refusal new (join_replies header h new who body ids (Refused refusal) may fails)
join_core header h new n who body ids DiskFault may fails = absurd fails
join_core header h new n who body ids ReadFault may fails = looks_fault header h new n who fails
join_core header h new n who body ids (BadBytes wanted found) may fails = looks_done header h new n who fails.2

-- ---- they were

pub whole_of : (header : Header) (body : List ℕ) (parts : List Part) (s : State) (whole : Joined) → are_bytes body ≡ true → MayRead header s.history body (ids_of parts) → (join : IsJoinOf s parts whole) → IsWholeOf header s.history body join.pieces whole
whole_of header body parts s whole bytes may join = record {
  bytes = bytes;
  asked = may.1 ∙ ap Ok (sym join.parts_are);
  joined = record {
    are = ap (λ xs. are_pieces s.history xs join.pieces) join.parts_are ∙ join.joined.are;
    id_is = join.joined.id_is;
    length_is = join.joined.length_is;
  };
}

asked_whole : (header : Header) (h : List Entry) (body : List ℕ) (ids : List Id) (pieces : List (List ℕ)) → MayRead header h body ids → are_pieces h ids pieces ≡ true → IsAskOf header h (Joins body) (PutWhole body pieces)
asked_whole header h body ids pieces may are = (pieces, subst (λ r. IsJoining r h pieces) (sym may.1) are, refl)

-- what holds at other names of the same header and history
moved : {header header1 : Header} {h h1 : List Entry} (P : Header → List Entry → Type 0) → header1 ≡ header → h1 ≡ h → P header h → P header1 h1
moved {header} {header1} {h} {h1} P eh e p = subst (λ x. P x h1) (sym eh) (subst (λ g. P header g) (sym e) p)

module _ {header1 : Header} {h1 : List Entry} (now : State) (body : List ℕ) (parts : List Part) (whole : Joined) (bytes : are_bytes body ≡ true) (may : MayRead now.header now.history body (ids_of parts)) (join : IsJoinOf now parts whole) (eh : header1 ≡ now.header) (e : h1 ≡ now.history) where
  pub whole_there : IsWholeOf header1 h1 body join.pieces whole
  whole_there = moved (λ header h. IsWholeOf header h body join.pieces whole) eh e (whole_of now.header body parts now whole bytes may join)

  asks : IsAskOf now.header now.history (Joins body) (PutWhole body join.pieces)
  asks = asked_whole now.header now.history body (ids_of parts) join.pieces may join.joined.are

  -- ---- the whole is refused

  pub whole_refused : (who : ℕ) (refusal : Refusal) (new : List Entry) → new ≡ h1 → ((body : List ℕ) (pieces : List (List ℕ)) → IsWholeOf header1 h1 body pieces whole → IsRefusal (judge header1 h1 (PutWhole body pieces)) refusal) → Replies now.header now.history who (Joins body) (refused refusal) new
  whole_refused who refusal new same refuses =
      for_call asks
      (refused_replies now.header now.history new who (PutWhole body join.pieces) refusal (same ∙ e)
      (moved (λ header h. IsRefusal (judge header h (PutWhole body join.pieces)) refusal) (sym eh) (sym e) (refuses body join.pieces whole_there)))

  -- ---- or it is judged

  module _ (room : Room) (who : ℕ) (judged : JudgedChange) (judges : (body : List ℕ) (pieces : List (List ℕ)) → IsWholeOf header1 h1 body pieces whole → Judges header1 h1 room who (PutWhole body pieces) judged) where
    there : Judges header1 h1 room who (PutWhole body join.pieces) judged
    there = judges body join.pieces whole_there

    here : Judges now.header now.history room who (PutWhole body join.pieces) judged
    here = moved (λ header h. Judges header h room who (PutWhole body join.pieces) judged) (sym eh) (sym e) there

    pub may_enter : {header2 : Header} {h2 : List Entry} → header2 ≡ header1 → h2 ≡ h1 → (ask : reply.Ask) × Judges header2 h2 room judged.who ask judged
    may_enter {header2} {h2} eh2 e2 = (PutWhole body join.pieces, moved (λ header h. Judges header h room judged.who (PutWhole body join.pieces) judged) eh2 e2 (subst (λ w. Judges header1 h1 room w (PutWhole body join.pieces) judged) (sym there.by) there))

    pub entered_whole : {header2 : Header} {h2 new : List Entry} {answer : Answer} → header2 ≡ header1 → h2 ≡ h1 → ((ask : reply.Ask) → Judges header2 h2 room judged.who ask judged → Replies header2 h2 judged.who (Asks ask) answer new) → Replies now.header now.history who (Joins body) answer new
    entered_whole eh2 e2 replies = entered_replies (record { ask = PutWhole body join.pieces; asks = asks; judges = here }) (eh2 ∙ eh) (e2 ∙ e) replies

    -- its entry has what the file and what waits have of the parts
    pub whole_holds : Holds now judged.made
    whole_holds = by judged.made refl
      where
        by : (o : Option Body) → judged.made ≡ o → Holds now o
        by None none = tt
        by (Some made) some =
            let judged_is = here.is_judged.granted ∙ ap (λ (o : Option Body). Ok (record { granted = judged.granted; made = o })) some in
            let is = (subst (MakesEach (Fitting now.header now.history (MadeBy now.history (PutWhole body join.pieces)))) judged_is (judge_makes now.header now.history (PutWhole body join.pieces)) made refl).0.3 in
            let ids = (parts_held now.header now.history body (ids_of parts) may.1).0 in
            let same : Whole whole.id whole.length (ids_of parts) ≡ made = (λ i. Whole (join.joined.id_is i) (join.joined.length_is i) (sym ids i)) ∙ sym is in
            subst (λ b. Holds now (Some b)) same join.holds

-- the same after the disk was read
pub holds_moved : (now new : State) (made : Option Body) → new.history ≡ now.history → new.sealed ≡ now.sealed → new.pending ≡ now.pending → Kept now.disk new.disk → Looked now.disk new.disk → Holds now made → Holds new made
holds_moved now new None history sealed pending kept looked holds = tt
holds_moved now new (Some body) history sealed pending kept looked holds = λ honest.
    (let was : IsTrue now.disk.honest = sym kept.honest ∙ honest in
    let same : laid new ≡ laid now = (λ i. with_group (size (sealed_part (sealed i) (history i))) (pending i).bytes (looked was i).reads) in
    subst (λ f. HoldsParts f (bodies new.history) body) (sym same) (subst (λ g. HoldsParts (laid now) (bodies g) body) (sym history) (holds was)))
