-- What is asked by a call that is a change, and how it is judged.
--     IsAskOf header h call ask      the change that the call asks for at h. Of contents that are to be joined any bytes of theirs will do
--     JudgesCall header h room who call judged      it is judged so, and there is room for what it makes
--     RefusesCall header h call e      it is refused so, or memory ran out
use Rattle.std.specs.Prelude.{◌≡◌, ℕ, List}
use Rattle.history_model.specs.History.{Entry}
use Rattle.history_model.specs.Journal.{Header}
use Rattle.reply_model.specs.Reply.{Ask, PutWhole, parts_of, judge}
use Rattle.reply_model.specs.After.{Call, Asks, Joins, Looks, Derives, IsJoining}
use Rattle.repo_calls.specs.declared.refusal.Refusal.{Refusal}
use Rattle.repo_calls.specs.Refusing.{IsRefusal}
use Rattle.repo_machine.specs.Held.{Room}
use Rattle.repo_machine.specs.Judged.{JudgedChange}
use Rattle.repo_machine.specs.Entering.{Judges}

abbrev pub IsAskOf : Header → List Entry → Call → Ask → Type 0
IsAskOf header h (Asks asked) ask = ask ≡ asked
IsAskOf header h (Joins body) ask = (pieces : List (List ℕ)) × IsJoining (parts_of header h body) h pieces × (ask ≡ PutWhole body pieces)
IsAskOf header h (Looks question) ask = ⊥
IsAskOf header h (Derives id) ask = ⊥

pub record JudgesCall (header : Header) (h : List Entry) (room : Room) (who : ℕ) (call : Call) (judged : JudgedChange) : Type 0 where
  pub ask : Ask
  pub asks : IsAskOf header h call ask
  pub judges : Judges header h room who ask judged

pub record RefusesCall (header : Header) (h : List Entry) (call : Call) (e : Refusal) : Type 0 where
  pub ask : Ask
  pub asks : IsAskOf header h call ask
  pub refuses : IsRefusal (judge header h ask) e
