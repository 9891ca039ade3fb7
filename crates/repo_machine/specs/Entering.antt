-- An entry more.
--     CanMake header h body      some change makes this entry, if there is room for it
--     IsNew h body      what the entry brings isn't there yet
--     Enterable header h body      the entry may be entered
--     IsPrepared header h room who granted body judged      it is judged to be made, and there is room
--     Prevents header h body e      why it isn't made: its record doesn't fit, or memory ran out
--     IsJudgedHere header h judged      some change is judged so
--     Judges header h room who ask judged      this change is judged so, and there is room for what it makes
use Rattle.std.specs.Prelude.{◌≡◌, ◌⊎◌, ◌≤◌, ◌<◌, ◌+◌, ℕ, true, false, List, Option, None, Some}
use Rattle.std.specs.List.{AllByRecursion}
use Rattle.changeset_model.specs.Changeset.{id_of}
use Rattle.history_model.specs.History.{Body, Content, Whole, Change, Book, Land, Policy, Fault, Entry, known, is_known, content_len}
use Rattle.history_model.specs.Journal.{Header, payload_len}
use Rattle.history_model.specs.Journal as journal
use Rattle.reply_model.specs.Reply.{Ask, is_ask, Granted, judge, entered}
use Rattle.changeset_store.specs.Grown.{CanAdd}
use Rattle.repo_calls.specs.declared.refusal.Refusal.{Refusal}
use Rattle.repo_calls.specs.declared.refusal.Refusal.TheVariants.{Full, Memory}
use Rattle.repo_machine.specs.Held.{Room, HasRoom}
use Rattle.repo_machine.specs.Judged.{JudgedChange, Frames, IsJudged}

pub record CanMake (header : Header) (h : List Entry) (body : Body) : Type 0 where
  pub ask : Ask
  pub granted : Granted
  pub asks : is_ask h ask ≡ true
  pub judged : judge header h ask ≡ entered header h granted body

abbrev pub IsNew : List Entry → Body → Type 0
IsNew h (Content x n) = content_len h x ≡ None
IsNew h (Whole x n parts) = content_len h x ≡ None
IsNew h (Change c) = (is_known (known h) (id_of c) ≡ false) × AllByRecursion (λ p. is_known (known h) p ≡ true) c.parents
IsNew h (Book move) = Unit {0}
IsNew h (Land landing) = CanAdd (known h) landing.new
IsNew h (Policy caller text) = Unit {0}
IsNew h (Fault breaking) = ⊥

pub record Enterable (header : Header) (h : List Entry) (body : Body) : Type 0 where
  pub can : CanMake header h body
  pub new : IsNew h body
  pub fits : journal.size h + 5 + payload_len body ≤ header.capacity

pub record IsPrepared (header : Header) (h : List Entry) (room : Room) (who : ℕ) (granted : Granted) (body : Body) (judged : JudgedChange) : Type 0 where
  pub by : judged.who ≡ who
  pub granted_is : judged.granted ≡ granted
  pub made_is : judged.made ≡ Some body
  pub frames : Frames (Some body) judged.frame
  pub fits : journal.size h + 5 + payload_len body ≤ header.capacity
  pub room_for : HasRoom room (Some body)

abbrev pub Prevents : Header → List Entry → Body → Refusal → Type 0
Prevents header h body e = (e ≡ Memory) ⊎ ((e ≡ Full (journal.size h) (payload_len body)) × (header.capacity < journal.size h + 5 + payload_len body))

abbrev pub Enters : Header → List Entry → Option Body → Type 0
Enters header h None = Unit {0}
Enters header h (Some body) = Enterable header h body

pub record IsJudgedHere (header : Header) (h : List Entry) (judged : JudgedChange) : Type 0 where
  pub ask : Ask
  pub is_judged : IsJudged header h ask judged
  pub enters : Enters header h judged.made

pub record Judges (header : Header) (h : List Entry) (room : Room) (who : ℕ) (ask : Ask) (judged : JudgedChange) : Type 0 where
  pub by : judged.who ≡ who
  pub is_judged : IsJudged header h ask judged
  pub enters : Enters header h judged.made
  pub room_for : HasRoom room judged.made
