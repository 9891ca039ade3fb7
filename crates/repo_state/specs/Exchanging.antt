-- What comes of a planned landing.
--     Exchanges header h who r result new      so at h, which then is new: a moved head is told exactly where no breaking fault is held and the head isn't the planned one; else it is the reply to the landing
use Rattle.std.specs.Prelude.{◌≡◌, ◌≢◌, ◌⊎◌, ℕ, true, false, List, Some}
use Rattle.history_model.specs.History.{Entry, is_down}
use Rattle.history_model.specs.Bookmark.{head}
use Rattle.history_model.specs.Journal.{Header}
use Rattle.reply_model.specs.Reply as reply
use Rattle.reply_model.specs.Reply.{LandDraft}
use Rattle.reply_model.specs.After as answers
use Rattle.reply_model.specs.After.{Answer, Asks, Replies}
use Rattle.repo_calls.specs.Calls.{refused}
use Rattle.repo_machine.specs.Plans.{RebasedLanding, PassesPlan}
use Rattle.repo_state.specs.declared.exchanged.Exchanged.{Exchanged}
use Rattle.repo_state.specs.declared.exchanged.Exchanged.TheVariants.{Landed, HeadMoved, Refused}

abbrev pub RepliesLanding : Header → List Entry → ℕ → RebasedLanding → Answer → List Entry → Type 0
RepliesLanding header h who r answer new = Replies header h who (Asks (LandDraft r.caller r.name r.draft r.asked)) answer new

abbrev pub IsThere : List Entry → RebasedLanding → Type 0
IsThere h r = head h r.name ≡ Some r.old

abbrev pub Exchanges : Header → List Entry → ℕ → RebasedLanding → Exchanged → List Entry → Type 0
Exchanges header h who r (Landed landed) new = IsThere h r × RepliesLanding header h who r (answers.Grants (reply.Landed landed.old landed.ids.items)) new
Exchanges header h who r (HeadMoved found) new = (is_down h ≡ false) × (found ≡ head h r.name) × (found ≢ Some r.old) × (new ≡ h)
Exchanges header h who r (Refused e) new = ((is_down h ≡ true) ⊎ IsThere h r) × PassesPlan e × RepliesLanding header h who r (refused e) new
