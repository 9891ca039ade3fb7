-- What sealing makes of an entry that was made.
use Rattle.std.proofs.Common.{◌≡◌, ℕ, ◌+◌, ◌≤◌, Bool, true, false, cond, List, [], ◌∷◌, ◌++◌, length, refl, ap, ◌∙◌, arith, length-append}
use Rattle.std.proofs.lemmas.List.{append-nil}
use Rattle.history_model.specs.History.{Fault, Entry, bodies}
use Rattle.history_model.specs.Journal.{Header}
use Rattle.bookmark_lock.specs.Opening.{Opening}
use Rattle.reply_model.specs.Log.{LogLine}
use Rattle.reply_model.specs.After.{entry_by}
use Rattle.reply_model.proofs.Histories.{bodies-append}
use Rattle.follower.specs.declared.replayed.Replayed.TheVariants.{Same, DiskFault}
use Rattle.follower.specs.Making.{count}
use Rattle.repo_state.specs.State.{after_seal, breaks}
use Rattle.follower.specs.Replaying.{IsReplayed}
use Rattle.follower.proofs.Entries.{bodies-push, told_is_stored}
use Rattle.follower.proofs.Logged.{MadeSo}

bodies_made : (header : Header) (h mid : List Entry) (line : LogLine) (fetched : List ℕ) (so : MadeSo header h line fetched mid) → bodies mid ≡ bodies h ++ so.body ∷ []
bodies_made header h mid line fetched so = ap bodies so.after_is ∙ bodies-push h so.body (told_is_stored so.body line so.makes.told)

pub made_one : (header : Header) (h mid : List Entry) (line : LogLine) (fetched : List ℕ) → MadeSo header h line fetched mid → count mid ≡ count h + 1
made_one header h mid line fetched so = ap length (bodies_made header h mid line fetched so) ∙ length-append (bodies h) (so.body ∷ [])

pub sealed_entry : (opening : Opening) (h mid after : List Entry) (line : LogLine) (fetched : List ℕ) (sealed : ℕ) → MadeSo opening.header h line fetched mid → after ≡ mid → sealed ≡ count mid → IsReplayed opening h line fetched after sealed Same
sealed_entry opening h mid after line fetched sealed so same most =
    let size = made_one opening.header h mid line fetched so in
    (so.body, so.makes, same ∙ so.after_is, omega arith)

sealing_less : (mid : List Entry) (b : Bool) → bodies (cond b (mid ++ entry_by 0 (Fault true) ∷ []) mid) ≡ bodies mid
sealing_less mid true = bodies-append mid (entry_by 0 (Fault true) ∷ []) ∙ append-nil (bodies mid)
sealing_less mid false = refl

pub unsealed_entry : (opening : Opening) (h mid after : List Entry) (line : LogLine) (fetched : List ℕ) (sealed : ℕ) → MadeSo opening.header h line fetched mid → after ≡ after_seal 0 true mid → sealed ≤ count h + 1 → IsReplayed opening h line fetched after sealed DiskFault
unsealed_entry opening h mid after line fetched sealed so is most = (
  so.body ∷ [],
  so.makes,
  record {
    entries = ap bodies is ∙ sealing_less mid (breaks true mid) ∙ bodies_made opening.header h mid line fetched so;
    apart = omega arith;
    whole = λ down. refl;
  },
)
