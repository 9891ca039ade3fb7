-- What a change that is granted makes of an entry.
use Rattle.std.proofs.Common.{◌≡◌, ◌≢◌, ℕ, ◌≤◌, false, List, [], ◌∷◌, refl, sym, ap, ◌∙◌}
use Rattle.history_model.specs.History.{Entry, is_down}
use Rattle.bookmark_lock.specs.Opening.{Opening}
use Rattle.reply_model.specs.Log.{LogLine, log_lines}
use Rattle.reply_model.specs.Reply.{Granted}
use Rattle.std.specs.Option.{option_to_list}
use Rattle.reply_model.specs.After.{Grants, Replies, entry_by}
use Rattle.landing_core.proofs.Down.{down-stored}
use Rattle.follower.specs.declared.replayed.Replayed.TheVariants.{Differs, Memory}
use Rattle.follower.specs.Making.{call_of, count, MadeFor, Remains}
use Rattle.follower.specs.Replaying.{IsReplayed}
use Rattle.follower.proofs.Entries.{told_is_stored}
use Rattle.follower.proofs.Logged.{MadeSo, other_line, remains_made, same_line}
use Rattle.follower.proofs.Refused.{GrantedSo, granted_made, is_change}

module _ (opening : Opening) (h mid after : List Entry) (line : LogLine) (fetched : List ℕ) (granted : Granted) (sealed number : ℕ)
    (reply : Replies opening.header h 0 (call_of line fetched) (Grants granted) mid) (same : after ≡ mid) (most : sealed ≤ count h) (is : number ≡ count h) where
  so : GrantedSo h reply.made
  so = granted_made opening.header h (call_of line fetched) granted reply.made (is_change line fetched) reply.answers

  abbrev makes : MadeFor opening.header h line fetched (option_to_list reply.made.entry)
  makes = record { answer = Grants granted; made = reply.made; answers = reply.answers; extra_is = refl }

  left_over : Remains (option_to_list reply.made.entry) h [] after sealed
  left_over = remains_made h after reply.made sealed so (same ∙ reply.new_is) most

  pub uncompared : IsReplayed opening h line fetched after sealed Memory
  uncompared = (option_to_list reply.made.entry, makes, left_over)

  pub differs : log_lines mid number ≢ line ∷ [] → IsReplayed opening h line fetched after sealed Differs
  differs other = (
    option_to_list reply.made.entry,
    record { answered = makes; another = other_line h mid line reply.made so reply.new_is (λ told. other (ap (log_lines mid) is ∙ told)) },
    left_over,
  )

  pub made_so : log_lines mid number ≡ line ∷ [] → MadeSo opening.header h line fetched mid
  made_so told = same_line opening.header h mid line fetched granted reply.made so reply.answers reply.new_is (ap (log_lines mid) (sym is) ∙ told)

  pub still_up : MadeSo opening.header h line fetched mid → is_down after ≡ false
  still_up made = ap is_down (same ∙ made.after_is) ∙ down-stored h (entry_by 0 made.body) (told_is_stored made.body line made.makes.told) ∙ so.up
