use Rattle.std.proofs.Common.{◌≡◌, ◌↔◌, IsTrue, List, [], ◌∷◌, ap, ◌∙◌, subst}
use Rattle.reply_model.specs.Log.{LogLine}
use Rattle.repo_calls.specs.Calls.{line_seen, lines_seen}
use Rattle.follower.proofs.replay.is_told.Goals as goal

pub returns-clause-told : goal.returns-clause-told
returns-clause-told g c =
    subst (λ (lines : List LogLine). IsTrue c.is_only.result ↔ (lines ≡ line_seen c.args.entry.now ∷ [])) (ap lines_seen c.as_slice.ensures.value ∙ c.in_ok-page.ensures.page) c.is_only.ensures
