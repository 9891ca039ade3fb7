use Rattle.std.proofs.Common.{sym, ap, ◌∙◌}
use Rattle.policy_model.specs.Rules.{bookmark_place}
use Rattle.reply_model.specs.Reply as reply
use Rattle.reply_model.specs.After.{Refuses}
use Rattle.held_policy.proofs.Single.{is_denied_there}
use Rattle.held_policy.proofs.bookmarks.check_move.Goals as goal

pub returns : goal.returns
returns c =
    is_denied_there c.args.rules.now c.args.caller.now (bookmark_place c.args.bookmark.now) _ c.number_of.result (sym c.decide_bookmark-ruling.ensures.allowed ∙ sym c.is_allow.ensures ∙ c.if-is_allow.false)
    (c.number_of.ensures ∙ c.decide_bookmark-ruling.ensures.number) (ap (λ n. Refuses (reply.Denied (bookmark_place n) c.number_of.result)) c.in_ok-copy.ensures)
