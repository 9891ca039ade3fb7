use Rattle.std.proofs.Common.{refl, sym, ◌∙◌}
use Rattle.reply_model.specs.Reply.{MergeInRange}
use Rattle.repo_machine.proofs.LandingSteps.{refused_some, refused_none}
use Rattle.repo_machine.proofs.plan_again.check_new_merges.Goals as goal

pub returns-in-Some : goal.returns-in-Some
returns-in-Some c = refused_some _ MergeInRange c.in-Some.id _ (sym c.oldest_merge.ensures ∙ c.in-Some.is) refl

pub returns-in-None : goal.returns-in-None
returns-in-None c = refused_none _ MergeInRange (sym c.oldest_merge.ensures ∙ c.in-None.is)
