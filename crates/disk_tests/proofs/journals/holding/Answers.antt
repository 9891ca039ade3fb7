use Rattle.std.proofs.Common.{length, ap, subst, sym, ◌∙◌}
use Rattle.repo_journal.specs.Groups.{IsGroup, grown}
use Rattle.disk_tests.proofs.Held.{both_held, grown_length}
use Rattle.disk_tests.proofs.journals.holding.Goals as goal

pub returns-clause-group : goal.returns-clause-group
returns-clause-group c =
    let one = c.in_ok-hold.ensures.bytes ∙ ap (λ j. grown j.pending.bytes c.args.first.now) c.new-journal.ensures in
    let both = c.in_ok-hold-2.ensures.bytes ∙ ap (λ bytes. grown bytes c.args.second.now) one in
    subst IsGroup (sym both) (both_held c.args.first.now c.args.second.now c.requires.first c.requires.second)

pub returns-clause-len : goal.returns-clause-len
returns-clause-len c =
    let one = c.in_ok-hold.ensures.bytes ∙ ap (λ j. grown j.pending.bytes c.args.first.now) c.new-journal.ensures in
    let both = c.in_ok-hold-2.ensures.bytes ∙ ap (λ bytes. grown bytes c.args.second.now) one in
    ap length both ∙ grown_length c.args.first.now c.args.second.now
