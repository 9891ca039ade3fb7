use Rattle.std.proofs.Common.{◌≡◌, true, refl, sym, subst}
use Rattle.history_model.specs.Journal.{is_header}
use Rattle.reply_model.specs.Legal.{IsLegal}
use Rattle.settled_merge.proofs.Known.{manifests_first}
use Rattle.repository_tests.proofs.replays.entered.Goals as goal

pub enter_all-requires-clause-manifests : goal.enter_all-requires-clause-manifests
enter_all-requires-clause-manifests g c =
    let header = c.new-machine.result.header in
    manifests_first header c.new-machine.result.history c.new-manifests.result
    (subst (λ header. is_header header ≡ true) (sym c.new-machine.ensures.header) refl)
    (subst (IsLegal header) (sym c.new-machine.ensures.history) tt)
    c.new-manifests.ensures.manifests
