use Rattle.std.proofs.Common.{length, refl, ap, sym, ◌∙◌, arith}
use Rattle.std.specs.Prelude.{is_some}
use Rattle.history_model.specs.History.{Content}
use Rattle.reply_model.specs.Reply.{PutContent, ContentPut}
use Rattle.repo_machine.specs.Held.{repository}
use Rattle.repo_machine.proofs.Judging.{are_bytes-from, judged_known, judged_new, is_absent}
use Rattle.repo_machine.proofs.Granting.{all_prevented}
use Rattle.repo_machine.proofs.Replayed.{can_make, replays_nothing, replays_made}
use Rattle.repo_machine.proofs.machine.Machine.replay_content.Goals as goal

pub returns-then-is_some-clause-ok : goal.returns-then-is_some-clause-ok
returns-then-is_some-clause-ok c =
    replays_nothing c.args.self.now.header c.args.self.now.history c.args.who (PutContent c.args.bytes.now) (are_bytes-from c.args.bytes.now (λ i. omega (arith, c.type_inv.bytes i))) (ContentPut c.args.id)
    (judged_known c.self.invariant.1 (repository c.args.self.now) (ap repository c.self.view_is) c.in_ok-check_up.ensures.ok c.args.bytes.now c.args.id c.requires.id c.requires.short (ap is_some (sym c.length.ensures) ∙ sym c.is_some.ensures ∙ c.if-is_some.true)) _ refl

pub enter_replayed-requires-clause-can : goal.enter_replayed-requires-clause-can
enter_replayed-requires-clause-can c =
    can_make c.args.self.now.header c.args.self.now.history c.args.who (PutContent c.args.bytes.now) (are_bytes-from c.args.bytes.now (λ i. omega (arith, c.type_inv.bytes i))) (ContentPut c.args.id) (Content c.args.id (length c.args.bytes.now))
    (judged_new c.self.invariant.1 (repository c.args.self.now) (ap repository c.self.view_is) c.in_ok-check_up.ensures.ok c.args.bytes.now c.args.id c.requires.id c.requires.short (ap is_some (sym c.length.ensures) ∙ sym c.is_some.ensures ∙ c.if-is_some.false))

pub enter_replayed-requires-clause-new : goal.enter_replayed-requires-clause-new
enter_replayed-requires-clause-new c =
    is_absent c.self.invariant.1 (repository c.args.self.now) (ap repository c.self.view_is) c.in_ok-check_up.ensures.ok c.args.bytes.now c.args.id c.requires.id c.requires.short (ap is_some (sym c.length.ensures) ∙ sym c.is_some.ensures ∙ c.if-is_some.false)

pub returns-clause-ok : goal.returns-clause-ok
returns-clause-ok c =
    replays_made c.args.self.now.header c.args.self.now.history c.args.who (PutContent c.args.bytes.now) (are_bytes-from c.args.bytes.now (λ i. omega (arith, c.type_inv.bytes i))) (ContentPut c.args.id) (Content c.args.id (length c.args.bytes.now))
    (judged_new c.self.invariant.1 (repository c.args.self.now) (ap repository c.self.view_is) c.in_ok-check_up.ensures.ok c.args.bytes.now c.args.id c.requires.id c.requires.short (ap is_some (sym c.length.ensures) ∙ sym c.is_some.ensures ∙ c.if-is_some.false))
    c.enter_replayed.result c.enter_replayed.new.self.history c.enter_replayed.ensures.told c.enter_replayed.ensures.fits c.enter_replayed.ensures.grows

pub returns-clause-err : goal.returns-clause-err
returns-clause-err c =
    all_prevented c.enter_replayed.result c.args.self.now.header c.args.self.now.history (PutContent c.args.bytes.now) (ContentPut c.args.id) (Content c.args.id (length c.args.bytes.now))
    (judged_new c.self.invariant.1 (repository c.args.self.now) (ap repository c.self.view_is) c.in_ok-check_up.ensures.ok c.args.bytes.now c.args.id c.requires.id c.requires.short (ap is_some (sym c.length.ensures) ∙ sym c.is_some.ensures ∙ c.if-is_some.false)) c.enter_replayed.ensures.err
