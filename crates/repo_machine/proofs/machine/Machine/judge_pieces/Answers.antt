use Rattle.std.proofs.Common.{inl, refl, sym, ap, ◌∙◌}
use Rattle.changeset_model.specs.Version.{is_second}
use Rattle.repo_machine.specs.Held.{repository}
use Rattle.repo_machine.proofs.Asking.{pieces_refused, gives_refused}
use Rattle.repo_machine.proofs.Joining.{gives_passed, pieces_down, bad_parts, old_format, pieces_as}
use Rattle.repo_machine.proofs.machine.Machine.judge_pieces.Goals as goal

pub returns-in_err-check_up-clause-judged : goal.returns-in_err-check_up-clause-judged
returns-in_err-check_up-clause-judged c =
    gives_passed _ _ c.from_residual.result _ c.from_residual.ensures.1 (pieces_down c.args.self.now.header c.args.self.now.history c.args.body.now _ c.in_err-check_up.ensures.err.0 c.in_err-check_up.ensures.err.1)

pub returns-in_err-check_up-clause-refuses : goal.returns-in_err-check_up-clause-refuses
returns-in_err-check_up-clause-refuses c =
    gives_refused _ c.args.self.now.header c.args.self.now.history c.check_up.ensures.legal c.args.body.now c.from_residual.result (returns-in_err-check_up-clause-judged c)

pub returns-then-not-is_parts_length-clause-judged : goal.returns-then-not-is_parts_length-clause-judged
returns-then-not-is_parts_length-clause-judged c =
    bad_parts c.args.self.now.header c.args.self.now.history c.args.body.now c.in_ok-check_up.ensures.ok (sym c.is_parts_length.ensures ∙ c.if-not-is_parts_length.true)

pub returns-then-not-is_parts_length-clause-refuses : goal.returns-then-not-is_parts_length-clause-refuses
returns-then-not-is_parts_length-clause-refuses c =
    pieces_refused c.args.self.now.header c.args.self.now.history c.check_up.ensures.legal c.args.body.now _ (returns-then-not-is_parts_length-clause-judged c)

pub returns-then-not-is_second-clause-judged : goal.returns-then-not-is_second-clause-judged
returns-then-not-is_second-clause-judged c =
    old_format c.args.self.now.header c.args.self.now.history c.args.body.now c.in_ok-check_up.ensures.ok (sym c.is_parts_length.ensures ∙ c.if-not-is_parts_length.false)
    (sym (c.is_second.ensures ∙ ap (λ m. is_second m.header.version) c.self.view_is) ∙ c.if-not-is_second.true)

pub returns-then-not-is_second-clause-refuses : goal.returns-then-not-is_second-clause-refuses
returns-then-not-is_second-clause-refuses c =
    pieces_refused c.args.self.now.header c.args.self.now.history c.check_up.ensures.legal c.args.body.now _ (returns-then-not-is_second-clause-judged c)

pub returns-in_err-ids-clause-judged : goal.returns-in_err-ids-clause-judged
returns-in_err-ids-clause-judged c = gives_passed _ _ c.from_residual-in_err-ids.result _ c.from_residual-in_err-ids.ensures.1 (inl refl)

pub returns-in_err-ids-clause-refuses : goal.returns-in_err-ids-clause-refuses
returns-in_err-ids-clause-refuses c =
    gives_refused _ c.args.self.now.header c.args.self.now.history c.check_up.ensures.legal c.args.body.now c.from_residual-in_err-ids.result (returns-in_err-ids-clause-judged c)

pub returns-clause-judged : goal.returns-clause-judged
returns-clause-judged c =
    pieces_as c.self.inside.contents c.self.invariant.1 c.self.invariant.5 (repository c.args.self.now) (ap repository c.self.view_is) _ c.args.body.now _ c.pieces.result c.in_ok-check_up.ensures.ok (sym c.is_parts_length.ensures ∙ c.if-not-is_parts_length.false)
    (sym (c.is_second.ensures ∙ ap (λ m. is_second m.header.version) c.self.view_is) ∙ c.if-not-is_second.false) (c.as_slice.ensures.value ∙ c.in_ok-ids.ensures) c.pieces.ensures.checked

pub returns-clause-refuses : goal.returns-clause-refuses
returns-clause-refuses c =
    gives_refused _ c.args.self.now.header c.args.self.now.history c.check_up.ensures.legal c.args.body.now c.pieces.result (returns-clause-judged c)
