use Rattle.std.proofs.Common.{◌≤◌, true, false, sym, ap, subst, ◌∙◌}
use Rattle.std.specs.Prelude.{is_some, IfOk, IfErr}
use Rattle.changeset_store.proofs.Numbering.{not_some}
use Rattle.history_model.specs.History.{Whole}
use Rattle.history_model.specs.Journal.{payload_len}
use Rattle.reply_model.specs.Reply.{PutWhole, WholePut}
use Rattle.repo_machine.specs.Entering.{IsPrepared, Prevents}
use Rattle.repo_machine.specs.Held.{repository}
use Rattle.repo_machine.proofs.Granting.{judges_nothing, judges_made, if_ok, all_prevented}
use Rattle.repo_machine.proofs.Joining.{lengths_as, whole_asked, whole_judged, whole_short, few_parts}
use Rattle.repo_machine.proofs.machine.Machine.judge_whole.Goals as goal

pub framed_whole-requires-clause-short : goal.framed_whole-requires-clause-short
framed_whole-requires-clause-short c = whole_short _ _ c.requires.read.0 c.requires.read.1 c.args.whole c.requires.read.2

pub framed_whole-requires-clause-few : goal.framed_whole-requires-clause-few
framed_whole-requires-clause-few c = few_parts _ _ c.requires.read.0 c.requires.read.1 c.args.whole c.requires.read.2

pub make_framed-requires-clause-short : goal.make_framed-requires-clause-short
make_framed-requires-clause-short c =
    subst (λ body. payload_len body ≤ 16_777_216) (sym c.in_ok-made.ensures.made) (whole_short _ _ c.requires.read.0 c.requires.read.1 c.args.whole c.requires.read.2)

pub returns-then-is_some-clause-ok : goal.returns-then-is_some-clause-ok
returns-then-is_some-clause-ok c = λ body pieces w.
    let header = c.args.self.now.header in
    let h = c.args.self.now.history in
    let whole = c.args.whole in
    let known = ap is_some (sym (lengths_as c.self.inside.contents c.self.invariant.1 c.self.invariant.5 (repository c.args.self.now) (ap repository c.self.view_is) whole.id)) ∙ ap is_some (sym c.length.ensures) ∙ sym c.is_some.ensures ∙ c.if-is_some.true in
    judges_nothing header h c.args.self.now.room c.args.who (PutWhole body pieces) (whole_asked header h body pieces whole w) (WholePut whole.id whole.length)
    (whole_judged header h body pieces whole w c.in_ok-check_up.ensures.ok true known) c.unchanged.result c.unchanged.ensures

pub returns-clause-ok : goal.returns-clause-ok
returns-clause-ok c = λ body pieces w.
    let header = c.args.self.now.header in
    let h = c.args.self.now.history in
    let room = c.make_framed.new.self.room in
    let whole = c.args.whole in
    let absent = ap is_some (sym (lengths_as c.self.inside.contents c.self.invariant.1 c.self.invariant.5 (repository c.args.self.now) (ap repository c.self.view_is) whole.id)) ∙ ap is_some (sym c.length.ensures) ∙ sym c.is_some.ensures ∙ c.if-is_some.false in
    if_ok c.make_framed.result _ _
    (λ j p. judges_made header h room c.args.who (PutWhole body pieces) (whole_asked header h body pieces whole w) (WholePut whole.id whole.length) (Whole whole.id whole.length whole.parts.items)
    (whole_judged header h body pieces whole w c.in_ok-check_up.ensures.ok false absent) (not_some _ absent) j p)
    (subst (λ made. IfOk c.make_framed.result (IsPrepared header h room c.args.who (WholePut whole.id whole.length) made)) c.in_ok-made.ensures.made c.make_framed.ensures.ok)

pub returns-clause-err : goal.returns-clause-err
returns-clause-err c = λ body pieces w.
    let header = c.args.self.now.header in
    let h = c.args.self.now.history in
    let whole = c.args.whole in
    let absent = ap is_some (sym (lengths_as c.self.inside.contents c.self.invariant.1 c.self.invariant.5 (repository c.args.self.now) (ap repository c.self.view_is) whole.id)) ∙ ap is_some (sym c.length.ensures) ∙ sym c.is_some.ensures ∙ c.if-is_some.false in
    all_prevented c.make_framed.result header h (PutWhole body pieces) (WholePut whole.id whole.length) (Whole whole.id whole.length whole.parts.items) (whole_judged header h body pieces whole w c.in_ok-check_up.ensures.ok false absent)
    (subst (λ made. IfErr c.make_framed.result (Prevents header h made)) c.in_ok-made.ensures.made c.make_framed.ensures.err)
