use Rattle.std.proofs.Common.{refl, sym, ap, subst, ◌∙◌, rules}
use Rattle.std.specs.Prelude.{IfOk, IfErr}
use Rattle.byte_fields.specs.Bytes.{are_bytes}
use Rattle.reply_model.specs.Reply.{PutContent, judge}
use Rattle.repo_calls.specs.Refusing.{IsRefusal}
use Rattle.repo_machine.specs.Entering.{Judges}
use Rattle.repo_machine.specs.Prepared.{content_in}
use Rattle.repo_machine.proofs.MadeReady.{are_within, count_is}
use Rattle.repo_machine.proofs.machine.Machine.judge_framed.Goals as goal

pub returns-clause-ok : goal.returns-clause-ok
returns-clause-ok c =
    let frame = c.content.inside.frame.items in
    let ready = c.content.invariant in
    subst (λ bytes. IfOk c.judge_content.result (Judges c.args.self.now.header c.args.self.now.history c.judge_content.new.self.room c.args.who (PutContent bytes))) c.content.view_is
    (c.judge_content.ensures.ok (content_in frame) (are_within frame (ap are_bytes (sym c.as_slice.ensures.value) ∙ c.keep_bytes.ensures)) ready (count_is c.content.inside.id frame c.len.result _ ready (search rules) refl))

pub returns-clause-err : goal.returns-clause-err
returns-clause-err c =
    let frame = c.content.inside.frame.items in
    let ready = c.content.invariant in
    subst (λ bytes. IfErr c.judge_content.result (IsRefusal (judge c.args.self.now.header c.args.self.now.history (PutContent bytes)))) c.content.view_is
    (c.judge_content.ensures.err (content_in frame) ready (count_is c.content.inside.id frame c.len.result _ ready (search rules) refl))
