use Rattle.std.proofs.Common.{ap, sym, ◌∙◌}
use Rattle.reply_model.specs.Reply.{HeadOf, SeenHead}
use Rattle.session_model.specs.declared.status.Status.TheVariants.{Fine}
use Rattle.session_model.specs.Responses.{text_of}
use Rattle.session_model.specs.Bodies.{json, bookmark_body}
use Rattle.session_model.specs.Asking.{seen}
use Rattle.http_front.proofs.reads.put_head.Goals as goal

pub returns-in-Some : goal.returns-in-Some
returns-in-Some c =
    c.put_body.ensures
    ∙ (λ i. text_of (json Fine (bookmark_body (c.in-Some.is i) (c.as_str-name.ensures.text i))) c.args.form.close c.args.form.head_only)
    ∙ ap (λ head. text_of (seen (HeadOf c.args.name.now) (SeenHead head)) c.args.form.close c.args.form.head_only) (sym c.in-Some.is)
