use Rattle.std.proofs.Common.{inl, refl, sym, ap, ◌∙◌}
use Rattle.std.specs.Prelude.{is_some}
use Rattle.changeset_model.specs.Version.{First}
use Rattle.reply_model.specs.Reply.{PutContent}
use Rattle.repo_calls.specs.Calls.{content_answer}
use Rattle.repo_machine.specs.Plain.{history_of}
use Rattle.repo_machine.proofs.Judging.{answers_refusal}
use Rattle.repo_machine.proofs.PlainReplies.{plain_long, plain_known, plain_full, plain_made, made_fits}
use Rattle.repo_machine.proofs.plain.put_content.Goals as goal

pub returns-then-bytes-gt-MOST_CONTENT-clause-reply : goal.returns-then-bytes-gt-MOST_CONTENT-clause-reply
returns-then-bytes-gt-MOST_CONTENT-clause-reply c = λ version. plain_long (record { capacity = c.args.capacity; version = version }) c.args.contents.now.items c.args.who c.args.bytes.now c.if-bytes-gt-MOST_CONTENT.true

pub returns-then-is_some-clause-reply : goal.returns-then-is_some-clause-reply
returns-then-is_some-clause-reply c = λ version.
    plain_known (record { capacity = c.args.capacity; version = version }) c.args.contents.now.items c.args.who c.args.bytes.now c.of-id.result c.of-id.ensures c.if-bytes-gt-MOST_CONTENT.false
    c.as_slice.result.now c.as_slice.ensures.value (ap is_some (sym c.content_length.ensures) ∙ sym c.is_some.ensures ∙ c.if-is_some.true)

pub returns-then-size-payload-clause-reply : goal.returns-then-size-payload-clause-reply
returns-then-size-payload-clause-reply c = λ version.
    plain_full (record { capacity = c.args.capacity; version = version }) c.args.contents.now.items c.args.who c.args.bytes.now c.of-id.result c.of-id.ensures c.if-bytes-gt-MOST_CONTENT.false
    c.as_slice.result.now c.as_slice.ensures.value (ap is_some (sym c.content_length.ensures) ∙ sym c.is_some.ensures ∙ c.if-is_some.false)
    c.as_slice-2.result.now c.as_slice-2.ensures.value _ _ c.journal_size-size.ensures refl c.if-size-payload.true

pub returns-in_err-push-clause-reply : goal.returns-in_err-push-clause-reply
returns-in_err-push-clause-reply c = λ version. answers_refusal content_answer (λ e. refl) _ _ c.args.who (PutContent c.args.bytes.now) c.from_residual.result _ _ c.from_residual.ensures.1 (inl refl) (ap history_of c.in_err-push.ensures.items)

pub returns-clause-reply : goal.returns-clause-reply
returns-clause-reply c = λ version.
    plain_made (record { capacity = c.args.capacity; version = version }) c.args.contents.now.items c.args.who c.args.bytes.now c.of-id.result c.of-id.ensures c.if-bytes-gt-MOST_CONTENT.false
    c.as_slice.result.now c.as_slice.ensures.value (ap is_some (sym c.content_length.ensures) ∙ sym c.is_some.ensures ∙ c.if-is_some.false)
    c.as_slice-2.result.now c.as_slice-2.ensures.value _ _ c.journal_size-size.ensures refl c.if-size-payload.false _ c.in_ok-push.ensures.items

pub returns-clause-fits : goal.returns-clause-fits
returns-clause-fits c =
    made_fits (record { capacity = c.args.capacity; version = First }) c.args.contents.now.items c.args.who c.args.bytes.now c.of-id.result c.of-id.ensures c.if-bytes-gt-MOST_CONTENT.false
    c.as_slice.result.now c.as_slice.ensures.value (ap is_some (sym c.content_length.ensures) ∙ sym c.is_some.ensures ∙ c.if-is_some.false)
    c.as_slice-2.result.now c.as_slice-2.ensures.value _ _ c.journal_size-size.ensures refl c.if-size-payload.false _ c.in_ok-push.ensures.items
