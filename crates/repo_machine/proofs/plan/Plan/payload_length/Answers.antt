use Rattle.std.proofs.Common.{◌≡◌, true, length, sym, ap, subst, ◌∙◌}
use Rattle.std.specs.Option.{option_copied}
use Rattle.byte_fields.specs.Bytes.{is_bytes}
use Rattle.bonsai.specs.Encodings.{encodings}
use Rattle.changeset_model.proofs.Spelling.{len_of as id_long}
use Rattle.changeset_store.specs.Shared.{values}
use Rattle.history_model.specs.Pushrebase.{rewrite}
use Rattle.repo_machine.specs.Plans.{rebased_of, landing_in}
use Rattle.repo_machine.proofs.plan.Plan.payload_length.Goals as goal

pub returns-clause-length : goal.returns-clause-length
returns-clause-length c = λ moment told.
    let plan = c.args.self.now in
    let old_rule = subst (λ x. is_bytes 32 x ≡ true) (ap (λ p. p.old) c.self.view_is) c.as_bytes-old.ensures.rule in
    let draft_rule = subst (λ x. is_bytes 32 x ≡ true) (ap (λ p. p.draft) c.self.view_is) c.as_bytes-draft.ensures.rule in
    c.landing_length.ensures.value (landing_in (rebased_of plan moment) (option_copied c.args.caller)) (sym c.head.ensures.name) (sym (c.head.ensures.moment ∙ told)) (sym c.head.ensures.caller) (id_long plan.old old_rule) (id_long plan.draft draft_rule)
    (c.rebased_length.ensures.value plan.old moment old_rule ∙ ap (λ cs. length (encodings (rewrite cs plan.old moment))) (ap values c.as_slice.ensures.value ∙ ap (λ p. p.stack) c.self.view_is))
