use Rattle.std.proofs.Common.{◌≡◌, ◌+◌, ◌≤◌, ◌<◌, cond, map, sym, ap, subst, ◌∙◌}
use Rattle.std.specs.Prelude.{None, Some}
use Rattle.changeset_model.specs.Changeset.{id_of}
use Rattle.history_model.specs.History.{Land, known}
use Rattle.history_model.specs.Journal.{payload_len, most_payload}
use Rattle.history_model.specs.Journal as journal
use Rattle.changeset_store.specs.Shared.{values}
use Rattle.reply_model.specs.Reply.{LandDraft, Landed, told, first_collision}
use Rattle.repo_calls.specs.declared.refusal.Refusal.TheVariants as refusals
use Rattle.changeset_store.specs.Grown.{AreAlone}
use Rattle.repo_machine.specs.Held.{repository}
use Rattle.repo_machine.specs.Judged.{Frames}
use Rattle.repo_machine.specs.Plans.{landing_in}
use Rattle.repo_machine.proofs.Judging.{passes_refusal}
use Rattle.repo_machine.proofs.Uploading.{known_as}
use Rattle.repo_machine.proofs.LandingEntry.{can_as}
use Rattle.repo_machine.proofs.Granting.{judges_made}
use Rattle.repo_machine.proofs.Planning.{large_refused, other_refused, full_refused, landable}
use Rattle.repo_machine.proofs.Rebasing.{has_frame}
use Rattle.repo_machine.proofs.machine.Machine.judge_allowed.Goals as goal

pub returns-in_err-length-clause-err : goal.returns-in_err-length-clause-err
returns-in_err-length-clause-err c =
    let r = c.args.rebased in
    let telling = ap (λ b. cond b (Some r.caller) None) c.holds_policy-told.ensures in
    passes_refusal _ c.from_residual.result _ c.from_residual.ensures.1
    (large_refused c.args.self.now.header c.args.self.now.history r c.requires.planned c.requires.head c.requires.up c.requires.allowed _
    (subst (λ t. (c.in_err-length.field-0.0 ≡ refusals.TooLarge (payload_len (Land (landing_in r t)))) × (most_payload < payload_len (Land (landing_in r t)))) telling c.in_err-length.ensures.long))

pub returns-in-Some-clause-err : goal.returns-in-Some-clause-err
returns-in-Some-clause-err c =
    let r = c.args.rebased in
    let telling = ap (λ b. cond b (Some r.caller) None) c.holds_policy-told.ensures in
    let ks = known_as c.self.invariant.1 (repository c.args.self.now) (ap repository c.self.view_is) in
    let found = sym (λ i. first_collision (ks i) (c.new.ensures.new i)) ∙ sym c.first_collision.ensures.found ∙ c.in-Some.is in
    let short = subst (λ n. n ≤ most_payload) (c.in_ok-length.ensures.length ∙ ap (λ t. payload_len (Land (landing_in r t))) telling) c.in_ok-length.ensures.short in
    other_refused c.args.self.now.header c.args.self.now.history r c.requires.planned c.requires.head c.requires.up c.requires.allowed short c.in-Some.id found

pub returns-in_err-check_size-clause-err : goal.returns-in_err-check_size-clause-err
returns-in_err-check_size-clause-err c =
    let r = c.args.rebased in
    let telling = ap (λ b. cond b (Some r.caller) None) c.holds_policy-told.ensures in
    let long = c.in_ok-length.ensures.length ∙ ap (λ t. payload_len (Land (landing_in r t))) telling in
    let ks = known_as c.self.invariant.1 (repository c.args.self.now) (ap repository c.self.view_is) in
    let none = sym (λ i. first_collision (ks i) (c.new.ensures.new i)) ∙ sym c.first_collision.ensures.found ∙ c.in_default.is in
    let short = subst (λ n. n ≤ most_payload) long c.in_ok-length.ensures.short in
    passes_refusal _ c.from_residual-in_err-check_size.result _ c.from_residual-in_err-check_size.ensures.1
    (full_refused c.args.self.now.header c.args.self.now.history r c.requires.planned c.requires.head c.requires.up c.requires.allowed short none _ c.in_ok-length.length long c.in_err-check_size.ensures.err)

pub returns-clause-ok : goal.returns-clause-ok
returns-clause-ok c =
    let header = c.args.self.now.header in
    let h = c.args.self.now.history in
    let r = c.args.rebased in
    let telling = ap (λ b. cond b (Some r.caller) None) c.holds_policy-told.ensures in
    let long = c.in_ok-length.ensures.length ∙ ap (λ t. payload_len (Land (landing_in r t))) telling in
    let landing = landing_in r (told h r.caller) in
    let ks = known_as c.self.invariant.1 (repository c.args.self.now) (ap repository c.self.view_is) in
    let none = sym (λ i. first_collision (ks i) (c.new.ensures.new i)) ∙ sym c.first_collision.ensures.found ∙ c.in_default.is in
    let short = subst (λ n. n ≤ most_payload) long c.in_ok-length.ensures.short in
    let alone = subst (AreAlone (known h)) c.new.ensures.new (subst (λ ks. AreAlone ks (values c.new.result.now)) ks c.in_default.ensures.alone) in
    let able = landable header h r c.requires.planned c.requires.head c.requires.up c.requires.allowed short none alone in
    judges_made header h c.args.self.now.room c.args.who (LandDraft r.caller r.name r.draft r.asked) (c.in_ok-length.ensures.rules h) (Landed r.old (map id_of r.new)) (Land landing) able.judged (can_as header h r.caller r.name r.draft r.asked landing able) c.into_judged.result
    (record {
      by = c.into_judged.ensures.by;
      granted_is = c.into_judged.ensures.granted;
      made_is = c.into_judged.ensures.made ∙ ap (λ t. Some (Land (landing_in r t))) telling;
      frames = subst (λ t. Frames (Some (Land (landing_in r t))) c.into_judged.result.frame) telling c.into_judged.ensures.frames;
      fits = subst (λ n. journal.size h + 5 + n ≤ header.capacity) long c.in_ok-check_size.ensures.ok;
      room_for = c.requires.room;
    })

pub returns-clause-made : goal.returns-clause-made
returns-clause-made c =
    let r = c.args.rebased in
    let telling = ap (λ b. cond b (Some r.caller) None) c.holds_policy-told.ensures in
    let short = subst (λ n. n ≤ most_payload) c.in_ok-length.ensures.length c.in_ok-length.ensures.short in
    (c.into_judged.ensures.made ∙ ap (λ t. Some (Land (landing_in r t))) telling, has_frame r c.holds_policy-told.result c.into_judged.result.frame short c.into_judged.ensures.frames)

pub returns-clause-lands : goal.returns-clause-lands
returns-clause-lands c =
    let header = c.args.self.now.header in
    let h = c.args.self.now.history in
    let r = c.args.rebased in
    let telling = ap (λ b. cond b (Some r.caller) None) c.holds_policy-told.ensures in
    let long = c.in_ok-length.ensures.length ∙ ap (λ t. payload_len (Land (landing_in r t))) telling in
    let ks = known_as c.self.invariant.1 (repository c.args.self.now) (ap repository c.self.view_is) in
    let none = sym (λ i. first_collision (ks i) (c.new.ensures.new i)) ∙ sym c.first_collision.ensures.found ∙ c.in_default.is in
    let short = subst (λ n. n ≤ most_payload) long c.in_ok-length.ensures.short in
    let alone = subst (AreAlone (known h)) c.new.ensures.new (subst (λ ks. AreAlone ks (values c.new.result.now)) ks c.in_default.ensures.alone) in
    record {
      landing = landing_in r (told h r.caller);
      able = landable header h r c.requires.planned c.requires.head c.requires.up c.requires.allowed short none alone;
      made_is = c.into_judged.ensures.made ∙ ap (λ t. Some (Land (landing_in r t))) telling;
      granted_is = c.into_judged.ensures.granted;
    }
