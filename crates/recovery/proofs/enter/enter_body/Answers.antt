use Rattle.std.proofs.Common.{◌≡◌, [], drop, refl, sym, ap, subst, ◌∙◌}
use Rattle.std.specs.Prelude.{Some, Ok, unwrap_or}
use Rattle.sha2.specs.Sha256.{sha256}
use Rattle.changeset_model.specs.Changeset.{spelling}
use Rattle.history_model.specs.History.{Content, Change, Book, Land, Policy}
use Rattle.history_model.specs.Journal.{IsPayload, payload}
use Rattle.history_model.specs.Payload.{payload_body}
use Rattle.reply_model.specs.Opening.{nobody}
use Rattle.reply_model.specs.Reply.{PutContent, PutChangeset, SetBookmark, LandDraft, SetPolicy}
use Rattle.repo_events.specs.Entries.{body_of, landing_of, move_of}
use Rattle.recovery.specs.Entering.{asked_entry, Enters}
use Rattle.recovery.proofs.Replays.{replays_asked, replays_whole}
use Rattle.recovery.proofs.enter.enter_body.Goals as goal

pub content_in-requires : goal.content_in-requires
content_in-requires g c = let p = subst (λ b. IsPayload (body_of b) c.args.payload.now) c.in-Content.is c.requires.spelled in (p.0, p.2)

pub enter_content-requires-clause-id : goal.enter_content-requires-clause-id
enter_content-requires-clause-id g c =
    let p = subst (λ b. IsPayload (body_of b) c.args.payload.now) c.in-Content.is c.requires.spelled in
    sym p.1.0 ∙ ap (λ t. sha256 (drop 1 t)) (sym p.2 ∙ c.content_in.ensures)

pub enter_changeset-requires-clause-spelled : goal.enter_changeset-requires-clause-spelled
enter_changeset-requires-clause-spelled g c = (subst (λ b. IsPayload (body_of b) c.args.payload.now) c.in-Change.is c.requires.spelled).2

pub enter_move-requires-clause-spelled : goal.enter_move-requires-clause-spelled
enter_move-requires-clause-spelled g c = (subst (λ b. IsPayload (body_of b) c.args.payload.now) c.in-Book.is c.requires.spelled).2

pub enter_landing-requires-clause-spelled : goal.enter_landing-requires-clause-spelled
enter_landing-requires-clause-spelled g c = (subst (λ b. IsPayload (body_of b) c.args.payload.now) c.in-Land.is c.requires.spelled).2

pub enter_policy-requires : goal.enter_policy-requires
enter_policy-requires g c = (subst (λ b. IsPayload (body_of b) c.args.payload.now) c.in-Policy.is c.requires.spelled).2 ∙ ap (λ text. payload (Policy c.in-Policy.caller text) []) (sym c.as_slice.ensures.value)

pub returns-in-Content-clause-replays : goal.returns-in-Content-clause-replays
returns-in-Content-clause-replays g c =
    let h = c.args.machine.now.history in
    let header = c.args.machine.now.header in
    let content = c.content_in.result.now in
    let bytes = c.args.payload.now in
    let uploaded : drop 1 bytes ≡ content = ap (drop 1) c.content_in.ensures in
    replays_asked (g.D.Disk.meaning c.args.disk.now) header h bytes (Content c.in-Content.id c.in-Content.length) (PutContent content) c.enter_content.result c.enter_content.new.machine.history
    (subst (λ b. payload_body bytes ≡ Ok (body_of b)) c.in-Content.is c.requires.decoded) (λ file. ap (λ t. Some (PutContent t)) uploaded) uploaded
    (subst (λ b. Enters h (asked_entry header h b (PutContent content)) c.enter_content.result c.enter_content.new.machine.history) (sym c.content_in.ensures) c.enter_content.ensures.enters)

pub returns-in-Change-clause-replays : goal.returns-in-Change-clause-replays
returns-in-Change-clause-replays g c =
    let h = c.args.machine.now.history in
    let header = c.args.machine.now.header in
    let commit = c.in-Change.commit in
    let bytes = c.args.payload.now in
    let spelled : bytes ≡ spelling commit = (subst (λ b. IsPayload (body_of b) bytes) c.in-Change.is c.requires.spelled).2 in
    replays_asked (g.D.Disk.meaning c.args.disk.now) header h bytes (Change commit) (PutChangeset (spelling commit)) c.enter_changeset.result c.enter_changeset.new.machine.history
    (subst (λ b. payload_body bytes ≡ Ok (body_of b)) c.in-Change.is c.requires.decoded) (λ file. ap (λ t. Some (PutChangeset t)) spelled) tt
    (subst (λ b. Enters h (asked_entry header h b (PutChangeset (spelling commit))) c.enter_changeset.result c.enter_changeset.new.machine.history) (sym spelled) c.enter_changeset.ensures.enters)

pub returns-in-Book-clause-replays : goal.returns-in-Book-clause-replays
returns-in-Book-clause-replays g c =
    let movement = c.in-Book.movement in
    replays_asked (g.D.Disk.meaning c.args.disk.now) c.args.machine.now.header c.args.machine.now.history c.args.payload.now (Book (move_of movement)) (SetBookmark (unwrap_or movement.caller nobody) movement.name movement.from movement.to) c.enter_move.result c.enter_move.new.machine.history
    (subst (λ b. payload_body c.args.payload.now ≡ Ok (body_of b)) c.in-Book.is c.requires.decoded) (λ file. refl) tt c.enter_move.ensures.enters

pub returns-in-Land-clause-replays : goal.returns-in-Land-clause-replays
returns-in-Land-clause-replays g c =
    let landing = c.in-Land.landing in
    replays_asked (g.D.Disk.meaning c.args.disk.now) c.args.machine.now.header c.args.machine.now.history c.args.payload.now (Land (landing_of landing)) (LandDraft (unwrap_or landing.caller nobody) landing.name landing.draft (unwrap_or landing.moment 0)) c.enter_landing.result c.enter_landing.new.machine.history
    (subst (λ b. payload_body c.args.payload.now ≡ Ok (body_of b)) c.in-Land.is c.requires.decoded) (λ file. refl) tt c.enter_landing.ensures.enters

pub returns-in-Policy-clause-replays : goal.returns-in-Policy-clause-replays
returns-in-Policy-clause-replays g c =
    let caller = c.in-Policy.caller in
    replays_asked (g.D.Disk.meaning c.args.disk.now) c.args.machine.now.header c.args.machine.now.history c.args.payload.now (Policy caller c.in-Policy.text.items) (SetPolicy caller c.as_slice.result.now) c.enter_policy.result c.enter_policy.new.machine.history
    (subst (λ b. payload_body c.args.payload.now ≡ Ok (body_of b)) c.in-Policy.is c.requires.decoded) (λ file. ap (λ t. Some (SetPolicy caller t)) (sym c.as_slice.ensures.value)) tt c.enter_policy.ensures.enters

pub returns-in-Whole-clause-replays : goal.returns-in-Whole-clause-replays
returns-in-Whole-clause-replays g c =
    replays_whole (g.D.Disk.meaning c.args.disk.now) c.args.machine.now.header c.args.machine.now.history c.args.payload.now c.in-Whole.id c.in-Whole.length c.in-Whole.parts.items c.enter_whole.result c.enter_whole.new.machine.history
    (subst (λ b. payload_body c.args.payload.now ≡ Ok (body_of b)) c.in-Whole.is c.requires.decoded) (subst (λ b. IsPayload (body_of b) c.args.payload.now) c.in-Whole.is c.requires.spelled).2 c.enter_whole.ensures.enters
