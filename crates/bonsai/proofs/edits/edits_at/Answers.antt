use Rattle.std.proofs.Common.{◌≡◌, ◌++◌, ◌∷◌, ◌+◌, ◌-◌, [], Option, None, sym, ap, subst, ◌∙◌}
use Rattle.std.proofs.lemmas.Result.{err_from_is_err_and}
use Rattle.std.proofs.lemmas.List.{map_push}
use Rattle.std.specs.Prelude.{Ok}
use Rattle.changeset_model.specs.Path.{Path}
use Rattle.changeset_model.specs.Decoding.{edit, edits}
use Rattle.bonsai.specs.LastPath.{last_path}
use Rattle.byte_fields.specs.Reads.{Fails}
use Rattle.byte_fields.proofs.Run.{with_front, goes_on, fails}
use Rattle.bonsai.specs.Versions.{version_view}
use Rattle.bonsai.specs.View.{edit_view, edits_view}
use Rattle.bonsai.proofs.Run.{edits_run, last_path_push}
use Rattle.bonsai.proofs.edits.edits_at.Goals as goal

pub returns-in_err-edit : goal.returns-in_err-edit
returns-in_err-edit c =
    let v = version_view c.args.version in
    let n = c.args.parents in
    let p = err_from_is_err_and c.from_residual-in_err-edit.result c.from_residual-in_err-edit.ensures.1 in
    let before = c.last_path.ensures ∙ ap (λ es. last_path None (edits_view es)) c.deref.ensures.value in
    let fault = c.in_err-edit.field-0.0 in
    let P : Option Path → Type 0 = λ b. Fails fault (edit v n b c.loop.rest.now) in
    rw (p.1, p.2) (fails (edits_run v n) fault (edits_view c.loop.edits.items) c.args.count c.loop.counter (last_path None (edits_view c.loop.edits.items)) c.loop.rest.now (edits v n c.args.count None c.args.bytes.now) c.loop-test.true (subst P before c.in_err-edit.ensures) c.loop.invariant)

pub loop-preserved : goal.loop-preserved
loop-preserved c =
    let v = version_view c.args.version in
    let n = c.args.parents in
    let e = edit_view c.in_ok-edit.edit in
    let front = edits_view c.loop.edits.items in
    let before = c.last_path.ensures ∙ ap (λ es. last_path None (edits_view es)) c.deref.ensures.value in
    let read : edit v n (last_path None front) c.loop.rest.now ≡ Ok (e, c.in_ok-edit.after.now) = ap (λ b. edit v n b c.loop.rest.now) (sym before) ∙ c.in_ok-edit.ensures in
    let pushed : edits_view c.push.new.self.items ≡ front ++ e ∷ [] = rw c.in_ok-push.ensures.items (map_push _ c.loop.edits.items c.in_ok-edit.edit) in
    (λ i. with_front (pushed i) (edits v n (c.args.count - (c.loop.counter + 1)) (last_path None (pushed i)) c.in_ok-edit.after.now))
    ∙ ap (λ b. with_front (front ++ e ∷ []) (edits v n (c.args.count - (c.loop.counter + 1)) b c.in_ok-edit.after.now)) (last_path_push None front e)
    ∙ sym (goes_on (edits_run v n) front c.args.count c.loop.counter (last_path None front) c.loop.rest.now c.in_ok-edit.after.now e c.loop-test.true read)
    ∙ c.loop.invariant
