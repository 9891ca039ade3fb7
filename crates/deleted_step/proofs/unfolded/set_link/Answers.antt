use Rattle.std.proofs.Common.{refl, sym, ap, ◌∙◌, None, Some}
use Rattle.deleted_step.specs.declared.unfolded.Unfolded.{Unfolded}
use Rattle.deleted_step.proofs.Setting.{at_put, at_same, entries_kept, no_link, place_of, put_link, put_same, root_kept, root_same}
use Rattle.deleted_step.specs.declared.opened.Opened.{Opened}
use Rattle.changeset_model.specs.Path.{path_cmp}
use Rattle.std.specs.BTreeMap.{get, is_at}
use Rattle.std.specs.Prelude.{if◌then◌else◌}
use Rattle.deleted_step.proofs.unfolded.set_link.Goals as goal

pub returns-in_ok-insert-clause-same : goal.returns-in_ok-insert-clause-same
returns-in_ok-insert-clause-same c =
    let u = c.args.unfolded.now in
    let v : Unfolded = record { root = u.root; places = c.insert.new.self } in
    let p = c.args.path.now in
    let new : Opened = record { link = c.args.link; entries = c.in-Some.opened.entries } in
    let was = place_of u p (Some c.in-Some.opened) c.has_elements.ensures (sym c.remove.ensures.value ∙ c.in-Some.is) in
    put_same u v p c.in-Some.opened new was (at_put u v c.remove.new.self p new c.has_elements.ensures refl c.remove.ensures.updates.0 (λ q. c.in_ok-insert.ensures.updates.0 q ∙ ap (λ p. if is_at (path_cmp p) q then Some new else get path_cmp c.remove.new.self q) c.in_ok-copy.ensures))

pub returns-in_ok-insert-clause-link : goal.returns-in_ok-insert-clause-link
returns-in_ok-insert-clause-link c =
    let u = c.args.unfolded.now in
    let v : Unfolded = record { root = u.root; places = c.insert.new.self } in
    let p = c.args.path.now in
    let new : Opened = record { link = c.args.link; entries = c.in-Some.opened.entries } in
    let was = place_of u p (Some c.in-Some.opened) c.has_elements.ensures (sym c.remove.ensures.value ∙ c.in-Some.is) in
    put_link u v p c.in-Some.opened new was (at_put u v c.remove.new.self p new c.has_elements.ensures refl c.remove.ensures.updates.0 (λ q. c.in_ok-insert.ensures.updates.0 q ∙ ap (λ p. if is_at (path_cmp p) q then Some new else get path_cmp c.remove.new.self q) c.in_ok-copy.ensures))

pub returns-in_ok-insert-clause-entries : goal.returns-in_ok-insert-clause-entries
returns-in_ok-insert-clause-entries c =
    let u = c.args.unfolded.now in
    let v : Unfolded = record { root = u.root; places = c.insert.new.self } in
    let p = c.args.path.now in
    let new : Opened = record { link = c.args.link; entries = c.in-Some.opened.entries } in
    let was = place_of u p (Some c.in-Some.opened) c.has_elements.ensures (sym c.remove.ensures.value ∙ c.in-Some.is) in
    entries_kept u v p c.in-Some.opened new was (at_put u v c.remove.new.self p new c.has_elements.ensures refl c.remove.ensures.updates.0 (λ q. c.in_ok-insert.ensures.updates.0 q ∙ ap (λ p. if is_at (path_cmp p) q then Some new else get path_cmp c.remove.new.self q) c.in_ok-copy.ensures)) (λ n. refl)

pub returns-in_default-clause-link : goal.returns-in_default-clause-link
returns-in_default-clause-link c =
    let u = c.args.unfolded.now in
    let v : Unfolded = record { root = u.root; places = c.remove.new.self } in
    no_link u v c.args.path.now (place_of u c.args.path.now None c.has_elements.ensures (sym c.remove.ensures.value ∙ c.in_default.is)) (at_same u v refl c.in_default.ensures.unchanged) c.args.link

pub returns-in_ok-insert-clause-root : goal.returns-in_ok-insert-clause-root
returns-in_ok-insert-clause-root c =
    let p = c.args.path.now in
    let new : Opened = record { link = c.args.link; entries = c.in-Some.opened.entries } in
    root_kept c.args.unfolded.now.places c.remove.new.self c.insert.new.self p new c.has_elements.ensures c.remove.ensures.updates.0 (λ q. c.in_ok-insert.ensures.updates.0 q ∙ ap (λ p. if is_at (path_cmp p) q then Some new else get path_cmp c.remove.new.self q) c.in_ok-copy.ensures)

pub returns-in_default-clause-root : goal.returns-in_default-clause-root
returns-in_default-clause-root c = root_same c.args.unfolded.now.places c.remove.new.self c.in_default.ensures.unchanged
