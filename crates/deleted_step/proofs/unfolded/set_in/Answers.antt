use Rattle.std.proofs.Common.{refl, sym, ◌∙◌, None, Some}
use Rattle.deleted_step.specs.declared.unfolded.Unfolded.{Unfolded}
use Rattle.deleted_step.proofs.Setting.{at_put, at_same, link_kept, no_entry, place_of, put_entry, put_same}
use Rattle.deleted_step.proofs.unfolded.set_in.Goals as goal

pub returns-in_ok-insert-clause-same : goal.returns-in_ok-insert-clause-same
returns-in_ok-insert-clause-same c =
    let u = c.args.unfolded.now in
    let v : Unfolded = record { root = u.root; places = c.insert.new.self } in
    let was = place_of u c.args.dir (Some c.in-Some.opened) c.has_elements.ensures (sym c.remove.ensures.value ∙ c.in-Some.is) in
    put_same u v c.args.dir c.in-Some.opened c.set_entry.new.opened was (at_put u v c.remove.new.self c.args.dir c.set_entry.new.opened c.has_elements.ensures refl c.remove.ensures.updates.0 c.in_ok-insert.ensures.updates.0)

pub returns-in_ok-insert-clause-link : goal.returns-in_ok-insert-clause-link
returns-in_ok-insert-clause-link c =
    let u = c.args.unfolded.now in
    let v : Unfolded = record { root = u.root; places = c.insert.new.self } in
    let was = place_of u c.args.dir (Some c.in-Some.opened) c.has_elements.ensures (sym c.remove.ensures.value ∙ c.in-Some.is) in
    link_kept u v c.args.dir c.in-Some.opened c.set_entry.new.opened was (at_put u v c.remove.new.self c.args.dir c.set_entry.new.opened c.has_elements.ensures refl c.remove.ensures.updates.0 c.in_ok-insert.ensures.updates.0) c.in_ok-set_entry.ensures.link

pub returns-in_ok-insert-clause-entries : goal.returns-in_ok-insert-clause-entries
returns-in_ok-insert-clause-entries c =
    let u = c.args.unfolded.now in
    let v : Unfolded = record { root = u.root; places = c.insert.new.self } in
    let was = place_of u c.args.dir (Some c.in-Some.opened) c.has_elements.ensures (sym c.remove.ensures.value ∙ c.in-Some.is) in
    put_entry u v c.args.dir c.in-Some.opened c.set_entry.new.opened was (at_put u v c.remove.new.self c.args.dir c.set_entry.new.opened c.has_elements.ensures refl c.remove.ensures.updates.0 c.in_ok-insert.ensures.updates.0) c.args.name c.args.id
    c.in_ok-set_entry.ensures.entries

pub returns-in_default-clause-entries : goal.returns-in_default-clause-entries
returns-in_default-clause-entries c =
    let u = c.args.unfolded.now in
    let v : Unfolded = record { root = u.root; places = c.remove.new.self } in
    no_entry u v c.args.dir (place_of u c.args.dir None c.has_elements.ensures (sym c.remove.ensures.value ∙ c.in_default.is)) (at_same u v refl c.in_default.ensures.unchanged) c.args.name c.args.id
