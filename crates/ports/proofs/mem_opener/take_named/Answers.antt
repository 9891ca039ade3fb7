use Rattle.std.proofs.Common.{sym, ap, ◌∙◌, Some}
use Rattle.std.proofs.lemmas.List.Quantifiers.{position-Some}
use Rattle.ports.specs.Shelves.{has_name}
use Rattle.ports.proofs.Given.{IsFirst, held_at, taken_at, held_nowhere, none_taken, nowhere}
use Rattle.ports.proofs.mem_opener.take_named.Goals as goal

pub returns-in-Some-clause-held : goal.returns-in-Some-clause-held
returns-in-Some-clause-held g c =
    let name = c.args.name.now in
    let named = c.args.named.now.items in
    let slot = c.index_mut-slot.result.now in
    let at = position-Some (has_name name) named c.in-Some.at slot (sym c.place_of.ensures ∙ c.in-Some.is) in
    let first : IsFirst name named c.in-Some.at slot = record { inside = at.0; has = at.1; before = at.2 } in
    ap (λ h. Some h) (c.take.ensures.value ∙ ap (λ s. s.held) c.index_mut-slot.ensures.value) ∙ sym (held_at name named c.in-Some.at slot first)

pub returns-in-Some-clause-left : goal.returns-in-Some-clause-left
returns-in-Some-clause-left g c =
    let name = c.args.name.now in
    let named = c.args.named.now.items in
    let slot = c.index_mut-slot.result.now in
    let at = position-Some (has_name name) named c.in-Some.at slot (sym c.place_of.ensures ∙ c.in-Some.is) in
    let first : IsFirst name named c.in-Some.at slot = record { inside = at.0; has = at.1; before = at.2 } in
    taken_at name named c.in-Some.at slot (record { name = slot.name; held = c.take.new.self }) first (ap (λ s. s.name) c.index_mut-slot.ensures.value) c.take.ensures.after

pub returns-in-None-clause-held : goal.returns-in-None-clause-held
returns-in-None-clause-held g c =
    let name = c.args.name.now in
    let named = c.args.named.now.items in
    sym (held_nowhere name named (nowhere (has_name name) named (sym c.place_of.ensures ∙ c.in-None.is)))

pub returns-in-None-clause-left : goal.returns-in-None-clause-left
returns-in-None-clause-left g c =
    let name = c.args.name.now in
    let named = c.args.named.now.items in
    sym (none_taken name named (held_nowhere name named (nowhere (has_name name) named (sym c.place_of.ensures ∙ c.in-None.is))))
