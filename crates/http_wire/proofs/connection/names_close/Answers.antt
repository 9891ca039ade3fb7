use Rattle.std.proofs.Common.{◌+◌, rules, sym, ap, ◌∙◌}
use Rattle.std.proofs.lemmas.List.{take_rest}
use Rattle.http_model.specs.Head.{names_close}
use Rattle.http_wire.proofs.ElementLemmas.{close_found, close_later, names_close_whole}
use Rattle.http_wire.proofs.connection.names_close.Goals as goal

pub returns-then-is_close : goal.returns-then-is_close
returns-then-is_close c =
    let close = sym c.is_close.ensures ∙ c.if-is_close.true in
    sym (close_found c.elements.rest.now c.in-Some.comma (search rules) (search rules) (search rules) close) ∙ c.elements.invariant

pub elements-preserved : goal.elements-preserved
elements-preserved c =
    let other = sym c.is_close.ensures ∙ c.if-is_close.false in
    ap names_close (take_rest c.elements.rest.now (c.in-Some.comma + 1)) ∙ sym (close_later c.elements.rest.now c.in-Some.comma (search rules) (search rules) (search rules) other) ∙ c.elements.invariant

pub returns : goal.returns
returns c = c.is_close-2.ensures ∙ sym (names_close_whole c.elements.rest.now (search rules)) ∙ c.elements.invariant
