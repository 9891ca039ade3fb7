use Rattle.std.proofs.Common.{sym, ap, ◌∙◌, arith}
use Rattle.history_model.specs.History.{policy_at}
use Rattle.repo_machine.proofs.Policing.{place_within, text_read, no_text}
use Rattle.repo_machine.proofs.machine.Machine.policy_at.Goals as goal

pub returns-then-number-len : goal.returns-then-number-len
returns-then-number-len c =
    sym (no_text c.self.inside.changesets.known c.self.inside.entries.items c.self.inside.kept.items c.self.invariant.3 c.args.number (omega (arith, c.len.ensures, c.if-number-len.true)))
    ∙ ap (λ m. policy_at m.history c.args.number) c.self.view_is

pub index-requires : goal.index-requires
index-requires c =
    let inside = place_within c.self.inside.changesets.known c.self.inside.entries.items c.self.inside.kept.items c.self.invariant.3 c.args.number c.index-at.result.now (omega (arith, c.len.ensures, c.if-number-len.false)) c.index-at.ensures _ c.self.invariant.0 in
    let same = c.self.inside.entries.ok in omega arith

pub returns : goal.returns
returns c =
    c.text_of.ensures c.self.inside.changesets.known
    ∙ sym (text_read c.self.inside.changesets.known c.self.inside.entries.items c.self.inside.kept.items c.self.invariant.3 c.args.number c.index-at.result.now (omega (arith, c.len.ensures, c.if-number-len.false)) c.index-at.ensures _ c.self.invariant.0 c.index.result.now c.index.ensures)
    ∙ ap (λ m. policy_at m.history c.args.number) c.self.view_is
