use Rattle.std.proofs.Common.{◌≡◌, ℕ, ◌+◌, ◌-◌, ◌≤◌, length, take, drop, ap, sym, subst, ◌∙◌, arith}
use Rattle.repo_journal.specs.Scanning.{Holds, IsHeld}
use Rattle.repo_journal.proofs.Windows.{AreAt, part_at}
use Rattle.repo_journal.proofs.scanner.Scanner.held.Goals as goal

pub returns-clause-file : goal.returns-clause-file
returns-clause-file c = λ file holds.
    (let bytes = c.self.inside.block.items in
    let from = c.self.inside.from in
    let at = c.args.span.at in
    let n = c.args.span.length in
    let are : AreAt bytes from file = subst (λ w. Holds w file) (sym c.self.view_is) holds in
    let begins : from ≤ at = (subst (λ w. IsHeld w c.args.span) (sym c.self.view_is) c.requires).begins in
    let ends : at + n ≤ from + length bytes = (subst (λ w. IsHeld w c.args.span) (sym c.self.view_is) c.requires).ends in
    ap (λ k. take k (drop (at - from) c.deref.result.now)) (same (at - from) n)
    ∙ ap (λ xs. take n (drop (at - from) xs)) c.deref.ensures.value
    ∙ part_at bytes from at n file are begins ends)
  where
    same : (k n : ℕ) → k + n - k ≡ n
    same k n = omega arith
