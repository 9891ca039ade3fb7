use Rattle.std.proofs.Common.{not, sym, subst}
use Rattle.ports.specs.Faults.{Counts}
use Rattle.repo_state.specs.Cores.{LooksSo}
use Rattle.repo_state.proofs.Looking.{checked_replies, checked_found, checked_honest, checked_waits}
use Rattle.repo_state.proofs.state.RepoState.content.Goals as goal

pub returns-in-Ok-clause-reply : goal.returns-in-Ok-clause-reply
returns-in-Ok-clause-reply g c =
    checked_replies c.args.self.now.header c.args.self.now.history c.content_unchecked.new.self.history c.args.who c.args.id c.in-Ok.read.bytes.items c.in-Ok.read.parts.items c.check_digest.result c.in-Ok.ensures.same c.in-Ok.ensures.ok.stored c.in-Ok.ensures.ok.parts_are
    c.check_digest.ensures.ok c.check_digest.ensures.err

pub returns-in-Ok-clause-found : goal.returns-in-Ok-clause-found
returns-in-Ok-clause-found g c = checked_found c.args.self.now.disk c.args.self.now.history c.args.self.now.sealed c.args.id c.in-Ok.read.bytes.items c.in-Ok.read.parts.items c.check_digest.result c.in-Ok.ensures.ok c.check_digest.ensures.err

pub returns-in-Ok-clause-honest : goal.returns-in-Ok-clause-honest
returns-in-Ok-clause-honest g c = λ honest. checked_honest c.args.id c.in-Ok.read.bytes.items c.in-Ok.read.parts.items c.check_digest.result (c.in-Ok.ensures.honest honest) c.check_digest.ensures.err

pub returns-in-Ok-clause-waits : goal.returns-in-Ok-clause-waits
returns-in-Ok-clause-waits g c = λ unsealed. checked_waits c.args.self.now.disk c.args.self.now.history c.args.self.now.sealed c.args.id c.in-Ok.read.bytes.items c.in-Ok.read.parts.items c.check_digest.result unsealed c.in-Ok.ensures.ok c.check_digest.ensures.err

pub returns-in-Ok-clause-faults : goal.returns-in-Ok-clause-faults
returns-in-Ok-clause-faults g c = subst (λ b. Counts c.args.self.now.disk.faults c.content_unchecked.new.self.disk.faults b) (sym c.check_digest.ensures.read) c.in-Ok.ensures.faults

pub returns-in-Ok-clause-core : goal.returns-in-Ok-clause-core
returns-in-Ok-clause-core g c =
    subst (λ b. LooksSo c.args.self.now.header c.args.self.now.history c.args.self.now.sealed c.args.who (not b) c.content_unchecked.new.self.history) (sym c.check_digest.ensures.read) c.in-Ok.ensures.core
