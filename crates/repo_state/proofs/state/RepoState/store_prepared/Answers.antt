use Rattle.reply_model.specs.After.{Memory}
use Rattle.repo_calls.specs.declared.refusal.Refusal.TheVariants as refusals
use Rattle.repo_machine.specs.Prepared.{asked_by}
use Rattle.repo_state.proofs.Answered.{unmade}
use Rattle.repo_state.proofs.Asked.{any_wants}
use Rattle.repo_state.proofs.Stepping.{refused_call}
use Rattle.repo_state.proofs.Wholes.{single_alone, single_merge}
use Rattle.repo_state.proofs.state.RepoState.store_prepared.Goals.{in-Unresolved+in-Ok, in-Nothing}
use Rattle.repo_state.proofs.state.RepoState.store_prepared.Goals as goal

-- ---- memory runs out

pub returns-in-Err-clause-reply : goal.returns-in-Err-clause-reply
returns-in-Err-clause-reply g c = unmade c.args.self.now.header c.args.self.now.history c.args.who (asked_by c.args.prepared) Memory (any_wants c.args.self.now.header c.args.self.now.history (asked_by c.args.prepared))

pub returns-in-Err-clause-core : goal.returns-in-Err-clause-core
returns-in-Err-clause-core g c = refused_call _ _ _ _ (asked_by c.args.prepared) refusals.Memory _ (returns-in-Err-clause-reply g c)

-- ---- nothing is joined

pub store_found-requires-clause-single : goal.store_found-requires-clause-single
store_found-requires-clause-single g c =
    let header = c.args.self.now.header in
    let h = c.args.self.now.history in
    let call = asked_by c.args.prepared in
    elim c.match-wants.branch [
      | in-Unresolved+in-Ok w ↦ single_merge call c.args.prepared.ready w.in-Unresolved.commit.now w.in-Unresolved.ensures header h
      | in-Nothing w ↦ single_alone call c.args.prepared.ready w.in-Nothing.ensures header h
    ]
