use Rattle.std.proofs.Common.{◌≡◌, ◌≤◌, List, not, sym, ap, ◌∙◌, subst, arith}
use mathlib.Core.Bool.{true≢false}
use Rattle.std.specs.Prelude.{true}
use Rattle.history_model.specs.History.{Entry}
use Rattle.repo_calls.specs.Calls.{granted_seen, line_seen}
use Rattle.follower.specs.Making.{count}
use Rattle.repo_state.specs.State.{after_seal}
use Rattle.follower.proofs.Causes.{rose_from}
use Rattle.follower.proofs.Granting.{differs, made_so, still_up, uncompared}
use Rattle.follower.proofs.Resealed.{made_one, sealed_entry, unsealed_entry}
use Rattle.follower.proofs.Unmade.{fault_replayed, read_only}
use Rattle.follower.proofs.replay.replay.Goals as goal

pub returns-in-Err-clause-replayed : goal.returns-in-Err-clause-replayed
returns-in-Err-clause-replayed g c =
    let own = g.R.OwnRepository in
    let most = c.entries-number.ensures.most in
    let is = c.entries-number.ensures.length in
    let same = c.in-Err.ensures.sealed in
    rw c.refused_as.ensures (fault_replayed (own.opening c.args.own.now) (own.history c.args.own.now) (own.history c.make_entry.new.own) (line_seen c.args.entry.now) c.args.fetched.now (own.sealed c.make_entry.new.own) (omega arith) c.in-Err.fault c.in-Err.ensures.reply c.in-Err.ensures.other c.in-Err.ensures.honest)

pub returns-in-Err-clause-cause : goal.returns-in-Err-clause-cause
returns-in-Err-clause-cause g c = λ is. c.in-Err.ensures.faults.cause (read_only c.in-Err.fault c.in-Err.ensures.other (sym c.refused_as.ensures ∙ is))

pub returns-in-Err-is_told-clause-replayed : goal.returns-in-Err-is_told-clause-replayed
returns-in-Err-is_told-clause-replayed g c =
    let own = g.R.OwnRepository in
    let opening = own.opening c.args.own.now in
    let h = own.history c.args.own.now in
    let mid = own.history c.make_entry.new.own in
    let after = own.history c.is_told.new.own in
    let line = line_seen c.args.entry.now in
    let fetched = c.args.fetched.now in
    let granted = granted_seen c.in-Ok.field-0 in
    let sealed = own.sealed c.is_told.new.own in
    let number = c.entries-number.result in
    let is = c.entries-number.ensures.length in
    let stored = c.entries-number.ensures.most in
    let one = c.make_entry.ensures.sealed in
    let two = c.is_told.ensures.sealed in
    let most : sealed ≤ count h = omega arith in
    uncompared opening h mid after line fetched granted sealed number c.in-Ok.ensures.reply c.is_told.ensures.history most is

pub returns-in-Ok-false-clause-replayed : goal.returns-in-Ok-false-clause-replayed
returns-in-Ok-false-clause-replayed g c =
    let own = g.R.OwnRepository in
    let opening = own.opening c.args.own.now in
    let h = own.history c.args.own.now in
    let mid = own.history c.make_entry.new.own in
    let after = own.history c.is_told.new.own in
    let line = line_seen c.args.entry.now in
    let fetched = c.args.fetched.now in
    let granted = granted_seen c.in-Ok.field-0 in
    let sealed = own.sealed c.is_told.new.own in
    let number = c.entries-number.result in
    let is = c.entries-number.ensures.length in
    let stored = c.entries-number.ensures.most in
    let one = c.make_entry.ensures.sealed in
    let two = c.is_told.ensures.sealed in
    let most : sealed ≤ count h = omega arith in
    differs opening h mid after line fetched granted sealed number c.in-Ok.ensures.reply c.is_told.ensures.history most is (λ told. true≢false (sym (c.in-Ok-false.ensures.told.1 told) ∙ c.in-Ok-false.field-0-test))

pub returns-in-Ok-seal_first-clause-replayed : goal.returns-in-Ok-seal_first-clause-replayed
returns-in-Ok-seal_first-clause-replayed g c =
    let own = g.R.OwnRepository in
    let opening = own.opening c.args.own.now in
    let h = own.history c.args.own.now in
    let mid = own.history c.make_entry.new.own in
    let after = own.history c.is_told.new.own in
    let line = line_seen c.args.entry.now in
    let fetched = c.args.fetched.now in
    let granted = granted_seen c.in-Ok.field-0 in
    let sealed = own.sealed c.is_told.new.own in
    let number = c.entries-number.result in
    let is = c.entries-number.ensures.length in
    let stored = c.entries-number.ensures.most in
    let one = c.make_entry.ensures.sealed in
    let two = c.is_told.ensures.sealed in
    let most : sealed ≤ count h = omega arith in
    let made = made_so opening h mid after line fetched granted sealed number c.in-Ok.ensures.reply c.is_told.ensures.history most is (c.in-Ok-true.ensures.told.0 c.in-Ok-true.field-0-test) in
    let upto = c.entries-upto.ensures.length in
    let done = c.in-Ok-seal_first.ensures.done in
    let all = c.seal_first.ensures.most in
    sealed_entry opening h mid (own.history c.seal_first.new.self) line fetched (own.sealed c.seal_first.new.self) made (c.in-Ok-seal_first.ensures.history ∙ c.is_told.ensures.history)
    (subst (λ (g : List Entry). own.sealed c.seal_first.new.self ≡ count g) c.is_told.ensures.history (omega arith))

pub returns-in-Err-seal_first-clause-replayed : goal.returns-in-Err-seal_first-clause-replayed
returns-in-Err-seal_first-clause-replayed g c =
    let own = g.R.OwnRepository in
    let opening = own.opening c.args.own.now in
    let h = own.history c.args.own.now in
    let mid = own.history c.make_entry.new.own in
    let after = own.history c.is_told.new.own in
    let line = line_seen c.args.entry.now in
    let fetched = c.args.fetched.now in
    let granted = granted_seen c.in-Ok.field-0 in
    let sealed = own.sealed c.is_told.new.own in
    let number = c.entries-number.result in
    let is = c.entries-number.ensures.length in
    let stored = c.entries-number.ensures.most in
    let one = c.make_entry.ensures.sealed in
    let two = c.is_told.ensures.sealed in
    let most : sealed ≤ count h = omega arith in
    let made = made_so opening h mid after line fetched granted sealed number c.in-Ok.ensures.reply c.is_told.ensures.history most is (c.in-Ok-true.ensures.told.0 c.in-Ok-true.field-0-test) in
    let all = c.seal_first.ensures.most in
    unsealed_entry opening h mid (own.history c.seal_first.new.self) line fetched (own.sealed c.seal_first.new.self) made (c.in-Err-seal_first.ensures.history ∙ ap (after_seal 0 true) c.is_told.ensures.history)
    (subst (λ n. own.sealed c.seal_first.new.self ≤ n) (ap count c.is_told.ensures.history ∙ made_one opening.header h mid line fetched made) all)

pub returns-in-Err-seal_first-clause-cause : goal.returns-in-Err-seal_first-clause-cause
returns-in-Err-seal_first-clause-cause g c = λ _.
    let own = g.R.OwnRepository in
    let opening = own.opening c.args.own.now in
    let h = own.history c.args.own.now in
    let mid = own.history c.make_entry.new.own in
    let after = own.history c.is_told.new.own in
    let line = line_seen c.args.entry.now in
    let fetched = c.args.fetched.now in
    let granted = granted_seen c.in-Ok.field-0 in
    let sealed = own.sealed c.is_told.new.own in
    let number = c.entries-number.result in
    let is = c.entries-number.ensures.length in
    let stored = c.entries-number.ensures.most in
    let one = c.make_entry.ensures.sealed in
    let two = c.is_told.ensures.sealed in
    let most : sealed ≤ count h = omega arith in
    let made = made_so opening h mid after line fetched granted sealed number c.in-Ok.ensures.reply c.is_told.ensures.history most is (c.in-Ok-true.ensures.told.0 c.in-Ok-true.field-0-test) in
    let grown = c.in-Ok.ensures.faults.grows in
    let more = c.is_told.ensures.faults in
    rose_from (own.faults c.args.own.now) (own.faults c.is_told.new.own) (own.faults c.seal_first.new.self) (omega arith)
    (c.in-Err-seal_first.ensures.faults.cause (ap not (still_up opening h mid after line fetched granted sealed number c.in-Ok.ensures.reply c.is_told.ensures.history most is made)))
