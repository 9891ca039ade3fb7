use Rattle.std.proofs.Common.{◌≡◌, ◌+◌, drop}
use Rattle.std.specs.Prelude.{sum_by}
use Rattle.history_model.specs.History.{bodies}
use Rattle.history_model.specs.Journal.{record_len}
use Rattle.history_model.specs.Journal as journal
use Rattle.repo_machine.specs.Plain.{history_of}
use Rattle.repo_machine.proofs.plain.journal_size.Given as goal

-- what is counted and what is left make the size
abbrev pub invariant-contents : goal.invariant-contents
invariant-contents l = l.size + sum_by record_len (bodies (history_of (drop l.content-index l.contents))) ≡ journal.size (history_of l.contents)
