use Rattle.std.proofs.Common.{◌≡◌, drop}
use Rattle.history_model.specs.History.{content_len}
use Rattle.repo_machine.specs.Plain.{history_of}
use Rattle.repo_machine.proofs.plain.content_length.Given as goal

-- what the history knows, the contents that are left know
abbrev pub invariant-contents : goal.invariant-contents
invariant-contents l = content_len (history_of (drop l.content-index l.contents)) l.id ≡ content_len (history_of l.contents) l.id
