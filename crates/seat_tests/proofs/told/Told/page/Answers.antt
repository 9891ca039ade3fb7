use Rattle.std.proofs.Common.{arith, ◌≡◌, ◌≤◌, [], ◌∷◌, ◌++◌, List, length, refl, ap, ◌∙◌, sym}
use Rattle.history_model.specs.History.{Entry}
use Rattle.reply_model.specs.Log.{lines_of}
use Rattle.repo_calls.specs.declared.log.LogEntry.{LogEntry}
use Rattle.repo_calls.specs.Calls.{lines_seen}
use Rattle.seat_tests.specs.Told.{IsLanding}
use Rattle.seat_tests.proofs.told.Told.page.Goals as goal

two_lines : (told : List LogEntry) (a b : LogEntry) → told ≡ a ∷ b ∷ [] → IsLanding a → IsLanding b → (entries : List Entry) × (lines_seen told ≡ lines_of entries) × (length entries ≤ 2)
two_lines told a b is (first, said) (second, also) = (first ∷ second ∷ [], ap lines_seen is ∙ sym (rw said (rw also refl)), omega arith)

pub returns : goal.returns
returns c = two_lines c.push-2.new.self.items c.in_ok-first.first c.in_ok-second.second
    (c.in_ok-push-2.ensures.items ∙ ap (λ es. es ++ (c.in_ok-second.second ∷ [])) (c.in_ok-push.ensures.items ∙ ap (λ es. es ++ (c.in_ok-first.first ∷ [])) c.new-entries.ensures.items))
    c.in_ok-first.ensures c.in_ok-second.ensures
