use Rattle.std.proofs.Common.{arith, ◌≡◌, ℕ, List, Result, Ok, Err, refl}
use Rattle.std.specs.Result.{IsErr}
use Rattle.history_model.specs.History.{Entry}
use Rattle.reply_model.specs.After.{Answer, Call, Looks, Shows}
use Rattle.reply_model.specs.Log.{lines_of}
use Rattle.reply_model.specs.Reply.{SeenLog}
use Rattle.repo_calls.specs.declared.calls.AskFault.{AskFault}
use Rattle.repo_calls.specs.declared.calls.AskFault.TheVariants.{NoContent, NoChangeset, NoPath, NotADir, NotAFile, NoPolicy, Collision, ReadFault, BadBytes, Memory}
use Rattle.repo_calls.specs.declared.calls.Question.{Question}
use Rattle.repo_calls.specs.declared.calls.Question.TheVariants.{Log}
use Rattle.repo_calls.specs.declared.calls.Seen.{Seen}
use Rattle.repo_calls.specs.declared.log.LogPage.{LogPage}
use Rattle.repo_calls.specs.Calls.{lines_seen}
use Rattle.repo_calls.specs.Asking.{fault_answer, IsAnswer, question_seen}
use Rattle.seat_tests.specs.Told.{IsTold, IsPage}
use Rattle.seat_tests.proofs.told.ToldSeat.look.Goals as goal

is_told : (call : Call) (fault : AskFault) → IsTold call (fault_answer fault)
is_told call (NoContent id) = tt
is_told call (NoChangeset id) = tt
is_told call NoPath = tt
is_told call NotADir = tt
is_told call NotAFile = tt
is_told call NoPolicy = tt
is_told call (Collision id) = tt
is_told call ReadFault = tt
is_told call (BadBytes wanted found) = tt
is_told call Memory = tt

told : (call : Call) (r : Result Seen AskFault) → IsErr r → (answer : Answer) × IsAnswer r answer × IsTold call answer
told call (Ok seen) none = absurd (cc)
told call (Err fault) some = (fault_answer fault, refl, is_told call fault)

pub returns-in_err-node-in-Fsnode-clause-reply : goal.returns-in_err-node-in-Fsnode-clause-reply
returns-in_err-node-in-Fsnode-clause-reply c = told (Looks (question_seen c.args.question.now)) c.from_residual.result c.from_residual.ensures.0

pub returns-in_err-node-in-Unode-clause-reply : goal.returns-in_err-node-in-Unode-clause-reply
returns-in_err-node-in-Unode-clause-reply c = told (Looks (question_seen c.args.question.now)) c.from_residual-in_err-node-in-Unode.result c.from_residual-in_err-node-in-Unode.ensures.0

pub returns-in_err-node-in-Deleted-clause-reply : goal.returns-in_err-node-in-Deleted-clause-reply
returns-in_err-node-in-Deleted-clause-reply c = told (Looks (question_seen c.args.question.now)) c.from_residual-in_err-node-in-Deleted.result c.from_residual-in_err-node-in-Deleted.ensures.0

pub returns-in_err-history-in-History-clause-reply : goal.returns-in_err-history-in-History-clause-reply
returns-in_err-history-in-History-clause-reply c = told (Looks (question_seen c.args.question.now)) c.from_residual-in_err-history-in-History.result c.from_residual-in_err-history-in-History.ensures.0

pub returns-in_err-history-in-PathLog-clause-reply : goal.returns-in_err-history-in-PathLog-clause-reply
returns-in_err-history-in-PathLog-clause-reply c = told (Looks (question_seen c.args.question.now)) c.from_residual-in_err-history-in-PathLog.result c.from_residual-in_err-history-in-PathLog.ensures.0

pub returns-in_err-policy-in-Policy-clause-reply : goal.returns-in_err-policy-in-Policy-clause-reply
returns-in_err-policy-in-Policy-clause-reply c = told (Looks (question_seen c.args.question.now)) c.from_residual-in_err-policy-in-Policy.result c.from_residual-in_err-policy-in-Policy.ensures.0

pub returns-in_err-copies-in-Copies-clause-reply : goal.returns-in_err-copies-in-Copies-clause-reply
returns-in_err-copies-in-Copies-clause-reply c = told (Looks (question_seen c.args.question.now)) c.from_residual-in_err-copies-in-Copies.result c.from_residual-in_err-copies-in-Copies.ensures.0

pub returns-in_err-page-in-Log-eq0-clause-reply : goal.returns-in_err-page-in-Log-eq0-clause-reply
returns-in_err-page-in-Log-eq0-clause-reply c = told (Looks (question_seen c.args.question.now)) c.from_residual-in_err-page-in-Log-eq0.result c.from_residual-in_err-page-in-Log-eq0.ensures.0

-- the page that begins with the first entry
first_page : (question : Question) (n : ℕ) (page : LogPage) → question ≡ Log n → n ≡ 0 → IsPage page → (answer : Answer) × ((entries : List Entry) × (answer ≡ Shows (SeenLog entries page.total)) × (lines_seen page.entries.items ≡ lines_of entries)) × IsTold (Looks (question_seen question)) answer
first_page question n page is zero (entries, same, few) = (Shows (SeenLog entries page.total), (entries, refl, same), rw is (omega (arith, zero, few)))

pub returns-in_ok-page-in-Log-eq0-clause-reply : goal.returns-in_ok-page-in-Log-eq0-clause-reply
returns-in_ok-page-in-Log-eq0-clause-reply c = first_page c.args.question.now c.in-Log-eq0.field-0 c.in_ok-page-in-Log-eq0.field-0 c.in-Log-eq0.is (rw c.in-Log-eq0.is at c.in-Log-eq0.field-0-test) c.in_ok-page-in-Log-eq0.ensures
