use Rattle.std.proofs.Common.{◌≡◌, ℕ, Bool, List, sym, ap, ◌∙◌}
use Rattle.reply_model.specs.Reply.{Question}
use Rattle.session_model.specs.Responses.{text_of}
use Rattle.session_model.specs.Asking.{read_response}
use Rattle.repo_calls.specs.declared.calls.AskFault.{AskFault}
use Rattle.repo_calls.specs.Asking.{fault_answer}
use Rattle.http_front.proofs.reads.put_fault.Goals as goal

in_case : (fault this : AskFault) (question : Question) (text : List ℕ) (close head_only : Bool)
    → fault ≡ this → text ≡ text_of (read_response question (fault_answer this)) close head_only → text ≡ text_of (read_response question (fault_answer fault)) close head_only
in_case fault this question text close head_only is e = e ∙ ap (λ f. text_of (read_response question (fault_answer f)) close head_only) (sym is)

pub returns-in-NoPath : goal.returns-in-NoPath
returns-in-NoPath c = λ question. in_case _ _ question _ _ _ c.in-NoPath.is c.put_code.ensures

pub returns-in-NotADir : goal.returns-in-NotADir
returns-in-NotADir c = λ question. in_case _ _ question _ _ _ c.in-NotADir.is c.put_code-in-NotADir.ensures

pub returns-in-NotAFile : goal.returns-in-NotAFile
returns-in-NotAFile c = λ question. in_case _ _ question _ _ _ c.in-NotAFile.is c.put_code-in-NotAFile.ensures

pub returns-in-ReadFault : goal.returns-in-ReadFault
returns-in-ReadFault c = λ question. in_case _ _ question _ _ _ c.in-ReadFault.is c.put_code-in-ReadFault.ensures

pub returns-in-NoPolicy : goal.returns-in-NoPolicy
returns-in-NoPolicy c = λ question. in_case _ _ question _ _ _ c.in-NoPolicy.is c.put_code-in-NoPolicy.ensures
