use Rattle.std.proofs.Common.{◌≡◌, ℕ, Bool, List, Err, inl, subst, sym}
use Rattle.reply_model.specs.After.{Call}
use Rattle.repo_calls.specs.declared.calls.ChangeFault.{ChangeFault}
use Rattle.repo_calls.specs.Asking.{stored_answer}
use Rattle.session_model.specs.Asking.{change_response}
use Rattle.http_front.specs.Answered.{IsPut}
use Rattle.http_front.proofs.AnswerLemmas.{refusal_put}
use Rattle.http_front.proofs.changes.put_fault.Goals as goal

in_case : (fault this : ChangeFault) (call : Call) (text : List ℕ) (close head_only : Bool) → fault ≡ this
    → IsPut (stored_answer (Err this)) (change_response call (stored_answer (Err this))) close head_only text
    → IsPut (stored_answer (Err fault)) (change_response call (stored_answer (Err fault))) close head_only text
in_case fault this call text close head_only is put = subst (λ f. IsPut (stored_answer (Err f)) (change_response call (stored_answer (Err f))) close head_only text) (sym is) put

pub returns-in-Refused : goal.returns-in-Refused
returns-in-Refused c = λ call. in_case _ _ call _ _ _ c.in-Refused.is (refusal_put c.in-Refused.refusal call c.args.form.close c.args.form.head_only c.put_refusal.new.buffer c.put_refusal.ensures)

pub returns-in-DiskFault : goal.returns-in-DiskFault
returns-in-DiskFault c = λ call. in_case _ _ call _ _ _ c.in-DiskFault.is (inl c.put_code.ensures)

pub returns-in-ReadFault : goal.returns-in-ReadFault
returns-in-ReadFault c = λ call. in_case _ _ call _ _ _ c.in-ReadFault.is (inl c.put_code-in-ReadFault.ensures)

pub returns-in-BadBytes : goal.returns-in-BadBytes
returns-in-BadBytes c = λ call. in_case _ _ call _ _ _ c.in-BadBytes.is (inl c.put_body.ensures)
