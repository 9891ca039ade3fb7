use Rattle.std.proofs.Common.{◌≡◌, ℕ, Bool, List, Err, inl, subst, sym}
use Rattle.reply_model.specs.After.{Call}
use Rattle.repo_calls.specs.declared.calls.ChangeFault.{ChangeFault}
use Rattle.repo_calls.specs.Asking.{stored_answer}
use Rattle.session_model.specs.Asking.{list_response}
use Rattle.http_front.specs.Answered.{IsPut}
use Rattle.http_front.proofs.lists.put_fault_at.Goals as goal

in_case : (fault this : ChangeFault) (call : Call) (at : ℕ) (text : List ℕ) (close head_only : Bool) → fault ≡ this
    → IsPut (stored_answer (Err this)) (list_response call at (stored_answer (Err this))) close head_only text
    → IsPut (stored_answer (Err fault)) (list_response call at (stored_answer (Err fault))) close head_only text
in_case fault this call at text close head_only is put = subst (λ f. IsPut (stored_answer (Err f)) (list_response call at (stored_answer (Err f))) close head_only text) (sym is) put

pub returns-in-Refused : goal.returns-in-Refused
returns-in-Refused c = λ call. in_case _ _ call c.args.at _ _ _ c.in-Refused.is (c.put_refusal_at.ensures call)

pub returns-in-DiskFault : goal.returns-in-DiskFault
returns-in-DiskFault c = λ call. in_case _ _ call c.args.at _ _ _ c.in-DiskFault.is (inl c.put_code_at.ensures)

pub returns-in-ReadFault : goal.returns-in-ReadFault
returns-in-ReadFault c = λ call. in_case _ _ call c.args.at _ _ _ c.in-ReadFault.is (inl c.put_code_at-in-ReadFault.ensures)

pub returns-in-BadBytes : goal.returns-in-BadBytes
returns-in-BadBytes c = λ call. in_case _ _ call c.args.at _ _ _ c.in-BadBytes.is (inl c.put_body_at.ensures)
