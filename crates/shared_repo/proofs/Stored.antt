-- How many entries are stored, as a history goes on.
use Rattle.std.proofs.Common.{◌≡◌, ℕ, ◌+◌, ◌≤◌, List, [], ◌∷◌, ◌++◌, length, map, Bool, false, Result, Ok, Err, ap, ◌∙◌, inl, inr, arith, length-append, append-nil}
use Rattle.std.specs.Prelude.{IfErr, IfOk, filter}
use Rattle.std.proofs.lemmas.List.{map-append}
use Rattle.std.proofs.lemmas.List.Elements.{filter-append}
use mathlib.Core.List.{IsPrefix}
use Rattle.history_model.specs.History.{Entry, Fault, bodies, is_stored}
use Rattle.history_model.specs.Journal.{Header}
use Rattle.reply_model.specs.Reply.{Question}
use Rattle.reply_model.specs.After.{Answer, Call, Looks, Made, Replies, entry_by, entries_of}
use Rattle.bookmark_lock.specs.Turns.{stored_length}
use Rattle.repo_calls.specs.Asking.{fault_answer, is_disk_fault, stored_answer}
use Rattle.repo_calls.specs.declared.calls.AskFault.{AskFault}
use Rattle.repo_calls.specs.declared.calls.ChangeFault.{ChangeFault}
use Rattle.shared_repo.specs.declared.turns.Placed.{Placed}
use Rattle.shared_repo.proofs.Made.{IsLook, fault_made, looked}

stored-append : (h more : List Entry) → stored_length (h ++ more) ≡ stored_length h + stored_length more
stored-append h more =
    ap (λ bs. length (filter is_stored bs)) (map-append (λ (e : Entry). e.body) h more)
    ∙ (ap length (filter-append is_stored (map (λ (e : Entry). e.body) h) (map (λ (e : Entry). e.body) more)) ∙ length-append (bodies h) (bodies more))

-- what was added takes away nothing
pub stored_grows : (g h : List Entry) → IsPrefix g h → stored_length g ≤ stored_length h
stored_grows g h p = let long = stored-append g p.0 in let is = ap stored_length p.1 in omega arith

-- a fault isn't stored
pub stored_fault : (h : List Entry) (who : ℕ) (breaking : Bool) → stored_length (h ++ entry_by who (Fault breaking) ∷ []) ≡ stored_length h
stored_fault h who breaking = let long = stored-append h (entry_by who (Fault breaking) ∷ []) in omega arith

-- nor is anything that a read makes
stores_nothing : (h new : List Entry) (who : ℕ) (made : Made) → new ≡ h ++ entries_of who made → IsLook made → stored_length new ≡ stored_length h
stores_nothing h new who made is (inl none) = ap stored_length (is ∙ ap (λ m. h ++ entries_of who m) none ∙ append-nil h)
stores_nothing h new who made is (inr fault) = ap stored_length (is ∙ ap (λ m. h ++ entries_of who m) fault) ∙ stored_fault h who false

-- a read stores nothing
pub look_stores : (header : Header) (h new : List Entry) (who : ℕ) (q : Question) (answer : Answer) → Replies header h who (Looks q) answer new → stored_length new ≡ stored_length h
look_stores header h new who q answer r = stores_nothing h new who r.made r.new_is (looked header h q answer r.made r.answers)

-- nor does a change that isn't granted
pub fault_stores : (header : Header) (h new : List Entry) (who : ℕ) (call : Call) (fault : ChangeFault) → is_disk_fault {T = Placed} (Err fault) ≡ false → Replies header h who call (stored_answer (Err fault)) new → stored_length new ≡ stored_length h
fault_stores header h new who call fault up r = stores_nothing h new who r.made r.new_is (fault_made header h call fault r.made up r.answers)

-- nor does one that reads a content's bytes
pub read_stores : {T : Type 0} (header : Header) (h new : List Entry) (who : ℕ) (q : Question) (result : Result T AskFault) (P : T → Type 0) → IfOk result (λ x. (new ≡ h) × P x) → IfErr result (λ fault. Replies header h who (Looks q) (fault_answer fault) new) → stored_length new ≡ stored_length h
read_stores header h new who q (Ok x) P ok err = ap stored_length ok.0
read_stores header h new who q (Err fault) P ok err = look_stores header h new who q (fault_answer fault) err
