-- Each entry takes room.
use Rattle.std.proofs.Common.{◌≡◌, ℕ, ◌+◌, ◌-◌, ◌<◌, ◌≤◌, List, [], ◌∷◌, ◌++◌, cond, refl, ap, ◌∙◌, subst, inl, inr, arith}
use Rattle.std.specs.Prelude.{None, Some, Ok}
use Rattle.history_model.specs.History.{Body, Entry}
use Rattle.history_model.specs.Journal.{Header, payload_len, record_len, size}
use Rattle.reply_model.specs.Log.{LogLine}
use Rattle.reply_model.specs.Reply as reply
use Rattle.reply_model.specs.After.{Call, Asks, Joins, Looks, Derives, Answers, Grants, entry_by}
use Rattle.reply_model.proofs.Histories.{size-push}
use Rattle.opening_laws.proofs.Made.{Fitting, MadeBy, MakesEach, judge_makes}
use Rattle.follower.specs.Making.{call_of, Makes, HasGrown}
use Rattle.follower.proofs.Refused.{IsChange, is_change}
use Rattle.follower.proofs.Entries.{told_is_stored}

judged_fits : (header : Header) (h : List Entry) (ask : reply.Ask) (granted : reply.Granted) (body : Body) → reply.judge header h ask ≡ Ok (record { granted = granted; made = Some body }) → size h + 5 + payload_len body ≤ header.capacity
judged_fits header h ask granted body judged = (subst (MakesEach (Fitting header h (MadeBy h ask))) judged (judge_makes header h ask) body refl).1

granted_fits : (header : Header) (h : List Entry) (call : Call) (granted : reply.Granted) (body : Body) → IsChange call → Answers header h call (Grants granted) (record { entry = Some body; fault = None }) → size h + 5 + payload_len body ≤ header.capacity
granted_fits header h (Asks ask) granted body change answers = judged_fits header h ask granted body answers.1
granted_fits header h (Joins parts) granted body change answers = judged_fits header h (reply.PutWhole parts answers.1) granted body answers.3
granted_fits header h (Looks question) granted body change answers = absurd change
granted_fits header h (Derives x) granted body change answers = absurd change

pub has_grown : (header : Header) (h after : List Entry) (line : LogLine) (fetched : List ℕ) (body : Body) → Makes header h line fetched body → after ≡ h ++ entry_by 0 body ∷ [] → (size h < size after) × (size after ≤ header.capacity)
has_grown header h after line fetched body makes is =
    let fits = granted_fits header h (call_of line fetched) makes.granted body (is_change line fetched) makes.answers in
    let push : size after ≡ size h + record_len body = ap size is ∙ size-push h (entry_by 0 body) ∙ ap (λ b. size h + cond b (record_len body) 0) (told_is_stored body line makes.told) in
    (omega arith, omega arith)

-- after further entries
pub grows_on : (header : Header) (a b c : List Entry) (n : ℕ) → HasGrown header a b n → size b < size c → size c ≤ header.capacity → HasGrown header a c (n + 1)
grows_on header a b c n (inl none) more fits = inr (subst (λ g. size g < size c) none.1 more, fits)
grows_on header a b c n (inr grown) more fits = inr (let less = grown.0 in omega arith, fits)

pub less_room : (header : Header) (a b : List Entry) (n : ℕ) → HasGrown header a b n → 0 < n → header.capacity - size b < header.capacity - size a
less_room header a b n (inl none) some = absurd (let zero = none.0 in omega arith)
less_room header a b n (inr grown) some = let less = grown.0 in let fits = grown.1 in omega arith
