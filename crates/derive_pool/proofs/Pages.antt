-- Pages of the log that are read one after another.
use Rattle.std.proofs.Common.{◌≡◌, ℕ, List, [], ◌∷◌, ◌++◌, refl, subst, sym, ap}
use Rattle.history_model.specs.History.{Entry}
use Rattle.history_model.specs.Journal.{Header}
use Rattle.reply_model.specs.Reply.{LogFrom}
use Rattle.reply_model.specs.After.{Relation, Looks, Answer}
use Rattle.derive_pool.specs.Pages.{ReadsPages, next_after}

pub reads_more : (replies : Relation) (header : Header) (number : ℕ) (before : List Entry) (from : ℕ) (answers : List Answer) (between : List Entry) (next : ℕ) (answer : Answer) (after : List Entry)
    → ReadsPages replies header number before from answers between next → replies header between number (Looks (LogFrom next)) answer after
    → ReadsPages replies header number before from (answers ++ answer ∷ []) after (next_after next answer)
reads_more replies header number before from [] between next answer after read one =
    let here = subst (λ (b : List Entry). replies header b number (Looks (LogFrom next)) answer after) read.0 one in
    (after, subst (λ (n : ℕ). replies header before number (Looks (LogFrom n)) answer after) read.1 here, (refl, ap (λ n. next_after n answer) read.1))
reads_more replies header number before from (first ∷ answers) between next answer after read one =
    (read.0, read.1, reads_more replies header number read.0 (next_after from first) answers between next answer after read.2 one)

-- the same where the seat belongs where it did, with the header and the number that it had
pub reads_on : {Home : Type 0} (replies : Home → Relation) (home home_now : Home) (header now : Header) (number number_now : ℕ) (before : List Entry) (from : ℕ) (between : List Entry) (next : ℕ) (after : List Entry) (then : ℕ)
    → home_now ≡ home → now ≡ header → number_now ≡ number → (answers : List Answer) × ReadsPages (replies home) header number before from answers between next
    → (answer : Answer) × replies home_now now between number_now (Looks (LogFrom next)) answer after × (then ≡ next_after next answer)
    → (answers : List Answer) × ReadsPages (replies home) header number before from answers after then
reads_on {Home} replies home home_now header now number number_now before from between next after then same_home same_header same_number read one =
    let at_home = subst (λ (p : Home). replies p now between number_now (Looks (LogFrom next)) one.0 after) same_home one.1 in
    let with_header = subst (λ (h : Header). replies home h between number_now (Looks (LogFrom next)) one.0 after) same_header at_home in
    let with_number = subst (λ (k : ℕ). replies home header between k (Looks (LogFrom next)) one.0 after) same_number with_header in
    (read.0 ++ one.0 ∷ [], subst (λ (n : ℕ). ReadsPages (replies home) header number before from (read.0 ++ one.0 ∷ []) after n) (sym one.2) (reads_more (replies home) header number before from read.0 between next one.0 after read.1 with_number))
