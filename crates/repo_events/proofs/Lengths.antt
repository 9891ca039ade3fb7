-- The lengths of payloads.
use Rattle.std.proofs.Common.{◌≡◌, ℕ, suc, ◌+◌, List, [], ◌∷◌, ◌++◌, length, map, refl, sym, ap, ◌∙◌, arith, length-append}
use Rattle.std.specs.Prelude.{sum_by, Option, None, Some}
use Rattle.std.specs.List.{concat}
use Rattle.std.specs.Int.{w8, w16, w32, to_be_bytes}
use Rattle.std.proofs.lemmas.List.Sums.{sum_by-cons}
use Rattle.byte_fields.specs.Bytes.{sized}
use Rattle.changeset_model.specs.Changeset.{Changeset, spelling}
use Rattle.history_model.specs.History as model
use Rattle.history_model.specs.Journal.{landing_mark, moment_bytes, wrapped, payload_len}
use Rattle.bonsai.specs.Encodings.{encodings}
use Rattle.repo_events.specs.Entries.{caller_bytes, commits_length}

length-sized : (bytes more : List ℕ) → length (sized w32 bytes ++ more) ≡ 4 + length bytes + length more
length-sized bytes more = let both = length-append bytes more in omega arith

length-sized_all : {A : Type 0} (f : A → List ℕ) (xs : List A) → length (concat (map (λ x. sized w32 (f x)) xs)) ≡ sum_by (λ x. 4 + length (f x)) xs
length-sized_all f [] = refl
length-sized_all f (x ∷ xs) =
    length-sized (f x) (concat (map (λ x. sized w32 (f x)) xs))
    ∙ ap (λ n. 4 + length (f x) + n) (length-sized_all f xs)
    ∙ sym (sum_by-cons (λ x. 4 + length (f x)) x xs)

-- a caller stands before the rest
pub length-wrapped : (caller : Option (List ℕ)) (bytes : List ℕ) → length (wrapped caller bytes) ≡ length (caller_bytes caller) + length bytes
length-wrapped None bytes = omega arith
length-wrapped (Some caller) bytes = let both = length-append (sized w8 caller) bytes in omega arith

-- a mark, a name behind its length of one byte, two ids, a moment and what follows them
length-landing : (name old draft moment rest : List ℕ) (n : ℕ) → length rest ≡ n → suc (suc (length (name ++ (old ++ (draft ++ (moment ++ rest)))))) ≡ 2 + length name + (length old + length draft) + length moment + n
length-landing name old draft moment rest n rest_is = simp length-append (omega arith)

two_more : (m n : ℕ) → m ≡ n → suc (suc m) ≡ 2 + n
two_more m n e = omega arith

pub payload_len-Land : (l : model.Landing) → payload_len (model.Land l) ≡ 4 + length l.name + (length l.old + length l.draft) + length (moment_bytes l.moment) + commits_length l.new + length (caller_bytes l.caller)
payload_len-Land l =
    let rest = concat (map (λ c. sized w32 (spelling c)) l.new) in
    let count_more = two_more (length rest) (commits_length l.new) (length-sized_all spelling l.new) in
    let fields = landing_mark l.moment ∷ (sized w8 l.name ++ (l.old ++ (l.draft ++ (moment_bytes l.moment ++ (to_be_bytes w16 (length l.new) ++ rest))))) in
    let parts = length-landing l.name l.old l.draft (moment_bytes l.moment) (to_be_bytes w16 (length l.new) ++ rest) (2 + commits_length l.new) count_more in
    let whole = length-wrapped l.caller fields in
    omega arith

-- the length of a landing by its parts, as the code reads them
pub length_by_parts : (l : model.Landing) (name old draft : List ℕ) (new : List Changeset) (moment caller : ℕ) → name ≡ l.name → old ≡ l.old → draft ≡ l.draft → new ≡ l.new → moment ≡ length (moment_bytes l.moment) → caller ≡ length (caller_bytes l.caller)
    → 4 + length name + (length old + length draft) + moment + commits_length new + caller ≡ payload_len (model.Land l)
length_by_parts l name old draft new moment caller name_is old_is draft_is new_is moment_is caller_is =
    (λ i. 4 + length (name_is i) + (length (old_is i) + length (draft_is i)) + moment_is i + commits_length (new_is i) + caller_is i) ∙ sym (payload_len-Land l)

-- the same, where the changesets' encodings are known only by their length
pub length_by_changesets : (l : model.Landing) (name : List ℕ) (n moment caller : ℕ) → l.name ≡ name → length l.old ≡ 32 → length l.draft ≡ 32 → n ≡ length (encodings l.new) → moment ≡ length (moment_bytes l.moment) → caller ≡ length (caller_bytes l.caller)
    → 68 + length name + (caller + moment) + n ≡ payload_len (model.Land l)
length_by_changesets l name n moment caller name_is old_long draft_long n_is moment_is caller_is =
    let parts = payload_len-Land l in
    let spelled = length-sized_all spelling l.new in
    let named = ap length name_is in
    omega arith
