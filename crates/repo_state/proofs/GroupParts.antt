-- The sealed part of a history, and the records of the rest.
use Rattle.std.proofs.Common.{◌≡◌, ℕ, zero, suc, ◌+◌, ◌-◌, ◌≤◌, ◌<◌, Bool, true, false, cond, List, [], ◌∷◌, ◌++◌, map, length, take, drop, refl, sym, ap, subst, ◌∙◌, arith, length-append, append_assoc}
use Rattle.std.specs.Prelude.{filter, sum_by, IsTrue}
use Rattle.std.specs.List.{AllByRecursion}
use Rattle.std.proofs.lemmas.List.{append-nil, drop-drop, drop-take, length-drop, length-take-le, take-append-le, take-append-drop, take-take, drop-append-le}
use Rattle.std.proofs.lemmas.List.Sums.{sum_by-take-drop}
use Rattle.std.proofs.Math.Seq.{drop-append-add, take-append_seam}
use Rattle.std.specs.Int.{w32}
use Rattle.byte_fields.specs.Bytes.{sized}
use Rattle.history_model.specs.History.{Body, Fault, Entry, bodies, is_stored, unnumbered}
use Rattle.history_model.specs.Journal.{Header, IsPayload, framed, record_len, size}
use Rattle.repo_journal.specs.Left.{group_in}
use Rattle.repo_journal.specs.Payloads.{ArePayloads, records}
use Rattle.repo_journal.specs.Groups.{group, grown}
use Rattle.repo_journal.proofs.Groups.{before_gate, grown_group, records-append}
use Rattle.repo_journal.proofs.Histories.{are_payloads-append, group_size}
use Rattle.reply_model.specs.Legal.{GoesOn, IsLegal}
use Rattle.reply_model.proofs.Histories.{bodies-append}
use Rattle.reply_model.proofs.Stored.{IsLegal-stored}
use Rattle.repo_state.specs.Groups.{part_size}
use Rattle.repo_state.specs.Images.{sealed_part, IsPending}
use Rattle.repo_state.proofs.Stands.{bodies-fault, size-same}

pub take_all : {X : Type 0} (xs : List X) → take (length xs) xs ≡ xs
take_all [] = refl
take_all (x ∷ xs) = ap (λ ys. x ∷ ys) (take_all xs)

drop_all : {X : Type 0} (xs : List X) → drop (length xs) xs ≡ []
drop_all [] = refl
drop_all (x ∷ xs) = drop_all xs

stored_one : (b : Body) (bs : List Body) (x : Bool) → is_stored b ≡ x → AllByRecursion (λ b. is_stored b ≡ true) bs → AllByRecursion (λ b. is_stored b ≡ true) (cond x (b ∷ bs) bs)
stored_one b bs true e all = (e, all)
stored_one b bs false e all = all

each_stored : (bs : List Body) → AllByRecursion (λ b. is_stored b ≡ true) (filter is_stored bs)
each_stored [] = tt
each_stored (b ∷ bs) = stored_one b (filter is_stored bs) (is_stored b) refl (each_stored bs)

stored_front : (n : ℕ) (bs : List Body) → AllByRecursion (λ b. is_stored b ≡ true) bs → filter is_stored (take n bs) ≡ take n bs
stored_front zero bs all = refl
stored_front (suc n) [] all = refl
stored_front (suc n) (b ∷ bs) all = (λ i. cond (all.0 i) (b ∷ filter is_stored (take n bs)) (filter is_stored (take n bs))) ∙ ap (λ xs. b ∷ xs) (stored_front n bs all.1)

bodies_again : (bs : List Body) → map (λ (e : Entry). e.body) (map unnumbered bs) ≡ bs
bodies_again [] = refl
bodies_again (b ∷ bs) = ap (λ xs. b ∷ xs) (bodies_again bs)

pub bodies_part : (n : ℕ) (h : List Entry) → bodies (sealed_part n h) ≡ take n (bodies h)
bodies_part n h = ap (λ bs. filter is_stored bs) (bodies_again (take n (bodies h))) ∙ stored_front n (bodies h) (each_stored (map (λ (e : Entry). e.body) h))

goes_less : (header : Header) (before : List Entry) (n : ℕ) (bs : List Body) → GoesOn header before (map unnumbered bs) → GoesOn header before (map unnumbered (take n bs))
goes_less header before zero bs goes = tt
goes_less header before (suc n) [] goes = tt
goes_less header before (suc n) (b ∷ bs) goes = (goes.0, goes_less header (before ++ unnumbered b ∷ []) n bs goes.1)

pub part_legal : (header : Header) (n : ℕ) (h : List Entry) → IsLegal header h → IsLegal header (sealed_part n h)
part_legal header n h legal = goes_less header [] n (bodies h) (IsLegal-stored header h legal)

pub part_same : (n : ℕ) (h g : List Entry) → bodies h ≡ bodies g → sealed_part n h ≡ sealed_part n g
part_same n h g same = ap (λ bs. map unnumbered (take n bs)) same

pub part_grows : (n : ℕ) (h g : List Entry) → n ≤ length (bodies h) → sealed_part n (h ++ g) ≡ sealed_part n h
part_grows n h g le = ap (λ bs. map unnumbered (take n bs)) (bodies-append h g) ∙ ap (map unnumbered) (take-append-le n (bodies h) (bodies g) le)

pub part_whole : (h : List Entry) → bodies (sealed_part (length (bodies h)) h) ≡ bodies h
part_whole h = bodies_part (length (bodies h)) h ∙ take_all (bodies h)

-- the entries that wait
abbrev pub rest : ℕ → List Entry → List Entry
rest n h = map unnumbered (drop n (bodies h))

stored_back : (n : ℕ) (bs : List Body) → AllByRecursion (λ b. is_stored b ≡ true) bs → filter is_stored (drop n bs) ≡ drop n bs
stored_back n [] all = ap (λ bs. filter is_stored bs) (drop_none n) ∙ sym (drop_none n)
  where
    drop_none : (n : ℕ) → ◌≡◌ {A = List Body} (drop n []) []
    drop_none zero = refl
    drop_none (suc n) = refl
stored_back zero (b ∷ bs) all = stored_front_all (b ∷ bs) all
  where
    stored_front_all : (bs : List Body) → AllByRecursion (λ b. is_stored b ≡ true) bs → filter is_stored bs ≡ bs
    stored_front_all [] all = refl
    stored_front_all (b ∷ bs) all = (λ i. cond (all.0 i) (b ∷ filter is_stored bs) (filter is_stored bs)) ∙ ap (λ xs. b ∷ xs) (stored_front_all bs all.1)
stored_back (suc n) (b ∷ bs) all = stored_back n bs all.1

pub bodies_rest : (n : ℕ) (h : List Entry) → bodies (map unnumbered (drop n (bodies h))) ≡ drop n (bodies h)
bodies_rest n h = ap (λ bs. filter is_stored bs) (bodies_again (drop n (bodies h))) ∙ stored_back n (bodies h) (each_stored (map (λ (e : Entry). e.body) h))

pub part_and_rest : (n : ℕ) (h : List Entry) → bodies (sealed_part n h ++ map unnumbered (drop n (bodies h))) ≡ bodies h
part_and_rest n h =
    bodies-append (sealed_part n h) (map unnumbered (drop n (bodies h)))
    ∙ (λ i. bodies_part n h i ++ bodies_rest n h i)
    ∙ take-append-drop n (bodies h)

-- the same, apart
pub both_bodies : (n : ℕ) (h : List Entry) → bodies (sealed_part n h) ++ bodies (map unnumbered (drop n (bodies h))) ≡ bodies h
both_bodies n h = (λ i. bodies_part n h i ++ bodies_rest n h i) ∙ take-append-drop n (bodies h)

-- ---- the records that wait

pub nothing_pending : (h : List Entry) → IsPending h (length (bodies h)) []
nothing_pending h = record { most = omega arith; payloads = []; are = subst (λ bs. ArePayloads bs []) (sym (drop_all (bodies h))) tt; is = refl }

pub one_more_pending : (h : List Entry) (n : ℕ) (bytes payload : List ℕ) (entry : Entry) → IsTrue (is_stored entry.body) → IsPayload entry.body payload → IsPending h n bytes → IsPending (h ++ entry ∷ []) n (grown bytes (framed payload))
one_more_pending h n bytes payload entry stored is p =
    let more : bodies (h ++ entry ∷ []) ≡ bodies h ++ entry.body ∷ [] = bodies-append h (entry ∷ []) ∙ (λ i. bodies h ++ cond (stored i) (entry.body ∷ []) []) in
    let len = ap length more in
    let sum = length-append (bodies h) (entry.body ∷ []) in
    let most = p.most in
    record {
      most = omega arith;
      payloads = p.payloads ++ payload ∷ [];
      are = subst (λ bs. ArePayloads bs (p.payloads ++ payload ∷ [])) (sym (ap (drop n) more ∙ drop-append-le n (bodies h) (entry.body ∷ []) p.most)) (are_payloads-append (drop n (bodies h)) (entry.body ∷ []) p.payloads (payload ∷ []) p.are (is, tt));
      is = ap (λ b. grown b (framed payload)) p.is ∙ grown_group p.payloads payload;
    }

-- what waits is told by what is stored
pub pending_same : (h g : List Entry) (n : ℕ) (bytes : List ℕ) → bodies h ≡ bodies g → IsPending h n bytes → IsPending g n bytes
pending_same h g n bytes same p = record {
  most = subst (λ bs. n ≤ length bs) same p.most;
  payloads = p.payloads;
  are = subst (λ bs. ArePayloads (drop n bs) p.payloads) same p.are;
  is = p.is;
}

-- a fault waits for nothing
pub fault_pending : (h : List Entry) (n who : ℕ) (breaking : Bool) (bytes : List ℕ) → IsPending h n bytes → IsPending (h ++ record { who = who; body = Fault breaking } ∷ []) n bytes
fault_pending h n who breaking bytes p = pending_same h (h ++ record { who = who; body = Fault breaking } ∷ []) n bytes (sym (bodies-fault h who breaking)) p

no_payloads : (bs : List Body) → ArePayloads bs [] → bs ≡ []
no_payloads [] are = refl
no_payloads (b ∷ bs) are = absurd are

pending_by : (h : List Entry) (n : ℕ) (bytes : List ℕ) (payloads : List (List ℕ)) → ArePayloads (bodies (rest n h)) payloads → bytes ≡ group payloads → size h ≡ size (sealed_part n h) + length bytes
pending_by h n bytes [] are is =
    let none : bodies (sealed_part n h) ≡ bodies h = sym (append-nil (bodies (sealed_part n h))) ∙ ap (λ bs. bodies (sealed_part n h) ++ bs) (sym (no_payloads (bodies (rest n h)) are)) ∙ sym (bodies-append (sealed_part n h) (rest n h)) ∙ part_and_rest n h in
    let same = size-same (sealed_part n h) h none in
    let len = ap length is in
    omega arith
pending_by h n bytes (payload ∷ payloads) are is =
    let same = size-same (sealed_part n h ++ rest n h) h (part_and_rest n h) in
    let grows = group_size (sealed_part n h) (rest n h) payload payloads are in
    let len = ap length is in
    omega arith

-- the file and what waits have the history's size
pub pending_size : (h : List Entry) (n : ℕ) (bytes : List ℕ) → IsPending h n bytes → size h ≡ size (sealed_part n h) + length bytes
pending_size h n bytes p = pending_by h n bytes p.payloads (subst (λ bs. ArePayloads bs p.payloads) (sym (bodies_rest n h)) p.are) p.is

-- ---- how many bytes a part has

pub size_part : (k : ℕ) (h : List Entry) → size (sealed_part k h) ≡ 17 + sum_by record_len (take k (bodies h))
size_part k h = ap (λ bs. 17 + sum_by record_len bs) (bodies_part k h)

pub part_within : (k : ℕ) (h : List Entry) → size (sealed_part k h) ≤ size h
part_within k h = let part = size_part k h in let sum = sum_by-take-drop record_len (bodies h) k in let whole : size h ≡ 17 + sum_by record_len (bodies h) = refl in omega arith

pub part_least : (n upto : ℕ) (h : List Entry) → n ≤ upto → size (sealed_part n h) ≤ size (sealed_part upto h)
part_least n upto h le =
    let less = size_part n h in
    let more = size_part upto h in
    let sum = sum_by-take-drop record_len (take upto (bodies h)) n in
    let same : sum_by record_len (take n (take upto (bodies h))) ≡ sum_by record_len (take n (bodies h)) = ap (λ bs. sum_by record_len bs) (take-take n upto (bodies h) le) in
    omega arith

-- a group is among what waits
pub group_waits : (h : List Entry) (n upto : ℕ) (bytes : List ℕ) → IsPending h n bytes → part_size n upto h ≤ length bytes
group_waits h n upto bytes p = let whole = pending_size h n bytes p in let part = part_within upto h in omega arith

-- ---- a group, and what waits behind it

are_split : (k : ℕ) (bs : List Body) (ps : List (List ℕ)) → ArePayloads bs ps → ArePayloads (take k bs) (take k ps) × ArePayloads (drop k bs) (drop k ps)
are_split zero bs ps are = (tt, are)
are_split (suc k) [] [] are = (tt, tt)
are_split (suc k) [] (p ∷ ps) are = absurd are
are_split (suc k) (b ∷ bs) [] are = absurd are
are_split (suc k) (b ∷ bs) (p ∷ ps) are = let later = are_split k bs ps are.1 in ((are.0, later.0), later.1)

-- the records of a group before those behind it, of which there may be none
pub record HasGroup (h : List Entry) (n upto : ℕ) (bytes : List ℕ) : Type 0 where
  pub payload : List ℕ
  pub payloads : List (List ℕ)
  pub later : List (List ℕ)
  pub is : bytes ≡ group (payload ∷ (payloads ++ later))
  pub these : IsPending (sealed_part upto h) n (group (payload ∷ payloads))
  pub behind : IsPending h upto (group later)

some_first : (k : ℕ) (bs : List Body) (ps : List (List ℕ)) → 0 < k → k ≤ length bs → ArePayloads bs ps → (payload : List ℕ) × (payloads : List (List ℕ)) × (take k ps ≡ payload ∷ payloads)
some_first zero bs ps some most are = absurd (omega arith)
some_first (suc k) [] ps some most are = absurd (omega arith)
some_first (suc k) (b ∷ bs) [] some most are = absurd are
some_first (suc k) (b ∷ bs) (p ∷ ps) some most are = (p, take k ps, refl)

pub has_group : (h : List Entry) (n upto : ℕ) (bytes : List ℕ) → n < upto → upto ≤ length (bodies h) → IsPending h n bytes → HasGroup h n upto bytes
has_group h n upto bytes less most p =
    let k = upto - n in
    let ends : upto ≡ n + k = omega arith in
    let split = are_split k (drop n (bodies h)) p.payloads p.are in
    let len = length-drop n (bodies h) in
    let first = some_first k (drop n (bodies h)) p.payloads (omega arith) (omega arith) p.are in
    let count : length (bodies (sealed_part upto h)) ≡ upto = ap (λ (bs : List Body). length bs) (bodies_part upto h) ∙ length-take-le upto (bodies h) most in
    let whole : p.payloads ≡ first.0 ∷ (first.1 ++ drop k p.payloads) = sym (take-append-drop k p.payloads) ∙ ap (λ xs. xs ++ drop k p.payloads) first.2 in
    let those : drop n (bodies (sealed_part upto h)) ≡ take k (drop n (bodies h)) = ap (λ bs. drop n bs) (bodies_part upto h ∙ ap (λ m. take m (bodies h)) ends) ∙ drop-take n k (bodies h) in
    let rest : drop k (drop n (bodies h)) ≡ drop upto (bodies h) = drop-drop k n (bodies h) ∙ ap (λ m. drop m (bodies h)) (sym ends) in
    record {
      payload = first.0;
      payloads = first.1;
      later = drop k p.payloads;
      is = p.is ∙ ap (λ ps. group ps) whole;
      these = record { most = omega arith; payloads = first.0 ∷ first.1; are = subst (λ bs. ArePayloads bs (first.0 ∷ first.1)) (sym those) (subst (λ ps. ArePayloads (take k (drop n (bodies h))) ps) first.2 split.0); is = refl };
      behind = record { most = most; payloads = drop k p.payloads; are = subst (λ bs. ArePayloads bs (drop k p.payloads)) rest split.1; is = refl };
    }

-- what stands before the records behind it
pub group_front : (payload : List ℕ) (payloads later : List (List ℕ)) → group (payload ∷ (payloads ++ later)) ≡ before_gate payload payloads ++ (records later ++ 0 ∷ [])
group_front payload payloads later =
    ap (λ xs. (sized w32 payload ++ xs) ++ 0 ∷ []) (records-append payloads later)
    ∙ ap (λ xs. xs ++ 0 ∷ []) (sym (append_assoc (sized w32 payload) (records payloads) (records later)))
    ∙ append_assoc (before_gate payload payloads) (records later) (0 ∷ [])

front_length : (payload : List ℕ) (payloads : List (List ℕ)) → length (group (payload ∷ payloads)) ≡ length (before_gate payload payloads) + 1
front_length payload payloads = length-append (before_gate payload payloads) (0 ∷ [])

front_end : (payload : List ℕ) (payloads : List (List ℕ)) → length (group (payload ∷ payloads)) - 1 ≡ length (before_gate payload payloads)
front_end payload payloads = let len = front_length payload payloads in omega arith

-- the group as it stands on the disk
pub group_at : (payload : List ℕ) (payloads later : List (List ℕ)) → group_in (length (group (payload ∷ payloads))) (group (payload ∷ (payloads ++ later))) ≡ group (payload ∷ payloads)
group_at payload payloads later =
    ap (λ n. take n (group (payload ∷ (payloads ++ later))) ++ 0 ∷ []) (front_end payload payloads)
    ∙ ap (λ xs. take (length (before_gate payload payloads)) xs ++ 0 ∷ []) (group_front payload payloads later)
    ∙ ap (λ xs. xs ++ 0 ∷ []) (take-append_seam (before_gate payload payloads) (records later ++ 0 ∷ []))

-- and what is left without it
pub group_dropped : (payload : List ℕ) (payloads later : List (List ℕ)) → drop (length (group (payload ∷ payloads))) (group (payload ∷ (payloads ++ later))) ≡ group later
group_dropped payload payloads later =
    ap (λ n. drop n (group (payload ∷ (payloads ++ later)))) (front_length payload payloads)
    ∙ ap (λ xs. drop (length (before_gate payload payloads) + 1) xs) (group_front payload payloads later)
    ∙ drop-append-add (before_gate payload payloads) (records later ++ 0 ∷ []) 1

-- it has as many bytes as its records
pub group_long : (h : List Entry) (n upto : ℕ) (bytes : List ℕ) → n ≤ upto → IsPending (sealed_part upto h) n bytes → length bytes ≡ part_size n upto h
group_long h n upto bytes le p =
    let whole = pending_size (sealed_part upto h) n bytes p in
    let part : size (sealed_part n (sealed_part upto h)) ≡ size (sealed_part n h) = ap (λ bs. size (map unnumbered bs)) (ap (λ bs. take n bs) (bodies_part upto h) ∙ take-take n upto (bodies h) le) in
    omega arith

-- a group of which more is held keeps its bytes
pub group_grown : (n : ℕ) (bytes frame : List ℕ) → n ≤ length bytes → group_in n (grown bytes frame) ≡ group_in n bytes
group_grown zero [] frame le = refl
group_grown (suc n) [] frame le = absurd (omega arith)
group_grown n (b ∷ bytes) frame le =
    let front = take (length bytes) (b ∷ bytes) in
    let len : length front ≡ length bytes = length-take-le (length bytes) (b ∷ bytes) (omega arith) in
    ap (λ xs. xs ++ 0 ∷ []) (take-append-le (n - 1) front (1 ∷ frame) (omega arith) ∙ take-take (n - 1) (length bytes) (b ∷ bytes) (omega arith))
