-- The bytes of a file with those that wait behind them, when more wait, and once they are sealed.
use Rattle.std.proofs.Common.{◌≡◌, ℕ, zero, suc, ◌+◌, ◌-◌, ◌≤◌, ◌<◌, List, [], ◌∷◌, ◌++◌, length, take, drop, refl, sym, ap, subst, ◌∙◌, arith, length-append, append_assoc}
use Rattle.std.specs.Prelude.{sum_by}
use Rattle.std.specs.List.{AllByRecursion}
use Rattle.std.proofs.lemmas.List.{drop-take, length-take-le, take-append-drop}
use Rattle.std.proofs.Math.Seq.{take-append_seam, drop-append-add}
use Rattle.byte_fields.proofs.Lists.{all_both}
use Rattle.history_model.specs.History.{Body, Entry, bodies}
use Rattle.history_model.specs.Journal.{Header, HoldsParts, record_len, size}
use Rattle.reply_model.specs.Legal.{IsLegal, MayFollow}
use Rattle.reply_model.proofs.Opened.{has_parts, have_parts}
use Rattle.repo_journal.specs.Groups.{group, grown, with_group, AddsGroup}
use Rattle.repo_journal.specs.Payloads.{records}
use Rattle.repo_journal.proofs.Groups.{before_gate}
use Rattle.repo_journal.proofs.Wholes.{each_same, each_still}
use Rattle.repo_state.proofs.GroupParts.{group_front}

front_long : (size : ℕ) (reads : List ℕ) → size ≤ length reads → length (take (size - 1) reads) ≡ size - 1
front_long size reads long = length-take-le (size - 1) reads (omega arith)

-- ---- a place in it

take_less : (k n : ℕ) (xs : List ℕ) → k ≤ n → take k (take n xs) ≡ take k xs
take_less zero n xs le = refl
take_less (suc k) zero xs le = absurd (omega arith)
take_less (suc k) (suc n) [] le = refl
take_less (suc k) (suc n) (x ∷ xs) le = ap (λ ys. x ∷ ys) (take_less k n xs (omega arith))

piece : (file other : List ℕ) (end at n : ℕ) → take end file ≡ take end other → at + n ≤ end → take n (drop at file) ≡ take n (drop at other)
piece file other end at n same le =
    sym (drop-take at n file)
    ∙ ap (drop at) (sym (take_less (at + n) end file le) ∙ ap (take (at + n)) same ∙ take_less (at + n) end other le)
    ∙ drop-take at n other

module _ (size : ℕ) (bytes reads : List ℕ) (some : 1 ≤ size) (long : size ≤ length reads) where
  front_same : take (size - 1) (with_group size bytes reads) ≡ take (size - 1) reads
  front_same = ap (λ n. take n (with_group size bytes reads)) (sym (front_long size reads long)) ∙ take-append_seam (take (size - 1) reads) (1 ∷ bytes)

  pub laid_front : (at n : ℕ) → at + n < size → take n (drop at (with_group size bytes reads)) ≡ take n (drop at reads)
  laid_front at n less = piece (with_group size bytes reads) reads (size - 1) at n front_same (omega arith)

  pub laid_behind : (at n : ℕ) → size ≤ at → take n (drop at (with_group size bytes reads)) ≡ take n (drop (at - size) bytes)
  laid_behind at n le =
      let len = front_long size reads long in
      let far : at ≡ length (take (size - 1) reads) + suc (at - size) = omega arith in
      ap (take n) (ap (λ k. drop k (with_group size bytes reads)) far ∙ drop-append-add (take (size - 1) reads) (1 ∷ bytes) (suc (at - size)))

-- ---- more waits

length_laid : (size : ℕ) (bytes reads : List ℕ) → 1 ≤ size → size ≤ length reads → length (with_group size bytes reads) ≡ size + length bytes
length_laid size bytes reads some long =
    let front = front_long size reads long in
    let whole = length-append (take (size - 1) reads) (1 ∷ bytes) in
    omega arith

-- two lists that begin alike
seam : (end : ℕ) (front a b : List ℕ) → length front ≡ end → take end (front ++ a) ≡ take end (front ++ b)
seam end front a b len = subst (λ n. take n (front ++ a) ≡ take n (front ++ b)) len (take-append_seam front a ∙ sym (take-append_seam front b))

laid_grown : (size : ℕ) (bytes frame reads : List ℕ) → 1 ≤ size → size ≤ length reads → take (size + length bytes - 1) (with_group size (grown bytes frame) reads) ≡ take (size + length bytes - 1) (with_group size bytes reads)
laid_grown size [] frame reads some long = seam (size + 0 - 1) (take (size - 1) reads) (1 ∷ frame) (1 ∷ []) (let len = front_long size reads long in omega arith)
laid_grown size (b ∷ bytes) frame reads some long =
    let front = take (size - 1) reads ++ 1 ∷ take (length bytes) (b ∷ bytes) in
    let len = front_long size reads long in
    let whole = length-append (take (size - 1) reads) (1 ∷ take (length bytes) (b ∷ bytes)) in
    let part : length (take (length bytes) (b ∷ bytes)) ≡ length bytes = length-take-le (length bytes) (b ∷ bytes) (omega arith) in
    let end : length front ≡ size + suc (length bytes) - 1 = omega arith in
    let more : with_group size (grown (b ∷ bytes) frame) reads ≡ front ++ 1 ∷ frame = sym (append_assoc (take (size - 1) reads) (1 ∷ take (length bytes) (b ∷ bytes)) (1 ∷ frame)) in
    let less : with_group size (b ∷ bytes) reads ≡ front ++ drop (length bytes) (b ∷ bytes) =
    ap (λ t. take (size - 1) reads ++ 1 ∷ t) (sym (take-append-drop (length bytes) (b ∷ bytes)))
    ∙ sym (append_assoc (take (size - 1) reads) (1 ∷ take (length bytes) (b ∷ bytes)) (drop (length bytes) (b ∷ bytes))) in
    ap (take (size + suc (length bytes) - 1)) more
    ∙ seam (size + suc (length bytes) - 1) front (1 ∷ frame) (drop (length bytes) (b ∷ bytes)) end
    ∙ sym (ap (take (size + suc (length bytes) - 1)) less)

abbrev AllHold : List ℕ → List Body → Type 0
AllHold file bs = AllByRecursion (HoldsParts file bs) bs

-- another entry waits, of which its parts are held too
pub holds_grown : (header : Header) (h : List Entry) (body : Body) (size_now : ℕ) (bytes frame reads : List ℕ) → IsLegal header h → MayFollow header h body → 1 ≤ size_now → size_now ≤ length reads → size h ≡ size_now + length bytes
    → AllHold (with_group size_now bytes reads) (bodies h) → HoldsParts (with_group size_now bytes reads) (bodies h) body
    → AllHold (with_group size_now (grown bytes frame) reads) (bodies h ++ body ∷ [])
holds_grown header h body size_now bytes frame reads legal follows some long whole all next =
    let file = with_group size_now (grown bytes frame) reads in
    let other = with_group size_now bytes reads in
    let end = size_now + length bytes - 1 in
    let same = laid_grown size_now bytes frame reads some long in
    let fits : 16 + sum_by record_len (bodies h) ≤ end = omega arith in
    all_both (HoldsParts file (bodies h ++ body ∷ [])) (bodies h) (body ∷ [])
    (each_still file other end same (bodies h) fits (body ∷ []) (bodies h) (have_parts header h legal) all)
    (each_still file other end same (bodies h) fits (body ∷ []) (body ∷ []) (has_parts header h body follows, tt) (next, tt))

-- ---- a group is sealed

-- the gate behind it is open in memory, where more waits
tail_length : (later : List (List ℕ)) → length (records later ++ 0 ∷ []) ≡ length (group later) + 1
tail_length [] = refl
tail_length (p ∷ ps) = let one : length (records (p ∷ ps) ++ 0 ∷ []) ≡ suc (length (group (p ∷ ps))) = refl in omega arith

same_tail : (front : List ℕ) (later : List (List ℕ)) (end : ℕ) → length front + length (group later) ≡ end → take end (front ++ 1 ∷ group later) ≡ take end (front ++ (records later ++ 0 ∷ []))
same_tail front [] end e = seam end front (1 ∷ []) (0 ∷ []) (let none : length (group []) ≡ 0 = refl in omega arith)
same_tail front (p ∷ ps) end e = refl

-- the file has it, and what waited behind it waits on
pub holds_behind : (h : List Entry) (size_now : ℕ) (payload : List ℕ) (payloads later : List (List ℕ)) (before reads : List ℕ) → 1 ≤ size_now → size_now ≤ length before → size h ≡ size_now + length (group (payload ∷ (payloads ++ later))) → AddsGroup size_now (group (payload ∷ payloads)) before reads
    → AllHold (with_group size_now (group (payload ∷ (payloads ++ later))) before) (bodies h) → AllHold (with_group (size_now + length (group (payload ∷ payloads))) (group later) reads) (bodies h)
holds_behind h size_now payload payloads later before reads some long whole added all =
    let front = take (size_now - 1) before in
    let gate = before_gate payload payloads in
    let done = front ++ 1 ∷ gate in
    let front_len = front_long size_now before long in
    let done_len = length-append front (1 ∷ gate) in
    let group_len : length (group (payload ∷ payloads)) ≡ length gate + 1 = length-append gate (0 ∷ []) in
    let file : reads ≡ done ++ 0 ∷ added.rest = added.is ∙ ap (λ xs. front ++ 1 ∷ xs) (append_assoc gate (0 ∷ []) added.rest) ∙ sym (append_assoc front (1 ∷ gate) (0 ∷ added.rest)) in
    let at_end : size_now + length (group (payload ∷ payloads)) - 1 ≡ length done = omega arith in
    let now : with_group (size_now + length (group (payload ∷ payloads))) (group later) reads ≡ done ++ 1 ∷ group later =
    ap (λ xs. xs ++ 1 ∷ group later) (ap (λ k. take k reads) at_end ∙ ap (take (length done)) file ∙ take-append_seam done (0 ∷ added.rest)) in
    let was : with_group size_now (group (payload ∷ (payloads ++ later))) before ≡ done ++ (records later ++ 0 ∷ []) =
    ap (λ xs. front ++ 1 ∷ xs) (group_front payload payloads later) ∙ sym (append_assoc front (1 ∷ gate) (records later ++ 0 ∷ [])) in
    let group_size = ap (λ (xs : List ℕ). length xs) (group_front payload payloads later) ∙ length-append gate (records later ++ 0 ∷ []) in
    let tail = tail_length later in
    let end : length done + length (group later) ≡ size h - 1 = omega arith in
    each_same (with_group (size_now + length (group (payload ∷ payloads))) (group later) reads) (with_group size_now (group (payload ∷ (payloads ++ later))) before) (size h - 1)
    (ap (take (size h - 1)) now ∙ same_tail done later (size h - 1) end ∙ sym (ap (take (size h - 1)) was)) (bodies h) (omega arith) (bodies h) all

-- ---- a file that was opened

pub holds_opened : (h : List Entry) (reads : List ℕ) → size h ≤ length reads → AllHold reads (bodies h) → AllHold (with_group (size h) [] reads) (bodies h)
holds_opened h reads long all = each_same (with_group (size h) [] reads) reads (size h - 1) (front_same (size h) [] reads (omega arith) long) (bodies h) (omega arith) (bodies h) all
