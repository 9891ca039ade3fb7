-- The requests that a session has taken so far, step by step.
use Rattle.std.proofs.Common.{◌≡◌, ℕ, ◌<◌, ◌≤◌, true, false, refl, List, [], ◌∷◌, ◌++◌, length, sym, ap, ◌∙◌, subst, arith, cond}
use Rattle.std.specs.Prelude.{nat_le, ◌==◌}
use Rattle.std.proofs.lemmas.Bool.{cond-true, cond-false, le-leb, lt-leb, ne_eqb}
use Rattle.http_model.specs.declared.head_refusal.HeadRefusal.{HeadRefusal}
use Rattle.http_model.specs.Refusals.{status_of}
use Rattle.http_model.specs.Stream.{Request, Next, Whole, Partial, Refuses, skip_blank, Stands, Begins}
use Rattle.http_model.specs.Session.{End, Ended, Closed, Cut, Refused, Spent, Takes, Leaves, Requests, most_read}
use Rattle.http_model.proofs.Blank.{skip_skip, skip-append}
use Rattle.http_model.proofs.Streams.{begins_unique, whole_stays}

-- before the first request
pub takes_none : (bytes : List ℕ) → Takes bytes [] bytes
takes_none bytes = refl

-- more bytes come after the rest
pub takes_more : (bytes : List ℕ) (requests : List Request) (rest more : List ℕ) → Takes bytes requests rest → Takes (bytes ++ more) requests (rest ++ more)
takes_more bytes [] rest more same = sym (skip-append bytes more) ∙ ap (λ bs. skip_blank (bs ++ more)) same ∙ skip-append rest more
takes_more bytes (request ∷ requests) rest more takes =
    (takes.0 ++ more, whole_stays bytes more request takes.0 takes.1, takes.2, takes_more takes.0 requests rest more takes.3)

-- the empty lines before the rest are dropped
pub takes_skipped : (bytes : List ℕ) (requests : List Request) (rest : List ℕ) → Takes bytes requests rest → Takes bytes requests (skip_blank rest)
takes_skipped bytes [] rest same = same ∙ sym (skip_skip rest)
takes_skipped bytes (request ∷ requests) rest takes = (takes.0, takes.1, takes.2, takes_skipped takes.0 requests rest takes.3)

-- what stands first is the same but for empty lines before it
begins_along : (bytes other : List ℕ) (next : Next) → skip_blank bytes ≡ skip_blank other → Begins other next → Begins bytes next
begins_along bytes other next same begins = let P : List ℕ → Type 0 = λ bs. Stands bs next in subst P (sym same) begins

-- the request that stands first in the rest is the next one
pub takes_one : (bytes : List ℕ) (requests : List Request) (rest : List ℕ) (request : Request) (after : List ℕ)
    → Takes bytes requests rest → Begins rest (Whole request after) → request.close ≡ false → Takes bytes (requests ++ request ∷ []) after
takes_one bytes [] rest request after same begins open_after = (after, begins_along bytes rest (Whole request after) same begins, open_after, refl)
takes_one bytes (first ∷ requests) rest request after takes begins open_after =
    (takes.0, takes.1, takes.2, takes_one takes.0 requests rest request after takes.3 begins open_after)

-- ---- how it ends

pub ends_closed : (bytes : List ℕ) (requests : List Request) (rest : List ℕ) (last : Request) (after : List ℕ)
    → Takes bytes requests rest → Begins rest (Whole last after) → last.close ≡ true → length bytes ≤ most_read → Requests bytes (requests ++ last ∷ []) Closed
ends_closed bytes requests rest last after takes begins close few = (requests, last, after, refl, (rest, takes, begins), close, few)

pub ends_refused : (bytes : List ℕ) (requests : List Request) (rest : List ℕ) (refusal : HeadRefusal)
    → Takes bytes requests rest → Begins rest (Refuses refusal) → length bytes ≤ most_read → Requests bytes requests (Refused (status_of refusal))
ends_refused bytes requests rest refusal takes begins few = (refusal, (rest, takes, begins), refl, few)

pub ends_spent : (bytes : List ℕ) (requests : List Request) (rest : List ℕ) (read : ℕ)
    → Takes bytes requests rest → Begins rest (Partial read) → length bytes ≡ most_read → Requests bytes requests Spent
ends_spent bytes requests rest read takes begins all = (read, (rest, takes, begins), all)

pub ends_between : (bytes : List ℕ) (requests : List Request) (rest : List ℕ)
    → Takes bytes requests rest → Begins rest (Partial 0) → length bytes < most_read → Requests bytes requests Ended
ends_between bytes requests rest takes begins fewer = ((rest, takes, begins), fewer)

pub ends_cut : (bytes : List ℕ) (requests : List Request) (rest : List ℕ) (read : ℕ)
    → Takes bytes requests rest → Begins rest (Partial read) → 0 < read → length bytes < most_read → Requests bytes requests (Cut read)
ends_cut bytes requests rest read takes begins some fewer = ((rest, takes, begins), some, fewer)

-- ---- one outcome

-- what a session takes no request after
abbrev pub IsLast : Next → Type 0
IsLast (Whole request rest) = request.close ≡ true
IsLast (Partial read) = Unit {0}
IsLast (Refuses refusal) = Unit {0}

last_is_not_open : (next : Next) (request : Request) (after : List ℕ) → next ≡ Whole request after → IsLast next → request.close ≡ false → ⊥
last_is_not_open next request after is last open_after =
    let close = subst IsLast is last in
    cc (close, open_after)

pub leaves_unique : (bytes : List ℕ) (requests others : List Request) (next other : Next)
    → Leaves bytes requests next → IsLast next → Leaves bytes others other → IsLast other → (requests ≡ others) × (next ≡ other)
leaves_unique bytes [] [] next other x last y last_too =
    (refl, begins_unique bytes next other (begins_along bytes x.0 next x.1 x.2) (begins_along bytes y.0 other y.1 y.2))
leaves_unique bytes [] (second ∷ others) next other x last y last_too =
    let is = begins_unique bytes next (Whole second y.1.0) (begins_along bytes x.0 next x.1 x.2) y.1.1 in
    absurd (last_is_not_open next second y.1.0 is last y.1.2)
leaves_unique bytes (first ∷ requests) [] next other x last y last_too =
    let is = begins_unique bytes other (Whole first x.1.0) (begins_along bytes y.0 other y.1 y.2) x.1.1 in
    absurd (last_is_not_open other first x.1.0 is last_too x.1.2)
leaves_unique bytes (first ∷ requests) (second ∷ others) next other x last y last_too =
    let is : Whole first x.1.0 ≡ Whole second y.1.0 = begins_unique bytes _ _ x.1.1 y.1.1 in
    let same_request : first ≡ second = cc in
    let same_rest : x.1.0 ≡ y.1.0 = cc in
    let P : List ℕ → Type 0 = λ bs. Takes bs requests x.0 in
    let later = leaves_unique y.1.0 requests others next other (x.0, subst P same_rest x.1.3, x.2) last (y.0, y.1.3, y.2) last_too in
    (ap (λ r. r ∷ requests) same_request ∙ ap (λ rs. second ∷ rs) later.0, later.1)

-- the requests and the end, from the requests that leave the session open and what stands after them
finish : ℕ → List Request → Next → List Request × End
finish len taken (Whole request rest) = (taken ++ request ∷ [], Closed)
finish len taken (Partial read) = cond (nat_le most_read len) (taken, Spent) (cond (read == 0) (taken, Ended) (taken, Cut read))
finish len taken (Refuses refusal) = (taken, Refused (status_of refusal))

record Finishes (bytes : List ℕ) (requests : List Request) (end : End) : Type 0 where
  taken : List Request
  next : Next
  leaves : Leaves bytes taken next
  last : IsLast next
  gives : finish (length bytes) taken next ≡ (requests, end)

requests_finish : (bytes : List ℕ) (requests : List Request) (end : End) → Requests bytes requests end → Finishes bytes requests end
unfolding finish
requests_finish bytes requests Ended x = record {
  taken = requests;
  next = Partial 0;
  leaves = x.0;
  last = tt;
  gives = cond-false _ _ _ (lt-leb most_read (length bytes) x.1);
}
requests_finish bytes requests Closed x = record {
  taken = x.0;
  next = Whole x.1 x.2;
  leaves = x.4;
  last = x.5;
  gives = ap (λ rs. (rs, Closed)) (sym x.3);
}
requests_finish bytes requests (Cut read) x = record {
  taken = requests;
  next = Partial read;
  leaves = x.0;
  last = tt;
  gives = cond-false _ _ _ (lt-leb most_read (length bytes) x.2) ∙ cond-false _ _ _ (ne_eqb read 0 (λ none. let some = x.1 in omega arith));
}
requests_finish bytes requests (Refused status) x = record {
  taken = requests;
  next = Refuses x.0;
  leaves = x.1;
  last = tt;
  gives = ap (λ s. (requests, Refused s)) x.2;
}
requests_finish bytes requests Spent x = record {
  taken = requests;
  next = Partial x.0;
  leaves = x.1;
  last = tt;
  gives = cond-true _ _ _ (le-leb most_read (length bytes) (let all = x.2 in omega arith));
}

-- the bytes alone say which requests a session takes and how it ends
pub requests_unique : (bytes : List ℕ) (requests others : List Request) (end other : End)
    → Requests bytes requests end → Requests bytes others other → (requests ≡ others) × (end ≡ other)
requests_unique bytes requests others end other x y =
    let a = requests_finish bytes requests end x in
    let b = requests_finish bytes others other y in
    let same = leaves_unique bytes a.taken b.taken a.next b.next a.leaves a.last b.leaves b.last in
    let both : (requests, end) ≡ (others, other) = sym a.gives ∙ ap (λ t. finish (length bytes) t a.next) same.0 ∙ ap (finish (length bytes) b.taken) same.1 ∙ b.gives in
    (ap (λ p. p.0) both, ap (λ p. p.1) both)

-- no session reads more bytes than it may
pub few_read : (bytes : List ℕ) (requests : List Request) (end : End) → Requests bytes requests end → length bytes ≤ most_read
few_read bytes requests Ended x = let fewer = x.1 in omega arith
few_read bytes requests Closed x = x.6
few_read bytes requests (Cut read) x = let fewer = x.2 in omega arith
few_read bytes requests (Refused status) x = x.3
few_read bytes requests Spent x = let all = x.2 in omega arith
