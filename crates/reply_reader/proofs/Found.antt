-- Replies at the front of bytes: there is at most one, and what breaks a head rules it out.
use Rattle.std.proofs.Common.{◌≡◌, ℕ, zero, suc, ◌+◌, ◌-◌, ◌<◌, ◌≤◌, refl, inl, inr, List, [], ◌∷◌, ◌++◌, length, get_or, take, drop, sym, ap, ◌∙◌, subst, arith, codes, append_assoc, length-append}
use Rattle.std.specs.Str.Parse.{digits_value}
use Rattle.std.proofs.lemmas.List.{take-append-drop, take-append-le, drop-append-le}
use Rattle.httparse.specs.Grammar.{ResponseHead, print_response, ReadsResponse, HasNoResponse, NeverHasResponse}
use Rattle.httparse.proofs.GrammarLemmas.{response_unique, response_prefix_free, ReadsResponse-append}
use Rattle.http_wire.proofs.HeadLemmas.{append_none}
use Rattle.session_model.specs.Responses.{MediaType, Json, Octets, media_name}
use Rattle.reply_reader.specs.declared.reply_fault.ReplyFault.{ReplyFault}
use Rattle.reply_reader.specs.declared.reply_fault.ReplyFault.TheVariants.{BadHead, HeadTooLarge, BadStart, TransferEncoding, BadMedia, BadLength, BodyTooLarge}
use Rattle.reply_reader.specs.Replies.{Reply, values_in, IsLength, Tells, IsReply, IsUnfinished, IsNoReply, Breaks, HasBrokenHead, IsCause}

-- ---- a head says one thing

abbrev first_of : List (List ℕ) → List ℕ
first_of [] = []
first_of (v ∷ vs) = v

pub length_unique : (values : List (List ℕ)) (m n : ℕ) → IsLength values m → IsLength values n → m ≡ n
length_unique values m n is other =
    let same : is.0 ≡ other.0 = ap first_of (sym is.1 ∙ other.1) in
    sym is.3 ∙ ap (digits_value 10) same ∙ other.3

pub media_unique : (one other : MediaType) → media_name one ∷ [] ≡ media_name other ∷ [] → one ≡ other
media_unique Json Json same = refl
media_unique Octets Octets same = refl
media_unique Json Octets same = absurd (omega (arith, ap (λ vs. get_or (first_of vs) 12 0) same))
media_unique Octets Json same = absurd (omega (arith, ap (λ vs. get_or (first_of vs) 12 0) same))

pub breaks_never : (fault : ReplyFault) (limit : ℕ) (head : ResponseHead) (status : ℕ) (media : MediaType) (size : ℕ) → Breaks fault limit head → Tells limit head status media size → ⊥
breaks_never BadHead limit head status media size breaks tells = breaks
breaks_never HeadTooLarge limit head status media size breaks tells = breaks
breaks_never BadStart limit head status media size (inl blank) tells = blank tells.at_once
breaks_never BadStart limit head status media size (inr minor) tells = minor tells.version
breaks_never TransferEncoding limit head status media size breaks tells = breaks tells.plain
breaks_never BadMedia limit head status media size breaks tells = breaks media tells.media_is
breaks_never BadLength limit head status media size breaks tells = breaks size tells.size_is
breaks_never BodyTooLarge limit head status media size breaks tells =
    let same = length_unique (values_in (codes "content-length") head) breaks.0 size breaks.1 tells.size_is in
    let over = breaks.2 in
    let most = tells.most in
    omega arith

-- ---- fronts of the bytes

head_fits : (bytes : List ℕ) (head : ResponseHead) (rest : List ℕ) → ReadsResponse bytes head rest → length bytes ≡ length (print_response head) + length rest
head_fits bytes head rest reads = ap length reads.1 ∙ length-append (print_response head) rest

-- a head that is short stands in the first bytes too
pub in_front : (n : ℕ) (bytes : List ℕ) (head : ResponseHead) (rest : List ℕ) → ReadsResponse bytes head rest → length (print_response head) ≤ n → ReadsResponse (take n bytes) head (take (n - length (print_response head)) rest)
in_front n bytes head rest reads short = (reads.0, ap (take n) reads.1 ∙ taken (print_response head) n rest short)
  where
    taken : (xs : List ℕ) (k : ℕ) (ys : List ℕ) → length xs ≤ k → take k (xs ++ ys) ≡ xs ++ take (k - length xs) ys
    taken [] k ys le = let same : k ≡ k - 0 = omega arith in ap (λ m. take m ys) same
    taken (x ∷ xs) zero ys le = absurd (omega arith)
    taken (x ∷ xs) (suc k) ys le = let same : k - length xs ≡ suc k - length (x ∷ xs) = omega arith in ap (λ zs. x ∷ zs) (taken xs k ys (omega arith)) ∙ ap (λ m. x ∷ (xs ++ take m ys)) same

pub never_more : (n : ℕ) (bytes : List ℕ) → NeverHasResponse (take n bytes) → NeverHasResponse bytes
never_more n bytes never more head rest reads =
    let same : take n bytes ++ (drop n bytes ++ more) ≡ bytes ++ more = sym (append_assoc (take n bytes) (drop n bytes) more) ∙ ap (λ bs. bs ++ more) (take-append-drop n bytes) in
    never (drop n bytes ++ more) head rest (subst (λ (bs : List ℕ). ReadsResponse bs head rest) (sym same) reads)

-- a head at the front of the first bytes stands at the front of all
pub in_all : (n len : ℕ) (bytes : List ℕ) (head : ResponseHead) → len ≤ length (take n bytes) → ReadsResponse (take n bytes) head (drop len (take n bytes)) → ReadsResponse bytes head (drop len bytes)
in_all n len bytes head within reads =
    let whole = ReadsResponse-append (take n bytes) head (drop len (take n bytes)) (drop n bytes) reads in
    let split : take n bytes ++ drop n bytes ≡ bytes = take-append-drop n bytes in
    let after : drop len (take n bytes) ++ drop n bytes ≡ drop len bytes = sym (drop-append-le len (take n bytes) (drop n bytes) within) ∙ ap (drop len) split in
    subst (λ (rest : List ℕ). ReadsResponse bytes head rest) after (subst (λ (bs : List ℕ). ReadsResponse bs head (drop len (take n bytes) ++ drop n bytes)) split whole)

-- ---- one reply stands first

pub reply_unique : (limit : ℕ) (bytes more : List ℕ) (reply other : Reply) (rest last : List ℕ) → IsReply limit bytes reply rest → IsReply limit (bytes ++ more) other last → (reply ≡ other) × (rest ++ more ≡ last)
reply_unique limit bytes more reply other rest last is later =
    let same = response_prefix_free bytes more is.0 later.0 (reply.body ++ rest) (other.body ++ last) is.2 later.2 in
    let tells : Tells limit is.0 other.status other.media (length other.body) = subst (λ (h : ResponseHead). Tells limit h other.status other.media (length other.body)) (sym same.0) later.1 in
    let size = length_unique (values_in (codes "content-length") is.0) (length reply.body) (length other.body) is.1.size_is tells.size_is in
    let status : reply.status ≡ other.status = sym is.1.status_is ∙ tells.status_is in
    let media : reply.media ≡ other.media = media_unique reply.media other.media (sym is.1.media_is ∙ tells.media_is) in
    let bodies : reply.body ++ (rest ++ more) ≡ other.body ++ last = sym (append_assoc reply.body rest more) ∙ same.1 in
    let parts = split reply.body other.body (rest ++ more) last size bodies in
    (λ i. record { status = status i; media = media i; body = parts.0 i }, parts.1)
  where
    split : (xs ys us vs : List ℕ) → length xs ≡ length ys → xs ++ us ≡ ys ++ vs → (xs ≡ ys) × (us ≡ vs)
    split [] [] us vs len same = (refl, same)
    split (x ∷ xs) [] us vs len same = absurd (omega arith)
    split [] (y ∷ ys) us vs len same = absurd (omega arith)
    split (x ∷ xs) (y ∷ ys) us vs len same =
        let later = split xs ys us vs (omega arith) (ap (drop 1) same) in
        (let first : x ≡ y = ap (λ zs. get_or zs 0 0) same in let rest = later.0 in cc, later.1)

-- ---- no reply

pub broken_no_reply : (fault : ReplyFault) (limit : ℕ) (bytes : List ℕ) → HasBrokenHead fault limit bytes → IsNoReply limit bytes
broken_no_reply fault limit bytes broken more reply rest is =
    let same = response_prefix_free bytes more broken.head is.0 broken.rest (reply.body ++ rest) broken.reads is.2 in
    breaks_never fault limit broken.head reply.status reply.media (length reply.body) broken.breaks (subst (λ (h : ResponseHead). Tells limit h reply.status reply.media (length reply.body)) (sym same.0) is.1)

pub broken_is_whole : (fault : ReplyFault) (limit : ℕ) (bytes : List ℕ) → HasBrokenHead fault limit bytes → ¬ (IsUnfinished limit bytes)
broken_is_whole fault limit bytes broken (inl head) = head.none broken.head broken.rest broken.reads
broken_is_whole fault limit bytes broken (inr body) =
    let same = response_unique bytes broken.head body.head broken.rest body.here broken.reads body.reads in
    breaks_never fault limit broken.head body.status body.media body.size broken.breaks (subst (λ (h : ResponseHead). Tells limit h body.status body.media body.size) (sym same.0) body.tells)

never_no_reply : (limit : ℕ) (bytes : List ℕ) → NeverHasResponse bytes → IsNoReply limit bytes
never_no_reply limit bytes never more reply rest is = never more is.0 (reply.body ++ rest) is.2

pub never_unfinished : (limit : ℕ) (bytes : List ℕ) → NeverHasResponse bytes → ¬ (IsUnfinished limit bytes)
never_unfinished limit bytes never (inl head) = never head.may.0 head.may.1 [] head.may.2
never_unfinished limit bytes never (inr body) = never [] body.head body.here (subst (λ (bs : List ℕ). ReadsResponse bs body.head body.here) (sym (append_none bytes)) body.reads)

long_no_reply : (limit : ℕ) (bytes : List ℕ) → 16384 ≤ length bytes → HasNoResponse (take 16384 bytes) → IsNoReply limit bytes
long_no_reply limit bytes long none more reply rest is =
    let here = in_front 16384 (bytes ++ more) is.0 (reply.body ++ rest) is.2 is.1.short in
    let same : take 16384 (bytes ++ more) ≡ take 16384 bytes = take-append-le 16384 bytes more long in
    none is.0 _ (subst (λ (bs : List ℕ). ReadsResponse bs is.0 (take (16384 - length (print_response is.0)) (reply.body ++ rest))) same here)

pub long_unfinished : (limit : ℕ) (bytes : List ℕ) → 16384 ≤ length bytes → HasNoResponse (take 16384 bytes) → ¬ (IsUnfinished limit bytes)
long_unfinished limit bytes long none (inl head) = let short = head.short in omega arith
long_unfinished limit bytes long none (inr body) = none body.head _ (in_front 16384 bytes body.head body.here body.reads body.tells.short)

pub cause_no_reply : (fault : ReplyFault) (limit : ℕ) (bytes : List ℕ) → IsCause fault limit bytes → IsNoReply limit bytes
cause_no_reply BadHead limit bytes cause = never_no_reply limit bytes cause
cause_no_reply HeadTooLarge limit bytes cause = long_no_reply limit bytes cause.0 cause.1
cause_no_reply BadStart limit bytes cause = broken_no_reply BadStart limit bytes cause
cause_no_reply TransferEncoding limit bytes cause = broken_no_reply TransferEncoding limit bytes cause
cause_no_reply BadMedia limit bytes cause = broken_no_reply BadMedia limit bytes cause
cause_no_reply BadLength limit bytes cause = broken_no_reply BadLength limit bytes cause
cause_no_reply BodyTooLarge limit bytes cause = broken_no_reply BodyTooLarge limit bytes cause

pub broken_cause : (fault : ReplyFault) (limit : ℕ) (bytes : List ℕ) → HasBrokenHead fault limit bytes → IsCause fault limit bytes
broken_cause BadHead limit bytes broken = absurd broken.breaks
broken_cause HeadTooLarge limit bytes broken = absurd broken.breaks
broken_cause BadStart limit bytes broken = broken
broken_cause TransferEncoding limit bytes broken = broken
broken_cause BadMedia limit bytes broken = broken
broken_cause BadLength limit bytes broken = broken
broken_cause BodyTooLarge limit bytes broken = broken

-- what waits for its body is no longer than a reply
pub awaits_bound : (limit : ℕ) (bytes : List ℕ) → IsUnfinished limit bytes → length bytes < 16384 + limit
awaits_bound limit bytes (inl head) = let short = head.short in omega arith
awaits_bound limit bytes (inr body) =
    let fits = head_fits bytes body.head body.here body.reads in
    let short = body.tells.short in
    let most = body.tells.most in
    let less = body.less in
    omega arith

-- a reply is whole
pub reply_is_whole : (limit : ℕ) (bytes : List ℕ) (reply : Reply) (rest : List ℕ) → IsReply limit bytes reply rest → ¬ (IsUnfinished limit bytes)
reply_is_whole limit bytes reply rest is (inl head) = head.none is.0 (reply.body ++ rest) is.2
reply_is_whole limit bytes reply rest is (inr body) =
    let same = response_unique bytes is.0 body.head (reply.body ++ rest) body.here is.2 body.reads in
    let tells = subst (λ (h : ResponseHead). Tells limit h body.status body.media body.size) (sym same.0) body.tells in
    let size = length_unique (values_in (codes "content-length") is.0) (length reply.body) body.size is.1.size_is tells.size_is in
    let here = ap length same.1 in
    let parts = length-append reply.body rest in
    let less = body.less in
    omega arith
