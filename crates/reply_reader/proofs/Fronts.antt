-- What stands at the front, from what the code found.
use Rattle.std.proofs.Common.{◌≡◌, ◌≢◌, ℕ, ◌+◌, ◌<◌, ◌≤◌, refl, inl, inr, List, [], ◌∷◌, ◌++◌, length, get_or, take, drop, map, sym, ap, ◌∙◌, subst, arith, codes}
use Rattle.httparse.specs.declared.spans.HeaderSpan.{HeaderSpan}
use Rattle.httparse.specs.declared.spans.ResponseSpans.{ResponseSpans}
use Rattle.httparse.specs.Grammar.{LineEnd, crlf, lf, print_blank, ResponseHead, print_response, ReadsResponse, NeverHasResponse}
use Rattle.httparse.specs.Spans.{IsResponseAt, header_bytes}
use Rattle.httparse.proofs.GrammarLemmas.{print_response-append}
use Rattle.http_wire.proofs.HeadLemmas.{append_none}
use Rattle.session_model.specs.Responses.{MediaType}
use Rattle.http_model.specs.Head.{values_of}
use Rattle.reply_reader.specs.declared.reply_fault.ReplyFault.{ReplyFault}
use Rattle.reply_reader.specs.declared.reply_fault.ReplyFault.TheVariants.{BadHead, HeadTooLarge, BadStart, TransferEncoding, BadMedia, BadLength, BodyTooLarge}
use Rattle.reply_reader.specs.declared.framing.Framing.{Framing}
use Rattle.reply_reader.specs.declared.front.Front.{Front}
use Rattle.reply_reader.specs.declared.front.Front.TheVariants.{Whole, Unfinished, Bad}
use Rattle.reply_reader.specs.Replies.{Reply, Tells, IsReply, IsUnfinished, IsNoReply, IsCause, Breaks, HasBrokenHead}
use Rattle.reply_reader.specs.Heads.{media_of, Frames, Fails}
use Rattle.reply_reader.specs.Fronts.{reply_of, Cuts, IsFront, IsThis, OnWhole, OnUnfinished, OnBad}
use Rattle.reply_reader.proofs.Found.{never_more, never_unfinished, in_all, reply_unique, broken_cause, broken_is_whole, cause_no_reply, awaits_bound, reply_is_whole}

-- ---- the first byte

starts : (tree : ResponseHead) (rest : List ℕ) → get_or (print_response tree ++ rest) 0 0 ≡ get_or (print_blank tree.blank ++ 72 ∷ []) 0 0
starts tree rest = rw (print_response-append tree rest) (by_blank tree.blank _)
  where
    by_blank : (blank : List LineEnd) (after : List ℕ) → get_or (print_blank blank ++ 72 ∷ after) 0 0 ≡ get_or (print_blank blank ++ 72 ∷ []) 0 0
    by_blank [] after = refl
    by_blank (crlf ∷ blank) after = refl
    by_blank (lf ∷ blank) after = refl

pub starts_at_once : (bytes : List ℕ) (tree : ResponseHead) (rest : List ℕ) → ReadsResponse bytes tree rest → get_or bytes 0 0 ≡ 72 → tree.blank ≡ []
starts_at_once bytes tree rest reads first = by_blank tree.blank (sym (starts tree rest) ∙ ap (λ bs. get_or bs 0 0) (sym reads.1) ∙ first)
  where
    by_blank : (blank : List LineEnd) → get_or (print_blank blank ++ 72 ∷ []) 0 0 ≡ 72 → blank ≡ []
    by_blank [] is = refl
    by_blank (crlf ∷ blank) is = absurd (omega (arith, is))
    by_blank (lf ∷ blank) is = absurd (omega (arith, is))

pub starts_later : (bytes : List ℕ) (tree : ResponseHead) (rest : List ℕ) → ReadsResponse bytes tree rest → get_or bytes 0 0 ≢ 72 → tree.blank ≢ []
starts_later bytes tree rest reads other none =
    other (ap (λ bs. get_or bs 0 0) reads.1 ∙ starts tree rest ∙ ap (λ blank. get_or (print_blank blank ++ 72 ∷ []) 0 0) none)

-- ---- from the spans to the head

pub framed : (limit : ℕ) (bytes : List ℕ) (headers : List HeaderSpan) (spans : ResponseSpans) (tree : ResponseHead) (framing : Framing) → IsResponseAt bytes headers spans tree → length bytes ≤ 16384 → spans.len ≤ length bytes
    → Frames limit (get_or bytes 0 0) spans.version (map (header_bytes bytes) (take spans.headers headers)) framing → Tells limit tree spans.code (media_of framing.media) framing.body
framed limit bytes headers spans tree framing at fits within frames =
    let same = at.fields in
    let len = at.len in
    record {
      at_once = starts_at_once bytes tree _ at.reads frames.at_once;
      version = sym at.version ∙ frames.version;
      short = omega arith;
      status_is = sym at.code;
      plain = ap (values_of (codes "transfer-encoding")) (sym same) ∙ frames.plain;
      media_is = ap (values_of (codes "content-type")) (sym same) ∙ frames.media_is;
      size_is = let is = frames.size_is in (is.0, ap (values_of (codes "content-length")) (sym same) ∙ is.1, is.2, is.3);
      most = frames.most;
    }

pub failed : (fault : ReplyFault) (limit : ℕ) (bytes : List ℕ) (headers : List HeaderSpan) (spans : ResponseSpans) (tree : ResponseHead) → IsResponseAt bytes headers spans tree
    → Fails fault limit (get_or bytes 0 0) spans.version (map (header_bytes bytes) (take spans.headers headers)) → Breaks fault limit tree
failed BadHead limit bytes headers spans tree at fails = fails
failed HeadTooLarge limit bytes headers spans tree at fails = fails
failed BadStart limit bytes headers spans tree at (inl first) = inl (starts_later bytes tree _ at.reads first)
failed BadStart limit bytes headers spans tree at (inr minor) = inr (λ is. minor (at.version ∙ is))
failed TransferEncoding limit bytes headers spans tree at fails = λ none. fails (ap (values_of (codes "transfer-encoding")) at.fields ∙ none)
failed BadMedia limit bytes headers spans tree at fails = λ media is. fails media (ap (values_of (codes "content-type")) at.fields ∙ is)
failed BadLength limit bytes headers spans tree at fails = λ n is. fails n (is.0, ap (values_of (codes "content-length")) at.fields ∙ is.1, is.2, is.3)
failed BodyTooLarge limit bytes headers spans tree at fails =
    (fails.0, (fails.1.0, ap (values_of (codes "content-length")) (sym at.fields) ∙ fails.1.1, fails.1.2, fails.1.3), fails.2)

pub failed_front : (fault : ReplyFault) (limit n : ℕ) (bytes : List ℕ) (headers : List HeaderSpan) (spans : ResponseSpans) (tree : ResponseHead) → n ≤ 16384 → length (take n bytes) ≤ n → spans.len ≤ length (take n bytes)
    → IsResponseAt (take n bytes) headers spans tree → Fails fault limit (get_or (take n bytes) 0 0) spans.version (map (header_bytes (take n bytes)) (take spans.headers headers)) → IsFront limit bytes (Bad fault)
failed_front fault limit n bytes headers spans tree few fits within at fails =
    let broken : HasBrokenHead fault limit bytes = record {
      head = tree;
      rest = drop spans.len bytes;
      reads = in_all n spans.len bytes tree within at.reads;
      short = let len = at.len in omega arith;
      breaks = failed fault limit (take n bytes) headers spans tree at fails;
    } in
    (broken_cause fault limit bytes broken, broken_is_whole fault limit bytes broken)

pub framed_front : (limit n : ℕ) (bytes : List ℕ) (headers : List HeaderSpan) (spans : ResponseSpans) (tree : ResponseHead) (framing : Framing) (front : Front) → n ≤ 16384 → length (take n bytes) ≤ n → spans.len ≤ length (take n bytes)
    → IsResponseAt (take n bytes) headers spans tree → Frames limit (get_or (take n bytes) 0 0) spans.version (map (header_bytes (take n bytes)) (take spans.headers headers)) framing → Cuts bytes spans framing front → IsFront limit bytes front
framed_front limit n bytes headers spans tree framing (Whole reply) few fits within at frames cuts =
    let tells = framed limit (take n bytes) headers spans tree framing at (omega arith) within frames in
    let reads = in_all n spans.len bytes tree within at.reads in
    let status : spans.code ≡ reply.status = sym cuts.0 in
    let media = ap media_of (sym cuts.1) in (
      tree,
      subst (λ (m : ℕ). Tells limit tree reply.status (media_of reply.media) m) (sym cuts.2) (subst (λ (s : ℕ). Tells limit tree s (media_of reply.media) framing.body) status (subst (λ (m : MediaType). Tells limit tree spans.code m framing.body) media tells)),
      subst (λ (rest : List ℕ). ReadsResponse bytes tree rest) cuts.3 reads,
    )
framed_front limit n bytes headers spans tree framing Unfinished few fits within at frames cuts = inr record {
  head = tree;
  status = spans.code;
  media = media_of framing.media;
  size = framing.body;
  tells = framed limit (take n bytes) headers spans tree framing at (omega arith) within frames;
  here = drop spans.len bytes;
  reads = in_all n spans.len bytes tree within at.reads;
  less = cuts;
}
framed_front limit n bytes headers spans tree framing (Bad fault) few fits within at frames cuts = absurd cuts

-- no head begins so
pub head_front : (fault : ReplyFault) (limit n : ℕ) (bytes : List ℕ) → fault ≡ BadHead → NeverHasResponse (take n bytes) → IsFront limit bytes (Bad fault)
head_front BadHead limit n bytes is never = (never_more n bytes never, never_unfinished limit bytes (never_more n bytes never))
head_front HeadTooLarge limit n bytes is never = absurd (cc)
head_front BadStart limit n bytes is never = absurd (cc)
head_front TransferEncoding limit n bytes is never = absurd (cc)
head_front BadMedia limit n bytes is never = absurd (cc)
head_front BadLength limit n bytes is never = absurd (cc)
head_front BodyTooLarge limit n bytes is never = absurd (cc)

-- ---- what a front says

pub front_whole : (limit : ℕ) (bytes : List ℕ) (front : Front) → IsFront limit bytes front → OnWhole front (λ reply. IsReply limit bytes (reply_of reply) reply.rest.now)
front_whole limit bytes (Whole reply) is = is
front_whole limit bytes Unfinished is = tt
front_whole limit bytes (Bad fault) is = tt

pub front_found : (limit : ℕ) (bytes : List ℕ) (front : Front) → IsFront limit bytes front → (reply : Reply) (rest : List ℕ) → IsReply limit bytes reply rest → IsThis reply rest front
front_found limit bytes (Whole found) is reply rest stands =
    let later = subst (λ (bs : List ℕ). IsReply limit bs reply rest) (sym (append_none bytes)) stands in
    let same = reply_unique limit bytes [] (reply_of found) reply found.rest.now rest is later in
    (same.0, sym (append_none found.rest.now) ∙ same.1)
front_found limit bytes Unfinished is reply rest stands = reply_is_whole limit bytes reply rest stands is
front_found limit bytes (Bad fault) is reply rest stands =
    cause_no_reply fault limit bytes is.0 [] reply rest (subst (λ (bs : List ℕ). IsReply limit bs reply rest) (sym (append_none bytes)) stands)

pub front_unfinished : (limit : ℕ) (bytes : List ℕ) (front : Front) → IsFront limit bytes front → OnUnfinished front (IsUnfinished limit bytes)
front_unfinished limit bytes (Whole reply) is = tt
front_unfinished limit bytes Unfinished is = is
front_unfinished limit bytes (Bad fault) is = tt

pub front_bound : (limit : ℕ) (bytes : List ℕ) (front : Front) → IsFront limit bytes front → OnUnfinished front (length bytes < 16384 + limit)
front_bound limit bytes (Whole reply) is = tt
front_bound limit bytes Unfinished is = awaits_bound limit bytes is
front_bound limit bytes (Bad fault) is = tt

pub front_bad : (limit : ℕ) (bytes : List ℕ) (front : Front) → IsFront limit bytes front → OnBad front (λ fault. IsNoReply limit bytes)
front_bad limit bytes (Whole reply) is = tt
front_bad limit bytes Unfinished is = tt
front_bad limit bytes (Bad fault) is = cause_no_reply fault limit bytes is.0

pub front_early : (limit : ℕ) (bytes : List ℕ) (front : Front) → IsFront limit bytes front → OnBad front (λ fault. ¬ (IsUnfinished limit bytes))
front_early limit bytes (Whole reply) is = tt
front_early limit bytes Unfinished is = tt
front_early limit bytes (Bad fault) is = is.1

pub front_cause : (limit : ℕ) (bytes : List ℕ) (front : Front) → IsFront limit bytes front → OnBad front (λ fault. IsCause fault limit bytes)
front_cause limit bytes (Whole reply) is = tt
front_cause limit bytes Unfinished is = tt
front_cause limit bytes (Bad fault) is = is.0
