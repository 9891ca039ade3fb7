-- What a cutter holds, as bytes come and requests go.
use Rattle.std.proofs.Common.{◌≡◌, ℕ, ◌+◌, ◌-◌, ◌<◌, ◌≤◌, false, List, ◌++◌, length, take, drop, sym, ap, ◌∙◌, subst, arith, inr, Some, append_assoc}
use Rattle.std.proofs.lemmas.Bool.{cond-true, cond-false, le-leb, lt-leb}
use Rattle.std.proofs.lemmas.List.{take-append-le, take_rest, drop-drop}
use Rattle.httparse.specs.declared.spans.RequestSpans.{RequestSpans}
use Rattle.httparse.specs.Spans.{span_bytes}
use Rattle.http_model.specs.Head.{lengths_of, body_length}
use Rattle.http_model.specs.Stream as model
use Rattle.http_model.specs.Stream.{Next, Whole, Partial, skip_blank, ends_head, IsHeadEnd, request_of, with_body, unless_refused, IsReading, Stands}
use Rattle.http_model.proofs.Blank.{skip_keeps}
use Rattle.http_model.proofs.Streams.{head_end-append, head_end_two}
use Rattle.http_wire.specs.declared.head.Framing.{Framing}
use Rattle.http_wire.specs.declared.next as declared
use Rattle.http_wire.specs.Seen.{seen, request_at}
use Rattle.http_wire.specs.Answers.{Answers, OnMessage, OnMemory, OnNeedMore, OnRefused}
use Rattle.http_model.specs.declared.head_refusal.HeadRefusal.{HeadRefusal}
use Rattle.http_wire.specs.FirstThing.{HasGoodHead}
use Rattle.http_wire.specs.Holding.{Awaits}

-- ---- a head that passes its tests

good_stands : (bytes : List ℕ) (len : ℕ) (spans : RequestSpans) (framing : Framing) (next : Next) → (good : HasGoodHead bytes len spans framing)
    → with_body bytes len (body_length (lengths_of good.head)) good.head ≡ next → Stands bytes next
good_stands bytes len spans framing next good gives = inr record {
  len = len;
  reading = Some good.head;
  end = good.end;
  fits = good.fits;
  reads = good.reads;
  gives = sym gives ∙ sym (ap (λ r. unless_refused r (with_body bytes len (body_length (lengths_of good.head)) good.head)) good.frames.passes);
}

pub good_partial : (bytes : List ℕ) (len : ℕ) (spans : RequestSpans) (framing : Framing) → HasGoodHead bytes len spans framing → length bytes < len + framing.body → Stands bytes (Partial (length bytes))
good_partial bytes len spans framing good short =
    let body = good.frames.body in
    let fewer : length bytes < len + body_length (lengths_of good.head) = omega arith in
    good_stands bytes len spans framing (Partial (length bytes)) good (cond-false _ _ _ (lt-leb (len + body_length (lengths_of good.head)) (length bytes) fewer))

pub good_whole : (bytes : List ℕ) (len : ℕ) (spans : RequestSpans) (framing : Framing) → HasGoodHead bytes len spans framing → len + framing.body ≤ length bytes
    → Stands bytes (Whole (request_at (take len bytes) spans framing (take framing.body (drop len bytes))) (drop (len + framing.body) bytes))
good_whole bytes len spans framing good long =
    let size = good.frames.body in
    let body = take (body_length (lengths_of good.head)) (drop len bytes) in
    let asked : request_of good.head body ≡ request_at (take len bytes) spans framing (take framing.body (drop len bytes)) = λ i. record {
      method = sym good.method i;
      target = sym good.target i;
      minor = sym good.minor i;
      caller = sym good.frames.caller i;
      close = sym good.frames.close i;
      body = take (sym size i) (drop len bytes);
    } in
    let enough : len + body_length (lengths_of good.head) ≤ length bytes = omega arith in
    good_stands bytes len spans framing _ good
    (cond-true _ _ _ (le-leb (len + body_length (lengths_of good.head)) (length bytes) enough) ∙ ap (λ r. Whole r (drop (len + body_length (lengths_of good.head)) bytes)) asked
    ∙ ap (λ n. Whole (request_at (take len bytes) spans framing (take framing.body (drop len bytes))) (drop (len + n) bytes)) (sym size))

good-append : (bytes more : List ℕ) (len : ℕ) (spans : RequestSpans) (framing : Framing) → HasGoodHead bytes len spans framing → HasGoodHead (bytes ++ more) len spans framing
good-append bytes more len spans framing good =
    let same : take len bytes ≡ take len (bytes ++ more) = sym (take-append-le len bytes more good.end.within) in
    record {
      end = head_end-append bytes more len good.end;
      fits = good.fits;
      head = good.head;
      reads = subst (λ (bs : List ℕ). IsReading bs (Some good.head)) same good.reads;
      frames = good.frames;
      method = subst (λ (bs : List ℕ). span_bytes bs spans.method ≡ good.head.method) same good.method;
      method_within = good.method_within;
      token = good.token;
      target = subst (λ (bs : List ℕ). span_bytes bs spans.path ≡ good.head.target) same good.target;
      target_within = good.target_within;
      text = good.text;
      minor = good.minor;
      version = good.version;
    }

-- until its body is there nothing can be told
pub good_awaits : (bytes : List ℕ) (len : ℕ) (spans : RequestSpans) (framing : Framing) → skip_blank bytes ≡ bytes → HasGoodHead bytes len spans framing → Awaits bytes (len + framing.body)
good_awaits bytes len spans framing none good more short =
    let two = head_end_two bytes len good.end in
    let within = good.end.within in
    let same = ap length none in
    let some : 2 ≤ length (skip_blank bytes) = omega arith in
    (skip_keeps bytes more some ∙ ap (λ bs. bs ++ more) none, good_partial (bytes ++ more) len spans framing (good-append bytes more len spans framing good) short)

-- ---- more bytes

pub none_more : (bytes more : List ℕ) (k : ℕ) → k ≤ length bytes → ((n : ℕ) → n ≤ k → ends_head (take n bytes) ≡ false) → (n : ℕ) → n ≤ k → ends_head (take n (bytes ++ more)) ≡ false
none_more bytes more k within none n below = let inside : n ≤ length bytes = omega arith in ap ends_head (take-append-le n bytes more inside) ∙ none n below

pub awaits_more : (bytes more : List ℕ) (wanted : ℕ) → Awaits bytes wanted → Awaits (bytes ++ more) wanted
awaits_more bytes more wanted awaits later short =
    let P : List ℕ → Type 0 = λ bs. (skip_blank bs ≡ bs) × Stands bs (Partial (length bs)) in
    let same : bytes ++ (more ++ later) ≡ (bytes ++ more) ++ later = sym (append_assoc bytes more later) in
    subst P same (awaits (more ++ later) (subst (λ (bs : List ℕ). length bs < wanted) (sym same) short))

-- ---- the answer to a whole request

pub answers_message : (asked : model.Request) (next : declared.Next.Next) (P : model.Request → Type 0) → Answers asked next → P asked → OnMessage next (λ request. P (seen request))
answers_message asked (declared.Next.TheVariants.Message request) P answers holds = subst P (sym answers.0) holds
answers_message asked (declared.Next.TheVariants.Memory close head_only) P answers holds = tt
answers_message asked declared.Next.TheVariants.NeedMore P answers holds = tt
answers_message asked (declared.Next.TheVariants.Refused status code) P answers holds = tt

pub answers_memory : (asked : model.Request) (next : declared.Next.Next) (P : model.Request → Type 0) → Answers asked next → P asked
    → OnMemory next (λ close head_only. (request : model.Request) × P request × (close ≡ request.close) × (head_only ≡ model.is_head_only request))
answers_memory asked (declared.Next.TheVariants.Message request) P answers holds = tt
answers_memory asked (declared.Next.TheVariants.Memory close head_only) P answers holds = (asked, holds, answers.0, answers.1)
answers_memory asked declared.Next.TheVariants.NeedMore P answers holds = tt
answers_memory asked (declared.Next.TheVariants.Refused status code) P answers holds = tt

pub answers_head_only : (asked : model.Request) (next : declared.Next.Next) → Answers asked next → OnMessage next (λ request. request.head_only ≡ model.is_head_only (seen request))
answers_head_only asked (declared.Next.TheVariants.Message request) answers = answers.1 ∙ ap model.is_head_only (sym answers.0)
answers_head_only asked (declared.Next.TheVariants.Memory close head_only) answers = tt
answers_head_only asked declared.Next.TheVariants.NeedMore answers = tt
answers_head_only asked (declared.Next.TheVariants.Refused status code) answers = tt

-- it is never less than a request, and no refusal
pub answers_whole : (asked : model.Request) (next : declared.Next.Next) (P : Type 0) → Answers asked next → OnNeedMore next P
answers_whole asked (declared.Next.TheVariants.Message request) P answers = tt
answers_whole asked (declared.Next.TheVariants.Memory close head_only) P answers = tt
answers_whole asked declared.Next.TheVariants.NeedMore P answers = absurd answers
answers_whole asked (declared.Next.TheVariants.Refused status code) P answers = tt

pub answers_granted : (asked : model.Request) (next : declared.Next.Next) (P : ℕ → HeadRefusal → Type 0) → Answers asked next → OnRefused next P
answers_granted asked (declared.Next.TheVariants.Message request) P answers = tt
answers_granted asked (declared.Next.TheVariants.Memory close head_only) P answers = tt
answers_granted asked declared.Next.TheVariants.NeedMore P answers = tt
answers_granted asked (declared.Next.TheVariants.Refused status code) P answers = absurd answers

-- ---- the bytes that are not consumed, as the code sees them

pub waiting_is : (slice items old : List ℕ) (start : ℕ) → slice ≡ items → drop start items ≡ old → take (length slice - start) (drop start slice) ≡ old
waiting_is slice items old start same view = take_rest slice start ∙ ap (drop start) same ∙ view

pub whole_at : (waiting old items : List ℕ) (start len : ℕ) (spans : RequestSpans) (framing : Framing) → waiting ≡ old → drop start items ≡ old → HasGoodHead waiting len spans framing → len + framing.body ≤ length waiting
    → Stands old (Whole (request_at (take len waiting) spans framing (take ((len + framing.body) - len) (drop len waiting))) (drop (start + (len + framing.body)) items))
whole_at waiting old items start len spans framing same view good long =
    let body : (len + framing.body) - len ≡ framing.body = omega arith in
    let rest : drop (len + framing.body) waiting ≡ drop (start + (len + framing.body)) items =
    ap (drop (len + framing.body)) (same ∙ sym view) ∙ drop-drop (len + framing.body) start items in
    let here = good_whole waiting len spans framing good long in
    let P : List ℕ → Type 0 = λ bs. Stands bs (Whole (request_at (take len waiting) spans framing (take ((len + framing.body) - len) (drop len waiting))) (drop (start + (len + framing.body)) items)) in
    let Q : Next → Type 0 = λ next. Stands waiting next in
    let next : Whole (request_at (take len waiting) spans framing (take framing.body (drop len waiting))) (drop (len + framing.body) waiting)
    ≡ Whole (request_at (take len waiting) spans framing (take ((len + framing.body) - len) (drop len waiting))) (drop (start + (len + framing.body)) items) =
    ap (λ r. Whole (request_at (take len waiting) spans framing (take framing.body (drop len waiting))) r) rest
    ∙ ap (λ n. Whole (request_at (take len waiting) spans framing (take n (drop len waiting))) (drop (start + (len + framing.body)) items)) (sym body) in
    subst P same (subst Q next here)

pub whole_behind : (waiting old : List ℕ) (len : ℕ) (spans : RequestSpans) (framing : Framing) → waiting ≡ old → HasGoodHead waiting len spans framing → len + framing.body ≤ length waiting
    → Stands old (Whole (request_at (take len waiting) spans framing (take ((len + framing.body) - len) (drop len old))) (drop (len + framing.body) old))
whole_behind waiting old len spans framing same good long =
    let body : framing.body ≡ (len + framing.body) - len = omega arith in
    let P : List ℕ → Type 0 = λ bs. Stands bs (Whole (request_at (take len waiting) spans framing (take ((len + framing.body) - len) (drop len bs))) (drop (len + framing.body) bs)) in
    subst P same (subst (λ n. Stands waiting (Whole (request_at (take len waiting) spans framing (take n (drop len waiting))) (drop (len + framing.body) waiting))) body (good_whole waiting len spans framing good long))
