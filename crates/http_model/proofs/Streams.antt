-- What stands first on a stream is one thing, and it stays so whatever follows.
use Rattle.std.proofs.Common.{◌≡◌, ℕ, ◌+◌, ◌≤◌, Bool, true, false, cond, refl, List, [], ◌∷◌, ◌++◌, length, take, drop, sym, ap, ◌∙◌, subst, arith, inl, inr, Option, None, Some, length-append, length-drop, length-take}
use Rattle.std.specs.Prelude.{nat_le, ◌==◌, ◌&&◌, ◌||◌}
use Rattle.std.proofs.lemmas.Bool.{leb-true, leb-false, le-leb, cond-true, cond-false}
use Rattle.std.proofs.lemmas.List.{take-append-le, drop-append-le}
use Rattle.httparse.proofs.GrammarLemmas.{request_unique}
use Rattle.http_model.specs.declared.head_refusal.HeadRefusal.{HeadRefusal}
use Rattle.http_model.specs.declared.head_refusal.HeadRefusal.TheVariants.{HeadTooLarge}
use Rattle.http_model.specs.Head.{Head, head_of, IsHead, lengths_of, body_length, refusal_of}
use Rattle.http_model.specs.Stream.{Request, Next, Whole, Partial, Refuses, skip_blank, ends_head, IsHeadEnd, most_head, with_body, unless_refused, IsReading, after_head, LacksHead, HasHead, Stands, Begins}
use Rattle.http_model.proofs.Blank.{skip_skip, skip_keeps}

-- ---- one thing

pub head_unique : (bytes : List ℕ) (h k : Head) → IsHead bytes h → IsHead bytes k → h ≡ k
head_unique bytes h k x y = sym x.2 ∙ ap head_of ((request_unique bytes x.0 y.0 [] [] x.1 y.1).0) ∙ y.2

reading_unique : (bytes : List ℕ) (a b : Option Head) → IsReading bytes a → IsReading bytes b → a ≡ b
reading_unique bytes None None x y = refl
reading_unique bytes None (Some k) x y = absurd (x y.0 y.1)
reading_unique bytes (Some h) None x y = absurd (y x.0 x.1)
reading_unique bytes (Some h) (Some k) x y = ap Some (head_unique bytes h k x y)

no_earlier : (bytes : List ℕ) (a b : ℕ) → IsHeadEnd bytes a → IsHeadEnd bytes b → b ≤ a
no_earlier bytes a b x y = by_order (nat_le b a) refl
  where
    by_order : (t : Bool) → nat_le b a ≡ t → b ≤ a
    by_order true le = leb-true b a le
    by_order false gt = let early = y.shortest a (leb-false b a gt) in absurd (cc (early, x.ends))

pub head_end_unique : (bytes : List ℕ) (a b : ℕ) → IsHeadEnd bytes a → IsHeadEnd bytes b → a ≡ b
head_end_unique bytes a b x y =
    let up = no_earlier bytes a b x y in
    let down = no_earlier bytes b a y x in
    omega arith

not_both : (bytes : List ℕ) (x y : Next) → LacksHead bytes x → HasHead bytes y → ⊥
not_both bytes x y lacks has =
    let none = lacks.none has.len has.fits in
    cc (none, has.end.ends)

pub stands_unique : (bytes : List ℕ) (x y : Next) → Stands bytes x → Stands bytes y → x ≡ y
stands_unique bytes x y (inl a) (inl b) = a.gives ∙ sym b.gives
stands_unique bytes x y (inl a) (inr b) = absurd (not_both bytes x y a b)
stands_unique bytes x y (inr a) (inl b) = absurd (not_both bytes y x b a)
stands_unique bytes x y (inr a) (inr b) =
    let same = head_end_unique bytes a.len b.len a.end b.end in
    let moved = subst (λ (n : ℕ). IsReading (take n bytes) a.reading) same a.reads in
    let read = reading_unique (take b.len bytes) a.reading b.reading moved b.reads in
    a.gives ∙ ap (λ n. after_head bytes n a.reading) same ∙ ap (after_head bytes b.len) read ∙ sym b.gives

pub begins_unique : (bytes : List ℕ) (x y : Next) → Begins bytes x → Begins bytes y → x ≡ y
begins_unique bytes = stands_unique (skip_blank bytes)

-- ---- empty lines

pub begins_skipped : (bytes : List ℕ) (next : Next) → Begins bytes next → Begins (skip_blank bytes) next
begins_skipped bytes next stands = subst (λ (bs : List ℕ). Stands bs next) (sym (skip_skip bytes)) stands

pub begins_before_skip : (bytes : List ℕ) (next : Next) → Begins (skip_blank bytes) next → Begins bytes next
begins_before_skip bytes next stands = subst (λ (bs : List ℕ). Stands bs next) (skip_skip bytes) stands

-- ---- whatever follows

pub head_end-append : (bytes more : List ℕ) (n : ℕ) → IsHeadEnd bytes n → IsHeadEnd (bytes ++ more) n
head_end-append bytes more n end = record {
  within = let len = length-append bytes more in let within = end.within in omega arith;
  ends = ap ends_head (take-append-le n bytes more end.within) ∙ end.ends;
  shortest = λ k below. let within = end.within in let inside : k ≤ length bytes = omega arith in ap ends_head (take-append-le k bytes more inside) ∙ end.shortest k below;
}

one_byte : (a : ℕ) → ends_head (a ∷ []) ≡ false
one_byte a = elim (10 == a) as (λ t. ((t && false) || (t && false)) ≡ false) [ true ↦ refl | false ↦ refl ]

two_bytes : (bytes : List ℕ) → ends_head bytes ≡ true → 2 ≤ length bytes
two_bytes [] ends = absurd (cc)
two_bytes (a ∷ []) ends = let none = one_byte a in absurd (cc)
two_bytes (a ∷ b ∷ bytes) ends = omega arith

pub head_end_two : (bytes : List ℕ) (n : ℕ) → IsHeadEnd bytes n → 2 ≤ n
head_end_two bytes n end =
    let two = two_bytes (take n bytes) end.ends in
    omega (arith, length-take n bytes)

-- what stands first, with more bytes after it
abbrev pub followed : Next → List ℕ → Next
followed (Whole request rest) more = Whole request (rest ++ more)
followed (Partial read) more = Partial read
followed (Refuses refusal) more = Refuses refusal

abbrev pub IsDecided : Next → Type 0
IsDecided (Whole request rest) = Unit {0}
IsDecided (Partial read) = ⊥
IsDecided (Refuses refusal) = Unit {0}

body-append : (bytes more : List ℕ) (len body : ℕ) → len + body ≤ length bytes → take body (drop len (bytes ++ more)) ≡ take body (drop len bytes)
body-append bytes more len body fits =
    let head_fits : len ≤ length bytes = omega arith in
    let rest_len = length-drop len bytes in
    let body_fits : body ≤ length (drop len bytes) = omega arith in
    ap (take body) (drop-append-le len bytes more head_fits) ∙ take-append-le body (drop len bytes) more body_fits

with_body-append : (bytes more : List ℕ) (len body : ℕ) (head : Head) → IsDecided (with_body bytes len body head)
    → with_body (bytes ++ more) len body head ≡ followed (with_body bytes len body head) more
with_body-append bytes more len body head = by_order (nat_le (len + body) (length bytes)) refl
  where
    by_order : (t : Bool) → nat_le (len + body) (length bytes) ≡ t → IsDecided (with_body bytes len body head)
        → with_body (bytes ++ more) len body head ≡ followed (with_body bytes len body head) more
    by_order true le decided =
        let fits = leb-true _ _ le in
        let longer = length-append bytes more in
        let still : nat_le (len + body) (length (bytes ++ more)) ≡ true = le-leb _ _ (omega arith) in
        rw (le, still, body-append bytes more len body fits, drop-append-le (len + body) bytes more fits) refl
    by_order false gt decided =
        let partial : with_body bytes len body head ≡ Partial (length bytes) = cond-false _ _ _ gt in
        absurd (subst IsDecided partial decided)

unless_refused-append : (refusal : Option HeadRefusal) (bytes more : List ℕ) (len body : ℕ) (head : Head)
    → IsDecided (unless_refused refusal (with_body bytes len body head))
    → unless_refused refusal (with_body (bytes ++ more) len body head) ≡ followed (unless_refused refusal (with_body bytes len body head)) more
unless_refused-append None bytes more len body head decided = with_body-append bytes more len body head decided
unless_refused-append (Some refusal) bytes more len body head decided = refl

after_head-append : (bytes more : List ℕ) (len : ℕ) (reading : Option Head) → IsDecided (after_head bytes len reading)
    → after_head (bytes ++ more) len reading ≡ followed (after_head bytes len reading) more
after_head-append bytes more len None decided = refl
after_head-append bytes more len (Some head) decided = unless_refused-append (refusal_of head) bytes more len (body_length (lengths_of head)) head decided

has_head-append : (bytes more : List ℕ) (next : Next) → IsDecided next → HasHead bytes next → HasHead (bytes ++ more) (followed next more)
has_head-append bytes more next decided has = record {
  len = has.len;
  reading = has.reading;
  end = head_end-append bytes more has.len has.end;
  fits = has.fits;
  reads = subst (λ (bs : List ℕ). IsReading bs has.reading) (sym (take-append-le has.len bytes more has.end.within)) has.reads;
  gives = ap (λ n. followed n more) has.gives ∙ sym (after_head-append bytes more has.len has.reading (subst IsDecided has.gives decided));
}

-- bytes that hold no head and are not refused may still become one
abbrev pub first_or_too_large : List ℕ → Next
first_or_too_large bytes = cond (nat_le most_head (length bytes)) (Refuses HeadTooLarge) (Partial (length bytes))

lacks_head-append : (bytes more : List ℕ) (next : Next) → IsDecided next → LacksHead bytes next → (2 ≤ length bytes) × LacksHead (bytes ++ more) (followed next more)
lacks_head-append bytes more next decided lacks = by_order (nat_le most_head (length bytes)) refl
  where
    by_order : (t : Bool) → nat_le most_head (length bytes) ≡ t → (2 ≤ length bytes) × LacksHead (bytes ++ more) (followed next more)
    by_order true le =
        let long = leb-true most_head (length bytes) le in
        let longer = length-append bytes more in
        let is : next ≡ Refuses HeadTooLarge = lacks.gives ∙ cond-true _ _ _ le in
        let still : nat_le most_head (length (bytes ++ more)) ≡ true = le-leb _ _ (omega arith) in (
          omega arith,
          record {
            none = λ n below. let inside : n ≤ length bytes = omega arith in ap ends_head (take-append-le n bytes more inside) ∙ lacks.none n below;
            gives = ap (λ x. followed x more) is ∙ sym (cond-true _ _ _ still);
          },
        )
    by_order false gt =
        let is : next ≡ Partial (length bytes) = lacks.gives ∙ cond-false _ _ _ gt in
        absurd (subst IsDecided is decided)

two_when_head : (bytes : List ℕ) (next : Next) → HasHead bytes next → 2 ≤ length bytes
two_when_head bytes next has =
    let two = head_end_two bytes has.len has.end in
    let within = has.end.within in
    omega arith

begins-append : (bytes more : List ℕ) (next : Next) → IsDecided next → Begins bytes next → Begins (bytes ++ more) (followed next more)
begins-append bytes more next decided (inl lacks) =
    let both = lacks_head-append (skip_blank bytes) more next decided lacks in
    let P : List ℕ → Type 0 = λ bs. Stands bs (followed next more) in
    subst P (sym (skip_keeps bytes more both.0)) (inl both.1)
begins-append bytes more next decided (inr has) =
    let P : List ℕ → Type 0 = λ bs. Stands bs (followed next more) in
    subst P (sym (skip_keeps bytes more (two_when_head (skip_blank bytes) next has))) (inr (has_head-append (skip_blank bytes) more next decided has))

-- a whole message stays the same whatever bytes follow
pub whole_stays : (bytes more : List ℕ) (request : Request) (rest : List ℕ) → Begins bytes (Whole request rest) → Begins (bytes ++ more) (Whole request (rest ++ more))
whole_stays bytes more request rest begins = begins-append bytes more (Whole request rest) tt begins

-- a refusal stays whatever bytes follow
pub refusal_stays : (bytes more : List ℕ) (refusal : HeadRefusal) → Begins bytes (Refuses refusal) → Begins (bytes ++ more) (Refuses refusal)
refusal_stays bytes more refusal begins = begins-append bytes more (Refuses refusal) tt begins
