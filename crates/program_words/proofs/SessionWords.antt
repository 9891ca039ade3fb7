-- Words of a session, by the kinds of the words.
use Rattle.std.proofs.Common.{◌≡◌, ◌≢◌, ◌+◌, ◌≤◌, ℕ, Bool, true, false, List, [], ◌∷◌, length, Option, Some, None, refl, sym, ap, subst, ◌∙◌, arith, codes}
use Rattle.std.specs.Prelude.{◌==◌, ◌&&◌, if◌then◌else◌, bytes_eq, option_and_then, option_map, slice_get}
use Rattle.std.specs.Str.{chars}
use Rattle.std.proofs.lemmas.Slice.Eq.{bytes_eq-Decides}
use Rattle.program_words.specs.Words.{Part, Text, a_value, an_escape, asks_help, asks_version, a_wrong_flag, part_of, after_hyphen, after_two_hyphens, short_flag, long_flag, Request, init, session, serve, gen, number_between, Arguments, values, for_help, for_version, wrong, after_part, arguments_of, asked, command_of, init_of, session_of, serve_of, fsck_of, migrate_of, gen_of, follow_of, request_of}
use Rattle.program_words.specs.Sessions.{is_session, is_value}

abbrev is_named : Text → Bool
is_named name = bytes_eq name (codes "session")

abbrev is_escape : Part → Bool
is_escape a_value = false
is_escape an_escape = true
is_escape asks_help = false
is_escape asks_version = false
is_escape a_wrong_flag = false

-- ---- values

pick : (b : Bool) (x y : Option Request) → is_session x ≡ false → is_session y ≡ false → is_session (if b then x else y) ≡ false
pick true x y p q = p
pick false x y p q = q

mapped : {A : Type 0} (f : A → Request) (o : Option A) → ((x : A) → is_session (Some (f x)) ≡ false) → is_session (option_map f o) ≡ false
mapped f None each = refl
mapped f (Some x) each = each x

chained : {A : Type 0} (f : A → Option Request) (o : Option A) → ((x : A) → is_session (f x) ≡ false) → is_session (option_and_then f o) ≡ false
chained f None each = refl
chained f (Some x) each = each x

init_never : (words : List Text) → is_session (init_of words) ≡ false
init_never [] = refl
init_never (a ∷ []) = refl
init_never (a ∷ b ∷ []) = mapped (init a) (number_between 4096 34359738368 b) (λ n. refl)
init_never (a ∷ b ∷ c ∷ words) = refl

fsck_never : (words : List Text) → is_session (fsck_of words) ≡ false
fsck_never [] = refl
fsck_never (a ∷ []) = refl
fsck_never (a ∷ b ∷ words) = refl

migrate_never : (words : List Text) → is_session (migrate_of words) ≡ false
migrate_never [] = refl
migrate_never (a ∷ []) = refl
migrate_never (a ∷ b ∷ []) = refl
migrate_never (a ∷ b ∷ c ∷ words) = refl

serve_never : (words : List Text) → is_session (serve_of words) ≡ false
serve_never [] = refl
serve_never (a ∷ []) = refl
serve_never (a ∷ b ∷ []) = refl
serve_never (a ∷ b ∷ c ∷ []) = refl
serve_never (a ∷ b ∷ c ∷ d ∷ []) = refl
serve_never (a ∷ b ∷ c ∷ d ∷ e ∷ []) =
    chained (λ l. option_and_then (λ k. option_map (serve a b l k) (number_between 1 1000000000000000 e)) (number_between 0 8 d)) (number_between 1 4096 c)
    (λ l. chained (λ k. option_map (serve a b l k) (number_between 1 1000000000000000 e)) (number_between 0 8 d)
    (λ k. mapped (serve a b l k) (number_between 1 1000000000000000 e) (λ n. refl)))
serve_never (a ∷ b ∷ c ∷ d ∷ e ∷ f ∷ words) = refl

gen_never : (words : List Text) → is_session (gen_of words) ≡ false
gen_never [] = refl
gen_never (a ∷ []) = refl
gen_never (a ∷ b ∷ []) = refl
gen_never (a ∷ b ∷ c ∷ []) =
    chained (λ s. option_and_then (λ k. option_map (gen s k) (number_between 1 8 c)) (number_between 1 400 b)) (number_between 0 4294967295 a)
    (λ s. chained (λ k. option_map (gen s k) (number_between 1 8 c)) (number_between 1 400 b)
    (λ k. mapped (gen s k) (number_between 1 8 c) (λ n. refl)))
gen_never (a ∷ b ∷ c ∷ d ∷ words) = refl

follow_never : (words : List Text) → is_session (follow_of words) ≡ false
follow_never [] = refl
follow_never (a ∷ []) = refl
follow_never (a ∷ b ∷ []) = refl
follow_never (a ∷ b ∷ c ∷ words) = refl

-- the name isn't that of a session, or its words are no file alone
no_session : (name : Text) (rest : List Text) → is_session (if is_named name then session_of rest else None) ≡ false → is_session (request_of (name ∷ rest)) ≡ false
no_session name rest none =
    pick (bytes_eq name (codes "init")) (init_of rest) _ (init_never rest)
    (by (is_named name) none)
  where
    others : Option Request
    others = if bytes_eq name (codes "serve") then serve_of rest else (if bytes_eq name (codes "fsck") then fsck_of rest else (if bytes_eq name (codes "migrate") then migrate_of rest else (if bytes_eq name (codes "gen") then gen_of rest else (if bytes_eq name (codes "follow") then follow_of rest else None))))

    others_never : is_session others ≡ false
    others_never =
        pick (bytes_eq name (codes "serve")) (serve_of rest) _ (serve_never rest)
        (pick (bytes_eq name (codes "fsck")) (fsck_of rest) _ (fsck_never rest)
        (pick (bytes_eq name (codes "migrate")) (migrate_of rest) _ (migrate_never rest)
        (pick (bytes_eq name (codes "gen")) (gen_of rest) _ (gen_never rest)
        (pick (bytes_eq name (codes "follow")) (follow_of rest) None (follow_never rest) refl))))

    by : (b : Bool) → is_session (if b then session_of rest else None) ≡ false → is_session (if b then session_of rest else others) ≡ false
    by true is = is
    by false is = others_never

never_named : (b : Bool) (o : Option Request) → is_session o ≡ false → is_session (if b then o else None) ≡ false
never_named b o is = pick b o None is refl

one_value : (a : Text) → is_session (request_of (a ∷ [])) ≡ false
one_value a = no_session a [] (never_named (is_named a) None refl)

many_values : (a b c : Text) (rest : List Text) → is_session (request_of (a ∷ b ∷ c ∷ rest)) ≡ false
many_values a b c rest = no_session a (b ∷ c ∷ rest) (never_named (is_named a) None refl)

two_values : (a b : Text) → is_session (request_of (a ∷ b ∷ [])) ≡ is_named a
two_values a b = by (is_named a) refl
  where
    by : (s : Bool) → is_named a ≡ s → is_session (request_of (a ∷ b ∷ [])) ≡ is_named a
    by true e = subst (λ name. is_session (request_of (name ∷ b ∷ [])) ≡ is_named name) (sym ((bytes_eq-Decides a (codes "session")).0 e)) refl
    by false e = no_session a (b ∷ []) (subst (λ s. is_session (if s then Some (session b) else None) ≡ false) (sym e) refl) ∙ sym e

-- ---- kinds

-- the name of a session is a value
named_value : (a : Text) (p : Part) → part_of a ≡ p → is_value p ≡ false → is_named a ≡ false
named_value a p e flag = by (is_named a) refl
  where
    by : (s : Bool) → is_named a ≡ s → s ≡ false
    by false is = refl
    by true is = absurd (let value : is_value (part_of a) ≡ true = subst (λ name. is_value (part_of name) ≡ true) (sym ((bytes_eq-Decides a (codes "session")).0 is)) refl in cc (ap is_value e, value, flag))

and_none : (b : Bool) → (b && false) ≡ false
and_none true = refl
and_none false = refl

and_all : (b : Bool) → (b && true) ≡ b
and_all true = refl
and_all false = refl

two_words : (a b : Text) (p q : Part) → part_of a ≡ p → (is_named a && is_value q) ≡ is_session (asked (after_part p a (b ∷ []) (after_part q b [] (values []))))
two_words a b a_value a_value e = and_all (is_named a) ∙ sym (two_values a b)
two_words a b a_value an_escape e = and_none (is_named a) ∙ sym (one_value a)
two_words a b a_value asks_help e = and_none (is_named a)
two_words a b a_value asks_version e = and_none (is_named a)
two_words a b a_value a_wrong_flag e = and_none (is_named a)
two_words a b an_escape q e = ap (λ s. s && is_value q) (named_value a an_escape e refl) ∙ sym (one_value b)
two_words a b asks_help q e = ap (λ s. s && is_value q) (named_value a asks_help e refl)
two_words a b asks_version q e = ap (λ s. s && is_value q) (named_value a asks_version e refl)
two_words a b a_wrong_flag q e = ap (λ s. s && is_value q) (named_value a a_wrong_flag e refl)

pub two_are : (a b : Text) → (is_named a && is_value (part_of b)) ≡ is_session (asked (arguments_of (a ∷ b ∷ [])))
unfolding arguments_of
two_are a b = two_words a b (part_of a) (part_of b) refl

-- ---- one word more

no_escape : (b : Bool) (p q : Part) → is_escape p ≡ false → is_escape q ≡ false → is_escape (if b then p else q) ≡ false
no_escape true p q e f = e
no_escape false p q e f = f

short_escape : (first : Option ℕ) → is_escape (short_flag first) ≡ false
short_escape None = refl
short_escape (Some x) = no_escape (x == 104) asks_help _ refl (no_escape (x == 86) asks_version a_wrong_flag refl refl)

long_escape : (name : Text) → is_escape (long_flag name) ≡ false
long_escape name = no_escape (bytes_eq name (codes "help")) asks_help _ refl (no_escape (bytes_eq name (codes "version")) asks_version a_wrong_flag refl refl)

escape_two : (rest : Text) → is_escape (after_two_hyphens rest) ≡ bytes_eq rest []
escape_two [] = refl
escape_two (x ∷ rest) = long_escape (x ∷ rest)

escape_one : (rest : Text) → is_escape (after_hyphen rest) ≡ bytes_eq rest (45 ∷ [])
escape_one [] = refl
escape_one (y ∷ rest) = by (y == 45)
  where
    by : (b : Bool) → is_escape (if b then after_two_hyphens rest else short_flag (slice_get (chars (y ∷ rest)) 0)) ≡ (b && bytes_eq rest [])
    by true = escape_two rest
    by false = short_escape (slice_get (chars (y ∷ rest)) 0)

-- only `--` is an escape
escape_part : (w : Text) → is_escape (part_of w) ≡ bytes_eq w (codes "--")
escape_part [] = refl
escape_part (x ∷ rest) = by (x == 45)
  where
    by : (b : Bool) → is_escape (if b then after_hyphen rest else a_value) ≡ (b && bytes_eq rest (45 ∷ []))
    by true = escape_one rest
    by false = refl

-- behind a flag no word is of a session
flagged : (a : Text) (q r : Part) → is_named a ≡ false → false ≡ (if is_escape q then is_named a else (is_escape r && is_named a && is_value q))
flagged a q r none = subst (λ s. false ≡ (if is_escape q then s else (is_escape r && s && is_value q))) (sym none) (by (is_escape q) (is_escape r))
  where
    by : (e f : Bool) → false ≡ (if e then false else (f && false && is_value q))
    by true f = refl
    by false true = refl
    by false false = refl

three_words : (a b c : Text) (p q r : Part) → part_of a ≡ p → is_session (asked (after_part p a (b ∷ c ∷ []) (after_part q b (c ∷ []) (after_part r c [] (values [])))))
    ≡ (if is_escape p then is_named b else (if is_escape q then is_named a else (is_escape r && is_named a && is_value q)))
three_words a b c an_escape q r e = two_values b c
three_words a b c a_value an_escape r e = two_values a c
three_words a b c a_value a_value an_escape e = two_values a b ∙ sym (and_all (is_named a))
three_words a b c a_value a_value a_value e = many_values a b c []
three_words a b c a_value a_value asks_help e = refl
three_words a b c a_value a_value asks_version e = refl
three_words a b c a_value a_value a_wrong_flag e = refl
three_words a b c a_value asks_help r e = sym (and_none (is_escape r && is_named a))
three_words a b c a_value asks_version r e = sym (and_none (is_escape r && is_named a))
three_words a b c a_value a_wrong_flag r e = sym (and_none (is_escape r && is_named a))
three_words a b c asks_help q r e = flagged a q r (named_value a asks_help e refl)
three_words a b c asks_version q r e = flagged a q r (named_value a asks_version e refl)
three_words a b c a_wrong_flag q r e = flagged a q r (named_value a a_wrong_flag e refl)

abbrev by_escapes : Text → Text → Bool → Bool → Bool → Bool
by_escapes a b first second third = if first then is_named b else (if second then is_named a else (third && is_named a && is_value (part_of b)))

three_are : (a b c : Text) (first second third : Bool) → bytes_eq a (codes "--") ≡ first → bytes_eq b (codes "--") ≡ second → bytes_eq c (codes "--") ≡ third
    → by_escapes a b first second third ≡ is_session (asked (arguments_of (a ∷ b ∷ c ∷ [])))
unfolding arguments_of
three_are a b c first second third x y z =
    ap (λ k. by_escapes a b k second third) (sym (escape_part a ∙ x))
    ∙ ap (λ k. by_escapes a b (is_escape (part_of a)) k third) (sym (escape_part b ∙ y))
    ∙ ap (λ k. by_escapes a b (is_escape (part_of a)) (is_escape (part_of b)) k) (sym (escape_part c ∙ z))
    ∙ sym (three_words a b c (part_of a) (part_of b) (part_of c) refl)

pub escape_first : (a b c : Text) → bytes_eq a (codes "--") ≡ true → is_named b ≡ is_session (asked (arguments_of (a ∷ b ∷ c ∷ [])))
escape_first a b c x = three_are a b c true (bytes_eq b (codes "--")) (bytes_eq c (codes "--")) x refl refl

pub escape_second : (a b c : Text) → bytes_eq a (codes "--") ≡ false → bytes_eq b (codes "--") ≡ true → is_named a ≡ is_session (asked (arguments_of (a ∷ b ∷ c ∷ [])))
escape_second a b c x y = three_are a b c false true (bytes_eq c (codes "--")) x y refl

pub escape_third : (a b c : Text) → bytes_eq a (codes "--") ≡ false → bytes_eq b (codes "--") ≡ false → bytes_eq c (codes "--") ≡ true → is_session (asked (arguments_of (a ∷ b ∷ []))) ≡ is_session (asked (arguments_of (a ∷ b ∷ c ∷ [])))
escape_third a b c x y z = sym (two_are a b) ∙ three_are a b c false false true x y z

pub no_escape_there : (a b c : Text) → bytes_eq a (codes "--") ≡ false → bytes_eq b (codes "--") ≡ false → bytes_eq c (codes "--") ≡ false → false ≡ is_session (asked (arguments_of (a ∷ b ∷ c ∷ [])))
no_escape_there a b c x y z = three_are a b c false false false x y z

-- ---- more words

abbrev HasSome : ℕ → Arguments → Type 0
HasSome n (values words) = n ≤ length words + 1
HasSome n for_help = Unit {0}
HasSome n for_version = Unit {0}
HasSome n wrong = Unit {0}

with_one : (n : ℕ) (p : Part) (word : Text) (rest : List Text) (more : Arguments) → n ≤ length rest → HasSome n more → HasSome (n + 1) (after_part p word rest more)
with_one n a_value word rest (values words) room some = omega arith
with_one n a_value word rest for_help room some = tt
with_one n a_value word rest for_version room some = tt
with_one n a_value word rest wrong room some = tt
with_one n an_escape word rest more room some = omega arith
with_one n asks_help word rest more room some = tt
with_one n asks_version word rest more room some = tt
with_one n a_wrong_flag word rest more room some = tt

has_some : (words : List Text) → HasSome (length words) (arguments_of words)
unfolding arguments_of
has_some [] = omega arith
has_some (word ∷ rest) = subst (λ n. HasSome n (after_part (part_of word) word rest (arguments_of rest))) (let e : length rest + 1 ≡ length (word ∷ rest) = omega arith in e)
    (with_one (length rest) (part_of word) word rest (arguments_of rest) (omega arith) (has_some rest))

too_many : (n : ℕ) (arguments : Arguments) → 4 ≤ n → HasSome n arguments → is_session (asked arguments) ≡ false
too_many n (values []) more some = absurd (omega arith)
too_many n (values (a ∷ [])) more some = absurd (omega arith)
too_many n (values (a ∷ b ∷ [])) more some = absurd (omega arith)
too_many n (values (a ∷ b ∷ c ∷ rest)) more some = many_values a b c rest
too_many n for_help more some = refl
too_many n for_version more some = refl
too_many n wrong more some = refl

-- neither two words nor three behind the program's name
pub other_lines : (words : List Text) → length words ≢ 3 → length words ≢ 4 → is_session (command_of words) ≡ false
unfolding arguments_of
other_lines [] not_three not_four = refl
other_lines (name ∷ []) not_three not_four = refl
other_lines (name ∷ a ∷ []) not_three not_four = one_word a (part_of a)
  where
    one_word : (a : Text) (p : Part) → is_session (asked (after_part p a [] (values []))) ≡ false
    one_word a a_value = one_value a
    one_word a an_escape = refl
    one_word a asks_help = refl
    one_word a asks_version = refl
    one_word a a_wrong_flag = refl
other_lines (name ∷ a ∷ b ∷ []) not_three not_four = absurd (not_three refl)
other_lines (name ∷ a ∷ b ∷ c ∷ []) not_three not_four = absurd (not_four refl)
other_lines (name ∷ a ∷ b ∷ c ∷ d ∷ rest) not_three not_four =
    too_many (length (a ∷ b ∷ c ∷ d ∷ rest)) (arguments_of (a ∷ b ∷ c ∷ d ∷ rest)) (omega arith) (has_some (a ∷ b ∷ c ∷ d ∷ rest))
