-- What a word is to the parser is what it is by definition.
use Rattle.std.proofs.Common.{◌≡◌, ◌+◌, ℕ, suc, Bool, true, false, [], ◌∷◌, Option, Some, None, refl, sym, subst, ◌∙◌, ap, arith, codes}
use Rattle.std.specs.Prelude.{◌==◌, bytes_eq, slice_get, take}
use Rattle.std.specs.List.{after_first, before_first}
use Rattle.std.specs.Str.{chars}
use Rattle.std.proofs.lemmas.Bool.{eqb-true, eqb-false, false_from_ne_true, ne_eqb, or_parts, true≢false}
use Rattle.std.proofs.lemmas.Slice.Eq.{bytes_eq-Decides}
use Rattle.clap.specs.Lexer.{has_byte, long_of, name_and_value, short_of}
use Rattle.program_words.specs.Words.{Part, Text, a_value, a_wrong_flag, after_two_hyphens, part_of, short_flag}
use Rattle.program_words.proofs.Stages.{Does, Stage, escape, hyphen, long_help, long_help_of, long_unknown, long_version, long_version_of, no_word, plain_word}
use Rattle.program_words.proofs.Stages.{short_help, short_nothing, short_version, short_wrong}

-- by a kind that it has
of_kind : (at : Stage) (w : Text) (p q : Part) → p ≡ q → Does q at w → Does p at w
of_kind at w p q e = subst (λ k. Does k at w) (sym e)

other_side : (x y : ℕ) → (x == y) ≡ false → (y == x) ≡ false
other_side x y e = ne_eqb y x (λ same. eqb-false x y e (sym same))

differ : (x y : Text) → bytes_eq x y ≡ false → bytes_eq y x ≡ false
differ x y e = false_from_ne_true (bytes_eq y x) (λ same. true≢false (sym ((bytes_eq-Decides x y).1 (sym ((bytes_eq-Decides y x).0 same))) ∙ e))

take_more : (n x : ℕ) (xs : Text) → take (1 + n) (x ∷ xs) ≡ x ∷ take n xs
take_more n x xs = let e : 1 + n ≡ suc n = omega arith in rw e refl

-- a name without `=` is the whole of its word
name_alone : (text : Text) → has_byte 61 text ≡ false → before_first (λ x. x == 61) text ≡ text
name_alone [] e = refl
name_alone (x ∷ xs) e = let parts = or_parts (x == 61) _ e in rw (parts.0) (take_more _ x xs ∙ ap (λ ys. x ∷ ys) (name_alone xs parts.1))

-- ---- one hyphen

module _ (at : Stage) (y : ℕ) (more : Text) (e : (y == 45) ≡ false) where
  abbrev word : Text
  word = 45 ∷ y ∷ more

  dashes : bytes_eq word (45 ∷ 45 ∷ []) ≡ false
  dashes = rw e refl

  not_long : long_of word ≡ None
  not_long = rw e refl

  is_short : short_of word ≡ Some (y ∷ more)
  is_short = rw e refl

  part_is : part_of word ≡ short_flag (slice_get (chars (y ∷ more)) 0)
  part_is = rw e refl

  by_version : (x : ℕ) → slice_get (chars (y ∷ more)) 0 ≡ Some x → (x == 104) ≡ false → (b : Bool) → (x == 86) ≡ b → Does (part_of word) at word
  by_version x first h true v =
      let is : slice_get (chars (y ∷ more)) 0 ≡ Some 86 = first ∙ ap Some (eqb-true x 86 v) in
      of_kind at word _ _ (part_is ∙ ap short_flag is) (short_version at word (y ∷ more) dashes not_long is_short is (omega arith))
  by_version x first h false v =
      let kind : short_flag (Some x) ≡ a_wrong_flag = rw (h, v) refl in
      of_kind at word _ _ (part_is ∙ ap short_flag first ∙ kind)
      (short_wrong at word (y ∷ more) x dashes not_long is_short first (omega arith) (other_side x 104 h) (other_side x 86 v))

  by_help : (x : ℕ) → slice_get (chars (y ∷ more)) 0 ≡ Some x → (b : Bool) → (x == 104) ≡ b → Does (part_of word) at word
  by_help x first true h =
      let is : slice_get (chars (y ∷ more)) 0 ≡ Some 104 = first ∙ ap Some (eqb-true x 104 h) in
      of_kind at word _ _ (part_is ∙ ap short_flag is) (short_help at word (y ∷ more) dashes not_long is_short is (omega arith))
  by_help x first false h = by_version x first h (x == 86) refl

  by_first : (o : Option ℕ) → slice_get (chars (y ∷ more)) 0 ≡ o → Does (part_of word) at word
  by_first None first = of_kind at word _ _ (part_is ∙ ap short_flag first) (short_nothing at word (y ∷ more) dashes not_long is_short first)
  by_first (Some x) first = by_help x first (x == 104) refl

  one_hyphen : Does (part_of word) at word
  one_hyphen = by_first (slice_get (chars (y ∷ more)) 0) refl

-- ---- two hyphens

module _ (at : Stage) (z : ℕ) (zs : Text) where
  abbrev name : Text
  name = z ∷ zs

  abbrev flag : Text
  flag = 45 ∷ 45 ∷ z ∷ zs

  wrong_alone : bytes_eq name (codes "help") ≡ false → bytes_eq name (codes "version") ≡ false → has_byte 61 name ≡ false → Does a_wrong_flag at flag
  wrong_alone h v none =
      let is : name_and_value name ≡ (name, None) = rw (none, name_alone name none) refl in
      long_unknown at flag name None refl (ap Some is) (differ name (codes "help") h) (differ name (codes "version") v)

  wrong_value : (n value : Text) → long_of flag ≡ Some (n, Some value) → (h v : Bool) → bytes_eq (codes "help") n ≡ h → bytes_eq (codes "version") n ≡ v → Does a_wrong_flag at flag
  wrong_value n value is true v eh ev = long_help_of at flag n value refl is eh
  wrong_value n value is false true eh ev = long_version_of at flag n value refl is eh ev
  wrong_value n value is false false eh ev = long_unknown at flag n (Some value) refl is eh ev

  wrong : bytes_eq name (codes "help") ≡ false → bytes_eq name (codes "version") ≡ false → (b : Bool) → has_byte 61 name ≡ b → Does a_wrong_flag at flag
  wrong h v false e = wrong_alone h v e
  wrong h v true e =
      let is : name_and_value name ≡ (before_first (λ x. x == 61) name, Some (after_first (λ x. x == 61) name)) = rw e refl in
      wrong_value _ _ (ap Some is) _ _ refl refl

  by_name : (h v : Bool) → bytes_eq name (codes "help") ≡ h → bytes_eq name (codes "version") ≡ v → Does (part_of flag) at flag
  by_name true v eh ev = subst (λ n. Does (after_two_hyphens n) at (45 ∷ 45 ∷ n)) (sym ((bytes_eq-Decides name (codes "help")).0 eh)) (long_help at)
  by_name false true eh ev = subst (λ n. Does (after_two_hyphens n) at (45 ∷ 45 ∷ n)) (sym ((bytes_eq-Decides name (codes "version")).0 ev)) (long_version at)
  by_name false false eh ev = of_kind at flag _ a_wrong_flag (rw (eh, ev) refl) (wrong eh ev (has_byte 61 name) refl)

  two_hyphens : Does (part_of flag) at flag
  two_hyphens = by_name _ _ refl refl

after_two : (at : Stage) (rest : Text) → Does (part_of (45 ∷ 45 ∷ rest)) at (45 ∷ 45 ∷ rest)
after_two at [] = escape at
after_two at (z ∷ zs) = two_hyphens at z zs

after_one : (at : Stage) (rest : Text) → Does (part_of (45 ∷ rest)) at (45 ∷ rest)
after_one at [] = hyphen at
after_one at (y ∷ more) = by (y == 45) refl
  where
    by : (b : Bool) → (y == 45) ≡ b → Does (part_of (45 ∷ y ∷ more)) at (45 ∷ y ∷ more)
    by true e = subst (λ k. Does (part_of (45 ∷ k ∷ more)) at (45 ∷ k ∷ more)) (sym (eqb-true y 45 e)) (after_two at more)
    by false e = one_hyphen at y more e

-- a word does what its kind does
pub does : (at : Stage) (w : Text) → Does (part_of w) at w
does at [] = no_word at
does at (x ∷ rest) = by (x == 45) refl
  where
    by : (b : Bool) → (x == 45) ≡ b → Does (part_of (x ∷ rest)) at (x ∷ rest)
    by true e = subst (λ k. Does (part_of (k ∷ rest)) at (k ∷ rest)) (sym (eqb-true x 45 e)) (after_one at rest)
    by false e = of_kind at (x ∷ rest) _ a_value (rw e refl) (plain_word at (x ∷ rest) (rw e refl) (rw e refl) (rw e refl))
