-- What is read is spelled so, each byte of it.
--     Took bytes text rest      the bytes are the text and the rest, which are bytes too
use Rattle.std.proofs.Common.{inl, inr, ◌≡◌, ℕ, zero, suc, ◌+◌, ◌^◌, ◌<◌, ◌≤◌, Bool, true, false, cond, not, ◌&&◌, List, [], ◌∷◌, ◌++◌, length, take, drop, refl, sym, ap, subst, ◌∙◌, arith, ℤ, pos, negsuc, SFits}
use Rattle.std.specs.Prelude.{Option, Some, None, Result, Ok, Err, nat_le, nat_lt, ◌==◌, bytes_eq, flat_map, unwrap_or, ◌↔◌}
use Rattle.std.specs.List.{list_all, concat, onto_first}
use Rattle.std.specs.Option.{option_map_or}
use Rattle.std.specs.Int.{Width, w8, w16, w32, w64, byte_len, from_be_bytes, to_be_bytes, cast_signed, cast_unsigned}
use Rattle.std.specs.FinMap.{is_sorted}
use Rattle.std.proofs.lemmas.Bool.{ltb-false, le-ltb, cases_lt, leb-true, ltb-true, lt-ltb, and_parts, and_from, eq-eqb, eqb-true, or_cases}
use Rattle.std.proofs.lemmas.List.{append_assoc, append-nil, take-append-drop, length-take, get_or-drop, get_or-take, get_or_past}
use Rattle.std.proofs.lemmas.Nat.{be_bytes_2, be_bytes_4, be_bytes_8}
use Rattle.std.proofs.lemmas.Slice.Eq.{bytes_eq-Decides}
use Rattle.std.proofs.Math.Facts.{sfits_to_z}
use Rattle.std.proofs.lemmas.Int.{of_z-to_z}
use Rattle.changeset_model.proofs.Spelling.{a_file, put_together, from_message, from_author, from_message_bytes, from_author_bytes, starts_after, read-spelling}
use Rattle.changeset_model.proofs.Rising.{path_lt-trans}
use Rattle.std.specs.FinMap.Entries.{below_all}
use Rattle.byte_fields.proofs.FieldLemmas.{all_bytes}
use Rattle.byte_fields.specs.Bytes.{IsBytes, Id, sized, is_bytes, is_line, is_text}
use Rattle.changeset_model.specs.Path.{Path, text_of, elements, is_path, path_lt, path_cmp}
use Rattle.changeset_model.specs.Version.{Version, First, Second, version_byte, is_version, version_of}
use Rattle.changeset_model.specs.Changeset.{most_encoded, self_conflict, File, CopySource, FileChange, Set, Delete, Changeset, kind_byte, file_bytes, copied_bytes, is_copied, change_bytes, edit_bytes, spelling, most_size, are_parents, is_author, is_message, is_signed, is_change, are_changes, is_changeset, Spells}
use Rattle.byte_fields.specs.Reading.{Reader, value, and_then, ◌>>=◌, field, keeping, number, bytes_of, exactly, with_len, signed, id, read, whole}
use Rattle.changeset_model.specs.Decoding.{TooLong, without_conflict, in_order, decoded, parents, parent_list, author, message, kind_of, file, a_source, source_for, copied, change_of, is_after, path, change, edit, edits, edit_list, changeset}

pub IsBytes-drop : (n : ℕ) (bytes : List ℕ) → IsBytes bytes → IsBytes (drop n bytes)
IsBytes-drop n bytes h i = rw get_or-drop (h (n + i))

pub IsBytes-take : (n : ℕ) (bytes : List ℕ) → IsBytes bytes → IsBytes (take n bytes)
IsBytes-take n bytes h i =
    elim (cases_lt i n) [
      | inl lt ↦ rw (get_or-take n bytes i 0 lt) (h i)
      | inr le ↦ rw (get_or_past (take n bytes) i 0 (omega (arith, length-take n bytes))) (omega arith)
    ]

pub record Took (bytes text rest : List ℕ) : Type 0 where
  pub parts : bytes ≡ text ++ rest
  pub left : IsBytes rest

pub took_then : (a x b y c : List ℕ) → Took a x b → Took b y c → Took a (x ++ y) c
took_then a x b y c p q = record { parts = p.parts ∙ ap (λ (t : List ℕ). x ++ t) q.parts ∙ sym (append_assoc x y c); left = q.left }

-- ---- steps that did not fail

pub bind_ok : {A B : Type 0} (o : Result (A × List ℕ) ℕ) (f : A → Reader B) (y : B × List ℕ) → and_then o f ≡ Ok y → (x : A × List ℕ) × (o ≡ Ok x) × (f x.0 x.1 ≡ Ok y)
bind_ok (Ok x) f y e = (x, refl, e)
bind_ok (Err n) f y e = absurd cc

pub ok_is : {A : Type 0} (x y : A) → ◌≡◌ {A = Result A ℕ} (Ok x) (Ok y) → x ≡ y
ok_is x y e = cc

found_ok : {A : Type 0} (rest : List ℕ) (n : ℕ) (o : Option A) (y : A × List ℕ) → option_map_or (λ x. Ok (x, rest)) o (Err n) ≡ Ok y → (o ≡ Some y.0) × (rest ≡ y.1)
found_ok {A = A} rest n None y e = absurd cc
found_ok {A = A} rest n (Some x) y e = let same = ok_is {A = A × List ℕ} (x, rest) y e in (ap (λ (p : A × List ℕ). Some p.0) same, ap (λ (p : A × List ℕ). p.1) same)

test_ok : {A : Type 0} (b : Bool) (o : Option A) (x : A) → cond b o None ≡ Some x → (b ≡ true) × (o ≡ Some x)
test_ok true o x e = (refl, e)
test_ok false o x e = absurd cc

pub record FieldRead {A : Type 0} (n : ℕ) (view : List ℕ → Option A) (bytes : List ℕ) (x : A) (rest : List ℕ) : Type 0 where
  pub long : length (take n bytes) ≡ n
  pub seen : view (take n bytes) ≡ Some x
  pub took : Took bytes (take n bytes) rest

field_ok : {A : Type 0} (n : ℕ) (view : List ℕ → Option A) (bytes : List ℕ) (x : A) (rest : List ℕ) → IsBytes bytes → field n view bytes ≡ Ok (x, rest) → FieldRead n view bytes x rest
field_ok n view bytes x rest fits e =
    let found = found_ok (drop n bytes) (length bytes) (cond (nat_le n (length bytes)) (view (take n bytes)) None) (x, rest) e in
    let test = test_ok (nat_le n (length bytes)) (view (take n bytes)) x found.0 in
    let le : n ≤ length bytes = leb-true n (length bytes) test.0 in
    record {
      long = omega (arith, length-take n bytes);
      seen = test.1;
      took = record { parts = sym (take-append-drop n bytes) ∙ ap (λ (t : List ℕ). take n bytes ++ t) found.1; left = subst IsBytes found.1 (IsBytes-drop n bytes fits) };
    }

pub keeping_ok : {A : Type 0} (rule : A → Bool) (x y : A) → keeping rule x ≡ Some y → (rule x ≡ true) × (x ≡ y)
keeping_ok rule x y e = let test = test_ok (rule x) (Some x) y e in (test.0, ap (λ o. unwrap_or o x) test.1)

-- ---- numbers

-- bytes of this width are the spelling of their number
abbrev pub IsWide : Width → ℕ → Type 0
IsWide w limit = (bytes : List ℕ) → length bytes ≡ byte_len w → IsBytes bytes → (to_be_bytes w (from_be_bytes w bytes) ≡ bytes) × (from_be_bytes w bytes < limit)

wide16 : IsWide w16 (2 ^ 16)
wide16 bytes len fits = (be_bytes_2 bytes _ len fits refl, omega (arith, fits 0, fits 1))

pub wide32 : IsWide w32 (2 ^ 32)
wide32 bytes len fits = (be_bytes_4 bytes _ len fits refl, omega (arith, fits 0, fits 1, fits 2, fits 3))

pub wide64 : IsWide w64 (2 ^ 64)
wide64 bytes len fits = (be_bytes_8 bytes _ len fits refl, omega (arith, fits 0, fits 1, fits 2, fits 3, fits 4, fits 5, fits 6, fits 7))

pub record NumberRead (w : Width) (limit : ℕ) (rule : ℕ → Bool) (bytes : List ℕ) (n : ℕ) (rest : List ℕ) : Type 0 where
  pub took : Took bytes (to_be_bytes w n) rest
  pub keeps : rule n ≡ true
  pub below : n < limit

pub number_ok : (w : Width) (limit : ℕ) → IsWide w limit → (rule : ℕ → Bool) (bytes : List ℕ) (n : ℕ) (rest : List ℕ) → IsBytes bytes → number w rule bytes ≡ Ok (n, rest) → NumberRead w limit rule bytes n rest
number_ok w limit wide rule bytes n rest fits e =
    let f = field_ok (byte_len w) (λ b. keeping rule (from_be_bytes w b)) bytes n rest fits e in
    let front = take (byte_len w) bytes in
    let k = keeping_ok rule (from_be_bytes w front) n f.seen in
    let wd = wide front f.long (IsBytes-take (byte_len w) bytes fits) in
    record {
      took = subst (λ t. Took bytes t rest) (sym wd.0 ∙ ap (to_be_bytes w) k.1) f.took;
      keeps = subst (λ m. rule m ≡ true) k.1 k.0;
      below = subst (λ m. m < limit) k.1 wd.1;
    }

one_byte : (front : List ℕ) → length front ≡ 1 → front ≡ from_be_bytes w8 front ∷ []
one_byte [] len = absurd (omega arith)
one_byte (b ∷ []) len = (λ i. same i ∷ [])
  where
    same : b ≡ from_be_bytes w8 (b ∷ [])
    same = omega arith
one_byte (b ∷ c ∷ bs) len = absurd (omega arith)

pub record ByteRead (rule : ℕ → Bool) (bytes : List ℕ) (n : ℕ) (rest : List ℕ) : Type 0 where
  pub took : Took bytes (n ∷ []) rest
  pub keeps : rule n ≡ true

pub byte_ok : (rule : ℕ → Bool) (bytes : List ℕ) (n : ℕ) (rest : List ℕ) → IsBytes bytes → number w8 rule bytes ≡ Ok (n, rest) → ByteRead rule bytes n rest
byte_ok rule bytes n rest fits e =
    let f = field_ok 1 (λ b. keeping rule (from_be_bytes w8 b)) bytes n rest fits e in
    let k = keeping_ok rule (from_be_bytes w8 (take 1 bytes)) n f.seen in
    record {
      took = subst (λ t. Took bytes t rest) (one_byte (take 1 bytes) f.long ∙ ap (λ m. m ∷ []) k.1) f.took;
      keeps = subst (λ m. rule m ≡ true) k.1 k.0;
    }

pub record SizedRead {A : Type 0} (w : Width) (rule : ℕ → Bool) (view : List ℕ → Option A) (bytes : List ℕ) (x : A) (rest : List ℕ) : Type 0 where
  pub text : List ℕ
  pub took : Took bytes (sized w text) rest
  pub keeps : rule (length text) ≡ true
  pub seen : view text ≡ Some x

pub with_len_ok : {A : Type 0} (w : Width) (limit : ℕ) → IsWide w limit → (rule : ℕ → Bool) (view : List ℕ → Option A) (bytes : List ℕ) (x : A) (rest : List ℕ) → IsBytes bytes → with_len w rule view bytes ≡ Ok (x, rest) → SizedRead w rule view bytes x rest
with_len_ok w limit wide rule view bytes x rest fits e =
    let step = bind_ok (number w rule bytes) (λ len. field len view) (x, rest) e in
    let len = step.0.0 in
    let n = number_ok w limit wide rule bytes len step.0.1 fits step.1 in
    let f = field_ok len view step.0.1 x rest n.took.left step.2 in
    let text = take len step.0.1 in
    record {
      text = text;
      took = took_then bytes (to_be_bytes w (length text)) step.0.1 text rest (subst (λ m. Took bytes (to_be_bytes w m) step.0.1) (sym f.long) n.took) f.took;
      keeps = subst (λ m. rule m ≡ true) (sym f.long) n.keeps;
      seen = f.seen;
    }

-- ---- ids, dates and files

pub record IdRead (bytes : List ℕ) (x : Id) (rest : List ℕ) : Type 0 where
  pub took : Took bytes x rest
  pub good : is_bytes 32 x ≡ true

id_of_rule : (rule : Id → Bool) (bytes : List ℕ) (x : Id) (rest : List ℕ) → IsBytes bytes → bytes_of 32 rule bytes ≡ Ok (x, rest) → IdRead bytes x rest × (rule x ≡ true)
id_of_rule rule bytes x rest fits e =
    let f = field_ok 32 (keeping rule) bytes x rest fits e in
    let k = keeping_ok rule (take 32 bytes) x f.seen in
    let good : is_bytes 32 (take 32 bytes) ≡ true = and_from _ _ (eq-eqb (length (take 32 bytes)) 32 f.long) (all_bytes (take 32 bytes) (IsBytes-take 32 bytes fits)) in
    (record { took = subst (λ t. Took bytes t rest) k.1 f.took; good = subst (λ t. is_bytes 32 t ≡ true) k.1 good }, subst (λ t. rule t ≡ true) k.1 k.0)

pub id_ok : (bytes : List ℕ) (x : Id) (rest : List ℕ) → IsBytes bytes → id bytes ≡ Ok (x, rest) → IdRead bytes x rest
id_ok bytes x rest fits e = (id_of_rule (λ _. true) bytes x rest fits e).0

pub exactly_ok : (text bytes : List ℕ) (x : List ℕ) (rest : List ℕ) → IsBytes bytes → exactly text bytes ≡ Ok (x, rest) → Took bytes text rest
exactly_ok text bytes x rest fits e =
    let f = field_ok (length text) (keeping (bytes_eq text)) bytes x rest fits e in
    let k = keeping_ok (bytes_eq text) (take (length text) bytes) x f.seen in
    subst (λ t. Took bytes t rest) (sym ((bytes_eq-Decides text (take (length text) bytes)).0 k.0)) f.took

signed_range_64 : (z : ℤ) → SFits w64 z → is_signed 64 z ≡ true
signed_range_64 (pos m) h = lt-ltb m (2 ^ 63) h.sfits
signed_range_64 (negsuc m) h = lt-ltb m (2 ^ 63) h.sfits

signed_range_32 : (z : ℤ) → SFits w32 z → is_signed 32 z ≡ true
signed_range_32 (pos m) h = lt-ltb m (2 ^ 31) h.sfits
signed_range_32 (negsuc m) h = lt-ltb m (2 ^ 31) h.sfits

some_is : {A : Type 0} (x y : A) → ◌≡◌ {A = Option A} (Some x) (Some y) → x ≡ y
some_is x y e = ap (λ o. unwrap_or o x) e

signed_64_ok : (bytes : List ℕ) (z : ℤ) (rest : List ℕ) → IsBytes bytes → signed w64 bytes ≡ Ok (z, rest) → Took bytes (to_be_bytes w64 (cast_unsigned w64 z)) rest × (is_signed 64 z ≡ true)
signed_64_ok bytes z rest fits e =
    let f = field_ok 8 (λ b. Some (cast_signed w64 (from_be_bytes w64 b))) bytes z rest fits e in
    let front = take 8 bytes in
    let wd = wide64 front f.long (IsBytes-take 8 bytes fits) in
    let n = from_be_bytes w64 front in
    let z-is : cast_signed w64 n ≡ z = some_is (cast_signed w64 n) z f.seen in
    (subst (λ t. Took bytes t rest) (sym wd.0 ∙ ap (to_be_bytes w64) (sym (of_z-to_z w64 n wd.1) ∙ ap (cast_unsigned w64) z-is)) f.took, subst (λ z. is_signed 64 z ≡ true) z-is (signed_range_64 (cast_signed w64 n) (sfits_to_z (record { fits = wd.1 }))))

signed_32_ok : (bytes : List ℕ) (z : ℤ) (rest : List ℕ) → IsBytes bytes → signed w32 bytes ≡ Ok (z, rest) → Took bytes (to_be_bytes w32 (cast_unsigned w32 z)) rest × (is_signed 32 z ≡ true)
signed_32_ok bytes z rest fits e =
    let f = field_ok 4 (λ b. Some (cast_signed w32 (from_be_bytes w32 b))) bytes z rest fits e in
    let front = take 4 bytes in
    let wd = wide32 front f.long (IsBytes-take 4 bytes fits) in
    let n = from_be_bytes w32 front in
    let z-is : cast_signed w32 n ≡ z = some_is (cast_signed w32 n) z f.seen in
    (subst (λ t. Took bytes t rest) (sym wd.0 ∙ ap (to_be_bytes w32) (sym (of_z-to_z w32 n wd.1) ∙ ap (cast_unsigned w32) z-is)) f.took, subst (λ z. is_signed 32 z ≡ true) z-is (signed_range_32 (cast_signed w32 n) (sfits_to_z (record { fits = wd.1 }))))

pub took_end : (bytes : List ℕ) → IsBytes bytes → Took bytes [] bytes
took_end bytes fits = record { parts = refl; left = fits }

-- the value that was put together, and what was left
pub value_ok : {A : Type 0} (x y : A) (left rest : List ℕ) → value x left ≡ Ok (y, rest) → (x ≡ y) × (left ≡ rest)
value_ok {A = A} x y left rest e = let same = ok_is {A = A × List ℕ} (x, left) (y, rest) e in (ap (λ (p : A × List ℕ). p.0) same, ap (λ (p : A × List ℕ). p.1) same)

pub kind_byte-kind_of : (n : ℕ) → nat_lt n 3 ≡ true → kind_byte (kind_of n) ≡ n
kind_byte-kind_of zero h = refl
kind_byte-kind_of (suc zero) h = refl
kind_byte-kind_of (suc (suc zero)) h = refl
kind_byte-kind_of (suc (suc (suc n))) h = absurd (let lt = ltb-true (suc (suc (suc n))) 3 h in omega arith)

pub record FileRead (rule : ℕ → Bool) (bytes : List ℕ) (f : File) (rest : List ℕ) : Type 0 where
  pub took : Took bytes (file_bytes f) rest
  pub size : rule f.size ≡ true
  pub small : f.size < 2 ^ 64
  pub content : is_bytes 32 f.content ≡ true

pub file_ok : (rule : ℕ → Bool) (bytes : List ℕ) (f : File) (rest : List ℕ) → IsBytes bytes → file rule bytes ≡ Ok (f, rest) → FileRead rule bytes f rest
file_ok rule bytes f rest fits e =
    let s1 = bind_ok (number w8 (λ n. nat_lt n 3) bytes) (λ kind. number w64 rule >>= λ size. id >>= λ content. value (a_file kind size content)) (f, rest) e in
    let kind = s1.0.0 in
    let n1 = byte_ok (λ n. nat_lt n 3) bytes kind s1.0.1 fits s1.1 in
    let s2 = bind_ok (number w64 rule s1.0.1) (λ size. id >>= λ content. value (a_file kind size content)) (f, rest) s1.2 in
    let size = s2.0.0 in
    let n2 = number_ok w64 (2 ^ 64) wide64 rule s1.0.1 size s2.0.1 n1.took.left s2.1 in
    let s3 = bind_ok (id s2.0.1) (λ content. value (a_file kind size content)) (f, rest) s2.2 in
    let content = s3.0.0 in
    let n3 = id_ok s2.0.1 content s3.0.1 n2.took.left s3.1 in
    let last = value_ok (a_file kind size content) f s3.0.1 rest s3.2 in
    let all : Took bytes ((kind ∷ []) ++ (to_be_bytes w64 size ++ (content ++ []))) s3.0.1 =
    took_then bytes (kind ∷ []) s1.0.1 (to_be_bytes w64 size ++ (content ++ [])) s3.0.1 n1.took
    (took_then s1.0.1 (to_be_bytes w64 size) s2.0.1 (content ++ []) s3.0.1 n2.took (took_then s2.0.1 content s3.0.1 [] s3.0.1 n3.took (took_end s3.0.1 n3.took.left)))
    in
    let spelled : Took bytes (file_bytes (a_file kind size content)) s3.0.1 = subst (λ k. Took bytes ((k ∷ []) ++ (to_be_bytes w64 size ++ (content ++ []))) s3.0.1) (sym (kind_byte-kind_of kind n1.keeps)) all in
    subst (λ f. FileRead rule bytes f rest) last.0 (record { took = subst (λ r. Took bytes (file_bytes (a_file kind size content)) r) last.1 spelled; size = n2.keeps; small = n2.below; content = n3.good })

-- ---- paths

slash_on : (e : List ℕ) (b : ℕ) (p : Path) → text_of (onto_first b (e ∷ p)) ≡ b ∷ text_of (e ∷ p)
slash_on e b [] = refl
slash_on e b (f ∷ p) = refl

onto : (b : ℕ) (p : Path) (text : List ℕ) → text_of p ≡ text → (q : Path) → p ≡ q → (0 < length q) → text_of (onto_first b p) ≡ b ∷ text
onto b p text h [] e some = absurd (omega arith)
onto b p text h (f ∷ q) e some = ap (λ r. text_of (onto_first b r)) e ∙ slash_on f b q ∙ ap (λ t. b ∷ t) (ap text_of (sym e) ∙ h)

pub onto_some : (b : ℕ) (p : Path) → 0 < length (onto_first b p)
onto_some b [] = omega arith
onto_some b (e ∷ p) = omega arith

pub elements_some : (text : List ℕ) → 0 < length (elements text)
elements_some [] = omega arith
elements_some (b ∷ text) = by (b == 0x2F)
  where
    by : (t : Bool) → 0 < length (cond t ([] ∷ elements text) (onto_first b (elements text)))
    by true = omega arith
    by false = onto_some b (elements text)

pub after_slash : (p : Path) → (0 < length p) → text_of ([] ∷ p) ≡ 0x2F ∷ text_of p
after_slash [] some = absurd (omega arith)
after_slash (e ∷ p) some = refl

pub text_of-elements : (text : List ℕ) → text_of (elements text) ≡ text
text_of-elements [] = refl
text_of-elements (b ∷ text) = by (text_of-elements text) (b == 0x2F) refl
  where
    by : text_of (elements text) ≡ text → (t : Bool) → (b == 0x2F) ≡ t → text_of (cond t ([] ∷ elements text) (onto_first b (elements text))) ≡ b ∷ text
    by ih true e = after_slash (elements text) (elements_some text) ∙ (λ i. sym (eqb-true b 0x2F e) i ∷ ih i)
    by ih false e = onto b (elements text) text ih (elements text) refl (elements_some text)

record PathRead (before : Option Path) (bytes : List ℕ) (p : Path) (rest : List ℕ) : Type 0 where
  took : Took bytes (sized w16 (text_of p)) rest
  good : is_path p ≡ true
  after : is_after before p ≡ true

path_ok : (before : Option Path) (bytes : List ℕ) (p : Path) (rest : List ℕ) → IsBytes bytes → path before bytes ≡ Ok (p, rest) → PathRead before bytes p rest
path_ok before bytes p rest fits e =
    let s = with_len_ok w16 (2 ^ 16) wide16 (λ n. nat_lt 0 n && nat_le n 4096) (λ text. keeping (λ p. is_path p && is_after before p) (elements text)) bytes p rest fits e in
    let k = keeping_ok (λ p. is_path p && is_after before p) (elements s.text) p s.seen in
    let both = and_parts (is_path (elements s.text)) (is_after before (elements s.text)) k.0 in
    subst (λ p. PathRead before bytes p rest) k.1 (record {
      took = subst (λ t. Took bytes (sized w16 t) rest) (sym (text_of-elements s.text)) s.took;
      good = both.0;
      after = both.1;
    })

-- ---- changes

record CopiedRead (v : Version) (n : ℕ) (bytes : List ℕ) (s : Option CopySource) (rest : List ℕ) : Type 0 where
  took : Took bytes (copied_bytes v s) rest
  good : is_copied v n s ≡ true

source_by : (n flag : ℕ) → nat_lt flag 2 ≡ true → (bytes mid : List ℕ) (s : Option CopySource) (rest : List ℕ) → Took bytes (flag ∷ []) mid → source_for n flag mid ≡ Ok (s, rest) → CopiedRead Second n bytes s rest
source_by n zero h bytes mid s rest took e =
    let last = value_ok None s mid rest e in
    subst (λ s. CopiedRead Second n bytes s rest) last.0 (record { took = subst (λ r. Took bytes (0 ∷ []) r) last.1 took; good = refl })
source_by n (suc zero) h bytes mid s rest took e =
    let s1 = bind_ok (number w8 (λ m. nat_lt m n) mid) (λ parent. path None >>= λ p. value (Some (a_source parent p))) (s, rest) e in
    let parent = s1.0.0 in
    let n1 = byte_ok (λ m. nat_lt m n) mid parent s1.0.1 took.left s1.1 in
    let s2 = bind_ok (path None s1.0.1) (λ p. value (Some (a_source parent p))) (s, rest) s1.2 in
    let p = s2.0.0 in
    let n2 = path_ok None s1.0.1 p s2.0.1 n1.took.left s2.1 in
    let last = value_ok (Some (a_source parent p)) s s2.0.1 rest s2.2 in
    subst (λ s. CopiedRead Second n bytes s rest) last.0 (record {
      took = subst (λ r. Took bytes (1 ∷ parent ∷ sized w16 (text_of p)) r) last.1 (took_then bytes (1 ∷ []) mid ((parent ∷ []) ++ sized w16 (text_of p)) s2.0.1 took (took_then mid (parent ∷ []) s1.0.1 (sized w16 (text_of p)) s2.0.1 n1.took n2.took));
      good = and_from _ _ n1.keeps n2.good;
    })
source_by n (suc (suc flag)) h bytes mid s rest took e = absurd (let lt = ltb-true (suc (suc flag)) 2 h in omega arith)

copied_ok : (v : Version) (n : ℕ) (bytes : List ℕ) (s : Option CopySource) (rest : List ℕ) → IsBytes bytes → copied v n bytes ≡ Ok (s, rest) → CopiedRead v n bytes s rest
copied_ok First n bytes s rest fits e =
    let last = value_ok None s bytes rest e in
    subst (λ s. CopiedRead First n bytes s rest) last.0 (record { took = subst (λ r. Took bytes [] r) last.1 (took_end bytes fits); good = refl })
copied_ok Second n bytes s rest fits e =
    let s1 = bind_ok (number w8 (λ n. nat_lt n 2) bytes) (source_for n) (s, rest) e in
    let n1 = byte_ok (λ n. nat_lt n 2) bytes s1.0.0 s1.0.1 fits s1.1 in
    source_by n s1.0.0 n1.keeps bytes s1.0.1 s rest n1.took s1.2

record ChangeRead (v : Version) (n : ℕ) (bytes : List ℕ) (c : FileChange) (rest : List ℕ) : Type 0 where
  took : Took bytes (change_bytes v c) rest
  good : is_change v n c ≡ true

change_by : (v : Version) (n tag : ℕ) → nat_lt tag 2 ≡ true → (bytes mid : List ℕ) (c : FileChange) (rest : List ℕ) → Took bytes (tag ∷ []) mid → change_of v n tag mid ≡ Ok (c, rest) → ChangeRead v n bytes c rest
change_by v n zero h bytes mid c rest took e =
    let last = value_ok Delete c mid rest e in
    subst (λ c. ChangeRead v n bytes c rest) last.0 (record { took = subst (λ r. Took bytes (0 ∷ []) r) last.1 took; good = refl })
change_by v n (suc zero) h bytes mid c rest took e =
    let s = bind_ok (file (λ size. nat_le size most_size) mid) (λ f. copied v n >>= λ s. value (Set f s)) (c, rest) e in
    let f = file_ok (λ size. nat_le size most_size) mid s.0.0 s.0.1 took.left s.1 in
    let t = bind_ok (copied v n s.0.1) (λ source. value (Set s.0.0 source)) (c, rest) s.2 in
    let from = copied_ok v n s.0.1 t.0.0 t.0.1 f.took.left t.1 in
    let last = value_ok (Set s.0.0 t.0.0) c t.0.1 rest t.2 in
    subst (λ c. ChangeRead v n bytes c rest) last.0 (record {
      took = subst (λ r. Took bytes (1 ∷ (file_bytes s.0.0 ++ copied_bytes v t.0.0)) r) last.1 (took_then bytes (1 ∷ []) mid (file_bytes s.0.0 ++ copied_bytes v t.0.0) t.0.1 took (took_then mid (file_bytes s.0.0) s.0.1 (copied_bytes v t.0.0) t.0.1 f.took from.took));
      good = and_from _ _ (and_from _ _ f.size f.content) from.good;
    })
change_by v n (suc (suc tag)) h bytes mid c rest took e = absurd (let lt = ltb-true (suc (suc tag)) 2 h in omega arith)

change_ok : (v : Version) (n : ℕ) (bytes : List ℕ) (c : FileChange) (rest : List ℕ) → IsBytes bytes → change v n bytes ≡ Ok (c, rest) → ChangeRead v n bytes c rest
change_ok v n bytes c rest fits e =
    let s = bind_ok (number w8 (λ n. nat_lt n 2) bytes) (change_of v n) (c, rest) e in
    let b = byte_ok (λ n. nat_lt n 2) bytes s.0.0 s.0.1 fits s.1 in
    change_by v n s.0.0 b.keeps bytes s.0.1 c rest b.took s.2

-- ---- lists of changes

pub below_later : (x y : Path) (es : List (Path × FileChange)) → path_lt x y ≡ true → below_all path_cmp y es ≡ true → below_all path_cmp x es ≡ true
below_later x y [] h all = refl
below_later x y (e ∷ es) h all =
    let parts = and_parts (path_lt y e.0) (below_all path_cmp y es) all in
    and_from _ _ (path_lt-trans x y e.0 h parts.0) (below_later x y es h parts.1)

below_first : (x : Path) (es : List (Path × FileChange)) → starts_after (Some x) es ≡ true → is_sorted path_cmp es ≡ true → below_all path_cmp x es ≡ true
below_first x [] h sorted = refl
below_first x (e ∷ es) h sorted =
    and_from _ _ h (below_later x e.0 es h (and_parts (below_all path_cmp e.0 es) (is_sorted path_cmp es) sorted).0)

record EditRead (v : Version) (n : ℕ) (before : Option Path) (bytes : List ℕ) (e : Path × FileChange) (rest : List ℕ) : Type 0 where
  took : Took bytes (edit_bytes v e) rest
  good : (is_path e.0 && is_change v n e.1) ≡ true
  after : is_after before e.0 ≡ true

edit_ok : (v : Version) (n : ℕ) (before : Option Path) (bytes : List ℕ) (e : Path × FileChange) (rest : List ℕ) → IsBytes bytes → edit v n before bytes ≡ Ok (e, rest) → EditRead v n before bytes e rest
edit_ok v n before bytes e rest fits eq =
    let s1 = bind_ok (path before bytes) (λ p. change v n >>= λ c. value (p, c)) (e, rest) eq in
    let p = s1.0.0 in
    let n1 = path_ok before bytes p s1.0.1 fits s1.1 in
    let s2 = bind_ok (change v n s1.0.1) (λ c. value (p, c)) (e, rest) s1.2 in
    let c = s2.0.0 in
    let n2 = change_ok v n s1.0.1 c s2.0.1 n1.took.left s2.1 in
    let last = value_ok {A = Path × FileChange} (p, c) e s2.0.1 rest s2.2 in
    subst (λ e. EditRead v n before bytes e rest) last.0 (record {
      took = subst (λ r. Took bytes (edit_bytes v (p, c)) r) last.1 (took_then bytes (sized w16 (text_of p)) s1.0.1 (change_bytes v c) s2.0.1 n1.took n2.took);
      good = and_from _ _ n1.good n2.good;
      after = n1.after;
    })

record EditsRead (v : Version) (ps n : ℕ) (before : Option Path) (bytes : List ℕ) (es : List (Path × FileChange)) (rest : List ℕ) : Type 0 where
  took : Took bytes (flat_map (edit_bytes v) es) rest
  len : length es ≡ n
  each : list_all (λ e. is_path e.0 && is_change v ps e.1) es ≡ true
  sorted : is_sorted path_cmp es ≡ true
  first : starts_after before es ≡ true

edits_ok : (v : Version) (ps n : ℕ) (before : Option Path) (bytes : List ℕ) (es : List (Path × FileChange)) (rest : List ℕ) → IsBytes bytes → edits v ps n before bytes ≡ Ok (es, rest) → EditsRead v ps n before bytes es rest
edits_ok v ps zero before bytes es rest fits eq =
    let last = value_ok [] es bytes rest eq in
    subst (λ es. EditsRead v ps 0 before bytes es rest) last.0 (record { took = subst (λ r. Took bytes [] r) last.1 (took_end bytes fits); len = refl; each = refl; sorted = refl; first = refl })
edits_ok v ps (suc n) before bytes es rest fits eq =
    let s1 = bind_ok (edit v ps before bytes) (λ e. edits v ps n (Some e.0) >>= λ es. value (e ∷ es)) (es, rest) eq in
    let e = s1.0.0 in
    let n1 = edit_ok v ps before bytes e s1.0.1 fits s1.1 in
    let s2 = bind_ok (edits v ps n (Some e.0) s1.0.1) (λ es. value (e ∷ es)) (es, rest) s1.2 in
    let later = s2.0.0 in
    let n2 = edits_ok v ps n (Some e.0) s1.0.1 later s2.0.1 n1.took.left s2.1 in
    let last = value_ok (e ∷ later) es s2.0.1 rest s2.2 in
    subst (λ es. EditsRead v ps (suc n) before bytes es rest) last.0 (record {
      took = subst (λ r. Took bytes (edit_bytes v e ++ flat_map (edit_bytes v) later) r) last.1 (took_then bytes (edit_bytes v e) s1.0.1 (flat_map (edit_bytes v) later) s2.0.1 n1.took n2.took);
      len = ap suc n2.len;
      each = and_from _ _ n1.good n2.each;
      sorted = and_from _ _ (below_first e.0 later n2.first n2.sorted) n2.sorted;
      first = n1.after;
    })

edit_list_ok : (v : Version) (ps : ℕ) (bytes : List ℕ) (es : List (Path × FileChange)) (rest : List ℕ) → IsBytes bytes → edit_list v ps bytes ≡ Ok (es, rest) → Took bytes (to_be_bytes w32 (length es) ++ flat_map (edit_bytes v) es) rest × (are_changes v ps es ≡ true)
edit_list_ok v ps bytes es rest fits eq =
    let s = bind_ok (number w32 (λ n. nat_le n 4096) bytes) (λ count. edits v ps count None) (es, rest) eq in
    let count = s.0.0 in
    let n = number_ok w32 (2 ^ 32) wide32 (λ n. nat_le n 4096) bytes count s.0.1 fits s.1 in
    let r = edits_ok v ps count None s.0.1 es rest n.took.left s.2 in (
      took_then bytes (to_be_bytes w32 (length es)) s.0.1 (flat_map (edit_bytes v) es) rest (subst (λ m. Took bytes (to_be_bytes w32 m) s.0.1) (sym r.len) n.took) r.took,
      and_from _ _ (and_from _ _ (subst (λ m. nat_le m 4096 ≡ true) (sym r.len) n.keeps) r.each) r.sorted,
    )

-- ---- parents and texts

record ParentsRead (n : ℕ) (bytes : List ℕ) (ps : List Id) (rest : List ℕ) : Type 0 where
  took : Took bytes (concat ps) rest
  len : length ps ≡ n
  good : are_parents ps ≡ true

parents_by : (n : ℕ) → nat_lt n 3 ≡ true → (bytes : List ℕ) (ps : List Id) (rest : List ℕ) → IsBytes bytes → parents n bytes ≡ Ok (ps, rest) → ParentsRead n bytes ps rest
parents_by zero h bytes ps rest fits eq =
    let last = value_ok [] ps bytes rest eq in
    subst (λ ps. ParentsRead 0 bytes ps rest) last.0 (record { took = subst (λ r. Took bytes [] r) last.1 (took_end bytes fits); len = refl; good = refl })
parents_by (suc zero) h bytes ps rest fits eq =
    let s = bind_ok (id bytes) (λ first. value (first ∷ [])) (ps, rest) eq in
    let p = s.0.0 in
    let n = id_ok bytes p s.0.1 fits s.1 in
    let last = value_ok (p ∷ []) ps s.0.1 rest s.2 in
    subst (λ ps. ParentsRead 1 bytes ps rest) last.0 (record {
      took = subst (λ r. Took bytes (p ++ []) r) last.1 (took_then bytes p s.0.1 [] s.0.1 n.took (took_end s.0.1 n.took.left));
      len = refl;
      good = n.good;
    })
parents_by (suc (suc zero)) h bytes ps rest fits eq =
    let s1 = bind_ok (id bytes) (λ first. bytes_of 32 (λ x. not (bytes_eq first x)) >>= λ second. value (first ∷ second ∷ [])) (ps, rest) eq in
    let p = s1.0.0 in
    let n1 = id_ok bytes p s1.0.1 fits s1.1 in
    let s2 = bind_ok (bytes_of 32 (λ x. not (bytes_eq p x)) s1.0.1) (λ second. value (p ∷ second ∷ [])) (ps, rest) s1.2 in
    let q = s2.0.0 in
    let n2 = id_of_rule (λ x. not (bytes_eq p x)) s1.0.1 q s2.0.1 n1.took.left s2.1 in
    let last = value_ok (p ∷ q ∷ []) ps s2.0.1 rest s2.2 in
    subst (λ ps. ParentsRead 2 bytes ps rest) last.0 (record {
      took = subst (λ r. Took bytes (p ++ (q ++ [])) r) last.1 (took_then bytes p s1.0.1 (q ++ []) s2.0.1 n1.took (took_then s1.0.1 q s2.0.1 [] s2.0.1 n2.0.took (took_end s2.0.1 n2.0.took.left)));
      len = refl;
      good = and_from _ _ (and_from _ _ n1.good n2.0.good) n2.1;
    })
parents_by (suc (suc (suc n))) h bytes ps rest fits eq = absurd (let lt = ltb-true (suc (suc (suc n))) 3 h in omega arith)

parent_list_ok : (bytes : List ℕ) (ps : List Id) (rest : List ℕ) → IsBytes bytes → parent_list bytes ≡ Ok (ps, rest) → Took bytes ((length ps ∷ []) ++ concat ps) rest × (are_parents ps ≡ true)
parent_list_ok bytes ps rest fits eq =
    let s = bind_ok (number w8 (λ n. nat_lt n 3) bytes) parents (ps, rest) eq in
    let n = byte_ok (λ n. nat_lt n 3) bytes s.0.0 s.0.1 fits s.1 in
    let r = parents_by s.0.0 n.keeps s.0.1 ps rest n.took.left s.2 in
    (took_then bytes (length ps ∷ []) s.0.1 (concat ps) rest (subst (λ m. Took bytes (m ∷ []) s.0.1) (sym r.len) n.took) r.took, r.good)

author_ok : (bytes text rest : List ℕ) → IsBytes bytes → author bytes ≡ Ok (text, rest) → Took bytes (sized w16 text) rest × (is_author text ≡ true)
author_ok bytes text rest fits e =
    let s = with_len_ok w16 (2 ^ 16) wide16 (λ n. nat_lt 0 n && nat_le n 1024) (keeping is_line) bytes text rest fits e in
    let k = keeping_ok is_line s.text text s.seen in
    subst (λ t. Took bytes (sized w16 t) rest × (is_author t ≡ true)) k.1 (s.took, and_from _ _ s.keeps k.0)

message_ok : (bytes text rest : List ℕ) → IsBytes bytes → message bytes ≡ Ok (text, rest) → Took bytes (sized w32 text) rest × (is_message text ≡ true)
message_ok bytes text rest fits e =
    let s = with_len_ok w32 (2 ^ 32) wide32 (λ n. nat_le n 1_048_576) (keeping is_text) bytes text rest fits e in
    let k = keeping_ok is_text s.text text s.seen in
    subst (λ t. Took bytes (sized w32 t) rest × (is_message t ≡ true)) k.1 (s.took, and_from _ _ s.keeps k.0)

-- ---- a changeset

record MessageRead (v : Version) (ps : List Id) (a : List ℕ) (s o : ℤ) (bytes : List ℕ) (c : Changeset) (rest : List ℕ) : Type 0 where
  took : Took bytes (from_message_bytes c) rest
  first : c ≡ put_together v ps a s o c.message c.changes
  good_message : is_message c.message ≡ true
  good_changes : are_changes v (length ps) c.changes ≡ true

from_message_by : (v : Version) (ps : List Id) (a : List ℕ) (s o : ℤ) (b0 b1 b2 : List ℕ) (m : List ℕ) (es : List (Path × FileChange)) (c : Changeset) (rest : List ℕ) → Took b0 (sized w32 m) b1 × (is_message m ≡ true) → Took b1 (to_be_bytes w32 (length es) ++ flat_map (edit_bytes v) es) b2 × (are_changes v (length ps) es ≡ true) → put_together v ps a s o m es ≡ c → b2 ≡ rest → MessageRead v ps a s o b0 c rest
from_message_by v ps a s o b0 b1 b2 m es c rest t1 t2 e r =
    let end = took_then b1 (to_be_bytes w32 (length es) ++ flat_map (edit_bytes v) es) b2 [] b2 t2.0 (took_end b2 t2.0.left) in
    let all = took_then b0 (sized w32 m) b1 (to_be_bytes w32 (length es) ++ (flat_map (edit_bytes v) es ++ [])) b2 t1.0 end in
    subst (λ c. MessageRead v ps a s o b0 c rest) e (record {
      took = subst (λ r. Took b0 (sized w32 m ++ (to_be_bytes w32 (length es) ++ (flat_map (edit_bytes v) es ++ []))) r) r all;
      first = refl;
      good_message = t1.1;
      good_changes = t2.1;
    })

from_message_ok : (v : Version) (ps : List Id) (a : List ℕ) (s o : ℤ) (bytes : List ℕ) (c : Changeset) (rest : List ℕ) → IsBytes bytes → from_message v ps a s o bytes ≡ Ok (c, rest) → MessageRead v ps a s o bytes c rest
from_message_ok v ps a s o bytes c rest fits eq =
    let s1 = bind_ok (message bytes) (λ m. edit_list v (length ps) >>= λ es. value (put_together v ps a s o m es)) (c, rest) eq in
    let m = s1.0.0 in
    let t1 = message_ok bytes m s1.0.1 fits s1.1 in
    let s2 = bind_ok (edit_list v (length ps) s1.0.1) (λ es. value (put_together v ps a s o m es)) (c, rest) s1.2 in
    let es = s2.0.0 in
    let t2 = edit_list_ok v (length ps) s1.0.1 es s2.0.1 t1.0.left s2.1 in
    let last = value_ok (put_together v ps a s o m es) c s2.0.1 rest s2.2 in
    from_message_by v ps a s o bytes s1.0.1 s2.0.1 m es c rest t1 t2 last.0 last.1

record AuthorRead (v : Version) (ps : List Id) (bytes : List ℕ) (c : Changeset) (rest : List ℕ) : Type 0 where
  took : Took bytes (from_author_bytes c) rest
  same_version : c.version ≡ v
  same_parents : c.parents ≡ ps
  good : (is_author c.author && is_signed 64 c.seconds && is_signed 32 c.offset && is_message c.message && are_changes c.version (length c.parents) c.changes) ≡ true

from_author_by : (v : Version) (ps : List Id) (b0 b1 b2 b3 : List ℕ) (a : List ℕ) (s o : ℤ) (c : Changeset) (rest : List ℕ) → Took b0 (sized w16 a) b1 × (is_author a ≡ true) → Took b1 (to_be_bytes w64 (cast_unsigned w64 s)) b2 × (is_signed 64 s ≡ true) → Took b2 (to_be_bytes w32 (cast_unsigned w32 o)) b3 × (is_signed 32 o ≡ true) → MessageRead v ps a s o b3 c rest → AuthorRead v ps b0 c rest
from_author_by v ps b0 b1 b2 b3 a s o c rest t1 t2 t3 m =
    let v-is : c.version ≡ v = ap (λ (c : Changeset). c.version) m.first in
    let ps-is : c.parents ≡ ps = ap (λ (c : Changeset). c.parents) m.first in
    let a-is : a ≡ c.author = ap (λ (c : Changeset). c.author) (sym m.first) in
    let s-is : s ≡ c.seconds = ap (λ (c : Changeset). c.seconds) (sym m.first) in
    let o-is : o ≡ c.offset = ap (λ (c : Changeset). c.offset) (sym m.first) in
    record {
      took = took_then b0 (sized w16 c.author) b1 (to_be_bytes w64 (cast_unsigned w64 c.seconds) ++ (to_be_bytes w32 (cast_unsigned w32 c.offset) ++ from_message_bytes c)) rest (subst (λ a. Took b0 (sized w16 a) b1) a-is t1.0)
          (took_then b1 (to_be_bytes w64 (cast_unsigned w64 c.seconds)) b2 (to_be_bytes w32 (cast_unsigned w32 c.offset) ++ from_message_bytes c) rest (subst (λ s. Took b1 (to_be_bytes w64 (cast_unsigned w64 s)) b2) s-is t2.0)
          (took_then b2 (to_be_bytes w32 (cast_unsigned w32 c.offset)) b3 (from_message_bytes c) rest (subst (λ o. Took b2 (to_be_bytes w32 (cast_unsigned w32 o)) b3) o-is t3.0) m.took));
      same_version = v-is;
      same_parents = ps-is;
      good = and_from _ _ (and_from _ _ (and_from _ _ (and_from _ _ (subst (λ a. is_author a ≡ true) a-is t1.1) (subst (λ s. is_signed 64 s ≡ true) s-is t2.1)) (subst (λ o. is_signed 32 o ≡ true) o-is t3.1)) m.good_message) (subst (λ v. are_changes v (length c.parents) c.changes ≡ true) (sym v-is) (subst (λ ps. are_changes v (length ps) c.changes ≡ true) (sym ps-is) m.good_changes));
    }

from_author_ok : (v : Version) (ps : List Id) (bytes : List ℕ) (c : Changeset) (rest : List ℕ) → IsBytes bytes → from_author v ps bytes ≡ Ok (c, rest) → AuthorRead v ps bytes c rest
from_author_ok v ps bytes c rest fits eq =
    let s1 = bind_ok (author bytes) (λ a. signed w64 >>= λ s. signed w32 >>= λ o. from_message v ps a s o) (c, rest) eq in
    let t1 = author_ok bytes s1.0.0 s1.0.1 fits s1.1 in
    let s2 = bind_ok (signed w64 s1.0.1) (λ s. signed w32 >>= λ o. from_message v ps s1.0.0 s o) (c, rest) s1.2 in
    let t2 = signed_64_ok s1.0.1 s2.0.0 s2.0.1 t1.0.left s2.1 in
    let s3 = bind_ok (signed w32 s2.0.1) (λ o. from_message v ps s1.0.0 s2.0.0 o) (c, rest) s2.2 in
    let t3 = signed_32_ok s2.0.1 s3.0.0 s3.0.1 t2.0.left s3.1 in
    from_author_by v ps bytes s1.0.1 s2.0.1 s3.0.1 s1.0.0 s2.0.0 s3.0.0 c rest t1 t2 t3 (from_message_ok v ps s1.0.0 s2.0.0 s3.0.0 s3.0.1 c rest t3.0.left s3.2)

version_byte-version_of : (n : ℕ) → is_version n ≡ true → version_byte (version_of n) ≡ n
version_byte-version_of n h =
    elim (or_cases (n == 1) (n == 2) h) [
      | inl one ↦ let e = eqb-true n 1 one in subst (λ n. version_byte (version_of n) ≡ n) (sym e) refl
      | inr two ↦ let e = eqb-true n 2 two in subst (λ n. version_byte (version_of n) ≡ n) (sym e) refl
    ]

record ChangesetRead (bytes : List ℕ) (c : Changeset) (rest : List ℕ) : Type 0 where
  took : Took bytes (spelling c) rest
  good : is_changeset c ≡ true

with_parents : (p a s o m e : Bool) → p ≡ true → (a && s && o && m && e) ≡ true → (p && a && s && o && m && e) ≡ true
with_parents p a s o m e h g = (λ i. h i && a && s && o && m && e) ∙ g

changeset_by : (b0 b1 b2 b3 : List ℕ) (n : ℕ) → is_version n ≡ true → (ps : List Id) (c : Changeset) (rest : List ℕ) → Took b0 (0x43 ∷ []) b1 → Took b1 (n ∷ []) b2 → Took b2 ((length ps ∷ []) ++ concat ps) b3 × (are_parents ps ≡ true) → AuthorRead (version_of n) ps b3 c rest → ChangesetRead b0 c rest
changeset_by b0 b1 b2 b3 n known ps c rest t1 t2 t3 a =
    record {
      took = took_then b0 (0x43 ∷ []) b1 ((version_byte c.version ∷ []) ++ (((length c.parents ∷ []) ++ concat c.parents) ++ from_author_bytes c)) rest t1
          (took_then b1 (version_byte c.version ∷ []) b2 (((length c.parents ∷ []) ++ concat c.parents) ++ from_author_bytes c) rest (subst (λ m. Took b1 (m ∷ []) b2) (sym (version_byte-version_of n known) ∙ ap version_byte (sym a.same_version)) t2)
          (took_then b2 ((length c.parents ∷ []) ++ concat c.parents) b3 (from_author_bytes c) rest (subst (λ ps. Took b2 ((length ps ∷ []) ++ concat ps) b3) (sym a.same_parents) t3.0) a.took));
      good = with_parents (are_parents c.parents) (is_author c.author) (is_signed 64 c.seconds) (is_signed 32 c.offset) (is_message c.message) (are_changes c.version (length c.parents) c.changes) (subst (λ ps. are_parents ps ≡ true) (sym a.same_parents) t3.1) a.good;
    }

changeset_ok : (bytes : List ℕ) (c : Changeset) (rest : List ℕ) → IsBytes bytes → changeset bytes ≡ Ok (c, rest) → ChangesetRead bytes c rest
changeset_ok bytes c rest fits eq =
    let s1 = bind_ok (exactly (0x43 ∷ []) bytes) (λ _. number w8 is_version >>= λ v. parent_list >>= from_author (version_of v)) (c, rest) eq in
    let t1 = exactly_ok (0x43 ∷ []) bytes s1.0.0 s1.0.1 fits s1.1 in
    let s2 = bind_ok (number w8 is_version s1.0.1) (λ v. parent_list >>= from_author (version_of v)) (c, rest) s1.2 in
    let t2 = byte_ok is_version s1.0.1 s2.0.0 s2.0.1 t1.left s2.1 in
    let s3 = bind_ok (parent_list s2.0.1) (from_author (version_of s2.0.0)) (c, rest) s2.2 in
    let t3 = parent_list_ok s2.0.1 s3.0.0 s3.0.1 t2.took.left s3.1 in
    changeset_by bytes s1.0.1 s2.0.1 s3.0.1 s2.0.0 t2.keeps s3.0.0 c rest t1 t2.took t3 (from_author_ok (version_of s2.0.0) s3.0.0 s3.0.1 c rest t3.0.left s3.2)

pub whole_ok : {A : Type 0} (n : ℕ) (o : Result (A × List ℕ) ℕ) (x : A) → whole n o ≡ Ok x → o ≡ Ok (x, [])
whole_ok n (Ok (x, [])) y e = ap (λ x. Ok (x, [])) (ok_is x y e)
whole_ok n (Ok (x, b ∷ left)) y e = absurd cc
whole_ok n (Err left) y e = absurd cc

-- what is read is spelled so, each byte of it
pub read_spells : (bytes : List ℕ) (c : Changeset) → IsBytes bytes → read changeset bytes ≡ Ok c → (is_changeset c ≡ true) × (bytes ≡ spelling c)
read_spells bytes c fits e =
    let r = changeset_ok bytes c [] fits (whole_ok (length bytes) (changeset bytes) c e) in
    (r.good, r.took.parts ∙ append-nil (spelling c))

-- Bytes are read as a changeset exactly where they spell it.
pub read_exactly : (bytes : List ℕ) (c : Changeset) → IsBytes bytes → ((read changeset bytes ≡ Ok c) ↔ Spells c bytes)
read_exactly bytes c fits = (read_spells bytes c fits, λ s. ap (read changeset) s.1 ∙ read-spelling c s.0)

accepted_by : (c : Changeset) (o : Option (Path × Path)) → without_conflict c o ≡ Ok c → o ≡ None
accepted_by c None e = refl
accepted_by c (Some pair) e = absurd cc

same_changeset : (c d : Changeset) (o : Option (Path × Path)) → without_conflict c o ≡ Ok d → c ≡ d
same_changeset c d None e = cc
same_changeset c d (Some pair) e = absurd cc

abbrev IsAccepted : Changeset → List ℕ → Type 0
IsAccepted c bytes = (length bytes ≤ most_encoded) × Spells c bytes × (self_conflict c ≡ None)

in_order_ok : (bytes : List ℕ) (c : Changeset) → IsBytes bytes → (r : Result Changeset ℕ) → read changeset bytes ≡ r → in_order r ≡ Ok c → Spells c bytes × (self_conflict c ≡ None)
in_order_ok bytes c fits (Ok d) r e =
    let same = same_changeset d c (self_conflict d) e in
    let reads : read changeset bytes ≡ Ok c = r ∙ ap (λ x. Ok x) same in
    ((read_exactly bytes c fits).0 reads, accepted_by c (self_conflict c) (subst (λ x. without_conflict x (self_conflict x) ≡ Ok c) same e))
in_order_ok bytes c fits (Err n) r e = absurd cc

decoded_by : (bytes : List ℕ) (c : Changeset) → IsBytes bytes → (b : Bool) → nat_lt most_encoded (length bytes) ≡ b → cond b (Err (TooLong (length bytes))) (in_order (read changeset bytes)) ≡ Ok c → IsAccepted c bytes
decoded_by bytes c fits true h e = absurd cc
decoded_by bytes c fits false h e = let rest = in_order_ok bytes c fits (read changeset bytes) refl e in (ltb-false most_encoded (length bytes) h, rest.0, rest.1)

accepts : (bytes : List ℕ) (c : Changeset) → IsAccepted c bytes → decoded bytes ≡ Ok c
accepts bytes c h =
    (λ i. cond (le-ltb most_encoded (length bytes) h.0 i) (Err (TooLong (length bytes))) (in_order (read changeset bytes)))
    ∙ ap in_order (ap (read changeset) h.1.1 ∙ read-spelling c h.1.0)
    ∙ ap (without_conflict c) h.2

-- An upload is accepted exactly where it isn't too long, spells a changeset, and that has no self-conflict.
pub accepted_exactly : (bytes : List ℕ) (c : Changeset) → IsBytes bytes → ((decoded bytes ≡ Ok c) ↔ ((length bytes ≤ most_encoded) × Spells c bytes × (self_conflict c ≡ None)))
accepted_exactly bytes c fits = (decoded_by bytes c fits (nat_lt most_encoded (length bytes)) refl, accepts bytes c)
