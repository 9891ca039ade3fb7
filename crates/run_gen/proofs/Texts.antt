-- The texts of a load keep the rules of changesets.
use Rattle.std.proofs.Common.{◌≡◌, ℕ, ◌^◌, ◌<◌, ◌≤◌, true, false, ◌&&◌, List, [], ◌∷◌, ◌++◌, length, refl, sym, ap, ◌∙◌, arith, length-append}
use Rattle.std.specs.Prelude.{codes, decimal}
use Rattle.std.specs.Fmt.{digits}
use Rattle.std.specs.Str.{is_utf8, IsUtf8, chars}
use Rattle.std.proofs.lemmas.Bool.{agree_below_at, and_from, le-leb, both_ways}
use Rattle.std.proofs.lemmas.Fmt.{IsAscii-decimal, length-decimal-le}
use Rattle.std.proofs.lemmas.Str.{IsUtf8-append, IsUtf8-from_ascii, IsUtf8-from_is_utf8, is_utf8-from_IsUtf8}
use Rattle.changeset_model.specs.Path.{elements, is_element, is_path, text_of}
use Rattle.changeset_model.specs.Changeset.{is_author, is_message}
use Rattle.changeset_model.proofs.Spelling.{elements-text_of}
use Rattle.run_gen.specs.Stacks.{client_name, message_of, path_of}
use Rattle.run_gen.specs.declared.part.Part.{Part}

-- ---- names that are told one by one

client_elements : (c : ℕ) → c < 8 → is_element (client_name c) ≡ true
unfolding is_utf8 chars lib.Utf8.encode digits
client_elements c h = agree_below_at (λ c. is_element (client_name c)) (λ _. true) 8 c refl h

directory_elements : (d : ℕ) → d < 8 → is_element (codes "d" ++ decimal d) ≡ true
unfolding is_utf8 chars lib.Utf8.encode digits
directory_elements d h = agree_below_at (λ d. is_element (codes "d" ++ decimal d)) (λ _. true) 8 d refl h

file_elements : (f : ℕ) → f < 32 → is_element (codes "f" ++ decimal f) ≡ true
unfolding is_utf8 chars lib.Utf8.encode digits
file_elements f h = agree_below_at (λ f. is_element (codes "f" ++ decimal f)) (λ _. true) 32 f refl h

pub clients_are_authors : (c : ℕ) → c < 8 → is_author (client_name c) ≡ true
unfolding is_utf8 chars lib.Utf8.encode digits
clients_are_authors c h = agree_below_at (λ c. is_author (client_name c)) (λ _. true) 8 c refl h

-- ---- paths

module _ (c : ℕ) (p : Part) (client : c < 8) (directory : p.directory < 8) (file : p.file < 32) where
  path_short : length (text_of (path_of c p)) ≤ 4096
  path_short = omega (
    arith,
    length-append (client_name c) (0x2F ∷ ((codes "d" ++ decimal p.directory) ++ 0x2F ∷ (codes "f" ++ decimal p.file))),
    length-append (codes "d" ++ decimal p.directory) (0x2F ∷ (codes "f" ++ decimal p.file)),
    length-decimal-le 1 c (omega arith) (omega arith) (omega arith),
    length-decimal-le 1 p.directory (omega arith) (omega arith) (omega arith),
    length-decimal-le 2 p.file (omega arith) (omega arith) (omega arith),
  )

  path_elements : (is_element (client_name c) && (is_element (codes "d" ++ decimal p.directory) && (is_element (codes "f" ++ decimal p.file) && true))) ≡ true
  path_elements = and_from _ _ (client_elements c client) (and_from _ _ (directory_elements p.directory directory) (and_from _ _ (file_elements p.file file) refl))

  pub path_keeps : is_path (path_of c p) ≡ true
  path_keeps = and_from _ _ path_elements (le-leb (length (text_of (path_of c p))) 4096 path_short)

  pub path_again : elements (text_of (path_of c p)) ≡ path_of c p
  path_again = elements-text_of (client_name c) ((codes "d" ++ decimal p.directory) ∷ (codes "f" ++ decimal p.file) ∷ []) path_elements

  pub never_bad : (text : List ℕ) → text ≡ text_of (path_of c p) → is_path (elements text) ≡ false → ⊥
  never_bad text is bad = both_ways (is_path (path_of c p)) (sym (ap is_path (ap elements is ∙ path_again)) ∙ bad) path_keeps

-- ---- messages

stack_word : is_utf8 (codes "stack ") ≡ true
unfolding is_utf8 chars lib.Utf8.encode
stack_word = refl

part_word : is_utf8 (codes " part ") ≡ true
unfolding is_utf8 chars lib.Utf8.encode
part_word = refl

number_text : (n : ℕ) → n < 2 ^ 64 → IsUtf8 (decimal n)
number_text n h = IsUtf8-from_ascii (decimal n) (IsAscii-decimal n h)

message_text : (j k : ℕ) → j < 2 ^ 64 → k < 2 ^ 64 → IsUtf8 (message_of j k)
message_text j k hj hk =
    IsUtf8-append (codes "stack ") (decimal j ++ (codes " part " ++ decimal k)) (IsUtf8-from_is_utf8 (codes "stack ") stack_word)
    (IsUtf8-append (decimal j) (codes " part " ++ decimal k) (number_text j hj) (IsUtf8-append (codes " part ") (decimal k) (IsUtf8-from_is_utf8 (codes " part ") part_word) (number_text k hk)))

message_short : (j k : ℕ) → j < 2 ^ 64 → k < 2 ^ 64 → length (message_of j k) ≤ 1_048_576
message_short j k hj hk = omega (
  arith,
  length-append (decimal j) (codes " part " ++ decimal k),
  length-decimal-le 20 j (omega arith) (omega arith) hj,
  length-decimal-le 20 k (omega arith) (omega arith) hk,
)

pub messages_keep : (j k : ℕ) → j < 2 ^ 64 → k < 2 ^ 64 → is_message (message_of j k) ≡ true
messages_keep j k hj hk = and_from _ _ (le-leb (length (message_of j k)) 1_048_576 (message_short j k hj hk)) (is_utf8-from_IsUtf8 (message_of j k) (message_text j k hj hk))
