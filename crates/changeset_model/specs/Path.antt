-- Paths in a tree.
--     Path      a path is its list of elements, each a text. The root directory is the empty list
--     text_of p, elements text      the elements with a slash between each two, and back
--     path_cmp p q      element by element, each by its bytes, a shorter list first: `a/b` is less than `a.b`
--     is_prefix p q, is_strict_prefix p q      q begins with the elements of p, and for the second goes on
--     comparable p q      one is a prefix of the other, or they are equal
--     is_path p      a path that may stand in a changeset;  path_fault text      where a text first breaks the rules of one
--     rising ps      the paths in order, each once;  IsRising ps      each is less than all that follow it
use Rattle.std.specs.Prelude.{◌≡◌, ℕ, ◌+◌, Bool, true, false, not, ◌&&◌, ◌||◌, ◌==◌, nat_lt, nat_le, if◌then◌else◌, List, [], ◌∷◌, length, bytes_eq, Option, None, Some}
use Rattle.std.specs.List.{AllByRecursion, list_all, join_with_byte, onto_first}
use Rattle.std.specs.declared.cmp.Ordering.{Ordering}
use Rattle.std.specs.Ordering.{is_lt, nat_cmp}
use Rattle.std.specs.Cmp.Lexicographic.{pointwise, slice_cmp}
use Rattle.std.specs.FinMap.Entries.{by_order}
use Rattle.byte_fields.specs.Bytes.{is_line}

abbrev pub Path : Type 0
Path = List (List ℕ)

abbrev pub text_of : Path → List ℕ
text_of p = join_with_byte 0x2F p

-- an empty text has one empty element, as `a//b` has three
abbrev pub elements : List ℕ → Path
elements [] = [] ∷ []
elements (b ∷ bytes) = if b == 0x2F then [] ∷ elements bytes else onto_first b (elements bytes)

abbrev pub path_cmp : Path → Path → Ordering
path_cmp = slice_cmp (slice_cmp nat_cmp)

abbrev pub path_lt : Path → Path → Bool
path_lt p q = is_lt (path_cmp p q)

abbrev pub path_eq : Path → Path → Bool
path_eq = pointwise bytes_eq

abbrev pub is_prefix : Path → Path → Bool
is_prefix [] q = true
is_prefix (e ∷ p) [] = false
is_prefix (e ∷ p) (f ∷ q) = bytes_eq e f && is_prefix p q

abbrev pub is_strict_prefix : Path → Path → Bool
is_strict_prefix p q = is_prefix p q && nat_lt (length p) (length q)

abbrev pub comparable : Path → Path → Bool
comparable p q = is_prefix p q || is_prefix q p

-- an element, which is also a name in a directory: 1 to 255 bytes of UTF-8 without the bytes 00 and 0A and the slash, and not `.` or `..`
abbrev pub is_element : List ℕ → Bool
is_element e =
    nat_lt 0 (length e) && nat_le (length e) 255 && is_line e && list_all (λ b. not (b == 0x2F)) e
    && not (bytes_eq e (0x2E ∷ [])) && not (bytes_eq e (0x2E ∷ 0x2E ∷ []))

-- one element or more, and 1 to 4,096 bytes in all
abbrev pub is_path : Path → Bool
is_path p = nat_lt 0 (length p) && list_all is_element p && nat_le (length (text_of p)) 4096

-- where the first element that breaks the rule begins, if the elements begin at this place of a text
abbrev pub element_fault : ℕ → Path → Option ℕ
element_fault at [] = None
element_fault at (e ∷ p) = if is_element e then element_fault (at + length e + 1) p else Some at

-- a text that is too long has its fault at 4,096, also where an element breaks the rule before it. An empty text has it at 0
abbrev pub path_fault : List ℕ → Option ℕ
path_fault text = if nat_lt 4096 (length text) then Some 4096 else element_fault 0 (elements text)

abbrev pub IsRising : List Path → Type 0
IsRising [] = Unit {0}
IsRising (p ∷ ps) = AllByRecursion (λ q. path_lt p q ≡ true) ps × IsRising ps

-- the path in its place among paths in order, once
abbrev pub in_place : Path → List Path → List Path
in_place p [] = p ∷ []
in_place p (q ∷ qs) = by_order (path_cmp p q) (p ∷ q ∷ qs) (q ∷ qs) (q ∷ in_place p qs)

abbrev pub rising : List Path → List Path
rising [] = []
rising (p ∷ ps) = in_place p (rising ps)
