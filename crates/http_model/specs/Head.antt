-- What a request head asks for: how long its body is, whether the session ends after it, and why it may be refused.
--     Head      the parts of a head, and its headers as names and values
--     IsHead bytes head      the bytes are this whole head, by the grammar of httparse
--     values_of name head      the values of the headers of this name, in any case
--     path_of target      the target before any '?'
--     body_length lengths      what the Content-Length headers say
--     caller_of head      what the Caller headers say
--     closes head      the session ends after it
--     refusal_of head      the first test that the head fails, if it fails any
use Rattle.std.specs.Prelude.{◌≡◌, ℕ, Bool, true, false, not, ◌&&◌, ◌||◌, ◌==◌, nat_lt, if◌then◌else◌, List, [], ◌∷◌, length, map, filter, take_while, bytes_eq, codes, Option, None, Some}
use Rattle.std.specs.List.{list_all, list_any}
use Rattle.std.specs.Char.{is_ascii_digit}
use Rattle.std.specs.Str.{str_eq_ignore_ascii_case}
use Rattle.std.specs.Str.Parse.{digits_value}
use Rattle.httparse.specs.Ascii.{comma}
use Rattle.httparse.specs.Grammar.{RequestHead, ReadsRequest, trim_ows}
use Rattle.httparse.specs.Spans.{name_and_value}
use Rattle.http_model.specs.declared.head_refusal.HeadRefusal.{HeadRefusal}
use Rattle.http_model.specs.declared.head_refusal.HeadRefusal.TheVariants.{TooManyHeaders, TransferEncoding, BadLength, NoLength, BodyTooLarge}

-- a name, and a value without the blanks round it
abbrev pub Header : Type 0
Header = List ℕ × List ℕ

pub record Head : Type 0 where
  pub method : List ℕ
  pub target : List ℕ
  pub minor : ℕ
  pub headers : List Header

abbrev pub head_of : RequestHead → Head
head_of tree = record { method = tree.method; target = tree.target; minor = tree.minor; headers = map name_and_value tree.fields }

abbrev pub IsHead : List ℕ → Head → Type 0
IsHead bytes head = (tree : RequestHead) × ReadsRequest bytes tree [] × (head_of tree ≡ head)

-- these bytes are no whole head
abbrev pub IsNoHead : List ℕ → Type 0
IsNoHead bytes = (tree : RequestHead) → ¬ (ReadsRequest bytes tree [])

abbrev pub is_named : List ℕ → Header → Bool
is_named name h = str_eq_ignore_ascii_case h.0 name

abbrev pub values_of : List ℕ → List Header → List (List ℕ)
values_of name headers = map (λ h. h.1) (filter (is_named name) headers)

-- ---- the body

abbrev pub lengths_of : Head → List (List ℕ)
lengths_of head = values_of (codes "content-length") head.headers

abbrev pub is_decimal : List ℕ → Bool
is_decimal text = nat_lt 0 (length text) && list_all is_ascii_digit text

-- at most one length is given, and it is a decimal number
abbrev pub are_one_length : List (List ℕ) → Bool
are_one_length [] = true
are_one_length (text ∷ []) = is_decimal text
are_one_length (text ∷ other ∷ more) = false

abbrev pub body_length : List (List ℕ) → ℕ
body_length [] = 0
body_length (text ∷ more) = digits_value 10 text

abbrev pub has_none : List (List ℕ) → Bool
has_none [] = true
has_none (text ∷ more) = false

abbrev pub path_of : List ℕ → List ℕ
path_of target = take_while (λ b. not (b == 63)) target

abbrev pub stores_bodies : List ℕ → Bool
stores_bodies path = bytes_eq path (codes "/content") || bytes_eq path (codes "/changeset") || bytes_eq path (codes "/whole") || bytes_eq path (codes "/policy")

-- a request that stores its body: it has to say how long that is
abbrev pub stores_its_body : Head → Bool
stores_its_body head = bytes_eq head.method (codes "PUT") && stores_bodies (path_of head.target)

-- ---- who asks

-- no header of the name, one with this value, or several
pub data CallerField : Type 0 where
  Absent : CallerField
  Given : (value : List ℕ) → CallerField
  Several : CallerField

abbrev pub caller_in : List (List ℕ) → CallerField
caller_in [] = Absent
caller_in (value ∷ []) = Given value
caller_in (value ∷ other ∷ more) = Several

abbrev pub caller_of : Head → CallerField
caller_of head = caller_in (values_of (codes "caller") head.headers)

-- ---- the end of the session

-- the elements, with a byte put before the first
abbrev pub cons_first : ℕ → List (List ℕ) → List (List ℕ)
cons_first b [] = (b ∷ []) ∷ []
cons_first b (element ∷ more) = (b ∷ element) ∷ more

-- the elements of a comma list, with the blanks round them
abbrev pub elements : List ℕ → List (List ℕ)
elements [] = [] ∷ []
elements (b ∷ bytes) = let more = elements bytes in if b == comma then [] ∷ more else cons_first b more

abbrev pub is_close : List ℕ → Bool
is_close element = str_eq_ignore_ascii_case (trim_ows element) (codes "close")

-- a comma list has the element 'close'
abbrev pub names_close : List ℕ → Bool
names_close value = list_any is_close (elements value)

-- HTTP/1.0, or a Connection header that names 'close' (RFC 9112, section 9.6)
abbrev pub closes : Head → Bool
closes head = (head.minor == 0) || list_any names_close (values_of (codes "connection") head.headers)

-- ---- refusals

abbrev pub most_headers : ℕ
most_headers = 64

abbrev pub most_body : ℕ
most_body = 1048576

-- The tests in their order: the first that applies is the refusal.
abbrev pub refusal_of : Head → Option HeadRefusal
refusal_of head =
    if nat_lt most_headers (length head.headers) then Some TooManyHeaders
    else (if list_any (is_named (codes "transfer-encoding")) head.headers then Some TransferEncoding
    else (if not (are_one_length (lengths_of head)) then Some BadLength
    else (if stores_its_body head && has_none (lengths_of head) then Some NoLength
    else (if nat_lt most_body (body_length (lengths_of head)) then Some BodyTooLarge
    else None))))
