-- What the words of a command line ask the program for. A word is a list of bytes, and its first word is the program's
-- name.
use Rattle.std.specs.Prelude.{ℕ, Bool, ◌==◌, ◌&&◌, ◌||◌, not, nat_le, nat_lt, if◌then◌else◌, List, [], ◌∷◌}
use Rattle.std.specs.Prelude.{Option, Some, None, option_and_then, option_map, codes, drop, length, slice_get, slice_index}
use Rattle.std.specs.Char.{is_ascii_digit}
use Rattle.std.specs.List.{list_all}
use Rattle.std.specs.Str.{bytes_eq, chars}
use Rattle.std.specs.Str.Parse.{digits_value}

abbrev pub Text : Type 0
Text = List ℕ

-- a command, with the numbers that its words write
pub data Request : Type 0 where
  init : Text → ℕ → Request
  session : Text → Request
  serve : Text → Text → ℕ → ℕ → ℕ → Request
  fsck : Text → Request
  migrate : Text → Text → Request
  gen : ℕ → ℕ → ℕ → Request
  follow : Text → Text → Request
  help : Request
  version : Request

-- ---- flags

-- what a word is where no `--` stands before it
pub data Part : Type 0 where
  a_value : Part
  an_escape : Part
  asks_help : Part
  asks_version : Part
  a_wrong_flag : Part

-- a flag by what follows its two hyphens (45)
abbrev pub long_flag : Text → Part
long_flag name = if bytes_eq name (codes "help") then asks_help
    else (if bytes_eq name (codes "version") then asks_version else a_wrong_flag)

-- a flag by the first character after its one hyphen: `h` is 104 and `V` is 86
abbrev pub short_flag : Option ℕ → Part
short_flag None = a_value
short_flag (Some x) = if x == 104 then asks_help else (if x == 86 then asks_version else a_wrong_flag)

abbrev pub after_two_hyphens : Text → Part
after_two_hyphens [] = an_escape
after_two_hyphens (x ∷ rest) = long_flag (x ∷ rest)

abbrev pub after_hyphen : Text → Part
after_hyphen [] = a_value
after_hyphen (x ∷ rest) =
    if x == 45 then after_two_hyphens rest else short_flag (slice_get (chars (x ∷ rest)) 0)

abbrev pub part_of : Text → Part
part_of [] = a_value
part_of (x ∷ rest) = if x == 45 then after_hyphen rest else a_value

-- what the words after the program's name are: values alone, or a call for help or for the version at the first flag,
-- or they have a wrong flag first
pub data Arguments : Type 0 where
  values : List Text → Arguments
  for_help : Arguments
  for_version : Arguments
  wrong : Arguments

abbrev pub with_value : Text → Arguments → Arguments
with_value word (values more) = values (word ∷ more)
with_value word for_help = for_help
with_value word for_version = for_version
with_value word wrong = wrong

-- a word of this kind, the words after it, and what those are
abbrev pub after_part : Part → Text → List Text → Arguments → Arguments
after_part a_value word rest more = with_value word more
after_part an_escape word rest more = values rest
after_part asks_help word rest more = for_help
after_part asks_version word rest more = for_version
after_part a_wrong_flag word rest more = wrong

unfoldable pub arguments_of : List Text → Arguments
arguments_of [] = values []
arguments_of (word ∷ rest) = after_part (part_of word) word rest (arguments_of rest)

-- ---- numbers

-- decimal digits, without a sign or a leading zero (48)
abbrev pub is_numeral : Text → Bool
is_numeral text = nat_lt 0 (length text) && (list_all is_ascii_digit text
    && (length text == 1 || not (slice_index text 0 == 48)))

abbrev pub number_between : ℕ → ℕ → Text → Option ℕ
number_between least most text =
    if is_numeral text && (nat_le least (digits_value 10 text) && nat_le (digits_value 10 text) most)
    then Some (digits_value 10 text) else None

-- ---- commands, by the words after their names

abbrev pub init_of : List Text → Option Request
init_of (file ∷ capacity ∷ []) = option_map (init file) (number_between 4096 34359738368 capacity)
init_of _ = None

abbrev pub session_of : List Text → Option Request
session_of (file ∷ []) = Some (session file)
session_of _ = None

abbrev pub serve_of : List Text → Option Request
serve_of (file ∷ address ∷ lanes ∷ derivers ∷ connections ∷ []) =
    option_and_then (λ l. option_and_then (λ d. option_map (serve file address l d)
    (number_between 1 1000000000000000 connections)) (number_between 0 8 derivers)) (number_between 1 4096 lanes)
serve_of _ = None

abbrev pub fsck_of : List Text → Option Request
fsck_of (file ∷ []) = Some (fsck file)
fsck_of _ = None

abbrev pub migrate_of : List Text → Option Request
migrate_of (old ∷ new ∷ []) = Some (migrate old new)
migrate_of _ = None

abbrev pub gen_of : List Text → Option Request
gen_of (seed ∷ stacks ∷ clients ∷ []) =
    option_and_then (λ s. option_and_then (λ k. option_map (gen s k)
    (number_between 1 8 clients)) (number_between 1 400 stacks)) (number_between 0 4294967295 seed)
gen_of _ = None

abbrev pub follow_of : List Text → Option Request
follow_of (file ∷ address ∷ []) = Some (follow file address)
follow_of _ = None

abbrev pub request_of : List Text → Option Request
request_of [] = None
request_of (name ∷ rest) = if bytes_eq name (codes "init") then init_of rest
    else (if bytes_eq name (codes "session") then session_of rest
    else (if bytes_eq name (codes "serve") then serve_of rest
    else (if bytes_eq name (codes "fsck") then fsck_of rest
    else (if bytes_eq name (codes "migrate") then migrate_of rest
    else (if bytes_eq name (codes "gen") then gen_of rest
    else (if bytes_eq name (codes "follow") then follow_of rest else None))))))

abbrev pub asked : Arguments → Option Request
asked (values words) = request_of words
asked for_help = Some help
asked for_version = Some version
asked wrong = None

-- what the words of a command line, of which the first is the program's name, ask for
abbrev pub command_of : List Text → Option Request
command_of words = asked (arguments_of (drop 1 words))
