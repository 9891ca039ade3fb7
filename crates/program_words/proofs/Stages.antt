-- How the parser walks over the words: what it holds after some values, and what one more word does.
use Rattle.std.proofs.Common.{◌≡◌, ◌<◌, ℕ, length, Bool, true, false, List, [], ◌∷◌, ◌++◌, Option, Some, None, refl, ◌⊎◌, inl, inr, arith, codes}
use Rattle.std.specs.Prelude.{◌==◌, slice_get, bytes_eq}
use Rattle.std.specs.Str.{chars}
use Rattle.clap.specs.Lexer.{long_of, short_of}
use Rattle.clap.specs.Kinds.{Kinds}
use Rattle.clap.specs.Walk.{Held, Row, Waiting, Walk, idle, nothing_held, positional, walked}
use Rattle.clap.specs.Walk.{bundle_met}
use Rattle.clap.specs.Simple.{Shape, built}
use Rattle.clap.specs.Faults.{flags_fault, turn_fault}
use Rattle.clap.specs.declared.builder.value_parser.Reading.TheVariants as reading
use Rattle.clap.specs.declared.parser.matches.ValueSource.TheVariants.{CommandLine}
use Rattle.clap.specs.declared.error.kind.ErrorKind.TheVariants as kind
use Rattle.program_words.specs.Line.{line}
use Rattle.program_words.specs.Words.{Part, Text, a_value, a_wrong_flag, an_escape, asks_help, asks_version}

-- the line as the parser builds it
abbrev pub shape : Shape
shape = (built line).top

-- no value yet, or values with a last one that is still pending
pub data Stage : Type 0 where
  none_yet : Stage
  some : List Text → Text → Stage

abbrev pub values_at : Stage → List Text
values_at none_yet = []
values_at (some vs v) = vs ++ v ∷ []

abbrev pub pushed_on : Stage → Text → Stage
pushed_on none_yet w = some [] w
pushed_on (some vs v) w = some (vs ++ v ∷ []) w

abbrev pub row : List Text → Row
row vs = record {
  id = codes "words";
  values = vs;
  count = None;
  source = Some CommandLine;
  reading = reading.AsWritten;
}

abbrev pub rows_for : List Text → List Row
rows_for [] = []
rows_for (v ∷ vs) = row (v ∷ vs) ∷ []

abbrev pub held_at : Stage → Held
held_at none_yet = nothing_held
held_at (some vs v) = record { rows = rows_for vs; pending = Some (codes "words", v ∷ []); skip = 0 }

abbrev pub waiting_at : Stage → Waiting
waiting_at none_yet = idle
waiting_at (some vs v) = positional

abbrev pub walk_at : Bool → Stage → Walk
walk_at b at = record {
  held = held_at at;
  waiting = waiting_at at;
  position = 1;
  is_trailing = b;
  stopped = None;
}

abbrev pub turn : Bool → Stage → Text → Kinds
turn b at w = turn_fault shape [] (walk_at b at) w

abbrev pub next : Bool → Stage → Text → Walk
next b at w = walked shape.rules [] (walk_at b at) w

-- what a word of this kind does
abbrev pub Does : Part → Stage → Text → Type 0
Does a_value at w = (turn false at w ≡ []) × (next false at w ≡ walk_at false (pushed_on at w))
Does an_escape at w = (turn false at w ≡ []) × (next false at w ≡ walk_at true at)
Does asks_help at w = turn false at w ≡ kind.DisplayHelp ∷ []
Does asks_version at w = turn false at w ≡ kind.DisplayVersion ∷ []
Does a_wrong_flag at w = (turn false at w ≡ kind.UnknownArgument ∷ []) ⊎ (turn false at w ≡ kind.TooManyValues ∷ [])

-- a word after `--`
pub trails : (at : Stage) (w : Text) → (turn true at w ≡ []) × (next true at w ≡ walk_at true (pushed_on at w))
unfolding walked
trails none_yet w = (refl, refl)
trails (some [] v) w = (refl, refl)
trails (some (u ∷ us) v) w = (refl, refl)

pub no_word : (at : Stage) → Does a_value at []
unfolding walked
no_word none_yet = (refl, refl)
no_word (some [] v) = (refl, refl)
no_word (some (u ∷ us) v) = (refl, refl)

no_long : (x : ℕ) (rest : Text) → (x == 45) ≡ false → long_of (x ∷ rest) ≡ None
no_long x rest e = rw e refl

no_short : (x : ℕ) (rest : Text) → (x == 45) ≡ false → short_of (x ∷ rest) ≡ None
no_short x rest e = rw e refl

no_dashes : (x : ℕ) (rest : Text) → (x == 45) ≡ false → bytes_eq (x ∷ rest) (45 ∷ 45 ∷ []) ≡ false
no_dashes x rest e = rw e refl

-- a word that is no flag and no `--`
pub plain_word : (at : Stage) (w : Text) → bytes_eq w (45 ∷ 45 ∷ []) ≡ false → long_of w ≡ None → short_of w ≡ None → Does a_value at w
unfolding walked
plain_word none_yet w dashes long short = rw (dashes, long, short) (refl, refl)
plain_word (some [] v) w dashes long short = rw (dashes, long, short) (refl, refl)
plain_word (some (u ∷ us) v) w dashes long short = rw (dashes, long, short) (refl, refl)

-- `-` alone
pub hyphen : (at : Stage) → Does a_value at (45 ∷ [])
hyphen at = plain_word at (45 ∷ []) refl refl refl

-- `--` alone
pub escape : (at : Stage) → Does an_escape at (45 ∷ 45 ∷ [])
unfolding walked
escape none_yet = (refl, refl)
escape (some [] v) = (refl, refl)
escape (some (u ∷ us) v) = (refl, refl)

-- a word with one hyphen and characters after it
pub short_nothing : (at : Stage) (w flags : Text) → bytes_eq w (45 ∷ 45 ∷ []) ≡ false → long_of w ≡ None → short_of w ≡ Some flags → slice_get (chars flags) 0 ≡ None → Does a_value at w
unfolding walked bundle_met flags_fault
short_nothing none_yet w [] dashes long short none = rw (dashes, long, short) (refl, refl)
short_nothing none_yet w (f ∷ fs) dashes long short none = rw (dashes, long, short, none) (refl, refl)
short_nothing (some [] v) w [] dashes long short none = rw (dashes, long, short) (refl, refl)
short_nothing (some [] v) w (f ∷ fs) dashes long short none = rw (dashes, long, short, none) (refl, refl)
short_nothing (some (u ∷ us) v) w [] dashes long short none = rw (dashes, long, short) (refl, refl)
short_nothing (some (u ∷ us) v) w (f ∷ fs) dashes long short none = rw (dashes, long, short, none) (refl, refl)

pub short_help : (at : Stage) (w flags : Text) → bytes_eq w (45 ∷ 45 ∷ []) ≡ false → long_of w ≡ None → short_of w ≡ Some flags → slice_get (chars flags) 0 ≡ Some 104 → 0 < length flags → Does asks_help at w
unfolding bundle_met flags_fault
short_help at w [] dashes long short first more = absurd (omega arith)
short_help none_yet w (f ∷ fs) dashes long short first more = rw (dashes, long, short, first) refl
short_help (some [] v) w (f ∷ fs) dashes long short first more = rw (dashes, long, short, first) refl
short_help (some (u ∷ us) v) w (f ∷ fs) dashes long short first more = rw (dashes, long, short, first) refl

pub short_version : (at : Stage) (w flags : Text) → bytes_eq w (45 ∷ 45 ∷ []) ≡ false → long_of w ≡ None → short_of w ≡ Some flags → slice_get (chars flags) 0 ≡ Some 86 → 0 < length flags → Does asks_version at w
unfolding bundle_met flags_fault
short_version at w [] dashes long short first more = absurd (omega arith)
short_version none_yet w (f ∷ fs) dashes long short first more = rw (dashes, long, short, first) refl
short_version (some [] v) w (f ∷ fs) dashes long short first more = rw (dashes, long, short, first) refl
short_version (some (u ∷ us) v) w (f ∷ fs) dashes long short first more = rw (dashes, long, short, first) refl

pub short_wrong : (at : Stage) (w flags : Text) (x : ℕ) → bytes_eq w (45 ∷ 45 ∷ []) ≡ false → long_of w ≡ None → short_of w ≡ Some flags → slice_get (chars flags) 0 ≡ Some x → 0 < length flags
    → (104 == x) ≡ false → (86 == x) ≡ false → Does a_wrong_flag at w
unfolding bundle_met flags_fault
short_wrong at w [] x dashes long short first more h v = absurd (omega arith)
short_wrong none_yet w (f ∷ fs) x dashes long short first more h v = rw (dashes, long, short, first, h, v) (inl refl)
short_wrong (some [] u) w (f ∷ fs) x dashes long short first more h v = rw (dashes, long, short, first, h, v) (inl refl)
short_wrong (some (t ∷ ts) u) w (f ∷ fs) x dashes long short first more h v = rw (dashes, long, short, first, h, v) (inl refl)

-- a word with two hyphens and a name after them
pub long_help : (at : Stage) → Does asks_help at (codes "--help")
long_help none_yet = refl
long_help (some [] v) = refl
long_help (some (u ∷ us) v) = refl

pub long_version : (at : Stage) → Does asks_version at (codes "--version")
long_version none_yet = refl
long_version (some [] v) = refl
long_version (some (u ∷ us) v) = refl

pub long_unknown : (at : Stage) (w name : Text) (value : Option Text) → bytes_eq w (45 ∷ 45 ∷ []) ≡ false → long_of w ≡ Some (name, value)
    → bytes_eq (codes "help") name ≡ false → bytes_eq (codes "version") name ≡ false → Does a_wrong_flag at w
long_unknown none_yet w name value dashes long h v = rw (dashes, long, h, v) (inl refl)
long_unknown (some [] u) w name value dashes long h v = rw (dashes, long, h, v) (inl refl)
long_unknown (some (t ∷ ts) u) w name value dashes long h v = rw (dashes, long, h, v) (inl refl)

pub long_help_of : (at : Stage) (w name value : Text) → bytes_eq w (45 ∷ 45 ∷ []) ≡ false → long_of w ≡ Some (name, Some value) → bytes_eq (codes "help") name ≡ true → Does a_wrong_flag at w
long_help_of none_yet w name value dashes long h = rw (dashes, long, h) (inr refl)
long_help_of (some [] u) w name value dashes long h = rw (dashes, long, h) (inr refl)
long_help_of (some (t ∷ ts) u) w name value dashes long h = rw (dashes, long, h) (inr refl)

pub long_version_of : (at : Stage) (w name value : Text) → bytes_eq w (45 ∷ 45 ∷ []) ≡ false → long_of w ≡ Some (name, Some value)
    → bytes_eq (codes "help") name ≡ false → bytes_eq (codes "version") name ≡ true → Does a_wrong_flag at w
long_version_of none_yet w name value dashes long h v = rw (dashes, long, h, v) (inr refl)
long_version_of (some [] u) w name value dashes long h v = rw (dashes, long, h, v) (inr refl)
long_version_of (some (t ∷ ts) u) w name value dashes long h v = rw (dashes, long, h, v) (inr refl)
