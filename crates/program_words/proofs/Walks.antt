-- The words one after another, and what the parser makes of them all.
use Rattle.std.proofs.Common.{◌≡◌, Bool, true, false, List, [], ◌∷◌, ◌++◌, refl, sym, ◌∙◌, ◌⊎◌, inl, inr, ap, append_assoc, append-nil}
use Rattle.std.specs.Prelude.{fold}
use Rattle.clap.specs.Kinds.{Kinds}
use Rattle.clap.specs.Walk.{Walk, walked}
use Rattle.clap.specs.Faults.{walk_fault}
use Rattle.clap.specs.declared.error.kind.ErrorKind.{ErrorKind}
use Rattle.clap.specs.declared.error.kind.ErrorKind.TheVariants as kind
use Rattle.program_words.specs.Words.{Arguments, Part, Text, a_value, a_wrong_flag, after_part, an_escape, arguments_of, asks_help, asks_version}
use Rattle.program_words.specs.Words.{for_help, for_version, part_of, values, with_value, wrong}
use Rattle.program_words.proofs.Stages.{Does, Stage, next, none_yet, pushed_on, shape, some, trails, turn, values_at, walk_at}
use Rattle.program_words.proofs.Parts.{does}

abbrev pub faults : Bool → Stage → List Text → Kinds
faults b at words = walk_fault shape [] (walk_at b at) words

abbrev pub end : Bool → Stage → List Text → Walk
end b at words = fold (walked shape.rules []) (walk_at b at) words

-- the words pass, and they leave these values more
pub record Passes (b : Bool) (at : Stage) (words more : List Text) : Type 0 where
  pub free : faults b at words ≡ []
  pub trailing : Bool
  pub stage : Stage
  pub ends : end b at words ≡ walk_at trailing stage
  pub more_values : values_at stage ≡ values_at at ++ more

-- one more value
push_values : (at : Stage) (w : Text) (rest : List Text) → values_at (pushed_on at w) ++ rest ≡ values_at at ++ w ∷ rest
push_values none_yet w rest = refl
push_values (some vs v) w rest = append_assoc (vs ++ v ∷ []) (w ∷ []) rest

one_more : (b b' : Bool) (at to : Stage) (w : Text) (rest more : List Text) → turn b at w ≡ [] → next b at w ≡ walk_at b' to → Passes b' to rest more
    → (found : List Text) → values_at to ++ more ≡ values_at at ++ found → Passes b at (w ∷ rest) found
unfolding walk_fault
one_more b b' at to w rest more free moves p found same = record {
  free = rw (free, moves) p.free;
  trailing = p.trailing;
  stage = p.stage;
  ends = ap (λ x. fold (walked shape.rules []) x rest) moves ∙ p.ends;
  more_values = p.more_values ∙ same;
}

passes_after : (at : Stage) (words : List Text) → Passes true at words words
unfolding walk_fault
passes_after at [] = record { free = refl; trailing = true; stage = at; ends = refl; more_values = sym (append-nil (values_at at)) }
passes_after at (w ∷ rest) =
    let t = trails at w in
    one_more true true at (pushed_on at w) w rest rest t.0 t.1 (passes_after (pushed_on at w) rest) (w ∷ rest) (push_values at w rest)

-- what the words come to
abbrev pub Comes : Arguments → Stage → List Text → Type 0
Comes (values more) at words = Passes false at words more
Comes for_help at words = faults false at words ≡ kind.DisplayHelp ∷ []
Comes for_version at words = faults false at words ≡ kind.DisplayVersion ∷ []
Comes wrong at words = (faults false at words ≡ kind.UnknownArgument ∷ []) ⊎ (faults false at words ≡ kind.TooManyValues ∷ [])

stops : (at : Stage) (w : Text) (rest : List Text) (k : ErrorKind) → turn false at w ≡ k ∷ [] → faults false at (w ∷ rest) ≡ k ∷ []
unfolding walk_fault
stops at w rest k e = rw e refl

goes_on : (at : Stage) (w : Text) (rest : List Text) → turn false at w ≡ [] → next false at w ≡ walk_at false (pushed_on at w)
    → faults false at (w ∷ rest) ≡ faults false (pushed_on at w) rest
unfolding walk_fault
goes_on at w rest free moves = rw (free, moves) refl

value_then : (at : Stage) (w : Text) (rest : List Text) (later : Arguments) → Does a_value at w → Comes later (pushed_on at w) rest → Comes (with_value w later) at (w ∷ rest)
value_then at w rest (values more) d p = one_more false false at (pushed_on at w) w rest more d.0 d.1 p (w ∷ more) (push_values at w more)
value_then at w rest for_help d e = goes_on at w rest d.0 d.1 ∙ e
value_then at w rest for_version d e = goes_on at w rest d.0 d.1 ∙ e
value_then at w rest wrong d (inl e) = inl (goes_on at w rest d.0 d.1 ∙ e)
value_then at w rest wrong d (inr e) = inr (goes_on at w rest d.0 d.1 ∙ e)

word_then : (at : Stage) (w : Text) (rest : List Text) (p : Part) (later : Arguments) → Does p at w → Comes later (pushed_on at w) rest → Comes (after_part p w rest later) at (w ∷ rest)
word_then at w rest a_value later d h = value_then at w rest later d h
word_then at w rest an_escape later d h = one_more false true at at w rest rest d.0 d.1 (passes_after at rest) rest refl
word_then at w rest asks_help later d h = stops at w rest _ d
word_then at w rest asks_version later d h = stops at w rest _ d
word_then at w rest a_wrong_flag later (inl e) h = inl (stops at w rest _ e)
word_then at w rest a_wrong_flag later (inr e) h = inr (stops at w rest _ e)

pub comes : (at : Stage) (words : List Text) → Comes (arguments_of words) at words
unfolding arguments_of walk_fault
comes at [] = record { free = refl; trailing = false; stage = at; ends = refl; more_values = sym (append-nil (values_at at)) }
comes at (w ∷ rest) = word_then at w rest (part_of w) (arguments_of rest) (does at w) (comes (pushed_on at w) rest)
