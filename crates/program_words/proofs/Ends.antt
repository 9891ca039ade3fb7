-- What the parser answers with is what the words ask for.
use Rattle.std.proofs.Common.{◌≡◌, ◌≢◌, Bool, true, false, List, [], ◌∷◌, Some, None, refl, sym, subst, ◌∙◌, ◌⊎◌, inl, inr, ap, codes}
use Rattle.std.specs.Prelude.{drop, is_some, option_map, unwrap_or}
use Rattle.clap.specs.Kinds.{HasKind, IsAmong, Kinds, or_else}
use Rattle.clap.specs.Values.{kind_of}
use Rattle.clap.specs.Matches.{found_of, matched_of, raw_values}
use Rattle.clap.specs.declared.error.Error.{Error}
use Rattle.clap.specs.declared.parser.matches.ArgMatches.{ArgMatches}
use Rattle.clap.proofs.WalkLemmas.{raw_values-rows}
use Rattle.clap.specs.Walk.{Walk, all_of, finished, rows_of, settled}
use Rattle.clap.specs.Simple.{App, HasMatchesOf, built, entered, is_simple, matches_of}
use Rattle.clap.specs.Faults.{check_fault, defaults_fault, entered_fault, fault_of, is_simple_and_free, settle_fault}
use Rattle.clap.specs.declared.error.kind.ErrorKind.{ErrorKind}
use Rattle.clap.specs.declared.error.kind.ErrorKind.TheVariants as kind
use Rattle.program_words.specs.Line.{line}
use Rattle.program_words.specs.Words.{Arguments, Text, arguments_of, asked, command_of, for_help, for_version, help, request_of, values, version, wrong}
use Rattle.program_words.proofs.Stages.{Stage, none_yet, shape, some, values_at, walk_at}
use Rattle.program_words.proofs.Walks.{Comes, Passes, comes, end, faults}

pub is_free : is_simple_and_free line ≡ true
is_free = refl

pub simple : is_simple line ≡ true
simple = refl

abbrev after_walk : Walk → Kinds
after_walk w = or_else (entered_fault (built line) w.stopped) (or_else (settle_fault shape.rules false w.held)
    (or_else (defaults_fault (settled shape.rules w.held).rows shape.rules) (check_fault shape (finished shape.rules w.held) (is_some (entered (built line) w.stopped)))))

in_steps : (words : List Text) → fault_of line words ≡ or_else (faults false none_yet (drop 1 words)) (after_walk (end false none_yet (drop 1 words)))
in_steps words = refl

none_after : (b : Bool) (at : Stage) → after_walk (walk_at b at) ≡ []
unfolding defaults_fault
none_after b none_yet = refl
none_after b (some [] v) = refl
none_after b (some (u ∷ us) v) = refl

abbrev pub values_of : List Text → List Text
values_of words = unwrap_or (all_of (codes "words") (matches_of line words)) []

values_found : (b : Bool) (at : Stage) → unwrap_or (all_of (codes "words") (finished shape.rules (walk_at b at).held)) [] ≡ values_at at
values_found b none_yet = refl
values_found b (some [] v) = refl
values_found b (some (u ∷ us) v) = refl

stopped : (words : List Text) (k : ErrorKind) → faults false none_yet (drop 1 words) ≡ k ∷ [] → fault_of line words ≡ k ∷ []
stopped words k e = rw (in_steps words, e) refl

passed : (words more : List Text) → Passes false none_yet (drop 1 words) more → (fault_of line words ≡ []) × (values_of words ≡ more)
passed words more p = (
  in_steps words ∙ ap (λ k. or_else k (after_walk (end false none_yet (drop 1 words)))) p.free ∙ ap after_walk p.ends ∙ none_after p.trailing p.stage,
  ap (λ (w : Walk). unwrap_or (all_of (codes "words") (finished shape.rules w.held)) []) p.ends ∙ values_found p.trailing p.stage ∙ p.more_values,
)

-- the kinds of the parser's answer, by what the words are
abbrev Says : Arguments → List Text → Type 0
Says (values more) words = (fault_of line words ≡ []) × (values_of words ≡ more)
Says for_help words = fault_of line words ≡ kind.DisplayHelp ∷ []
Says for_version words = fault_of line words ≡ kind.DisplayVersion ∷ []
Says wrong words = (fault_of line words ≡ kind.UnknownArgument ∷ []) ⊎ (fault_of line words ≡ kind.TooManyValues ∷ [])

said : (words : List Text) (a : Arguments) → Comes a none_yet (drop 1 words) → Says a words
said words (values more) h = passed words more h
said words for_help h = stopped words _ h
said words for_version h = stopped words _ h
said words wrong (inl h) = inl (stopped words _ h)
said words wrong (inr h) = inr (stopped words _ h)

-- where the parser takes the words
pub taken : (words : List Text) → fault_of line words ≡ [] → command_of words ≡ request_of (values_of words)
taken words free = by (arguments_of (drop 1 words)) refl (said words _ (comes none_yet (drop 1 words)))
  where
    by : (a : Arguments) → arguments_of (drop 1 words) ≡ a → Says a words → command_of words ≡ request_of (values_of words)
    by (values more) e h = ap asked e ∙ ap request_of (sym h.1)
    by for_help e h = let no = sym free ∙ h in cc
    by for_version e h = let no = sym free ∙ h in cc
    by wrong e (inl h) = let no = sym free ∙ h in cc
    by wrong e (inr h) = let no = sym free ∙ h in cc

only : (k x : ErrorKind) (kinds : Kinds) → IsAmong k kinds → kinds ≡ x ∷ [] → k ≡ x
only k x kinds h e = by (subst (IsAmong k) e h)
  where
    by : IsAmong k (x ∷ []) → k ≡ x
    by (inl same) = same
    by (inr none) = absurd none

none_in : (k : ErrorKind) (kinds : Kinds) → IsAmong k kinds → kinds ≡ [] → ⊥
none_in k kinds h e = subst (IsAmong k) e h

pub helped : (words : List Text) → IsAmong kind.DisplayHelp (fault_of line words) → command_of words ≡ Some help
helped words k = by (arguments_of (drop 1 words)) refl (said words _ (comes none_yet (drop 1 words)))
  where
    by : (a : Arguments) → arguments_of (drop 1 words) ≡ a → Says a words → command_of words ≡ Some help
    by (values more) e h = absurd (none_in _ _ k h.0)
    by for_help e h = ap asked e
    by for_version e h = let no = only _ _ _ k h in cc
    by wrong e (inl h) = let no = only _ _ _ k h in cc
    by wrong e (inr h) = let no = only _ _ _ k h in cc

pub versioned : (words : List Text) → IsAmong kind.DisplayVersion (fault_of line words) → command_of words ≡ Some version
versioned words k = by (arguments_of (drop 1 words)) refl (said words _ (comes none_yet (drop 1 words)))
  where
    by : (a : Arguments) → arguments_of (drop 1 words) ≡ a → Says a words → command_of words ≡ Some version
    by (values more) e h = absurd (none_in _ _ k h.0)
    by for_help e h = let no = only _ _ _ k h in cc
    by for_version e h = ap asked e
    by wrong e (inl h) = let no = only _ _ _ k h in cc
    by wrong e (inr h) = let no = only _ _ _ k h in cc

pub refused : (words : List Text) (k : ErrorKind) → IsAmong k (fault_of line words) → k ≢ kind.DisplayHelp → k ≢ kind.DisplayVersion → command_of words ≡ None
refused words k among no_help no_version = by (arguments_of (drop 1 words)) refl (said words _ (comes none_yet (drop 1 words)))
  where
    by : (a : Arguments) → arguments_of (drop 1 words) ≡ a → Says a words → command_of words ≡ None
    by (values more) e h = absurd (none_in _ _ among h.0)
    by for_help e h = absurd (no_help (only _ _ _ among h))
    by for_version e h = absurd (no_version (only _ _ _ among h))
    by wrong e h = ap asked e

-- ---- the same of a command that is the line

module _ (a : App) (words : List Text) (is : a ≡ line) where
  pub taken_by : (m : ArgMatches) → (is_simple_and_free a ≡ true → fault_of a words ≡ []) → HasMatchesOf a words m
      → command_of words ≡ request_of (unwrap_or (option_map raw_values (matched_of (found_of m) (codes "words"))) [])
  taken_by m free matches =
      let faultless : fault_of line words ≡ [] = subst (λ x. fault_of x words ≡ []) is (free (ap is_simple_and_free is ∙ is_free)) in
      let rows : rows_of (found_of m) ≡ matches_of line words = subst (λ x. rows_of (found_of m) ≡ matches_of x words) is (matches (ap is_simple is ∙ simple)).0 in
      taken words faultless
      ∙ ap (λ o. request_of (unwrap_or o [])) (ap (all_of (codes "words")) (sym rows) ∙ sym (raw_values-rows (found_of m) (codes "words")))

  module _ (e : Error) (kinds : is_simple_and_free a ≡ true → HasKind (fault_of a words) e) where
    has : HasKind (fault_of line words) e
    has = subst (λ x. HasKind (fault_of x words) e) is (kinds (ap is_simple_and_free is ∙ is_free))

    pub helped_by : kind.DisplayHelp ≡ kind_of e → command_of words ≡ Some help
    helped_by d = by has
      where
        by : HasKind (fault_of line words) e → command_of words ≡ Some help
        by (inl memory) = let bad = d ∙ memory in cc
        by (inr among) = helped words (subst (λ k. IsAmong k (fault_of line words)) (sym d) among)

    pub versioned_by : kind.DisplayVersion ≡ kind_of e → command_of words ≡ Some version
    versioned_by d = by has
      where
        by : HasKind (fault_of line words) e → command_of words ≡ Some version
        by (inl memory) = let bad = d ∙ memory in cc
        by (inr among) = versioned words (subst (λ k. IsAmong k (fault_of line words)) (sym d) among)

    pub refused_by : kind_of e ≢ kind.OutOfMemory → kind_of e ≢ kind.DisplayHelp → kind_of e ≢ kind.DisplayVersion → command_of words ≡ None
    refused_by ample no_help no_version = by has
      where
        by : HasKind (fault_of line words) e → command_of words ≡ None
        by (inl memory) = absurd (ample memory)
        by (inr among) = refused words (kind_of e) among no_help no_version
