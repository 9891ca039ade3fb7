-- What the first bytes of a file tell.
use Rattle.std.proofs.Common.{◌≡◌, ℕ, ◌<◌, ◌≤◌, ◌&&◌, Bool, true, false, cond, List, [], length, take, drop, refl, sym, ap, subst, ◌∙◌, arith}
use Rattle.std.specs.Prelude.{Option, None, Some, Result, Ok, Err, IfOk, OnOk, IsTrue, is_err, MatchResult, bytes_eq, nat_le, option_map}
use Rattle.std.specs.Option.{option_map_or}
use Rattle.std.specs.Int.{w64, from_be_bytes}
use Rattle.std.proofs.lemmas.Bool.{and_parts, le-ltb, leb-true, lt-ltb}
use Rattle.std.proofs.lemmas.List.{drop-take, take-take}
use Rattle.changeset_model.specs.Version as model_version
use Rattle.history_model.specs.History.{Entry}
use Rattle.history_model.specs.Journal as journal
use Rattle.history_model.specs.Journal.{is_header, mark}
use Rattle.reply_model.specs.Opening.{opens, opens_with, records, version_in}
use Rattle.reply_model.specs.Opening as model
use Rattle.bonsai.specs.Versions.{version_view}
use Rattle.bonsai.specs.declared.version.Version.{Version}
use Rattle.bonsai.specs.declared.version.Version.TheVariants.{First, Second}
use Rattle.recovery.specs.Answers.{IsRefused}
use Rattle.recovery.specs.Headers.{IsHeaded, header_in, header_view, version_marked, within_limits}
use Rattle.recovery.specs.declared.header.Header.{Header}
use Rattle.recovery.specs.declared.fault.OpenFault.{OpenFault}
use Rattle.recovery.specs.declared.fault.OpenFault.TheVariants.{NotARepository, Damaged}

abbrev told : List ℕ → ℕ
told file = from_be_bytes w64 (take 8 (drop 8 file))

pub on_ok : {T E P : Type 0} (r : Result T E) → false ≡ is_err r → OnOk r P → P
on_ok (Ok x) e p = p
on_ok (Err x) e p = absurd cc

-- ---- the version

-- of which of both marks these bytes are
seen_by : (first second : Bool) → cond first (Some model_version.First) (cond second (Some model_version.Second) None) ≡ option_map version_view (cond first (Some First) (cond second (Some Second) None))
seen_by true second = refl
seen_by false true = refl
seen_by false false = refl

version_seen : (file : List ℕ) → version_in file ≡ option_map version_view (version_marked (take 8 file))
version_seen file = seen_by (bytes_eq (take 8 file) (mark model_version.First)) (bytes_eq (take 8 file) (mark model_version.Second))

-- ---- the header

abbrev in_limits : ℕ → Bool
in_limits capacity = nat_le 4_096 capacity && nat_le capacity 34_359_738_368

-- by the version, and whether the capacity is within the limits
abbrev header_by : ℕ → Option Version → Bool → Result Header OpenFault
header_by capacity None fits = Err NotARepository
header_by capacity (Some version) fits = cond fits (Ok (record { capacity = capacity; version = version })) (Err (Damaged 8))

abbrev Headed : List ℕ → Result Header OpenFault → Type 0
Headed file r = MatchResult r (λ header. IsHeaded (header_view header) file) (IsRefused file)

abbrev opens_as : List ℕ → model_version.Version → Result (List Entry) model.OpenFault
opens_as file version = opens_with (record { capacity = told file; version = version }) file

opens_by : (file : List ℕ) (version : Option Version) → 17 ≤ length file → version_marked (take 8 file) ≡ version → opens file ≡ option_map_or (λ v. opens_as file (version_view v)) version (Err model.NotARepository)
opens_by file version long marked =
    let enough = le-ltb (length file) 17 long in
    let seen : version_in file ≡ option_map version_view version = version_seen file ∙ ap (option_map version_view) marked in
    (λ i. cond (enough i) (Err model.NotARepository) (option_map_or (opens_as file) (seen i) (Err model.NotARepository)))
    ∙ elim version as (λ version. option_map_or (opens_as file) (option_map version_view version) (Err model.NotARepository) ≡ option_map_or (λ v. opens_as file (version_view v)) version (Err model.NotARepository)) [ None ↦ refl | Some v ↦ refl ]

headed_by : (file : List ℕ) (version : Option Version) (fits : Bool) → 17 ≤ length file → version_marked (take 8 file) ≡ version → in_limits (told file) ≡ fits → Headed file (header_by (told file) version fits)
headed_by file None fits long marked good = opens_by file None long marked
headed_by file (Some v) false long marked good =
    opens_by file (Some v) long marked ∙ ap (λ b. cond b (records file (length file) (record { capacity = told file; version = version_view v }) [] 16 (drop 16 file)) (Err (model.Damaged 8))) good
headed_by file (Some v) true long marked good = record {
  told = refl;
  marked = version_seen file ∙ ap (option_map version_view) marked;
  opens_is = opens_by file (Some v) long marked ∙ ap (λ b. cond b (records file (length file) (record { capacity = told file; version = version_view v }) [] 16 (drop 16 file)) (Err (model.Damaged 8))) good;
}

limited : (capacity : ℕ) (version : Option Version) → option_map_or (λ v. within_limits (record { capacity = capacity; version = v })) version (Err NotARepository) ≡ header_by capacity version (in_limits capacity)
limited capacity None = refl
limited capacity (Some v) = refl

header_is : (file head : List ℕ) → head ≡ take 16 file → header_in head ≡ header_by (told file) (version_marked (take 8 file)) (in_limits (told file))
header_is file head is =
    ap (λ xs. header_in xs) is
    ∙ ap (λ xs. option_map_or (λ v. within_limits (record { capacity = from_be_bytes w64 (drop 8 (take 16 file)); version = v })) (version_marked xs) (Err NotARepository)) (take-take 8 16 file (omega arith))
    ∙ ap (λ xs. option_map_or (λ v. within_limits (record { capacity = from_be_bytes w64 xs; version = v })) (version_marked (take 8 file)) (Err NotARepository)) (drop-take 8 8 file)
    ∙ limited (told file) (version_marked (take 8 file))

pub headed : (file head : List ℕ) (r : Result Header OpenFault) → 17 ≤ length file → head ≡ take 16 file → r ≡ header_in head → Headed file r
headed file head r long is told_is =
    subst (Headed file) (sym (told_is ∙ header_is file head is)) (headed_by file (version_marked (take 8 file)) (in_limits (told file)) long refl refl)

pub too_short : (file : List ℕ) → length file < 17 → IsRefused file NotARepository
too_short file short = ap (λ b. cond b (Err model.NotARepository) (option_map_or (opens_as file) (version_in file) (Err model.NotARepository))) (lt-ltb (length file) 17 short)

limits_by : (capacity : ℕ) (version : Option Version) (fits : Bool) → in_limits capacity ≡ fits → IfOk (header_by capacity version fits) (λ header. IsTrue (is_header (header_view header)))
limits_by capacity None fits good = tt
limits_by capacity (Some v) false good = tt
limits_by capacity (Some v) true good = good

pub limits : (head : List ℕ) (r : Result Header OpenFault) → r ≡ header_in head → IfOk r (λ header. IsTrue (is_header (header_view header)))
limits head r is =
    let capacity = from_be_bytes w64 (drop 8 head) in
    subst (λ r. IfOk r (λ header. IsTrue (is_header (header_view header)))) (sym (is ∙ limited capacity (version_marked (take 8 head)))) (limits_by capacity (version_marked (take 8 head)) (in_limits capacity) refl)

pub limits_of : (header : journal.Header) → IsTrue (is_header header) → (4_096 ≤ header.capacity) × (header.capacity ≤ 34_359_738_368)
limits_of header good =
    let both = and_parts (nat_le 4_096 header.capacity) (nat_le header.capacity 34_359_738_368) good in
    (leb-true 4_096 header.capacity both.0, leb-true header.capacity 34_359_738_368 both.1)
