-- No merge in the past of a known changeset is unresolved.
use Rattle.std.proofs.Common.{◌≡◌, Bool, true, false, cond, not, List, [], ◌∷◌, ◌++◌, map, reverse, refl, sym, ap, ◌∙◌}
use Rattle.std.specs.Prelude.{Option, None, Some, IfSome, Contains, filter, bytes_eq}
use Rattle.std.specs.List.{AllByRecursion}
use Rattle.std.specs.Option.{option_map_or}
use Rattle.std.proofs.lemmas.Bool.{cond-false, or_right}
use Rattle.byte_fields.specs.Bytes.{Id}
use Rattle.byte_fields.proofs.Booleans.{and_false}
use Rattle.byte_fields.proofs.Lists.{all_reverse, contains_head, contains_tail}
use Rattle.changeset_model.specs.Path.{Path, rising}
use Rattle.changeset_model.specs.Changeset.{File, Changeset}
use Rattle.history_model.specs.History.{Entry, Known, known, is_known}
use Rattle.history_model.specs.Chain.{HasParents, first_of, first_parent}
use Rattle.history_model.specs.Past.{Past, Begin, At, second_of, past_among, past}
use Rattle.history_model.specs.Tree.{decides, files_in}
use Rattle.history_model.specs.Merge.{is_unresolved, least_of, unresolved}
use Rattle.history_model.specs.Journal.{Header}
use Rattle.reply_model.specs.Legal.{IsLegal}
use Rattle.reply_model.specs.Reply.{unresolved_of}
use Rattle.reply_model.proofs.Parents.{HasParents-known}
use Rattle.reply_model.proofs.Lines.{known_once}
use Rattle.opening_laws.proofs.Merges.{known_resolved}
use Rattle.changeset_store.specs.Numbers.{AreApart}
use Rattle.changeset_store.proofs.Parents.{other_id}
use Rattle.merge_laws.specs.Resolved.{AreMergesResolved}
use Rattle.manifest_store.proofs.Lines.{apart_of}

-- ---- a changeset on its parents, by the past of each id

abbrev past_or : (Id → Past) → Option Id → Past
past_or P o = option_map_or P o Begin

abbrev IsLeft : (Id → Past) → Changeset → Type 0
IsLeft P c = unresolved c (files_in (past_or P (first_of c.parents))) (files_in (past_or P (second_of c.parents))) ≡ None

none_pass : {X : Type 0} (pass : X → Bool) (xs : List X) → ((x : X) → pass x ≡ false) → filter pass xs ≡ []
none_pass pass [] h = refl
none_pass pass (x ∷ xs) h = ap (λ b. cond b (x ∷ filter pass xs) (filter pass xs)) (h x) ∙ none_pass pass xs h

-- nothing stands against the files of the one parent
one_side : (c : Changeset) (fs : List (Path × File)) → unresolved c fs [] ≡ None
one_side c fs = ap (λ (es : List (Path × File)). least_of (rising (map (λ (e : Path × File). e.0) (es ++ [])))) (none_pass (is_unresolved c []) fs (λ e. and_false (not (decides c e.0))))

left_by : (ks : List Known) (c : Changeset) (ps : List Id) → unresolved_of ks c ps ≡ None → unresolved c (files_in (past_or (past ks) (first_of ps))) (files_in (past_or (past ks) (second_of ps))) ≡ None
left_by ks c [] e = one_side c []
left_by ks c (p ∷ []) e = one_side c (files_in (past ks p))
left_by ks c (p ∷ q ∷ ps) e = e

all_left : (P : Id → Past) (ks : List Known) → ((k : Known) → Contains ks k → IsLeft P k.changeset) → AllByRecursion (λ (k : Known). IsLeft P k.changeset) ks
all_left P [] each = tt
all_left P (k ∷ ks) each = (each k (contains_head k ks), all_left P ks (λ j at. each j (contains_tail k j ks at)))

-- ---- of changesets that are given newest first, each on those behind it

abbrev AreLeft : List Known → Type 0
AreLeft [] = Unit {0}
AreLeft (k ∷ older) = IsLeft (past_among older) k.changeset × AreLeft older

abbrev SamePasts : List Known → (Id → Past) → Type 0
SamePasts ks P = (x : Id) → is_known ks x ≡ true → past_among ks x ≡ P x

behind : (P : Id → Past) (k : Known) (older : List Known) → AreApart (k ∷ older) → SamePasts (k ∷ older) P → SamePasts older P
behind P k older apart same x there =
    sym (cond-false (bytes_eq k.id x) _ _ (other_id k older x apart.0 there)) ∙ same x (or_right (bytes_eq k.id x) (is_known older x) there)

same_or : (P : Id → Past) (older : List Known) → SamePasts older P → (o : Option Id) → IfSome o (λ q. is_known older q ≡ true) → past_or (past_among older) o ≡ past_or P o
same_or P older same None there = refl
same_or P older same (Some q) there = same q there

first_there : (Q : Id → Type 0) (ps : List Id) → AllByRecursion Q ps → IfSome (first_of ps) Q
first_there Q [] all = tt
first_there Q (p ∷ ps) all = all.0

second_there : (Q : Id → Type 0) (ps : List Id) → AllByRecursion Q ps → IfSome (second_of ps) Q
second_there Q [] all = tt
second_there Q (p ∷ ps) all = first_there Q ps all.1

are_left : (P : Id → Past) (ks : List Known) → AreApart ks → HasParents ks → SamePasts ks P → AllByRecursion (λ (k : Known). IsLeft P k.changeset) ks → AreLeft ks
are_left P [] apart parents same all = tt
are_left P (k ∷ older) apart parents same all =
    let there = behind P k older apart same in
    let Q : Id → Type 0 = λ q. is_known older q ≡ true in
    let first = same_or P older there (first_of k.changeset.parents) (first_there Q k.changeset.parents parents.0) in
    let second = same_or P older there (second_of k.changeset.parents) (second_there Q k.changeset.parents parents.0) in (
      (λ i. unresolved k.changeset (files_in (first i)) (files_in (second i))) ∙ all.0,
      are_left P older apart.1 parents.1 there all.1,
    )

-- ---- all of a past

of_parent : (older : List Known) → ((x : Id) → AreMergesResolved (past_among older x)) → (o : Option Id) → AreMergesResolved (past_or (past_among older) o)
of_parent older all None = tt
of_parent older all (Some x) = all x

past_by : (k : Known) (older : List Known) (x : Id) → IsLeft (past_among older) k.changeset → ((x : Id) → AreMergesResolved (past_among older x)) → (b : Bool) → AreMergesResolved (cond b (At k (past_or (past_among older) (first_parent k.changeset)) (past_or (past_among older) (second_of k.changeset.parents))) (past_among older x))
past_by k older x left all true = (left, of_parent older all (first_parent k.changeset), of_parent older all (second_of k.changeset.parents))
past_by k older x left all false = all x

among : (ks : List Known) → AreLeft ks → (x : Id) → AreMergesResolved (past_among ks x)
among [] left x = tt
among (k ∷ older) left x = past_by k older x left.0 (among older left.1) (bytes_eq k.id x)

pub merges_resolved : (header : Header) (h : List Entry) (x : Id) → IsLegal header h → AreMergesResolved (past (known h) x)
merges_resolved header h x legal =
    let ks = known h in
    let P : Id → Past = past ks in
    let all = all_left P ks (λ k at. left_by ks k.changeset k.changeset.parents (known_resolved header h k legal at)) in
    among (reverse ks)
    (are_left P (reverse ks) (apart_of (reverse ks) (known_once h)) (HasParents-known header h legal) (λ x there. refl) (all_reverse (λ (k : Known). IsLeft P k.changeset) ks all))
    x
