-- Pages of the log.
use Rattle.std.proofs.Common.{◌≡◌, ℕ, zero, suc, ◌+◌, ◌-◌, ◌≤◌, ◌<◌, Bool, true, false, cond, ◌⊎◌, inl, inr, List, [], ◌∷◌, ◌++◌, map, take, drop, length, length-append, get_or, take-suc, add-one, refl, sym, ap, subst, ◌∙◌, arith, min}
use Rattle.std.specs.Prelude.{filter}
use Rattle.byte_fields.specs.Bytes.{Id}
use Rattle.std.specs.List.{AllByRecursion, take-map, drop-map}
use Rattle.std.proofs.lemmas.Bool.{cases_lt}
use Rattle.std.proofs.lemmas.List.{take_all, drop_all, append_assoc, map-append, length-drop, length-map}
use Rattle.changeset_model.specs.Changeset.{id_of}
use Rattle.history_model.specs.History as model
use Rattle.history_model.specs.History.{Known, unnumbered, is_stored, bodies, stored}
use Rattle.history_model.specs.Journal.{Header}
use Rattle.history_model.specs.Repository.{Repository}
use Rattle.reply_model.specs.Log.{LogLine, lines_of, log_lines}
use Rattle.changeset_store.specs.Store.{changeset_at}
use Rattle.repo_machine.specs.declared.records.Record.{Record}
use Rattle.repo_machine.specs.declared.records.Record.TheVariants.{Content, Whole, Change, Book, Land, Policy, Fault}
use Rattle.repo_machine.specs.declared.records.Entry.{Entry}
use Rattle.repo_calls.specs.declared.log.LogEntry.{LogEntry}
use Rattle.repo_calls.specs.Calls.{line_seen, lines_seen}
use Rattle.repo_machine.specs.Records.{body_of, history_of, RecordWithin, IsWithin, is_record_kept, is_kept, kept_from}
use Rattle.repo_machine.specs.Lines.{record_line, entry_at, line_at, KeptWithin, IsKeptAt}

-- ---- a page

module _ {X : Type 0} where
  take_count : (rest : List X) (count : ℕ) → count ≡ min 100 (length rest) → take count rest ≡ take 100 rest
  take_count rest count is = by (cases_lt (length rest) 100)
    where
      by : (length rest < 100) ⊎ (100 ≤ length rest) → take count rest ≡ take 100 rest
      by (inl short) = take_all count rest (omega arith) ∙ sym (take_all 100 rest (omega arith))
      by (inr long) = let same : count ≡ 100 = omega arith in ap (λ n. take n rest) same

  drop_start : (es : List X) (from start : ℕ) → start ≡ min from (length es) → drop start es ≡ drop from es
  drop_start es from start is = by (cases_lt from (length es))
    where
      by : (from < length es) ⊎ (length es ≤ from) → drop start es ≡ drop from es
      by (inl below) = let same : start ≡ from = omega arith in ap (λ n. drop n es) same
      by (inr past) = drop_all start es (omega arith) ∙ sym (drop_all from es past)

  pub page_is : (es : List X) (from start count : ℕ) → start ≡ min from (length es) → count ≡ min 100 (length es - start) → take count (drop start es) ≡ take 100 (drop from es)
  page_is es from start count start_is count_is =
      take_count (drop start es) count (let len = length-drop start es in omega arith)
      ∙ ap (take 100) (drop_start es from start start_is)

  all_take : (P : X → Type 0) (n : ℕ) (xs : List X) → AllByRecursion P xs → AllByRecursion P (take n xs)
  all_take P zero xs all = tt
  all_take P (suc n) [] all = tt
  all_take P (suc n) (x ∷ xs) all = (all.0, all_take P n xs all.1)

  all_drop : (P : X → Type 0) (n : ℕ) (xs : List X) → AllByRecursion P xs → AllByRecursion P (drop n xs)
  all_drop P zero xs all = all
  all_drop P (suc n) [] all = all
  all_drop P (suc n) (x ∷ xs) all = all_drop P n xs all.1

  pub all_of_page : (P : X → Type 0) (es page : List X) (from : ℕ) → page ≡ take 100 (drop from es) → AllByRecursion P es → AllByRecursion P page
  all_of_page P es page from is all = subst (AllByRecursion P) (sym is) (all_take P 100 (drop from es) (all_drop P from es all))

-- ---- ids by number

pub ids_push : (ks : List Known) (ns : List ℕ) (i : ℕ) (items after : List Id) (x : Id) → i < length ns → items ≡ map id_of (map (changeset_at ks) (take i ns)) → after ≡ items ++ x ∷ [] → x ≡ id_of (changeset_at ks (get_or ns i 0)) → after ≡ map id_of (map (changeset_at ks) (take (i + 1) ns))
ids_push ks ns i items after x below so_far grows is =
    grows ∙ (λ j. so_far j ++ is j ∷ [])
    ∙ sym (
    ap (λ l. map id_of (map (changeset_at ks) l)) (ap (λ n. take n ns) (add-one i) ∙ take-suc ns i 0 below)
    ∙ ap (map id_of) (map-append (changeset_at ks) (take i ns) (get_or ns i 0 ∷ []))
    ∙ map-append id_of (map (changeset_at ks) (take i ns)) (changeset_at ks (get_or ns i 0) ∷ []))

-- ---- the entries that are stored

at_last : (before : List Entry) (e : Entry) (es : List Entry) → entry_at (before ++ e ∷ es) (length before) ≡ e
at_last [] e es = refl
at_last (x ∷ before) e es = at_last before e es

kept_by : (b : Bool) (before : List Entry) (e : Entry) (es : List Entry) → map (entry_at (before ++ e ∷ es)) (kept_from (suc (length before)) es) ≡ filter is_kept es → map (entry_at (before ++ e ∷ es)) (cond b (length before ∷ kept_from (suc (length before)) es) (kept_from (suc (length before)) es)) ≡ cond b (e ∷ filter is_kept es) (filter is_kept es)
kept_by true before e es later = (λ i. at_last before e es i ∷ later i)
kept_by false before e es later = later

kept_after : (before es : List Entry) → map (entry_at (before ++ es)) (kept_from (length before) es) ≡ filter is_kept es
kept_after before [] = refl
kept_after before (e ∷ es) =
    kept_by (is_kept e) before e es
    ((λ i. map (entry_at (sym (append_assoc before (e ∷ []) es) i)) (kept_from (one before e i) es)) ∙ kept_after (before ++ e ∷ []) es)
  where
    one : (before : List Entry) (e : Entry) → suc (length before) ≡ length (before ++ e ∷ [])
    one before e = let len = length-append before (e ∷ []) in omega arith

pub kept_are : (es : List Entry) → map (entry_at es) (kept_from 0 es) ≡ filter is_kept es
kept_are es = kept_after [] es

-- ---- the lines of a history

abbrev stored_of : List Known → Entry → model.Entry
stored_of ks e = unnumbered (body_of ks e.record)

is_stored-record : (ks : List Known) (r : Record) → is_stored (body_of ks r) ≡ is_record_kept r
is_stored-record ks (Content id n) = refl
is_stored-record ks (Whole whole) = refl
is_stored-record ks (Change number) = refl
is_stored-record ks (Book movement) = refl
is_stored-record ks (Land landing) = refl
is_stored-record ks (Policy policy) = refl
is_stored-record ks (Fault breaking) = refl

bodies_by : (ks : List Known) (e : Entry) (es : List Entry) (b : Bool) (bs : List model.Body) → bs ≡ map (λ e. body_of ks e.record) (filter is_kept es) → cond b (body_of ks e.record ∷ bs) bs ≡ map (λ e. body_of ks e.record) (cond b (e ∷ filter is_kept es) (filter is_kept es))
bodies_by ks e es true bs ih = ap (λ bs. body_of ks e.record ∷ bs) ih
bodies_by ks e es false bs ih = ih

pub bodies-history : (ks : List Known) (es : List Entry) → bodies (history_of ks es) ≡ map (λ e. body_of ks e.record) (filter is_kept es)
bodies-history ks [] = refl
bodies-history ks (e ∷ es) =
    ap (λ b. cond b (body_of ks e.record ∷ bodies (history_of ks es)) (bodies (history_of ks es))) (is_stored-record ks e.record)
    ∙ bodies_by ks e es (is_kept e) (bodies (history_of ks es)) (bodies-history ks es)

map-twice : (ks : List Known) (es : List Entry) → map unnumbered (map (λ e. body_of ks e.record) es) ≡ map (stored_of ks) es
map-twice ks [] = refl
map-twice ks (e ∷ es) = ap (λ l. stored_of ks e ∷ l) (map-twice ks es)

pub stored-history : (ks : List Known) (es : List Entry) → stored (history_of ks es) ≡ map (stored_of ks) (filter is_kept es)
stored-history ks es = ap (map unnumbered) (bodies-history ks es) ∙ map-twice ks (filter is_kept es)

line_by : (ks : List Known) (count : ℕ) (r : Record) → KeptWithin count r → (later : List model.Entry) (lines : List LogLine) → lines_of later ≡ lines → lines_of (unnumbered (body_of ks r) ∷ later) ≡ record_line ks r ∷ lines
line_by ks count (Content id n) kept later lines ih = ap (λ l. record_line ks (Content id n) ∷ l) ih
line_by ks count (Whole whole) kept later lines ih = ap (λ l. record_line ks (Whole whole) ∷ l) ih
line_by ks count (Change number) kept later lines ih = ap (λ l. record_line ks (Change number) ∷ l) ih
line_by ks count (Book movement) kept later lines ih = ap (λ l. record_line ks (Book movement) ∷ l) ih
line_by ks count (Land landing) kept later lines ih = ap (λ l. record_line ks (Land landing) ∷ l) ih
line_by ks count (Policy policy) kept later lines ih = ap (λ l. record_line ks (Policy policy) ∷ l) ih
line_by ks count (Fault breaking) kept later lines ih = absurd kept

lines_of-kept : (ks : List Known) (count : ℕ) (es : List Entry) (ns : List ℕ) → AllByRecursion (IsKeptAt count es) ns → lines_of (map (stored_of ks) (map (entry_at es) ns)) ≡ map (line_at ks es) ns
lines_of-kept ks count es [] kept = refl
lines_of-kept ks count es (n ∷ ns) kept = line_by ks count (entry_at es n).record kept.0.1 (map (stored_of ks) (map (entry_at es) ns)) (map (line_at ks es) ns) (lines_of-kept ks count es ns kept.1)

-- ---- the places of stored entries are within

kept_record : (count : ℕ) (r : Record) → is_record_kept r ≡ true → RecordWithin count r → KeptWithin count r
kept_record count (Content id n) kept within = tt
kept_record count (Whole whole) kept within = tt
kept_record count (Change number) kept within = within
kept_record count (Book movement) kept within = tt
kept_record count (Land landing) kept within = within
kept_record count (Policy policy) kept within = tt
kept_record count (Fault breaking) kept within = absurd (cc)

all_by : (count : ℕ) (before : List Entry) (e : Entry) (es : List Entry) (b : Bool) → is_kept e ≡ b → IsWithin count e → (later : List ℕ) → AllByRecursion (IsKeptAt count (before ++ e ∷ es)) later → AllByRecursion (IsKeptAt count (before ++ e ∷ es)) (cond b (length before ∷ later) later)
all_by count before e es true kept within later all = (
  ((let len = length-append before (e ∷ es) in omega arith), subst (λ x. KeptWithin count x.record) (sym (at_last before e es)) (kept_record count e.record kept within)),
  all,
)
all_by count before e es false kept within later all = all

all_after : (count : ℕ) (before es : List Entry) → AllByRecursion (IsWithin count) es → AllByRecursion (IsKeptAt count (before ++ es)) (kept_from (length before) es)
all_after count before [] within = tt
all_after count before (e ∷ es) within =
    all_by count before e es (is_kept e) refl within.0 (kept_from (suc (length before)) es)
    (let one : length (before ++ e ∷ []) ≡ suc (length before) = (let len = length-append before (e ∷ []) in omega arith) in
    subst (λ n. AllByRecursion (IsKeptAt count (before ++ e ∷ es)) (kept_from n es)) one
    (subst (λ xs. AllByRecursion (IsKeptAt count xs) (kept_from (length (before ++ e ∷ [])) es)) (append_assoc before (e ∷ []) es) (all_after count (before ++ e ∷ []) es within.1)))

pub all_kept : (count : ℕ) (es : List Entry) (kept : List ℕ) → kept ≡ kept_from 0 es → AllByRecursion (IsWithin count) es → AllByRecursion (IsKeptAt count es) kept
all_kept count es kept are within = subst (AllByRecursion (IsKeptAt count es)) (sym are) (all_after count [] es within)

module _ (ks : List Known) (es : List Entry) (kept : List ℕ) (are : kept ≡ kept_from 0 es) (count : ℕ) (within : AllByRecursion (IsWithin count) es) (header : Header) (r : Repository) (is : ◌≡◌ {A = Repository} (record { header = header; history = history_of ks es }) r) where
  stored_as : stored r.history ≡ map (stored_of ks) (map (entry_at es) kept)
  stored_as = ap (λ r. stored r.history) (sym is) ∙ stored-history ks es ∙ ap (map (stored_of ks)) (sym (ap (map (entry_at es)) are ∙ kept_are es))

  pub page_lines : (n : ℕ) (page : List ℕ) (lines : List LogLine) → page ≡ take 100 (drop n kept) → lines ≡ map (line_at ks es) page → lines ≡ log_lines r.history n
  page_lines n page lines page_is lines_are =
      lines_are
      ∙ sym (lines_of-kept ks count es page (all_of_page (IsKeptAt count es) kept page n page_is (all_kept count es kept are within)))
      ∙ ap (λ ns. lines_of (map (stored_of ks) (map (entry_at es) ns))) page_is
      ∙ ap (λ h. lines_of (map (stored_of ks) h)) (sym (take-map (entry_at es) 100 (drop n kept)))
      ∙ ap lines_of (sym (take-map (stored_of ks) 100 (map (entry_at es) (drop n kept))))
      ∙ ap (λ h. lines_of (take 100 (map (stored_of ks) h))) (sym (drop-map (entry_at es) n kept))
      ∙ ap (λ h. lines_of (take 100 h)) (sym (drop-map (stored_of ks) n (map (entry_at es) kept)))
      ∙ ap (λ h. lines_of (take 100 (drop n h))) (sym stored_as)

  pub total_is : length kept ≡ length (stored r.history)
  total_is = sym (ap length stored_as ∙ length-map (map (entry_at es) kept) (stored_of ks) ∙ length-map kept (entry_at es))

-- as many places are kept as entries are stored
pub count_is : (ks : List Known) (es : List Entry) (kept : List ℕ) → kept ≡ kept_from 0 es → (n : ℕ) → n ≡ length kept → n ≡ length (stored (history_of ks es))
count_is ks es kept are n is = is ∙ sym (ap length (stored-history ks es) ∙ length-map (filter is_kept es) (stored_of ks) ∙ ap length (sym (ap (map (entry_at es)) are ∙ kept_are es)) ∙ length-map kept (entry_at es))

-- a page tells as many entries as it has
pub same_count : (ks : List Known) (es : List Entry) (lines : List LogEntry) (page : List ℕ) → lines_seen lines ≡ map (line_at ks es) page → length lines ≡ length page
same_count ks es lines page e = sym (length-map lines line_seen) ∙ ap length e ∙ length-map page (line_at ks es)

pub lines_push : (ks : List Known) (es : List Entry) (ns : List ℕ) (i : ℕ) (items after : List LogEntry) (line : LogEntry) → i < length ns → lines_seen items ≡ map (line_at ks es) (take i ns) → after ≡ items ++ line ∷ [] → line_seen line ≡ line_at ks es (get_or ns i 0) → lines_seen after ≡ map (line_at ks es) (take (i + 1) ns)
lines_push ks es ns i items after line below so_far grows is =
    ap lines_seen grows ∙ map-append line_seen items (line ∷ [])
    ∙ (λ j. so_far j ++ is j ∷ [])
    ∙ sym (ap (λ l. map (line_at ks es) l) (ap (λ n. take n ns) (add-one i) ∙ take-suc ns i 0 below) ∙ map-append (line_at ks es) (take i ns) (get_or ns i 0 ∷ []))
