-- How much a history has.
--     is_content body, is_landing body      a content or a whole was stored, a stack was landed
--     names_in body      the bookmark that the entry names, if it names one;  names h      those of all entries
--     bookmarks h      how many bookmarks have a head
--     is_content_entry e, is_landing_entry e      the same of the machine's entries
--     counts_of h      its stored entries, contents, known changesets, bookmarks with a head and landings, and the bytes of a file that stands for it
use Rattle.std.specs.Prelude.{ℕ, Bool, true, false, List, [], ◌∷◌, length, filter, flat_map, count_by, bytes_eq, is_some}
use Rattle.std.specs.Set.{distinct_count}
use Rattle.history_model.specs.History as model
use Rattle.history_model.specs.History.{Body, Content, Whole, Change, Book, Land, Policy, Fault, stored, known}
use Rattle.history_model.specs.Bookmark.{head}
use Rattle.history_model.specs.Journal.{size}
use Rattle.repo_machine.specs.declared.counts.Counts.{Counts}
use Rattle.repo_machine.specs.declared.records.Record.{Record}
use Rattle.repo_machine.specs.declared.records.Record.TheVariants as records
use Rattle.repo_machine.specs.declared.records.Entry.{Entry}

abbrev pub is_content : Body → Bool
is_content (Content x n) = true
is_content (Whole x n parts) = true
is_content (Change c) = false
is_content (Book move) = false
is_content (Land landing) = false
is_content (Policy caller text) = false
is_content (Fault breaking) = false

abbrev pub is_landing : Body → Bool
is_landing (Content x n) = false
is_landing (Whole x n parts) = false
is_landing (Change c) = false
is_landing (Book move) = false
is_landing (Land landing) = true
is_landing (Policy caller text) = false
is_landing (Fault breaking) = false

abbrev pub is_content_record : Record → Bool
is_content_record (records.Content id length) = true
is_content_record (records.Whole whole) = true
is_content_record (records.Change number) = false
is_content_record (records.Book movement) = false
is_content_record (records.Land landing) = false
is_content_record (records.Policy policy) = false
is_content_record (records.Fault breaking) = false

abbrev pub is_landing_record : Record → Bool
is_landing_record (records.Content id length) = false
is_landing_record (records.Whole whole) = false
is_landing_record (records.Change number) = false
is_landing_record (records.Book movement) = false
is_landing_record (records.Land landing) = true
is_landing_record (records.Policy policy) = false
is_landing_record (records.Fault breaking) = false

abbrev pub is_content_entry : Entry → Bool
is_content_entry e = is_content_record e.record

abbrev pub is_landing_entry : Entry → Bool
is_landing_entry e = is_landing_record e.record

abbrev pub names_in : Body → List (List ℕ)
names_in (Content x n) = []
names_in (Whole x n parts) = []
names_in (Change c) = []
names_in (Book move) = move.name ∷ []
names_in (Land landing) = landing.name ∷ []
names_in (Policy caller text) = []
names_in (Fault breaking) = []

abbrev pub names : List model.Entry → List (List ℕ)
names h = flat_map (λ e. names_in e.body) h

abbrev pub bookmarks : List model.Entry → ℕ
bookmarks h = distinct_count bytes_eq (filter (λ name. is_some (head h name)) (names h))

abbrev pub counts_of : List model.Entry → Counts
counts_of h = record {
  entries = length (stored h);
  contents = count_by (λ e. is_content e.body) h;
  changesets = length (known h);
  bookmarks = bookmarks h;
  landings = count_by (λ e. is_landing e.body) h;
  size = size h;
}
