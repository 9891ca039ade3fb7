-- The values of a page and of its parts.
--     line_data n line, lines_data n lines      of what is told of an entry with this number, and of entries from this number on;  page_data n lines total      of a page
--     OkAnd result P      it is Ok, and P of what it has;  Finds result P      so, unless memory ran out
use Rattle.std.specs.Prelude.{◌≡◌, ℕ, ◌+◌, List, [], ◌∷◌, ◌++◌, map, codes, Option, None, Some, Result, Ok, Err}
use Rattle.serde_json.specs.Data.{Data, string, number, unsigned, array}
use Rattle.serde_json.specs.View.{items_of}
use Rattle.byte_fields.specs.Bytes.{Id}
use Rattle.reply_model.specs.Log.{LogLine, ContentLine, WholeLine, ChangesetLine, BookmarkLine, LandingLine, PolicyLine}
use Rattle.repo_text.specs.Spelling.{Member, coded_data, object_data, id_data, maybe_id_data}
use Rattle.page_reader.specs.declared.page_fault.PageFault.{PageFault}
use Rattle.page_reader.specs.declared.page_fault.PageFault.TheVariants.{Memory}

abbrev pub ids_data : List Id → Data
ids_data ids = array (items_of (map id_data ids))

abbrev pub moment_data : Option ℕ → List Member
moment_data None = []
moment_data (Some moment) = (codes "moment", number (unsigned moment)) ∷ []

abbrev pub caller_data : Option (List ℕ) → List Member
caller_data None = []
caller_data (Some caller) = (codes "caller", string caller) ∷ []

abbrev pub bookmark_data : ℕ → Option (List ℕ) → List ℕ → Option Id → Option Id → Data
bookmark_data n caller name from to =
    object_data (caller_data caller ++ ((codes "from", maybe_id_data from) ∷ (codes "kind", string (codes "bookmark")) ∷ (codes "name", string name) ∷ (codes "number", number (unsigned n)) ∷ (codes "to", maybe_id_data to) ∷ []))

abbrev pub landing_data : ℕ → Option (List ℕ) → List ℕ → Id → Id → Option ℕ → List Id → Data
landing_data n caller name old draft moment ids =
    object_data (caller_data caller ++ ((codes "draft", id_data draft) ∷ (codes "ids", ids_data ids) ∷ (codes "kind", string (codes "landing")) ∷ (moment_data moment ++ ((codes "name", string name) ∷ (codes "number", number (unsigned n)) ∷ (codes "old", id_data old) ∷ []))))

abbrev pub line_data : ℕ → LogLine → Data
line_data n (ContentLine x size) = object_data ((codes "id", id_data x) ∷ (codes "kind", string (codes "content")) ∷ (codes "number", number (unsigned n)) ∷ (codes "size", number (unsigned size)) ∷ [])
line_data n (WholeLine x size parts) =
    object_data ((codes "id", id_data x) ∷ (codes "kind", string (codes "whole")) ∷ (codes "number", number (unsigned n)) ∷ (codes "parts", ids_data parts) ∷ (codes "size", number (unsigned size)) ∷ [])
line_data n (ChangesetLine x) = object_data ((codes "id", id_data x) ∷ (codes "kind", string (codes "changeset")) ∷ (codes "number", number (unsigned n)) ∷ [])
line_data n (BookmarkLine move) = bookmark_data n move.caller move.name move.from move.to
line_data n (LandingLine caller name old draft moment ids) = landing_data n caller name old draft moment ids
line_data n (PolicyLine caller rules) =
    object_data ((codes "caller", string caller) ∷ (codes "kind", string (codes "policy")) ∷ (codes "number", number (unsigned n)) ∷ (codes "rules", number (unsigned rules)) ∷ [])

abbrev pub lines_data : ℕ → List LogLine → List Data
lines_data n [] = []
lines_data n (line ∷ lines) = line_data n line ∷ lines_data (n + 1) lines

abbrev pub page_data : ℕ → List LogLine → ℕ → Data
page_data n lines total = coded_data (codes "log") ((codes "entries", array (items_of (lines_data n lines))) ∷ (codes "total", number (unsigned total)) ∷ [])

abbrev pub OkAnd : {X E : Type 0} → Result X E → (X → Type 0) → Type 0
OkAnd (Ok x) P = P x
OkAnd (Err e) P = ⊥

abbrev pub Finds : {X : Type 0} → Result X PageFault → (X → Type 0) → Type 0
Finds (Ok x) P = P x
Finds (Err e) P = e ≡ Memory
