-- Bytes are one reply at most, and a text is one page at most.
use Rattle.std.proofs.Common.{◌≡◌, ℕ, ◌+◌, ◌<◌, ◌^◌, cond, List, [], ◌∷◌, refl, sym, ap, subst, ◌∙◌, codes}
use Rattle.std.specs.Prelude.{Option, None, Some, unwrap_or, IfSome, bytes_eq, Result}
use Rattle.std.specs.List.{AllByRecursion}
use Rattle.std.specs.Option.{option_map_or}
use Rattle.std.specs.Result.{result_unwrap_or}
use Rattle.std.proofs.lemmas.List.{append-nil}
use Rattle.hex.specs.Hex.{decode_sized}
use Rattle.serde_json.specs.Data.{Num, unsigned, negative, float, Data, null, boolean, number, string, array, object, Items, no_items, item, Members, no_members, member}
use Rattle.serde_json.specs.View.{items_of}
use Rattle.byte_fields.specs.Bytes.{Id}
use Rattle.byte_fields.proofs.Booleans.{same_some}
use Rattle.reply_model.specs.Log.{LogLine, ContentLine, WholeLine, ChangesetLine, BookmarkLine, LandingLine, PolicyLine}
use Rattle.repo_text.specs.Spelling.{id_data, maybe_id_data}
use Rattle.reply_reader.specs.Replies.{Reply, IsReply}
use Rattle.reply_reader.proofs.Found.{reply_unique}
use Rattle.page_reader.specs.Pages.{IsId, IsTold, IsPage}
use Rattle.page_reader.specs.Values.{ids_data, line_data, lines_data, page_data}
use Rattle.page_reader.proofs.Ids.{hex_is_read}
use Rattle.page_reader.proofs.Lines.{page_is_read}
use Rattle.follower.specs.declared.wanted.Wanted.{Wanted}
use Rattle.follower.specs.declared.wanted.Wanted.TheVariants.{Page}
use Rattle.follower.specs.Wanting.{IsAnswered, limit_of, reply_wanted}
use Rattle.follower.specs.Hearing.{IsPageReply}

-- ---- replies

pub answered_once : (wanted : Wanted) (bytes body other rest last : List ℕ) → IsAnswered wanted bytes body rest → IsAnswered wanted bytes other last → (body ≡ other) × (rest ≡ last)
answered_once wanted bytes body other rest last one two =
    let same = reply_unique (limit_of wanted) bytes [] (reply_wanted wanted body) (reply_wanted wanted other) rest last one (subst (λ (b : List ℕ). IsReply (limit_of wanted) b (reply_wanted wanted other) last) (sym (append-nil bytes)) two) in
    (ap (λ (r : Reply). r.body) same.0, sym (append-nil rest) ∙ same.1)

-- ---- what a value tells

abbrev text_in : Data → List ℕ
text_in (string s) = s
text_in null = []
text_in (boolean b) = []
text_in (number n) = []
text_in (array ds) = []
text_in (object ms) = []

abbrev unsigned_in : Num → ℕ
unsigned_in (unsigned n) = n
unsigned_in (negative z) = 0
unsigned_in (float x) = 0

abbrev number_in : Data → ℕ
number_in (number n) = unsigned_in n
number_in null = 0
number_in (boolean b) = 0
number_in (string s) = 0
number_in (array ds) = 0
number_in (object ms) = 0

abbrev id_in : Data → Id
id_in d = result_unwrap_or (decode_sized (text_in d) 32) []

abbrev maybe_id_in : Data → Option Id
maybe_id_in (string s) = Some (id_in (string s))
maybe_id_in null = None
maybe_id_in (boolean b) = None
maybe_id_in (number n) = None
maybe_id_in (array ds) = None
maybe_id_in (object ms) = None

abbrev ids_in_items : Items → List Id
ids_in_items no_items = []
ids_in_items (item d ds) = id_in d ∷ ids_in_items ds

abbrev ids_in : Data → List Id
ids_in (array ds) = ids_in_items ds
ids_in null = []
ids_in (boolean b) = []
ids_in (number n) = []
ids_in (string s) = []
ids_in (object ms) = []

abbrev at_name : List ℕ → Members → Option Data
at_name name no_members = None
at_name name (member k d ms) = cond (bytes_eq k name) (Some d) (at_name name ms)

abbrev value : List ℕ → Members → Data
value name ms = unwrap_or (at_name name ms) null

abbrev caller_in : Members → Option (List ℕ)
caller_in ms = option_map_or (λ d. Some (text_in d)) (at_name (codes "caller") ms) None

abbrev moment_in : Members → Option ℕ
moment_in ms = option_map_or (λ d. Some (number_in d)) (at_name (codes "moment") ms) None

abbrev line_by : List ℕ → Members → LogLine
line_by kind ms =
    cond (bytes_eq kind (codes "content")) (ContentLine (id_in (value (codes "id") ms)) (number_in (value (codes "size") ms)))
    (cond (bytes_eq kind (codes "whole")) (WholeLine (id_in (value (codes "id") ms)) (number_in (value (codes "size") ms)) (ids_in (value (codes "parts") ms)))
    (cond (bytes_eq kind (codes "changeset")) (ChangesetLine (id_in (value (codes "id") ms)))
    (cond (bytes_eq kind (codes "bookmark")) (BookmarkLine (record { name = text_in (value (codes "name") ms); from = maybe_id_in (value (codes "from") ms); to = maybe_id_in (value (codes "to") ms); caller = caller_in ms }))
    (cond (bytes_eq kind (codes "landing")) (LandingLine (caller_in ms) (text_in (value (codes "name") ms)) (id_in (value (codes "old") ms)) (id_in (value (codes "draft") ms)) (moment_in ms) (ids_in (value (codes "ids") ms)))
    (PolicyLine (text_in (value (codes "caller") ms)) (number_in (value (codes "rules") ms)))))))

abbrev line_in : Data → LogLine
line_in (object ms) = line_by (text_in (value (codes "kind") ms)) ms
line_in null = ChangesetLine []
line_in (boolean b) = ChangesetLine []
line_in (number n) = ChangesetLine []
line_in (string s) = ChangesetLine []
line_in (array ds) = ChangesetLine []

abbrev lines_in_items : Items → List LogLine
lines_in_items no_items = []
lines_in_items (item d ds) = line_in d ∷ lines_in_items ds

abbrev lines_in : Data → List LogLine
lines_in (array ds) = lines_in_items ds
lines_in null = []
lines_in (boolean b) = []
lines_in (number n) = []
lines_in (string s) = []
lines_in (object ms) = []

abbrev members_in : Data → Members
members_in (object ms) = ms
members_in null = no_members
members_in (boolean b) = no_members
members_in (number n) = no_members
members_in (string s) = no_members
members_in (array ds) = no_members

-- ---- a value is told of one line

id_back : (x : Id) → IsId x → id_in (id_data x) ≡ x
id_back x is = ap (λ (r : Result Id _). result_unwrap_or r []) (hex_is_read _ x is refl)

maybe_id_back : (x : Option Id) → IfSome x IsId → maybe_id_in (maybe_id_data x) ≡ x
maybe_id_back None is = refl
maybe_id_back (Some x) is = ap (λ (y : Id). Some y) (id_back x is)

ids_back : (xs : List Id) → AllByRecursion IsId xs → ids_in (ids_data xs) ≡ xs
ids_back [] all = refl
ids_back (x ∷ xs) all = (λ i. id_back x all.0 i ∷ ids_back xs all.1 i)

move_back : (n : ℕ) (caller : Option (List ℕ)) (name : List ℕ) (from to : Option Id) → IfSome from IsId → IfSome to IsId → line_in (line_data n (BookmarkLine (record { name = name; from = from; to = to; caller = caller }))) ≡ BookmarkLine (record { name = name; from = from; to = to; caller = caller })
move_back n None name from to f t = (λ i. BookmarkLine (record { name = name; from = maybe_id_back from f i; to = maybe_id_back to t i; caller = None }))
move_back n (Some caller) name from to f t = (λ i. BookmarkLine (record { name = name; from = maybe_id_back from f i; to = maybe_id_back to t i; caller = Some caller }))

landing_back : (n : ℕ) (caller : Option (List ℕ)) (name : List ℕ) (old draft : Id) (moment : Option ℕ) (ids : List Id) → IsId old → IsId draft → AllByRecursion IsId ids → line_in (line_data n (LandingLine caller name old draft moment ids)) ≡ LandingLine caller name old draft moment ids
landing_back n None name old draft None ids o d all = (λ i. LandingLine None name (id_back old o i) (id_back draft d i) None (ids_back ids all i))
landing_back n None name old draft (Some moment) ids o d all = (λ i. LandingLine None name (id_back old o i) (id_back draft d i) (Some moment) (ids_back ids all i))
landing_back n (Some caller) name old draft None ids o d all = (λ i. LandingLine (Some caller) name (id_back old o i) (id_back draft d i) None (ids_back ids all i))
landing_back n (Some caller) name old draft (Some moment) ids o d all = (λ i. LandingLine (Some caller) name (id_back old o i) (id_back draft d i) (Some moment) (ids_back ids all i))

line_back : (n : ℕ) (line : LogLine) → IsTold line → line_in (line_data n line) ≡ line
line_back n (ContentLine x size) told = ap (λ (y : Id). ContentLine y size) (id_back x told.0)
line_back n (WholeLine x size parts) told = (λ i. WholeLine (id_back x told.0 i) size (ids_back parts told.2 i))
line_back n (ChangesetLine x) told = ap ChangesetLine (id_back x told)
line_back n (BookmarkLine move) told = move_back n move.caller move.name move.from move.to told.1 told.2
line_back n (LandingLine caller name old draft moment ids) told = landing_back n caller name old draft moment ids told.1 told.2 told.4
line_back n (PolicyLine caller rules) told = refl

lines_back : (n : ℕ) (lines : List LogLine) → AllByRecursion IsTold lines → lines_in_items (items_of (lines_data n lines)) ≡ lines
lines_back n [] told = refl
lines_back n (line ∷ lines) told = (λ i. line_back n line told.0 i ∷ lines_back (n + 1) lines told.1 i)

-- ---- pages

pub record SamePage (lines others : List LogLine) (total other : ℕ) : Type 0 where
  pub lines_are : lines ≡ others
  pub total_is : total ≡ other

page_once : (n : ℕ) (text : List ℕ) (lines others : List LogLine) (total other : ℕ) → n < 2 ^ 64 → IsPage n text lines total → IsPage n text others other → SamePage lines others total other
page_once n text lines others total other small one two =
    let same : page_data n lines total ≡ page_data n others other = same_some _ _ (sym (page_is_read n text lines total small one) ∙ page_is_read n text others other small two) in
    record {
      lines_are = sym (lines_back n lines one.told) ∙ ap (λ d. lines_in (value (codes "entries") (members_in d))) same ∙ lines_back n others two.told;
      total_is = ap (λ d. number_in (value (codes "total") (members_in d))) same;
    }

pub record SameReply (lines others : List LogLine) (total other : ℕ) (rest last : List ℕ) : Type 0 where
  pub lines_are : lines ≡ others
  pub total_is : total ≡ other
  pub rest_is : rest ≡ last

pub page_replied_once : (n : ℕ) (bytes : List ℕ) (lines others : List LogLine) (total other : ℕ) (rest last : List ℕ) → n < 2 ^ 64 → IsPageReply n bytes lines total rest → IsPageReply n bytes others other last → SameReply lines others total other rest last
page_replied_once n bytes lines others total other rest last small one two =
    let answered = answered_once (Page n) bytes one.0 two.0 rest last one.1 two.1 in
    let same = page_once n two.0 lines others total other small (subst (λ (t : List ℕ). IsPage n t lines total) answered.0 one.2) two.2 in
    record { lines_are = same.lines_are; total_is = same.total_is; rest_is = answered.1 }
