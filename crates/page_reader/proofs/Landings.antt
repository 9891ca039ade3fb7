-- The parts of the values of entries, and the kinds of the lines.
use Rattle.std.proofs.Common.{◌≡◌, ◌≢◌, ℕ, ◌*◌, ◌+◌, refl, List, Option, None, Some, Result, Ok, Err, get_or, codes, ap, arith}
use Rattle.std.specs.Prelude.{option_map}
use Rattle.serde_json.specs.Data.{Data, number, unsigned, string}
use Rattle.serde_json.specs.Find.{get}
use Rattle.byte_fields.specs.Bytes.{Id}
use Rattle.history_model.specs.History.{Move}
use Rattle.reply_model.specs.Log.{LogLine, ContentLine, WholeLine, ChangesetLine, BookmarkLine, LandingLine, PolicyLine}
use Rattle.repo_text.specs.Spelling.{id_data, maybe_id_data}
use Rattle.page_reader.specs.declared.page_fault.PageFault.{PageFault}
use Rattle.page_reader.specs.Pages.{IsId, IsTold}
use Rattle.page_reader.specs.Values.{ids_data, bookmark_data, landing_data, line_data, OkAnd, Finds}

pub landing_caller_at : (n : ℕ) (caller : Option (List ℕ)) (name : List ℕ) (old draft : Id) (moment : Option ℕ) (ids : List Id) → get (codes "caller") (landing_data n caller name old draft moment ids) ≡ option_map (λ c. string c) caller
landing_caller_at n None name old draft None ids = refl
landing_caller_at n None name old draft (Some moment) ids = refl
landing_caller_at n (Some caller) name old draft None ids = refl
landing_caller_at n (Some caller) name old draft (Some moment) ids = refl

pub landing_draft_at : (n : ℕ) (caller : Option (List ℕ)) (name : List ℕ) (old draft : Id) (moment : Option ℕ) (ids : List Id) → get (codes "draft") (landing_data n caller name old draft moment ids) ≡ Some (id_data draft)
landing_draft_at n None name old draft moment ids = refl
landing_draft_at n (Some caller) name old draft moment ids = refl

pub landing_ids_at : (n : ℕ) (caller : Option (List ℕ)) (name : List ℕ) (old draft : Id) (moment : Option ℕ) (ids : List Id) → get (codes "ids") (landing_data n caller name old draft moment ids) ≡ Some (ids_data ids)
landing_ids_at n None name old draft moment ids = refl
landing_ids_at n (Some caller) name old draft moment ids = refl

pub moment_at : (n : ℕ) (caller : Option (List ℕ)) (name : List ℕ) (old draft : Id) (moment : Option ℕ) (ids : List Id) → get (codes "moment") (landing_data n caller name old draft moment ids) ≡ option_map (λ m. number (unsigned m)) moment
moment_at n None name old draft None ids = refl
moment_at n None name old draft (Some moment) ids = refl
moment_at n (Some caller) name old draft None ids = refl
moment_at n (Some caller) name old draft (Some moment) ids = refl

pub landing_name_at : (n : ℕ) (caller : Option (List ℕ)) (name : List ℕ) (old draft : Id) (moment : Option ℕ) (ids : List Id) → get (codes "name") (landing_data n caller name old draft moment ids) ≡ Some (string name)
landing_name_at n None name old draft None ids = refl
landing_name_at n None name old draft (Some moment) ids = refl
landing_name_at n (Some caller) name old draft None ids = refl
landing_name_at n (Some caller) name old draft (Some moment) ids = refl

pub landing_old_at : (n : ℕ) (caller : Option (List ℕ)) (name : List ℕ) (old draft : Id) (moment : Option ℕ) (ids : List Id) → get (codes "old") (landing_data n caller name old draft moment ids) ≡ Some (id_data old)
landing_old_at n None name old draft None ids = refl
landing_old_at n None name old draft (Some moment) ids = refl
landing_old_at n (Some caller) name old draft None ids = refl
landing_old_at n (Some caller) name old draft (Some moment) ids = refl

pub move_caller_at : (n : ℕ) (caller : Option (List ℕ)) (name : List ℕ) (from to : Option Id) → get (codes "caller") (bookmark_data n caller name from to) ≡ option_map (λ c. string c) caller
move_caller_at n None name from to = refl
move_caller_at n (Some caller) name from to = refl

pub move_from_at : (n : ℕ) (caller : Option (List ℕ)) (name : List ℕ) (from to : Option Id) → get (codes "from") (bookmark_data n caller name from to) ≡ Some (maybe_id_data from)
move_from_at n None name from to = refl
move_from_at n (Some caller) name from to = refl

pub move_name_at : (n : ℕ) (caller : Option (List ℕ)) (name : List ℕ) (from to : Option Id) → get (codes "name") (bookmark_data n caller name from to) ≡ Some (string name)
move_name_at n None name from to = refl
move_name_at n (Some caller) name from to = refl

pub move_to_at : (n : ℕ) (caller : Option (List ℕ)) (name : List ℕ) (from to : Option Id) → get (codes "to") (bookmark_data n caller name from to) ≡ Some (maybe_id_data to)
move_to_at n None name from to = refl
move_to_at n (Some caller) name from to = refl

-- ---- kinds

abbrev pub kind_of : LogLine → List ℕ
kind_of (ContentLine x size) = codes "content"
kind_of (WholeLine x size parts) = codes "whole"
kind_of (ChangesetLine x) = codes "changeset"
kind_of (BookmarkLine move) = codes "bookmark"
kind_of (LandingLine caller name old draft moment ids) = codes "landing"
kind_of (PolicyLine caller rules) = codes "policy"

landing_kind_at : (n : ℕ) (caller : Option (List ℕ)) (name : List ℕ) (old draft : Id) (moment : Option ℕ) (ids : List Id) → get (codes "kind") (landing_data n caller name old draft moment ids) ≡ Some (string (codes "landing"))
landing_kind_at n None name old draft moment ids = refl
landing_kind_at n (Some caller) name old draft moment ids = refl

move_kind_at : (n : ℕ) (caller : Option (List ℕ)) (name : List ℕ) (from to : Option Id) → get (codes "kind") (bookmark_data n caller name from to) ≡ Some (string (codes "bookmark"))
move_kind_at n None name from to = refl
move_kind_at n (Some caller) name from to = refl

pub kind_at : (n : ℕ) (line : LogLine) → get (codes "kind") (line_data n line) ≡ Some (string (kind_of line))
kind_at n (ContentLine x size) = refl
kind_at n (WholeLine x size parts) = refl
kind_at n (ChangesetLine x) = refl
kind_at n (BookmarkLine move) = move_kind_at n move.caller move.name move.from move.to
kind_at n (LandingLine caller name old draft moment ids) = landing_kind_at n caller name old draft moment ids
kind_at n (PolicyLine caller rules) = refl

-- the first two letters tell the kinds apart
abbrev letters : List ℕ → ℕ
letters s = get_or s 0 0 * 256 + get_or s 1 0

found_ok : {X : Type 0} (r : Result X PageFault) (P Q : X → Type 0) → ((x : X) → P x → Q x) → OkAnd r P → Finds r Q
found_ok (Ok x) P Q f ok = f x ok
found_ok (Err e) P Q f ok = absurd ok

pub content_found : {X : Type 0} (r : Result X PageFault) (seen : X → LogLine) (n : ℕ) (line : LogLine) (value : Data) → IsTold line → kind_of line ≡ codes "content" → value ≡ line_data n line
    → ((m : ℕ) (x : Id) (size : ℕ) → IsId x → value ≡ line_data m (ContentLine x size) → OkAnd r (λ e. seen e ≡ ContentLine x size)) → Finds r (λ e. seen e ≡ line)
content_found r seen n (ContentLine x size) value told kind same found = found_ok r _ _ (λ e is. is) (found n x size told.0 same)
content_found r seen n (WholeLine x size parts) value told kind same found = absurd (omega (arith, ap letters kind))
content_found r seen n (ChangesetLine x) value told kind same found = absurd (omega (arith, ap letters kind))
content_found r seen n (BookmarkLine move) value told kind same found = absurd (omega (arith, ap letters kind))
content_found r seen n (LandingLine caller name old draft moment ids) value told kind same found = absurd (omega (arith, ap letters kind))
content_found r seen n (PolicyLine caller rules) value told kind same found = absurd (omega (arith, ap letters kind))

pub whole_found : {X : Type 0} (r : Result X PageFault) (seen : X → LogLine) (n : ℕ) (line : LogLine) (value : Data) → IsTold line → kind_of line ≡ codes "whole" → value ≡ line_data n line
    → ((m : ℕ) (x : Id) (size : ℕ) (parts : List Id) → IsTold (WholeLine x size parts) → value ≡ line_data m (WholeLine x size parts) → Finds r (λ e. seen e ≡ WholeLine x size parts)) → Finds r (λ e. seen e ≡ line)
whole_found r seen n (ContentLine x size) value told kind same found = absurd (omega (arith, ap letters kind))
whole_found r seen n (WholeLine x size parts) value told kind same found = found n x size parts told same
whole_found r seen n (ChangesetLine x) value told kind same found = absurd (omega (arith, ap letters kind))
whole_found r seen n (BookmarkLine move) value told kind same found = absurd (omega (arith, ap letters kind))
whole_found r seen n (LandingLine caller name old draft moment ids) value told kind same found = absurd (omega (arith, ap letters kind))
whole_found r seen n (PolicyLine caller rules) value told kind same found = absurd (omega (arith, ap letters kind))

pub changeset_found : {X : Type 0} (r : Result X PageFault) (seen : X → LogLine) (n : ℕ) (line : LogLine) (value : Data) → IsTold line → kind_of line ≡ codes "changeset" → value ≡ line_data n line
    → ((m : ℕ) (x : Id) → IsId x → value ≡ line_data m (ChangesetLine x) → OkAnd r (λ e. seen e ≡ ChangesetLine x)) → Finds r (λ e. seen e ≡ line)
changeset_found r seen n (ContentLine x size) value told kind same found = absurd (omega (arith, ap letters kind))
changeset_found r seen n (WholeLine x size parts) value told kind same found = absurd (omega (arith, ap letters kind))
changeset_found r seen n (ChangesetLine x) value told kind same found = found_ok r _ _ (λ e is. is) (found n x told same)
changeset_found r seen n (BookmarkLine move) value told kind same found = absurd (omega (arith, ap letters kind))
changeset_found r seen n (LandingLine caller name old draft moment ids) value told kind same found = absurd (omega (arith, ap letters kind))
changeset_found r seen n (PolicyLine caller rules) value told kind same found = absurd (omega (arith, ap letters kind))

pub bookmark_found : {X : Type 0} (r : Result X PageFault) (seen : X → LogLine) (n : ℕ) (line : LogLine) (value : Data) → IsTold line → kind_of line ≡ codes "bookmark" → value ≡ line_data n line
    → ((m : ℕ) (move : Move) → IsTold (BookmarkLine move) → value ≡ line_data m (BookmarkLine move) → Finds r (λ e. seen e ≡ BookmarkLine move)) → Finds r (λ e. seen e ≡ line)
bookmark_found r seen n (ContentLine x size) value told kind same found = absurd (omega (arith, ap letters kind))
bookmark_found r seen n (WholeLine x size parts) value told kind same found = absurd (omega (arith, ap letters kind))
bookmark_found r seen n (ChangesetLine x) value told kind same found = absurd (omega (arith, ap letters kind))
bookmark_found r seen n (BookmarkLine move) value told kind same found = found n move told same
bookmark_found r seen n (LandingLine caller name old draft moment ids) value told kind same found = absurd (omega (arith, ap letters kind))
bookmark_found r seen n (PolicyLine caller rules) value told kind same found = absurd (omega (arith, ap letters kind))

pub landing_found : {X : Type 0} (r : Result X PageFault) (seen : X → LogLine) (n : ℕ) (line : LogLine) (value : Data) → IsTold line → kind_of line ≡ codes "landing" → value ≡ line_data n line
    → ((m : ℕ) (caller : Option (List ℕ)) (name : List ℕ) (old draft : Id) (moment : Option ℕ) (ids : List Id) → IsTold (LandingLine caller name old draft moment ids) → value ≡ landing_data m caller name old draft moment ids → Finds r (λ e. seen e ≡ LandingLine caller name old draft moment ids)) → Finds r (λ e. seen e ≡ line)
landing_found r seen n (ContentLine x size) value told kind same found = absurd (omega (arith, ap letters kind))
landing_found r seen n (WholeLine x size parts) value told kind same found = absurd (omega (arith, ap letters kind))
landing_found r seen n (ChangesetLine x) value told kind same found = absurd (omega (arith, ap letters kind))
landing_found r seen n (BookmarkLine move) value told kind same found = absurd (omega (arith, ap letters kind))
landing_found r seen n (LandingLine caller name old draft moment ids) value told kind same found = found n caller name old draft moment ids told same
landing_found r seen n (PolicyLine caller rules) value told kind same found = absurd (omega (arith, ap letters kind))

pub policy_found : {X : Type 0} (r : Result X PageFault) (seen : X → LogLine) (n : ℕ) (line : LogLine) (value : Data) → IsTold line → kind_of line ≡ codes "policy" → value ≡ line_data n line
    → ((m : ℕ) (caller : List ℕ) (rules : ℕ) → IsTold (PolicyLine caller rules) → value ≡ line_data m (PolicyLine caller rules) → Finds r (λ e. seen e ≡ PolicyLine caller rules)) → Finds r (λ e. seen e ≡ line)
policy_found r seen n (ContentLine x size) value told kind same found = absurd (omega (arith, ap letters kind))
policy_found r seen n (WholeLine x size parts) value told kind same found = absurd (omega (arith, ap letters kind))
policy_found r seen n (ChangesetLine x) value told kind same found = absurd (omega (arith, ap letters kind))
policy_found r seen n (BookmarkLine move) value told kind same found = absurd (omega (arith, ap letters kind))
policy_found r seen n (LandingLine caller name old draft moment ids) value told kind same found = absurd (omega (arith, ap letters kind))
policy_found r seen n (PolicyLine caller rules) value told kind same found = found n caller rules told same

-- each line is of one of these kinds
pub of_some_kind : (line : LogLine) → kind_of line ≢ codes "content" → kind_of line ≢ codes "whole" → kind_of line ≢ codes "changeset" → kind_of line ≢ codes "bookmark" → kind_of line ≢ codes "landing" → kind_of line ≢ codes "policy" → ⊥
of_some_kind (ContentLine x size) a b d e f g = a refl
of_some_kind (WholeLine x size parts) a b d e f g = b refl
of_some_kind (ChangesetLine x) a b d e f g = d refl
of_some_kind (BookmarkLine move) a b d e f g = e refl
of_some_kind (LandingLine caller name old draft moment ids) a b d e f g = f refl
of_some_kind (PolicyLine caller rules) a b d e f g = g refl
