-- Landings.
--     IsLandingRefusal header h caller name draft e      so it is of a landing, at any moment
--     forking, lengths_checked, merges_checked, policy_checked, paths_checked, payload_checked, collisions_checked      the steps of `land`
--     IsLandable header h caller name draft moment landing      the landing is to be entered, if there is room;  IsLanded header h caller name draft moment judged      it is judged to be
--     IsLanding before after old draft ids      the trees after a landing
use Rattle.std.specs.Prelude.{◌≡◌, ◌≤◌, ◌<◌, ◌==◌, ℕ, true, not, nat_lt, cond, List, length, map, find, Contains, None, Some, option_map, ok_or, Result}
use Rattle.std.specs.List.{list_any}
use Rattle.byte_fields.specs.Bytes.{Id, last_of}
use Rattle.changeset_model.specs.Path.{Path}
use Rattle.changeset_model.specs.Changeset.{Changeset, id_of, touched_paths}
use Rattle.history_model.specs.History as model
use Rattle.history_model.specs.History.{Known, Entry, Land, with_id, known, is_known}
use Rattle.history_model.specs.Bookmark.{head}
use Rattle.history_model.specs.Past.{past}
use Rattle.history_model.specs.Tree.{decides, tree, tree_of}
use Rattle.history_model.specs.Pushrebase.{fork, clash, rewrite, moment_of}
use Rattle.history_model.specs.Pushrebase as pushrebase
use Rattle.history_model.specs.Journal.{Header, payload_len, most_payload}
use Rattle.reply_model.specs.Reply as reply
use Rattle.reply_model.specs.Reply.{◌>>=◌, refuse_if, refuse_some, most_range, most_stack, is_merge, first_collision, told, denied_at, LandDraft, judge, entered}
use Rattle.changeset_store.specs.Grown.{AreAlone}
use Rattle.repo_calls.specs.declared.refusal.Refusal.{Refusal}
use Rattle.repo_calls.specs.Refusing.{IsRefusal}
use Rattle.repo_machine.specs.Judged.{JudgedChange}

-- ---- steps

abbrev pub IsLandingRefusal : Header → List Entry → (caller name : List ℕ) → Id → Refusal → Type 0
IsLandingRefusal header h caller name draft e = (moment : ℕ) → IsRefusal (judge header h (LandDraft caller name draft moment)) e

abbrev pub Checked : Type 0
Checked = Result (Unit {0}) reply.Refusal

abbrev pub forking : List Known → Id → Id → Result pushrebase.Fork reply.Refusal
forking ks old draft = do
  _ ← refuse_if (not (is_known ks draft)) (reply.NoChangeset draft)
  ok_or (fork ks old draft) reply.NoRoot

abbrev pub lengths_checked : pushrebase.Fork → Checked
lengths_checked f = do
  _ ← refuse_if (nat_lt most_range (length f.range)) (reply.TooFarBehind (length f.range))
  _ ← refuse_if (length f.stack == 0) reply.AlreadyIn
  refuse_if (nat_lt most_stack (length f.stack)) (reply.StackTooLong (length f.stack))

abbrev pub merges_checked : pushrebase.Fork → Checked
merges_checked f = do
  _ ← refuse_some (option_map id_of (find is_merge f.stack)) reply.MergeInStack
  refuse_some (option_map id_of (find is_merge f.range)) reply.MergeInRange

abbrev pub policy_checked : List Entry → List ℕ → pushrebase.Fork → Checked
policy_checked h caller f = refuse_some (denied_at h caller (touched_paths f.stack)) reply.denial

abbrev pub paths_checked : pushrebase.Fork → Checked
paths_checked f = refuse_some (clash (touched_paths f.stack) (touched_paths f.range)) (λ pair. reply.Clash pair.0 pair.1)

abbrev pub payload_checked : model.Landing → Checked
payload_checked landing = refuse_if (nat_lt most_payload (payload_len (Land landing))) (reply.TooLarge (payload_len (Land landing)))

abbrev pub collisions_checked : List Known → List Changeset → Checked
collisions_checked ks new = refuse_some (first_collision ks new) reply.Collision

-- ---- a landing

pub record IsLandable (header : Header) (h : List Entry) (caller name : List ℕ) (draft : Id) (moment : ℕ) (landing : model.Landing) : Type 0 where
  pub names : landing.name ≡ name
  pub drafts : landing.draft ≡ draft
  pub head_is : head h name ≡ Some landing.old
  pub old_known : is_known (known h) landing.old ≡ true
  pub fork_is : pushrebase.Fork
  pub forks : fork (known h) landing.old draft ≡ Some fork_is
  pub rewritten : landing.new ≡ rewrite fork_is.stack landing.old moment
  pub dated : landing.moment ≡ moment_of fork_is.stack moment
  pub told_is : landing.caller ≡ told h caller
  pub some : 0 < length landing.new
  pub few : length landing.new ≤ most_stack
  pub allowed : denied_at h caller (touched_paths fork_is.stack) ≡ None
  pub range_in_line : find is_merge fork_is.range ≡ None
  pub apart : clash (touched_paths fork_is.stack) (touched_paths fork_is.range) ≡ None
  pub alone : AreAlone (known h) landing.new
  pub judged : judge header h (LandDraft caller name draft moment) ≡ entered header h (reply.Landed landing.old (map id_of landing.new)) (Land landing)

pub record IsLanded (header : Header) (h : List Entry) (caller name : List ℕ) (draft : Id) (moment : ℕ) (judged : JudgedChange) : Type 0 where
  pub landing : model.Landing
  pub able : IsLandable header h caller name draft moment landing
  pub made_is : judged.made ≡ Some (Land landing)
  pub granted_is : judged.granted ≡ reply.Landed landing.old (map id_of landing.new)

-- The new head's tree has what the stack sets where a member of it decides, and else what the old head's has. At each path that the stack touches the old head's tree has what the root's has. There may be merges in the pasts of the root, and so of the old head.
pub record IsLanding (before after : List Known) (old draft : Id) (ids : List Id) : Type 0 where
  pub fork_is : pushrebase.Fork
  pub forks : fork before old draft ≡ Some fork_is
  pub new_head : Id
  pub new_head_is : last_of ids ≡ Some new_head
  pub applied : (p : Path) → tree_of (past after new_head) p ≡ cond (list_any (λ c. decides c p) fork_is.stack) (tree fork_is.stack p) (tree_of (past before old) p)
  pub unchanged : (p : Path) → Contains (touched_paths fork_is.stack) p → tree_of (past before old) p ≡ tree_of (past before fork_is.root.id) p
