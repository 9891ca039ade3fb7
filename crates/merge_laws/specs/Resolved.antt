-- Pasts in which each changeset was accepted on its parents.
--     IsResolved c first second      the changeset keeps its rules, sets no path under another, and leaves nothing unresolved between its parents
--     AreResolved past      each of a past is so on its parents;  AreMergesResolved past      each leaves nothing unresolved
--     has_dir past d      a directory is there. In no tree at all there is none
--     AreApart first second, AreAllApart past      at one directory of both parents different nodes have different ids;  the same of each of a past on its parents
use Rattle.std.specs.Prelude.{◌≡◌, Bool, true, false, None}
use Rattle.changeset_model.specs.Path.{Path}
use Rattle.changeset_model.specs.Changeset.{is_changeset, self_conflict}
use Rattle.history_model.specs.History.{Known}
use Rattle.history_model.specs.Past.{Past, Begin, At}
use Rattle.history_model.specs.Tree.{files_in, is_dir}
use Rattle.history_model.specs.Merge.{unresolved}
use Rattle.manifest_model.specs.Fsnode.{fsnode, fsnode_id}
use Rattle.manifest_model.specs.Unode.{unode_id}
use Rattle.manifest_model.specs.Merged.{unode_at}

-- with one parent or none nothing can be unresolved
pub record IsResolved (c : Known) (first second : Past) : Type 0 where
  pub rules : is_changeset c.changeset ≡ true
  pub clear : self_conflict c.changeset ≡ None
  pub resolved : unresolved c.changeset (files_in first) (files_in second) ≡ None

abbrev pub AreResolved : Past → Type 0
AreResolved Begin = Unit {0}
AreResolved (At c first second) = IsResolved c first second × AreResolved first × AreResolved second

-- of which only that is told which isn't a rule of a changeset alone
abbrev pub AreMergesResolved : Past → Type 0
AreMergesResolved Begin = Unit {0}
AreMergesResolved (At c first second) = (unresolved c.changeset (files_in first) (files_in second) ≡ None) × AreMergesResolved first × AreMergesResolved second

abbrev pub has_dir : Past → Path → Bool
has_dir Begin d = false
has_dir (At c first second) d = is_dir (files_in (At c first second)) d

-- SHA-256 takes no two of them to one id
pub record AreApart (first second : Past) : Type 0 where
  pub fsnodes : (d : Path) → has_dir first d ≡ true → has_dir second d ≡ true → fsnode_id (fsnode (files_in first) d) ≡ fsnode_id (fsnode (files_in second) d) → fsnode (files_in first) d ≡ fsnode (files_in second) d
  pub unodes : (d : Path) → has_dir first d ≡ true → has_dir second d ≡ true → unode_id (unode_at first d) ≡ unode_id (unode_at second d) → unode_at first d ≡ unode_at second d

abbrev pub AreAllApart : Past → Type 0
AreAllApart Begin = Unit {0}
AreAllApart (At c first second) = AreApart first second × AreAllApart first × AreAllApart second
