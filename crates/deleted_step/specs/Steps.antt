-- What the deleted nodes of a changeset are derived from, and what is derived.
--     are_set x gone come      the links that are set: of a file that is gone it is x, and a file that comes has none
--     AreComeAndGone c first second gone come      the paths of the files that the first parent has and c hasn't, and of those that c has and the first parent hasn't
--     is_on_way ps d      the root, one of these paths, or a directory above one
--     IsHeld contents n, AreHeld contents first      a node is among those that are read, under its id;  so are all of the first parent's
--     AreHeldAt contents first ps      so are those of the first parent's that lie on the way to these paths
--     IsLedTo contents id n      the node of an id that was found, or one with nothing in it where none was found
--     IsNoNode contents id      there is no deleted node of this id
--     root_on past      the id of the root of a changeset that is there
--     AreGiven contents top c first second x gone come      all of this
--     IsStart first now ls u      the first parent's nodes once the links of now were set, of which the nodes of now are made
--     ways ps      the paths and the directories above them, rising, the root first
--     IsNodeOf now bytes      the bytes are a node of the definitions
--     IsNew nodes n      a node is among these, and keeps its rules
--     IsDoneOf first now ps done      the root is that of the definitions' deleted nodes, of which the new ones are here and all others are the first parent's at the same path. There is at most one new one for each of ways ps
use Rattle.std.specs.Prelude.{◌≡◌, ◌≢◌, ◌⊎◌, ℕ, ◌≤◌, ◌&&◌, ◌||◌, ◌==◌, Bool, true, false, List, [], ◌∷◌, ◌++◌, length, map, flat_map, Contains, Option, None, Some, Ok, is_some, is_none}
use Rattle.std.specs.List.{AllByRecursion, list_any}
use Rattle.std.specs.Ordering.{eq_by_cmp}
use Rattle.byte_fields.specs.Bytes.{Id}
use Rattle.changeset_model.specs.Path.{Path, path_cmp, is_prefix, rising}
use Rattle.history_model.specs.History.{Known}
use Rattle.history_model.specs.Past.{Past, Begin, At}
use Rattle.history_model.specs.Tree.{tree_of}
use Rattle.manifest_model.specs.Deleted.{DeletedNode, deleted, deleted_at, deleted_bytes, deleted_id, has_deleted, is_deleted}
use Rattle.manifest_model.specs.Manifests.{above}
use Rattle.manifest_model.specs.NodeReading.{deleted_of}
use Rattle.deleted_step.specs.declared.done.Done.{Done}
use Rattle.deleted_step.specs.declared.unfolded.Unfolded.{Unfolded}
use Rattle.deleted_step.specs.Opened.{is_there}
use Rattle.deleted_step.specs.Unfolded.{IsUnfolded, Links, link_after}

-- ---- what is given

abbrev pub is_among : Path → List Path → Bool
is_among p ps = list_any (eq_by_cmp path_cmp p) ps

pub record AreComeAndGone (c : Known) (first second : Past) (gone come : List Path) : Type 0 where
  pub went : (p : Path) → is_among p gone ≡ (is_some (tree_of first p) && is_none (tree_of (At c first second) p))
  pub came : (p : Path) → is_among p come ≡ (is_none (tree_of first p) && is_some (tree_of (At c first second) p))

pub record IsHeld (contents : Id → Option (List ℕ)) (n : DeletedNode) : Type 0 where
  pub there : contents (deleted_id n) ≡ Some (deleted_bytes n)
  pub rules : is_deleted n ≡ true

abbrev pub AreHeld : (Id → Option (List ℕ)) → Past → Type 0
AreHeld contents Begin = Unit {0}
AreHeld contents (At c first second) = (d : Path) → has_deleted (At c first second) d ≡ true → IsHeld contents (deleted (At c first second) d)

abbrev pub is_on_way : List Path → Path → Bool
is_on_way ps d = (length d == 0) || list_any (λ p. is_prefix d p) ps

abbrev pub AreHeldAt : (Id → Option (List ℕ)) → Past → List Path → Type 0
AreHeldAt contents Begin ps = Unit {0}
AreHeldAt contents (At c first second) ps = (d : Path) → is_on_way ps d ≡ true → has_deleted (At c first second) d ≡ true → IsHeld contents (deleted (At c first second) d)

-- of a node that leads to another one, or has no entry for it
abbrev pub IsLedTo : (Id → Option (List ℕ)) → Option Id → DeletedNode → Type 0
IsLedTo contents None n = is_there n ≡ false
IsLedTo contents (Some x) n = (x ≡ deleted_id n) × IsHeld contents n

abbrev pub IsNoNode : (Id → Option (List ℕ)) → Id → Type 0
IsNoNode contents id = (bytes : List ℕ) (n : DeletedNode) → contents id ≡ Some bytes → deleted_of bytes ≢ Ok n

abbrev pub root_on : Past → Option Id
root_on Begin = None
root_on (At c first second) = Some (deleted_id (deleted (At c first second) []))

pub record AreGiven (contents : Id → Option (List ℕ)) (top : Option Id) (c : Known) (first second : Past) (x : Id) (gone come : List Path) : Type 0 where
  pub id : x ≡ c.id
  pub root : top ≡ root_on first
  pub held : AreHeldAt contents first (gone ++ come)
  pub files : AreComeAndGone c first second gone come

-- ---- what is derived

abbrev pub are_set : Id → List Path → List Path → Links
are_set x gone come = map (λ p. (p, Some x)) gone ++ map (λ p. (p, None)) come

pub record IsStart (first now : Past) (ls : Links) (u : Unfolded) : Type 0 where
  pub unfolded : IsUnfolded first ls [] u
  pub links : (d : Path) → deleted_at now d ≡ link_after ls d (deleted_at first d)

abbrev pub ways : List Path → List Path
ways ps = rising ([] ∷ flat_map (λ p. p ∷ above p) ps)

abbrev pub IsNodeOf : Past → List ℕ → Type 0
IsNodeOf now bytes = (d : Path) × (has_deleted now d ≡ true) × (bytes ≡ deleted_bytes (deleted now d))

pub record IsNew (nodes : List (List ℕ)) (n : DeletedNode) : Type 0 where
  pub here : Contains nodes (deleted_bytes n)
  pub rules : is_deleted n ≡ true

pub record IsDoneOf (first now : Past) (ps : List Path) (done : Done) : Type 0 where
  pub root : done.root ≡ deleted_id (deleted now [])
  pub root_new : IsNew done.nodes.items (deleted now [])
  pub right : AllByRecursion (IsNodeOf now) done.nodes.items
  pub whole : (d : Path) → has_deleted now d ≡ true → IsNew done.nodes.items (deleted now d) ⊎ ((has_deleted first d ≡ true) × (deleted now d ≡ deleted first d))
  pub few : length done.nodes.items ≤ length (ways ps)
