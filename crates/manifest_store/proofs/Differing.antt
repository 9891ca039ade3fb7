-- Directories of which two parents have different unodes.
use Rattle.std.proofs.Common.{◌≡◌, ℕ, Bool, true, false, List, [], ◌∷◌, ◌++◌, length, drop, refl, sym, ap, subst, ◌∙◌, append_assoc}
use Rattle.std.specs.Prelude.{Option, Some, None, not, bytes_eq, option_map}
use Rattle.std.specs.Option.{option_and_then}
use mathlib.Core.Bool.{true≢false}
use Rattle.byte_fields.specs.Bytes.{Id}
use Rattle.byte_fields.proofs.Booleans.{same_some}
use Rattle.changeset_model.specs.Path.{Path, is_prefix}
use Rattle.manifest_model.specs.Fsnode.{Fsnode, FsEntry, FsFile, FsDir}
use Rattle.manifest_model.specs.Unode.{Unode, UnodeEntry, UnodeFile, UnodeDir}
use Rattle.manifest_laws.specs.Entries.{unode_entry_at}
use Rattle.manifest_laws.proofs.Names.{name_itself, same_name}
use Rattle.manifest_laws.proofs.Lists.{none_some}
use Rattle.tree_fold.proofs.Texts.{front_rest}
use Rattle.node_table.specs.Table.{Nodes}
use Rattle.derive_step.specs.declared.job.DirIds.{DirIds}
use Rattle.derive_step.specs.Views.{Before, are_apart}
use Rattle.manifest_store.specs.Nodes.{fsnode_under, manifest_under, dir_under, both_dirs, child_ids, child_under, dir_from}
use Rattle.manifest_store.specs.Apart.{are_apart_from, are_ids_apart, is_child_apart}
use Rattle.manifest_store.proofs.Gathered.{snoc}

-- ---- of two that may be there

not_apart : {P : Type 0} (o : Option Before) → are_apart o None ≡ true → P
not_apart None h = absurd (true≢false (sym h))
not_apart (Some x) h = absurd (true≢false (sym h))

same_ids : {P : Type 0} (x y : Before) → x.unode_id ≡ y.unode_id → are_apart (Some x) (Some y) ≡ true → P
same_ids x y e h = absurd (true≢false (sym h ∙ ap not (ap (λ i. bytes_eq i y.unode_id) e ∙ name_itself y.unode_id)))

pub unode_in : (o : Option FsEntry) (u : Option UnodeEntry) (y : DirIds) → both_dirs o u ≡ Some y → u ≡ Some (UnodeDir y.unode)
unode_in None u y h = absurd cc
unode_in (Some (FsFile f)) u y h = absurd cc
unode_in (Some (FsDir x s)) None y h = absurd cc
unode_in (Some (FsDir x s)) (Some (UnodeFile z)) y h = absurd cc
unode_in (Some (FsDir x s)) (Some (UnodeDir z)) y h = ap (λ (i : DirIds). Some (UnodeDir i.unode)) (same_some (record { fsnode = x; unode = z }) y h)

same_dir : (u v : Option UnodeEntry) (x y : Id) → u ≡ Some (UnodeDir x) → v ≡ Some (UnodeDir y) → u ≡ v → x ≡ y
same_dir u v x y e f same = cc

module _ (m : Nodes) where
  -- the unode is the one under its id
  abbrev HasUnode : Before → Type 0
  HasUnode x = manifest_under m x.unode_id ≡ Some x.unode

  both : Id → Option Fsnode → Option Unode → Option Before
  both id o u = option_and_then (λ f. option_map (λ n. record { fsnode = f; unode = n; unode_id = id }) u) o

  read : (id : Id) (o : Option Fsnode) (u : Option Unode) (x : Before) → manifest_under m id ≡ u → both id o u ≡ Some x → (x.unode_id ≡ id) × HasUnode x
  unfolding both
  read id None u x e h = absurd cc
  read id (Some f) None x e h = absurd cc
  read id (Some f) (Some n) x e h =
      let y : Before = record { fsnode = f; unode = n; unode_id = id } in
      subst (λ (z : Before). (z.unode_id ≡ id) × HasUnode z) (same_some y x h) (refl, e)

  under_ids : (r : DirIds) (x : Before) → dir_under m r ≡ Some x → (x.unode_id ≡ r.unode) × HasUnode x
  unfolding both
  under_ids r x h = read r.unode (fsnode_under m r.fsnode) (manifest_under m r.unode) x refl h

  child_of : (b x : Before) (n : List ℕ) → child_under m b n ≡ Some x → (y : DirIds) × (child_ids b n ≡ Some y) × (x.unode_id ≡ y.unode) × HasUnode x
  child_of b x n h = by (child_ids b n) refl h
    where
      by : (o : Option DirIds) → child_ids b n ≡ o → option_and_then (dir_under m) o ≡ Some x → (y : DirIds) × (child_ids b n ≡ Some y) × (x.unode_id ≡ y.unode) × HasUnode x
      by None e h = absurd cc
      by (Some y) e h = let is = under_ids y x h in (y, e, is.0, is.1)

  -- where unodes have one id, so have those of what lies under them
  same_under : (r : Path) (a b x y : Before) → a.unode_id ≡ b.unode_id → HasUnode a → HasUnode b → dir_from m a r ≡ Some x → dir_from m b r ≡ Some y → x.unode_id ≡ y.unode_id
  same_under [] a b x y e ha hb p q = ap (λ (z : Before). z.unode_id) (sym (same_some a x p)) ∙ e ∙ ap (λ (z : Before). z.unode_id) (same_some b y q)
  same_under (n ∷ r) a b x y e ha hb p q = by (same_under r) (child_under m a n) refl p (child_under m b n) refl q
    where
      unodes : a.unode ≡ b.unode
      unodes = same_some a.unode b.unode (sym ha ∙ ap (manifest_under m) e ∙ hb)

      ids : (s t : DirIds) → child_ids a n ≡ Some s → child_ids b n ≡ Some t → s.unode ≡ t.unode
      ids s t f g = same_dir _ _ s.unode t.unode (unode_in _ _ s f) (unode_in _ _ t g) (ap (λ u. unode_entry_at u n) unodes)

      by : ((a b x y : Before) → a.unode_id ≡ b.unode_id → HasUnode a → HasUnode b → dir_from m a r ≡ Some x → dir_from m b r ≡ Some y → x.unode_id ≡ y.unode_id)
          → (o : Option Before) → child_under m a n ≡ o → option_and_then (λ c. dir_from m c r) o ≡ Some x → (u : Option Before) → child_under m b n ≡ u → option_and_then (λ c. dir_from m c r) u ≡ Some y → x.unode_id ≡ y.unode_id
      by later None f p u g q = absurd cc
      by later (Some c) f p None g q = absurd cc
      by later (Some c) f p (Some d) g q =
          let one = child_of a c n f in
          let two = child_of b d n g in
          later c d x y (one.2 ∙ ids one.0 two.0 one.1 two.1 ∙ sym two.2) one.3 two.3 p q

  below : (d : Path) (b : Before) (r : Path) → dir_from m b (d ++ r) ≡ option_and_then (λ c. dir_from m c r) (dir_from m b d)
  below [] b r = refl
  below (x ∷ d) b r = by (below d) (child_under m b x)
    where
      by : ((b : Before) (r : Path) → dir_from m b (d ++ r) ≡ option_and_then (λ c. dir_from m c r) (dir_from m b d)) → (o : Option Before) → option_and_then (λ c. dir_from m c (d ++ r)) o ≡ option_and_then (λ c. dir_from m c r) (option_and_then (λ c. dir_from m c d) o)
      by later None = refl
      by later (Some c) = later c r

  unode_there : (b x : Before) (d : Path) (n : List ℕ) → dir_from m b (d ++ n ∷ []) ≡ Some x → HasUnode x
  unode_there b x d n h = by (dir_from m b d) (sym (snoc m d b n) ∙ h)
    where
      by : (o : Option Before) → option_and_then (λ c. child_under m c n) o ≡ Some x → HasUnode x
      by None h = absurd cc
      by (Some c) h = (child_of c x n h).3

  -- ---- going up

  apart_there : (a b : Before) (d r : Path) → are_apart_from m a b (d ++ r) ≡ true → (x : Before) × (y : Before) × (dir_from m a d ≡ Some x) × (dir_from m b d ≡ Some y) × (are_apart_from m x y r ≡ true)
  apart_there a b d r h = by (dir_from m a d) refl (dir_from m b d) refl (sym (λ i. are_apart (below d a r i) (below d b r i)) ∙ h)
    where
      by : (o : Option Before) → dir_from m a d ≡ o → (p : Option Before) → dir_from m b d ≡ p → are_apart (option_and_then (λ c. dir_from m c r) o) (option_and_then (λ c. dir_from m c r) p) ≡ true
          → (x : Before) × (y : Before) × (dir_from m a d ≡ Some x) × (dir_from m b d ≡ Some y) × (are_apart_from m x y r ≡ true)
      by None e p f h = absurd (true≢false (sym h))
      by (Some x) e None f h = not_apart (dir_from m x r) h
      by (Some x) e (Some y) f h = (x, y, e, f, h)

  differ_above : (x y : Before) (r : Path) → HasUnode x → HasUnode y → are_apart_from m x y r ≡ true → are_apart (Some x) (Some y) ≡ true
  differ_above x y r hx hy h = by (bytes_eq x.unode_id y.unode_id) refl
    where
      none : {P : Type 0} → x.unode_id ≡ y.unode_id → (o : Option Before) → dir_from m x r ≡ o → (p : Option Before) → dir_from m y r ≡ p → are_apart o p ≡ true → P
      none same None e p f h = absurd (true≢false (sym h))
      none same (Some u) e None f h = not_apart (Some u) h
      none same (Some u) e (Some v) f h = same_ids u v (same_under r x y u v same hx hy e f) h

      by : (t : Bool) → bytes_eq x.unode_id y.unode_id ≡ t → not (bytes_eq x.unode_id y.unode_id) ≡ true
      by true e = none (same_name x.unode_id y.unode_id e) (dir_from m x r) refl (dir_from m y r) refl h
      by false e = ap not e

  -- a directory that is apart lies in one that is
  pub apart_above : (a b : Before) (d : Path) (n : List ℕ) (r : Path) → are_apart_from m a b (d ++ n ∷ r) ≡ true → are_apart_from m a b (d ++ n ∷ []) ≡ true
  apart_above a b d n r h =
      let t = apart_there a b (d ++ n ∷ []) r (ap (are_apart_from m a b) (append_assoc d (n ∷ []) r) ∙ h) in
      (λ i. are_apart (t.2 i) (t.3 i)) ∙ differ_above t.0 t.1 r (unode_there a t.0 d n t.2) (unode_there b t.1 d n t.3) t.4

  -- by the ids in the directory that it lies in
  pub child_apart : (a b x y : Before) (d : Path) (n : List ℕ) → dir_from m a d ≡ Some x → dir_from m b d ≡ Some y → are_apart_from m a b (d ++ n ∷ []) ≡ true → is_child_apart x y n ≡ true
  child_apart a b x y d n e f h =
      by (child_ids x n) (child_ids y n)
      (sym (λ i. are_apart ((snoc m d a n ∙ ap (option_and_then (λ c. child_under m c n)) e) i) ((snoc m d b n ∙ ap (option_and_then (λ c. child_under m c n)) f) i)) ∙ h)
    where
      both_there : (r s : DirIds) (o p : Option Before) → dir_under m r ≡ o → dir_under m s ≡ p → are_apart o p ≡ true → are_ids_apart (Some r) (Some s) ≡ true
      both_there r s None p e f h = absurd (true≢false (sym h))
      both_there r s (Some u) None e f h = not_apart (Some u) h
      both_there r s (Some u) (Some v) e f h = (λ i. not (bytes_eq (sym (under_ids r u e).0 i) (sym (under_ids s v f).0 i))) ∙ h

      by : (o p : Option DirIds) → are_apart (option_and_then (dir_under m) o) (option_and_then (dir_under m) p) ≡ true → are_ids_apart o p ≡ true
      by None p h = absurd (true≢false (sym h))
      by (Some r) None h = not_apart (dir_under m r) h
      by (Some r) (Some s) h = both_there r s (dir_under m r) (dir_under m s) refl refl h

  -- nothing under what isn't there
  pub none_first : {P : Type 0} (a b : Before) (d p : Path) → dir_from m a d ≡ None → are_apart_from m a b p ≡ true → is_prefix d p ≡ true → P
  none_first a b d p none h under =
      let t = apart_there a b d (drop (length d) p) (ap (are_apart_from m a b) (sym (front_rest d p under)) ∙ h) in
      none_some t.0 (sym none ∙ t.2)

  pub none_second : {P : Type 0} (a b : Before) (d p : Path) → dir_from m b d ≡ None → are_apart_from m a b p ≡ true → is_prefix d p ≡ true → P
  none_second a b d p none h under =
      let t = apart_there a b d (drop (length d) p) (ap (are_apart_from m a b) (sym (front_rest d p under)) ∙ h) in
      none_some t.1 (sym none ∙ t.3)
