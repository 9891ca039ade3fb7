-- The deleted nodes of a past of which a table holds all nodes.
use Rattle.std.proofs.Common.{◌≡◌, ℕ, ◌<◌, Bool, true, false, cond, ◌||◌, List, [], ◌∷◌, ◌++◌, length, refl, sym, ap, ◌∙◌, arith, append_assoc}
use Rattle.std.specs.Prelude.{Option, Some, None, option_map, not, Result, Ok, Err, ◌==◌}
use Rattle.std.specs.List.{list_any}
use Rattle.std.specs.Option.{option_and_then}
use Rattle.std.specs.FinMap as map
use mathlib.Core.Bool.{true≢false}
use Rattle.std.proofs.lemmas.Bool.{false_from_ne_true, ne_eqb, or_left, or_right}
use Rattle.std.proofs.lemmas.List.{append-nil, length-append}
use Rattle.byte_fields.specs.Bytes.{Id}
use Rattle.byte_fields.proofs.Booleans.{same_some}
use Rattle.changeset_model.specs.Path.{Path, is_prefix}
use Rattle.history_model.specs.History.{Known}
use Rattle.history_model.specs.Past.{Past, Begin, At}
use Rattle.manifest_model.specs.Unode.{UnodeEntry, UnodeDir}
use Rattle.manifest_model.specs.Deleted.{deleted, deleted_bytes, deleted_id, deletions, has_deleted}
use Rattle.manifest_laws.proofs.Changes.{prefix_itself, prefix_trans}
use Rattle.reply_model.specs.Reply.{Absent, AbsentChangeset, NoPath, refuse_if, ◌>>=◌}
use Rattle.deleted_node.specs.Lookup.{entry_named as deleted_named}
use Rattle.deleted_node.proofs.Named.{found_in}
use Rattle.deleted_node.proofs.Spelled.{deleted_is_read}
use Rattle.deleted_node.proofs.Within.{entry_is}
use Rattle.node_table.specs.Table.{Nodes, Table, is_settled}
use Rattle.node_table.specs.declared.roots.Roots.{Roots}
use Rattle.changeset_store.specs.Store.{known_at}
use Rattle.changeset_store.specs.Pasts.{past_at}
use Rattle.derive_step.specs.Pasts.{roots_of, all_nodes_of}
use Rattle.derive_step.proofs.Members.{has_contains}
use Rattle.derive_step.proofs.PastNodes.{has_gone}
use Rattle.manifest_store.specs.Manifests.{AreManifests, HoldsAll, IsRight}
use Rattle.manifest_store.specs.Nodes.{deleted_entry_under, entry_id, walk}
use Rattle.manifest_store.specs.Reads.{deleted_at}
use Rattle.manifest_store.proofs.Lines.{known_here}

-- ---- a node is there above each that is there

any_prefix : (d e : Path) (gone : List (Path × Id)) → list_any (λ g. is_prefix (d ++ e) g.0) gone ≡ true → list_any (λ g. is_prefix d g.0) gone ≡ true
any_prefix d e [] h = h
any_prefix d e (g ∷ gone) h = by (any_prefix d e gone) (is_prefix (d ++ e) g.0) refl h
  where
    by : (list_any (λ g. is_prefix (d ++ e) g.0) gone ≡ true → list_any (λ g. is_prefix d g.0) gone ≡ true) → (b : Bool) → is_prefix (d ++ e) g.0 ≡ b → (b || list_any (λ g. is_prefix (d ++ e) g.0) gone) ≡ true → list_any (λ g. is_prefix d g.0) (g ∷ gone) ≡ true
    by later true at h = or_left (is_prefix d g.0) (list_any (λ g. is_prefix d g.0) gone) (prefix_trans d (d ++ e) g.0 (prefix_itself d e) at)
    by later false at h = or_right (is_prefix d g.0) (list_any (λ g. is_prefix d g.0) gone) (later h)

deep : (d : Path) (n : List ℕ) (p : Path) → (length (d ++ n ∷ p) == 0) ≡ false
deep d n p = ne_eqb (length (d ++ n ∷ p)) 0 (λ e. let long = length-append d (n ∷ p) in omega arith)

-- nothing is under a path without a node
none_under : (past : Past) (d : Path) (n : List ℕ) (p : Path) → has_deleted past (d ++ n ∷ []) ≡ false → has_deleted past (d ++ n ∷ p) ≡ false
none_under past d n p none = false_from_ne_true (has_deleted past (d ++ n ∷ p)) (λ there.
    let gone = deletions past in
    let any = ap (λ b. b || list_any (λ g. is_prefix (d ++ n ∷ p) g.0) gone) (sym (deep d n p)) ∙ there in
    let whole = ap (λ q. list_any (λ g. is_prefix q g.0) gone) (append_assoc d (n ∷ []) p) ∙ any in
    true≢false (sym (or_right (length (d ++ n ∷ []) == 0) (list_any (λ g. is_prefix (d ++ n ∷ []) g.0) gone) (any_prefix (d ++ n ∷ []) p gone whole)) ∙ none))

abbrev pub gone_id : Past → Path → Id
gone_id past p = deleted_id (deleted past p)

abbrev pub gone_if : Bool → Id → Option UnodeEntry
gone_if b x = cond b (Some (UnodeDir x)) None

abbrev pub gone_place : Past → Path → Option UnodeEntry
gone_place past p = gone_if (has_deleted past p) (gone_id past p)

-- ---- down a path

module _ (m : Nodes) (c : Known) (first second : Past) (right : IsRight (At c first second)) (held : HoldsAll m (At c first second)) where
  abbrev all : Past
  all = At c first second

  pub gone_stands : (d : Path) → has_deleted all d ≡ true → map.get m (gone_id all d) ≡ Some (deleted_bytes (deleted all d))
  gone_stands d there = held (deleted_bytes (deleted all d)) (has_contains (all_nodes_of all) (deleted_bytes (deleted all d)) (has_gone c first second d there))

  as_entry : (b : Bool) (x : Id) → option_map UnodeDir (cond b (Some x) None) ≡ gone_if b x
  as_entry true x = refl
  as_entry false x = refl

  step : (d : Path) (n : List ℕ) → has_deleted all d ≡ true → deleted_entry_under m (gone_id all d) n ≡ gone_place all (d ++ n ∷ [])
  step d n there =
      let node = deleted all d in
      ap (option_and_then (λ bytes. option_map UnodeDir (deleted_named bytes n))) (gone_stands d there)
      ∙ ap (option_map UnodeDir) (found_in (deleted_bytes node) n node (deleted_is_read node (right.deletions d)) ∙ entry_is all d n)
      ∙ as_entry (has_deleted all (d ++ n ∷ [])) (gone_id all (d ++ n ∷ []))

  pub gone_walked_from : (p d : Path) → has_deleted all d ≡ true → walk (deleted_entry_under m) (UnodeDir (gone_id all d)) p ≡ gone_place all (d ++ p)
  gone_walked_from [] d there = sym (ap (gone_place all) (append-nil d) ∙ ap (λ b. gone_if b (gone_id all d)) there)
  gone_walked_from (n ∷ p) d there = ap (option_and_then (λ e. walk (deleted_entry_under m) e p)) (step d n there) ∙ on (gone_walked_from p) (has_deleted all (d ++ n ∷ [])) refl
    where
      on : ((d : Path) → has_deleted all d ≡ true → walk (deleted_entry_under m) (UnodeDir (gone_id all d)) p ≡ gone_place all (d ++ p)) → (b : Bool) → has_deleted all (d ++ n ∷ []) ≡ b → option_and_then (λ e. walk (deleted_entry_under m) e p) (gone_if b (gone_id all (d ++ n ∷ []))) ≡ gone_place all (d ++ n ∷ p)
      on later true here = later (d ++ n ∷ []) here ∙ ap (gone_place all) (append_assoc d (n ∷ []) p)
      on later false out = sym (ap (λ b. gone_if b (gone_id all (d ++ n ∷ p))) (none_under all d n p out))

pub gone_walked : (m : Nodes) (l : Past) → IsRight l → HoldsAll m l → (r : Roots) → Some r ≡ roots_of l → (p : Path) → walk (deleted_entry_under m) (UnodeDir r.deleted) p ≡ gone_place l p
gone_walked m Begin right held r e p = absurd cc
gone_walked m (At c first second) right held r e p =
    ap (λ (r : Roots). walk (deleted_entry_under m) (UnodeDir r.deleted) p) (same_some r _ e)
    ∙ gone_walked_from m c first second right held p [] refl

stands_on : (m : Nodes) (l : Past) → IsRight l → HoldsAll m l → (r : Roots) → Some r ≡ roots_of l → (p : Path) → has_deleted l p ≡ true → map.get m (gone_id l p) ≡ Some (deleted_bytes (deleted l p))
stands_on m Begin right held r e p there = absurd cc
stands_on m (At c first second) right held r e p there = gone_stands m c first second right held p there

-- ---- what was found

found_told : (b : Bool) (x : Id) (e : UnodeEntry) → Some e ≡ gone_if b x → (b ≡ true) × (entry_id e ≡ x)
found_told true x e h = (refl, ap entry_id (same_some e (UnodeDir x) h))
found_told false x e h = absurd cc

none_told : (b : Bool) (x : Id) → None ≡ gone_if b x → b ≡ false
none_told true x h = absurd cc
none_told false x h = refl

-- ---- what is read of a known changeset

module _ (ks : List Known) (t : Table) (a : AreManifests ks t) (n : ℕ) (settled : is_settled t n ≡ true) (r : Roots) (at : Some r ≡ map.get t.roots n) (p : Path) where
  abbrev l : Past
  l = past_at ks n

  abbrev x : Id
  x = (known_at ks n).id

  less : n < length ks
  less = a.numbered n settled

  roots : Some r ≡ roots_of l
  roots = at ∙ a.roots n settled

  told : walk (deleted_entry_under t.nodes) (UnodeDir r.deleted) p ≡ gone_place l p
  told = gone_walked t.nodes l (a.right n less) (a.held n settled) r roots p

  abbrev answer_by : Bool → Bool → List ℕ → Result (List ℕ) Absent
  answer_by k b bytes = refuse_if (not k) (AbsentChangeset x) >>= (λ _. refuse_if (not b) NoPath >>= (λ _. Ok bytes))

  as_past : (b : Bool) → has_deleted l p ≡ b → deleted_at ks n p ≡ answer_by true b (deleted_bytes (deleted l p))
  as_past b e =
      λ i. answer_by (known_here ks n less i) (e i) (deleted_bytes (deleted l p))

  pub gone_got : (e : UnodeEntry) (id : Id) → id ≡ entry_id e → Some e ≡ walk (deleted_entry_under t.nodes) (UnodeDir r.deleted) p → map.get t.nodes id ≡ Some (deleted_bytes (deleted l p))
  gone_got e id same h =
      let found = found_told (has_deleted l p) (gone_id l p) e (h ∙ told) in
      ap (map.get t.nodes) (same ∙ found.1) ∙ stands_on t.nodes l (a.right n less) (a.held n settled) r roots p found.0

  pub gone_read : (e : UnodeEntry) (id : Id) (bytes : List ℕ) → id ≡ entry_id e → Some e ≡ walk (deleted_entry_under t.nodes) (UnodeDir r.deleted) p → map.get t.nodes id ≡ Some bytes → deleted_at ks n p ≡ Ok bytes
  gone_read e id bytes same h got =
      let found = found_told (has_deleted l p) (gone_id l p) e (h ∙ told) in
      as_past true found.0 ∙ ap (λ b. Ok b) (same_some _ bytes (sym (gone_got e id same h) ∙ got))

  pub gone_missing : None ≡ walk (deleted_entry_under t.nodes) (UnodeDir r.deleted) p → has_deleted l p ≡ false
  gone_missing h = none_told (has_deleted l p) (gone_id l p) (h ∙ told)

  pub gone_none : None ≡ walk (deleted_entry_under t.nodes) (UnodeDir r.deleted) p → deleted_at ks n p ≡ Err NoPath
  gone_none h = as_past false (gone_missing h)
