-- Different nodes of settled changesets have different ids, since the bytes of all stand in one table under their ids.
--     AreUnder m past      the nodes of its directories stand under their ids, and can be spelled
use Rattle.std.proofs.Common.{◌≡◌, ℕ, ◌<◌, true, not, ◌&&◌, List, length, refl, sym, ap, subst, ◌∙◌}
use Rattle.std.specs.Prelude.{Option, Some, None}
use Rattle.std.specs.Option.{option_map_or}
use Rattle.std.specs.FinMap as map
use mathlib.Core.Bool.{true≢false}
use Rattle.std.proofs.lemmas.Bool.{and_parts}
use Rattle.byte_fields.proofs.Booleans.{same_some}
use Rattle.changeset_model.specs.Path.{Path}
use Rattle.history_model.specs.History.{Known}
use Rattle.history_model.specs.Past.{Past, Begin, At}
use Rattle.history_model.specs.Tree.{files_in}
use Rattle.manifest_model.specs.Fsnode.{Fsnode, fsnode, fsnode_bytes, fsnode_id, is_fsnode}
use Rattle.manifest_model.specs.Unode.{Unode, unode_bytes, unode_id, is_unode}
use Rattle.manifest_model.specs.Merged.{unode_at}
use Rattle.manifest_model.proofs.Nodes.{fsnode_is_one, unode_is_one}
use Rattle.manifest_laws.proofs.Rules.{fsnode_kept}
use Rattle.merge_laws.specs.Resolved.{AreAllApart, AreApart, has_dir}
use Rattle.node_table.specs.Table.{Nodes, Table, is_settled}
use Rattle.changeset_store.specs.Store.{known_at, parent_at, second_parent_at}
use Rattle.changeset_store.specs.Pasts.{past_at, past_at_some}
use Rattle.derive_step.proofs.Members.{has_contains}
use Rattle.derive_step.proofs.PastNodes.{old_fsnode, old_dir}
use Rattle.manifest_store.specs.Jobs.{is_ready}
use Rattle.manifest_store.specs.Manifests.{AreManifests, HoldsAll, IsRight}
use Rattle.manifest_store.proofs.Pasts.{past_step}

pub record AreUnder (m : Nodes) (past : Past) : Type 0 where
  pub fsnodes : (d : Path) → has_dir past d ≡ true → (is_fsnode (fsnode (files_in past) d) ≡ true) × (map.get m (fsnode_id (fsnode (files_in past) d)) ≡ Some (fsnode_bytes (fsnode (files_in past) d)))
  pub unodes : (d : Path) → has_dir past d ≡ true → (is_unode (unode_at past d) ≡ true) × (map.get m (unode_id (unode_at past d)) ≡ Some (unode_bytes (unode_at past d)))

module _ (m : Nodes) where
  one_fsnode : (a b : Fsnode) → (is_fsnode a ≡ true) × (map.get m (fsnode_id a) ≡ Some (fsnode_bytes a)) → (is_fsnode b ≡ true) × (map.get m (fsnode_id b) ≡ Some (fsnode_bytes b)) → fsnode_id a ≡ fsnode_id b → a ≡ b
  one_fsnode a b here there same = fsnode_is_one a b here.0 there.0 (same_some (fsnode_bytes a) (fsnode_bytes b) (sym here.1 ∙ ap (map.get m) same ∙ there.1))

  one_unode : (a b : Unode) → (is_unode a ≡ true) × (map.get m (unode_id a) ≡ Some (unode_bytes a)) → (is_unode b ≡ true) × (map.get m (unode_id b) ≡ Some (unode_bytes b)) → unode_id a ≡ unode_id b → a ≡ b
  one_unode a b here there same = unode_is_one a b here.0 there.0 (same_some (unode_bytes a) (unode_bytes b) (sym here.1 ∙ ap (map.get m) same ∙ there.1))

  apart_where : (first second : Past) → AreUnder m first → AreUnder m second → AreApart first second
  apart_where first second one two = record {
    fsnodes = λ d here there same. one_fsnode (fsnode (files_in first) d) (fsnode (files_in second) d) (one.fsnodes d here) (two.fsnodes d there) same;
    unodes = λ d here there same. one_unode (unode_at first d) (unode_at second d) (one.unodes d here) (two.unodes d there) same;
  }

  under_begin : AreUnder m Begin
  under_begin = record { fsnodes = λ d there. absurd (true≢false (sym there)); unodes = λ d there. absurd (true≢false (sym there)) }

  pub are_under : (past : Past) → IsRight past → HoldsAll m past → AreUnder m past
  are_under past right held = record {
    fsnodes = λ d there. (fsnode_kept (files_in past) d right.counted, held (fsnode_bytes (fsnode (files_in past) d)) (has_contains _ _ (old_fsnode past d there)));
    unodes = λ d there. (right.directories d there, held (unode_bytes (unode_at past d)) (has_contains _ _ (old_dir past d there)));
  }

module _ (ks : List Known) (t : Table) (a : AreManifests ks t) where
  abbrev AreSettled : Option ℕ → Type 0
  AreSettled o = (p : ℕ) → o ≡ Some p → is_settled t p ≡ true

  under_some : (o : Option ℕ) → AreSettled o → AreUnder t.nodes (past_at_some ks o)
  under_some None h = under_begin t.nodes
  under_some (Some p) h = let settled = h p refl in are_under t.nodes (past_at ks p) (a.right p (a.numbered p settled)) (a.held p settled)

  apart_some : (past : Past) → ((p : ℕ) → past_at ks p ≡ past → is_settled t p ≡ true → AreAllApart past) → (o : Option ℕ) → past_at_some ks o ≡ past → AreSettled o → AreAllApart past
  apart_some past later None e h = subst AreAllApart e tt
  apart_some past later (Some p) e h = later p e (h p refl)

  both_apart : (first second : Past) → ((p : ℕ) → past_at ks p ≡ first → is_settled t p ≡ true → AreAllApart first) → ((p : ℕ) → past_at ks p ≡ second → is_settled t p ≡ true → AreAllApart second)
      → (o r : Option ℕ) → past_at_some ks o ≡ first → past_at_some ks r ≡ second → AreSettled o → AreSettled r → AreApart first second × AreAllApart first × AreAllApart second
  both_apart first second one two o r is also h g = (
    apart_where t.nodes first second (subst (AreUnder t.nodes) is (under_some o h)) (subst (AreUnder t.nodes) also (under_some r g)),
    apart_some first one o is h,
    apart_some second two r also g,
  )

  apart_at : (past : Past) (n : ℕ) → past_at ks n ≡ past → is_settled t n ≡ true → AreAllApart past
  apart_at Begin n e h = tt
  apart_at (At c first second) n e h =
      let same : At (known_at ks n) (past_at_some ks (parent_at ks n)) (past_at_some ks (second_parent_at ks n)) ≡ At c first second = sym (past_step ks a.store n (a.numbered n h)) ∙ e in
      let one : past_at_some ks (parent_at ks n) ≡ first = cc in
      let two : past_at_some ks (second_parent_at ks n) ≡ second = cc in
      both_apart first second (apart_at first) (apart_at second) (parent_at ks n) (second_parent_at ks n) one two (λ p is. a.parents n p h is) (λ p is. a.second_parents n p h is)

  pub settled_apart : (n : ℕ) → is_settled t n ≡ true → AreAllApart (past_at ks n)
  settled_apart n h = apart_at (past_at ks n) n refl h

  of_some : (o : Option ℕ) → option_map_or (is_settled t) o true ≡ true → AreSettled o
  of_some None h p e = absurd cc
  of_some (Some q) h p e = subst (λ q. is_settled t q ≡ true) (same_some q p e) h

  pub ready_parents : (n : ℕ) → is_ready ks t n ≡ true → AreSettled (parent_at ks n) × AreSettled (second_parent_at ks n)
  ready_parents n ready =
      let both = and_parts (option_map_or (is_settled t) (parent_at ks n) true) (option_map_or (is_settled t) (second_parent_at ks n) true) (and_parts (not (is_settled t n)) (option_map_or (is_settled t) (parent_at ks n) true && option_map_or (is_settled t) (second_parent_at ks n) true) ready).1 in
      (of_some (parent_at ks n) both.0, of_some (second_parent_at ks n) both.1)

  pub ready_apart : (n : ℕ) → n < length ks → is_ready ks t n ≡ true → AreAllApart (past_at ks n)
  ready_apart n less ready =
      let both = ready_parents n ready in
      subst AreAllApart (sym (past_step ks a.store n less))
      (both_apart (past_at_some ks (parent_at ks n)) (past_at_some ks (second_parent_at ks n)) (λ p e h. subst AreAllApart e (settled_apart p h)) (λ p e h. subst AreAllApart e (settled_apart p h)) (parent_at ks n) (second_parent_at ks n) refl refl both.0 both.1)
