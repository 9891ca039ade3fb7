-- The roots of a changeset answer the request to derive its manifests.
use Rattle.std.proofs.Common.{◌≡◌, ℕ, ◌<◌, zero, suc, List, [], ◌∷◌, length, get_or, refl, sym, ap, ◌∙◌}
use Rattle.std.specs.Prelude.{Some, bytes_eq}
use Rattle.std.proofs.lemmas.List.Quantifiers.{position-Some}
use Rattle.std.proofs.lemmas.Slice.Eq.{bytes_eq-Decides}
use Rattle.byte_fields.specs.Bytes.{Id}
use Rattle.history_model.specs.History.{Entry, Known, known, is_known}
use Rattle.history_model.specs.Past.{Past, Begin, At, past}
use Rattle.history_model.specs.Tree.{files_in}
use Rattle.history_model.specs.Journal.{Header}
use Rattle.manifest_model.specs.Fsnode.{fsnode, fsnode_id}
use Rattle.manifest_model.specs.Unode.{unode_id}
use Rattle.manifest_model.specs.Merged.{unode_at}
use Rattle.manifest_model.specs.Deleted.{deleted, deleted_id}
use Rattle.byte_fields.proofs.Booleans.{same_some}
use Rattle.reply_model.specs.After.{Answers, Derives, nothing}
use Rattle.reply_model.specs.After as after
use Rattle.node_table.specs.declared.roots.Roots.{Roots}
use Rattle.changeset_store.specs.Store.{number_in, known_at}
use Rattle.changeset_store.specs.Pasts.{past_at}
use Rattle.derive_step.specs.Pasts.{roots_of}
use Rattle.manifest_store.proofs.Lines.{known_here}

stands_at : (ks : List Known) (n : ℕ) → get_or ks n (known_at [] 0) ≡ known_at ks n
stands_at [] n = refl
stands_at (k ∷ ks) zero = refl
stands_at (k ∷ ks) (suc n) = stands_at ks n

-- the known changeset of an id stands at its number
pub record IsNumberOf (ks : List Known) (x : Id) (n : ℕ) : Type 0 where
  pub in_range : n < length ks
  pub id : (known_at ks n).id ≡ x

pub number_of : (ks : List Known) (x : Id) (n : ℕ) → number_in ks x ≡ Some n → IsNumberOf ks x n
number_of ks x n e =
    let found = position-Some (λ k. bytes_eq k.id x) ks n (known_at [] 0) e in
    record { in_range = found.0; id = (bytes_eq-Decides (known_at ks n).id x).0 (ap (λ k. bytes_eq k.id x) (sym (stands_at ks n)) ∙ found.1) }

pub of_past : (past : Past) (roots : Roots) → Some roots ≡ roots_of past → (roots.fsnode ≡ fsnode_id (fsnode (files_in past) [])) × (roots.unode ≡ unode_id (unode_at past [])) × (roots.deleted ≡ deleted_id (deleted past []))
of_past Begin roots e = absurd cc
of_past (At c first second) roots e = let same = same_some roots _ e in (ap (λ r. r.fsnode) same, ap (λ r. r.unode) same, ap (λ r. r.deleted) same)

pub answered : (header : Header) (h : List Entry) (x : Id) (n : ℕ) (roots : Roots) → number_in (known h) x ≡ Some n → Some roots ≡ roots_of (past_at (known h) n) → Answers header h (Derives x) (after.Roots roots.fsnode roots.unode roots.deleted) nothing
answered header h x n roots e is =
    let ks = known h in
    let number = number_of ks x n e in
    let told = of_past (past_at ks n) roots is in (
      refl,
      ap (is_known ks) (sym number.id) ∙ known_here ks n number.in_range,
      told.0 ∙ ap (λ y. fsnode_id (fsnode (files_in (past ks y)) [])) number.id,
      told.1 ∙ ap (λ y. unode_id (unode_at (past ks y) [])) number.id,
      told.2 ∙ ap (λ y. deleted_id (deleted (past ks y) [])) number.id,
    )
