-- Manifests in memory stay those of a legal history, as it grows.
use Rattle.std.proofs.Common.{◌≡◌, true, List, ◌++◌, sym, ap, subst, ◌∙◌}
use Rattle.history_model.specs.History.{Entry, Known, known}
use Rattle.history_model.specs.Journal.{Header, is_header}
use Rattle.reply_model.specs.Legal.{IsLegal}
use Rattle.node_table.specs.Table.{Table}
use Rattle.manifest_store.specs.Lines.{IsStore}
use Rattle.manifest_store.specs.Manifests.{AreRight, AreManifests}
use Rattle.settled_merge.proofs.Known.{manifests_first, manifests_stay}
use Rattle.repo_state.specs.Manifests.{HasManifests}

pub manifests_grow : (header header1 : Header) (h h1 g : List Entry) (t : Table) → header1 ≡ header → h1 ≡ h ++ g → IsLegal header1 h1 → HasManifests header h t → HasManifests header1 h1 t
manifests_grow header header1 h h1 g t eh e legal has =
    let limits : is_header header1 ≡ true = subst (λ x. is_header x ≡ true) (sym eh) has.header_fits in
    record {
      header_fits = limits;
      manifests = subst (λ g. AreManifests (known g) t) (sym e) (manifests_stay header1 h g t limits (subst (IsLegal header1) e legal) has.manifests);
    }

pub manifests_same : (header header1 : Header) (h h1 : List Entry) (t : Table) → header1 ≡ header → known h1 ≡ known h → HasManifests header h t → HasManifests header1 h1 t
manifests_same header header1 h h1 t eh e has = record {
  header_fits = subst (λ x. is_header x ≡ true) (sym eh) has.header_fits;
  manifests = subst (λ ks. AreManifests ks t) (sym e) has.manifests;
}

pub manifests_begin : (header : Header) (h : List Entry) (t : Table) → is_header header ≡ true → IsLegal header h → ((ks : List Known) → IsStore ks → AreRight ks → AreManifests ks t) → HasManifests header h t
manifests_begin header h t limits legal all = record {
  header_fits = limits;
  manifests = manifests_first header h t limits legal all;
}

-- where an entry is made after a change that leaves the history
pub manifests_grow_after : (header header1 header2 : Header) (h h1 h2 g : List Entry) (t : Table) → header1 ≡ header → header2 ≡ header1 → h1 ≡ h → h2 ≡ h1 ++ g → IsLegal header2 h2 → HasManifests header h t → HasManifests header2 h2 t
manifests_grow_after header header1 header2 h h1 h2 g t eh1 eh2 e1 e2 legal has = manifests_grow header header2 h h2 g t (eh2 ∙ eh1) (e2 ∙ ap (λ (h : List Entry). h ++ g) e1) legal has
