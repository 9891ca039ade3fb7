-- The names in a directory of those that are apart.
use Rattle.std.proofs.Common.{◌≡◌, ◌⊎◌, ℕ, ◌<◌, ◌+◌, Bool, true, false, cond, ◌||◌, List, [], ◌∷◌, ◌++◌, length, drop, get_or, refl, sym, ap, ◌∙◌, append_assoc}
use Rattle.std.specs.Prelude.{Option, Some, None, bytes_eq}
use Rattle.std.specs.List.{list_any}
use Rattle.std.specs.Ordering.{nat_cmp}
use Rattle.std.specs.Cmp.Lexicographic.{slice_cmp, texts_ties}
use Rattle.std.specs.FinMap.{find as find_key}
use mathlib.Core.Bool.{true≢false}
use Rattle.std.proofs.lemmas.Bool.{or_left, or_right}
use Rattle.std.proofs.lemmas.List.Folds.{list_any-append}
use Rattle.changeset_model.specs.Path.{Path, is_prefix, is_strict_prefix}
use Rattle.manifest_model.specs.Unode.{UnodeEntry}
use Rattle.manifest_model.proofs.Derivations.{or_case as or_either}
use Rattle.manifest_laws.specs.Entries.{fs_entry_at, unode_entry_at}
use Rattle.manifest_laws.proofs.Changes.{prefix_itself}
use Rattle.manifest_laws.proofs.Names.{same_name}
use Rattle.node_fields.specs.declared.child.Child.{Child}
use Rattle.node_table.specs.Table.{Nodes}
use Rattle.unode.specs.declared.entry.UnodeEntry.{UnodeEntry as RustEntry}
use Rattle.unode.specs.Parts.{entry_seen, children_seen}
use Rattle.derive_step.specs.declared.job.DirIds.{DirIds}
use Rattle.derive_step.specs.declared.job.DirNodes.{DirNodes}
use Rattle.derive_step.specs.Views.{Before, before_seen}
use Rattle.manifest_store.specs.declared.apart.ApartChild.{ApartChild}
use Rattle.manifest_store.specs.Nodes.{child_ids, dir_from}
use Rattle.manifest_store.specs.Apart.{IsApartAt, are_apart_from, are_ids_apart, is_child_apart, is_named}
use Rattle.manifest_store.proofs.Along.{first_name, one_on}
use Rattle.manifest_store.proofs.Differing.{unode_in, apart_above, child_apart}

-- ---- the entries of a directory

abbrev pub has_name : List ℕ → List (Child RustEntry) → Bool
has_name n cs = list_any (λ (c : Child RustEntry). bytes_eq n c.name) cs

found_named : (cs : List (Child RustEntry)) (n : List ℕ) (e : UnodeEntry) → find_key (slice_cmp nat_cmp) n (children_seen cs) ≡ Some e → has_name n cs ≡ true
found_named [] n e h = absurd cc
found_named (c ∷ cs) n e h = by (found_named cs n e) (bytes_eq n c.name) refl (ap (λ b. cond b (Some (entry_seen c.entry)) (find_key (slice_cmp nat_cmp) n (children_seen cs))) (texts_ties n c.name) ∙ h)
  where
    by : (find_key (slice_cmp nat_cmp) n (children_seen cs) ≡ Some e → has_name n cs ≡ true) → (t : Bool) → bytes_eq n c.name ≡ t → cond t (Some (entry_seen c.entry)) (find_key (slice_cmp nat_cmp) n (children_seen cs)) ≡ Some e → (bytes_eq n c.name || has_name n cs) ≡ true
    by later true same h = or_left (bytes_eq n c.name) (has_name n cs) same
    by later false other h = or_right (bytes_eq n c.name) (has_name n cs) (later h)

pub child_named : (first second : DirNodes) (es : List (Child RustEntry)) (n : List ℕ) → es ≡ first.unode.entries.items → is_child_apart (before_seen first) (before_seen second) n ≡ true → has_name n es ≡ true
child_named first second es n same h = by (child_ids (before_seen first) n) refl h
  where
    by : (o : Option DirIds) → child_ids (before_seen first) n ≡ o → are_ids_apart o (child_ids (before_seen second) n) ≡ true → has_name n es ≡ true
    by None e h = absurd (true≢false (sym h))
    by (Some y) e h = ap (has_name n) same ∙ found_named first.unode.entries.items n _ (unode_in (fs_entry_at (before_seen first).fsnode n) (unode_entry_at (before_seen first).unode n) y e)

-- ---- name by name

module _ (a b : Before) (es : List (Child RustEntry)) (i : ℕ) (x : Child RustEntry) (less : i < length es) (is : x ≡ get_or es i x) (old new : List ApartChild) where
  abbrev Whole : List ApartChild → ℕ → Type 0
  Whole apart k = (n : List ℕ) → is_child_apart a b n ≡ true → (is_named n apart ≡ true) ⊎ (has_name n (drop k es) ≡ true)

  pub passed_child : Whole old i → IsApartAt a b x.name None → new ≡ old → Whole new (i + 1)
  passed_child whole none same n h =
      one_on (λ (c : Child RustEntry). bytes_eq n c.name) es i x less is (λ g. ap (is_named n) same ∙ g)
      (λ here. absurd (true≢false (sym h ∙ ap (is_child_apart a b) (same_name n x.name here) ∙ none))) (whole n h)

  pub pushed_child : Whole old i → (child : ApartChild) → child.name ≡ x.name → new ≡ old ++ child ∷ [] → Whole new (i + 1)
  pushed_child whole child named pushed n h =
      one_on (λ (c : Child RustEntry). bytes_eq n c.name) es i x less is
      (λ g. among ∙ or_left (is_named n old) (is_named n (child ∷ [])) g)
      (λ here. among ∙ or_right (is_named n old) (is_named n (child ∷ [])) (or_left (bytes_eq n child.name) false (ap (bytes_eq n) named ∙ here))) (whole n h)
    where
      among : is_named n new ≡ (is_named n old || is_named n (child ∷ []))
      among = ap (is_named n) pushed ∙ list_any-append (λ (c : ApartChild). bytes_eq n c.name) old (child ∷ [])

-- ---- all names of a directory

abbrev pub is_at_some : Path → List ApartChild → Path → Bool
is_at_some above children d = list_any (λ (c : ApartChild). is_prefix (above ++ c.name ∷ []) d) children

named_above : (above : Path) (n : List ℕ) (children : List ApartChild) (d : Path) → is_named n children ≡ true → is_prefix (above ++ n ∷ []) d ≡ true → is_at_some above children d ≡ true
named_above above n [] d h under = absurd (true≢false (sym h))
named_above above n (c ∷ cs) d h under =
    or_either (bytes_eq n c.name) (is_named n cs)
    (λ same. or_left (is_prefix (above ++ c.name ∷ []) d) (is_at_some above cs d) (ap (λ x. is_prefix (above ++ x ∷ []) d) (sym (same_name n c.name same)) ∙ under))
    (λ later. or_right (is_prefix (above ++ c.name ∷ []) d) (is_at_some above cs d) (named_above above n cs d later under)) h

-- what is apart under a directory lies at or under one of its names
pub some_named : (m : Nodes) (a b x y : Before) (above d : Path) (children : List ApartChild) → dir_from m a above ≡ Some x → dir_from m b above ≡ Some y → ((n : List ℕ) → is_child_apart x y n ≡ true → is_named n children ≡ true) → are_apart_from m a b d ≡ true → is_strict_prefix above d ≡ true → is_at_some above children d ≡ true
some_named m a b x y above d children e f whole apart under =
    let cut = first_name above d under in
    let n = cut.0 in
    let r = cut.1 in
    let up = apart_above m a b above n r (ap (are_apart_from m a b) (sym cut.2) ∙ apart) in
    named_above above n children d (whole n (child_apart m a b x y above n e f up))
    (ap (is_prefix (above ++ n ∷ [])) (cut.2 ∙ sym (append_assoc above (n ∷ []) r)) ∙ prefix_itself (above ++ n ∷ []) r)
