-- How many bookmarks have a head, by an ordered map of all heads.
use Rattle.std.proofs.Common.{◌≡◌, ℕ, suc, Bool, true, false, cond, List, [], ◌∷◌, ◌++◌, length, refl, sym, ap, subst, ◌∙◌}
use Rattle.std.specs.Prelude.{◌&&◌, Option, None, Some, option_map, filter, bytes_eq, is_some}
use Rattle.std.specs.List.{IsDistinct}
use Rattle.std.specs.Set.{is_member}
use Rattle.std.specs.Map.{keys_of, values_of, lookup}
use Rattle.std.specs.Option.{option_or, option_flatten}
use Rattle.std.specs.Ordering.{eq_by_cmp, nat_cmp}
use Rattle.std.specs.Cmp.{IsEquivalence, nat_eq_equiv}
use Rattle.std.specs.Cmp.Lexicographic.{lists_equiv, slice_cmp}
use Rattle.std.specs.BTreeMap.{BTreeMap, IsOrdered, get, values}
use Rattle.std.proofs.lemmas.Map.Entries.{lookup-filter-values, option_filter}
use Rattle.std.proofs.lemmas.Map.Keys.{IsDistinct-from_sorted}
use Rattle.std.proofs.lemmas.Map.Made.{is_some-lookup, is_member-filter, IsDistinct-keys_filter, length-from_keys}
use Rattle.std.proofs.lemmas.Map.Text.{is_eq-slice_cmp}
use Rattle.std.proofs.lemmas.Slice.Eq.{bytes_eq-Decides}
use Rattle.byte_fields.specs.Bytes.{Id, last_of, last_some}
use Rattle.changeset_model.specs.Changeset.{id_of}
use Rattle.history_model.specs.History.{Body, Content, Whole, Change, Book, Land, Policy, Fault, Entry}
use Rattle.history_model.specs.Bookmark.{moved_to, head}
use Rattle.repo_machine.specs.Counting.{names_in, names, bookmarks}
use Rattle.byte_fields.proofs.Booleans.{neither}

-- ---- the names

unnamed_by : (name : List ℕ) (body : Body) (rest : List (List ℕ)) → is_member bytes_eq (names_in body ++ rest) name ≡ false → (moved_to name body ≡ None) × (is_member bytes_eq rest name ≡ false)
unnamed_by name (Content x n) rest e = (refl, e)
unnamed_by name (Whole x n parts) rest e = (refl, e)
unnamed_by name (Policy caller text) rest e = (refl, e)
unnamed_by name (Change c) rest e = (refl, e)
unnamed_by name (Book move) rest e = let both = neither (bytes_eq name move.name) (is_member bytes_eq rest name) e in (ap (λ b. cond b (Some move.to) None) both.0, both.1)
unnamed_by name (Land landing) rest e = let both = neither (bytes_eq name landing.name) (is_member bytes_eq rest name) e in (ap (λ b. cond b (Some (option_map id_of (last_of landing.new))) None) both.0, both.1)
unnamed_by name (Fault breaking) rest e = (refl, e)

unnamed : (name : List ℕ) (h : List Entry) → is_member bytes_eq (names h) name ≡ false → last_some (λ e. moved_to name e.body) h ≡ None
unnamed name [] e = refl
unnamed name (x ∷ h) e = let parts = unnamed_by name x.body (names h) e in (λ i. option_or (unnamed name h parts.1 i) (parts.0 i))

bytes_laws : IsEquivalence bytes_eq
bytes_laws = lists_equiv nat_eq_equiv

-- a bookmark with a head is named, and so it is among the names that have one
has_head : (h : List Entry) (name : List ℕ) → is_member bytes_eq (filter (λ name. is_some (head h name)) (names h)) name ≡ is_some (head h name)
has_head h name =
    is_member-filter bytes_laws (λ name. is_some (head h name)) name (λ x e. ap (λ name. is_some (head h name)) ((bytes_eq-Decides name x).0 e)) (names h)
    ∙ by (is_member bytes_eq (names h) name) refl
  where
    by : (b : Bool) → is_member bytes_eq (names h) name ≡ b → (is_member bytes_eq (names h) name && is_some (head h name)) ≡ is_some (head h name)
    by true e = ap (λ b. b && is_some (head h name)) e
    by false e = ap (λ b. b && is_some (head h name)) e ∙ sym (ap (λ o. is_some (option_flatten o)) (unnamed name h e))

-- ---- the map

abbrev order : List ℕ → List ℕ → Bool
order = eq_by_cmp (slice_cmp nat_cmp)

order_is : order ≡ bytes_eq
order_is = λ i x y. is_eq-slice_cmp x y i

order_laws : IsEquivalence order
order_laws = subst IsEquivalence (sym order_is) bytes_laws

abbrev headed : List (List ℕ × Option Id) → List (List ℕ × Option Id)
headed es = filter (λ e. is_some e.1) es

length_by : (e : List ℕ × Option Id) (es : List (List ℕ × Option Id)) (b : Bool) → length (filter is_some (values_of es)) ≡ length (keys_of (headed es)) → length (cond b (e.1 ∷ filter is_some (values_of es)) (filter is_some (values_of es))) ≡ length (keys_of (cond b (e ∷ headed es) (headed es)))
length_by e es true same = ap suc same
length_by e es false same = same

length-headed : (es : List (List ℕ × Option Id)) → length (filter is_some (values_of es)) ≡ length (keys_of (headed es))
length-headed [] = refl
length-headed (e ∷ es) = length_by e es (is_some e.1) (length-headed es)

flat : (o : Option (Option Id)) → is_some (option_filter is_some o) ≡ is_some (option_flatten o)
flat None = refl
flat (Some None) = refl
flat (Some (Some x)) = refl

module _ (heads : BTreeMap (List ℕ) (Option Id)) (ordered : IsOrdered (slice_cmp nat_cmp) heads) (h : List Entry) (are : (name : List ℕ) → option_flatten (get (slice_cmp nat_cmp) heads name) ≡ head h name) where
  distinct : IsDistinct order (keys_of heads.entries)
  distinct = IsDistinct-from_sorted (slice_cmp nat_cmp) (keys_of heads.entries) ordered

  headed_member : (name : List ℕ) → is_member order (keys_of (headed heads.entries)) name ≡ is_some (head h name)
  headed_member name =
      sym (is_some-lookup (order name) (headed heads.entries))
      ∙ ap is_some (lookup-filter-values order_laws is_some name heads.entries distinct)
      ∙ flat (lookup (order name) heads.entries)
      ∙ ap is_some (are name)

  pub heads_counted : length (filter is_some (values heads)) ≡ bookmarks h
  heads_counted =
      let ks = keys_of (headed heads.entries) in
      length-headed heads.entries
      ∙ length-from_keys bytes_laws ks (filter (λ name. is_some (head h name)) (names h))
      (subst (λ e. IsDistinct e ks) order_is (IsDistinct-keys_filter order (λ e. is_some e.1) heads.entries distinct))
      (λ name. ap (λ e. is_member e ks name) (sym order_is) ∙ headed_member name ∙ sym (has_head h name))
