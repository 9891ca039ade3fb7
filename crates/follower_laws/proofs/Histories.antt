-- The history of a file at a known changeset stays as a history grows.
use Rattle.std.proofs.Common.{◌≡◌, Bool, true, false, cond, not, ◌||◌, List, [], ◌∷◌, ◌++◌, reverse, refl, sym, ap, subst, ◌∙◌}
use Rattle.std.specs.Prelude.{Option, Some, None, filter, filter_map, bytes_eq, is_some}
use mathlib.Core.Bool.{true≢false}
use Rattle.std.specs.List.{list_any}
use Rattle.std.specs.Option.{option_map_or}
use Rattle.std.proofs.lemmas.List.{reverse-append}
use Rattle.std.proofs.lemmas.List.Elements.{filter_map-append}
use Rattle.std.proofs.lemmas.List.Folds.{list_any-append}
use Rattle.std.proofs.lemmas.Slice.Eq.{bytes_eq-Decides}
use Rattle.byte_fields.specs.Bytes.{Id}
use Rattle.changeset_model.specs.Path.{Path}
use Rattle.history_model.specs.History.{Entry, Known, each_id_once, known, is_known}
use Rattle.history_model.specs.Chain.{first_parent}
use Rattle.history_model.specs.Past.{Past, Begin, At, second_of, past_among, past}
use Rattle.history_model.specs.Tree.{tree_of}
use Rattle.history_model.proofs.Landings.{or_true as or_right, or_left}
use Rattle.manifest_model.specs.Merged.{Side, is_new_file, side_of, unode_at, makers, history_of}
use Rattle.manifest_model.proofs.Derivations.{or_case}
use Rattle.reply_model.proofs.Lines.{AreOnce, known_once, known-append, past_grows}
use Rattle.reply_model.proofs.Parents.{brought, known_right, known_reverse, same_id}

none_among : (q : Id → Bool) → list_any q [] ≡ true → ⊥
none_among q e = true≢false (sym e)

-- ---- those that made a file's nodes are known

only_if : (q : Id → Bool) (b : Bool) (ids : List Id) → list_any q (cond b ids []) ≡ true → list_any q ids ≡ true
only_if q true ids e = e
only_if q false ids e = absurd (none_among q e)

of_parent : (older : List Known) (p : Path) (y : Id) → ((x : Id) → list_any (bytes_eq y) (makers (past_among older x) p) ≡ true → is_known older y ≡ true)
    → (o : Option Id) → list_any (bytes_eq y) (makers (option_map_or (past_among older) o Begin) p) ≡ true → is_known older y ≡ true
of_parent older p y later None e = absurd (none_among (bytes_eq y) e)
of_parent older p y later (Some x) e = later x e

itself : (k : Known) (y : Id) → list_any (bytes_eq y) (k.id ∷ []) ≡ true → bytes_eq k.id y ≡ true
itself k y e = or_case (bytes_eq y k.id) false (λ same. subst (λ z. bytes_eq k.id z ≡ true) (sym ((bytes_eq-Decides y k.id).0 same)) (same_id k.id)) (λ f. absurd (true≢false (sym f))) e

makers_by : (k : Known) (older : List Known) (x : Id) (p : Path) (y : Id) → ((z : Id) → list_any (bytes_eq y) (makers (past_among older z) p) ≡ true → is_known older y ≡ true)
    → (b : Bool) → list_any (bytes_eq y) (makers (cond b (At k (option_map_or (past_among older) (first_parent k.changeset) Begin) (option_map_or (past_among older) (second_of k.changeset.parents) Begin)) (past_among older x)) p) ≡ true
    → (bytes_eq k.id y || is_known older y) ≡ true
makers_by k older x p y later false e = or_right (bytes_eq k.id y) (is_known older y) (later x e)
makers_by k older x p y later true e =
    let q : Id → Bool = bytes_eq y in
    let first : Past = option_map_or (past_among older) (first_parent k.changeset) Begin in
    let second : Past = option_map_or (past_among older) (second_of k.changeset.parents) Begin in
    let sides : List Side = side_of first (unode_at first) ++ side_of second (unode_at second) in
    let own : List Id = cond (is_new_file k sides p) (k.id ∷ []) [] in
    let one : List Id = cond (is_some (tree_of first p)) (makers first p) [] in
    let two : List Id = cond (is_some (tree_of second p)) (makers second p) [] in
    let whole : list_any q ((own ++ one) ++ two) ≡ true = e in
    or_case (list_any q (own ++ one)) (list_any q two)
    (λ h. or_case (list_any q own) (list_any q one)
    (λ mine. or_left (bytes_eq k.id y) (is_known older y) (itself k y (only_if q (is_new_file k sides p) (k.id ∷ []) mine)))
    (λ first_has. or_right (bytes_eq k.id y) (is_known older y) (of_parent older p y later (first_parent k.changeset) (only_if q (is_some (tree_of first p)) (makers first p) first_has)))
    (sym (list_any-append q own one) ∙ h))
    (λ second_has. or_right (bytes_eq k.id y) (is_known older y) (of_parent older p y later (second_of k.changeset.parents) (only_if q (is_some (tree_of second p)) (makers second p) second_has)))
    (sym (list_any-append q (own ++ one) two) ∙ whole)

makers_known : (ks : List Known) (x : Id) (p : Path) (y : Id) → list_any (bytes_eq y) (makers (past_among ks x) p) ≡ true → is_known ks y ≡ true
makers_known [] x p y e = absurd (none_among (bytes_eq y) e)
makers_known (k ∷ older) x p y e = makers_by k older x p y (λ z. makers_known older z p y) (bytes_eq k.id x) e

-- ---- later changesets are none of them

abbrev pick : List Id → Known → Option Id
pick ids k = cond (list_any (bytes_eq k.id) ids) (Some k.id) None

skip_by : (j : Known) (ids rest : List Id) → (list_any (bytes_eq j.id) ids ≡ true → ⊥) → (b : Bool) → list_any (bytes_eq j.id) ids ≡ b → filter_map (λ (k : Known). cond b (Some j.id) None) (j ∷ []) ++ rest ≡ rest
skip_by j ids rest never true e = absurd (never e)
skip_by j ids rest never false e = refl

skip_new : (ids : List Id) (js ks : List Known) → AreOnce (js ++ ks) → ((y : Id) → list_any (bytes_eq y) ids ≡ true → is_known ks y ≡ true) → filter_map (pick ids) (js ++ ks) ≡ filter_map (pick ids) ks
skip_new ids [] ks once known = refl
skip_new ids (j ∷ js) ks once known =
    filter_map-append (pick ids) (j ∷ []) (js ++ ks)
    ∙ skip_by j ids (filter_map (pick ids) (js ++ ks)) (λ e. once.0 (known_right js ks j.id (known j.id e))) (list_any (bytes_eq j.id) ids) refl
    ∙ skip_new ids js ks once.1 known

pub history_grows : (h g : List Entry) (x : Id) (p : Path) → is_known (known h) x ≡ true → history_of (known (h ++ g)) x p ≡ history_of (known h) x p
history_grows h g x p there =
    let new : List Known = filter (λ k. not (is_known (brought h) k.id)) (each_id_once (brought g)) in
    let all : reverse (known (h ++ g)) ≡ reverse new ++ reverse (known h) = ap reverse (known-append h g) ∙ reverse-append (known h) new in
    ap (λ here. filter_map (pick (makers here p)) (reverse (known (h ++ g)))) (past_grows h g x there)
    ∙ ap (filter_map (pick (makers (past (known h) x) p))) all
    ∙ skip_new (makers (past (known h) x) p) (reverse new) (reverse (known h)) (subst AreOnce all (known_once (h ++ g))) (λ y e. makers_known (reverse (known h)) x p y e)
