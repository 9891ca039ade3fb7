-- One more changeset of a stack.
--     edits_of_one_more      the paths of its edits stand behind those of the changesets before it
--     rewrite_one_more      what was made, the new changeset, and what is left on it
--     encode_one_more      what was written, the new changeset's encoding, and that of what is left on it
--     behind_length      bytes that are put behind their length
use Rattle.std.proofs.Common.{◌≡◌, ℕ, zero, suc, ◌+◌, ◌<◌, subst, arith, List, [], ◌∷◌, ◌++◌, length, take, drop, map, sym, ap, ◌∙◌}
use Rattle.std.specs.Prelude.{flat_map, slice_index_or, Result, Ok, Err, OnOk}
use Rattle.std.specs.Arc.{arc_value}
use Rattle.std.specs.Borrow.{Bor}
use Rattle.std.specs.Int.{w32, to_be_bytes}
use Rattle.std.specs.declared.sync.Arc.{Arc}
use Rattle.std.proofs.lemmas.List.{append_assoc, append-nil, drop_more, map_more}
use Rattle.std.proofs.lemmas.Grind.{flat_map-append}
use Rattle.byte_fields.specs.Bytes.{Id, sized}
use Rattle.changeset_model.specs.Path.{Path}
use Rattle.changeset_model.specs.Changeset.{Changeset, id_of, spelling}
use Rattle.history_model.specs.Pushrebase.{on_parent, rewrite}
use Rattle.bonsai.specs.Encodings.{encodings}
use Rattle.bonsai.specs.Making.{KeepsOnParent, KeepOnParents}

abbrev edited : Changeset → List Path
edited c = map (λ e. e.0) c.changes

pub edits_of_one_more : (stack : List (Bor Changeset)) (i : ℕ) (c : Bor Changeset) → i < length stack → c ≡ slice_index_or stack i c → flat_map edited (map (λ c. c.now) (take (i + 1) stack)) ≡ flat_map edited (map (λ c. c.now) (take i stack)) ++ edited c.now
edits_of_one_more stack i c less is =
    let before = map (λ (c : Bor Changeset). c.now) (take i stack) in
    ap (flat_map edited) (map_more (λ (c : Bor Changeset). c.now) stack i c less ∙ ap (λ (c : Bor Changeset). before ++ c.now ∷ []) (sym is))
    ∙ flat_map-append edited before (c.now ∷ [])
    ∙ ap (λ ps. flat_map edited before ++ ps) (append-nil (edited c.now))

-- the stack that is left begins with its next changeset
pub rewrite_next : {Z : Type 0} (stack : List (Arc Changeset Z)) (i : ℕ) (c : Arc Changeset Z) (parent : Id) (moment : ℕ) → i < length stack → c ≡ slice_index_or stack i c → on_parent parent moment (arc_value c) ∷ rewrite (map arc_value (drop (i + 1) stack)) (id_of (on_parent parent moment (arc_value c))) moment ≡ rewrite (map arc_value (drop i stack)) parent moment
rewrite_next {Z = Z} stack i c parent moment less is =
    ap (λ (left : List (Arc Changeset Z)). rewrite (map arc_value left) parent moment) (sym (drop_more stack i c less ∙ ap (λ c. c ∷ drop (i + 1) stack) (sym is)))

pub rewrite_one_more : {Z : Type 0} (made : List Changeset) (stack : List (Arc Changeset Z)) (i : ℕ) (c : Arc Changeset Z) (parent : Id) (moment : ℕ) → i < length stack → c ≡ slice_index_or stack i c → (made ++ on_parent parent moment (arc_value c) ∷ []) ++ rewrite (map arc_value (drop (i + 1) stack)) (id_of (on_parent parent moment (arc_value c))) moment ≡ made ++ rewrite (map arc_value (drop i stack)) parent moment
rewrite_one_more made stack i c parent moment less is =
    append_assoc made (on_parent parent moment (arc_value c) ∷ []) (rewrite (map arc_value (drop (i + 1) stack)) (id_of (on_parent parent moment (arc_value c))) moment)
    ∙ ap (λ cs. made ++ cs) (rewrite_next stack i c parent moment less is)

pub encode_one_more : {Z : Type 0} (out : List ℕ) (stack : List (Arc Changeset Z)) (i : ℕ) (c : Arc Changeset Z) (parent : Id) (moment : ℕ) → i < length stack → c ≡ slice_index_or stack i c → (out ++ sized w32 (spelling (on_parent parent moment (arc_value c)))) ++ encodings (rewrite (map arc_value (drop (i + 1) stack)) (id_of (on_parent parent moment (arc_value c))) moment) ≡ out ++ encodings (rewrite (map arc_value (drop i stack)) parent moment)
encode_one_more out stack i c parent moment less is =
    append_assoc out (sized w32 (spelling (on_parent parent moment (arc_value c)))) (encodings (rewrite (map arc_value (drop (i + 1) stack)) (id_of (on_parent parent moment (arc_value c))) moment))
    ∙ ap (λ cs. out ++ encodings cs) (rewrite_next stack i c parent moment less is)

pub behind_length : {A E : Type 0} (r : Result A E) (out mid after given spelled : List ℕ) (n : ℕ) → mid ≡ out ++ to_be_bytes w32 n → n ≡ length spelled → given ≡ spelled → OnOk r (after ≡ mid ++ given) → OnOk r (after ≡ out ++ sized w32 spelled)
behind_length (Ok x) out mid after given spelled n mid_is n_is given_is written =
    written
    ∙ (λ i. mid_is i ++ given_is i)
    ∙ append_assoc out (to_be_bytes w32 n) spelled
    ∙ ap (λ n. out ++ (to_be_bytes w32 n ++ spelled)) n_is
behind_length (Err e) out mid after given spelled n mid_is n_is given_is written = tt

-- each changeset of a stack keeps what all keep
pub one_keeps : {Z : Type 0} (stack : List (Arc Changeset Z)) (i : ℕ) (c : Arc Changeset Z) → i < length stack → c ≡ slice_index_or stack i c → KeepOnParents (map arc_value stack) → KeepsOnParent (arc_value c)
one_keeps [] i c less is all = absurd (omega arith)
one_keeps (d ∷ stack) zero c less is all = subst (λ c. KeepsOnParent (arc_value c)) (sym is) all.0
one_keeps (d ∷ stack) (suc i) c less is all = one_keeps stack i c (omega arith) is all.1
