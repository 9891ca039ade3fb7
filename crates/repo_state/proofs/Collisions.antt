-- Where no new changeset collides, no other one is known by its id.
use Rattle.std.proofs.Common.{◌≡◌, Bool, true, false, not, ◌&&◌, List, [], ◌∷◌, ◌++◌, refl}
use Rattle.std.specs.Prelude.{None, Some, bytes_eq, cond}
use Rattle.std.specs.List.{AllByRecursion}
use Rattle.std.proofs.lemmas.Slice.Eq.{bytes_eq-Decides}
use Rattle.byte_fields.proofs.Lists.{all_push}
use Rattle.changeset_model.specs.Changeset.{Changeset, id_of, is_changeset, spelling}
use Rattle.changeset_model.proofs.Spelling.{one_spelling}
use Rattle.history_model.specs.History.{Known, with_id}
use Rattle.reply_model.specs.Reply.{collides, first_collision}
use Rattle.changeset_store.specs.Grown.{IsAlone, AreAlone}
use Rattle.byte_fields.proofs.Booleans.{neither as both_false}

abbrev pub KeepsRules : Changeset → Type 0
KeepsRules c = is_changeset c ≡ true

second_true : (a b : Bool) → a ≡ true → (a && not b) ≡ false → b ≡ true
second_true true true e f = refl
second_true true false e f = absurd cc
second_true false b e f = absurd cc

alone_of : (ks : List Known) (c : Changeset) → AllByRecursion (λ (k : Known). KeepsRules k.changeset) ks → KeepsRules c → collides ks c ≡ false → IsAlone ks c
alone_of [] c all keeps none = tt
alone_of (k ∷ ks) c all keeps none =
    let parts = both_false (bytes_eq k.id (id_of c) && not (bytes_eq (spelling k.changeset) (spelling c))) (collides ks c) none in
    let one : k.id ≡ id_of c → k.changeset ≡ c = λ same.
    one_spelling k.changeset c all.0 keeps
    ((bytes_eq-Decides (spelling k.changeset) (spelling c)).0
    (second_true (bytes_eq k.id (id_of c)) (bytes_eq (spelling k.changeset) (spelling c)) ((bytes_eq-Decides k.id (id_of c)).1 same) parts.0)) in
    (one, alone_of ks c all.1 keeps parts.1)

alone_by : (ks : List Known) (c : Changeset) (cs : List Changeset) → AllByRecursion (λ (k : Known). KeepsRules k.changeset) ks → KeepsRules c → (first_collision (ks ++ with_id c ∷ []) cs ≡ None → AreAlone (ks ++ with_id c ∷ []) cs) → (b : Bool) → collides ks c ≡ b → cond b (Some (id_of c)) (first_collision (ks ++ with_id c ∷ []) cs) ≡ None → AreAlone ks (c ∷ cs)
alone_by ks c cs all keeps later true e none = absurd cc
alone_by ks c cs all keeps later false e none = (alone_of ks c all keeps e, later none)

pub all_alone : (ks : List Known) (new : List Changeset) → AllByRecursion (λ (k : Known). KeepsRules k.changeset) ks → AllByRecursion KeepsRules new → first_collision ks new ≡ None → AreAlone ks new
all_alone ks [] all rules none = tt
all_alone ks (c ∷ cs) all rules none =
    alone_by ks c cs all rules.0 (all_alone (ks ++ with_id c ∷ []) cs (all_push (λ (k : Known). KeepsRules k.changeset) ks (with_id c) all rules.0) rules.1) (collides ks c) refl none
