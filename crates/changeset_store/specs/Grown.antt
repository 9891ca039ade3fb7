-- More changesets become known, together with those of a list.
--     with_known ks cs      the known changesets and these
--     IsAlone ks c      no other changeset than c is known by its id;  AreAlone ks cs      nor are others by the ids of these, with those before them
--     adding_one ks c, adding ks cs      what is known then: those that weren't, each once
--     CanAddOne ks c, CanAdd ks cs      their parents are known, and no other changeset by their ids
use Rattle.std.specs.Prelude.{◌≡◌, true, if◌then◌else◌, List, [], ◌∷◌, ◌++◌, map}
use Rattle.std.specs.List.{AllByRecursion}
use Rattle.changeset_model.specs.Changeset.{Changeset, id_of}
use Rattle.history_model.specs.History.{Known, with_id, is_known}

abbrev pub with_known : List Known → List Changeset → List Known
with_known ks cs = ks ++ map with_id cs

abbrev pub IsAlone : List Known → Changeset → Type 0
IsAlone ks c = AllByRecursion (λ k. k.id ≡ id_of c → k.changeset ≡ c) ks

abbrev pub AreAlone : List Known → List Changeset → Type 0
AreAlone ks [] = Unit {0}
AreAlone ks (c ∷ cs) = IsAlone ks c × AreAlone (ks ++ with_id c ∷ []) cs

abbrev pub adding_one : List Known → Changeset → List Known
adding_one ks c = if is_known ks (id_of c) then ks else ks ++ with_id c ∷ []

abbrev pub adding : List Known → List Changeset → List Known
adding ks [] = ks
adding ks (c ∷ cs) = adding (adding_one ks c) cs

pub record CanAddOne (ks : List Known) (c : Changeset) : Type 0 where
  pub parents : AllByRecursion (λ p. is_known ks p ≡ true) c.parents
  pub alone : IsAlone ks c

abbrev pub CanAdd : List Known → List Changeset → Type 0
CanAdd ks [] = Unit {0}
CanAdd ks (c ∷ cs) = CanAddOne ks c × CanAdd (adding_one ks c) cs
