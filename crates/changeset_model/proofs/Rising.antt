-- Paths in their order, each once.
use Rattle.std.proofs.Common.{◌≡◌, true, false, List, [], ◌∷◌, map, refl, sym, ap, subst, ◌∙◌}
use Rattle.std.specs.Prelude.{Contains, flat_map, ◌↔◌}
use Rattle.std.specs.List.{AllByRecursion}
use Rattle.std.specs.declared.cmp.Ordering.{Ordering}
use Rattle.std.specs.declared.cmp.Ordering.TheVariants.{Less, Equal, Greater}
use Rattle.std.specs.Ordering.{is_lt, ordering_reverse}
use Rattle.std.specs.Cmp.{tied_itself}
use Rattle.std.specs.FinMap.Entries.{by_order}
use Rattle.std.proofs.lemmas.List.Elements.{recursion_from_All, All-contains_itself}
use Rattle.changeset_model.specs.Path.{Path, path_cmp, path_lt, in_place, rising, IsRising}
use Rattle.changeset_model.specs.Changeset.{Changeset, touched_paths}
use Rattle.changeset_model.proofs.Paths.{path_cmp_total, path_cmp-IsAntisymmetric}
use Rattle.byte_fields.proofs.Lists.{weaker, each_of}

-- ---- the order

pub path_lt_irreflexive : (p : Path) → path_lt p p ≡ false
path_lt_irreflexive p = ap is_lt (tied_itself path_cmp_total p)

above : (o : Ordering) → is_lt o ≡ true → is_lt (ordering_reverse o) ≡ false
above Less h = refl
above Equal h = refl
above Greater h = absurd (cc)

pub path_lt_asymmetric : (p q : Path) → path_lt p q ≡ true → path_lt q p ≡ false
path_lt_asymmetric p q h = ap is_lt (path_cmp_total.antisymm q p) ∙ above (path_cmp p q) h

-- ---- in order

pub less_of : (o : Ordering) → is_lt o ≡ true → o ≡ Less
less_of Less h = refl
less_of Equal h = absurd (cc)
less_of Greater h = absurd (cc)

pub path_lt-trans : (p q r : Path) → path_lt p q ≡ true → path_lt q r ≡ true → path_lt p r ≡ true
path_lt-trans p q r h g = ap is_lt (path_cmp_total.trans p q r (less_of (path_cmp p q) h) (less_of (path_cmp q r) g))

from_greater : (p q : Path) → path_cmp p q ≡ Greater → path_lt q p ≡ true
from_greater p q e = ap is_lt (path_cmp_total.antisymm q p ∙ ap ordering_reverse e)

each_by : (P : Path → Type 0) (p q : Path) (qs later : List Path) → P p → P q → AllByRecursion P qs → AllByRecursion P later → (o : Ordering) → AllByRecursion P (by_order o (p ∷ q ∷ qs) (q ∷ qs) (q ∷ later))
each_by P p q qs later hp hq hqs hl Less = (hp, (hq, hqs))
each_by P p q qs later hp hq hqs hl Equal = (hq, hqs)
each_by P p q qs later hp hq hqs hl Greater = (hq, hl)

each_in_place : (P : Path → Type 0) (p : Path) (qs : List Path) → P p → AllByRecursion P qs → AllByRecursion P (in_place p qs)
each_in_place P p [] h hs = (h, tt)
each_in_place P p (q ∷ qs) h hs = each_by P p q qs (in_place p qs) h hs.0 hs.1 (each_in_place P p qs h hs.1) (path_cmp p q)

from_by : (P : Path → Type 0) (p q : Path) (qs later : List Path) → (AllByRecursion P later → P p × AllByRecursion P qs) → (o : Ordering) → path_cmp p q ≡ o → AllByRecursion P (by_order o (p ∷ q ∷ qs) (q ∷ qs) (q ∷ later)) → P p × AllByRecursion P (q ∷ qs)
from_by P p q qs later ih Less e all = (all.0, all.1)
from_by P p q qs later ih Equal e all = (subst P (sym (path_cmp-IsAntisymmetric p q e)) all.0, all)
from_by P p q qs later ih Greater e all = let rest = ih all.1 in (rest.0, (all.0, rest.1))

from_in_place : (P : Path → Type 0) (p : Path) (qs : List Path) → AllByRecursion P (in_place p qs) → P p × AllByRecursion P qs
from_in_place P p [] all = all
from_in_place P p (q ∷ qs) all = from_by P p q qs (in_place p qs) (from_in_place P p qs) (path_cmp p q) refl all

pub each_rising : (P : Path → Type 0) (ps : List Path) → AllByRecursion P ps → AllByRecursion P (rising ps)
each_rising P [] all = tt
each_rising P (p ∷ ps) all = each_in_place P p (rising ps) all.0 (each_rising P ps all.1)

pub from_rising : (P : Path → Type 0) (ps : List Path) → AllByRecursion P (rising ps) → AllByRecursion P ps
from_rising P [] all = tt
from_rising P (p ∷ ps) all = let rest = from_in_place P p (rising ps) all in (rest.0, from_rising P ps rest.1)

pub itself : (ps : List Path) → AllByRecursion (Contains ps) ps
itself ps = recursion_from_All (Contains ps) ps (All-contains_itself ps)

-- it has the same paths
pub Contains-rising : (ps : List Path) (p : Path) → Contains (rising ps) p ↔ Contains ps p
Contains-rising ps p = (
  (λ c. each_of (Contains ps) (rising ps) p (each_rising (Contains ps) ps (itself ps)) c),
  (λ c. each_of (Contains (rising ps)) ps p (from_rising (Contains (rising ps)) ps (itself (rising ps))) c),
)

rising_by : (p q : Path) (qs later : List Path) → IsRising (q ∷ qs) → IsRising later → (path_lt q p ≡ true → AllByRecursion (λ r. path_lt q r ≡ true) later) → (o : Ordering) → path_cmp p q ≡ o → IsRising (by_order o (p ∷ q ∷ qs) (q ∷ qs) (q ∷ later))
rising_by p q qs later h hl above Less e = ((ap is_lt e, weaker (λ r. path_lt q r ≡ true) (λ r. path_lt p r ≡ true) (λ r g. path_lt-trans p q r (ap is_lt e) g) qs h.0), h)
rising_by p q qs later h hl above Equal e = h
rising_by p q qs later h hl above Greater e = (above (from_greater p q e), hl)

in_place-rising : (p : Path) (qs : List Path) → IsRising qs → IsRising (in_place p qs)
in_place-rising p [] h = (tt, tt)
in_place-rising p (q ∷ qs) h = rising_by p q qs (in_place p qs) h (in_place-rising p qs h.1) (λ g. each_in_place (λ r. path_lt q r ≡ true) p qs g h.0) (path_cmp p q) refl

-- each path once, in order
pub IsRising-rising : (ps : List Path) → IsRising (rising ps)
IsRising-rising [] = tt
IsRising-rising (p ∷ ps) = in_place-rising p (rising ps) (IsRising-rising ps)

pub touched_paths_rise : (cs : List Changeset) → IsRising (touched_paths cs)
touched_paths_rise cs = IsRising-rising (flat_map (λ c. map (λ e. e.0) c.changes) cs)
