-- What a crash left from one moment to another, over those in between.
use Rattle.std.proofs.Common.{◌≡◌, ◌⊎◌, ℕ, ◌≤◌, List, ◌++◌, length, map, take, Bool, refl, sym, ap, ◌∙◌, subst, inl, inr, ⊎_elim, arith, length-append}
use Rattle.std.specs.Prelude.{IsTrue, filter}
use Rattle.std.proofs.lemmas.List.{map-append, take-append-le}
use Rattle.std.proofs.lemmas.List.Elements.{filter-append}
use mathlib.Core.List.{IsPrefix}
use Rattle.disk_model.specs.Meaning.{LeftSince}
use Rattle.history_model.specs.History.{Body, Entry, bodies, is_stored, unnumbered}
use Rattle.history_model.specs.Journal.{Header, Stands}
use Rattle.bookmark_lock.specs.Leaving.{StandsWithin, Lasts, stored_part}
use Rattle.bookmark_lock.specs.Turning.{Turn}
use Rattle.bookmark_lock.proofs.Disks.{kept_none, kept_then}

pub bodies_both : (h g : List Entry) → bodies (h ++ g) ≡ bodies h ++ bodies g
bodies_both h g = ap (λ (bs : List Body). filter is_stored bs) (map-append (λ (x : Entry). x.body) h g) ∙ filter-append is_stored (map (λ (x : Entry). x.body) h) (map (λ (x : Entry). x.body) g)

module _ (h g : List Entry) (begins : IsPrefix h g) where
  bodies_more : bodies g ≡ bodies h ++ bodies begins.0
  bodies_more = ap bodies (sym begins.1) ∙ bodies_both h begins.0

  pub more_stored : length (bodies h) ≤ length (bodies g)
  more_stored = omega (arith, ap length bodies_more, length-append (bodies h) (bodies begins.0))

  -- the first stored entries stay the first
  pub part_stays : (i : ℕ) → i ≤ length (bodies h) → stored_part i h ≡ stored_part i g
  part_stays i inside = ap (map unnumbered) (sym (ap (take i) bodies_more ∙ take-append-le i (bodies h) (bodies begins.0) inside))

pub stands_fewer : (header : Header) (m n : ℕ) (t : Turn) (image : List ℕ) → m ≤ n → StandsWithin header n t image → StandsWithin header m t image
stands_fewer header m n t image le s = let more = s.no_fewer in record { first = s.first; no_fewer = omega arith; stored = s.stored; no_more = s.no_more; stands = s.stands }

pub stands_later : (header : Header) (n : ℕ) (b c : Turn) (image : List ℕ) → IsPrefix b.log c.log → b.sealed ≤ c.sealed → (b.reach ≤ c.sealed) ⊎ (c.reach ≡ b.reach) → StandsWithin header n b image → StandsWithin header n c image
stands_later header n b c image begins seals reaches s = record {
  first = s.first;
  no_fewer = s.no_fewer;
  stored = let more = more_stored b.log c.log begins in let here = s.stored in omega arith;
  no_more = ⊎_elim
      (λ (le : s.first ≤ b.sealed). inl (omega arith))
      (λ (is : s.first ≡ b.reach). ⊎_elim (λ (le : b.reach ≤ c.sealed). inl (omega arith)) (λ (same : c.reach ≡ b.reach). inr (is ∙ sym same)) reaches)
      s.no_more;
  stands = subst (λ (h : List Entry). Stands header image h) (part_stays b.log c.log begins s.first s.stored) s.stands;
}

pub lasts_none : (header : Header) (a : Turn) → Lasts header a a
lasts_none header a = record {
  seals = omega arith;
  reaches = inr refl;
  kept = kept_none a.disk;
  leaves = λ honest. record { since = λ t image le left. inl left };
}

pub lasts_then : (header : Header) (a b c : Turn) → IsPrefix b.log c.log → Lasts header a b → Lasts header b c → Lasts header a c
lasts_then header a b c begins one two = record {
  seals = let p = one.seals in let q = two.seals in omega arith;
  reaches = ⊎_elim
      (λ (le : a.reach ≤ b.sealed). inl (let q = two.seals in omega arith))
      (λ (same : b.reach ≡ a.reach). ⊎_elim (λ (le : b.reach ≤ c.sealed). inl (omega arith)) (λ (same' : c.reach ≡ b.reach). inr (same' ∙ same)) two.reaches)
      one.reaches;
  kept = kept_then a.disk b.disk c.disk one.kept two.kept;
  leaves = λ honest. record {
    since = λ t image le left. (let first = one.leaves honest in
        let next = two.leaves (subst (λ (b : Bool). IsTrue b) (sym one.kept.honest) honest) in
        ⊎_elim
        (λ (before : LeftSince b.disk t image). ⊎_elim
        (λ (long_before : LeftSince a.disk t image). inl long_before)
        (λ (s : StandsWithin header a.sealed b image). inr (stands_later header a.sealed b c image begins two.seals two.reaches s))
        (first.since t image le before))
        (λ (s : StandsWithin header b.sealed c image). inr (stands_fewer header a.sealed b.sealed c image one.seals s))
        (next.since t image (let later = one.kept.later in omega arith) left));
  };
}
