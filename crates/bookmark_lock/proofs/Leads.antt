-- What the lead does keeps what holds of all seats.
use Rattle.std.specs.Prelude.{All, AllPairs, MatchOption}
use Rattle.std.proofs.Common.{Option, ◌≡◌, ◌≢◌, ◌⊎◌, ℕ, zero, suc, ◌+◌, ◌-◌, ◌^◌, ◌<◌, ◌≤◌, List, [], ◌∷◌, ◌++◌, length, set, false, refl, sym, ap, ◌∙◌, subst, inl, inr, ⊎_elim, arith, get_or}
use Rattle.std.proofs.lemmas.List.Elements.{All-cons}
use Rattle.std.proofs.lemmas.List.Kept.{AllPairs-cons}
use mathlib.Core.Logic.{dite}
use mathlib.Core.Option.{some, some-injective}
use mathlib.Core.List.{IsPrefix}
use native.Mathlib.Decide.{ℕ_discrete}
use lib.ListN.{get_elem?}
use Rattle.atomic_table.proofs.Lists.{at_set, set_here, set_else, at_longer}
use Rattle.history_model.specs.History.{Entry, entries_by}
use Rattle.bookmark_lock.specs.Opening.{Opening}
use Rattle.bookmark_lock.specs.Place.{numbers, longer}
use Rattle.bookmark_lock.specs.Fronts.{GoesOn, HasJoined}
use Rattle.bookmark_lock.specs.Members.{Member, Meeting, forking, fork_of, merging, spent_member}
use Rattle.bookmark_lock.specs.Roster.{Fits, Roster, living}
use Rattle.bookmark_lock.proofs.Members.{at_inside, at_end, living-set_same, living-snoc, living-set_spent, living-some, living-one}
use Rattle.bookmark_lock.proofs.Rosters.{Was, was_set, apart_of, Without}
use Rattle.bookmark_lock.proofs.Entries.{all_prefix, entries_none, sandwich, longer_begins, begins_longer, begins_longer_too, longer_whole}

-- the lead with another count of numbers drawn, and this to learn
abbrev pub counting : Member → ℕ → Option Meeting → Member
counting p drawn met = record p { drawn = drawn; met = met }

-- the numbers below one more
one_more : (most : ℕ) (ns : List ℕ) → All (λ (n : ℕ). n ≤ most) ns → All (λ (n : ℕ). n ≤ most + 1) ns
one_more most ns a k d h = let small = a k d h in omega arith

without_next : (most : ℕ) (ns : List ℕ) → All (λ (n : ℕ). n ≤ most) ns → Without (most + 1) ns
without_next most ns a k d h = λ same. let small = a k d h in omega arith

pub only_is : (P : ℕ → Type 0) (n : ℕ) → P n → All P (n ∷ [])
only_is P n p zero d h = p
only_is P n p (suc k) d h = absurd (omega arith)

pub only_apart : (n : ℕ) → AllPairs (λ (a b : ℕ). a ≢ b) (n ∷ [])
only_apart n i j d less inside = absurd (omega arith)

rest_of : (P : ℕ → Type 0) (n : ℕ) (ns : List ℕ) → All P (n ∷ ns) → All P ns
rest_of P n ns a k d h = a (suc k) d (omega arith)

rest_apart : (n : ℕ) (ns : List ℕ) → AllPairs (λ (a b : ℕ). a ≢ b) (n ∷ ns) → AllPairs (λ (a b : ℕ). a ≢ b) ns
rest_apart n ns a i j d less inside = a (suc i) (suc j) d (omega arith) (omega arith)

first_apart : (n : ℕ) (ns : List ℕ) → AllPairs (λ (a b : ℕ). a ≢ b) (n ∷ ns) → All (λ (x : ℕ). n ≢ x) ns
first_apart n ns a k d h = a 0 (suc k) d (omega arith) (omega arith)

turned : (n : ℕ) (ns : List ℕ) → Without n ns → All (λ (x : ℕ). n ≢ x) ns
turned n ns a k d h = λ same. a k d h (sym same)

module _ (log : List Entry) (key : Opening) (count next : ℕ) (members : List Member) (b : Roster log key count next members) (id : ℕ) (p : Member) (at : get_elem? members id ≡ some p) (lives : p.spent ≡ false) (leads : p.post.number ≡ 0) where
  -- who has number 0 is the lead
  here : id ≡ b.lead_at
  here = dite (ℕ_discrete id b.lead_at) (λ same. same)
      (λ away. absurd (b.apart id b.lead_at p b.lead at b.lead_is lives b.lead_lives away 0 0 (omega arith) (b.lead_zero ∙ sym leads)))

  lead_is_p : b.lead ≡ p
  lead_is_p = some-injective b.lead p (sym b.lead_is ∙ (ap (λ (n : ℕ). get_elem? members n) (sym here) ∙ at))

  -- what is said of the lead is said of p
  of_lead : (F : Member → Type 0) → F b.lead → F p
  of_lead F f = subst F lead_is_p f

  pub fits_p : (j : ℕ) (q : Member) → get_elem? members j ≡ some q → q.spent ≡ false → Fits log key p.post.split q
  fits_p j q e alive = of_lead (λ r. Fits log key r.post.split q) (b.fits j q e alive)

  pub fits_here : Fits log key p.post.split p
  fits_here = fits_p id p at lives

  pub drawn_p : next ≡ 1 + p.drawn
  drawn_p = of_lead (λ q. next ≡ 1 + q.drawn) b.drawn

  pub few_p : p.drawn ≤ 2 ^ 63
  few_p = of_lead (λ q. q.drawn ≤ 2 ^ 63) b.few

  pub behind_p : p.post.split ≤ p.drawn
  behind_p = of_lead (λ q. q.post.split ≤ q.drawn) b.behind

  pub recorded_p : All (λ (e : Entry). e.who ≤ p.post.split) log
  recorded_p = of_lead (λ q. All (λ (e : Entry). e.who ≤ q.post.split) log) b.recorded

  alive_p : living members ≡ 1 + p.post.out
  alive_p = of_lead (λ q. living members ≡ 1 + q.post.out) b.alive

  abbrev Longest : List Member → Type 0
  Longest ms = (j : ℕ) × (q : Member) × (get_elem? ms j ≡ some q) × (q.spent ≡ false) × (q.post.front ≡ log)

  longest_set : (p' : Member) → p'.spent ≡ false → p'.post.front ≡ p.post.front → Longest (set members id p')
  longest_set p' lives' same = let l = b.longest in dite (ℕ_discrete l.0 id)
      (λ mine.
      let is : l.1 ≡ p = some-injective l.1 p (sym l.2 ∙ (ap (λ (n : ℕ). get_elem? members n) mine ∙ at)) in
      (id, p', set_here members id p' (at_inside members id p at), lives', same ∙ (sym (ap (λ (q : Member). q.post.front) is) ∙ l.4)))
      (λ other. (l.0, l.1, set_else members id l.0 p' other ∙ l.2, l.3, l.4))

  module _ (next' drawn : ℕ) (met : Option Meeting) (now : next' ≡ 1 + drawn) (few : drawn ≤ 2 ^ 63) (behind : p.post.split ≤ drawn) (has : MatchOption met (Unit {0}) (λ (x : Meeting). HasJoined x.lead x.other p.post.front)) where
    abbrev p' : Member
    p' = counting p drawn met

    was : (j : ℕ) (q : Member) → get_elem? (set members id p') j ≡ some q → Was members j q
    was = was_set members id p p' at (record { spent = refl; number = refl; joined = refl })

    fits_p' : Fits log key p.post.split p'
    fits_p' = let f = fits_here in record { goes_on = f.goes_on; opened = f.opened; below = f.below; apart = f.apart; meets = has }

    pub roster_counting : Roster log key count next' (set members id p')
    roster_counting = record {
      lead_at = id;
      lead = p';
      lead_is = set_here members id p' (at_inside members id p at);
      lead_lives = lives;
      lead_zero = leads;
      fits = λ j q e alive. ⊎_elim
          (λ (t : (j ≡ id) × (p' ≡ q)). subst (λ (r : Member). Fits log key p.post.split r) t.1 fits_p')
          (λ (t : (j ≢ id) × (get_elem? members j ≡ some q)). fits_p j q t.1 alive)
          (at_set members id j p' q e);
      apart = λ j k q r e f. apart_of log key count next members b j k q r (was j q e) (was k r f);
      recorded = recorded_p;
      longest = longest_set p' lives refl;
      counted = b.counted;
      drawn = now;
      few = few;
      behind = behind;
      alive = living-set_same members id p p' at refl ∙ alive_p;
    }

  -- a new seat, with the number that was drawn
  module _ (drew : p.drawn ≡ p.post.split + 1) where
    abbrev left : Member
    left = forking p

    abbrev right : Member
    right = fork_of p

    abbrev forked : List Member
    forked = set members id left ++ right ∷ []

    -- an old seat, or the new one
    New : ℕ → Member → Type 0
    New j q = (get_elem? (set members id left) j ≡ some q) ⊎ ((j ≡ length (set members id left)) × (right ≡ q))

    new_at : (j : ℕ) (q : Member) → get_elem? forked j ≡ some q → New j q
    unfolding New
    new_at j q e = at_end (set members id left) right q j e

    was_left : (j : ℕ) (q : Member) → get_elem? (set members id left) j ≡ some q → Was members j q
    was_left = was_set members id p left at (record { spent = refl; number = refl; joined = refl })

    fits_more : (q : Member) → Fits log key p.post.split q → Fits log key (p.post.split + 1) q
    fits_more q f = record { goes_on = f.goes_on; opened = f.opened; below = one_more p.post.split (numbers q.post) f.below; apart = f.apart; meets = f.meets }

    fits_left : (j : ℕ) (q : Member) → get_elem? (set members id left) j ≡ some q → q.spent ≡ false → Fits log key (p.post.split + 1) q
    fits_left j q e alive = ⊎_elim
        (λ (t : (j ≡ id) × (left ≡ q)). let f = fits_here in
        subst (λ (r : Member). Fits log key (p.post.split + 1) r) t.1
        (fits_more left (record { goes_on = record { begins = f.goes_on.begins; own = f.goes_on.own; joined = f.goes_on.joined }; opened = f.opened; below = f.below; apart = f.apart; meets = f.meets })))
        (λ (t : (j ≢ id) × (get_elem? members j ≡ some q)). fits_more q (fits_p j q t.1 alive))
        (at_set members id j left q e)

    fits_right : Fits log key (p.post.split + 1) right
    fits_right =
        let f = fits_here in
        let n : ℕ = p.post.split + 1 in record {
          goes_on = record {
            begins = f.goes_on.begins;
            own = entries_none n p.post.split log (omega arith) recorded_p
                ∙ sym (entries_none n p.post.split p.post.front (omega arith) (all_prefix (λ (e : Entry). e.who ≤ p.post.split) p.post.front log f.goes_on.begins recorded_p));
            joined = λ k d h. absurd (omega arith);
          };
          opened = f.opened;
          below = only_is (λ (m : ℕ). m ≤ n) n (omega arith);
          apart = only_apart n;
          meets = tt;
        }

    below_left : (j : ℕ) (q : Member) → get_elem? (set members id left) j ≡ some q → q.spent ≡ false → All (λ (n : ℕ). n ≤ p.post.split) (numbers q.post)
    below_left j q e alive = let w = was_left j q e in let f = fits_p j w.old w.there (sym w.like.spent ∙ alive) in
        subst (λ (t : ℕ × List ℕ). All (λ (n : ℕ). n ≤ p.post.split) (t.0 ∷ t.1)) (λ i. (sym w.like.number i, sym w.like.joined i)) f.below

    apart_new : (j k : ℕ) (q r : Member) → New j q → New k r → q.spent ≡ false → r.spent ≡ false → j ≢ k → Without q.post.number (numbers r.post)
    unfolding New
    apart_new j k q r (inl e) (inl f) alive alive' away = apart_of log key count next members b j k q r (was_left j q e) (was_left k r f) alive alive' away
    apart_new j k q r (inl e) (inr f) alive alive' away =
        let small = below_left j q e alive 0 0 (omega arith) in
        subst (λ (x : Member). Without q.post.number (numbers x.post)) f.1 (only_is (λ (x : ℕ). x ≢ q.post.number) (p.post.split + 1) (λ same. omega arith))
    apart_new j k q r (inr e) (inl f) alive alive' away =
        subst (λ (x : Member). Without x.post.number (numbers r.post)) e.1 (without_next p.post.split (numbers r.post) (below_left k r f alive'))
    apart_new j k q r (inr e) (inr f) alive alive' away = absurd (away (e.0 ∙ sym f.0))

    fits_new : (j : ℕ) (q : Member) → New j q → q.spent ≡ false → Fits log key (p.post.split + 1) q
    unfolding New
    fits_new j q (inl e) alive = fits_left j q e alive
    fits_new j q (inr e) alive = subst (λ (r : Member). Fits log key (p.post.split + 1) r) e.1 fits_right

    pub roster_forking : Roster log key count next forked
    roster_forking = record {
      lead_at = id;
      lead = left;
      lead_is = at_longer (set members id left) (right ∷ []) id left (set_here members id left (at_inside members id p at));
      lead_lives = lives;
      lead_zero = leads;
      fits = λ j q e. fits_new j q (new_at j q e);
      apart = λ j k q r e f. apart_new j k q r (new_at j q e) (new_at k r f);
      recorded = λ k d h. let small = recorded_p k d h in omega arith;
      longest = let l = longest_set left lives refl in (l.0, l.1, at_longer (set members id left) (right ∷ []) l.0 l.1 l.2, l.3, l.4);
      counted = b.counted;
      drawn = drawn_p;
      few = few_p;
      behind = omega arith;
      alive = let old = alive_p in let same = living-set_same members id p left at refl in living-snoc (set members id left) right refl ∙ omega arith;
    }

  -- the lead takes in another seat
  module _ (other : ℕ) (q : Member) (away : other ≢ id) (there : get_elem? members other ≡ some q) (alive : q.spent ≡ false) where
    abbrev both : Member
    both = merging p q

    abbrev once : List Member
    once = set members id both

    abbrev merged : List Member
    merged = set once other spent_member

    there_once : get_elem? once other ≡ some q
    there_once = set_else members id other both away ∙ there

    at_merged : get_elem? merged id ≡ some both
    at_merged = set_else once other id spent_member (λ e. away (sym e)) ∙ set_here members id both (at_inside members id p at)

    -- a seat that is not spent: the lead, or an old one that is not the other
    data Left (j : ℕ) (r : Member) : Type 0 where
      lead : j ≡ id → both ≡ r → Left j r
      old : j ≢ id → j ≢ other → get_elem? members j ≡ some r → Left j r

    left_at : (j : ℕ) (r : Member) → get_elem? merged j ≡ some r → r.spent ≡ false → Left j r
    left_at j r e lives' = ⊎_elim
        (λ (t : (j ≡ other) × (spent_member ≡ r)). absurd (cc (ap (λ (x : Member). x.spent) t.1, lives')))
        (λ (t : (j ≢ other) × (get_elem? once j ≡ some r)). ⊎_elim
        (λ (u : (j ≡ id) × (both ≡ r)). lead u.0 u.1)
        (λ (u : (j ≢ id) × (get_elem? members j ≡ some r)). old u.0 t.0 u.1)
        (at_set members id j both r t.1))
        (at_set once other j spent_member r e)

    fits_q : Fits log key p.post.split q
    fits_q = fits_p other q there alive

    abbrev front : List Entry
    front = longer p.post.front q.post.front

    begins_p : IsPrefix p.post.front log
    begins_p = let f = fits_here in f.goes_on.begins

    begins_q : IsPrefix q.post.front log
    begins_q = let f = fits_q in f.goes_on.begins

    begins : IsPrefix front log
    begins = longer_begins p.post.front q.post.front log begins_p begins_q

    -- what all of the log has of a seat that either of them knows, the longer front has
    of_p : (n : ℕ) → entries_by n log ≡ entries_by n p.post.front → entries_by n log ≡ entries_by n front
    of_p n same = sandwich n p.post.front front log (begins_longer p.post.front q.post.front log begins_p begins_q) begins same

    of_q : (n : ℕ) → entries_by n log ≡ entries_by n q.post.front → entries_by n log ≡ entries_by n front
    of_q n same = sandwich n q.post.front front log (begins_longer_too p.post.front q.post.front log begins_p begins_q) begins same

    goes_on_p : GoesOn p.post front
    goes_on_p = let f = fits_here in let g = f.goes_on in record {
      begins = begins_longer p.post.front q.post.front log begins_p begins_q;
      own = sym (of_p p.post.number g.own) ∙ g.own;
      joined = λ k d h. let same = g.joined k d h in sym (of_p (get_or p.post.joined k d) same) ∙ same;
    }

    goes_on_q : GoesOn q.post front
    goes_on_q = let f = fits_q in let g = f.goes_on in record {
      begins = begins_longer_too p.post.front q.post.front log begins_p begins_q;
      own = sym (of_q q.post.number g.own) ∙ g.own;
      joined = λ k d h. let same = g.joined k d h in sym (of_q (get_or q.post.joined k d) same) ∙ same;
    }

    numbers_below : All (λ (n : ℕ). n ≤ p.post.split) (q.post.number ∷ p.post.joined)
    numbers_below = let f = fits_here in let g = fits_q in
        All-cons (λ (n : ℕ). n ≤ p.post.split) q.post.number p.post.joined (g.below 0 0 (omega arith)) (rest_of (λ (n : ℕ). n ≤ p.post.split) p.post.number p.post.joined f.below)

    numbers_apart : AllPairs (λ (m n : ℕ). m ≢ n) (p.post.number ∷ q.post.number ∷ p.post.joined)
    numbers_apart =
        let f = fits_here in
        let from_q : Without q.post.number (numbers p.post) = b.apart other id q p there at alive lives away in
        let Differ : ℕ → ℕ → Type 0 = λ (m n : ℕ). m ≢ n in
        AllPairs-cons Differ p.post.number (q.post.number ∷ p.post.joined)
        (All-cons (λ (n : ℕ). p.post.number ≢ n) q.post.number p.post.joined (from_q 0 0 (omega arith)) (first_apart p.post.number p.post.joined f.apart))
        (AllPairs-cons Differ q.post.number p.post.joined (turned q.post.number p.post.joined (rest_of (λ (x : ℕ). x ≢ q.post.number) p.post.number p.post.joined from_q)) (rest_apart p.post.number p.post.joined f.apart))

    -- the lead and the other live, so the lead counts one out
    counted : 0 < p.post.out
    counted =
        let old = alive_p in
        let same = living-set_same members id p both at refl in
        let less = living-set_spent once other q spent_member there_once alive refl in
        let one = living-some merged id both at_merged lives in
        omega arith

    has_joined : HasJoined p.post q.post front
    has_joined = record { of_lead = goes_on_p; of_other = goes_on_q; apart = numbers_apart; below = numbers_below; counted = counted }

    fits_both : Fits log key p.post.split both
    fits_both = let f = fits_here in let g = fits_q in record {
      goes_on = record {
        begins = begins;
        own = of_p p.post.number f.goes_on.own;
        joined = All-cons (λ (n : ℕ). entries_by n log ≡ entries_by n front) q.post.number p.post.joined (of_q q.post.number g.goes_on.own) (λ k d h. of_p (get_or p.post.joined k d) (f.goes_on.joined k d h));
      };
      opened = f.opened;
      below = All-cons (λ (n : ℕ). n ≤ p.post.split) p.post.number (q.post.number ∷ p.post.joined) (f.below 0 0 (omega arith)) numbers_below;
      apart = numbers_apart;
      meets = has_joined;
    }

    fits_left_over : (j : ℕ) (r : Member) → Left j r → r.spent ≡ false → Fits log key p.post.split r
    fits_left_over j r (lead is same) lives' = subst (λ (x : Member). Fits log key p.post.split x) same fits_both
    fits_left_over j r (old a o e) lives' = fits_p j r e lives'

    -- the numbers of the lead, once it has joined the other, are none of an old seat's
    without_both : (j : ℕ) (r : Member) → j ≢ id → j ≢ other → get_elem? members j ≡ some r → r.spent ≡ false → Without r.post.number (numbers both.post)
    without_both j r a o e lives' =
        let from_p = b.apart j id r p e at lives' lives a in
        let from_q = b.apart j other r q e there lives' alive o in
        let P : ℕ → Type 0 = λ (x : ℕ). x ≢ r.post.number in
        All-cons P p.post.number (q.post.number ∷ p.post.joined) (from_p 0 0 (omega arith))
        (All-cons P q.post.number p.post.joined (from_q 0 0 (omega arith)) (rest_of P p.post.number p.post.joined from_p))

    apart_left : (j k : ℕ) (r x : Member) → Left j r → Left k x → r.spent ≡ false → x.spent ≡ false → j ≢ k → Without r.post.number (numbers x.post)
    apart_left j k r x (lead is same) (lead is' same') lives' lives'' far = absurd (far (is ∙ sym is'))
    apart_left j k r x (lead is same) (old a o e) lives' lives'' far =
        subst (λ (y : Member). Without y.post.number (numbers x.post)) same (b.apart id k p x at e lives lives'' (λ h. a (sym h)))
    apart_left j k r x (old a o e) (lead is same) lives' lives'' far = subst (λ (y : Member). Without r.post.number (numbers y.post)) same (without_both j r a o e lives')
    apart_left j k r x (old a o e) (old a' o' e') lives' lives'' far = b.apart j k r x e e' lives' lives'' far

    longest_left : Longest merged
    longest_left = let l = b.longest in
        let whole = longer_whole p.post.front q.post.front log begins_p begins_q in
        dite (ℕ_discrete l.0 id)
        (λ mine. let is : l.1 ≡ p = some-injective l.1 p (sym l.2 ∙ (ap (λ (n : ℕ). get_elem? members n) mine ∙ at)) in
        (id, both, at_merged, lives, whole (inl (sym (ap (λ (x : Member). x.post.front) is) ∙ l.4))))
        (λ not_mine. dite (ℕ_discrete l.0 other)
        (λ its. let is : l.1 ≡ q = some-injective l.1 q (sym l.2 ∙ (ap (λ (n : ℕ). get_elem? members n) its ∙ there)) in
        (id, both, at_merged, lives, whole (inr (sym (ap (λ (x : Member). x.post.front) is) ∙ l.4))))
        (λ not_its. (l.0, l.1, set_else once other l.0 spent_member not_its ∙ (set_else members id l.0 both not_mine ∙ l.2), l.3, l.4)))

    alive_left : living merged ≡ 1 + (p.post.out - 1)
    alive_left =
        let old = alive_p in
        let some_out = counted in
        let same = living-set_same members id p both at refl in
        let less = living-set_spent once other q spent_member there_once alive refl in
        omega arith

    pub roster_merging : Roster log key count next merged
    roster_merging = record {
      lead_at = id;
      lead = both;
      lead_is = at_merged;
      lead_lives = lives;
      lead_zero = leads;
      fits = λ j r e lives'. fits_left_over j r (left_at j r e lives') lives';
      apart = λ j k r x e f lives' lives''. apart_left j k r x (left_at j r e lives') (left_at k x f lives'') lives' lives'';
      recorded = recorded_p;
      longest = longest_left;
      counted = b.counted;
      drawn = drawn_p;
      few = few_p;
      behind = behind_p;
      alive = alive_left;
    }

  -- with no other seat left, the lead has seen it all
  pub lead_alone : p.post.out ≡ 0 → (j : ℕ) (q : Member) → get_elem? members j ≡ some q → q.spent ≡ false → j ≡ id
  lead_alone none j q e alive = let one = alive_p in living-one members j id q p e at alive lives (omega arith)

  pub front_whole : p.post.out ≡ 0 → p.post.front ≡ log
  front_whole none =
      let l = b.longest in
      let mine = lead_alone none l.0 l.1 l.2 l.3 in
      let is : l.1 ≡ p = some-injective l.1 p (sym l.2 ∙ (ap (λ (n : ℕ). get_elem? members n) mine ∙ at)) in
      sym (ap (λ (x : Member). x.post.front) is) ∙ l.4
