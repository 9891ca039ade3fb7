-- A front that grows keeps what holds of all seats.
use Rattle.std.specs.Prelude.{All}
use Rattle.std.proofs.Common.{Option, None, ◌≡◌, ◌≢◌, ℕ, zero, suc, ◌+◌, ◌%◌, ◌^◌, ◌≤◌, List, [], ◌∷◌, ◌++◌, length, set, Bool, false, cond, eqb, eq-eqb, ne_eqb, refl, sym, ap, ◌∙◌, subst, ⊎_elim, arith, length-append, get_or}
use Rattle.std.proofs.lemmas.List.Elements.{filter-append, All-append}
use Rattle.std.proofs.lemmas.List.{append-nil}
use Rattle.std.proofs.Math.Nat.{add-mod, mod-mod}
use mathlib.Core.Logic.{dite}
use mathlib.Core.Option.{some, some-injective}
use mathlib.Core.List.{IsPrefix}
use native.Mathlib.Decide.{ℕ_discrete}
use lib.ListN.{get_elem?}
use Rattle.atomic_table.proofs.Lists.{at_set, set_here, set_else}
use Rattle.history_model.specs.History.{Entry, entries_by}
use Rattle.bookmark_lock.specs.Opening.{Opening}
use Rattle.bookmark_lock.specs.Place.{Sight, numbers}
use Rattle.bookmark_lock.specs.Members.{Member, Meeting, seen, seeing}
use Rattle.bookmark_lock.specs.Roster.{Fits, Roster}
use Rattle.byte_fields.proofs.Lists.{prefix_self, prefix_trans}
use Rattle.bookmark_lock.proofs.Members.{at_inside, living-set_same}

-- the log becomes this one by what a seat with this number does
pub record Grows (log after : List Entry) (number add : ℕ) : Type 0 where
  pub grown : IsPrefix log after
  pub others : (n : ℕ) → n ≢ number → entries_by n after ≡ entries_by n log
  pub recorded : (most : ℕ) → number ≤ most → All (λ (e : Entry). e.who ≤ most) log → All (λ (e : Entry). e.who ≤ most) after
  pub counted : length after ≡ length log + add

pub grows_none : (log after : List Entry) (number : ℕ) → after ≡ log → Grows log after number 0
grows_none log after number same = record {
  grown = ([], append-nil log ∙ sym same);
  others = λ n _. ap (entries_by n) same;
  recorded = λ most _ h. subst (λ (l : List Entry). All (λ (e : Entry). e.who ≤ most) l) (sym same) h;
  counted = omega (arith, ap length same);
}

other_entry : (n : ℕ) (e : Entry) → n ≢ e.who → entries_by n (e ∷ []) ≡ []
other_entry n e ne = ap (λ (t : Bool). cond t (e ∷ []) []) (ne_eqb e.who n (λ h. ne (sym h)))

pub others_entry : (n : ℕ) (log : List Entry) (e : Entry) → n ≢ e.who → entries_by n (log ++ e ∷ []) ≡ entries_by n log
others_entry n log e ne =
    filter-append (λ (x : Entry). eqb x.who n) log (e ∷ []) ∙ (ap (λ (l : List Entry). entries_by n log ++ l) (other_entry n e ne) ∙ append-nil (entries_by n log))

pub own_entry : (n : ℕ) (log : List Entry) (e : Entry) → e.who ≡ n → entries_by n (log ++ e ∷ []) ≡ entries_by n log ++ e ∷ []
own_entry n log e mine =
    filter-append (λ (x : Entry). eqb x.who n) log (e ∷ []) ∙ ap (λ (t : Bool). entries_by n log ++ cond t (e ∷ []) []) (eq-eqb e.who n mine)

one_recorded : (most : ℕ) (e : Entry) → e.who ≤ most → All (λ (e : Entry). e.who ≤ most) (e ∷ [])
one_recorded most e le zero d h = le
one_recorded most e le (suc k) d h = absurd (omega arith)

pub grows_one : (log after : List Entry) (number : ℕ) (e : Entry) → e.who ≡ number → after ≡ log ++ e ∷ [] → Grows log after number 1
grows_one log after number e mine same = record {
  grown = (e ∷ [], sym same);
  others = λ n ne. ap (entries_by n) same ∙ others_entry n log e (λ h. ne (h ∙ mine));
  recorded = λ most le h. subst (λ (l : List Entry). All (λ (e : Entry). e.who ≤ most) l) (sym same)
      (All-append (λ (e : Entry). e.who ≤ most) log (e ∷ []) h (one_recorded most e (omega arith)));
  counted = omega (arith, ap length same, length-append log (e ∷ []));
}

-- two members of one seat, with the same numbers
pub record Like (p q : Member) : Type 0 where
  pub spent : q.spent ≡ p.spent
  pub number : q.post.number ≡ p.post.number
  pub joined : q.post.joined ≡ p.post.joined

pub like_self : (p : Member) → Like p p
like_self p = record { spent = refl; number = refl; joined = refl }

-- the member that a seat was before
pub record Was (members : List Member) (j : ℕ) (q : Member) : Type 0 where
  pub old : Member
  pub there : get_elem? members j ≡ some old
  pub like : Like old q

pub was_set : (members : List Member) (id : ℕ) (p p' : Member) → get_elem? members id ≡ some p → Like p p' → (j : ℕ) (q : Member) → get_elem? (set members id p') j ≡ some q → Was members j q
was_set members id p p' at like j q e = ⊎_elim
    (λ (t : (j ≡ id) × (p' ≡ q)). record { old = p; there = subst (λ (n : ℕ). get_elem? members n ≡ some p) (sym t.0) at; like = subst (Like p) t.1 like })
    (λ (t : (j ≢ id) × (get_elem? members j ≡ some q)). record { old = q; there = t.1; like = like_self q })
    (at_set members id j p' q e)

mod-add : (a c m : ℕ) → (a % m + c) % m ≡ (a + c) % m
mod-add a c m = add-mod (a % m) c m ∙ (ap (λ (n : ℕ). (n + c % m) % m) (mod-mod a m) ∙ sym (add-mod a c m))

-- none of these is that number
abbrev pub Without : ℕ → List ℕ → Type 0
Without n ns = All (λ (x : ℕ). x ≢ n) ns

module _ (log : List Entry) (key : Opening) (count next : ℕ) (members : List Member) (b : Roster log key count next members) where
  -- what was said of the old members
  pub apart_of : (j k : ℕ) (q r : Member) → Was members j q → Was members k r → q.spent ≡ false → r.spent ≡ false → j ≢ k → Without q.post.number (numbers r.post)
  apart_of j k q r w x alive alive' away =
      subst (λ (t : ℕ × ℕ × List ℕ). Without t.0 (t.1 ∷ t.2)) (λ i. (sym w.like.number i, sym x.like.number i, sym x.like.joined i))
      (b.apart j k w.old x.old w.there x.there (sym w.like.spent ∙ alive) (sym x.like.spent ∙ alive') away)

  module _ (id : ℕ) (p : Member) (at : get_elem? members id ≡ some p) (lives : p.spent ≡ false) (sight : Sight) (add : ℕ) (grows : Grows log sight.front p.post.number add) where
    abbrev after : List Entry
    after = sight.front

    abbrev now : List Member
    now = set members id (seen p sight)

    was : (j : ℕ) (q : Member) → get_elem? now j ≡ some q → Was members j q
    was = was_set members id p (seen p sight) at (record { spent = refl; number = refl; joined = refl })

    fits_mine : Fits after key b.lead.post.split (seen p sight)
    fits_mine = let f = b.fits id p at lives in record {
      goes_on = record { begins = prefix_self after; own = refl; joined = λ k d h. refl };
      opened = f.opened;
      below = f.below;
      apart = f.apart;
      meets = tt;
    }

    fits_other : (j : ℕ) (q : Member) → j ≢ id → get_elem? members j ≡ some q → q.spent ≡ false → Fits after key b.lead.post.split q
    fits_other j q away e alive =
        let f = b.fits j q e alive in
        let g = f.goes_on in
        let not_mine = b.apart id j p q at e lives alive (λ h. away (sym h)) in record {
          goes_on = record {
            begins = prefix_trans q.post.front log after g.begins grows.grown;
            own = grows.others q.post.number (not_mine 0 q.post.number (omega arith)) ∙ g.own;
            joined = λ k d h. grows.others (get_or q.post.joined k d) (not_mine (suc k) d (omega arith)) ∙ g.joined k d h;
          };
          opened = f.opened;
          below = f.below;
          apart = f.apart;
          meets = f.meets;
        }

    fits_now : (j : ℕ) (q : Member) → get_elem? now j ≡ some q → q.spent ≡ false → Fits after key b.lead.post.split q
    fits_now j q e alive = ⊎_elim
        (λ (t : (j ≡ id) × (seen p sight ≡ q)). subst (λ (r : Member). Fits after key b.lead.post.split r) t.1 fits_mine)
        (λ (t : (j ≢ id) × (get_elem? members j ≡ some q)). fits_other j q t.0 t.1 alive)
        (at_set members id j (seen p sight) q e)

    -- the lead, which may be the seat
    abbrev again : Sight → ℕ → Option Meeting → Member
    again s since met = record b.lead { post = record (seeing b.lead.post s) { since = since }; met = met }

    roster_with : (s : Sight) (since : ℕ) (met : Option Meeting) → get_elem? now b.lead_at ≡ some (again s since met) → Roster after key ((count + add) % 2 ^ 64) next now
    roster_with s since met lead_is = let f = b.fits id p at lives in record {
      lead_at = b.lead_at;
      lead = again s since met;
      lead_is = lead_is;
      lead_lives = b.lead_lives;
      lead_zero = b.lead_zero;
      fits = fits_now;
      apart = λ j k q r e f. apart_of j k q r (was j q e) (was k r f);
      recorded = grows.recorded b.lead.post.split (f.below 0 p.post.number (omega arith)) b.recorded;
      longest = (id, seen p sight, set_here members id (seen p sight) (at_inside members id p at), lives, refl);
      counted = ap (λ (n : ℕ). (n + add) % 2 ^ 64) b.counted ∙ (mod-add (length log) add (2 ^ 64) ∙ ap (λ (n : ℕ). n % 2 ^ 64) (sym grows.counted));
      drawn = b.drawn;
      few = b.few;
      behind = b.behind;
      alive = living-set_same members id p (seen p sight) at refl ∙ b.alive;
    }

    pub roster_after : Roster after key ((count + add) % 2 ^ 64) next now
    roster_after = dite (ℕ_discrete b.lead_at id)
        (λ here. roster_with sight sight.sealed None
        (let lead_is_p : b.lead ≡ p = some-injective b.lead p (sym b.lead_is ∙ (ap (λ (n : ℕ). get_elem? members n) here ∙ at)) in
        ap (λ (n : ℕ). get_elem? now n) here ∙ (set_here members id (seen p sight) (at_inside members id p at) ∙ ap (λ (q : Member). some (seen q sight)) (sym lead_is_p))))
        (λ away. roster_with (record { front = b.lead.post.front; sealed = b.lead.post.sealed; reach = b.lead.post.reach; unsealed = b.lead.post.unsealed; disk = b.lead.post.disk }) b.lead.post.since b.lead.met (set_else members id b.lead_at (seen p sight) away ∙ b.lead_is))
