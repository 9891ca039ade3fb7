-- Each step of the lead keeps the rule.
use Rattle.std.specs.Prelude.{All}
use Rattle.std.proofs.Common.{◌≡◌, ◌≢◌, ◌⊎◌, ℕ, zero, suc, ◌+◌, ◌%◌, ◌^◌, ◌<◌, ◌≤◌, List, [], ◌∷◌, ◌++◌, length, map, set, get_or, false, Option, None, Some, refl, sym, ap, ◌∙◌, subst, inl, inr, ⊎_elim, arith, length-set, get_or-set_same, get_or-set_other}
use Rattle.std.proofs.lemmas.List.{map-set}
use Rattle.std.proofs.Math.Nat.{mod-eq_of_lt}
use mathlib.Core.Option.{some, none, some-injective, some-ne-none}
use mathlib.Core.List.{map-append}
use mathlib.Core.Logic.{dite}
use native.Mathlib.Decide.{ℕ_discrete}
use lib.ListN.{get_elem?}
use Rattle.atomic_table.specs.Table.{State, Me, keeps, step, Allows, Splits, Joins, Final, Seen, opening as opened_table}
use Rattle.atomic_table.proofs.Lists.{at_set, at_map, set_else, at_longer, at_snoc}
use Rattle.disk_model.specs.Meaning.{Meaning}
use Rattle.history_model.specs.Journal.{Header}
use Rattle.bookmark_lock.specs.Leaving.{Lasts}
use Rattle.bookmark_lock.specs.Place.{Post, told_to}
use Rattle.bookmark_lock.proofs.Leavings.{lasts_none}
use Rattle.history_model.specs.History.{Entry, is_down}
use Rattle.bookmark_lock.specs.Opening.{Opening}
use Rattle.bookmark_lock.specs.Members.{Member, lead_member, drawing, fork_of, merge_post, settling}
use Rattle.bookmark_lock.specs.Roster.{Fits, Roster}
use Rattle.bookmark_lock.specs.Turns.{Ended, stored_length, turn_of}
use Rattle.bookmark_lock.specs.Turning.{Turn}
use Rattle.bookmark_lock.specs.Waiting.{IsCounted, Waits}
use Rattle.bookmark_lock.specs.Lasting.{AreFew}
use Rattle.bookmark_lock.proofs.Lasts.{none_by, none_few, waiting_past}
use Rattle.bookmark_lock.proofs.Waitings.{waits_like, waits_more, waits_merged, none_waits}
use Rattle.bookmark_lock.specs.Rule.{view_of, member_of, IsHome, IsOut, Kept, first_view, drew, settled, fork_left, fork_right, merge_both, spent_view}
use Rattle.bookmark_lock.specs.declared.view.View.{View}
use Rattle.bookmark_lock.proofs.Entries.{all_prefix}
use Rattle.byte_fields.proofs.Lists.{prefix_self}
use Rattle.bookmark_lock.proofs.Leads.{only_is, only_apart, fits_here, drawn_p, few_p, behind_p, recorded_p, roster_counting, roster_forking, roster_merging, lead_alone, front_whole}

module _ {T : Type 0} (history : T → List Entry) (opening : T → Opening) (sealed reach : T → ℕ) (disk : T → Meaning) (most : ℕ) (first : T) where
  abbrev St : Type 0
  St = State (Option T) View

  abbrev Sat : Type 0
  Sat = Me (Option T) View

  abbrev Rule : St → Type 0
  Rule = Kept history opening sealed reach disk most first

  abbrev Turning : Turn → St → Type 0
  Turning now s = IsHome history opening sealed reach disk now (opening first) s ⊎ IsOut now s

  -- who has no turn may change, come and go
  turn_stays : (s : St) (now : Turn) (words : List ℕ) (views : List View) → Turning now s → get_or words 0 0 ≡ get_or s.words 0 0
      → ((j : ℕ) (u : View) → get_elem? views j ≡ some u → (u.turn ≡ None) ⊎ (get_elem? s.views j ≡ some u))
      → ((j : ℕ) (u : View) → get_elem? s.views j ≡ some u → u.turn ≡ Some now → get_elem? views j ≡ some u)
      → Turning now record { words = words; homes = s.homes; views = views }
  turn_stays s now words views (inl h) word back kept = inl (record {
    free = word ∙ h.free;
    value = h.value;
    home = h.home;
    shows = h.shows;
    opened = h.opened;
    nobody = λ j u e. ⊎_elim (λ (n : u.turn ≡ None). n) (λ (f : get_elem? s.views j ≡ some u). h.nobody j u f) (back j u e);
  })
  turn_stays s now words views (inr o) word back kept = inr (record {
    busy = word ∙ o.busy;
    holder = o.holder;
    view = o.view;
    holder_is = kept o.holder o.view o.holder_is o.keeps;
    keeps = o.keeps;
    lives = o.lives;
    others = λ j u away e. ⊎_elim (λ (n : u.turn ≡ None). n) (λ (f : get_elem? s.views j ≡ some u). o.others j u away f) (back j u e);
  })

  has_none : (v : View) (x : Turn) → v.turn ≡ None → v.turn ≡ Some x → ⊥
  has_none v x idle has = cc (idle, has)

  -- one view without the turn becomes another
  back_set : (views : List View) (id : ℕ) (w : View) → w.turn ≡ None → (j : ℕ) (u : View) → get_elem? (set views id w) j ≡ some u → (u.turn ≡ None) ⊎ (get_elem? views j ≡ some u)
  back_set views id w idle j u e = ⊎_elim (λ (t : (j ≡ id) × (w ≡ u)). inl (subst (λ (x : View). x.turn ≡ None) t.1 idle)) (λ (t : (j ≢ id) × (get_elem? views j ≡ some u)). inr t.1) (at_set views id j w u e)

  kept_set : (turn : Turn) (views : List View) (id : ℕ) (v w : View) → get_elem? views id ≡ some v → v.turn ≡ None → (j : ℕ) (u : View) → get_elem? views j ≡ some u → u.turn ≡ Some turn → get_elem? (set views id w) j ≡ some u
  kept_set turn views id v w at idle j u e has = dite (ℕ_discrete j id)
      (λ is. let same : u ≡ v = some-injective u v (sym e ∙ (ap (λ (n : ℕ). get_elem? views n) is ∙ at)) in absurd (has_none u turn (ap (λ (x : View). x.turn) same ∙ idle) has))
      (λ other. set_else views id j w other ∙ e)

  Words : List ℕ → List ℕ → Type 0
  Words a c = (length c ≡ length a) × (get_or c 0 0 ≡ get_or a 0 0) × (get_or c 1 0 ≡ get_or a 1 0)

  -- the lead's counts change
  counts_change : (s : St) (k : Rule s) (id : ℕ) (v w : View) (words : List ℕ) → Words s.words words → get_elem? s.views id ≡ some v → v.turn ≡ None → w.turn ≡ None
      → w.member.spent ≡ v.member.spent → w.member.post.unsealed ≡ v.member.post.unsealed → w.member.post.sealed ≡ v.member.post.sealed → told_to w.member.post ≡ told_to v.member.post → w.member.post.number ≡ v.member.post.number
      → Roster k.now.log (opening first) (get_or s.words 1 0) (get_or words 2 0) (set (map member_of s.views) id w.member) → Rule record { words = words; homes = s.homes; views = set s.views id w }
  unfolding Words
  counts_change s k id v w words same at idle idle' spent unsealed told last number roster = record {
    now = k.now;
    waits = subst (λ (ms : List Member). Waits (opening first).header most k.now ms) (sym (map-set member_of s.views id w))
        (waits_like (opening first).header most k.now (map member_of s.views) id v.member w.member k.waits (at_map member_of s.views id v at) spent unsealed told last number);
    wide = same.0 ∙ k.wide;
    turn = turn_stays s k.now words (set s.views id w) k.turn same.1 (back_set s.views id w idle') (kept_set k.now s.views id v w at idle);
    roster = subst (λ (x : ℕ × List Member). Roster k.now.log (opening first) x.0 (get_or words 2 0) x.1) (λ i. (sym same.2 i, sym (map-set member_of s.views id w) i)) roster;
  }

  pub draws : (slots id : ℕ) (m : Sat) → m.0.member.spent ≡ false → m.0.turn ≡ None → m.0.member.post.number ≡ 0 → m.0.member.drawn ≡ m.0.member.post.split → m.0.member.drawn < 2 ^ 63
      → Allows Rule slots id m 2 (λ n. (n + 1) % 2 ^ 64) (drew (step slots 2 1 0 none) m)
  unfolding Words
  draws slots id m lives idle leads even room s k len at small =
      let p = m.0.member in
      let w : View = view_of (drawing p) m.0.turn in
      let members : List Member = map member_of s.views in
      let there : get_elem? members id ≡ some p = at_map member_of s.views id m.0 at in
      let count : ℕ = get_or s.words 1 0 in
      let next : ℕ = get_or s.words 2 0 in
      let key : Opening = opening first in
      let next_is : next ≡ 1 + p.drawn = drawn_p k.now.log key count next members k.roster id p there lives leads in
      let fits = fits_here k.now.log key count next members k.roster id p there lives leads in
      let new : ℕ = (next + 1) % 2 ^ 64 in
      let new_is : new ≡ next + 1 = mod-eq_of_lt {n = next + 1} {m = 2 ^ 64} (omega arith) in
      let words : List ℕ = set s.words 2 new in
      let wide = k.wide in
      let now : get_or words 2 0 ≡ new = get_or-set_same s.words 2 new 0 (omega arith) in
      let recorded = all_prefix (λ (e : Entry). e.who ≤ p.post.split) p.post.front k.now.log fits.goes_on.begins (recorded_p k.now.log key count next members k.roster id p there lives leads) in (
        w,
        keeps,
        tt,
        counts_change s k id m.0 w words (length-set s.words 2 new, get_or-set_other s.words 2 0 new 0 (λ h. omega arith), get_or-set_other s.words 2 1 new 0 (λ h. omega arith)) at idle idle refl refl refl refl refl
            (roster_counting k.now.log key count next members k.roster id p there lives leads (get_or words 2 0) (p.drawn + 1) p.met (omega arith) (omega arith)
            (let behind = behind_p k.now.log key count next members k.roster id p there lives leads in omega arith) fits.meets),
        (refl, omega arith, (λ i d h. let small = recorded i d h in omega arith)),
      )

  pub settles : (slots id : ℕ) (m : Sat) → m.0.member.spent ≡ false → m.0.turn ≡ None → m.0.member.post.number ≡ 0 → Allows Rule slots id m 0 (λ n. n) (settled (step slots 0 0 0 none) m)
  unfolding Words
  settles slots id m lives idle leads s k len at small =
      let p = m.0.member in
      let w : View = view_of (settling p) m.0.turn in
      let members : List Member = map member_of s.views in
      let there : get_elem? members id ≡ some p = at_map member_of s.views id m.0 at in
      let count : ℕ = get_or s.words 1 0 in
      let next : ℕ = get_or s.words 2 0 in
      let key : Opening = opening first in
      let fits = fits_here k.now.log key count next members k.roster id p there lives leads in
      let old : ℕ = get_or s.words 0 0 in
      let words : List ℕ = set s.words 0 old in
      let wide = k.wide in
      let same : get_or words 2 0 ≡ next = get_or-set_other s.words 0 2 old 0 (λ h. omega arith) in (
        w,
        keeps,
        tt,
        counts_change s k id m.0 w words (length-set s.words 0 old, get_or-set_same s.words 0 old 0 (omega arith), get_or-set_other s.words 0 1 old 0 (λ h. omega arith)) at idle idle refl refl refl refl refl
            (roster_counting k.now.log key count next members k.roster id p there lives leads (get_or words 2 0) p.drawn None (same ∙ drawn_p k.now.log key count next members k.roster id p there lives leads)
            (few_p k.now.log key count next members k.roster id p there lives leads) (behind_p k.now.log key count next members k.roster id p there lives leads) tt),
        (refl, fits.meets),
      )

  -- no entry has the number that comes next
  made_none : (s : St) (k : Rule s) (id : ℕ) (v : View) → get_elem? s.views id ≡ some v → v.member.spent ≡ false → v.member.post.number ≡ 0 → IsCounted k.now.log k.now.sealed (fork_of v.member)
  made_none s k id v at lives leads =
      let recorded = recorded_p k.now.log (opening first) (get_or s.words 1 0) (get_or s.words 2 0) (map member_of s.views) k.roster id v.member (at_map member_of s.views id v at) lives leads in
      record { most = λ n le. (let none = none_by (v.member.post.split + 1) k.now.log n (λ i d h. λ same. (let small = recorded i d h in omega arith)) in omega arith) }

  pub forks : (id : ℕ) (v : View) → v.member.spent ≡ false → v.turn ≡ None → v.member.post.number ≡ 0 → v.member.drawn ≡ v.member.post.split + 1 → Splits Rule id v (fork_left v) (fork_right v)
  forks id v lives idle leads drawn s k at =
      let l : View = fork_left v in
      let r : View = fork_right v in
      let views : List View = set s.views id l ++ r ∷ [] in
      let members : List Member = map member_of s.views in
      let there = at_map member_of s.views id v at in
      record {
        now = k.now;
        wide = k.wide;
        waits = subst (λ (ms : List Member). Waits (opening first).header most k.now ms)
            (sym (map-append member_of (set s.views id l) (r ∷ []) ∙ ap (λ (ms : List Member). ms ++ member_of r ∷ []) (map-set member_of s.views id l)))
            (waits_more (opening first).header most k.now (set members id l.member) r.member
            (waits_like (opening first).header most k.now members id v.member l.member k.waits there refl refl refl refl refl) (made_none s k id v at lives leads) (k.waits.told id v.member there lives) (k.waits.lasts id v.member there lives));
        turn = turn_stays s k.now s.words views k.turn refl
            (λ j u e. ⊎_elim (λ (f : get_elem? (set s.views id l) j ≡ some u). back_set s.views id l idle j u f) (λ (same : r ≡ u). inl (ap (λ (x : View). x.turn) (sym same))) (at_snoc (set s.views id l) r u j e))
            (λ j u e has. at_longer (set s.views id l) (r ∷ []) j u (kept_set k.now s.views id v l at idle j u e has));
        roster = subst (λ (ms : List Member). Roster k.now.log (opening first) (get_or s.words 1 0) (get_or s.words 2 0) ms)
            (sym (map-append member_of (set s.views id l) (r ∷ []) ∙ ap (λ (ms : List Member). ms ++ member_of r ∷ []) (map-set member_of s.views id l)))
            (roster_forking k.now.log (opening first) (get_or s.words 1 0) (get_or s.words 2 0) (map member_of s.views) k.roster id v.member (at_map member_of s.views id v at) lives leads drawn);
      }

  -- the lead was told no more than before
  merged_lasts : (header : Header) (now : Turn) (p q : Post) → Lasts header (told_to p) now → Lasts header (told_to (merge_post p q)) now
  merged_lasts header now p q l = record { seals = l.seals; reaches = l.reaches; kept = l.kept; leaves = l.leaves }

  pub merges : (id : ℕ) (v : View) (other : ℕ) (u : View) → v.member.spent ≡ false → v.turn ≡ None → v.member.post.number ≡ 0 → u.turn ≡ None → u.member.spent ≡ false → u.member.post.unsealed ≡ None → Joins Rule id v other u (merge_both v u) spent_view
  merges id v other u lives idle leads idle' alive none_kept s k at apart there =
      let w : View = merge_both v u in
      let once : List View = set s.views id w in
      let views : List View = set once other spent_view in
      let before : get_elem? s.views other ≡ some u = ⊎_elim (λ (t : (other ≡ id) × (w ≡ u)). absurd (apart t.0)) (λ (t : (other ≢ id) × (get_elem? s.views other ≡ some u)). t.1) (at_set s.views id other w u there) in
      record {
        now = k.now;
        wide = k.wide;
        waits = subst (λ (ms : List Member). Waits (opening first).header most k.now ms)
            (sym (map-set member_of once other spent_view ∙ ap (λ (ms : List Member). set ms other spent_view.member) (map-set member_of s.views id w)))
            (waits_merged (opening first).header most k.now (map member_of s.views) id other v.member u.member w.member spent_view.member k.waits (at_map member_of s.views id v at) (at_map member_of s.views other u before) apart lives alive none_kept lives refl refl (merged_lasts (opening first).header k.now v.member.post u.member.post (k.waits.lasts id v.member (at_map member_of s.views id v at) lives)) refl refl);
        turn = turn_stays s k.now s.words views k.turn refl
            (λ j x e. ⊎_elim (λ (n : x.turn ≡ None). inl n) (λ (f : get_elem? once j ≡ some x). back_set s.views id w idle j x f) (back_set once other spent_view refl j x e))
            (λ j x e has. kept_set k.now once other u spent_view there idle' j x (kept_set k.now s.views id v w at idle j x e has) has);
        roster = subst (λ (ms : List Member). Roster k.now.log (opening first) (get_or s.words 1 0) (get_or s.words 2 0) ms)
            (sym (map-set member_of once other spent_view ∙ ap (λ (ms : List Member). set ms other spent_view.member) (map-set member_of s.views id w)))
            (roster_merging k.now.log (opening first) (get_or s.words 1 0) (get_or s.words 2 0) (map member_of s.views) k.roster id v.member (at_map member_of s.views id v at) lives leads other u.member apart (at_map member_of s.views other u before) alive);
      }

  -- the value at the end, of which the lead has seen all
  pub record Ends (v : View) (slot : Option T) : Type 0 where
    pub value : T
    pub is : slot ≡ Some value
    pub ended : Ended history opening sealed reach disk most v.member.post (opening first) value

  pub ends : (id : ℕ) (v : View) (ws : List ℕ) (xs : List (Option T)) (slot : Option T) → v.member.spent ≡ false → v.turn ≡ None → v.member.post.number ≡ 0 → v.member.post.out ≡ 0 → v.member.post.unsealed ≡ None → Final (Seen Rule id v) ws xs → get_elem? xs 0 ≡ some slot → Ends v slot
  ends id v ws xs slot lives idle leads alone none_kept f there =
      let s = f.0 in
      let k = f.1.0 in
      let at = f.1.1 in
      let count : ℕ = get_or s.words 1 0 in
      let next : ℕ = get_or s.words 2 0 in
      let members : List Member = map member_of s.views in
      let at' : get_elem? members id ≡ some v.member = at_map member_of s.views id v at in
      ⊎_elim
      (λ (h : IsHome history opening sealed reach disk k.now (opening first) s).
      let whole = front_whole k.now.log (opening first) count next members k.roster id v.member at' lives leads alone in
      let shows : history h.value ≡ v.member.post.front = ap (λ (t : Turn). t.log) h.shows ∙ sym whole in record {
        value = h.value;
        is = some-injective slot (Some h.value) (sym there ∙ f.4 0 (Some h.value) h.home);
        ended = record {
          shows = shows;
          opened = h.opened;
          quiet = λ up. subst (λ (t : Turn). stored_length t.log ≤ t.sealed) (sym h.shows)
              (none_waits (opening first).header most k.now members k.waits id v.member at' none_kept
              (lead_alone k.now.log (opening first) count next members k.roster id v.member at' lives leads alone) (ap (λ (t : Turn). is_down t.log) (sym h.shows) ∙ up));
          lasts = subst (λ (t : Turn). Lasts (opening first).header (told_to v.member.post) t) (sym h.shows) (k.waits.lasts id v.member at' lives);
          told = subst (λ (t : Turn). v.member.post.sealed ≤ t.sealed) (sym h.shows) (k.waits.told id v.member at' lives);
          few = subst (λ (t : Turn). AreFew most t.log t.sealed) (sym h.shows) k.waits.few;
          recorded = subst (λ (t : Turn). All (λ (e : Entry). e.who ≤ v.member.post.split) t.log) (sym h.shows) (recorded_p k.now.log (opening first) count next members k.roster id v.member at' lives leads);
        };
      })
      (λ (o : IsOut k.now s).
      let mine = lead_alone k.now.log (opening first) count next members k.roster id v.member at' lives leads alone o.holder o.view.member (at_map member_of s.views o.holder o.view o.holder_is) o.lives in
      let is : o.view ≡ v = some-injective o.view v (sym o.holder_is ∙ (ap (λ (n : ℕ). get_elem? s.views n) mine ∙ at)) in
      absurd (has_none v k.now idle (sym (ap (λ (x : View). x.turn) is) ∙ o.keeps)))
      k.turn

only_one : {A : Type 0} (a b : A) (j : ℕ) → get_elem? (a ∷ []) j ≡ some b → (j ≡ 0) × (a ≡ b)
only_one a b zero e = (refl, some-injective a b e)
only_one a b (suc j) e = absurd (some-ne-none b (sym e))

module _ {T : Type 0} (history : T → List Entry) (opening : T → Opening) (sealed reach : T → ℕ) (disk : T → Meaning) (most : ℕ) where
  first_fits : (value : T) → Fits (history value) (opening value) 0 (lead_member (turn_of history sealed reach disk value) (opening value))
  first_fits value = record {
    goes_on = record { begins = prefix_self (history value); own = refl; joined = λ k d h. refl };
    opened = refl;
    below = only_is (λ (n : ℕ). n ≤ 0) 0 (omega arith);
    apart = only_apart 0;
    meets = tt;
  }

  begins_at : (value : T) (count : ℕ) → count ≡ length (history value) % 2 ^ 64 → All (λ (e : Entry). e.who ≡ 0) (history value) → (is_down (history value) ≡ false → stored_length (history value) ≤ sealed value)
      → Kept history opening sealed reach disk most value (opened_table (0 ∷ count ∷ 1 ∷ 0 ∷ 0 ∷ 0 ∷ 0 ∷ 0 ∷ 0 ∷ []) (Some value ∷ []) (first_view history opening sealed reach disk value))
  begins_at value count counted unnumbered quiet =
      let p : Member = lead_member (turn_of history sealed reach disk value) (opening value) in
      record {
        now = turn_of history sealed reach disk value;
        wide = omega arith;
        waits = record {
          kept = λ up i le inside. absurd (let all = quiet up in omega arith);
          counted = λ up j q e lives. record { most = λ k le. (let all = quiet up in let none = waiting_past q.post.number (history value) k (omega arith) in omega arith) };
          few = none_few most (history value) (sealed value) unnumbered;
          told = λ j q e lives. (let same = ap (λ (x : Member). x.post.sealed) (only_one p q j e).1 in omega arith);
          lasts = λ j q e lives. subst (λ (x : Member). Lasts (opening value).header (told_to x.post) (turn_of history sealed reach disk value)) (only_one p q j e).1 (lasts_none (opening value).header (turn_of history sealed reach disk value));
        };
        turn = inl (record { free = refl; value = value; home = refl; shows = refl; opened = refl; nobody = λ j v e. ap (λ (x : View). x.turn) (sym (only_one (first_view history opening sealed reach disk value) v j e).1) });
        roster = record {
          lead_at = 0;
          lead = p;
          lead_is = refl;
          lead_lives = refl;
          lead_zero = refl;
          fits = λ j q e lives. subst (λ (r : Member). Fits (history value) (opening value) 0 r) (only_one p q j e).1 (first_fits value);
          apart = λ j k q r e f lives lives' away. absurd (away ((only_one p q j e).0 ∙ sym (only_one p r k f).0));
          recorded = λ k d h. let z = unnumbered k d h in omega arith;
          longest = (0, p, refl, refl, refl);
          counted = counted;
          drawn = omega arith;
          few = omega arith;
          behind = omega arith;
          alive = refl;
        };
      }

  pub begins : (first value : T) (count : ℕ) (slots : List (Option T)) → first ≡ value → count ≡ length (history value) % 2 ^ 64 → All (λ (e : Entry). e.who ≡ 0) (history value) → (is_down (history value) ≡ false → stored_length (history value) ≤ sealed value) → slots ≡ Some value ∷ []
      → Kept history opening sealed reach disk most first (opened_table (0 ∷ count ∷ 1 ∷ 0 ∷ 0 ∷ 0 ∷ 0 ∷ 0 ∷ 0 ∷ []) slots (first_view history opening sealed reach disk first))
  begins first value count slots same counted unnumbered quiet is =
      subst (λ (x : T). Kept history opening sealed reach disk most x (opened_table (0 ∷ count ∷ 1 ∷ 0 ∷ 0 ∷ 0 ∷ 0 ∷ 0 ∷ 0 ∷ []) slots (first_view history opening sealed reach disk x))) (sym same)
      (subst (λ (xs : List (Option T)). Kept history opening sealed reach disk most value (opened_table (0 ∷ count ∷ 1 ∷ 0 ∷ 0 ∷ 0 ∷ 0 ∷ 0 ∷ 0 ∷ []) xs (first_view history opening sealed reach disk value))) (sym is) (begins_at value count counted unnumbered quiet))
