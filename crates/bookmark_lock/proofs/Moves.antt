-- Each step of a turn keeps the rule.
use Rattle.std.proofs.Common.{cond, ◌≡◌, ◌≢◌, ◌≤◌, ℕ, suc, ◌+◌, ◌%◌, ◌^◌, List, [], ◌∷◌, map, set, get_or, Bool, true, false, Option, None, Some, refl, sym, ap, ◌∙◌, subst, inl, inr, ⊎_elim, eqb, arith, length-set, get_or-set_same, get_or-set_other}
use Rattle.std.proofs.lemmas.List.{map-set, set-get_or}
use mathlib.Core.Option.{some, none, some-injective}
use mathlib.Core.Logic.{dite}
use native.Mathlib.Decide.{ℕ_discrete}
use prog.Atomic.{either}
use lib.ListN.{get_elem?}
use Rattle.atomic_table.specs.Table.{State, Me, Act, keeps, takes, gives, step, stepped, Allows, Valid, carried_after, rest}
use Rattle.atomic_table.proofs.Lists.{at_set, set_again, at_map, set_here, exchanged}
use mathlib.Core.List.{IsPrefix}
use Rattle.byte_fields.proofs.Lists.{prefix_self}
use Rattle.history_model.specs.Journal.{Header}
use Rattle.disk_model.specs.Meaning.{Meaning}
use Rattle.history_model.specs.History.{Entry}
use Rattle.bookmark_lock.specs.Opening.{Opening}
use Rattle.bookmark_lock.specs.Place.{Unsealed, told_to}
use Rattle.bookmark_lock.specs.Leaving.{Lasts}
use Rattle.bookmark_lock.specs.Fronts.{GoesOn}
use Rattle.bookmark_lock.specs.Members.{Member, seen}
use Rattle.bookmark_lock.specs.Roster.{Fits, Roster}
use Rattle.bookmark_lock.specs.Turns.{Finds, Adds, IsTurn, sight_after, turn_of}
use Rattle.bookmark_lock.specs.Rule.{view_of, member_of, IsHome, IsOut, Kept, taken, counted, passed, freed, Gives}
use Rattle.bookmark_lock.specs.Turning.{Turn, log_of}
use Rattle.bookmark_lock.specs.Waiting.{Waits}
use Rattle.bookmark_lock.proofs.Lasts.{stores_of}
use Rattle.bookmark_lock.proofs.Waitings.{Turned, GrewByOne, grew_none, grew_one, waits_after}
use Rattle.bookmark_lock.specs.declared.view.View.{View}
use Rattle.bookmark_lock.proofs.Members.{at_inside}
use Rattle.bookmark_lock.proofs.Rosters.{Grows, grows_none, grows_one, roster_after}

-- a seat's new view has the member of its old one
same_members : (views : List View) (id : ℕ) (v w : View) → get_elem? views id ≡ some v → w.member ≡ v.member → map member_of (set views id w) ≡ map member_of views
same_members views id v w at e =
    map-set member_of views id w ∙ (ap (set (map member_of views) id) e ∙ set_again (map member_of views) id v.member (at_map member_of views id v at))

-- a step on word 0 leaves the other words
other_word : (words : List ℕ) (n k : ℕ) → k ≢ 0 → get_or (set words 0 n) k 0 ≡ get_or words k 0
other_word words n k ne = get_or-set_other words 0 k n 0 ne

slot_value : {T : Type 0} (value value' : T) (c d : List (ℕ × Option T)) → (0, Some value) ∷ c ≡ (0, Some value') ∷ d → value ≡ value'
slot_value {T} value value' c d is =
    let x : ℕ × Option T = (0, Some value) in
    let y : ℕ × Option T = (0, Some value') in
    let heads : x ≡ y = cc is in
    let options : Some value ≡ Some value' = ap (λ (z : ℕ × Option T). z.1) heads in cc options

pub full_slot : {T : Type 0} (l c : List (ℕ × Option T)) (x : Option T) → l ≡ (0, x) ∷ c → l ≡ (0, x) ∷ rest l
full_slot {T} l c x is = is ∙ ap (λ (k : List (ℕ × Option T)). (0, x) ∷ rest k) (sym is)

module _ {T : Type 0} (history : T → List Entry) (opening : T → Opening) (sealed reach : T → ℕ) (disk : T → Meaning) (most : ℕ) (first : T) where
  abbrev St : Type 0
  St = State (Option T) View

  abbrev Sat : Type 0
  Sat = Me (Option T) View

  abbrev Rule : St → Type 0
  Rule = Kept history opening sealed reach disk most first

  abbrev Rosters : List Entry → List ℕ → List Member → Type 0
  Rosters log words members = Roster log (opening first) (get_or words 1 0) (get_or words 2 0) members

  -- a step on word 0 that changes no member
  unchanged : (s : St) (k : Rule s) (n id : ℕ) (v w : View) → get_elem? s.views id ≡ some v → w.member ≡ v.member → Rosters k.now.log (set s.words 0 n) (map member_of (set s.views id w))
  unchanged s k n id v w at e =
      subst (λ (ms : List Member). Rosters k.now.log (set s.words 0 n) ms) (sym (same_members s.views id v w at e))
      (subst (λ (c : ℕ). Roster k.now.log (opening first) c (get_or (set s.words 0 n) 2 0) (map member_of s.views)) (sym (other_word s.words n 1 (λ h. omega arith)))
      (subst (λ (c : ℕ). Roster k.now.log (opening first) (get_or s.words 1 0) c (map member_of s.views)) (sym (other_word s.words n 2 (λ h. omega arith))) k.roster))

  waiting : (s : St) (k : Rule s) (id : ℕ) (v w : View) → get_elem? s.views id ≡ some v → w.member ≡ v.member → Waits (opening first).header most k.now (map member_of (set s.views id w))
  waiting s k id v w at e = subst (λ (ms : List Member). Waits (opening first).header most k.now ms) (sym (same_members s.views id v w at e)) k.waits

  fits_here : (s : St) (k : Rule s) (id : ℕ) (v : View) → get_elem? s.views id ≡ some v → v.member.spent ≡ false → Fits k.now.log (opening first) k.roster.lead.post.split v.member
  fits_here s k id v at lives = k.roster.fits id v.member (at_map member_of s.views id v at) lives

  finds : (s : St) (k : Rule s) (id : ℕ) (v : View) (value : T) → get_elem? s.views id ≡ some v → v.member.spent ≡ false → turn_of history sealed reach disk value ≡ k.now → opening value ≡ opening first → Finds history opening sealed reach disk v.member.post value
  finds s k id v value at lives shows opened =
      let f = fits_here s k id v at lives in
      let there = at_map member_of s.views id v at in record {
        goes_on = subst (λ (t : Turn). GoesOn v.member.post t.log) (sym shows) f.goes_on;
        opened = opened ∙ sym f.opened;
        told = subst (λ (t : Turn). v.member.post.sealed ≤ t.sealed) (sym shows) (k.waits.told id v.member there lives);
        lasts = subst (λ (o : Opening). Lasts o.header (told_to v.member.post) (turn_of history sealed reach disk value)) (sym f.opened)
            (subst (λ (t : Turn). Lasts (opening first).header (told_to v.member.post) t) (sym shows) (k.waits.lasts id v.member there lives));
        apart = λ i d h same. f.apart 0 (suc i) d (omega arith) (omega arith) (sym same);
      }

  -- a step that changes nothing
  unmoved : (s : St) (id : ℕ) (m : Sat) → get_elem? s.views id ≡ some m.0 → Rule s → Rule (stepped s 0 (get_or s.words 0 0) id m.1 m.0 keeps)
  unmoved s id m at k =
      subst (λ (vs : List View). Rule record { words = set s.words 0 (get_or s.words 0 0); homes = s.homes; views = vs }) (sym (set_again s.views id m.0 at))
      (subst (λ (ws : List ℕ). Rule record { words = ws; homes = s.homes; views = s.views }) (sym (set-get_or s.words 0 0)) k)

  -- a step on a word that the rule says nothing of
  pub passes : (slots id : ℕ) (m : Sat) (word : ℕ) (f : ℕ → ℕ) → 3 ≤ word → Allows Rule slots id m word f (passed (step slots word 1 0 none) m)
  passes slots id m word f behind s k len at small =
      let n : ℕ = f (get_or s.words word 0) in
      let words : List ℕ = set s.words word n in
      let word0 : get_or words 0 0 ≡ get_or s.words 0 0 = get_or-set_other s.words word 0 n 0 (λ h. omega arith) in
      let word1 : get_or words 1 0 ≡ get_or s.words 1 0 = get_or-set_other s.words word 1 n 0 (λ h. omega arith) in
      let word2 : get_or words 2 0 ≡ get_or s.words 2 0 = get_or-set_other s.words word 2 n 0 (λ h. omega arith) in (
        m.0,
        keeps,
        tt,
        subst (λ (vs : List View). Rule record { words = words; homes = s.homes; views = vs }) (sym (set_again s.views id m.0 at)) (record {
          now = k.now;
          wide = length-set s.words word n ∙ k.wide;
          turn = ⊎_elim
              (λ (h : IsHome history opening sealed reach disk k.now (opening first) s). inl (record {
                free = word0 ∙ h.free;
                value = h.value;
                home = h.home;
                shows = h.shows;
                opened = h.opened;
                nobody = h.nobody;
              }))
              (λ (o : IsOut k.now s). inr (record {
                busy = word0 ∙ o.busy;
                holder = o.holder;
                view = o.view;
                holder_is = o.holder_is;
                keeps = o.keeps;
                lives = o.lives;
                others = o.others;
              }))
              k.turn;
          waits = k.waits;
          roster = subst (λ (x : ℕ × ℕ). Roster k.now.log (opening first) x.0 x.1 (map member_of s.views)) (λ i. (sym word1 i, sym word2 i)) k.roster;
        }),
        refl,
      )

  Takes : St → ℕ → ℕ → Sat → ℕ → Type 0
  Takes s slots id m n =
      (w : View) × (a : Act (Option T)) × Valid s.homes m.1 a × Rule (stepped s 0 n id m.1 w a) × taken history opening sealed reach disk (step slots 0 0 1 none) m (get_or s.words 0 0) (w, carried_after m.1 a)

  take_home : (slots id : ℕ) (m : Sat) → m.0.member.spent ≡ false → (s : St) (k : Rule s) → get_elem? s.views id ≡ some m.0 → IsHome history opening sealed reach disk k.now (opening first) s → Takes s slots id m 1
  unfolding Takes
  take_home slots id m lives s k at home =
      let w : View = view_of m.0.member (Some (turn_of history sealed reach disk home.value)) in (
        w,
        takes 0 (Some home.value),
        home.home,
        (record {
          now = k.now;
          wide = length-set s.words 0 1 ∙ k.wide;
          turn = inr (record {
            busy = let wide = k.wide in get_or-set_same s.words 0 1 0 (omega arith);
            holder = id;
            view = w;
            holder_is = set_here s.views id w (at_inside s.views id m.0 at);
            keeps = ap Some home.shows;
            lives = lives;
            others = λ j v away e. ⊎_elim (λ (t : (j ≡ id) × (w ≡ v)). absurd (away t.0)) (λ (t : (j ≢ id) × (get_elem? s.views j ≡ some v)). home.nobody j v t.1) (at_set s.views id j w v e);
          });
          waits = waiting s k id m.0 w at refl;
          roster = unchanged s k 1 id m.0 w at refl;
        }),
        ((λ _. record { value = home.value; found = finds s k id m.0 home.value at lives home.shows home.opened; seat = refl }), (λ busy. absurd (busy home.free))),
      )

  pub takes_turn : (slots id : ℕ) (m : Sat) → m.0.member.spent ≡ false → Allows Rule slots id m 0 (λ n. either (eqb n 0) 1 n) (taken history opening sealed reach disk (step slots 0 0 1 none) m)
  unfolding Takes
  takes_turn slots id m lives s k len at small = exchanged (get_or s.words 0 0) 0 1 (Takes s slots id m)
      (λ free. ⊎_elim (take_home slots id m lives s k at) (λ (out : IsOut k.now s). let busy = out.busy in absurd (omega arith)) k.turn)
      (λ busy. (m.0, keeps, tt, unmoved s id m at k, ((λ free. absurd (busy free)), (λ _. refl))))

  -- the seat whose view keeps a history is the one that has the turn
  record HasTurn (s : St) (k : Rule s) (id : ℕ) (kept : Turn) : Type 0 where
    busy : get_or s.words 0 0 ≡ 1
    same : kept ≡ k.now
    others : (j : ℕ) (v : View) → j ≢ id → get_elem? s.views j ≡ some v → v.turn ≡ None

  has_turn : (s : St) (k : Rule s) (id : ℕ) (v : View) (kept : Turn) → get_elem? s.views id ≡ some v → v.turn ≡ Some kept → HasTurn s k id kept
  has_turn s k id v kept at has = ⊎_elim
      (λ (home : IsHome history opening sealed reach disk k.now (opening first) s). let none_has = home.nobody id v at in absurd (cc (has, none_has)))
      (λ (out : IsOut k.now s). dite (ℕ_discrete id out.holder)
      (λ mine.
      let is_view : v ≡ out.view = some-injective v out.view (sym at ∙ (ap (λ (n : ℕ). get_elem? s.views n) mine ∙ out.holder_is)) in record {
        busy = out.busy;
        same = cc (has, out.keeps, ap (λ (x : View). x.turn) is_view);
        others = λ j u away. out.others j u (λ h. away (h ∙ sym mine));
      })
      (λ other. absurd (let none_has = out.others id v other at in cc (has, none_has))))
      k.turn

  -- no other seat has its number
  alone_with : (s : St) (k : Rule s) (id : ℕ) (p : Member) → get_elem? (map member_of s.views) id ≡ some p → p.spent ≡ false → (j : ℕ) (q : Member) → get_elem? (map member_of s.views) j ≡ some q → q.spent ≡ false → q.post.number ≡ p.post.number → j ≡ id
  alone_with s k id p at lives j q there alive same =
      dite (ℕ_discrete j id) (λ is. is) (λ away. absurd (k.roster.apart j id q p there at alive lives away 0 0 (omega arith) (sym same)))

  counts_at : (slots id : ℕ) (p : Member) (kept : T) (c : List (ℕ × Option T)) (value : T) (add : ℕ) → p.spent ≡ false → Grows (history kept) (history value) p.post.number add
      → p.post.opening ≡ opening kept → Turned (opening kept).header most p.post.number p.post.unsealed (turn_of history sealed reach disk kept) (turn_of history sealed reach disk value)
      → Allows Rule slots id (view_of p (Some (turn_of history sealed reach disk kept)), (0, Some value) ∷ c) 1 (λ n. (n + add) % 2 ^ 64) (counted history opening sealed reach disk (step slots 1 add 0 none) (view_of p (Some (turn_of history sealed reach disk kept)), (0, Some value) ∷ c))
  counts_at slots id p kept c value add lives grows opened turned s k len at small =
      let turn = turn_of history sealed reach disk kept in
      let has = has_turn s k id (view_of p (Some turn)) turn at refl in
      let after = history value in
      let sight = sight_after history opening sealed reach disk p.post.unsealed (history kept) value in
      let w : View = view_of (seen p sight) (Some (turn_of history sealed reach disk value)) in
      let there = at_map member_of s.views id (view_of p (Some turn)) at in
      let log_is : history kept ≡ k.now.log = ap (λ (t : Turn). t.log) has.same in
      let fits = fits_here s k id (view_of p (Some turn)) at lives in
      let header_is : (opening kept).header ≡ (opening first).header = ap (λ (o : Opening). o.header) (sym opened ∙ fits.opened) in
      let n : ℕ = (get_or s.words 1 0 + add) % 2 ^ 64 in (
        w,
        keeps,
        tt,
        (record {
          now = turn_of history sealed reach disk value;
          wide = length-set s.words 1 n ∙ k.wide;
          turn = inr (record {
            busy = get_or-set_other s.words 1 0 n 0 (λ h. omega arith) ∙ has.busy;
            holder = id;
            view = w;
            holder_is = set_here s.views id w (at_inside s.views id (view_of p (Some turn)) at);
            keeps = refl;
            lives = lives;
            others = λ j v away e. ⊎_elim (λ (t : (j ≡ id) × (w ≡ v)). absurd (away t.0)) (λ (t : (j ≢ id) × (get_elem? s.views j ≡ some v)). has.others j v away t.1) (at_set s.views id j w v e);
          });
          waits = subst (λ (ms : List Member). Waits (opening first).header most (turn_of history sealed reach disk value) ms) (sym (map-set member_of s.views id w))
              (waits_after (opening first).header most turn (map member_of s.views)
              (subst (λ (t : Turn). Waits (opening first).header most t (map member_of s.views)) (sym has.same) k.waits)
              id p there lives (alone_with s k id p there lives) (turn_of history sealed reach disk value)
              (subst (λ (header : Header). Turned header most p.post.number p.post.unsealed turn (turn_of history sealed reach disk value)) header_is turned));
          roster = subst (λ (x : ℕ × ℕ × List Member). Roster after (opening first) x.0 x.1 x.2)
              (λ i. (
                sym (get_or-set_same s.words 1 n 0 (let wide = k.wide in omega arith)) i,
                sym (get_or-set_other s.words 1 2 n 0 (λ h. omega arith)) i,
                sym (map-set member_of s.views id w) i,
              ))
              (roster_after k.now.log (opening first) (get_or s.words 1 0) (get_or s.words 2 0) (map member_of s.views) k.roster id p there lives sight add
              (subst (λ (l : List Entry). Grows l after p.post.number add) log_is grows));
        }),
        (λ value' is. let e : value ≡ value' = slot_value value value' c c is in ap (λ (x : T). (view_of (seen p (sight_after history opening sealed reach disk p.post.unsealed (history kept) x)) (Some (turn_of history sealed reach disk x)), (0, Some value) ∷ c)) e),
      )

  -- the seat, with the turn and the value in its slot
  abbrev pub Holding : Sat → Member → Turn → T → Type 0
  Holding m p kept value = m ≡ (view_of p (Some kept), (0, Some value) ∷ [])

  pub counts : (slots id : ℕ) (m : Sat) (p : Member) (kept value : T) (add : ℕ) → Holding m p (turn_of history sealed reach disk kept) value → p.spent ≡ false → Grows (history kept) (history value) p.post.number add
      → p.post.opening ≡ opening kept → Turned (opening kept).header most p.post.number p.post.unsealed (turn_of history sealed reach disk kept) (turn_of history sealed reach disk value)
      → Allows Rule slots id m 1 (λ n. (n + add) % 2 ^ 64) (counted history opening sealed reach disk (step slots 1 add 0 none) m)
  counts slots id m p kept value add is lives grows opened turned =
      subst (λ (x : Sat). Allows Rule slots id x 1 (λ n. (n + add) % 2 ^ 64) (counted history opening sealed reach disk (step slots 1 add 0 none) x)) (sym is) (counts_at slots id p kept [] value add lives grows opened turned)

  frees_at : (slots id : ℕ) (p : Member) (value : T) → slots ≡ 1 → p.spent ≡ false → opening value ≡ p.post.opening
      → Allows Rule slots id (view_of p (Some (turn_of history sealed reach disk value)), (0, Some value) ∷ []) 0 (λ _. 0) (λ _. freed (step slots 0 0 0 none) (view_of p (Some (turn_of history sealed reach disk value)), (0, Some value) ∷ []) 0)
  frees_at slots id p value one lives opened s k len at small =
      let has = has_turn s k id (view_of p (Some (turn_of history sealed reach disk value))) (turn_of history sealed reach disk value) at refl in
      let fits = fits_here s k id (view_of p (Some (turn_of history sealed reach disk value))) at lives in
      let w : View = view_of p None in (
        w,
        gives,
        tt,
        (record {
          now = k.now;
          wide = length-set s.words 0 0 ∙ k.wide;
          turn = inl (record {
            free = let wide = k.wide in get_or-set_same s.words 0 0 0 (omega arith);
            value = value;
            home = set_here s.homes 0 (some (Some value)) (omega arith);
            shows = has.same;
            opened = opened ∙ fits.opened;
            nobody = λ j v e. ⊎_elim (λ (t : (j ≡ id) × (w ≡ v)). ap (λ (x : View). x.turn) (sym t.1))
                (λ (t : (j ≢ id) × (get_elem? s.views j ≡ some v)). has.others j v t.0 t.1) (at_set s.views id j w v e);
          });
          waits = waiting s k id (view_of p (Some (turn_of history sealed reach disk value))) w at refl;
          roster = unchanged s k 0 id (view_of p (Some (turn_of history sealed reach disk value))) w at refl;
        }),
        refl,
      )

  pub frees : (slots id : ℕ) (m : Sat) (p : Member) (value : T) → slots ≡ 1 → Holding m p (turn_of history sealed reach disk value) value → p.spent ≡ false → opening value ≡ p.post.opening
      → Allows Rule slots id m 0 (λ _. 0) (λ _. freed (step slots 0 0 0 none) m 0)
  frees slots id m p value one is lives opened =
      subst (λ (x : Sat). Allows Rule slots id x 0 (λ _. 0) (λ _. freed (step slots 0 0 0 none) x 0)) (sym is) (frees_at slots id p value one lives opened)

  -- the value is put back in the slot
  pub back_in : (m n : Sat) (kept : Turn) (value : T) → m ≡ (view_of m.0.member (Some kept), (0, None) ∷ []) → n ≡ (m.0, (0, Some value) ∷ rest m.1) → Holding n m.0.member kept value
  back_in m n kept value is now = now ∙ ap (λ (x : Sat). (x.0, (0, Some value) ∷ rest x.1)) is

  pub after_count : (m n : Sat) (p : Member) (kept : Turn) (value : T) → Holding m p kept value
      → ((x : T) → m.1 ≡ (0, Some x) ∷ rest m.1 → n ≡ (view_of (seen m.0.member (sight_after history opening sealed reach disk m.0.member.post.unsealed (log_of m.0.turn) x)) (Some (turn_of history sealed reach disk x)), m.1))
      → Holding n (seen p (sight_after history opening sealed reach disk p.post.unsealed kept.log value)) (turn_of history sealed reach disk value) value
  after_count m n p kept value is told =
      let slot : m.1 ≡ (0, Some value) ∷ [] = ap (λ (x : Sat). x.1) is in
      let full : m.1 ≡ (0, Some value) ∷ rest m.1 = slot ∙ ap (λ (l : List (ℕ × Option T)). (0, Some value) ∷ rest l) (sym slot) in
      told value full ∙ ap (λ (x : Sat). (view_of (seen x.0.member (sight_after history opening sealed reach disk x.0.member.post.unsealed (log_of x.0.turn) value)) (Some (turn_of history sealed reach disk value)), x.1)) is

  pub grows_of : (p : Member) (kept : List Entry) (value : T) (added : Bool) → Adds history opening sealed reach disk p.post.number kept added value → Grows kept (history value) p.post.number (cond added 1 0)
  grows_of p kept value true h = grows_one kept (history value) p.post.number h.0 h.1 h.2
  grows_of p kept value false h = grows_none kept (history value) p.post.number h

  pub gives_from : (m n : Sat) (before after : T) (added : Bool) → n ≡ (view_of m.0.member (Some (turn_of history sealed reach disk before)), (0, None) ∷ []) → Finds history opening sealed reach disk m.0.member.post before
      → IsTurn history opening sealed reach disk most m.0.member.post.number m.0.member.post.unsealed before after added → Gives history opening sealed reach disk most n after added
  gives_from m n before after added is found turn =
      subst (λ (x : Sat). Gives history opening sealed reach disk most x after added) (sym is) (record { kept = before; seat = refl; opened = turn.opened ∙ found.opened; turn = turn })

  grew_of : (number : ℕ) (before value : T) (added : Bool) → Adds history opening sealed reach disk number (history before) added value → GrewByOne (history before) (history value)
  grew_of number before value true h = grew_one (history before) (history value) h.0 h.2
  grew_of number before value false h = grew_none (history before) (history value) h

  begins_of : (number : ℕ) (before value : T) (added : Bool) → Adds history opening sealed reach disk number (history before) added value → IsPrefix (history before) (history value)
  begins_of number before value true h = (h.0 ∷ [], sym h.2)
  begins_of number before value false h = subst (λ (l : List Entry). IsPrefix (history before) l) (sym h) (prefix_self (history before))

  pub turned_of : (number : ℕ) (u : Option Unsealed) (before value : T) (added : Bool) → IsTurn history opening sealed reach disk most number u before value added → Turned (opening before).header most number u (turn_of history sealed reach disk before) (turn_of history sealed reach disk value)
  turned_of number u before value added turn = record {
    grew = grew_of number before value added turn.adds;
    begins = begins_of number before value added turn.adds;
    seals = turn.seals;
    few = turn.few;
    lasts = turn.lasts;
    stores = stores_of number (history before) (history value) added turn.adds turn.ends;
  }
