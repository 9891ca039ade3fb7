-- The trees after a landing.
use Rattle.std.proofs.Common.{◌≡◌, ℕ, suc, ◌+◌, Bool, true, false, cond, not, ◌||◌, List, [], ◌∷◌, ◌++◌, map, length, drop, reverse, refl, sym, ap, subst, ◌∙◌, arith, add-one, ◌≤◌}
use Rattle.std.specs.Prelude.{Option, None, Some, option_map, unwrap_or, Contains, bytes_eq, find, flat_map}
use Rattle.std.specs.List.{AllByRecursion, after_first, position_or_len, list_any, last_or}
use Rattle.std.specs.Option.{option_map_or}
use mathlib.Core.Bool.{true≢false}
use mathlib.Core.List.{reverse-cons}
use Rattle.std.proofs.lemmas.List.{append_assoc, reverse-append, reverse-reverse}
use Rattle.std.proofs.lemmas.Slice.Eq.{bytes_eq-Decides}
use Rattle.byte_fields.specs.Bytes.{Id, last_of, last_that}
use Rattle.byte_fields.proofs.Lists.{all_reverse, each_of}
use Rattle.changeset_model.specs.Path.{Path, comparable}
use Rattle.changeset_model.specs.Changeset.{Changeset, id_of, touched_paths}
use Rattle.history_model.specs.History.{Entry, Known, Landing, Land, with_id, is_known, known}
use Rattle.history_model.specs.Chain.{first_parent, line_among, line, chain, changesets}
use Rattle.history_model.specs.Past.{Past, Begin, At, second_of, past_among, past, push}
use Rattle.history_model.specs.Tree.{decides, tree, tree_of}
use Rattle.history_model.specs.Pushrebase.{Fork, fork, fork_at, on_parent, rewrite, clash}
use Rattle.history_model.specs.Journal.{Header}
use Rattle.history_model.proofs.Pasts.{tree_of-push}
use Rattle.history_model.proofs.Trees.{decides-rewrite, tree-rewrite}
use Rattle.repo_machine.proofs.Lists.{last_that_passes}
use Rattle.reply_model.specs.Reply.{is_merge}
use Rattle.reply_model.specs.After.{entry_by}
use Rattle.reply_model.specs.Legal.{IsLegal}
use Rattle.reply_model.proofs.Parents.{known_left, known_reverse}
use Rattle.manifest_model.proofs.Derivations.{or_case}
use Rattle.history_model.proofs.Landings.{or_left, or_true as or_right}
use Rattle.reply_model.proofs.Lines.{AreOnce, known_once, known_grows, line_grows, past_grows}
use Rattle.reply_model.proofs.Landed.{chain_landed}
use Rattle.repo_machine.proofs.Forks.{first_alone}
use Rattle.repo_machine.specs.Landings.{IsLandable, IsLanding}
use Rattle.changeset_store.proofs.Added.{alone_after}
use Rattle.repo_machine.proofs.KnownLanding.{known-land}
use Rattle.changeset_model.proofs.Rising.{from_rising}
use Rattle.history_model.proofs.Clashes.{all_apart}
use Rattle.history_model.proofs.Touched.{nothing_decides}

pub untouched_by_range : (range stack : List Changeset) → clash (touched_paths stack) (touched_paths range) ≡ None → (p : Path) → Contains (touched_paths stack) p → list_any (λ c. decides c p) range ≡ false
untouched_by_range range stack none p touched =
    let apart = each_of (λ l. AllByRecursion (λ r. comparable l r ≡ false) (touched_paths range)) (touched_paths stack) p (all_apart (touched_paths stack) (touched_paths range) none) touched in
    nothing_decides p range (from_rising (λ r. comparable p r ≡ false) (flat_map (λ c. map (λ e. e.0) c.changes) range) apart)

-- ---- a line, from one of its members on

abbrev tail : List Known → Known → List Known
tail older k = option_map_or (line_among older) (first_parent k.changeset) []

tail_known : (older : List Known) (r : Id) → ((x : Id) → is_known (line_among older x) r ≡ true → is_known older r ≡ true) → (o : Option Id) → is_known (option_map_or (line_among older) o []) r ≡ true → is_known older r ≡ true
tail_known older r ih None h = absurd (true≢false (sym h))
tail_known older r ih (Some p) h = ih p h

line_known_by : (k : Known) (older : List Known) (x r : Id) → ((x : Id) → is_known (line_among older x) r ≡ true → is_known older r ≡ true) → (b : Bool) → is_known (cond b (k ∷ tail older k) (line_among older x)) r ≡ true → is_known (k ∷ older) r ≡ true
line_known_by k older x r ih true h = or_case (bytes_eq k.id r) (is_known (tail older k) r) (or_left (bytes_eq k.id r) (is_known older r)) (λ e. or_right (bytes_eq k.id r) (is_known older r) (tail_known older r ih (first_parent k.changeset) e)) h
line_known_by k older x r ih false h = or_right (bytes_eq k.id r) (is_known older r) (ih x h)

line_known : (js : List Known) (r x : Id) → is_known (line_among js x) r ≡ true → is_known js r ≡ true
line_known [] r x h = h
line_known (k ∷ older) r x h = line_known_by k older x r (line_known older r) (bytes_eq k.id x) h

-- none has a second parent
abbrev AreInLine : List Known → Type 0
AreInLine ks = AllByRecursion (λ k. second_of k.changeset.parents ≡ None) ks

push_last : (base : Past) (ks : List Known) (k : Known) → push base (ks ++ k ∷ []) ≡ At k (push base ks) Begin
push_last base [] k = refl
push_last base (j ∷ ks) k = push_last (At j base Begin) ks k

-- the line of the member ends it, and begins with the member. Where those before it are no merges, they stand on its past
record Splits (js : List Known) (x r : Id) : Type 0 where
  before : List Known
  line_is : line_among js x ≡ before ++ line_among js r
  past_is : AreInLine before → past_among js x ≡ push (past_among js r) (reverse before)

abbrev SplitsAt : List Known → Id → Type 0
SplitsAt js r = (x : Id) → is_known (line_among js x) r ≡ true → Splits js x r

skip_first : (k : Known) (older : List Known) (x : Id) (b : Bool) → bytes_eq k.id x ≡ b → line_among (k ∷ older) x ≡ cond b (k ∷ tail older k) (line_among older x)
skip_first k older x b e = ap (λ b. cond b (k ∷ tail older k) (line_among older x)) e

abbrev past_on : List Known → Known → Past
past_on older k = At k (option_map_or (past_among older) (first_parent k.changeset) Begin) (option_map_or (past_among older) (second_of k.changeset.parents) Begin)

skip_past : (k : Known) (older : List Known) (x : Id) (b : Bool) → bytes_eq k.id x ≡ b → past_among (k ∷ older) x ≡ cond b (past_on older k) (past_among older x)
skip_past k older x b e = ap (λ b. cond b (past_on older k) (past_among older x)) e

record TailSplits (older : List Known) (r : Id) (o : Option Id) : Type 0 where
  before : List Known
  line_is : option_map_or (line_among older) o [] ≡ before ++ line_among older r
  past_is : AreInLine before → option_map_or (past_among older) o Begin ≡ push (past_among older r) (reverse before)

tail_splits : (older : List Known) (r : Id) → SplitsAt older r → (o : Option Id) → is_known (option_map_or (line_among older) o []) r ≡ true → TailSplits older r o
tail_splits older r ih None h = absurd (true≢false (sym h))
tail_splits older r ih (Some p) h = let s = ih p h in record { before = s.before; line_is = s.line_is; past_is = s.past_is }

-- one more on a past, of which there is no second parent
past_with : (k : Known) (older before : List Known) (base : Past) → second_of k.changeset.parents ≡ None → option_map_or (past_among older) (first_parent k.changeset) Begin ≡ push base (reverse before) → past_on older k ≡ push base (reverse (k ∷ before))
past_with k older before base none first =
    (λ i. At k (first i) (option_map_or (past_among older) (none i) Begin))
    ∙ sym (push_last base (reverse before) k) ∙ ap (push base) (sym (reverse-cons k before))

splits_by : (k : Known) (older : List Known) (x r : Id) → (is_known older k.id ≡ true → ⊥) → SplitsAt older r → (b c : Bool) → bytes_eq k.id x ≡ b → bytes_eq k.id r ≡ c → is_known (cond b (k ∷ tail older k) (line_among older x)) r ≡ true → Splits (k ∷ older) x r
splits_by k older x r once ih true true is_x is_r h = record {
  before = [];
  line_is = skip_first k older x true is_x ∙ sym (skip_first k older r true is_r);
  past_is = λ all. skip_past k older x true is_x ∙ sym (skip_past k older r true is_r);
}
splits_by k older x r once ih true false is_x is_r h =
    let s = tail_splits older r ih (first_parent k.changeset) (or_case (bytes_eq k.id r) (is_known (tail older k) r) (λ e. absurd (true≢false (sym e ∙ is_r))) (λ e. e) h) in
    record {
      before = k ∷ s.before;
      line_is = skip_first k older x true is_x ∙ ap (λ l. k ∷ l) (s.line_is ∙ ap (λ (l : List Known). s.before ++ l) (sym (skip_first k older r false is_r)));
      past_is = λ all. skip_past k older x true is_x ∙ past_with k older s.before (past_among older r) all.0 (s.past_is all.1) ∙ ap (λ base. push base (reverse (k ∷ s.before))) (sym (skip_past k older r false is_r));
    }
splits_by k older x r once ih false true is_x is_r h = absurd (once (ap (is_known older) ((bytes_eq-Decides k.id r).0 is_r) ∙ line_known older r x h))
splits_by k older x r once ih false false is_x is_r h =
    let s = ih x h in
    record {
      before = s.before;
      line_is = skip_first k older x false is_x ∙ s.line_is ∙ ap (λ (l : List Known). s.before ++ l) (sym (skip_first k older r false is_r));
      past_is = λ all. skip_past k older x false is_x ∙ s.past_is all ∙ ap (λ base. push base (reverse s.before)) (sym (skip_past k older r false is_r));
    }

splits : (js : List Known) → AreOnce js → (r : Id) → SplitsAt js r
splits [] once r x h = absurd (true≢false (sym h))
splits (k ∷ older) once r x h = splits_by k older x r once.0 (splits older once.1 r) (bytes_eq k.id x) (bytes_eq k.id r) refl refl h

record Begins (js : List Known) (r : Id) : Type 0 where
  first : Known
  above : List Known
  line_is : line_among js r ≡ first ∷ above
  id_is : bytes_eq first.id r ≡ true
  above_out : is_known above r ≡ false

out_by : (b : Bool) → (b ≡ true → ⊥) → b ≡ false
out_by true never = absurd (never refl)
out_by false never = refl

begins_by : (k : Known) (older : List Known) (r : Id) → (is_known older k.id ≡ true → ⊥) → (is_known older r ≡ true → Begins older r) → (b : Bool) → bytes_eq k.id r ≡ b → (b || is_known older r) ≡ true → Begins (k ∷ older) r
begins_by k older r once ih true is_r h = record {
  first = k;
  above = tail older k;
  line_is = skip_first k older r true is_r;
  id_is = is_r;
  above_out = out_by (is_known (tail older k) r) (λ e. once (ap (is_known older) ((bytes_eq-Decides k.id r).0 is_r) ∙ tail_known older r (line_known older r) (first_parent k.changeset) e));
}
begins_by k older r once ih false is_r h =
    let b = ih h in
    record { first = b.first; above = b.above; line_is = skip_first k older r false is_r ∙ b.line_is; id_is = b.id_is; above_out = b.above_out }

begins : (js : List Known) → AreOnce js → (r : Id) → is_known js r ≡ true → Begins js r
begins [] once r h = absurd (true≢false (sym h))
begins (k ∷ older) once r h = begins_by k older r once.0 (begins older once.1 r) (bytes_eq k.id r) refl h

-- ---- a chain, up to one of its members

place_by : (k : Known) (xs : List Known) (r : Id) (n : ℕ) → n ≡ length xs → (b : Bool) → (b || is_known xs r) ≡ false → cond (not b) (1 + n) 0 ≡ length (k ∷ xs)
place_by k xs r n is true out = absurd (true≢false out)
place_by k xs r n is false out = let e = is in omega arith

rest_out : (b c : Bool) → (b || c) ≡ false → c ≡ false
rest_out true c e = absurd (true≢false e)
rest_out false c e = e

place_at : (r : Id) (xs : List Known) (y : Known) (ys : List Known) → is_known xs r ≡ false → bytes_eq y.id r ≡ true → position_or_len (λ k. bytes_eq k.id r) (xs ++ y ∷ ys) ≡ length xs
place_at r [] y ys out here = ap (λ b. cond (not b) (1 + position_or_len (λ k. bytes_eq k.id r) ys) 0) here
place_at r (x ∷ xs) y ys out here = place_by x xs r (position_or_len (λ k. bytes_eq k.id r) (xs ++ y ∷ ys)) (place_at r xs y ys (rest_out (bytes_eq x.id r) (is_known xs r) out) here) (bytes_eq x.id r) out

drop_past : (xs : List Known) (y : Known) (ys : List Known) → drop (suc (length xs)) (xs ++ y ∷ ys) ≡ ys
drop_past [] y ys = refl
drop_past (x ∷ xs) y ys = drop_past xs y ys

after_first_at : (r : Id) (xs : List Known) (y : Known) (ys : List Known) → is_known xs r ≡ false → bytes_eq y.id r ≡ true → after_first (λ k. bytes_eq k.id r) (xs ++ y ∷ ys) ≡ ys
after_first_at r xs y ys out here = ap (λ n. drop (n + 1) (xs ++ y ∷ ys)) (place_at r xs y ys out here) ∙ ap (λ n. drop n (xs ++ y ∷ ys)) (add-one (length xs)) ∙ drop_past xs y ys

cancel : (xs ys zs : List Known) → xs ++ ys ≡ xs ++ zs → ys ≡ zs
cancel [] ys zs e = e
cancel (x ∷ xs) ys zs e = cancel xs ys zs cc

-- a known one is in its own chain
in_own_chain : (ks : List Known) → AreOnce (reverse ks) → (r : Id) → is_known (reverse ks) r ≡ true → is_known (chain ks r) r ≡ true
in_own_chain ks once r there =
    let b = begins (reverse ks) once r there in
    known_reverse (line ks r) r ∙ ap (λ ks. is_known ks r) b.line_is ∙ or_left (bytes_eq b.first.id r) (is_known b.above r) b.id_is

module _ (ks : List Known) (once : AreOnce (reverse ks)) (x r : Id) (member : is_known (chain ks x) r ≡ true) where
  in_line : is_known (line ks x) r ≡ true
  in_line = sym (known_reverse (line ks x) r) ∙ member

  split : Splits (reverse ks) x r
  split = splits (reverse ks) once r x in_line

  whole : chain ks x ≡ chain ks r ++ reverse split.before
  whole = ap reverse split.line_is ∙ reverse-append split.before (line ks r)

  -- what follows the member in the chain
  after_is : after_first (λ k. bytes_eq k.id r) (chain ks x) ≡ reverse split.before
  after_is =
      let b = begins (reverse ks) once r (line_known (reverse ks) r x in_line) in
      let root_chain : chain ks r ≡ reverse b.above ++ b.first ∷ [] = ap reverse b.line_is ∙ reverse-cons b.first b.above in
      let placed : chain ks x ≡ reverse b.above ++ b.first ∷ reverse split.before = whole ∙ ap (λ (l : List Known). l ++ reverse split.before) root_chain ∙ append_assoc (reverse b.above) (b.first ∷ []) (reverse split.before) in
      ap (after_first (λ k. bytes_eq k.id r)) placed ∙ after_first_at r (reverse b.above) b.first (reverse split.before) (known_reverse b.above r ∙ b.above_out) b.id_is

  past_over : (later : List Known) → reverse split.before ≡ later → AreInLine later → past ks x ≡ push (past ks r) later
  past_over later is all =
      let back : AreInLine (reverse (reverse split.before)) = all_reverse (λ k. second_of k.changeset.parents ≡ None) (reverse split.before) (subst AreInLine (sym is) all) in
      split.past_is (subst AreInLine (reverse-reverse split.before) back) ∙ ap (push (past ks r)) is

  pub past_split : AreInLine (after_first (λ k. bytes_eq k.id r) (chain ks x)) → past ks x ≡ push (past ks r) (after_first (λ k. bytes_eq k.id r) (chain ks x))
  past_split all = past_over (after_first (λ k. bytes_eq k.id r) (chain ks x)) (sym after_is) all

  -- what the chain has behind that of the member
  pub past_before : (later : List Known) → chain ks x ≡ chain ks r ++ later → AreInLine later → past ks x ≡ push (past ks r) later
  past_before later is all = past_over later (cancel (chain ks r) (reverse split.before) later (sym whole ∙ is)) all

-- ---- a fork

changesets-with_id : (cs : List Changeset) → changesets (map with_id cs) ≡ cs
changesets-with_id [] = refl
changesets-with_id (c ∷ cs) = ap (λ ds. c ∷ ds) (changesets-with_id cs)

record HasRoot (ks : List Known) (old : Id) (f : Fork) : Type 0 where
  in_head : is_known (chain ks old) f.root.id ≡ true
  range_is : f.range ≡ changesets (after_first (λ k. bytes_eq k.id f.root.id) (chain ks old))

root_by : (ks : List Known) (old : Id) (of_draft : List Known) (found : Option Known) (f : Fork) → last_that (λ k. is_known (chain ks old) k.id) of_draft ≡ found → option_map (fork_at (chain ks old) of_draft) found ≡ Some f → HasRoot ks old f
root_by ks old of_draft None f e is = absurd cc
root_by ks old of_draft (Some root) f e is =
    let same : fork_at (chain ks old) of_draft root ≡ f = ap (λ o. unwrap_or o f) is in
    subst (HasRoot ks old) same (record { in_head = last_that_passes (λ k. is_known (chain ks old) k.id) of_draft root e; range_is = refl })

has_root : (ks : List Known) (old draft : Id) (f : Fork) → fork ks old draft ≡ Some f → HasRoot ks old f
has_root ks old draft f is = root_by ks old (chain ks draft) (last_that (λ k. is_known (chain ks old) k.id) (chain ks draft)) f refl is

no_second : (ps : List Id) → length ps ≤ 1 → second_of ps ≡ None
no_second [] few = refl
no_second (p ∷ []) few = refl
no_second (p ∷ q ∷ ps) few = absurd (omega arith)

-- where no changeset of some has two parents
in_line_of : (ks : List Known) → find is_merge (changesets ks) ≡ None → AreInLine ks
in_line_of [] none = tt
in_line_of (k ∷ ks) none = let first = first_alone k.changeset (changesets ks) none in (no_second k.changeset.parents first.0, in_line_of ks first.1)

rewritten_in_line : (cs : List Changeset) (head : Id) (moment : ℕ) → AreInLine (map with_id (rewrite cs head moment))
rewritten_in_line [] head moment = tt
rewritten_in_line (c ∷ cs) head moment = (refl, rewritten_in_line cs (id_of (on_parent head moment c)) moment)

-- ---- a landing

last_map : (cs : List Changeset) (o : Option Changeset) → last_or (option_map id_of o) (map id_of cs) ≡ option_map id_of (last_or o cs)
last_map [] o = refl
last_map (c ∷ cs) o = last_map cs (Some c)

last_some : (c : Changeset) (cs : List Changeset) → (x : Id) × (option_map id_of (last_or (Some c) cs) ≡ Some x)
last_some c [] = (id_of c, refl)
last_some c (d ∷ cs) = last_some d cs

last_id : (cs : List Changeset) → (length cs ≡ 0 → ⊥) → (x : Id) × (option_map id_of (last_of cs) ≡ Some x)
last_id [] some = absurd (some refl)
last_id (c ∷ cs) some = last_some c cs

module _ (header : Header) (h : List Entry) (who : ℕ) (l : Landing) (caller name : List ℕ) (draft : Id) (moment : ℕ) (able : IsLandable header h caller name draft moment l) (after : List Entry) (grows : after ≡ h ++ entry_by who (Land l) ∷ []) (legal : IsLegal header after) where
  last : (x : Id) × (option_map id_of (last_of l.new) ≡ Some x)
  last = last_id l.new (λ none. (let some = able.some in omega arith))

  known_now : known after ≡ known (h ++ entry_by who (Land l) ∷ [])
  known_now = ap known grows

  chain_now : chain (known after) last.0 ≡ chain (known h) l.old ++ map with_id l.new
  chain_now =
      ap (λ ks. chain ks last.0) known_now
      ∙ chain_landed header h who l last.0 (subst (IsLegal header) grows legal)
      (λ c k in_new in_known. alone_after (known h) l.new able.alone c k in_new (subst (λ ks. Contains ks k) (known-land h who l) in_known)) last.1

  old_there : is_known (known after) l.old ≡ true
  old_there = ap (λ ks. is_known ks l.old) known_now ∙ known_grows h (entry_by who (Land l) ∷ []) l.old able.old_known

  old_chain : chain (known after) l.old ≡ chain (known h) l.old
  old_chain = ap (λ ks. chain ks l.old) known_now ∙ ap reverse (line_grows h (entry_by who (Land l) ∷ []) l.old able.old_known)

  joined : chain (known after) last.0 ≡ chain (known after) l.old ++ map with_id l.new
  joined = chain_now ∙ ap (λ (ks : List Known). ks ++ map with_id l.new) (sym old_chain)

  -- the old head's past, and the new changesets on it
  past_now : past (known after) last.0 ≡ push (past (known h) l.old) (map with_id l.new)
  past_now =
      let own = in_own_chain (known after) (known_once after) l.old (known_reverse (known after) l.old ∙ old_there) in
      past_before (known after) (known_once after) last.0 l.old (ap (λ ks. is_known ks l.old) joined ∙ known_left (chain (known after) l.old) (map with_id l.new) l.old own)
      (map with_id l.new) joined (subst (λ (n : List Changeset). AreInLine (map with_id n)) (sym able.rewritten) (rewritten_in_line able.fork_is.stack l.old moment))
      ∙ ap (λ base. push base (map with_id l.new)) (ap (λ ks. past ks l.old) known_now ∙ past_grows h (entry_by who (Land l) ∷ []) l.old able.old_known)

  -- the new changesets decide and set what the stack does
  tree_now : (p : Path) → tree_of (past (known after) last.0) p ≡ cond (list_any (λ c. decides c p) able.fork_is.stack) (tree able.fork_is.stack p) (tree_of (past (known h) l.old) p)
  tree_now p =
      let new_is : changesets (map with_id l.new) ≡ rewrite able.fork_is.stack l.old moment = changesets-with_id l.new ∙ able.rewritten in
      ap (λ base. tree_of base p) past_now
      ∙ tree_of-push (past (known h) l.old) (map with_id l.new) p
      ∙ ap (λ cs. cond (list_any (λ c. decides c p) cs) (tree cs p) (tree_of (past (known h) l.old) p)) new_is
      ∙ (λ i. cond (decides-rewrite able.fork_is.stack l.old moment p i) (tree-rewrite able.fork_is.stack l.old moment p i) (tree_of (past (known h) l.old) p))

  tree_before : (p : Path) → Contains (touched_paths able.fork_is.stack) p → tree_of (past (known h) l.old) p ≡ tree_of (past (known h) able.fork_is.root.id) p
  tree_before p touched =
      let root = has_root (known h) l.old draft able.fork_is able.forks in
      let since = after_first (λ k. bytes_eq k.id able.fork_is.root.id) (chain (known h) l.old) in
      let line : AreInLine since = in_line_of since (ap (find is_merge) (sym root.range_is) ∙ able.range_in_line) in
      ap (λ base. tree_of base p) (past_split (known h) (known_once h) l.old able.fork_is.root.id root.in_head line)
      ∙ tree_of-push (past (known h) able.fork_is.root.id) since p
      ∙ ap (λ cs. cond (list_any (λ c. decides c p) cs) (tree cs p) (tree_of (past (known h) able.fork_is.root.id) p)) (sym root.range_is)
      ∙ ap (λ b. cond b (tree able.fork_is.range p) (tree_of (past (known h) able.fork_is.root.id) p)) (untouched_by_range able.fork_is.range able.fork_is.stack able.apart p touched)

  pub lands : (old : Id) (ids : List Id) → old ≡ l.old → ids ≡ map id_of l.new → IsLanding (known h) (known after) old draft ids
  lands old ids same are = subst (λ old. IsLanding (known h) (known after) old draft ids) (sym same) (record {
    fork_is = able.fork_is;
    forks = able.forks;
    new_head = last.0;
    new_head_is = ap last_of are ∙ last_map l.new None ∙ last.1;
    applied = tree_now;
    unchanged = tree_before;
  })
