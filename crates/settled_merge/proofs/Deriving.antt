-- The derivation of a past, a changeset at a time.
use Rattle.std.proofs.Common.{◌≡◌, ◌≢◌, ℕ, zero, suc, ◌+◌, ◌<◌, ◌≤◌, Bool, true, false, cond, ◌&&◌, ◌||◌, not, ◌==◌, List, [], ◌∷◌, ◌++◌, length, reverse, refl, sym, ap, subst, ◌∙◌, arith}
use Rattle.std.specs.Prelude.{is_some, bytes_eq}
use Rattle.std.specs.FinMap as map
use Rattle.std.specs.List.{list_any}
use mathlib.Core.Bool.{true≢false}
use Rattle.std.proofs.lemmas.Bool.{or_left, eqb-true, eq-eqb}
use Rattle.std.proofs.lemmas.List.Folds.{list_any-append}
use Rattle.byte_fields.specs.Bytes.{Id}
use Rattle.history_model.specs.History.{Known, is_known}
use Rattle.history_model.specs.Past.{Past, Begin, At, reached}
use Rattle.reply_model.proofs.Parents.{known_reverse}
use Rattle.node_table.specs.Table.{Table, is_settled, with_nodes, settled_with}
use Rattle.changeset_store.specs.Store.{known_at}
use Rattle.changeset_store.specs.Pasts.{past_at}
use Rattle.derive_step.specs.declared.job.Job.{Job}
use Rattle.derive_step.specs.declared.done.Done.{Done}
use Rattle.derive_step.specs.Pasts.{IsJobAt, IsDoneAt}
use Rattle.manifest_store.specs.Jobs.{IsJobIn, IsDoneIn, IsReached, IsNextJob, is_ready, settled_by}
use Rattle.manifest_store.proofs.Lines.{known_here}
use Rattle.settled_merge.specs.Settling.{StaySettled}

-- ---- how much isn't settled

abbrev pub weight : Table → ℕ → ℕ
weight t n = cond (is_settled t n) 0 1

abbrev pub missing : Table → ℕ → ℕ
missing t zero = 0
missing t (suc n) = weight t n + missing t n

fewer_one : (a b : Bool) → (a ≡ true → b ≡ true) → cond b 0 1 ≤ cond a 0 1
fewer_one true true h = omega arith
fewer_one true false h = absurd (true≢false (sym (h refl)))
fewer_one false true h = omega arith
fewer_one false false h = omega arith

not_more : (t u : Table) (n : ℕ) → StaySettled t u → missing u n ≤ missing t n
not_more t u zero stay = omega arith
not_more t u (suc n) stay =
    let one = fewer_one (is_settled t n) (is_settled u n) (stay n) in
    let rest = not_more t u n stay in
    omega (arith, one, rest)

pub fewer : (t u : Table) (n k : ℕ) → StaySettled t u → k < n → is_settled t k ≡ false → is_settled u k ≡ true → missing u n < missing t n
fewer t u zero k stay less was now = absurd (omega arith)
fewer t u (suc n) k stay less was now = by (λ below. fewer t u n k stay below was now) (n == k) refl
  where
    by : (k < n → missing u n < missing t n) → (b : Bool) → (n == k) ≡ b → missing u (suc n) < missing t (suc n)
    by rest true e =
        let same = eqb-true n k e in
        let was_last : weight t n ≡ 1 = ap (λ b. cond {A = ℕ} b 0 1) (ap (is_settled t) same ∙ was) in
        let now_last : weight u n ≡ 0 = ap (λ b. cond {A = ℕ} b 0 1) (ap (is_settled u) same ∙ now) in
        let below = not_more t u n stay in
        omega (arith, was_last, now_last, below)
    by rest false e =
        let other : n ≢ k = λ same. true≢false (sym (eq-eqb n k same) ∙ e) in
        let one = fewer_one (is_settled t n) (is_settled u n) (stay n) in
        let below = rest (omega (arith, other)) in
        omega (arith, one, below)

-- ---- a derivation

-- what a job's derivation gives, whatever the changeset's parents are
abbrev pub Derived : Job → Done → Type 0
Derived job done = (c : Known) (first second : Past) → IsJobAt c first second job → IsDoneAt c first second job done

module _ (ks : List Known) (t : Table) (n : ℕ) (job : Job) (next : IsNextJob ks t n job) (done : Done) (is : Derived job done) where
  both : (q : Past) → IsJobIn q job → (done.number ≡ job.number) × IsDoneIn q done
  both Begin on = absurd on
  both (At c first second) on = let d = is c first second on in (d.number, (job, d))

  pub same_changeset : done.number ≡ job.number
  same_changeset = (both (past_at ks job.number) next.is_job).0

  pub done_known : done.number < length ks
  done_known = let known = next.reached.known in let same = same_changeset in omega (arith, known, same)

  pub done_right : IsDoneIn (past_at ks done.number) done
  done_right = subst (λ m. IsDoneIn (past_at ks m) done) (sym same_changeset) (both (past_at ks job.number) next.is_job).1

  pub done_ready : is_ready ks t done.number ≡ true
  done_ready = ap (is_ready ks t) same_changeset ∙ next.ready

-- what is ready isn't settled
pub unsettled : (ks : List Known) (t : Table) (n : ℕ) → is_ready ks t n ≡ true → is_settled t n ≡ false
unsettled ks t n ready = by (is_settled t n) _ ready
  where
    by : (a b : Bool) → (not a && b) ≡ true → a ≡ false
    by true b h = absurd (true≢false (sym h))
    by false b h = refl

stay_with : (t : Table) (done : Done) → StaySettled t (settled_with t done.number done.roots done.nodes.items)
stay_with t done n h = by (is_some (map.get t.roots done.number))
  where
    by : (b : Bool) → is_settled (cond b t (record { nodes = with_nodes t.nodes done.nodes.items; roots = map.insert t.roots done.number done.roots; settled = t.settled ++ done.number ∷ [] })) n ≡ true
    by true = h
    by false = list_any-append (λ s. s == n) t.settled (done.number ∷ []) ∙ or_left (is_settled t n) (list_any (λ s. s == n) (done.number ∷ [])) h

pub stay_by : (ks : List Known) (t : Table) (done : Done) → StaySettled t (settled_by ks t done)
stay_by ks t done n h = by (is_ready ks t done.number)
  where
    by : (b : Bool) → is_settled (cond b (settled_with t done.number done.roots done.nodes.items) t) n ≡ true
    by true = stay_with t done n h
    by false = h

-- ---- a past has its own changeset

-- a known changeset is reached from itself
among_itself : (ks : List Known) (x : Id) → is_known ks x ≡ true → is_known (reached ks (x ∷ [])) x ≡ true
among_itself [] x there = there
among_itself (k ∷ older) x there = by (among_itself older x) (bytes_eq k.id x) refl there
  where
    by : (is_known older x ≡ true → is_known (reached older (x ∷ [])) x ≡ true) → (b : Bool) → bytes_eq k.id x ≡ b → (b || is_known older x) ≡ true → is_known (cond (b || false) (k ∷ reached older ((x ∷ []) ++ k.changeset.parents)) (reached older (x ∷ []))) x ≡ true
    by later true e h = or_left (bytes_eq k.id x) _ e
    by later false e h = later h

pub itself : (ks : List Known) (n : ℕ) → n < length ks → IsReached ks n n
itself ks n less =
    let x = (known_at ks n).id in
    record { known = less; reached = known_reverse (reached (reverse ks) (x ∷ [])) x ∙ among_itself (reverse ks) x (known_reverse ks x ∙ known_here ks n less) }

-- ---- a turn of the derivation

pub stay_settled : (ks : List Known) (t u : Table) (done : Done) → u ≡ settled_by ks t done → StaySettled t u
stay_settled ks t u done e n h = subst (λ u. is_settled u n ≡ true) (sym e) (stay_by ks t done n h)

pub fewer_missing : (ks : List Known) (t u : Table) (n : ℕ) (job : Job) (next : IsNextJob ks t n job) (done : Done) (is : Derived job done) → u ≡ settled_by ks t done → is_settled u done.number ≡ true → missing u (length ks) < missing t (length ks)
fewer_missing ks t u n job next done is e now =
    fewer t u (length ks) done.number (stay_settled ks t u done e) (done_known ks t n job next done is) (unsettled ks t done.number (done_ready ks t n job next done is)) now
