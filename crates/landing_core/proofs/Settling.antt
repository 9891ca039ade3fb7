-- What is settled of a job that was taken.
use Rattle.std.proofs.Common.{◌≡◌, ◌⊎◌, inl, inr, ℕ, Bool, true, false, cond, not, ◌||◌, List, [], ◌∷◌, ◌++◌, refl, sym, ap, subst, ◌∙◌}
use Rattle.std.specs.Prelude.{Some, Contains, is_some, bytes_eq, option_map, find}
use Rattle.std.specs.List.{AllByRecursion}
use mathlib.Core.Bool.{true≢false}
use Rattle.std.proofs.lemmas.Bool.{or_left, or_right}
use Rattle.std.proofs.lemmas.List.Elements.{Contains-append_left, Contains-append_right, Contains-append_cases}
use Rattle.std.proofs.lemmas.Slice.Eq.{bytes_eq-Decides}
use Rattle.byte_fields.specs.Bytes.{Id}
use Rattle.byte_fields.proofs.Lists.{weaker, all_push}
use Rattle.history_model.specs.History.{Entry, Known, known}
use Rattle.history_model.specs.Past.{Past, Begin, At, past}
use Rattle.history_model.specs.Journal.{Header}
use Rattle.manifest_model.specs.Manifests.{Manifests, manifests_of, nodes_in, Job, derive}
use Rattle.manifest_model.proofs.Derivations.{or_case}
use Rattle.core_model.specs.Core.{State, Settle, are_apart, nodes_among, settled_in, parent_in, settled_with}
use Rattle.landing_core.specs.Steps.{Shows, Goes}
use Rattle.landing_core.proofs.Asked.{one_step}
use Rattle.landing_core.specs.Settled.{IsRow, IsTaken, ShowsSettled, HasJob, is_settled, IsReady, with_settled, IsNodeWith, AreApartWith, CollideWith}
use Rattle.landing_core.proofs.Rows.{past_known, row_there, some_parent, found_push, taken_push, among_nodes, node_origin}
use Rattle.changeset_model.proofs.Paths.{||-comm as or_none}
use Rattle.reply_model.proofs.Parents.{same_id}
use Rattle.landing_core.proofs.Apart.{apart_from, apart_gives}

-- ---- the job

pub record Found (P : Job → Type 0) (jobs : List Job) (x : Id) : Type 0 where
  pub job : Job
  pub is : find (λ job. bytes_eq job.changeset.id x) jobs ≡ Some job
  pub id_is : job.changeset.id ≡ x
  pub right : P job

pub found : (P : Job → Type 0) (jobs : List Job) (x : Id) → AllByRecursion P jobs → is_some (find (λ job. bytes_eq job.changeset.id x) jobs) ≡ true → Found P jobs x
found P [] x all h = absurd (true≢false (sym h))
found P (j ∷ jobs) x all h = by (found P jobs x all.1) (bytes_eq j.changeset.id x) refl h
  where
    by : (is_some (find (λ job. bytes_eq job.changeset.id x) jobs) ≡ true → Found P jobs x) → (b : Bool) → bytes_eq j.changeset.id x ≡ b → is_some (cond b (Some j) (find (λ job. bytes_eq job.changeset.id x) jobs)) ≡ true → Found P (j ∷ jobs) x
    by later true e h = record {
      job = j;
      is = ap (λ b. cond b (Some j) (find (λ job. bytes_eq job.changeset.id x) jobs)) e;
      id_is = (bytes_eq-Decides j.changeset.id x).0 e;
      right = all.0;
    }
    by later false e h =
        let rest = later h in
        record {
          job = rest.job;
          is = ap (λ b. cond b (Some j) (find (λ job. bytes_eq job.changeset.id x) jobs)) e ∙ rest.is;
          id_is = rest.id_is;
          right = rest.right;
        }

module _ (ks : List Known) (settled : Id → Bool) (x : Id) (s : State) (rows : ShowsSettled ks settled s) (job : Found (IsTaken ks s.table) s.jobs x) where
  abbrev m : Manifests
  m = derive job.job

  abbrev nodes : List (List ℕ)
  nodes = nodes_among s.table ++ nodes_in m

  m_is : m ≡ manifests_of ks x
  m_is = job.right.derives ∙ ap (manifests_of ks) job.id_is

  -- ---- the nodes of the table and of this changeset

  is_node : (bytes : List ℕ) → Contains nodes bytes → IsNodeWith ks settled x bytes
  is_node bytes c = by (Contains-append_cases (nodes_among s.table) (nodes_in m) bytes c)
    where
      by : Contains (nodes_among s.table) bytes ⊎ Contains (nodes_in m) bytes → IsNodeWith ks settled x bytes
      by (inl c) = let of = node_origin ks s.table bytes rows.rows c in (of.0, or_left (settled of.0) (bytes_eq x of.0) (sym (rows.settled_is of.0) ∙ of.1), of.2)
      by (inr c) = (x, or_right (settled x) (bytes_eq x x) (same_id x), subst (λ (m : Manifests). Contains (nodes_in m) bytes) m_is c)

  has_node : (bytes : List ℕ) → IsNodeWith ks settled x bytes → Contains nodes bytes
  has_node bytes of =
      or_case (settled of.0) (bytes_eq x of.0)
      (λ e. Contains-append_left (nodes_among s.table) (nodes_in m) bytes (among_nodes s.table of.0 (manifests_of ks of.0) bytes (row_there ks s.table of.0 rows.rows (rows.settled_is of.0 ∙ e)) of.2))
      (λ e. Contains-append_right (nodes_among s.table) (nodes_in m) bytes (subst (λ (m : Manifests). Contains (nodes_in m) bytes) (ap (manifests_of ks) (sym ((bytes_eq-Decides x of.0).0 e)) ∙ sym m_is) of.2))
      of.1

  apart : AreApartWith ks settled x → are_apart nodes ≡ true
  apart h = apart_from nodes (λ a b first second same. h a b (is_node a first) (is_node b second) same)

  collide : CollideWith ks settled x → are_apart nodes ≡ false
  collide two = by (are_apart nodes) refl
    where
      by : (b : Bool) → are_apart nodes ≡ b → b ≡ false
      by true e = absurd (two.2 (apart_gives nodes e two.0 two.1 (has_node two.0 two.3) (has_node two.1 two.4) two.5))
      by false e = refl

  -- ---- the table afterwards

  abbrev with_table : List Manifests → State
  with_table table = record s { table = table }

  abbrev now : List Manifests
  now = settled_with s.table m

  same_now : is_some (settled_in s.table m.id) ≡ settled x
  same_now = rows.settled_is m.id ∙ ap settled job.id_is

  left_by : (a b : Bool) → (a ≡ true) ⊎ (b ≡ false) → cond (a || not b) s.table (s.table ++ m ∷ []) ≡ s.table
  left_by true b h = refl
  left_by false false h = refl
  left_by false true (inl e) = absurd (true≢false (sym e))
  left_by false true (inr e) = absurd (true≢false e)

  left : (settled x ≡ true) ⊎ CollideWith ks settled x → ShowsSettled ks settled (with_table now)
  left why = subst (λ table. ShowsSettled ks settled (with_table table)) (sym (left_by (is_some (settled_in s.table m.id)) (are_apart nodes) (by why))) rows
    where
      by : (settled x ≡ true) ⊎ CollideWith ks settled x → (is_some (settled_in s.table m.id) ≡ true) ⊎ (are_apart nodes ≡ false)
      by (inl e) = inl (same_now ∙ e)
      by (inr two) = inr (collide two)

  row : IsRow ks m
  row = (past_known ks job.job.changeset.id job.job.changeset job.right.first job.right.second job.right.past_is, job.right.derives)

  here_too : (y : Id) → settled x ≡ true → with_settled settled x y ≡ settled y
  here_too y e = by (bytes_eq x y) refl
    where
      by : (b : Bool) → bytes_eq x y ≡ b → (settled y || b) ≡ settled y
      by true same = let there = ap settled (sym ((bytes_eq-Decides x y).0 same)) ∙ e in or_left (settled y) true there ∙ sym there
      by false other = or_none (settled y) false

  one_more : (y : Id) → is_some (settled_in (s.table ++ m ∷ []) y) ≡ with_settled settled x y
  one_more y = found_push (λ m. bytes_eq m.id y) s.table m ∙ (λ i. rows.settled_is y i || bytes_eq (job.id_is i) y)

  put_by : (a b : Bool) → settled x ≡ a → b ≡ true → ShowsSettled ks (with_settled settled x) (with_table (cond (a || not b) s.table (s.table ++ m ∷ [])))
  put_by true b e h = record { settled_is = λ y. rows.settled_is y ∙ sym (here_too y e); rows = rows.rows; jobs = rows.jobs }
  put_by false false e h = absurd (true≢false (sym h))
  put_by false true e h = record {
    settled_is = one_more;
    rows = all_push (IsRow ks) s.table m rows.rows row;
    jobs = weaker (IsTaken ks s.table) (IsTaken ks (s.table ++ m ∷ [])) (taken_push ks s.table m) s.jobs rows.jobs;
  }

  put : AreApartWith ks settled x → ShowsSettled ks (with_settled settled x) (with_table now)
  put h = put_by (is_some (settled_in s.table m.id)) (are_apart nodes) (sym same_now) (apart h)

-- ---- the step

settle_here : (header : Header) (settled : Id → Bool) (x : Id) (s : State) (P : State → Type 0) → ShowsSettled (known s.history) settled s → HasJob s x → ((job : Found (IsTaken (known s.history) s.table) s.jobs x) → P (record s { table = settled_with s.table (derive job.job) })) → Goes header s (Settle x ∷ []) P
settle_here header settled x s P rows has f =
    let job = found (IsTaken (known s.history) s.table) s.jobs x rows.jobs has in
    let after : State = record s { table = settled_with s.table (derive job.job) } in
    record {
      state = after;
      taken = one_step header s after (Settle x) (ap (option_map (λ job. record s { table = settled_with s.table (derive job) })) job.is);
      meets = f job;
    }

shows_still : (h : List Entry) (n : ℕ) (s : State) (table : List Manifests) → Shows h n s → Shows h n (record s { table = table })
shows_still h n s table shows = record { history_is = shows.history_is; sealed_is = shows.sealed_is; left = shows.left }

pub settles : (header : Header) (h : List Entry) (n : ℕ) (settled : Id → Bool) (x : Id) (s : State) → AreApartWith (known h) settled x → Shows h n s → ShowsSettled (known h) settled s → HasJob s x → Goes header s (Settle x ∷ []) (λ t. Shows h n t × ShowsSettled (known h) (with_settled settled x) t)
settles header h n settled x s apart shows =
    subst (λ h. AreApartWith (known h) settled x → Shows h n s → ShowsSettled (known h) settled s → HasJob s x → Goes header s (Settle x ∷ []) (λ t. Shows h n t × ShowsSettled (known h) (with_settled settled x) t)) shows.history_is
    (λ apart shows rows has. settle_here header settled x s (λ t. Shows s.history n t × ShowsSettled (known s.history) (with_settled settled x) t) rows has (λ job. (shows_still s.history n s _ shows, put (known s.history) settled x s rows job apart))) apart shows

pub settles_nothing : (header : Header) (h : List Entry) (n : ℕ) (settled : Id → Bool) (x : Id) (s : State) → (settled x ≡ true) ⊎ CollideWith (known h) settled x → Shows h n s → ShowsSettled (known h) settled s → HasJob s x → Goes header s (Settle x ∷ []) (λ t. Shows h n t × ShowsSettled (known h) settled t)
settles_nothing header h n settled x s why shows =
    subst (λ h. (settled x ≡ true) ⊎ CollideWith (known h) settled x → Shows h n s → ShowsSettled (known h) settled s → HasJob s x → Goes header s (Settle x ∷ []) (λ t. Shows h n t × ShowsSettled (known h) settled t)) shows.history_is
    (λ why shows rows has. settle_here header settled x s (λ t. Shows s.history n t × ShowsSettled (known s.history) settled t) rows has (λ job. (shows_still s.history n s _ shows, left (known s.history) settled x s rows job why))) why shows

-- ---- a job's parents

settled_parent : (table : List Manifests) (settled : Id → Bool) → ((x : Id) → is_some (settled_in table x) ≡ settled x) → (p : Past) → is_some (parent_in table p) ≡ true → is_settled settled p ≡ true
settled_parent table settled is Begin h = refl
settled_parent table settled is (At p first second) h = sym (is p.id) ∙ sym (some_parent (settled_in table p.id)) ∙ h

pub ready : (ks : List Known) (settled : Id → Bool) (x : Id) (s : State) → ShowsSettled ks settled s → HasJob s x → settled x ≡ false → IsReady ks settled x
ready ks settled x s rows has unsettled =
    let job = found (IsTaken ks s.table) s.jobs x rows.jobs has in
    record {
      unsettled = unsettled;
      here = job.job.changeset;
      first = job.right.first;
      second = job.right.second;
      past_is = ap (past ks) (sym job.id_is) ∙ job.right.past_is;
      first_settled = settled_parent s.table settled rows.settled_is job.right.first job.right.first_there;
      second_settled = settled_parent s.table settled rows.settled_is job.right.second job.right.second_there;
    }

-- ---- told in another way

pub told_same : (ks : List Known) (settled told : Id → Bool) (s : State) → ((x : Id) → settled x ≡ told x) → ShowsSettled ks settled s → ShowsSettled ks told s
told_same ks settled told s same rows = record { settled_is = λ x. rows.settled_is x ∙ same x; rows = rows.rows; jobs = rows.jobs }
