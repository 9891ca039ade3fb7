-- Jobs and what was derived of them as steps of the core.
use Rattle.std.proofs.Common.{◌≡◌, ◌⊎◌, inl, inr, ℕ, ◌<◌, Bool, true, false, cond, not, ◌||◌, ◌&&◌, ◌==◌, List, [], ◌∷◌, ◌++◌, length, refl, sym, ap, subst, ◌∙◌, arith, append_assoc}
use Rattle.std.specs.Prelude.{Option, None, Some, is_some, Contains, bytes_eq, Result, Ok, Err, OnOk, OnErr, IfErr}
use Rattle.std.specs.List.{AllByRecursion}
use Rattle.std.specs.Option.{option_map_or, option_or}
use Rattle.std.specs.FinMap as map
use mathlib.Core.Bool.{true≢false}
use Rattle.std.proofs.lemmas.Bool.{and_parts, or_left, or_right, eqb-true, eq-eqb, false_from_ne_true}
use Rattle.std.proofs.lemmas.List.{append-nil, length-append}
use Rattle.std.proofs.lemmas.List.Folds.{list_any-append}
use Rattle.std.proofs.lemmas.Option.{same_Some}
use Rattle.std.proofs.lemmas.Slice.Eq.{bytes_eq-Decides}
use Rattle.byte_fields.specs.Bytes.{Id}
use Rattle.history_model.specs.History.{Entry, Known, known}
use Rattle.history_model.specs.Past.{At}
use Rattle.history_model.specs.Journal.{Header}
use Rattle.manifest_model.specs.Manifests.{manifests_in, nodes_in, nodes_of}
use Rattle.reply_model.specs.Legal.{IsLegal}
use Rattle.reply_model.proofs.Lines.{known-append}
use Rattle.core_model.specs.Core.{State, Step, Settle, opened, after_steps}
use Rattle.landing_core.specs.Steps.{Shows, Goes}
use Rattle.landing_core.specs.Settled.{is_settled as is_past_settled, HasJob, IsReady, with_settled, IsNodeWith, AreApartWith, CollideWith, leaves_manifests}
use Rattle.reply_model.proofs.Parents.{same_id}
use Rattle.changeset_model.proofs.Paths.{||-comm as or_none}
use Rattle.landing_core.proofs.Taking.{take_goes}
use Rattle.landing_core.proofs.Settling.{settles, settles_nothing, ready, told_same}
use Rattle.landing_core.proofs.Leaving.{steps_leave, shows_left}
use Rattle.node_table.specs.Table.{Table, Has, is_settled, with_nodes, settled_with, empty_table}
use Rattle.node_table.specs.declared.fault.TableFault.{TableFault}
use Rattle.node_table.specs.declared.fault.TableFault.TheVariants as tables
use Rattle.changeset_store.specs.Store.{number_in, known_at, parent_at, second_parent_at}
use Rattle.changeset_store.specs.Pasts.{past_at, past_at_some}
use Rattle.changeset_store.proofs.Places.{number_in-push}
use Rattle.derive_step.specs.declared.job.Job.{Job}
use Rattle.derive_step.specs.declared.done.Done.{Done}
use Rattle.derive_step.specs.Pasts.{all_nodes_of}
use Rattle.manifest_store.specs.Jobs.{IsNext, is_ready, settled_by}
use Rattle.manifest_store.specs.Manifests.{AreManifests}
use Rattle.manifest_store.specs.Settling.{IsNodeBeside, IsCollisionBeside}
use Rattle.manifest_store.proofs.Lines.{its_number, parent_in, second_parent_in}
use Rattle.manifest_store.proofs.Pasts.{past_step}
use Rattle.repo_state.specs.Cores.{settled_id, ShowsTable, id_at, TakesJob, SettlesSo}
use Rattle.settled_merge.proofs.Deriving.{unsettled}
use Rattle.repo_state.proofs.Reading.{found_id}

module _ (h : List Entry) (t : Table) (a : AreManifests (known h) t) where
  abbrev ks : List Known
  ks = known h

  -- ---- numbers and ids

  settled_is : (n : ℕ) → n < length ks → settled_id ks t (id_at ks n) ≡ is_settled t n
  settled_is n less = ap (λ o. option_map_or (is_settled t) o false) (its_number ks a.store n less)

  -- ---- what is ready

  parent_settled : (o : Option ℕ) → ((p : ℕ) → o ≡ Some p → p < length ks) → is_past_settled (settled_id ks t) (past_at_some ks o) ≡ option_map_or (is_settled t) o true
  parent_settled None inside = refl
  parent_settled (Some p) inside = let less = inside p refl in ap (is_past_settled (settled_id ks t)) (past_step ks a.store p less) ∙ settled_is p less

  first_is : (n : ℕ) → is_past_settled (settled_id ks t) (past_at_some ks (parent_at ks n)) ≡ option_map_or (is_settled t) (parent_at ks n) true
  first_is n = parent_settled (parent_at ks n) (parent_in ks a.store n)

  second_is : (n : ℕ) → is_past_settled (settled_id ks t) (past_at_some ks (second_parent_at ks n)) ≡ option_map_or (is_settled t) (second_parent_at ks n) true
  second_is n = parent_settled (second_parent_at ks n) (second_parent_in ks a.store n)

  ready_there : (n : ℕ) → n < length ks → is_ready ks t n ≡ true → IsReady ks (settled_id ks t) (id_at ks n)
  ready_there n less ready =
      let parents = and_parts (not (is_settled t n)) (option_map_or (is_settled t) (parent_at ks n) true && option_map_or (is_settled t) (second_parent_at ks n) true) ready in
      let each = and_parts (option_map_or (is_settled t) (parent_at ks n) true) (option_map_or (is_settled t) (second_parent_at ks n) true) parents.1 in
      record {
        unsettled = settled_is n less ∙ unsettled ks t n ready;
        here = known_at ks n;
        first = past_at_some ks (parent_at ks n);
        second = past_at_some ks (second_parent_at ks n);
        past_is = past_step ks a.store n less;
        first_settled = first_is n ∙ each.0;
        second_settled = second_is n ∙ each.1;
      }

  ready_here : (n : ℕ) → n < length ks → IsReady ks (settled_id ks t) (id_at ks n) → is_ready ks t n ≡ true
  ready_here n less ready =
      let same : At ready.here ready.first ready.second ≡ At (known_at ks n) (past_at_some ks (parent_at ks n)) (past_at_some ks (second_parent_at ks n)) = sym ready.past_is ∙ past_step ks a.store n less in
      let first_same : ready.first ≡ past_at_some ks (parent_at ks n) = cc in
      let second_same : ready.second ≡ past_at_some ks (second_parent_at ks n) = cc in
      let first = sym (first_is n) ∙ ap (is_past_settled (settled_id ks t)) (sym first_same) ∙ ready.first_settled in
      let second = sym (second_is n) ∙ ap (is_past_settled (settled_id ks t)) (sym second_same) ∙ ready.second_settled in
      (λ i. not ((sym (settled_is n less) ∙ ready.unsettled) i) && (first i && second i))

  -- ---- the next job

  pub takes : (header : Header) (sealed : ℕ) → IsLegal header h → (n : ℕ) (next : Option Job) → IsNext ks t n next → TakesJob header h sealed t next
  takes header sealed legal n None next = tt
  takes header sealed legal n (Some job) next = λ s shows rows.
      take_goes header h sealed (settled_id ks t) (id_at ks job.number) s legal (ready_there job.number next.reached.known next.ready) shows rows

  -- ---- nodes

  -- all nodes of a changeset, and those that the definitions give
  same_nodes : (n : ℕ) → n < length ks → all_nodes_of (past_at ks n) ≡ nodes_of ks (id_at ks n)
  same_nodes n less = ap all_nodes_of (past_step ks a.store n less) ∙ ap (λ q. nodes_in (manifests_in (id_at ks n) q)) (sym (past_step ks a.store n less))

  settled_number : (o : Option ℕ) → option_map_or (is_settled t) o false ≡ true → (j : ℕ) × (o ≡ Some j) × (is_settled t j ≡ true)
  settled_number None e = absurd (true≢false (sym e))
  settled_number (Some j) e = (j, refl, e)

  -- each node of a settled changeset stands under its digest
  has_settled : (y : Id) (bytes : List ℕ) → settled_id ks t y ≡ true → Contains (nodes_of ks y) bytes → Has t.nodes bytes
  has_settled y bytes settled c =
      let at = settled_number (number_in ks y) settled in
      let here = found_id h y at.0 at.1 in
      a.held at.0 at.2 bytes
      (subst (λ ns. Contains ns bytes) (sym (same_nodes at.0 (a.numbered at.0 at.2))) (subst (λ z. Contains (nodes_of ks z) bytes) (sym here) c))

  -- ---- a collision

  as_node : (n : ℕ) → n < length ks → (bytes : List ℕ) → Contains (all_nodes_of (past_at ks n)) bytes → Contains (nodes_of ks (id_at ks n)) bytes
  as_node n less bytes c = subst (λ ns. Contains ns bytes) (same_nodes n less) c

  beside : (n : ℕ) → n < length ks → (bytes : List ℕ) → IsNodeBeside ks t n bytes → IsNodeWith ks (settled_id ks t) (id_at ks n) bytes
  beside n less bytes (inl of) = (
    id_at ks of.0,
    or_left (settled_id ks t (id_at ks of.0)) (bytes_eq (id_at ks n) (id_at ks of.0)) (settled_is of.0 (a.numbered of.0 of.1) ∙ of.1),
    as_node of.0 (a.numbered of.0 of.1) bytes of.2,
  )
  beside n less bytes (inr c) = (
    id_at ks n,
    or_right (settled_id ks t (id_at ks n)) (bytes_eq (id_at ks n) (id_at ks n)) (same_id (id_at ks n)),
    as_node n less bytes c,
  )

  -- nothing is put in
  kept : (header : Header) (sealed n : ℕ) (new : Table) (s : State) → new ≡ t → (settled_id ks t (id_at ks n) ≡ true) ⊎ CollideWith ks (settled_id ks t) (id_at ks n) → Shows h sealed s → ShowsTable ks t s → HasJob s (id_at ks n) → Goes header s (Settle (id_at ks n) ∷ []) (λ after. Shows h sealed after × ShowsTable ks new after)
  kept header sealed n new s same why shows rows has =
      subst (λ new. Goes header s (Settle (id_at ks n) ∷ []) (λ after. Shows h sealed after × ShowsTable ks new after)) (sym same)
      (settles_nothing header h sealed (settled_id ks t) (id_at ks n) s why shows rows has)

-- ---- a table with one changeset more

-- whatever is settled afterwards
record Grows (t new : Table) (n : ℕ) : Type 0 where
  grows : (m : ℕ) → is_settled new m ≡ (is_settled t m || (n == m))

grown : (t new : Table) (done : Done) → new ≡ settled_with t done.number done.roots (done.nodes.items) → is_settled t done.number ≡ false → is_settled new done.number ≡ true → Grows t new done.number
grown t new done is was now = by (is_some (map.get t.roots done.number)) is
  where
    by : (b : Bool) → new ≡ cond b t (record { nodes = with_nodes t.nodes (done.nodes.items); roots = map.insert t.roots done.number done.roots; settled = t.settled ++ done.number ∷ [] }) → Grows t new done.number
    by true same = absurd (true≢false (sym now ∙ ap (λ (t : Table). is_settled t done.number) same ∙ was))
    by false same = record { grows = λ m. ap (λ (t : Table). is_settled t m) same ∙ list_any-append (λ s. s == m) t.settled (done.number ∷ []) ∙ ap (λ b. is_settled t m || b) (or_none (done.number == m) false) }

module _ (h : List Entry) (t new : Table) (a : AreManifests (known h) t) (after : AreManifests (known h) new) (n : ℕ) (less : n < length (known h)) (grows : Grows t new n) where
  abbrev x : Id
  x = id_at (known h) n

  told : (y : Id) → with_settled (settled_id (known h) t) x y ≡ settled_id (known h) new y
  told y = by (number_in (known h) y) refl
    where
      -- of no other number, and of this one
      same : (j : ℕ) → number_in (known h) y ≡ Some j → bytes_eq x y ≡ (n == j)
      same j at = one (bytes_eq x y) refl (n == j) refl
        where
          one : (b : Bool) → bytes_eq x y ≡ b → (c : Bool) → (n == j) ≡ c → b ≡ c
          one true e true f = refl
          one false e false f = refl
          one true e false f =
              let of : Some n ≡ Some j = sym (its_number (known h) a.store n less) ∙ ap (number_in (known h)) ((bytes_eq-Decides x y).0 e) ∙ at in
              absurd (true≢false (sym (eq-eqb n j (same_Some n j of)) ∙ f))
          one false e true f =
              let of : x ≡ y = ap (id_at (known h)) (eqb-true n j f) ∙ found_id h y j at in
              absurd (true≢false (sym ((bytes_eq-Decides x y).1 of) ∙ e))

      by : (o : Option ℕ) → number_in (known h) y ≡ o → (option_map_or (is_settled t) o false || bytes_eq x y) ≡ option_map_or (is_settled new) o false
      by (Some j) at = ap (λ b. is_settled t j || b) (same j at) ∙ sym (grows.grows j)
      by None at = other (bytes_eq x y) refl
        where
          other : (b : Bool) → bytes_eq x y ≡ b → b ≡ false
          other false e = refl
          other true e =
              let of : Some n ≡ None = sym (its_number (known h) a.store n less) ∙ ap (number_in (known h)) ((bytes_eq-Decides x y).0 e) ∙ at in
              absurd cc

  has_node : (bytes : List ℕ) → IsNodeWith (known h) (settled_id (known h) t) x bytes → Has new.nodes bytes
  has_node bytes of = has_settled h new after of.0 bytes (sym (told of.0) ∙ of.1) of.2

  apart : AreApartWith (known h) (settled_id (known h) t) x
  apart one other first second same =
      same_Some one other (sym (has_node one first) ∙ ap (map.get new.nodes) same ∙ has_node other second)

  put : (header : Header) (sealed : ℕ) (s : State) → Shows h sealed s → ShowsTable (known h) t s → HasJob s x → Goes header s (Settle x ∷ []) (λ after. Shows h sealed after × ShowsTable (known h) new after)
  put header sealed s shows rows has =
      let goes = settles header h sealed (settled_id (known h) t) x s apart shows rows has in
      record {
        state = goes.state;
        taken = goes.taken;
        meets = (goes.meets.0, told_same (known h) (with_settled (settled_id (known h) t) x) (settled_id (known h) new) goes.state told goes.meets.1);
      }

-- ---- what is settled

module _ (header : Header) (h : List Entry) (sealed : ℕ) (t new : Table) (a : AreManifests (known h) t) (after : AreManifests (known h) new) (done : Done) (less : done.number < length (known h)) where
  abbrev n : ℕ
  n = done.number

  abbrev id : Id
  id = id_at (known h) n

  settled_late : (s : State) → is_ready (known h) t n ≡ false → ShowsTable (known h) t s → HasJob s id → settled_id (known h) t id ≡ true
  settled_late s late rows has = by (settled_id (known h) t id) refl
    where
      by : (b : Bool) → settled_id (known h) t id ≡ b → b ≡ true
      by true e = refl
      by false e = absurd (true≢false (sym (ready_here h t a n less (ready (known h) (settled_id (known h) t) id s rows has e)) ∙ late))

  settles_now : (b : Bool) → is_ready (known h) t n ≡ b → new ≡ cond b (settled_with t n done.roots (done.nodes.items)) t → (b ≡ true → is_settled new n ≡ true) → (s : State) → Shows h sealed s → ShowsTable (known h) t s → HasJob s id → Goes header s (Settle id ∷ []) (λ after. Shows h sealed after × ShowsTable (known h) new after)
  settles_now true is same now s shows rows has = put h t new a after n less (grown t new done same (unsettled (known h) t n is) (now refl)) header sealed s shows rows has
  settles_now false is same now s shows rows has = kept h t a header sealed n new s same (inl (settled_late s is rows has)) shows rows has

  fails : (fault : TableFault) → new ≡ t → IsCollisionBeside (known h) t n fault → SettlesSo {T = Unit {0}} header h sealed t n (Err fault) new
  fails (tables.Collision digest) same two = λ s shows rows has.
      kept h t a header sealed n new s same (inr (two.0, two.1, two.4, beside h t a n less two.0 two.2, beside h t a n less two.1 two.3, two.5 ∙ sym two.6)) shows rows has
  fails tables.Memory same two = λ s shows rows has.
      record { state = s; taken = refl; meets = (shows, subst (λ new. ShowsTable (known h) new s) (sym same) rows) }

  pub settles_so : (r : Result (Unit {0}) TableFault) → OnOk r (new ≡ settled_by (known h) t done) → OnErr r (new ≡ t) → (is_ready (known h) t n ≡ true → OnOk r (is_settled new n ≡ true)) → IfErr r (λ fault. IsCollisionBeside (known h) t n fault) → SettlesSo header h sealed t n r new
  settles_so (Ok u) same stays now two = settles_now (is_ready (known h) t n) refl same now
  settles_so (Err fault) same stays now two = fails fault stays two

-- ---- with the known changesets as a store tells them

pub takes_as : (header : Header) (h : List Entry) (sealed : ℕ) (t : Table) → IsLegal header h → AreManifests (known h) t → (told : List Known) → told ≡ known h → (n : ℕ) (next : Option Job) → IsNext told t n next → TakesJob header h sealed t next
takes_as header h sealed t legal a told same n next is = takes h t a header sealed legal n next (subst (λ ks. IsNext ks t n next) same is)

pub settles_as : (header : Header) (h : List Entry) (sealed : ℕ) (t new : Table) → AreManifests (known h) t → (done : Done) → done.number < length (known h) → (told : List Known) → told ≡ known h → (r : Result (Unit {0}) TableFault) → AreManifests told new → OnOk r (new ≡ settled_by told t done) → OnErr r (new ≡ t) → (is_ready told t done.number ≡ true → OnOk r (is_settled new done.number ≡ true)) → IfErr r (λ fault. IsCollisionBeside told t done.number fault) → SettlesSo header h sealed t done.number r new
settles_as header h sealed t new a done less told same r after is kept now two =
    settles_so header h sealed t new a (subst (λ ks. AreManifests ks new) same after) done less r
    (subst (λ ks. OnOk r (new ≡ settled_by ks t done)) same is)
    kept
    (subst (λ ks. is_ready ks t done.number ≡ true → OnOk r (is_settled new done.number ≡ true)) same now)
    (subst (λ ks. IfErr r (λ fault. IsCollisionBeside ks t done.number fault)) same two)

-- ---- where more is known

told_one : (t : Table) (ks : List Known) (k : Known) (x : Id) → ((n : ℕ) → is_settled t n ≡ true → n < length ks) → settled_id (ks ++ k ∷ []) t x ≡ settled_id ks t x
told_one t ks k x numbered = ap (λ o. option_map_or (is_settled t) o false) (number_in-push ks k x) ∙ by (number_in ks x) (bytes_eq k.id x)
  where
    by : (o : Option ℕ) (b : Bool) → option_map_or (is_settled t) (option_or o (cond b (Some (length ks)) None)) false ≡ option_map_or (is_settled t) o false
    by (Some j) b = refl
    by None false = refl
    by None true = false_from_ne_true (is_settled t (length ks)) (λ h. let less = numbered (length ks) h in absurd (omega (arith, less)))

told_more : (t : Table) (ks more : List Known) (x : Id) → ((n : ℕ) → is_settled t n ≡ true → n < length ks) → settled_id (ks ++ more) t x ≡ settled_id ks t x
told_more t ks [] x numbered = ap (λ js. settled_id js t x) (append-nil ks)
told_more t ks (k ∷ more) x numbered =
    ap (λ js. settled_id js t x) (sym (append_assoc ks (k ∷ []) more))
    ∙ told_more t (ks ++ k ∷ []) more x (λ n h. (let less = numbered n h in let long = length-append ks (k ∷ []) in omega (arith, less, long)))
    ∙ told_one t ks k x numbered

pub table_left : (header : Header) (t : Table) (steps : List Step) (s after : State) → AreManifests (known s.history) t → AllByRecursion (λ step. leaves_manifests step ≡ true) steps → after_steps header s steps ≡ Some after → ShowsTable (known s.history) t s → ShowsTable (known after.history) t after
table_left header t steps s after a all e shows =
    let l = steps_leave header steps s after all e in
    told_same (known after.history) (settled_id (known s.history) t) (settled_id (known after.history) t) after
    (λ x. sym (ap (λ ks. settled_id ks t x) (ap known l.history_is ∙ known-append s.history l.more) ∙ told_more t (known s.history) _ x a.numbered))
    (shows_left header (settled_id (known s.history) t) steps s after all e shows)

-- ---- as it is opened

pub opened_table : (h : List Entry) (t : Table) → t ≡ empty_table → ShowsTable (known h) t (opened h)
opened_table h t e = subst (λ t. ShowsTable (known h) t (opened h)) (sym e) (record { settled_is = λ x. by (number_in (known h) x); rows = tt; jobs = tt })
  where
    by : (o : Option ℕ) → false ≡ option_map_or (is_settled empty_table) o false
    by None = refl
    by (Some j) = refl
