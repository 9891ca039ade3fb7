-- A repository that is served alone: a change with the seal of its entry, and a read.
use Rattle.std.proofs.Common.{◌≡◌, ◌≢◌, ℕ, ◌+◌, ◌≤◌, ◌<◌, Bool, true, false, not, cond, List, [], ◌∷◌, ◌++◌, length, refl, sym, ap, subst, ◌∙◌, arith, append-nil, append_assoc}
use Rattle.std.specs.Prelude.{◌⊎◌, Option, None, Some, IsTrue, Ok, Err}
use Rattle.std.specs.Option.{ForSome}
use Rattle.std.proofs.lemmas.Bool.{cases_lt}
use mathlib.Core.Bool.{true≢false}
use mathlib.Core.Logic.{inl, inr}
use Rattle.disk_model.specs.Images.{IsImage}
use Rattle.disk_model.specs.Meaning.{Meaning}
use Rattle.disk_model.specs.Calls.{LeavesOnly}
use Rattle.history_model.specs.History.{Body, Fault, Entry, bodies, is_down, is_stored}
use Rattle.history_model.specs.Journal.{Header, Stands}
use Rattle.core_model.specs.Core.{Step, after_steps}
use Rattle.landing_core.specs.Steps.{asking, calls_to, Goes, Shows as Holds}
use Rattle.landing_core.proofs.Asked.{after_then, stored_goes}
use Rattle.landing_core.proofs.Down.{down-stored, down-fault, down-breaking}
use Rattle.landing_core.proofs.Serving.{served_goes}
use Rattle.reply_model.specs.Reply as reply
use Rattle.reply_model.specs.Reply.{Ask, Granted, Question, HeadOf, ContentOf, ChangesetOf, LogFrom, FsnodeOf, UnodeOf, HistoryOf, CopiesOf, PathLogOf, DeletedOf, PolicyOf, judge}
use Rattle.reply_model.specs.After.{Call, Asks, Joins, Looks, Derives, Answer, Grants, Refuses, Shows, Lacks, Roots, DiskFault, ReadFault, BadBytes, NodeCollision, Memory, Made, nothing, only_fault, Answers, Replies, entry_by, entries_of}
use Rattle.reply_model.proofs.Granted.{MakesStored, judge_stored}
use Rattle.reply_model.proofs.Stored.{granted_is_up}
use Rattle.core_model.proofs.Cores.{one_more}
use Rattle.byte_fields.specs.Bytes.{Id}
use Rattle.repo_calls.specs.Asking.{stored_answer, is_disk_fault}
use Rattle.repo_calls.specs.Calls.{refused}
use Rattle.repo_calls.specs.declared.ask.Granted as calls
use Rattle.repo_calls.specs.declared.calls.ChangeFault.{ChangeFault}
use Rattle.repo_calls.specs.declared.calls.ChangeFault.TheVariants as changes
use Rattle.repo_calls.specs.declared.refusal.Refusal.{Refusal}
use Rattle.repo_journal.specs.declared.cut.Cut.{Cut}
use Rattle.repo_journal.specs.declared.left.At.TheVariants as stages
use Rattle.repo_state.specs.Alone.{RepliesAlone, wanted}
use Rattle.repo_state.specs.Cores.{ShowsLeft, StoresAlone, StoresCall, StoresCallAlone, cut_of}
use Rattle.repo_state.specs.Groups.{group_end, is_cut_off, is_under_way, reach_of}
use Rattle.repo_state.specs.Images.{sealed_part, LeavesChange, LeavesSeals, StandsFor, StandsNow}
use Rattle.repo_state.specs.State.{EndsWithin, IsSealedAlone, after_seal}
use Rattle.repo_state.specs.declared.left.Left.{Left}
use Rattle.repo_state.proofs.Answered.{refused_by}
use Rattle.repo_state.proofs.Asked.{refuses_ask, refuses_nothing}
use Rattle.repo_state.proofs.LeftGates.{asking_leaves, gate_left, idle_by, rests_none}
use Rattle.repo_state.proofs.LeftOver.{none_of, some_of}
use Rattle.repo_state.proofs.Stepping.{cut_so, stays, wants_nothing}
use Rattle.repo_state.proofs.Chains.{leaves_map, leaves_nothing}
use Rattle.repo_state.proofs.GroupParts.{part_grows, part_same, part_whole}
use Rattle.repo_state.proofs.Stands.{bodies-fault, stands-same}

-- ---- what a call makes

-- no breaking fault
pub calm_alone : {header : Header} {h : List Entry} {who : ℕ} {call : Call} {answer : Answer} {new : List Entry} (r : Replies header h who call answer new) → r.made.fault ≢ Some true → RepliesAlone header h who call answer new
calm_alone r calm = record { made = r.made; answers = r.answers; new_is = r.new_is; made_first = λ e. absurd (calm e) }

none_made : {made : Made} → made ≡ nothing → made.fault ≢ Some true
none_made e some = absurd (let same = sym (ap (λ (made : Made). made.fault) e) ∙ some in cc)

pub refused_alone : {header : Header} {h : List Entry} {call : Call} {new : List Entry} (e : Refusal) → Replies header h 0 call (refused e) new → RepliesAlone header h 0 call (refused e) new × (new ≡ h)
refused_alone {header} {h} {call} {new} e =
    refused_by (λ answer. Replies header h 0 call answer new → RepliesAlone header h 0 call answer new × (new ≡ h))
    (λ refusal r. by r (refuses_nothing header h call refusal r.made r.answers))
    (λ r. by r (wanted header h call r.made r.answers))
    e
  where
    by : {answer : Answer} (r : Replies header h 0 call answer new) → r.made ≡ nothing → RepliesAlone header h 0 call answer new × (new ≡ h)
    by r none = (calm_alone r (none_made none), r.new_is ∙ ap (λ made. h ++ entries_of 0 made) none ∙ append-nil h)

-- a read makes nothing, or a fault that isn't breaking
looked : (header : Header) (h : List Entry) (q : Question) (answer : Answer) (made : Made) → Answers header h (Looks q) answer made → (made ≡ nothing) ⊎ (made ≡ only_fault false)
looked header h q (Grants g) made a = absurd a
looked header h q (Refuses r) made a = absurd a
looked header h q (Shows s) made a = inl a.0
looked header h q (Lacks b) made a = inl a.0
looked header h q (Roots f u g) made a = absurd a
looked header h q DiskFault made a = absurd a
looked header h (HeadOf m) ReadFault made a = absurd a
looked header h (ContentOf c) ReadFault made a = inr a.0
looked header h (ChangesetOf c) ReadFault made a = absurd a
looked header h (LogFrom n) ReadFault made a = absurd a
looked header h (FsnodeOf c p) ReadFault made a = absurd a
looked header h (UnodeOf c p) ReadFault made a = absurd a
looked header h (HistoryOf c p) ReadFault made a = absurd a
looked header h (CopiesOf c) ReadFault made a = absurd a
looked header h (PathLogOf c p) ReadFault made a = absurd a
looked header h (DeletedOf c p) ReadFault made a = absurd a
looked header h (PolicyOf n) ReadFault made a = absurd a
looked header h (HeadOf m) (BadBytes w f) made a = absurd a
looked header h (ContentOf c) (BadBytes w f) made a = inl a.0
looked header h (ChangesetOf c) (BadBytes w f) made a = absurd a
looked header h (LogFrom n) (BadBytes w f) made a = absurd a
looked header h (FsnodeOf c p) (BadBytes w f) made a = absurd a
looked header h (UnodeOf c p) (BadBytes w f) made a = absurd a
looked header h (HistoryOf c p) (BadBytes w f) made a = absurd a
looked header h (CopiesOf c) (BadBytes w f) made a = absurd a
looked header h (PathLogOf c p) (BadBytes w f) made a = absurd a
looked header h (DeletedOf c p) (BadBytes w f) made a = absurd a
looked header h (PolicyOf n) (BadBytes w f) made a = absurd a
looked header h q (NodeCollision z) made a = inl a.0
looked header h q Memory made a = inl a

not_breaking : {made : Made} → made ≡ only_fault false → made.fault ≢ Some true
not_breaking e some = absurd (let same = sym (ap (λ (made : Made). made.fault) e) ∙ some in cc)

pub look_alone : {header : Header} {h : List Entry} {q : Question} {answer : Answer} {new : List Entry} → Replies header h 0 (Looks q) answer new → RepliesAlone header h 0 (Looks q) answer new
look_alone {header} {h} {q} {answer} {new} r = elim (looked header h q answer r.made r.answers) as (λ _. RepliesAlone header h 0 (Looks q) answer new) [ inl none ↦ calm_alone r (none_made none) | inr fault ↦ calm_alone r (not_breaking fault) ]

same_sealed : (h new : List Entry) (n : ℕ) → bodies new ≡ bodies h → is_down new ≡ is_down h → IsSealedAlone h n → IsSealedAlone new n
same_sealed h new n stored down all = (λ up. subst (λ (bs : List Body). length bs ≤ n) (sym stored) (all.0 (sym down ∙ up)), subst (λ (bs : List Body). length bs ≤ n + 1) (sym stored) all.1)

pub look_sealed : {header : Header} {h : List Entry} {q : Question} {answer : Answer} {new : List Entry} (n : ℕ) → Replies header h 0 (Looks q) answer new → IsSealedAlone h n → IsSealedAlone new n
look_sealed {header} {h} {q} {answer} {new} n r all =
    elim (looked header h q answer r.made r.answers) as (λ _. IsSealedAlone new n) [
      | inl none ↦ subst (λ g. IsSealedAlone g n) (sym (r.new_is ∙ ap (λ made. h ++ entries_of 0 made) none ∙ append-nil h)) all
      | inr fault ↦ (
          let grows : new ≡ h ++ entry_by 0 (Fault false) ∷ [] = r.new_is ∙ ap (λ made. h ++ entries_of 0 made) fault in
          same_sealed h new n (ap (λ g. bodies g) grows ∙ bodies-fault h 0 false) (ap (λ g. is_down g) grows ∙ down-fault h 0) all)
    ]

-- ---- a change that was granted, before its entry is sealed

pub record Entered (header : Header) (h : List Entry) (ask : Ask) (granted : Granted) (new : List Entry) : Type 0 where
  pub body : Body
  pub judged : judge header h ask ≡ Ok (record { granted = granted; made = Some body })
  pub kind : is_stored body ≡ true
  pub grows : new ≡ h ++ entry_by 0 body ∷ []

-- an entry waits, or none was made
entered_or_not : {header : Header} {h : List Entry} {ask : Ask} {granted : Granted} {new : List Entry} (r : Replies header h 0 (Asks ask) (Grants granted) new) → (new ≡ h) ⊎ Entered header h ask granted new
entered_or_not {header} {h} {ask} {granted} {new} r = by r.made.entry refl
  where
    grown : new ≡ h ++ entries_of 0 (record { entry = r.made.entry; fault = None })
    grown = r.new_is ∙ (λ i. h ++ entries_of 0 (record { entry = r.made.entry; fault = r.answers.0 i }))

    by : (o : Option Body) → r.made.entry ≡ o → (new ≡ h) ⊎ Entered header h ask granted new
    by None e = inl (grown ∙ ap (λ (o : Option Body). h ++ entries_of 0 (record { entry = o; fault = None })) e ∙ append-nil h)
    by (Some body) e =
        let judged : judge header h ask ≡ Ok (record { granted = granted; made = Some body }) = r.answers.1 ∙ ap (λ (o : Option Body). Ok (record { granted = granted; made = o })) e in
        inr (record {
          body = body;
          judged = judged;
          kind = subst MakesStored judged (judge_stored header h ask) body refl;
          grows = grown ∙ ap (λ (o : Option Body). h ++ entries_of 0 (record { entry = o; fault = None })) e;
        })

module _ {header : Header} {h : List Entry} {ask : Ask} {granted : Granted} {front : List Entry} (r : Replies header h 0 (Asks ask) (Grants granted) front) (n : ℕ) (all : IsSealedAlone h n) (most : n ≤ length (bodies h)) where
  up : is_down h ≡ false
  up = granted_is_up header h ask _ r.answers.1

  whole : n ≡ length (bodies h)
  whole = (let least = all.0 up in omega arith)

  front_up : is_down front ≡ false
  front_up = elim (entered_or_not r) as (λ _. is_down front ≡ false) [ inl same ↦ ap (λ g. is_down g) same ∙ up | inr e ↦ ap (λ g. is_down g) e.grows ∙ down-stored h (entry_by 0 e.body) e.kind ∙ up ]

  one_at_most : length (bodies front) ≤ n + 1
  one_at_most =
      let is = whole in
      elim (entered_or_not r) as (λ _. length (bodies front) ≤ n + 1) [
        | inl same ↦ (let len = ap (λ g. length (bodies g)) same in omega arith)
        | inr e ↦ (let len = ap (λ g. length (bodies g)) e.grows in let more = one_more h 0 e.body e.kind in omega arith)
      ]

  -- what was sealed is the history before
  stood : (image : List ℕ) → Stands header image (sealed_part n front) → Stands header image h
  stood image stands =
      let part : sealed_part n front ≡ sealed_part n h = elim (entered_or_not r) as (λ _. sealed_part n front ≡ sealed_part n h) [ inl same ↦ ap (λ g. sealed_part n g) same | inr e ↦ ap (λ g. sealed_part n g) e.grows ∙ part_grows n h (entry_by 0 e.body ∷ []) most ] in
      let same : bodies (sealed_part n front) ≡ bodies h = ap (λ g. bodies g) part ∙ ap (λ k. bodies (sealed_part k h)) whole ∙ part_whole h in
      stands-same header image (sealed_part n front) h same stands

  -- no group is under way, and none was cut off
  pub none_there : (left : Option Left) → is_under_way left ≡ false → is_cut_off left ≡ is_down h → left ≡ None
  none_there left idle broken = none_of left (broken ∙ up) idle

  -- before that the disk was read at most
  pub granted_looked : (left : Option Left) (new : List Entry) (m after : Meaning) → is_under_way left ≡ false → is_cut_off left ≡ is_down h → ((image : List ℕ) → IsImage after.state image → StandsNow header front n (reach_of n left) image) → LeavesOnly (IsImage after.state) m after → LeavesChange header h new m after
  granted_looked left new m after idle broken stands only =
      let at_n : reach_of n left ≡ n = ap (reach_of n) (none_there left idle broken) in
      leaves_map m after (λ image is. inl (elim (stands image is) as (λ _. Stands header image h) [ inl sealed ↦ stood image sealed | inr all ↦ stood image (subst (λ i. StandsFor header front i image) at_n all) ])) only

  -- ---- it is sealed

  pub granted_alone : (new : List Entry) → new ≡ front → RepliesAlone header h 0 (Asks ask) (Grants granted) new
  granted_alone new same = subst (λ g. RepliesAlone header h 0 (Asks ask) (Grants granted) g) (sym same) (calm_alone r (λ e. absurd (let none = sym r.answers.0 ∙ e in cc)))

  pub granted_sealed : (new : List Entry) (after : ℕ) → new ≡ front → length (bodies front) ≤ after → n ≤ after → IsSealedAlone new after
  granted_sealed new after same least grows =
      let len = ap (λ g. length (bodies g)) same in
      let one = one_at_most in
      (λ still_up. omega arith, omega arith)

  -- nothing was made, so nothing is asked
  pub nothing_waits : front ≡ h → length (bodies front) ≤ n
  nothing_waits same = (let len = ap (λ g. length (bodies g)) same in let is = whole in omega arith)

  -- an image stands for what was sealed, or for all
  one_of : (new : List Entry) (i : ℕ) (image : List ℕ) → bodies new ≡ bodies front → n ≤ i → i ≤ length (bodies new) → StandsFor header new i image → Stands header image h ⊎ Stands header image new
  one_of new i image same least last stands =
      let len = ap (λ (bs : List Body). length bs) same in
      let one = one_at_most in
      elim (cases_lt n i) as (λ _. Stands header image h ⊎ Stands header image new) [
        | inl more ↦ (
            let all : i ≡ length (bodies new) = omega arith in
            inr (stands-same header image (sealed_part (length (bodies new)) new) new (part_whole new) (subst (λ k. StandsFor header new k image) all stands)))
        | inr less ↦ (
            let at_n : i ≡ n = omega arith in
            inl (stood image (subst (Stands header image) (part_same n new front same) (subst (λ k. StandsFor header new k image) at_n stands))))
      ]

  pub granted_leaves : (left : Option Left) (new : List Entry) (after reach : ℕ) (m now : Meaning) → is_under_way left ≡ false → is_cut_off left ≡ is_down h → bodies new ≡ bodies front → n ≤ after → after ≤ reach → reach ≤ length (bodies new) → LeavesSeals header front n (group_end n left) new after reach m now → LeavesChange header h new m now
  granted_leaves left new after reach m now idle broken same grows further within leaves =
      let at_n : group_end n left ≡ n = ap (group_end n) (none_there left idle broken) in
      leaves_map m now (λ image stands. by image stands at_n) leaves
    where
      by : (image : List ℕ) → StandsNow header front n (group_end n left) image ⊎ StandsNow header new after reach image → group_end n left ≡ n → Stands header image h ⊎ Stands header image new
      by image (inl (inl before)) at_n = inl (stood image before)
      by image (inl (inr before)) at_n = inl (stood image (subst (λ k. StandsFor header front k image) at_n before))
      by image (inr (inl now)) at_n = one_of new after image same grows (omega arith) now
      by image (inr (inr now)) at_n = one_of new reach image same (omega arith) within now

  pub granted_core : (left gate : Option Left) (new : List Entry) (after : ℕ) → is_under_way left ≡ false → new ≡ front → length (bodies front) ≤ after → after ≤ length (bodies front) → is_under_way gate ≡ false → is_cut_off gate ≡ is_down new → StoresAlone header h n left ask (Grants granted) new after gate
  granted_core left gate new after idle same least last still broken = λ s shows there may.
      (let replies = subst (λ g. Replies header h 0 (Asks ask) (Grants granted) g) (sym same) r in
      let served = served_goes header h n 0 ask (Grants granted) new s replies (λ e. absurd cc) (λ _. whole) (shows, idle_by left s idle there) may in
      let goes = served.2 in
      let len = ap (λ g. length (bodies g)) same in
      let is : length (bodies new) ≡ after = omega arith in
      let new_up : is_down new ≡ false = ap (λ g. is_down g) same ∙ front_up in (
        served.0,
        served.1,
        tt,
        record {
          state = goes.state;
          taken = goes.taken;
          meets = (subst (λ k. Holds new k goes.state) is goes.meets.0, subst (λ (o : Option Left). ShowsLeft o goes.state) (sym (none_of gate (broken ∙ new_up) still)) (rests_none new (length (bodies new)) goes.state new_up goes.meets));
        },
      ))

  -- ---- or the disk fails

  abbrev failed : List Entry
  failed = front ++ entry_by 0 (Fault true) ∷ []

  pub failed_is : after_seal 0 true front ≡ failed
  failed_is = ap (λ b. cond (not b) failed front) front_up

  pub failed_breaks : not (is_down front) ≡ true
  failed_breaks = ap (λ b. not b) front_up

  same_stored : bodies failed ≡ bodies front
  same_stored = bodies-fault front 0 true

  module _ (waits : n < length (bodies front)) where
    made_it : Entered header h ask granted front
    made_it = elim (entered_or_not r) as (λ _. Entered header h ask granted front) [ inl same ↦ absurd (let none = nothing_waits same in omega arith) | inr e ↦ e ]

    failed_reply : RepliesAlone header h 0 (Asks ask) DiskFault failed
    failed_reply =
        let e = made_it in
        record {
          made = record { entry = Some e.body; fault = Some true };
          answers = (refl, granted, e.judged);
          new_is = ap (λ (g : List Entry). g ++ entry_by 0 (Fault true) ∷ []) e.grows ∙ append_assoc h (entry_by 0 e.body ∷ []) (entry_by 0 (Fault true) ∷ []);
          made_first = λ _. search;
        }

    pub failed_alone : (new : List Entry) → new ≡ after_seal 0 true front → RepliesAlone header h 0 (Asks ask) DiskFault new
    failed_alone new same = subst (λ g. RepliesAlone header h 0 (Asks ask) DiskFault g) (sym (same ∙ failed_is)) failed_reply

    pub failed_sealed : (new : List Entry) (after : ℕ) → new ≡ after_seal 0 true front → after ≡ n → IsSealedAlone new after
    failed_sealed new after same is =
        let now = same ∙ failed_is in
        let len = ap (λ g. length (bodies g)) now ∙ ap (λ (bs : List Body). length bs) same_stored in
        let one = one_at_most in
        (λ still_up. absurd (true≢false (sym (down-breaking front 0) ∙ sym (ap (λ g. is_down g) now) ∙ still_up)), omega arith)

    pub failed_leaves : (left : Option Left) (new : List Entry) (after reach : ℕ) (m now : Meaning) → is_under_way left ≡ false → is_cut_off left ≡ is_down h → new ≡ after_seal 0 true front → n ≤ after → after ≤ reach → reach ≤ length (bodies new) → LeavesSeals header front n (group_end n left) new after reach m now → LeavesChange header h new m now
    failed_leaves left new after reach m now idle broken same grows further within leaves = granted_leaves left new after reach m now idle broken (ap (λ g. bodies g) (same ∙ failed_is) ∙ same_stored) grows further within leaves

    failed_steps : (left : Option Left) (cut : Cut) → is_under_way left ≡ false → is_cut_off left ≡ is_down h → StoresAlone header h n left ask DiskFault failed n (Some (record { upto = length (bodies front); at = stages.Cut cut }))
    failed_steps left cut idle broken = λ s shows there may.
        (let steps = stored_goes header h n 0 ask (Grants granted) front s (λ p. absurd cc) r shows may in
        let entered = subst (λ (x : List Step). Goes header s x (Holds front n)) steps.1 steps.2 in
        let still : ShowsLeft None entered.state = gate_left header None (asking 0 ask) s entered.state (asking_leaves 0 ask) entered.taken (subst (λ (o : Option Left). ShowsLeft o s) (none_there left idle broken) there) in
        let seal = cut_so header front n 0 cut front_up waits entered.state entered.meets still in
        (asking 0 ask ++ calls_to 0 (cut_of cut), (cut_of cut, refl), (cut, refl, refl), record { state = seal.state; taken = after_then header s entered.state (asking 0 ask) (calls_to 0 (cut_of cut)) entered.taken ∙ seal.taken; meets = seal.meets }))

    pub failed_core : (left gate : Option Left) (new : List Entry) (after : ℕ) → is_under_way left ≡ false → is_cut_off left ≡ is_down h → new ≡ after_seal 0 true front → after ≡ n → is_cut_off gate ≡ is_down new → ForSome gate (EndsWithin new after) → StoresAlone header h n left ask DiskFault new after gate
    failed_core left gate new after idle broken same is cut_is ends =
        let now = same ∙ failed_is in
        let cut = some_of gate (cut_is ∙ ap (λ g. is_down g) now ∙ down-breaking front 0) in
        let within = ends (record { upto = cut.1; at = stages.Cut cut.0 }) cut.2 in
        let less = within.0 in
        let most = within.1 in
        let one = one_at_most in
        let len = ap (λ g. length (bodies g)) now ∙ ap (λ (bs : List Body). length bs) same_stored in
        let all : cut.1 ≡ length (bodies front) = omega arith in
        subst (λ (o : Option Left). StoresAlone header h n left ask DiskFault new after o) (sym (cut.2 ∙ ap (λ k. Some (record { upto = k; at = stages.Cut cut.0 })) all))
        (subst (λ k. StoresAlone header h n left ask DiskFault new k (Some (record { upto = length (bodies front); at = stages.Cut cut.0 }))) (sym is)
        (subst (λ g. StoresAlone header h n left ask DiskFault g n (Some (record { upto = length (bodies front); at = stages.Cut cut.0 }))) (sym now) (failed_steps left cut.0 idle broken)))

-- ---- or it is refused

pub refused_core : {header : Header} {h : List Entry} (call : Call) {new : List Entry} (n : ℕ) (left : Option Left) (e : Refusal) → is_under_way left ≡ false → IsSealedAlone h n → n ≤ length (bodies h) → Replies header h 0 call (refused e) new → StoresCallAlone header h n left call (refused e) new n left
refused_core {header} {h} call {new} n left e idle all most =
    refused_by (λ answer. Replies header h 0 call answer new → StoresCallAlone header h n left call answer new n left)
    (λ refusal r. (let a = refuses_ask header h 0 call refusal new r in (a.ask, a.asks, λ s shows gate may. by a.ask refusal a.replies s shows gate may)))
    (λ r. (stays header h new n (wants_nothing header h 0 call new r), (refl, refl)))
    e
  where
    whole : is_down h ≡ false → n ≡ length (bodies h)
    whole up = (let least = all.0 up in omega arith)

    by : (ask : Ask) (refusal : reply.Refusal) → Replies header h 0 (Asks ask) (Refuses refusal) new → StoresAlone header h n left ask (Refuses refusal) new n left
    by ask refusal replies s shows gate may =
        let served = served_goes header h n 0 ask (Refuses refusal) new s replies (λ p. absurd cc) whole (shows, idle_by left s idle gate) may in
        let goes = served.2 in
        let asked = subst (λ (x : List Step). after_steps header s x ≡ Some goes.state) served.1 goes.taken in
        (served.0, served.1, tt, record { state = goes.state; taken = goes.taken; meets = (goes.meets.0, gate_left header left (asking 0 ask) s goes.state (asking_leaves 0 ask) asked gate) })

-- ---- or contents can't be read

unread_made : (header : Header) (h : List Entry) (call : Call) (made : Made) → Answers header h call ReadFault made → made ≡ only_fault false
unread_made header h (Asks ask) made a = absurd a
unread_made header h (Joins body) made a = a.0
unread_made header h (Looks (HeadOf m)) made a = absurd a
unread_made header h (Looks (ContentOf c)) made a = a.0
unread_made header h (Looks (ChangesetOf c)) made a = absurd a
unread_made header h (Looks (LogFrom n)) made a = absurd a
unread_made header h (Looks (FsnodeOf c p)) made a = absurd a
unread_made header h (Looks (UnodeOf c p)) made a = absurd a
unread_made header h (Looks (HistoryOf c p)) made a = absurd a
unread_made header h (Looks (CopiesOf c)) made a = absurd a
unread_made header h (Looks (PathLogOf c p)) made a = absurd a
unread_made header h (Looks (DeletedOf c p)) made a = absurd a
unread_made header h (Looks (PolicyOf n)) made a = absurd a
unread_made header h (Derives x) made a = absurd a

misread_made : (header : Header) (h : List Entry) (call : Call) (wanted found : Id) (made : Made) → Answers header h call (BadBytes wanted found) made → made ≡ nothing
misread_made header h (Asks ask) wanted found made a = absurd a
misread_made header h (Joins body) wanted found made a = a.0
misread_made header h (Looks (HeadOf m)) wanted found made a = absurd a
misread_made header h (Looks (ContentOf c)) wanted found made a = a.0
misread_made header h (Looks (ChangesetOf c)) wanted found made a = absurd a
misread_made header h (Looks (LogFrom n)) wanted found made a = absurd a
misread_made header h (Looks (FsnodeOf c p)) wanted found made a = absurd a
misread_made header h (Looks (UnodeOf c p)) wanted found made a = absurd a
misread_made header h (Looks (HistoryOf c p)) wanted found made a = absurd a
misread_made header h (Looks (CopiesOf c)) wanted found made a = absurd a
misread_made header h (Looks (PathLogOf c p)) wanted found made a = absurd a
misread_made header h (Looks (DeletedOf c p)) wanted found made a = absurd a
misread_made header h (Looks (PolicyOf n)) wanted found made a = absurd a
misread_made header h (Derives x) wanted found made a = absurd a

-- what comes of a change that isn't granted
pub record IsUngranted (header : Header) (h : List Entry) (n : ℕ) (left : Option Left) (call : Call) (answer : Answer) (new : List Entry) : Type 0 where
  pub replies : RepliesAlone header h 0 call answer new
  pub sealed : IsSealedAlone new n
  pub core : StoresCallAlone header h n left call answer new n left
  pub bodies_same : bodies new ≡ bodies h
  pub down_same : is_down new ≡ is_down h

pub ungranted : {header : Header} {h : List Entry} {call : Call} {new : List Entry} (n : ℕ) (left : Option Left) (fault : ChangeFault) → is_under_way left ≡ false → IsSealedAlone h n → n ≤ length (bodies h) → is_disk_fault {T = calls.Granted} (Err fault) ≡ false
    → Replies header h 0 call (stored_answer (Err fault)) new → StoresCall header h n 0 call (stored_answer (Err fault)) new → IsUngranted header h n left call (stored_answer (Err fault)) new
ungranted {header} {h} {call} {new} n left (changes.Refused e) idle all most undone r core =
    let alone = refused_alone e r in
    record {
      replies = alone.0;
      sealed = subst (λ g. IsSealedAlone g n) (sym alone.1) all;
      core = refused_core call n left e idle all most r;
      bodies_same = ap (λ (g : List Entry). bodies g) alone.1;
      down_same = ap (λ (g : List Entry). is_down g) alone.1;
    }
ungranted {header} {h} {call} {new} n left changes.DiskFault idle all most undone r core = absurd (true≢false undone)
ungranted {header} {h} {call} {new} n left changes.ReadFault idle all most undone r core =
    let made = unread_made header h call r.made r.answers in
    let grows : new ≡ h ++ entry_by 0 (Fault false) ∷ [] = r.new_is ∙ ap (λ made. h ++ entries_of 0 made) made in
    let same = ap (λ (g : List Entry). bodies g) grows ∙ bodies-fault h 0 false in
    record {
      replies = calm_alone r (not_breaking made);
      sealed = same_sealed h new n same (ap (λ (g : List Entry). is_down g) grows ∙ down-fault h 0) all;
      core = (core, (refl, refl));
      bodies_same = same;
      down_same = ap (λ (g : List Entry). is_down g) grows ∙ down-fault h 0;
    }
ungranted {header} {h} {call} {new} n left (changes.BadBytes wanted found) idle all most undone r core =
    let made = misread_made header h call wanted found r.made r.answers in
    let same : new ≡ h = r.new_is ∙ ap (λ made. h ++ entries_of 0 made) made ∙ append-nil h in
    record {
      replies = calm_alone r (none_made made);
      sealed = subst (λ g. IsSealedAlone g n) (sym same) all;
      core = (core, (refl, refl));
      bodies_same = ap (λ (g : List Entry). bodies g) same;
      down_same = ap (λ (g : List Entry). is_down g) same;
    }

-- the disk was read, or not even that
pub ungranted_leaves : (header : Header) (h front new : List Entry) (n : ℕ) (left : Option Left) (m after : Meaning) → IsSealedAlone h n → n ≤ length (bodies h) → bodies front ≡ bodies h → is_under_way left ≡ false → is_cut_off left ≡ is_down h → (is_down h ≡ true → after ≡ m)
    → ((image : List ℕ) → IsImage after.state image → StandsNow header front n (reach_of n left) image) → LeavesOnly (IsImage after.state) m after → LeavesChange header h new m after
ungranted_leaves header h front new n left m after all most same idle broken still stands only = by (is_down h) refl
  where
    by : (t : Bool) → is_down h ≡ t → LeavesChange header h new m after
    by true e = subst (λ (d : Meaning). LeavesChange header h new m d) (sym (still e)) (leaves_nothing m)
    by false e = leaves_map m after (λ image is. (
        let least = all.0 e in
        let whole : n ≡ length (bodies h) = omega arith in
        let part : bodies (sealed_part n front) ≡ bodies h = ap (λ g. bodies g) (part_same n front h same) ∙ ap (λ k. bodies (sealed_part k h)) whole ∙ part_whole h in
        let at_n : reach_of n left ≡ n = ap (reach_of n) (none_of left (broken ∙ e) idle) in
        inl (elim (stands image is) as (λ _. Stands header image h) [ inl sealed ↦ stands-same header image (sealed_part n front) h part sealed | inr all ↦ stands-same header image (sealed_part n front) h part (subst (λ i. StandsFor header front i image) at_n all) ]))) only

-- ---- what is told of the seal, of the values before the change

pub seal_leaves : (header header1 : Header) (front new : List Entry) (n n1 after reach : ℕ) (left left1 : Option Left) (m now : Meaning) → header1 ≡ header → n1 ≡ n → left1 ≡ left → (IsTrue m.honest → LeavesSeals header1 front n1 (group_end n1 left1) new after reach m now) → IsTrue m.honest → LeavesSeals header front n (group_end n left) new after reach m now
seal_leaves header header1 front new n n1 after reach left left1 m now eh en el leaves =
    subst (λ (o : Option Left). IsTrue m.honest → LeavesSeals header front n (group_end n o) new after reach m now) el
    (subst (λ k. IsTrue m.honest → LeavesSeals header front k (group_end k left1) new after reach m now) en
    (subst (λ x. IsTrue m.honest → LeavesSeals x front n1 (group_end n1 left1) new after reach m now) eh leaves))
