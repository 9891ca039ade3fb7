-- The trees where a landing is granted.
use Rattle.std.proofs.Common.{◌≡◌, ℕ, true, List, [], ◌∷◌, ◌++◌, map, refl, sym, ap, subst, ◌∙◌, arith}
use Rattle.std.specs.Prelude.{None, Some, Ok, Contains}
use mathlib.Core.List.{IsPrefix}
use Rattle.std.specs.List.{AllByRecursion}
use Rattle.std.proofs.lemmas.List.Elements.{recursion_from_All, All-contains_itself}
use Rattle.byte_fields.specs.Bytes.{Id}
use Rattle.byte_fields.proofs.Lists.{weaker}
use Rattle.changeset_model.specs.Changeset.{id_of}
use Rattle.history_model.specs.History as model
use Rattle.history_model.specs.History.{Entry, Known, Land, known, is_known}
use Rattle.history_model.specs.Bookmark.{head}
use Rattle.history_model.specs.Journal.{Header}
use Rattle.reply_model.specs.Reply.{LandDraft, Landed, Judged, judge}
use Rattle.reply_model.specs.After.{After, Asks, Grants, Replies, Made, entries_of, entry_by, stands_of}
use Rattle.reply_model.specs.Legal.{MayFollow, GoesOn, IsLegal}
use Rattle.reply_model.proofs.Histories.{IsLegal-push}
use Rattle.reply_model.proofs.Parents.{brought, grown}
use Rattle.opening_laws.proofs.Rules.{known_keep, uploadable_of_next}
use Rattle.changeset_store.proofs.KnownOnce.{is_known-once}
use Rattle.repo_machine.specs.Landings.{IsLandable, IsLanding}
use Rattle.repo_machine.proofs.LandingEntry.{old_landed, ids_landed}
use Rattle.repo_calls.proofs.Fitting.{length-rewrite}
use Rattle.repo_machine.proofs.LandingLaws.{lands}
use Rattle.repo_state.proofs.Collisions.{KeepsRules, all_alone}
use Rattle.repo_state.proofs.Inverting.{landing_of, granted_of, SaidOf, IsGranted, judge_says}
use Rattle.reply_model.proofs.Parents.{head_known as from_some}

known_rules : (header : Header) (h : List Entry) → IsLegal header h → AllByRecursion (λ (k : Known). KeepsRules k.changeset) (known h)
known_rules header h legal =
    weaker (Contains (known h)) (λ (k : Known). KeepsRules k.changeset) (λ k at. (known_keep header h k legal at).1) (known h)
    (recursion_from_All (Contains (known h)) (known h) (All-contains_itself (known h)))

head_known : (header : Header) (h : List Entry) (name : List ℕ) (x : Id) → IsLegal header h → head h name ≡ Some x → is_known (known h) x ≡ true
head_known header h name x legal at = is_known-once (brought h) x ∙ from_some (brought h) (head h name) x at ((grown header h legal).heads name)

module _ (header : Header) (h : List Entry) (who : ℕ) (caller name : List ℕ) (draft : Id) (moment : ℕ) (judged : Judged) (is : judge header h (LandDraft caller name draft moment) ≡ Ok judged) (g : IsGranted header h caller name draft moment judged) (new : List Entry) (grows : new ≡ h ++ entry_by who (Land (landing_of h caller name g.old draft moment g.fork_is)) ∷ []) (legal : IsLegal header new) where
  abbrev landing : model.Landing
  landing = landing_of h caller name g.old draft moment g.fork_is

  both : IsLegal header h × MayFollow header h (Land landing)
  both = (IsLegal-push header h (entry_by who (Land landing))).0 (subst (IsLegal header) grows legal)

  able : IsLandable header h caller name draft moment landing
  able = record {
    names = refl;
    drafts = refl;
    head_is = g.head_is;
    old_known = head_known header h name g.old both.0 g.head_is;
    fork_is = g.fork_is;
    forks = g.forks;
    rewritten = refl;
    dated = refl;
    told_is = refl;
    some = (let long = length-rewrite g.fork_is.stack g.old moment in let some = g.some in omega arith);
    few = (let long = length-rewrite g.fork_is.stack g.old moment in let few = g.few in omega arith);
    allowed = g.allowed;
    range_in_line = g.range_in_line;
    apart = g.apart;
    alone = all_alone (known h) landing.new (known_rules header h both.0) (weaker _ KeepsRules (λ c u. u.keeps) landing.new (uploadable_of_next header h (Land landing) both.0 refl both.1)) g.alone;
    judged = is ∙ sym g.is_entered;
  }

  pub trees : (old : Id) (ids : List Id) → old ≡ landing.old → ids ≡ map id_of landing.new → IsLanding (known h) (known new) old draft ids
  trees old ids same are = lands header h who landing caller name draft moment able new grows legal old ids same are

granted_trees : (header : Header) (h : List Entry) (who : ℕ) (caller name : List ℕ) (draft : Id) (moment : ℕ) (old : Id) (ids : List Id) (made : Made) (new : List Entry) → made.fault ≡ None → judge header h (LandDraft caller name draft moment) ≡ Ok (record { granted = Landed old ids; made = made.entry }) → new ≡ h ++ entries_of who made → IsLegal header new → IsLanding (known h) (known new) old draft ids
granted_trees header h who caller name draft moment old ids made new alone is grows legal =
    let judged : Judged = record { granted = Landed old ids; made = made.entry } in
    let g : IsGranted header h caller name draft moment judged = subst (SaidOf (IsGranted header h caller name draft moment)) is (judge_says header h caller name draft moment) in
    let same : Landed old ids ≡ granted_of (landing_of h caller name g.old draft moment g.fork_is) = ap (λ (j : Judged). j.granted) g.judged_is in
    let entry : made.entry ≡ Some (Land (landing_of h caller name g.old draft moment g.fork_is)) = ap (λ (j : Judged). j.made) g.judged_is in
    trees header h who caller name draft moment judged is g new
    (grows ∙ (λ i. h ++ entries_of who (record { entry = entry i; fault = alone i }))) legal old ids
    (old_landed _ _ _ _ (sym same)) (ids_landed _ _ _ _ (sym same))

pub replied_trees : (header : Header) (h : List Entry) (who : ℕ) (caller name : List ℕ) (draft : Id) (moment : ℕ) (old : Id) (ids : List Id) (new : List Entry) → IsLegal header new → Replies header h who (Asks (LandDraft caller name draft moment)) (Grants (Landed old ids)) new → IsLanding (known h) (known new) old draft ids
replied_trees header h who caller name draft moment old ids new legal r = granted_trees header h who caller name draft moment old ids r.made new r.answers.0 r.answers.1 r.new_is legal

front_goes : (header : Header) (before h g : List Entry) → GoesOn header before (h ++ g) → GoesOn header before h
front_goes header before [] g l = tt
front_goes header before (e ∷ h) g l = (l.0, front_goes header (before ++ e ∷ []) h g l.1)

-- what was made without a fault stands as it was made
all_stand : (who : ℕ) (made : Made) → made.fault ≡ None → stands_of who made ≡ entries_of who made
all_stand who made alone = ap (λ f. stands_of who (record { entry = made.entry; fault = f })) alone ∙ ap (λ f. entries_of who (record { entry = made.entry; fault = f })) (sym alone)

pub trees_after : (header : Header) (front : List Entry) (who : ℕ) (caller name : List ℕ) (draft : Id) (moment : ℕ) (old : Id) (ids : List Id) (new : List Entry) → IsLegal header new → After header front who (Asks (LandDraft caller name draft moment)) (Grants (Landed old ids)) new
    → (before at : List Entry) × IsPrefix front before × IsPrefix before at × IsPrefix at new × IsLanding (known before) (known at) old draft ids
trees_after header front who caller name draft moment old ids new legal a =
    let at = a.before ++ stands_of who a.made in
    let stands = a.grows.stands in
    let there : IsLegal header at = front_goes header [] at stands.0 (subst (λ (h : List Entry). IsLegal header h) (sym stands.1) legal) in (
      a.before,
      at,
      a.grows.begins,
      (stands_of who a.made, refl),
      stands,
      granted_trees header a.before who caller name draft moment old ids a.made at a.answers.0 a.answers.1 (ap (λ (g : List Entry). a.before ++ g) (all_stand who a.made a.answers.0)) there,
    )
