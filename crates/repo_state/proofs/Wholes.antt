-- What the file and what waits must hold of the parts of wholes.
use Rattle.std.proofs.Common.{◌≡◌, ℕ, zero, suc, false, List, [], ◌∷◌, drop, refl, sym, ap, subst, ◌∙◌}
use Rattle.std.specs.Prelude.{IsTrue, Option, None, Some, Ok}
use Rattle.std.specs.List.{AllByRecursion}
use mathlib.Core.Bool.{true≢false}
use Rattle.disk_model.specs.Meaning.{Meaning}
use Rattle.changeset_model.specs.Path.{Path}
use Rattle.changeset_model.specs.Changeset.{Changeset}
use Rattle.history_model.specs.History.{Body, Entry, bodies, known}
use Rattle.history_model.specs.Journal.{Header, HoldsParts, size}
use Rattle.opening_laws.proofs.Made.{MakesEach, Fitting, MadeBy, judge_makes}
use Rattle.reply_model.specs.Reply.{Ask, PutContent, PutWhole, PutChangeset, SetBookmark, LandDraft, SetPolicy, Granted, unresolved_of, judge}
use Rattle.reply_model.specs.After.{Call, Asks, Joins, Looks, Derives}
use Rattle.repo_calls.specs.Calls.{call_seen}
use Rattle.repo_calls.specs.declared.ask.Ask as calls
use Rattle.repo_calls.specs.declared.ask.Ask.TheVariants as asks
use Rattle.repo_journal.specs.Groups.{GroupHolds, with_group}
use Rattle.repo_journal.specs.View.{JournalView}
use Rattle.repo_state.specs.Images.{sealed_part}
use Rattle.repo_machine.specs.Asked.{IsAskOf}
use Rattle.repo_machine.specs.Found.{IsLeft, IsFoundReady}
use Rattle.repo_machine.specs.declared.found.Found.TheVariants as founds
use Rattle.repo_machine.specs.declared.prepared.Ready.{Ready}
use Rattle.repo_machine.specs.Judged.{JudgedChange, IsJudged}
use Rattle.repo_state.specs.Asking.{is_join}
use Rattle.repo_state.specs.Joining.{Holds}
use Rattle.repo_state.specs.State.{State, Agrees, laid}

-- ---- entries that need nothing of the file

abbrev pub NoJoin : Ask → Type 0
NoJoin (PutContent bytes) = Unit {0}
NoJoin (PutWhole body pieces) = ⊥
NoJoin (PutChangeset bytes) = Unit {0}
NoJoin (SetBookmark caller name from to) = Unit {0}
NoJoin (LandDraft caller name draft moment) = Unit {0}
NoJoin (SetPolicy caller text) = Unit {0}

no_whole : (h : List Entry) (ask : Ask) (body : Body) → NoJoin ask → MadeBy h ask body → (file : List ℕ) (all : List Body) → HoldsParts file all body
no_whole h (PutContent bytes) body none made = subst (λ b. (file : List ℕ) (all : List Body) → HoldsParts file all b) (sym made.1) (λ file all. tt)
no_whole h (PutWhole ids pieces) body none made = absurd none
no_whole h (PutChangeset bytes) body none made = subst (λ b. (file : List ℕ) (all : List Body) → HoldsParts file all b) (sym made.3) (λ file all. tt)
no_whole h (SetBookmark caller name from to) body none made = subst (λ b. (file : List ℕ) (all : List Body) → HoldsParts file all b) (sym made.0) (λ file all. tt)
no_whole h (LandDraft caller name draft moment) body none made = subst (λ b. (file : List ℕ) (all : List Body) → HoldsParts file all b) (sym made.8) (λ file all. tt)
no_whole h (SetPolicy caller text) body none made = subst (λ b. (file : List ℕ) (all : List Body) → HoldsParts file all b) (sym made.0) (λ file all. tt)

pub asks_nothing : (header : Header) (h : List Entry) (ask : Ask) (granted : Granted) (body : Body) → NoJoin ask → judge header h ask ≡ Ok (record { granted = granted; made = Some body }) → (file : List ℕ) (all : List Body) → HoldsParts file all body
asks_nothing header h ask granted body none judged = no_whole h ask body none (subst (MakesEach (Fitting header h (MadeBy h ask))) judged (judge_makes header h ask) body refl).0

-- a change that joins nothing
pub no_join : (header : Header) (h : List Entry) (call : calls.Ask) (ask : Ask) → is_join (call_seen call) ≡ false → IsAskOf header h (call_seen call) ask → NoJoin ask
no_join header h (asks.PutContent bytes) ask found is = subst NoJoin (sym is) tt
no_join header h (asks.PutWhole body) ask found is = absurd (true≢false found)
no_join header h (asks.PutChangeset bytes) ask found is = subst NoJoin (sym is) tt
no_join header h (asks.SetBookmark caller name from to) ask found is = subst NoJoin (sym is) tt
no_join header h (asks.Land caller name draft moment) ask found is = subst NoJoin (sym is) tt
no_join header h (asks.SetPolicy caller text) ask found is = subst NoJoin (sym is) tt

-- what needs nothing to be found, or a path alone, joins nothing
pub single_alone : (call : Call) (r : Ready) → ((header : Header) (h : List Entry) → IsFoundReady header h call r founds.Nothing) → (header : Header) (h : List Entry) → is_join call ≡ false
single_alone (Asks ask) r found header h = refl
single_alone (Joins body) r found header h = absurd (found header h)
single_alone (Looks question) r found header h = refl
single_alone (Derives id) r found header h = refl

pub single_merge : (call : Call) (r : Ready) (c : Changeset) → ((header : Header) (h : List Entry) (path : Option Path) → IsLeft h c path → IsFoundReady header h call r (founds.Unresolved path)) → (header : Header) (h : List Entry) → is_join call ≡ false
single_merge (Asks ask) r c found header h = refl
single_merge (Joins body) r c found header h = absurd (found header h (unresolved_of (known h) c c.parents) (λ all. refl))
single_merge (Looks question) r c found header h = refl
single_merge (Derives id) r c found header h = refl

pub needs_nothing : (s : State) (h : List Entry) (header : Header) (ask : Ask) (judged : JudgedChange) → NoJoin ask → IsJudged header h ask judged → Holds s judged.made
needs_nothing s h header ask judged none is = by judged.made refl
  where
    by : (o : Option Body) → judged.made ≡ o → Holds s o
    by None e = tt
    by (Some body) e = λ honest. asks_nothing header h ask judged.granted body none (is.granted ∙ ap (λ (o : Option Body). Ok (record { granted = judged.granted; made = o })) e) (laid s) (bodies s.history)

-- ---- what waits

pub all_behind : {X : Type 0} (P : X → Type 0) (n : ℕ) (xs : List X) → AllByRecursion P xs → AllByRecursion P (drop n xs)
all_behind P zero xs all = all
all_behind P (suc n) [] all = tt
all_behind P (suc n) (x ∷ xs) all = all_behind P n xs all.1

-- behind each image of the file it has what the parts of its wholes need
pub group_holds : (header : Header) (h : List Entry) (n upto : ℕ) (journal : JournalView) (m : Meaning) (bytes : List ℕ) → Agrees header h n upto journal m → journal.left ≡ None → IsTrue m.honest → journal.pending.bytes ≡ bytes → GroupHolds m.state (size (sealed_part n h)) bytes (bodies h) (drop n (bodies h))
group_holds header h n upto journal m bytes agrees none honest is = λ before left.
    (let all = agrees.holds honest in
    let file : with_group journal.size journal.pending.bytes m.state.reads ≡ with_group (size (sealed_part n h)) bytes before =
    (λ i. with_group (agrees.size_is i) (is i) (sym (agrees.stable honest none before left) i)) in
    all_behind (HoldsParts (with_group (size (sealed_part n h)) bytes before) (bodies h)) n (bodies h) (subst (λ f. AllByRecursion (HoldsParts f (bodies h)) (bodies h)) file all))
