-- What the log tells of an entry asks for it again.
--     ask_in body fetched      the change that is asked for so
use Rattle.std.proofs.Common.{◌≡◌, ℕ, Bool, true, false, cond, List, [], ◌∷◌, refl, sym, ap, subst, ◌∙◌}
use Rattle.std.specs.Prelude.{ℤ, None, Some, Option, unwrap_or, Ok, is_some}
use mathlib.Core.Bool.{true≢false}
use Rattle.std.specs.List.{list_any}
use Rattle.std.proofs.lemmas.Bool.{or_parts}
use Rattle.byte_fields.specs.Bytes.{Id}
use Rattle.changeset_model.specs.Version.{Version, First, Second, is_second}
use Rattle.changeset_model.specs.Path.{Path}
use Rattle.changeset_model.specs.Changeset.{Changeset, id_of, spelling, touched_paths}
use Rattle.history_model.specs.History.{Body, Content, Whole, Change, Book, Land, Policy, Fault, Entry, is_stored, holds_policy, policy_of}
use Rattle.history_model.specs.Journal.{Header}
use Rattle.history_model.specs.Pushrebase.{seconds_at, offset_at, on_parent, rewrite, moment_of}
use Rattle.history_model.proofs.Policies.{held_has_text}
use Rattle.policy_model.specs.Rules.{bookmark_place}
use Rattle.policy_model.specs.Held.{denied_under}
use Rattle.reply_model.specs.Opening.{nobody}
use Rattle.reply_model.specs.Reply.{Ask, PutContent, PutWhole, PutChangeset, SetBookmark, LandDraft, SetPolicy, Granted, told, denied_at, is_ask, judge}
use Rattle.reply_model.specs.Log.{LogLine, line_of}
use Rattle.reply_model.specs.After.{Asks}
use Rattle.reply_model.specs.Legal.{MayFollow}
use Rattle.opening_laws.proofs.Made.{MadeBy, is_made}
use Rattle.opening_laws.proofs.Opening.{same_put, set_same, land_same}
use Rattle.opening_laws.proofs.Rules.{what_is_uploaded}
use Rattle.byte_fields.proofs.Booleans.{same_some}
use Rattle.follower.specs.Making.{call_of}
use Rattle.follower_laws.specs.Again.{IsFetchFor}

-- ---- who asked and when, where that isn't told

told_back : (b : Bool) (caller : List ℕ) → cond b (Some (unwrap_or (cond b (Some caller) None) nobody)) None ≡ cond b (Some caller) None
told_back true caller = refl
told_back false caller = refl

denied_by : (b : Bool) (held : Option (List ℕ)) → b ≡ is_some held → (caller : List ℕ) (ps : List Path) → denied_under held (unwrap_or (cond b (Some caller) None) nobody) ps ≡ denied_under held caller ps
denied_by true held e caller ps = refl
denied_by false None e caller ps = refl
denied_by false (Some text) e caller ps = absurd (true≢false (sym e))

denied_back : (h : List Entry) (caller : List ℕ) (ps : List Path) → denied_at h (unwrap_or (told h caller) nobody) ps ≡ denied_at h caller ps
denied_back h caller ps = denied_by (holds_policy h) (policy_of h) (held_has_text h) caller ps

moment_by : (b : Bool) (moment : ℕ) → cond b (Some (unwrap_or (cond b (Some moment) None) 0)) None ≡ cond b (Some moment) None
moment_by true moment = refl
moment_by false moment = refl

same_moment : (stack : List Changeset) (moment : ℕ) → moment_of stack (unwrap_or (moment_of stack moment) 0) ≡ moment_of stack moment
same_moment stack moment = moment_by (list_any (λ c. is_second c.version) stack) moment

seconds_same : (v : Version) (s t : ℕ) (z : ℤ) → is_second v ≡ false → seconds_at s v z ≡ seconds_at t v z
seconds_same First s t z h = refl
seconds_same Second s t z h = absurd (true≢false h)

first_only : (stack : List Changeset) (x : Id) (s t : ℕ) → list_any (λ c. is_second c.version) stack ≡ false → rewrite stack x s ≡ rewrite stack x t
first_only [] x s t none = refl
first_only (c ∷ cs) x s t none =
    let both = or_parts (is_second c.version) (list_any (λ c. is_second c.version) cs) none in
    let one : on_parent x s c ≡ on_parent x t c = (λ i. record c { parents = x ∷ []; seconds = seconds_same c.version s t c.seconds both.0 i; offset = offset_at c.version c.offset }) in
    (λ i. one i ∷ rewrite cs (id_of (one i)) s) ∙ ap (λ (later : List Changeset). on_parent x t c ∷ later) (first_only cs (id_of (on_parent x t c)) s t both.1)

rewrite_by : (b : Bool) (stack : List Changeset) (x : Id) (moment : ℕ) → list_any (λ c. is_second c.version) stack ≡ b → rewrite stack x (unwrap_or (cond b (Some moment) None) 0) ≡ rewrite stack x moment
rewrite_by true stack x moment e = refl
rewrite_by false stack x moment e = first_only stack x 0 moment e

same_rewrite : (stack : List Changeset) (x : Id) (moment : ℕ) → rewrite stack x (unwrap_or (moment_of stack moment) 0) ≡ rewrite stack x moment
same_rewrite stack x moment = rewrite_by (list_any (λ c. is_second c.version) stack) stack x moment refl

-- ---- the change

abbrev pub ask_in : Body → List ℕ → Ask
ask_in (Content x n) fetched = PutContent fetched
ask_in (Whole x n parts) fetched = PutContent fetched
ask_in (Change c) fetched = PutChangeset fetched
ask_in (Book move) fetched = SetBookmark (unwrap_or move.caller nobody) move.name move.from move.to
ask_in (Land landing) fetched = LandDraft (unwrap_or landing.caller nobody) landing.name landing.draft (unwrap_or landing.moment 0)
ask_in (Policy caller text) fetched = SetPolicy caller fetched
ask_in (Fault breaking) fetched = PutContent fetched

-- no contents are joined
abbrev pub IsPlain : Body → Type 0
IsPlain (Content x n) = Unit {0}
IsPlain (Whole x n parts) = ⊥
IsPlain (Change c) = Unit {0}
IsPlain (Book move) = Unit {0}
IsPlain (Land landing) = Unit {0}
IsPlain (Policy caller text) = Unit {0}
IsPlain (Fault breaking) = ⊥

abbrev pub HasMade : Header → List Entry → Ask → Granted → Body → Type 0
HasMade header h ask granted body = judge header h ask ≡ Ok (record { granted = granted; made = Some body })

again_by : (header : Header) (h : List Entry) (ask : Ask) (granted : Granted) (b : Body) (fetched : List ℕ) → is_ask h ask ≡ true → HasMade header h ask granted b → MadeBy h ask b → IsPlain b → IsFetchFor b fetched → HasMade header h (ask_in b fetched) granted b
again_by header h (PutContent given) granted b fetched asked judged m plain f =
    let is = subst (λ b. IsFetchFor b fetched) m.1 f in
    ap (λ b. judge header h (ask_in b fetched)) m.1 ∙ same_put header h fetched given is.0 is.1 ∙ judged
again_by header h (PutWhole given pieces) granted b fetched asked judged m plain f = absurd (subst IsPlain m.3 plain)
again_by header h (PutChangeset given) granted b fetched asked judged m plain f =
    let is : fetched ≡ spelling m.0 = subst (λ b. IsFetchFor b fetched) m.3 f in
    let same : fetched ≡ given = is ∙ sym (what_is_uploaded given m.0 asked m.1).1 in
    ap (λ b. judge header h (ask_in b fetched)) m.3 ∙ ap (λ t. judge header h (PutChangeset t)) same ∙ judged
again_by header h (SetBookmark caller name from to) granted b fetched asked judged m plain f =
    ap (λ b. judge header h (ask_in b fetched)) m.0
    ∙ set_same header h (unwrap_or (told h caller) nobody) caller name from to (told_back (holds_policy h) caller) (denied_back h caller (bookmark_place name ∷ []))
    ∙ judged
again_by header h (LandDraft caller name draft moment) granted b fetched asked judged m plain f =
    let who = unwrap_or (told h caller) nobody in
    let at = unwrap_or (moment_of m.1.stack moment) 0 in
    ap (λ b. judge header h (ask_in b fetched)) m.8
    ∙ land_same header h who caller name draft at moment m.0 m.1 m.2 m.4 (told_back (holds_policy h) caller) (denied_back h caller (touched_paths m.1.stack)) (same_moment m.1.stack moment) (same_rewrite m.1.stack m.0 moment)
    ∙ judged
again_by header h (SetPolicy caller text) granted b fetched asked judged m plain f =
    let is : fetched ≡ text = subst (λ b. IsFetchFor b fetched) m.0 f in
    ap (λ b. judge header h (ask_in b fetched)) m.0 ∙ ap (λ t. judge header h (SetPolicy caller t)) is ∙ judged

-- an entry that some change made is made by this one
pub made_anew : (header : Header) (h : List Entry) (b : Body) (fetched : List ℕ) → is_stored b ≡ true → MayFollow header h b → IsPlain b → IsFetchFor b fetched → (granted : Granted) × HasMade header h (ask_in b fetched) granted b
made_anew header h b fetched s m plain f =
    let made = is_made header h b s m in
    (made.granted, again_by header h made.ask made.granted b fetched made.asked made.judged made.made plain f)

-- ---- what is told of an entry

pub told_is_stored : (b : Body) (line : LogLine) → line_of b ≡ Some line → is_stored b ≡ true
told_is_stored (Content x n) line e = refl
told_is_stored (Whole x n parts) line e = refl
told_is_stored (Change c) line e = refl
told_is_stored (Book move) line e = refl
told_is_stored (Land landing) line e = refl
told_is_stored (Policy caller text) line e = refl
told_is_stored (Fault breaking) line e = absurd cc

-- the line's call asks for it
pub call_is : (b : Body) (line : LogLine) (fetched : List ℕ) → IsPlain b → line_of b ≡ Some line → call_of line fetched ≡ Asks (ask_in b fetched)
call_is (Content x n) line fetched plain e = ap (λ (l : LogLine). call_of l fetched) (sym (same_some _ line e))
call_is (Whole x n parts) line fetched plain e = absurd plain
call_is (Change c) line fetched plain e = ap (λ (l : LogLine). call_of l fetched) (sym (same_some _ line e))
call_is (Book move) line fetched plain e = ap (λ (l : LogLine). call_of l fetched) (sym (same_some _ line e))
call_is (Land landing) line fetched plain e = ap (λ (l : LogLine). call_of l fetched) (sym (same_some _ line e))
call_is (Policy caller text) line fetched plain e = ap (λ (l : LogLine). call_of l fetched) (sym (same_some _ line e))
call_is (Fault breaking) line fetched plain e = absurd plain
