-- What is denied is the least path that the policy doesn't allow, with the number of the rule that decides there.
use Rattle.std.proofs.Common.{◌≡◌, ℕ, Bool, true, false, cond, List, [], ◌∷◌, map, length, refl, sym, ap, subst, ◌∙◌}
use Rattle.std.specs.Prelude.{Option, None, Some, Result, Ok, Err, find, not, nat_lt, bytes_eq, ok_or, option_map, ◌==◌}
use Rattle.std.specs.Option.{option_eq, option_to_list}
use Rattle.std.specs.Result.{result_err}
use Rattle.byte_fields.specs.Bytes.{Id}
use Rattle.changeset_model.specs.Version.{is_second}
use Rattle.changeset_model.specs.Path.{Path, IsRising}
use Rattle.changeset_model.specs.Changeset.{id_of, touched_paths}
use Rattle.changeset_model.proofs.Rising.{touched_paths_rise}
use Rattle.history_model.specs.History.{Body, Book, Land, Policy, Entry, is_down, stored, known, is_known, policy_of}
use Rattle.history_model.specs.Bookmark.{head}
use Rattle.history_model.specs.Pushrebase.{Fork, fork, clash, rewrite, moment_of}
use Rattle.history_model.specs.Journal.{Header, payload_len, most_payload, size, is_full}
use Rattle.policy_model.specs.Rules.{Denial, IsLeastDenied, decide, bookmark_place, policy_place}
use Rattle.policy_model.specs.Grammar.{parse}
use Rattle.policy_model.specs.Held.{rules_in, denied_under}
use Rattle.policy_model.proofs.Least.{denied_least, rule_of_denied}
use Rattle.reply_model.specs.Reply.{SetBookmark, LandDraft, SetPolicy, Refusal, Denied, Down, NoChangeset, Moved, NoBookmark, NoRoot, TooFarBehind, AlreadyIn, StackTooLong, MergeInStack, MergeInRange, Clash, TooLarge, Collision, OldFormat, BadPolicy, Full, Granted, BookmarkSet, Landed, PolicySet, Judged, ◌>>=◌, refuse_if, refuse_some, entered, is_merge, told, denial, denied_at, first_collision, most_range, most_stack, judge}
use Rattle.reply_model.proofs.Parents.{was_some}

-- ---- refusals that are none

record Denies (P : Path → Option ℕ → Type 0) (r : Result Judged Refusal) : Type 0 where
  each : (p : Path) (rule : Option ℕ) → r ≡ Err (Denied p rule) → P p rule

refusal_same : {A : Type 0} (e other : Refusal) → ◌≡◌ {A = Result A Refusal} (Err e) (Err other) → e ≡ other
refusal_same e other h = cc

through : {A : Type 0} (P : Path → Option ℕ → Type 0) (r : Result A Refusal) (f : A → Result Judged Refusal) → ((e : Refusal) → r ≡ Err e → (p : Path) (rule : Option ℕ) → e ≡ Denied p rule → P p rule) → ((x : A) → r ≡ Ok x → Denies P (f x)) → Denies P (r >>= f)
through P (Ok x) f here later = later x refl
through P (Err e) f here later = record { each = λ p rule h. here e refl p rule (refusal_same e (Denied p rule) h) }

no_if : (b : Bool) (e other : Refusal) → refuse_if b e ≡ Err other → e ≡ other
no_if true e other h = refusal_same e other h
no_if false e other h = absurd cc

no_or : {X : Type 0} (o : Option X) (e other : Refusal) → ok_or o e ≡ Err other → e ≡ other
no_or None e other h = refusal_same e other h
no_or (Some x) e other h = absurd cc

no_some : {X : Type 0} (o : Option X) (e : X → Refusal) (other : Refusal) → refuse_some o e ≡ Err other → (x : X) × (o ≡ Some x) × (e x ≡ other)
no_some None e other h = absurd cc
no_some (Some x) e other h = (x, refl, refusal_same (e x) other h)

granted_none : (P : Path → Option ℕ → Type 0) (judged : Judged) → Denies P (Ok judged)
granted_none P judged = record { each = λ p rule h. absurd cc }

enters : (P : Path → Option ℕ → Type 0) (header : Header) (h : List Entry) (granted : Granted) (body : Body) → Denies P (entered header h granted body)
enters P header h granted body =
    through P (refuse_if (is_full header h (payload_len body)) (Full (size h) (payload_len body))) (λ _. Ok (record { granted = granted; made = Some body }))
    (λ e h p rule same. absurd (let s = no_if _ _ e h ∙ same in cc))
    (λ _ _. granted_none P (record { granted = granted; made = Some body }))

either : (P : Path → Option ℕ → Type 0) (b : Bool) (x y : Result Judged Refusal) → Denies P x → Denies P y → Denies P (cond b x y)
either P true x y a c = a
either P false x y a c = c

-- ---- a denial

abbrev pub IsDenial : List Entry → List ℕ → List Path → Path → Option ℕ → Type 0
IsDenial h caller ps p rule = (text : List ℕ) × (policy_of h ≡ Some text) × IsLeastDenied (rules_in text) caller ps p × (rule ≡ decide (rules_in text) caller p)

under : (o : Option (List ℕ)) (caller : List ℕ) (ps : List Path) (d : Denial) (p : Path) (rule : Option ℕ) → IsRising ps → denied_under o caller ps ≡ Some d → denial d ≡ Denied p rule → (text : List ℕ) × (o ≡ Some text) × IsLeastDenied (rules_in text) caller ps p × (rule ≡ decide (rules_in text) caller p)
under None caller ps d p rule rises e same = absurd cc
under (Some text) caller ps d p rule rises e same =
    let path_is : d.path ≡ p = cc in
    let rule_is : d.rule ≡ rule = cc in (
      text,
      refl,
      subst (IsLeastDenied (rules_in text) caller ps) path_is (denied_least (rules_in text) caller ps d rises e),
      sym rule_is ∙ rule_of_denied (rules_in text) caller ps d e ∙ ap (decide (rules_in text) caller) path_is,
    )

denies : (h : List Entry) (caller : List ℕ) (ps : List Path) (e : Refusal) (p : Path) (rule : Option ℕ) → IsRising ps → refuse_some (denied_at h caller ps) denial ≡ Err e → e ≡ Denied p rule → IsDenial h caller ps p rule
denies h caller ps e p rule rises refused same =
    let found = no_some (denied_at h caller ps) denial e refused in
    under (policy_of h) caller ps found.0 p rule rises found.1 (found.2 ∙ same)

-- ---- by what was asked

pub move_denied : (header : Header) (h : List Entry) (caller name : List ℕ) (from to : Option Id) (p : Path) (rule : Option ℕ) → judge header h (SetBookmark caller name from to) ≡ Err (Denied p rule) → IsDenial h caller (bookmark_place name ∷ []) p rule
move_denied header h caller name from to p rule =
    let P = IsDenial h caller (bookmark_place name ∷ []) in
    (through P (refuse_if (is_down h) Down) _ (λ e h p rule same. absurd (let s = no_if _ _ e h ∙ same in cc)) (λ _ _.
    through P (refuse_some (find (λ x. not (is_known (known h) x)) (option_to_list to)) NoChangeset) _ (λ e h p rule same. absurd (let n = no_some _ NoChangeset e h in let s = n.2 ∙ same in cc)) (λ _ _.
    through P (refuse_if (not (option_eq bytes_eq (head h name) from)) (Moved (head h name))) _ (λ e h p rule same. absurd (let s = no_if _ _ e h ∙ same in cc)) (λ _ _.
    through P (refuse_some (denied_at h caller (bookmark_place name ∷ [])) denial) _ (λ e refused p rule same. denies h caller (bookmark_place name ∷ []) e p rule (tt, tt) refused same) (λ _ _.
    either P (option_eq bytes_eq from to) _ _ (granted_none P (record { granted = BookmarkSet; made = None })) (enters P header h BookmarkSet (Book (record { name = name; from = from; to = to; caller = told h caller })))))))).each p rule

pub policy_denied : (header : Header) (h : List Entry) (caller text : List ℕ) (p : Path) (rule : Option ℕ) → judge header h (SetPolicy caller text) ≡ Err (Denied p rule) → IsDenial h caller (policy_place ∷ []) p rule
policy_denied header h caller text p rule =
    let P = IsDenial h caller (policy_place ∷ []) in
    (through P (refuse_if (is_down h) Down) _ (λ e h p rule same. absurd (let s = no_if _ _ e h ∙ same in cc)) (λ _ _.
    through P (refuse_if (not (is_second header.version)) OldFormat) _ (λ e h p rule same. absurd (let s = no_if _ _ e h ∙ same in cc)) (λ _ _.
    through P (refuse_some (result_err (parse text)) BadPolicy) _ (λ e h p rule same. absurd (let n = no_some _ BadPolicy e h in let s = n.2 ∙ same in cc)) (λ _ _.
    through P (refuse_some (denied_at h caller (policy_place ∷ [])) denial) _ (λ e refused p rule same. denies h caller (policy_place ∷ []) e p rule (tt, tt) refused same) (λ _ _.
    enters P header h (PolicySet (length (stored h))) (Policy caller text)))))).each p rule

abbrev pub IsDeniedLanding : List Entry → List ℕ → List ℕ → Id → Path → Option ℕ → Type 0
IsDeniedLanding h caller name draft p rule = (old : Id) × (f : Fork) × (head h name ≡ Some old) × (fork (known h) old draft ≡ Some f)
    × (text : List ℕ) × (policy_of h ≡ Some text) × IsLeastDenied (rules_in text) caller (touched_paths f.stack) p × (rule ≡ decide (rules_in text) caller p)

pub landing_denied : (header : Header) (h : List Entry) (caller name : List ℕ) (draft : Id) (moment : ℕ) (p : Path) (rule : Option ℕ) → judge header h (LandDraft caller name draft moment) ≡ Err (Denied p rule) → IsDeniedLanding h caller name draft p rule
landing_denied header h caller name draft moment p rule =
    let P = IsDeniedLanding h caller name draft in
    (through P (refuse_if (is_down h) Down) _ (λ e h p rule same. absurd (let s = no_if _ _ e h ∙ same in cc)) (λ _ _.
    through P (ok_or (head h name) NoBookmark) _ (λ e h p rule same. absurd (let s = no_or _ _ e h ∙ same in cc)) (λ old at.
    through P (refuse_if (not (is_known (known h) draft)) (NoChangeset draft)) _ (λ e h p rule same. absurd (let s = no_if _ _ e h ∙ same in cc)) (λ _ _.
    through P (ok_or (fork (known h) old draft) NoRoot) _ (λ e h p rule same. absurd (let s = no_or _ _ e h ∙ same in cc)) (λ f forked.
    through P (refuse_if (nat_lt most_range (length f.range)) (TooFarBehind (length f.range))) _ (λ e h p rule same. absurd (let s = no_if _ _ e h ∙ same in cc)) (λ _ _.
    through P (refuse_if (length f.stack == 0) AlreadyIn) _ (λ e h p rule same. absurd (let s = no_if _ _ e h ∙ same in cc)) (λ _ _.
    through P (refuse_if (nat_lt most_stack (length f.stack)) (StackTooLong (length f.stack))) _ (λ e h p rule same. absurd (let s = no_if _ _ e h ∙ same in cc)) (λ _ _.
    through P (refuse_some (option_map id_of (find is_merge f.stack)) MergeInStack) _ (λ e h p rule same. absurd (let n = no_some _ MergeInStack e h in let s = n.2 ∙ same in cc)) (λ _ _.
    through P (refuse_some (option_map id_of (find is_merge f.range)) MergeInRange) _ (λ e h p rule same. absurd (let n = no_some _ MergeInRange e h in let s = n.2 ∙ same in cc)) (λ _ _.
    through P (refuse_some (denied_at h caller (touched_paths f.stack)) denial) _
    (λ e refused p rule same. (let d = denies h caller (touched_paths f.stack) e p rule (touched_paths_rise f.stack) refused same in (old, f, was_some (head h name) NoBookmark old at, was_some (fork (known h) old draft) NoRoot f forked, d.0, d.1, d.2, d.3))) (λ _ _.
    through P (refuse_some (clash (touched_paths f.stack) (touched_paths f.range)) (λ pair. Clash pair.0 pair.1)) _ (λ e h p rule same. absurd (let n = no_some _ (λ (pair : Path × Path). Clash pair.0 pair.1) e h in let s = n.2 ∙ same in cc)) (λ _ _.
    let body : Body = Land (record { name = name; old = old; draft = draft; new = rewrite f.stack old moment; moment = moment_of f.stack moment; caller = told h caller }) in
    through P (refuse_if (nat_lt most_payload (payload_len body)) (TooLarge (payload_len body))) _ (λ e h p rule same. absurd (let s = no_if _ _ e h ∙ same in cc)) (λ _ _.
    through P (refuse_some (first_collision (known h) (rewrite f.stack old moment)) Collision) _ (λ e h p rule same. absurd (let n = no_some _ Collision e h in let s = n.2 ∙ same in cc)) (λ _ _.
    enters P header h (Landed old (map id_of (rewrite f.stack old moment))) body)))))))))))))).each p rule
