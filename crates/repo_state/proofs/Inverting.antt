-- What is so where a landing is granted.
use Rattle.std.proofs.Common.{◌≡◌, ℕ, ◌<◌, ◌≤◌, not, List, map, length, refl, ap, arith}
use Rattle.std.specs.Prelude.{Option, None, Some, option_map, find, Result, Ok, Err, nat_lt, ok_or, ◌==◌}
use Rattle.std.proofs.lemmas.Bool.{eqb-false}
use Rattle.byte_fields.specs.Bytes.{Id}
use Rattle.changeset_model.specs.Changeset.{Changeset, id_of, touched_paths}
use Rattle.history_model.specs.History as model
use Rattle.history_model.specs.History.{Entry, Land, is_down, known, is_known}
use Rattle.history_model.specs.Bookmark.{head}
use Rattle.history_model.specs.Pushrebase.{Fork, fork, clash, rewrite, moment_of}
use Rattle.history_model.specs.Journal.{Header, payload_len, most_payload, size, is_full}
use Rattle.reply_model.specs.Reply.{LandDraft, Refusal, Down, Full, Collision, NoChangeset, NoBookmark, NoRoot, TooFarBehind, AlreadyIn, StackTooLong, MergeInStack, MergeInRange, is_merge, told, denial, denied_at, Clash, TooLarge, Granted, Landed, Judged, ◌>>=◌, refuse_if, refuse_some, entered, first_collision, most_range, most_stack, land, judge}
use Rattle.opening_laws.proofs.Made.{at_most, not_refused}
use Rattle.reply_model.proofs.Parents.{none_refused as was_none, was_some}

abbrev pub SaidOf : (Judged → Type 0) → Result Judged Refusal → Type 0
SaidOf P (Ok judged) = P judged
SaidOf P (Err refusal) = Unit {0}

record Says (P : Judged → Type 0) (r : Result Judged Refusal) : Type 0 where
  said : SaidOf P r

through : {A : Type 0} (P : Judged → Type 0) (r : Result A Refusal) (f : A → Result Judged Refusal) → ((x : A) → r ≡ Ok x → Says P (f x)) → Says P (r >>= f)
through P (Ok x) f all = all x refl
through P (Err e) f all = record { said = tt }

is_some : (n : ℕ) (e : Refusal) (u : Unit {0}) → refuse_if (n == 0) e ≡ Ok u → 0 < n
is_some n e u h = let apart : n ≡ 0 → ⊥ = eqb-false n 0 (not_refused (n == 0) e u h) in omega (arith, apart)

none_mapped : (o : Option Changeset) → option_map id_of o ≡ None → o ≡ None
none_mapped None e = refl
none_mapped (Some c) e = absurd cc

abbrev pub landing_of : List Entry → List ℕ → List ℕ → Id → Id → ℕ → Fork → model.Landing
landing_of h caller name old draft moment f = record { name = name; old = old; draft = draft; new = rewrite f.stack old moment; moment = moment_of f.stack moment; caller = told h caller }

abbrev pub granted_of : model.Landing → Granted
granted_of l = Landed l.old (map id_of l.new)

pub record IsGranted (header : Header) (h : List Entry) (caller name : List ℕ) (draft : Id) (moment : ℕ) (judged : Judged) : Type 0 where
  pub old : Id
  pub fork_is : Fork
  pub head_is : head h name ≡ Some old
  pub forks : fork (known h) old draft ≡ Some fork_is
  pub some : 0 < length fork_is.stack
  pub few : length fork_is.stack ≤ most_stack
  pub allowed : denied_at h caller (touched_paths fork_is.stack) ≡ None
  pub range_in_line : find is_merge fork_is.range ≡ None
  pub apart : clash (touched_paths fork_is.stack) (touched_paths fork_is.range) ≡ None
  pub alone : first_collision (known h) (rewrite fork_is.stack old moment) ≡ None
  pub judged_is : judged ≡ record { granted = granted_of (landing_of h caller name old draft moment fork_is); made = Some (Land (landing_of h caller name old draft moment fork_is)) }
  pub is_entered : entered header h (granted_of (landing_of h caller name old draft moment fork_is)) (Land (landing_of h caller name old draft moment fork_is)) ≡ Ok judged

land_says : (header : Header) (h : List Entry) (caller name : List ℕ) (draft : Id) (moment : ℕ) → Says (IsGranted header h caller name draft moment) (land header h caller name draft moment)
land_says header h caller name draft moment =
    let P = IsGranted header h caller name draft moment in
    through P (ok_or (head h name) NoBookmark) _ (λ old a.
    through P (refuse_if (not (is_known (known h) draft)) (NoChangeset draft)) _ (λ _ _.
    through P (ok_or (fork (known h) old draft) NoRoot) _ (λ f b.
    through P (refuse_if (nat_lt most_range (length f.range)) (TooFarBehind (length f.range))) _ (λ _ _.
    through P (refuse_if (length f.stack == 0) AlreadyIn) _ (λ u c.
    through P (refuse_if (nat_lt most_stack (length f.stack)) (StackTooLong (length f.stack))) _ (λ v d.
    through P (refuse_some (option_map id_of (find is_merge f.stack)) MergeInStack) _ (λ _ _.
    through P (refuse_some (option_map id_of (find is_merge f.range)) MergeInRange) _ (λ z m.
    through P (refuse_some (denied_at h caller (touched_paths f.stack)) denial) _ (λ y k.
    through P (refuse_some (clash (touched_paths f.stack) (touched_paths f.range)) (λ pair. Clash pair.0 pair.1)) _ (λ w e.
    let l = landing_of h caller name old draft moment f in
    through P (refuse_if (nat_lt most_payload (payload_len (Land l))) (TooLarge (payload_len (Land l)))) _ (λ _ _.
    through P (refuse_some (first_collision (known h) (rewrite f.stack old moment)) Collision) _ (λ x g.
    through P (refuse_if (is_full header h (payload_len (Land l))) (Full (size h) (payload_len (Land l)))) (λ _. Ok (record { granted = granted_of l; made = Some (Land l) })) (λ _ i.
    record {
      said = record {
        old = old;
        fork_is = f;
        head_is = was_some (head h name) NoBookmark old a;
        forks = was_some (fork (known h) old draft) NoRoot f b;
        some = is_some (length f.stack) AlreadyIn u c;
        few = at_most most_stack (length f.stack) (StackTooLong (length f.stack)) v d;
        allowed = was_none (denied_at h caller (touched_paths f.stack)) denial y k;
        range_in_line = none_mapped (find is_merge f.range) (was_none (option_map id_of (find is_merge f.range)) MergeInRange z m);
        apart = was_none (clash (touched_paths f.stack) (touched_paths f.range)) (λ pair. Clash pair.0 pair.1) w e;
        alone = was_none (first_collision (known h) (rewrite f.stack old moment)) Collision x g;
        judged_is = refl;
        is_entered = ap (λ r. r >>= λ _. Ok (record { granted = granted_of l; made = Some (Land l) })) i;
      };
    })))))))))))))

pub judge_says : (header : Header) (h : List Entry) (caller name : List ℕ) (draft : Id) (moment : ℕ) → SaidOf (IsGranted header h caller name draft moment) (judge header h (LandDraft caller name draft moment))
judge_says header h caller name draft moment = (through (IsGranted header h caller name draft moment) (refuse_if (is_down h) Down) _ (λ _ _. land_says header h caller name draft moment)).said
