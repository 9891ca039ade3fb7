-- What one entry more makes of the heads, the lengths of contents and the known changesets.
use Rattle.std.proofs.Common.{◌≡◌, ℕ, Bool, true, false, cond, not, List, [], ◌∷◌, ◌++◌, refl, sym, ap, ◌∙◌}
use Rattle.std.specs.Prelude.{Option, None, Some, is_some, option_map, bytes_eq}
use Rattle.std.specs.Option.{option_or, option_flatten}
use Rattle.std.proofs.lemmas.Slice.Eq.{bytes_eq-Decides}
use Rattle.std.proofs.lemmas.List.{append-nil}
use Rattle.std.specs.Cmp.{nat_eq_equiv}
use Rattle.std.specs.Cmp.Lexicographic.{lists_equiv}
use Rattle.std.specs.Ordering.{is_eq, nat_cmp}
use Rattle.std.specs.Cmp.Lexicographic.{slice_cmp}
use Rattle.std.proofs.lemmas.Map.Text.{is_eq-slice_cmp}
use Rattle.byte_fields.specs.Bytes.{Id, last_of, last_some}
use Rattle.byte_fields.proofs.Lists.{first_some-append, option_or-None}
use Rattle.changeset_model.specs.Changeset.{Changeset, id_of}
use Rattle.history_model.specs.History.{Body, Content, Whole, Change, Book, Land, Policy, Move, Landing, Entry, with_id, known, is_known, content_len, length_in, policy_of, policy_text}
use Rattle.history_model.specs.Bookmark.{moved_to, head}
use Rattle.reply_model.specs.After.{entry_by}
use Rattle.reply_model.proofs.Parents.{brought}
use Rattle.reply_model.proofs.Lines.{known-append}
use Rattle.changeset_store.proofs.Numbering.{not_some}
use Rattle.changeset_store.proofs.KnownOnce.{is_known-once}
use Rattle.reply_model.proofs.Parents.{last_some-push}

-- ---- the policy

pub policy-push : (h : List Entry) (who : ℕ) (body : Body) → policy_of (h ++ entry_by who body ∷ []) ≡ option_or (policy_text body) (policy_of h)
policy-push h who body = last_some-push (λ e. policy_text e.body) h (entry_by who body)

-- ---- heads

pub head-push : (h : List Entry) (who : ℕ) (body : Body) (name : List ℕ) → head (h ++ entry_by who body ∷ []) name ≡ option_flatten (option_or (moved_to name body) (last_some (λ e. moved_to name e.body) h))
head-push h who body name = ap option_flatten (last_some-push (λ e. moved_to name e.body) h (entry_by who body))

moves_by : (b : Bool) (to : Option Id) (rest : Option (Option Id)) → option_flatten (option_or (cond b (Some to) None) rest) ≡ cond b to (option_flatten rest)
moves_by true to rest = refl
moves_by false to rest = refl

pub head-move : (h : List Entry) (who : ℕ) (move : Move) (name : List ℕ) → head (h ++ entry_by who (Book move) ∷ []) name ≡ cond (bytes_eq name move.name) move.to (head h name)
head-move h who move name = head-push h who (Book move) name ∙ moves_by (bytes_eq name move.name) move.to (last_some (λ e. moved_to name e.body) h)

pub head-land : (h : List Entry) (who : ℕ) (landing : Landing) (name : List ℕ) → head (h ++ entry_by who (Land landing) ∷ []) name ≡ cond (bytes_eq name landing.name) (option_map id_of (last_of landing.new)) (head h name)
head-land h who landing name = head-push h who (Land landing) name ∙ moves_by (bytes_eq name landing.name) (option_map id_of (last_of landing.new)) (last_some (λ e. moved_to name e.body) h)

pub bytes_eq-symm : (x y : List ℕ) → bytes_eq x y ≡ bytes_eq y x
bytes_eq-symm x y = (lists_equiv nat_eq_equiv).symm x y

head_by : (b : Bool) (to : Option Id) (before : Option (Option Id)) → option_flatten (cond b (Some to) before) ≡ cond b to (option_flatten before)
head_by true to before = refl
head_by false to before = refl

-- the heads of an ordered map, with one of them set
pub heads_set : (before after : List ℕ → Option (Option Id)) (h : List Entry) (name : List ℕ) (to : Option Id) → ((q : List ℕ) → option_flatten (before q) ≡ head h q) → ((q : List ℕ) → after q ≡ cond (is_eq (slice_cmp nat_cmp name q)) (Some to) (before q)) → (q : List ℕ) → option_flatten (after q) ≡ cond (bytes_eq q name) to (head h q)
heads_set before after h name to are sets q =
    ap option_flatten (sets q) ∙ head_by (is_eq (slice_cmp nat_cmp name q)) to (before q)
    ∙ (λ i. cond ((is_eq-slice_cmp name q ∙ bytes_eq-symm name q) i) to (are q i))

placed_by : (b : Bool) (before : Option (Option Id)) → (b ≡ true → before ≡ None) → option_flatten (cond b (Some None) before) ≡ option_flatten before
placed_by true before none = sym (ap option_flatten (none refl))
placed_by false before none = refl

-- a name that has no place gets one without a head
pub heads_placed : (before after : List ℕ → Option (Option Id)) (name : List ℕ) → before name ≡ None → ((q : List ℕ) → after q ≡ cond (is_eq (slice_cmp nat_cmp name q)) (Some None) (before q)) → (q : List ℕ) → option_flatten (after q) ≡ option_flatten (before q)
heads_placed before after name none sets q =
    ap option_flatten (sets q)
    ∙ placed_by (is_eq (slice_cmp nat_cmp name q)) (before q) (λ e. ap before (sym ((bytes_eq-Decides name q).0 (sym (is_eq-slice_cmp name q) ∙ e))) ∙ none)

-- ---- contents

pub content_len-push : (h : List Entry) (who : ℕ) (body : Body) (y : Id) → content_len (h ++ entry_by who body ∷ []) y ≡ option_or (content_len h y) (length_in y body)
content_len-push h who body y = first_some-append (λ e. length_in y e.body) h (entry_by who body ∷ []) ∙ ap (option_or (content_len h y)) (option_or-None (length_in y body))

-- the length that a content has, with one more
pub content_len-content : (h : List Entry) (who : ℕ) (x : Id) (n : ℕ) (y : Id) → content_len h x ≡ None → content_len (h ++ entry_by who (Content x n) ∷ []) y ≡ cond (bytes_eq x y) (Some n) (content_len h y)
content_len-content h who x n y none = content_len-push h who (Content x n) y ∙ by (bytes_eq x y) refl
  where
    symm : bytes_eq y x ≡ bytes_eq x y
    symm = bytes_eq-symm y x

    by : (b : Bool) → bytes_eq x y ≡ b → option_or (content_len h y) (cond (bytes_eq y x) (Some n) None) ≡ cond b (Some n) (content_len h y)
    by true e =
        let same : x ≡ y = (bytes_eq-Decides x y).0 e in
        (λ i. option_or (content_len h (sym same i)) (cond (symm i) (Some n) None)) ∙ (λ i. option_or (none i) (cond (e i) (Some n) None))
    by false e = (λ i. option_or (content_len h y) (cond (symm i) (Some n) None)) ∙ (λ i. option_or (content_len h y) (cond (e i) (Some n) None)) ∙ option_or-None (content_len h y)

pub content_len-whole : (h : List Entry) (who : ℕ) (x : Id) (n : ℕ) (parts : List Id) (y : Id) → content_len h x ≡ None → content_len (h ++ entry_by who (Whole x n parts) ∷ []) y ≡ cond (bytes_eq x y) (Some n) (content_len h y)
content_len-whole h who x n parts y none = content_len-push h who (Whole x n parts) y ∙ sym (content_len-push h who (Content x n) y) ∙ content_len-content h who x n y none

-- ---- known changesets

pub known-content : (h : List Entry) (who : ℕ) (x : Id) (n : ℕ) → known (h ++ entry_by who (Content x n) ∷ []) ≡ known h
known-content h who x n = known-append h (entry_by who (Content x n) ∷ []) ∙ append-nil (known h)

pub known-whole : (h : List Entry) (who : ℕ) (x : Id) (n : ℕ) (parts : List Id) → known (h ++ entry_by who (Whole x n parts) ∷ []) ≡ known h
known-whole h who x n parts = known-append h (entry_by who (Whole x n parts) ∷ []) ∙ append-nil (known h)

pub known-policy : (h : List Entry) (who : ℕ) (caller text : List ℕ) → known (h ++ entry_by who (Policy caller text) ∷ []) ≡ known h
known-policy h who caller text = known-append h (entry_by who (Policy caller text) ∷ []) ∙ append-nil (known h)

pub known-move : (h : List Entry) (who : ℕ) (move : Move) → known (h ++ entry_by who (Book move) ∷ []) ≡ known h
known-move h who move = known-append h (entry_by who (Book move) ∷ []) ∙ append-nil (known h)

pub known-change : (h : List Entry) (who : ℕ) (c : Changeset) → is_known (known h) (id_of c) ≡ false → known (h ++ entry_by who (Change c) ∷ []) ≡ known h ++ with_id c ∷ []
known-change h who c new =
    known-append h (entry_by who (Change c) ∷ [])
    ∙ ap (λ b. known h ++ cond (not b) (with_id c ∷ []) []) (sym (is_known-once (brought h) (id_of c)) ∙ new)

-- ---- a name with a place

pub is_put : (before after : List ℕ → Option (Option Id)) (key name : List ℕ) (to : Option Id) → key ≡ name → ((q : List ℕ) → after q ≡ cond (is_eq (slice_cmp nat_cmp key q)) (Some to) (before q)) → is_some (after name) ≡ true
is_put before after key name to same sets =
    ap is_some (sets name) ∙ ap (λ b. is_some (cond b (Some to) (before name))) (is_eq-slice_cmp key name ∙ (bytes_eq-Decides key name).1 same)

pub none_put : (before after : List ℕ → Option (Option Id)) (key name : List ℕ) → key ≡ name → is_some (before name) ≡ false → ((q : List ℕ) → after q ≡ cond (is_eq (slice_cmp nat_cmp key q)) (Some None) (before q)) → (q : List ℕ) → option_flatten (after q) ≡ option_flatten (before q)
none_put before after key name same none sets = heads_placed before after key (ap before same ∙ not_some (before name) none) sets
