-- The merges of a legal history stay resolved while it goes on.
use Rattle.std.proofs.Common.{◌≡◌, ℕ, true, List, [], ◌∷◌, ◌++◌, map, refl, sym, ap, subst, ◌∙◌}
use Rattle.std.specs.Prelude.{None, Contains, find, flat_map, not, bytes_eq}
use Rattle.std.specs.List.{AllByRecursion}
use Rattle.std.proofs.lemmas.List.{append_assoc, append-nil}
use Rattle.std.proofs.lemmas.Grind.{flat_map-append}
use Rattle.byte_fields.specs.Bytes.{Id}
use Rattle.byte_fields.proofs.Lists.{weaker, each_of, all_both, all_filter}
use Rattle.changeset_model.specs.Changeset.{Changeset, id_of}
use Rattle.history_model.specs.History.{Body, Content, Whole, Change, Book, Land, Policy, Fault, Landing, Entry, Known, with_id, each_id_once, changesets_in, known, is_known}
use Rattle.history_model.specs.Tree.{files_in, files_of}
use Rattle.history_model.specs.Merge.{unresolved}
use Rattle.history_model.specs.Pushrebase.{on_parent, rewrite}
use Rattle.history_model.specs.Journal.{Header}
use Rattle.reply_model.specs.Reply.{Ask, PutContent, PutWhole, PutChangeset, SetBookmark, LandDraft, SetPolicy, unresolved_of}
use Rattle.reply_model.specs.Legal.{MayFollow, GoesOn, IsLegal}
use Rattle.reply_model.proofs.Parents.{all_known}
use Rattle.reply_model.proofs.Lines.{known_grows, past_grows}
use Rattle.opening_laws.proofs.Made.{MadeBy, is_made}
use Rattle.opening_laws.proofs.Callers.{change_in, landing_in}

-- both parents are known, and their trees don't stand against one another
abbrev Resolved : List Entry → Changeset → List Id → Type 0
Resolved h c [] = Unit {0}
Resolved h c (p ∷ []) = Unit {0}
Resolved h c (p ∷ q ∷ ps) = (is_known (known h) p ≡ true) × (is_known (known h) q ≡ true) × (unresolved c (files_of (known h) p) (files_of (known h) q) ≡ None)

abbrev IsResolved : List Entry → Changeset → Type 0
IsResolved h c = Resolved h c c.parents

still : (h g : List Entry) (c : Changeset) (ps : List Id) → Resolved h c ps → Resolved (h ++ g) c ps
still h g c [] r = tt
still h g c (p ∷ []) r = tt
still h g c (p ∷ q ∷ ps) r = (
  known_grows h g p r.0,
  known_grows h g q r.1,
  (λ i. unresolved c (files_in (past_grows h g p r.0 i)) (files_in (past_grows h g q r.1 i))) ∙ r.2,
)

fresh : (h : List Entry) (c : Changeset) (ps : List Id) → find (λ p. not (is_known (known h) p)) ps ≡ None → unresolved_of (known h) c ps ≡ None → Resolved h c ps
fresh h c [] none e = tt
fresh h c (p ∷ []) none e = tt
fresh h c (p ∷ q ∷ ps) none e = let all = all_known (known h) (p ∷ q ∷ ps) none in (all.0, all.1.0, e)

-- ---- the changesets of the next entry

uploaded : (h : List Entry) (ask : Ask) (c : Changeset) → MadeBy h ask (Change c) → IsResolved h c
uploaded h (PutContent bytes) c m = absurd (let e = m.1 in cc)
uploaded h (PutWhole body pieces) c m = absurd (let e = m.3 in cc)
uploaded h (SetBookmark caller name from to) c m = absurd (let e = m.0 in cc)
uploaded h (LandDraft caller name draft moment) c m = absurd (let e = m.8 in cc)
uploaded h (SetPolicy caller text) c m = absurd (let e = m.0 in cc)
uploaded h (PutChangeset bytes) c m = subst (IsResolved h) (sym (ap (change_in c) m.3)) (fresh h m.0 m.0.parents m.4 m.2)

rewritten : (h : List Entry) (stack : List Changeset) (head : Id) (moment : ℕ) → AllByRecursion (IsResolved h) (rewrite stack head moment)
rewritten h [] head moment = tt
rewritten h (c ∷ cs) head moment = (tt, rewritten h cs (id_of (on_parent head moment c)) moment)

landed : (h : List Entry) (ask : Ask) (landing : Landing) → MadeBy h ask (Land landing) → AllByRecursion (IsResolved h) landing.new
landed h (PutContent bytes) landing m = absurd (let e = m.1 in cc)
landed h (PutWhole body pieces) landing m = absurd (let e = m.3 in cc)
landed h (PutChangeset bytes) landing m = absurd (let e = m.3 in cc)
landed h (SetBookmark caller name from to) landing m = absurd (let e = m.0 in cc)
landed h (SetPolicy caller text) landing m = absurd (let e = m.0 in cc)
landed h (LandDraft caller name draft moment) landing m =
    subst (AllByRecursion (IsResolved h)) (sym (ap (λ (l : Landing). l.new) (ap (landing_in landing) m.8))) (rewritten h m.1.stack m.0 moment)

next_resolved : (header : Header) (h : List Entry) (body : Body) → MayFollow header h body → AllByRecursion (IsResolved h) (changesets_in body)
next_resolved header h (Content x n) m = tt
next_resolved header h (Whole x n parts) m = tt
next_resolved header h (Change c) m = let made = is_made header h (Change c) refl m in (uploaded h made.ask c made.made, tt)
next_resolved header h (Book move) m = tt
next_resolved header h (Land landing) m = let made = is_made header h (Land landing) refl m in landed h made.ask landing made.made
next_resolved header h (Policy caller text) m = tt
next_resolved header h (Fault breaking) m = tt

-- ---- a whole history

abbrev brought : List Entry → List Changeset
brought h = flat_map (λ e. changesets_in e.body) h

resolved_push : (h : List Entry) (e : Entry) → AllByRecursion (IsResolved h) (brought h) → AllByRecursion (IsResolved h) (changesets_in e.body) → AllByRecursion (IsResolved (h ++ e ∷ [])) (brought (h ++ e ∷ []))
resolved_push h e old new =
    let P = IsResolved (h ++ e ∷ []) in
    let more = λ (c : Changeset) (r : IsResolved h c). still h (e ∷ []) c c.parents r in
    subst (AllByRecursion P) (sym (flat_map-append (λ e. changesets_in e.body) h (e ∷ [])))
    (all_both P (brought h) (changesets_in e.body ++ []) (weaker (IsResolved h) P more (brought h) old)
    (subst (AllByRecursion P) (sym (append-nil (changesets_in e.body))) (weaker (IsResolved h) P more (changesets_in e.body) new)))

resolved_from : (header : Header) (before later : List Entry) → AllByRecursion (IsResolved before) (brought before) → GoesOn header before later → AllByRecursion (IsResolved (before ++ later)) (brought (before ++ later))
resolved_from header before [] all goes = subst (λ h. AllByRecursion (IsResolved h) (brought h)) (sym (append-nil before)) all
resolved_from header before (e ∷ later) all goes =
    subst (λ h. AllByRecursion (IsResolved h) (brought h)) (append_assoc before (e ∷ []) later)
    (resolved_from header (before ++ e ∷ []) later (resolved_push before e all (next_resolved header before e.body goes.0)) goes.1)

with_ids : (P : Changeset → Type 0) (cs : List Changeset) → AllByRecursion P cs → AllByRecursion (λ (k : Known). P k.changeset) (map with_id cs)
with_ids P [] all = tt
with_ids P (c ∷ cs) all = (all.0, with_ids P cs all.1)

once : (P : Known → Type 0) (ks : List Known) → AllByRecursion P ks → AllByRecursion P (each_id_once ks)
once P [] all = tt
once P (k ∷ ks) all = (all.0, all_filter P (λ later. not (bytes_eq k.id later.id)) (each_id_once ks) (once P ks all.1))

resolved_of : (h : List Entry) (c : Changeset) (ps : List Id) → Resolved h c ps → unresolved_of (known h) c ps ≡ None
resolved_of h c [] r = refl
resolved_of h c (p ∷ []) r = refl
resolved_of h c (p ∷ q ∷ ps) r = r.2

pub known_resolved : (header : Header) (h : List Entry) (k : Known) → IsLegal header h → Contains (known h) k → unresolved_of (known h) k.changeset k.changeset.parents ≡ None
known_resolved header h k legal at =
    let P : Known → Type 0 = λ k. IsResolved h k.changeset in
    resolved_of h k.changeset k.changeset.parents (each_of P (known h) k (once P (map with_id (brought h)) (with_ids (IsResolved h) (brought h) (resolved_from header [] h tt legal))) at)
