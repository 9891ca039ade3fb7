-- Which entries a file stands for: one more, and a fault more, which isn't stored.
use Rattle.std.proofs.Common.{◌≡◌, ℕ, suc, ◌+◌, ◌≤◌, Bool, true, false, List, [], ◌∷◌, ◌++◌, length, map, refl, sym, ap, subst, ◌∙◌, arith}
use Rattle.std.specs.Prelude.{sum_by, ◌||◌, not, filter, cond}
use Rattle.std.proofs.lemmas.List.{append-nil, length-append}
use Rattle.std.proofs.lemmas.List.Elements.{filter-append}
use Rattle.std.proofs.lemmas.List.Sums.{sum_by-append, sum_by-cons}
use Rattle.history_model.specs.History.{Body, Content, Fault, Entry, bodies, stored, unnumbered, is_breaking, is_down, is_stored}
use Rattle.std.specs.List.{AllByRecursion}
use Rattle.history_model.specs.Journal.{Header, HoldsParts, HoldsRecords, Stands, record_len, size}
use Rattle.reply_model.proofs.Histories.{bodies-append}
use Rattle.repo_state.specs.State.{HasNoFault, faults_in, unseated}

-- ---- what is stored

pub bodies-fault : (h : List Entry) (who : ℕ) (breaking : Bool) → bodies (h ++ record { who = who; body = Fault breaking } ∷ []) ≡ bodies h
bodies-fault h who breaking = bodies-append h (record { who = who; body = Fault breaking } ∷ []) ∙ append-nil (bodies h)

pub size-same : (h g : List Entry) → bodies h ≡ bodies g → size h ≡ size g
size-same h g e = ap (λ bs. 17 + sum_by record_len bs) e

pub stands-same : (header : Header) (image : List ℕ) (h g : List Entry) → bodies h ≡ bodies g → Stands header image h → Stands header image g
stands-same header image h g e stands = (stands.0, stands.1, stands.2, subst (λ bs. HoldsRecords bs stands.1) e stands.3, subst (λ bs. AllByRecursion (HoldsParts image bs) bs) e stands.4)

-- ---- whether it is down, and its faults

faults-append : (h : List Entry) (e : Entry) → faults_in (h ++ e ∷ []) ≡ faults_in h + length (filter (λ (e : Entry). not (is_stored e.body)) (e ∷ []))
faults-append h e =
    ap (λ (es : List Entry). length es) (filter-append (λ (e : Entry). not (is_stored e.body)) h (e ∷ []))
    ∙ length-append (filter (λ (e : Entry). not (is_stored e.body)) h) (filter (λ (e : Entry). not (is_stored e.body)) (e ∷ []))

pub faults-stored : (h : List Entry) (e : Entry) → is_stored e.body ≡ true → faults_in (h ++ e ∷ []) ≡ faults_in h
faults-stored h e s =
    let more : length (filter (λ (e : Entry). not (is_stored e.body)) (e ∷ [])) ≡ 0 = ap (λ b. length (cond (not b) (e ∷ []) [])) s in
    let whole = faults-append h e in
    omega arith

pub faults-fault : (h : List Entry) (who : ℕ) (breaking : Bool) → faults_in (h ++ record { who = who; body = Fault breaking } ∷ []) ≡ faults_in h + 1
faults-fault h who breaking = faults-append h (record { who = who; body = Fault breaking })

pub no_fault-push : (h : List Entry) (e : Entry) → HasNoFault h → is_stored e.body ≡ true → HasNoFault (h ++ e ∷ [])
no_fault-push [] e all s = (s, tt)
no_fault-push (d ∷ h) e all s = (all.0, no_fault-push h e all.1 s)

-- ---- lengths of files

pub size-split : (before later : List Entry) (who : ℕ) (x : List ℕ) (n : ℕ) → size before + 6 + n ≤ size (before ++ record { who = who; body = Content x n } ∷ later)
size-split before later who x n =
    let whole = ap (λ bs. 17 + sum_by record_len bs) (bodies-append before (record { who = who; body = Content x n } ∷ later)) in
    let parts = sum_by-append record_len (bodies before) (Content x n ∷ bodies later) in
    let first = sum_by-cons record_len (Content x n) (bodies later) in
    let some : 0 ≤ sum_by record_len (bodies later) = omega arith in
    omega arith

-- ---- entries without their seats

pub bodies-cleared : (h : List Entry) → bodies (map unseated h) ≡ bodies h
bodies-cleared [] = refl
bodies-cleared (e ∷ h) = ap (λ bs. cond (is_stored e.body) (e.body ∷ bs) bs) (bodies-cleared h)

pub is_down-cleared : (h : List Entry) → is_down (map unseated h) ≡ is_down h
is_down-cleared [] = refl
is_down-cleared (e ∷ h) = ap (λ b. is_breaking e.body || b) (is_down-cleared h)

same_count : (d e : Entry) (b : Bool) (h g : List Entry) → length h ≡ length g → length (cond b (d ∷ h) h) ≡ length (cond b (e ∷ g) g)
same_count d e true h g same = ap (λ n. suc n) same
same_count d e false h g same = same

pub faults-cleared : (h : List Entry) → faults_in (map unseated h) ≡ faults_in h
faults-cleared [] = refl
faults-cleared (e ∷ h) = same_count (unseated e) e (not (is_stored e.body)) (filter (λ (e : Entry). not (is_stored e.body)) (map unseated h)) (filter (λ (e : Entry). not (is_stored e.body)) h) (faults-cleared h)

pub no_fault-cleared : (h : List Entry) → HasNoFault h → HasNoFault (map unseated h)
no_fault-cleared [] all = tt
no_fault-cleared (e ∷ h) all = (all.0, no_fault-cleared h all.1)

-- ---- entries that are stored alone

no_fault-body : (b : Body) (bs : List Body) (s : Bool) → is_stored b ≡ s → HasNoFault (map unnumbered bs) → HasNoFault (map unnumbered (cond s (b ∷ bs) bs))
no_fault-body b bs true e later = (e, later)
no_fault-body b bs false e later = later

no_fault-bodies : (bs : List Body) → HasNoFault (map unnumbered (filter is_stored bs))
no_fault-bodies [] = tt
no_fault-bodies (b ∷ bs) = no_fault-body b (filter is_stored bs) (is_stored b) refl (no_fault-bodies bs)

pub no_fault-stored : (h : List Entry) → h ≡ stored h → HasNoFault h
no_fault-stored h e = subst (λ g. HasNoFault g) (sym e) (no_fault-bodies (map (λ (e : Entry). e.body) h))

pub no_faults : (h : List Entry) → HasNoFault h → faults_in h ≡ 0
no_faults [] all = refl
no_faults (e ∷ h) all = ap (λ b. length (cond (not b) (e ∷ filter (λ (e : Entry). not (is_stored e.body)) h) (filter (λ (e : Entry). not (is_stored e.body)) h))) all.0 ∙ no_faults h all.1
