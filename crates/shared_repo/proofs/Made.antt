-- A change or a read makes one entry at most in its turn.
use Rattle.std.proofs.Common.{◌≡◌, ℕ, ◌+◌, arith, length, length-append, append-nil, List, [], ◌∷◌, ◌++◌, Bool, true, false, Option, None, Some, Result, Ok, Err, refl, sym, subst, ◌∙◌, ap, inl, inr, ⊎_elim}
use Rattle.std.specs.Prelude.{◌⊎◌, ◌≢◌, MatchBool, map, option_map, option_to_list}
use Rattle.std.proofs.lemmas.List.Elements.{filter-append}
use mathlib.Core.Bool.{true≢false}
use Rattle.history_model.specs.History.{Entry, Body, Fault, is_down, is_stored}
use Rattle.bookmark_lock.specs.Lasting.{entered}
use Rattle.reply_model.proofs.Stored.{granted_is_up}
use Rattle.history_model.specs.Journal.{Header}
use Rattle.byte_fields.specs.Bytes.{Id}
use Rattle.reply_model.specs.Reply as reply
use Rattle.reply_model.specs.Reply.{LandDraft, PutWhole, Question, HeadOf, ContentOf, ChangesetOf, LogFrom, FsnodeOf, UnodeOf, HistoryOf, CopiesOf, PathLogOf, DeletedOf, PolicyOf}
use Rattle.reply_model.specs.After as answers
use Rattle.reply_model.specs.After.{Asks, Joins, Looks, Derives, Call, Answer, Grants, Refuses, Shows, Lacks, Roots, ReadFault, BadBytes, NodeCollision, Memory, Answers, Made, Replies, nothing, only_fault, entries_of, entry_by}
use Rattle.repo_calls.specs.declared.calls.ChangeFault.{ChangeFault}
use Rattle.repo_calls.specs.declared.calls.ChangeFault.TheVariants as faults
use Rattle.repo_calls.specs.declared.refusal.Refusal.{Refusal}
use Rattle.repo_calls.specs.declared.refusal.Refusal.TheVariants as refusals
use Rattle.repo_calls.specs.Asking.{is_disk_fault, stored_answer}
use Rattle.repo_calls.specs.Calls.{granted_seen, refused}
use Rattle.repo_machine.specs.Plans.{RebasedLanding}
use Rattle.repo_state.specs.Exchanging.{Exchanges}
use Rattle.repo_state.specs.declared.exchanged.Exchanged.{Exchanged}
use Rattle.repo_state.specs.declared.exchanged.Exchanged.TheVariants.{Landed, HeadMoved, Refused}
use Rattle.shared_repo.specs.declared.turns.Placed.{Placed}
use Rattle.shared_repo.specs.Sealed.{placed_answer}

-- ---- refusals

refused_is : (r : Refusal) → ((x : reply.Refusal) × (refused r ≡ Refuses x)) ⊎ (refused r ≡ Memory)
refused_is refusals.Down = inl (_, refl)
refused_is (refusals.TooLong n) = inl (_, refl)
refused_is (refusals.BadEncoding at) = inl (_, refl)
refused_is (refusals.SelfConflict short long) = inl (_, refl)
refused_is (refusals.BadParts n) = inl (_, refl)
refused_is refusals.OldFormat = inl (_, refl)
refused_is (refusals.NoPiece id) = inl (_, refl)
refused_is (refusals.NotAPiece id) = inl (_, refl)
refused_is (refusals.NoParent id) = inl (_, refl)
refused_is (refusals.NoContent path id) = inl (_, refl)
refused_is (refusals.WrongSize path wanted found) = inl (_, refl)
refused_is (refusals.Unresolved path) = inl (_, refl)
refused_is (refusals.Collision id) = inl (_, refl)
refused_is (refusals.NoChangeset id) = inl (_, refl)
refused_is (refusals.Moved found) = inl (_, refl)
refused_is refusals.NoBookmark = inl (_, refl)
refused_is refusals.NoRoot = inl (_, refl)
refused_is (refusals.TooFarBehind distance) = inl (_, refl)
refused_is refusals.AlreadyIn = inl (_, refl)
refused_is (refusals.StackTooLong count) = inl (_, refl)
refused_is (refusals.MergeInStack id) = inl (_, refl)
refused_is (refusals.MergeInRange id) = inl (_, refl)
refused_is (refusals.Denied place rule) = inl (_, refl)
refused_is (refusals.Clash left right) = inl (_, refl)
refused_is (refusals.TooLarge n) = inl (_, refl)
refused_is (refusals.BadPolicy line) = inl (_, refl)
refused_is (refusals.Full size n) = inl (_, refl)
refused_is refusals.Memory = inr refl

-- a call of any kind that is refused, or for which no memory was there, makes nothing
refusal_made : (header : Header) (h : List Entry) (call : Call) (x : reply.Refusal) (made : Made) → Answers header h call (Refuses x) made → made ≡ nothing
refusal_made header h (Asks ask) x made a = a.0
refusal_made header h (Joins body) x made a = a.0
refusal_made header h (Looks question) x made a = absurd a
refusal_made header h (Derives id) x made a = absurd a

memory_made : (header : Header) (h : List Entry) (call : Call) (made : Made) → Answers header h call Memory made → made ≡ nothing
memory_made header h (Asks ask) made a = a
memory_made header h (Joins body) made a = a
memory_made header h (Looks question) made a = a
memory_made header h (Derives id) made a = a

refused_made : (header : Header) (h : List Entry) (call : Call) (r : Refusal) (made : Made) → Answers header h call (refused r) made → made ≡ nothing
refused_made header h call r made a = ⊎_elim
    (λ (t : (x : reply.Refusal) × (refused r ≡ Refuses x)). refusal_made header h call t.0 made (subst (λ (answer : Answer). Answers header h call answer made) t.1 a))
    (λ (m : refused r ≡ Memory). memory_made header h call made (subst (λ (answer : Answer). Answers header h call answer made) m a))
    (refused_is r)

-- what is granted met no fault in its turn
pub granted_calm : (header : Header) (h : List Entry) (call : Call) (granted : reply.Granted) (made : Made) → Answers header h call (Grants granted) made → made.fault ≡ None
granted_calm header h (Asks ask) granted made a = a.0
granted_calm header h (Joins body) granted made a = a.0
granted_calm header h (Looks question) granted made a = absurd a
granted_calm header h (Derives id) granted made a = absurd a

refusal_not_granted : (r : Refusal) (granted : reply.Granted) → refused r ≡ Grants granted → ⊥
refusal_not_granted r granted e = ⊎_elim (λ (t : (x : reply.Refusal) × (refused r ≡ Refuses x)). absurd (cc (t.1, e))) (λ (m : refused r ≡ Memory). absurd (cc (m, e))) (refused_is r)

pub not_granted : (fault : ChangeFault) (granted : reply.Granted) → stored_answer (Err fault) ≡ Grants granted → ⊥
not_granted (faults.Refused r) granted e = refusal_not_granted r granted e
not_granted faults.DiskFault granted e = absurd (cc e)
not_granted faults.ReadFault granted e = absurd (cc e)
not_granted (faults.BadBytes wanted found) granted e = absurd (cc e)

-- ---- what a turn makes

abbrev IsFew : ℕ → Made → Type 0
IsFew who made = (entries_of who made ≡ []) ⊎ ((e : Entry) × (e.who ≡ who) × (entries_of who made ≡ e ∷ []))

of_nothing : (who : ℕ) (made : Made) → made ≡ nothing → IsFew who made
of_nothing who made e = inl (ap (entries_of who) e)

of_body : (who : ℕ) (made : Made) (body : Option Body) → made ≡ record { entry = body; fault = None } → IsFew who made
of_body who made None e = inl (ap (entries_of who) e)
of_body who made (Some body) e = inr (record { who = who; body = body }, refl, ap (entries_of who) e)

granted_few : (who : ℕ) (made : Made) → made.fault ≡ None → IsFew who made
granted_few who made none = of_body who made made.entry (ap (λ f. record { entry = made.entry; fault = f }) none)

abbrev pub IsLook : Made → Type 0
IsLook made = (made ≡ nothing) ⊎ (made ≡ only_fault false)

pub looked : (header : Header) (h : List Entry) (q : Question) (answer : Answer) (made : Made) → Answers header h (Looks q) answer made → IsLook made
looked header h q (Grants g) made a = absurd a
looked header h q (Refuses r) made a = absurd a
looked header h q (Shows s) made a = inl a.0
looked header h q (Lacks b) made a = inl a.0
looked header h q (Roots f u d) made a = absurd a
looked header h q answers.DiskFault made a = absurd a
looked header h (HeadOf m) ReadFault made a = absurd a
looked header h (ContentOf c) ReadFault made a = inr a.0
looked header h (ChangesetOf c) ReadFault made a = absurd a
looked header h (LogFrom n) ReadFault made a = absurd a
looked header h (FsnodeOf c p) ReadFault made a = absurd a
looked header h (UnodeOf c p) ReadFault made a = absurd a
looked header h (HistoryOf c p) ReadFault made a = absurd a
looked header h (CopiesOf c) ReadFault made a = absurd a
looked header h (PathLogOf c p) ReadFault made a = absurd a
looked header h (DeletedOf c p) ReadFault made a = absurd a
looked header h (PolicyOf n) ReadFault made a = absurd a
looked header h (HeadOf m) (BadBytes w f) made a = absurd a
looked header h (ContentOf c) (BadBytes w f) made a = inl a.0
looked header h (ChangesetOf c) (BadBytes w f) made a = absurd a
looked header h (LogFrom n) (BadBytes w f) made a = absurd a
looked header h (FsnodeOf c p) (BadBytes w f) made a = absurd a
looked header h (UnodeOf c p) (BadBytes w f) made a = absurd a
looked header h (HistoryOf c p) (BadBytes w f) made a = absurd a
looked header h (CopiesOf c) (BadBytes w f) made a = absurd a
looked header h (PathLogOf c p) (BadBytes w f) made a = absurd a
looked header h (DeletedOf c p) (BadBytes w f) made a = absurd a
looked header h (PolicyOf n) (BadBytes w f) made a = absurd a
looked header h q (NodeCollision z) made a = inl a.0
looked header h q Memory made a = inl a

look_few : (who : ℕ) (made : Made) → IsLook made → IsFew who made
look_few who made (inl none) = of_nothing who made none
look_few who made (inr fault) = inr (record { who = who; body = Fault false }, refl, ap (entries_of who) fault)

-- contents that are to be joined are read as others are
unread : (header : Header) (h : List Entry) (call : Call) (made : Made) → Answers header h call ReadFault made → IsLook made
unread header h (Asks ask) made a = absurd a
unread header h (Joins body) made a = inr a.0
unread header h (Looks q) made a = looked header h q ReadFault made a
unread header h (Derives id) made a = absurd a

misread : (header : Header) (h : List Entry) (call : Call) (wanted found : Id) (made : Made) → Answers header h call (BadBytes wanted found) made → IsLook made
misread header h (Asks ask) wanted found made a = absurd a
misread header h (Joins body) wanted found made a = inl a.0
misread header h (Looks q) wanted found made a = looked header h q (BadBytes wanted found) made a
misread header h (Derives id) wanted found made a = absurd a

-- a change that isn't granted makes no more than a read does, where nothing was sealed
pub fault_made : (header : Header) (h : List Entry) (call : Call) (fault : ChangeFault) (made : Made) → is_disk_fault {T = Placed} (Err fault) ≡ false → Answers header h call (stored_answer (Err fault)) made → IsLook made
fault_made header h call (faults.Refused refusal) made up a = inl (refused_made header h call refusal made a)
fault_made header h call faults.DiskFault made up a = absurd (cc up)
fault_made header h call faults.ReadFault made up a = unread header h call made a
fault_made header h call (faults.BadBytes wanted found) made up a = misread header h call wanted found made a

changed : (header : Header) (h : List Entry) (who : ℕ) (call : Call) (entered : Result Placed ChangeFault) (made : Made) → is_disk_fault entered ≡ false → Answers header h call (placed_answer entered) made → IsFew who made
changed header h who call (Ok placed) made up a = granted_few who made (granted_calm header h call (granted_seen placed.granted) made a)
changed header h who call (Err fault) made up a = look_few who made (fault_made header h call fault made up a)

-- ---- what is stored once down

nothing_enters : (who : ℕ) (made : Made) → made.entry ≡ None → entered (entries_of who made) ≡ []
nothing_enters who made none = ap (λ (entry : Option Body). entered (map (entry_by who) (option_to_list entry ++ option_to_list (option_map Fault made.fault)))) none ∙ by made.fault
  where
    by : (fault : Option Bool) → entered (map (entry_by who) ([] ++ option_to_list (option_map Fault fault))) ≡ []
    by None = refl
    by (Some breaking) = refl

enters_none : (h new : List Entry) (who : ℕ) (made : Made) → new ≡ h ++ entries_of who made → made.entry ≡ None → entered new ≡ entered h
enters_none h new who made is none =
    ap entered is ∙ (filter-append (λ (x : Entry). is_stored x.body) h (entries_of who made) ∙ (ap (λ (l : List Entry). entered h ++ l) (nothing_enters who made none) ∙ append-nil (entered h)))

look_none : (made : Made) → IsLook made → made.entry ≡ None
look_none made (inl none) = ap (λ (m : Made). m.entry) none
look_none made (inr fault) = ap (λ (m : Made). m.entry) fault

-- what is granted was granted before it was down
granted_none : (header : Header) (h : List Entry) (call : Call) (granted : reply.Granted) (made : Made) → is_down h ≡ true → Answers header h call (Grants granted) made → made.entry ≡ None
granted_none header h (Asks ask) granted made down a = absurd (true≢false (sym down ∙ granted_is_up header h ask _ a.1))
granted_none header h (Joins body) granted made down a = absurd (true≢false (sym down ∙ granted_is_up header h (PutWhole body a.1) _ a.3))
granted_none header h (Looks question) granted made down a = absurd a
granted_none header h (Derives id) granted made down a = absurd a

changed_none : (header : Header) (h : List Entry) (call : Call) (result : Result Placed ChangeFault) (made : Made) → is_disk_fault result ≡ false → is_down h ≡ true → Answers header h call (placed_answer result) made → made.entry ≡ None
changed_none header h call (Ok placed) made up down a = granted_none header h call (granted_seen placed.granted) made down a
changed_none header h call (Err fault) made up down a = look_none made (fault_made header h call fault made up a)

pub change_ends : (header : Header) (h new : List Entry) (who : ℕ) (call : Call) (result : Result Placed ChangeFault) → is_disk_fault result ≡ false → Replies header h who call (placed_answer result) new → is_down h ≡ true → entered new ≡ entered h
change_ends header h new who call result up r down = enters_none h new who r.made r.new_is (changed_none header h call result r.made up down r.answers)

pub look_ends : (header : Header) (h new : List Entry) (who : ℕ) (q : Question) (answer : Answer) → Replies header h who (Looks q) answer new → entered new ≡ entered h
look_ends header h new who q answer r = enters_none h new who r.made r.new_is (look_none r.made (looked header h q answer r.made r.answers))

-- ---- what was added, by the lengths

adds : (who : ℕ) (h new : List Entry) (made : Made) → IsFew who made → new ≡ h ++ entries_of who made → (n m : ℕ) → n ≡ length new → m ≡ length h → (added : Bool) → MatchBool added (n ≢ m) (n ≡ m)
    → MatchBool added ((e : Entry) × (e.who ≡ who) × (new ≡ h ++ e ∷ [])) (new ≡ h)
adds who h new made (inl none) is n m new_is old_is true differ =
    let same : new ≡ h = is ∙ ap (λ es. h ++ es) none ∙ append-nil h in
    absurd (differ (new_is ∙ ap length same ∙ sym old_is))
adds who h new made (inl none) is n m new_is old_is false equal = is ∙ ap (λ es. h ++ es) none ∙ append-nil h
adds who h new made (inr some) is n m new_is old_is true differ = (some.0, some.1, is ∙ ap (λ es. h ++ es) some.2)
adds who h new made (inr some) is n m new_is old_is false equal =
    let longer : length new ≡ length h + 1 = ap length (is ∙ ap (λ es. h ++ es) some.2) ∙ length-append h (some.0 ∷ []) in
    absurd (omega arith)

pub change_adds : (header : Header) (h new : List Entry) (who : ℕ) (call : Call) (entered : Result Placed ChangeFault) → is_disk_fault entered ≡ false → Replies header h who call (placed_answer entered) new → (n m : ℕ) → n ≡ length new → m ≡ length h → (added : Bool) → MatchBool added (n ≢ m) (n ≡ m)
    → MatchBool added ((e : Entry) × (e.who ≡ who) × (new ≡ h ++ e ∷ [])) (new ≡ h)
change_adds header h new who call entered up r = adds who h new r.made (changed header h who call entered r.made up r.answers) r.new_is

pub look_adds : (header : Header) (h new : List Entry) (who : ℕ) (q : Question) (answer : Answer) → Replies header h who (Looks q) answer new → (n m : ℕ) → n ≡ length new → m ≡ length h → (added : Bool) → MatchBool added (n ≢ m) (n ≡ m)
    → MatchBool added ((e : Entry) × (e.who ≡ who) × (new ≡ h ++ e ∷ [])) (new ≡ h)
look_adds header h new who q answer r = adds who h new r.made (look_few who r.made (looked header h q answer r.made r.answers)) r.new_is

-- ---- landings

record Makes (who : ℕ) (h new : List Entry) : Type 0 where
  made : Made
  few_is : IsFew who made
  new_is : new ≡ h ++ entries_of who made

makes : (header : Header) (h new : List Entry) (who : ℕ) (r : RebasedLanding) (x : Exchanged) → Exchanges header h who r x new → Makes who h new
makes header h new who r (Landed landed) e =
    let told = e.1 in record { made = told.made; few_is = granted_few who told.made told.answers.0; new_is = told.new_is }
makes header h new who r (HeadMoved found) e = record { made = nothing; few_is = inl refl; new_is = e.3 ∙ sym (append-nil h) }
makes header h new who r (Refused refusal) e =
    let told = e.2 in record { made = told.made; few_is = of_nothing who told.made (refused_made header h (Asks (LandDraft r.caller r.name r.draft r.asked)) refusal told.made told.answers); new_is = told.new_is }

pub exchange_ends : (header : Header) (h new : List Entry) (who : ℕ) (r : RebasedLanding) (x : Exchanged) → Exchanges header h who r x new → is_down h ≡ true → entered new ≡ entered h
exchange_ends header h new who r (Landed landed) e down =
    let told = e.1 in enters_none h new who told.made told.new_is (granted_none header h (Asks (LandDraft r.caller r.name r.draft r.asked)) _ told.made down told.answers)
exchange_ends header h new who r (HeadMoved found) e down = ap entered e.3
exchange_ends header h new who r (Refused refusal) e down =
    let told = e.2 in
    enters_none h new who told.made told.new_is (ap (λ (m : Made). m.entry) (refused_made header h (Asks (LandDraft r.caller r.name r.draft r.asked)) refusal told.made told.answers))

pub exchange_adds : (header : Header) (h new : List Entry) (who : ℕ) (r : RebasedLanding) (x : Exchanged) → Exchanges header h who r x new → (n m : ℕ) → n ≡ length new → m ≡ length h → (added : Bool) → MatchBool added (n ≢ m) (n ≡ m)
    → MatchBool added ((e : Entry) × (e.who ≡ who) × (new ≡ h ++ e ∷ [])) (new ≡ h)
exchange_adds header h new who r x e = let m = makes header h new who r x e in adds who h new m.made m.few_is m.new_is
