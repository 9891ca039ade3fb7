-- What is judged of an upload, by its checks.
use Rattle.std.proofs.Common.{◌≡◌, ℕ, ◌≤◌, Bool, true, false, cond, not, inl, inr, List, [], ◌∷◌, length, refl, sym, ap, subst, ◌∙◌}
use Rattle.std.specs.Prelude.{Option, None, Some, Result, Ok, Err, find, option_map, filter_map}
use Rattle.std.specs.List.{AllByRecursion}
use Rattle.std.specs.Option.{option_or}
use Rattle.byte_fields.specs.Bytes.{Id, first_some, IsBytes}
use Rattle.changeset_model.specs.Path.{Path}
use Rattle.changeset_model.specs.Changeset.{Changeset, FileChange, Set, Delete, id_of, sets_of, file_of, spelling, most_encoded}
use Rattle.changeset_model.specs.Decoding.{decoded}
use Rattle.changeset_model.specs.Decoding as decoding
use Rattle.changeset_model.proofs.Accepting.{accepted_exactly}
use Rattle.history_model.specs.History.{Change, Entry, Known, is_down, known, is_known, content_len}
use Rattle.history_model.specs.Journal.{Header}
use Rattle.history_model.specs.Repository.{Repository}
use Rattle.bonsai.specs.declared.decode_fault.DecodeFault.{DecodeFault}
use Rattle.bonsai.specs.declared.decode_fault.DecodeFault.TheVariants as faults
use Rattle.bonsai.specs.Decodes.{Refuses}
use Rattle.reply_model.specs.Reply.{Ask, PutChangeset, ChangesetPut, Refusal, Judged, NoParent, Unresolved, unresolved_of, Collision, TooLong, BadEncoding, SelfConflict, judge, entered, unchanged, accepted, refuse_if, refuse_some, content_refusal, collides, ◌>>=◌}
use Rattle.repo_calls.specs.declared.refusal.Refusal as refusal
use Rattle.repo_calls.specs.declared.refusal.Refusal.TheVariants as refusals
use Rattle.repo_calls.specs.Refusing.{IsRefusal}
use Rattle.repo_machine.specs.Faults.{fault_refusal}
use Rattle.repo_machine.specs.Indexes.{AreIndexes}
use Rattle.repo_machine.specs.Found.{IsLeft}
use Rattle.repo_machine.specs.Checking.{IsFound, parents_refusal, edit_refusal, contents_refusal, collision_refusal}
use Rattle.repo_machine.proofs.Judging.{judged_up}
use Rattle.reply_model.proofs.Parents.{all_known as none_unknown}

-- ---- a fault of the bytes

pub fault_refused : (header : Header) (h : List Entry) (bytes : List ℕ) (up : is_down h ≡ false) (fault : decoding.DecodeFault) → decoded bytes ≡ Err fault → judge header h (PutChangeset bytes) ≡ Err (Rattle.reply_model.specs.Reply.upload_refusal fault)
fault_refused header h bytes up fault e =
    judged_up header h (PutChangeset bytes) up
    ∙ ap (λ d. accepted d >>= λ c.
    refuse_some (find (λ p. not (is_known (known h) p)) c.parents) NoParent >>= λ _.
    refuse_some (first_some (λ e. content_refusal e (content_len h e.1.content)) (sets_of c)) (λ refusal. refusal) >>= λ _.
    refuse_some (unresolved_of (known h) c c.parents) Unresolved >>= λ _.
    refuse_if (collides (known h) c) (Collision (id_of c)) >>= λ _.
    cond (is_known (known h) (id_of c)) (unchanged (ChangesetPut (id_of c))) (entered header h (ChangesetPut (id_of c)) (Change c))) e

pub fault_judged : (header : Header) (h : List Entry) (bytes : List ℕ) → is_down h ≡ false → (fault : DecodeFault) → Refuses fault (decoded bytes) → IsRefusal (judge header h (PutChangeset bytes)) (fault_refusal fault)
fault_judged header h bytes up (faults.TooLong n) e = inr (TooLong n, fault_refused header h bytes up (decoding.TooLong n) e, refl)
fault_judged header h bytes up (faults.BadEncoding at) e = inr (BadEncoding at, fault_refused header h bytes up (decoding.BadEncoding at) e, refl)
fault_judged header h bytes up (faults.SelfConflict short long) e = inr (SelfConflict short long, fault_refused header h bytes up (decoding.SelfConflict short long) e, refl)
fault_judged header h bytes up faults.Memory e = inl refl

-- what a check finds is the refusal
pub found_refusal : (header : Header) (h : List Entry) (ask : Ask) (e : refusal.Refusal) (found : Option Refusal) → IsFound e found → ((r : Refusal) → found ≡ Some r → judge header h ask ≡ Err r) → IsRefusal (judge header h ask) e
found_refusal header h ask e found (inl memory) judged = inl memory
found_refusal header h ask e found (inr (r, some, same)) judged = inr (r, judged r some, same)

-- ---- the contents, edit by edit

sets_by : (lengths : Id → Option ℕ) (p : Path) (c : FileChange) (es : List (Path × FileChange)) → first_some (λ e. content_refusal e (lengths e.1.content)) (filter_map (λ e. option_map (λ f. (e.0, f)) (file_of e.1)) es) ≡ contents_refusal lengths es → first_some (λ e. content_refusal e (lengths e.1.content)) (filter_map (λ e. option_map (λ f. (e.0, f)) (file_of e.1)) ((p, c) ∷ es)) ≡ option_or (edit_refusal lengths (p, c)) (contents_refusal lengths es)
sets_by lengths p (Set f copied) es ih = ap (option_or (content_refusal (p, f) (lengths f.content))) ih
sets_by lengths p Delete es ih = ih

sets_refusal : (lengths : Id → Option ℕ) (es : List (Path × FileChange)) → first_some (λ e. content_refusal e (lengths e.1.content)) (filter_map (λ e. option_map (λ f. (e.0, f)) (file_of e.1)) es) ≡ contents_refusal lengths es
sets_refusal lengths [] = refl
sets_refusal lengths (e ∷ es) = sets_by lengths e.0 e.1 es (sets_refusal lengths es)

-- ---- the steps

some_step : {X : Type 0} (make : X → Refusal) (o : Option X) (f : Unit {0} → Result Judged Refusal) → (refuse_some o make >>= f) ≡ (refuse_some (option_map make o) (λ r. r) >>= f)
some_step make None f = refl
some_step make (Some x) f = refl

collision_step : (b : Bool) (x : Id) (f : Unit {0} → Result Judged Refusal) → (refuse_if b (Collision x) >>= f) ≡ (refuse_some (cond b (Some (Collision x)) None) (λ r. r) >>= f)
collision_step true x f = refl
collision_step false x f = refl

module _ (header : Header) (h : List Entry) (bytes : List ℕ) (up : is_down h ≡ false) (c : Changeset) (d : decoded bytes ≡ Ok c) where
  abbrev ending : Bool → Result Judged Refusal
  ending b = cond b (unchanged (ChangesetPut (id_of c))) (entered header h (ChangesetPut (id_of c)) (Change c))

  abbrev from_collision : Option Refusal → Result Judged Refusal
  from_collision o = refuse_some o (λ r. r) >>= λ _. ending (is_known (known h) (id_of c))

  abbrev from_unresolved : Option Refusal → Result Judged Refusal
  from_unresolved o = refuse_some o (λ r. r) >>= λ _. from_collision (collision_refusal (known h) c)

  abbrev from_contents : Option Refusal → Result Judged Refusal
  from_contents o = refuse_some o (λ r. r) >>= λ _. from_unresolved (option_map Unresolved (unresolved_of (known h) c c.parents))

  abbrev from_parents : Option Refusal → Result Judged Refusal
  from_parents o = refuse_some o (λ r. r) >>= λ _. from_contents (contents_refusal (content_len h) c.changes)

  steps : judge header h (PutChangeset bytes) ≡ from_parents (parents_refusal (known h) c.parents)
  steps =
      judged_up header h (PutChangeset bytes) up
      ∙ ap (λ d. accepted d >>= λ c.
      refuse_some (find (λ p. not (is_known (known h) p)) c.parents) NoParent >>= λ _.
      refuse_some (first_some (λ e. content_refusal e (content_len h e.1.content)) (sets_of c)) (λ refusal. refusal) >>= λ _.
      refuse_some (unresolved_of (known h) c c.parents) Unresolved >>= λ _.
      refuse_if (collides (known h) c) (Collision (id_of c)) >>= λ _.
      cond (is_known (known h) (id_of c)) (unchanged (ChangesetPut (id_of c))) (entered header h (ChangesetPut (id_of c)) (Change c))) d
      ∙ some_step NoParent (find (λ p. not (is_known (known h) p)) c.parents) _
      ∙ (λ i. refuse_some (parents_refusal (known h) c.parents) (λ r. r) >>= λ _.
      refuse_some (sets_refusal (content_len h) c.changes i) (λ r. r) >>= λ _.
      some_step Unresolved (unresolved_of (known h) c c.parents) (λ _. collision_step (collides (known h) c) (id_of c) (λ _. ending (is_known (known h) (id_of c))) i) i)

  pub judged_parents : (r : Refusal) → parents_refusal (known h) c.parents ≡ Some r → judge header h (PutChangeset bytes) ≡ Err r
  judged_parents r e = steps ∙ ap from_parents e

  module _ (parents : parents_refusal (known h) c.parents ≡ None) where
    pub judged_contents : (r : Refusal) → contents_refusal (content_len h) c.changes ≡ Some r → judge header h (PutChangeset bytes) ≡ Err r
    judged_contents r e = steps ∙ ap from_parents parents ∙ ap from_contents e

    module _ (contents : contents_refusal (content_len h) c.changes ≡ None) where
      pub judged_left : (r : Refusal) → option_map Unresolved (unresolved_of (known h) c c.parents) ≡ Some r → judge header h (PutChangeset bytes) ≡ Err r
      judged_left r e = steps ∙ ap from_parents parents ∙ ap from_contents contents ∙ ap from_unresolved e

      module _ (resolved : option_map Unresolved (unresolved_of (known h) c c.parents) ≡ None) where
        whole_contents : judge header h (PutChangeset bytes) ≡ from_collision (collision_refusal (known h) c)
        whole_contents = steps ∙ ap from_parents parents ∙ ap from_contents contents ∙ ap from_unresolved resolved

        pub judged_collision : (r : Refusal) → collision_refusal (known h) c ≡ Some r → judge header h (PutChangeset bytes) ≡ Err r
        judged_collision r e = whole_contents ∙ ap from_collision e

        module _ (alone : collision_refusal (known h) c ≡ None) where
          pub judged_ending : (b : Bool) → b ≡ is_known (known h) (id_of c) → judge header h (PutChangeset bytes) ≡ ending b
          judged_ending b e = whole_contents ∙ ap from_collision alone ∙ ap ending (sym e)

-- ---- as the machine has it

no_refusal : (o : Option Id) → option_map NoParent o ≡ None → o ≡ None
no_refusal None e = refl
no_refusal (Some x) e = absurd cc

pub parents_known : (ks : List Known) (c : Changeset) → parents_refusal ks c.parents ≡ None → AllByRecursion (λ p. is_known ks p ≡ true) c.parents
parents_known ks c e = none_unknown ks c.parents (no_refusal (find (λ p. not (is_known ks p)) c.parents) e)

module _ {header : Header} {h : List Entry} {ks : List Known} {heads : List ℕ → Option Id} {lengths : Id → Option ℕ} {size : ℕ} {down : Bool} (k : AreIndexes header h ks heads lengths size down) (r : Repository) (is : ◌≡◌ {A = Repository} (record { header = header; history = h }) r) where
  pub known_as : ks ≡ known r.history
  known_as = k.known_are ∙ ap (λ r. known r.history) is

  pub contents_as : (es : List (Path × FileChange)) (c : Changeset) → es ≡ c.changes → contents_refusal lengths es ≡ contents_refusal (content_len r.history) c.changes
  contents_as es c same = (λ i. contents_refusal (λ x. (k.lengths_are x ∙ ap (λ r. content_len r.history x) is) i) (same i))

  pub parents_as : (seen : List Id) (c : Changeset) → seen ≡ c.parents → parents_refusal ks seen ≡ parents_refusal (known r.history) c.parents
  parents_as seen c same = (λ i. parents_refusal (known_as i) (same i))

  module _ (up : is_down r.history ≡ false) (bytes : List ℕ) (c : Changeset) (d : decoded bytes ≡ Ok c) where
    pub parents_found : (seen : List Id) → seen ≡ c.parents → (e : refusal.Refusal) → IsFound e (parents_refusal ks seen) → IsRefusal (judge r.header r.history (PutChangeset bytes)) e
    parents_found seen same e found =
        found_refusal r.header r.history (PutChangeset bytes) e (parents_refusal (known r.history) c.parents) (subst (IsFound e) (parents_as seen c same) found) (judged_parents r.header r.history bytes up c d)

    module _ (seen : List Id) (same : seen ≡ c.parents) (fine : parents_refusal ks seen ≡ None) where
      no_parents : parents_refusal (known r.history) c.parents ≡ None
      no_parents = sym (parents_as seen c same) ∙ fine

      pub contents_found : (es : List (Path × FileChange)) → es ≡ c.changes → (e : refusal.Refusal) → IsFound e (contents_refusal lengths es) → IsRefusal (judge r.header r.history (PutChangeset bytes)) e
      contents_found es es_are e found =
          found_refusal r.header r.history (PutChangeset bytes) e (contents_refusal (content_len r.history) c.changes) (subst (IsFound e) (contents_as es c es_are) found) (judged_contents r.header r.history bytes up c d no_parents)

      module _ (es : List (Path × FileChange)) (es_are : es ≡ c.changes) (stored : contents_refusal lengths es ≡ None) (left : Option Path) (leaves : IsLeft r.history c left) where
        no_contents : contents_refusal (content_len r.history) c.changes ≡ None
        no_contents = sym (contents_as es c es_are) ∙ stored

        left_as : option_map Unresolved left ≡ option_map Unresolved (unresolved_of (known r.history) c c.parents)
        left_as = ap (option_map Unresolved) (leaves (parents_known (known r.history) c no_parents))

        pub left_found : (e : refusal.Refusal) → IsFound e (option_map Unresolved left) → IsRefusal (judge r.header r.history (PutChangeset bytes)) e
        left_found e found =
            found_refusal r.header r.history (PutChangeset bytes) e (option_map Unresolved (unresolved_of (known r.history) c c.parents)) (subst (IsFound e) left_as found) (judged_left r.header r.history bytes up c d no_parents no_contents)

        module _ (none : option_map Unresolved left ≡ None) where
          resolved : option_map Unresolved (unresolved_of (known r.history) c c.parents) ≡ None
          resolved = sym left_as ∙ none

          collides_as : (other : Bool) → other ≡ collides ks c → collision_refusal (known r.history) c ≡ cond other (Some (Collision (id_of c))) None
          collides_as other e = (λ i. cond (sym (e ∙ ap (λ ks. collides ks c) known_as) i) (Some (Collision (id_of c))) None)

          pub collision_found : collides ks c ≡ true → (x : Id) → x ≡ id_of c → IsRefusal (judge r.header r.history (PutChangeset bytes)) (refusals.Collision x)
          collision_found other x x_is =
              inr (Collision (id_of c), judged_collision r.header r.history bytes up c d no_parents no_contents resolved (Collision (id_of c)) (collides_as true (sym other)), ap (λ y. Rattle.reply_model.specs.After.Refuses (Collision y)) x_is)

          module _ (alone : collides ks c ≡ false) (x : Id) (x_is : x ≡ id_of c) where
            pub judged_as : (b : Bool) → b ≡ is_known ks x → judge r.header r.history (PutChangeset bytes) ≡ cond b (unchanged (ChangesetPut x)) (entered r.header r.history (ChangesetPut x) (Change c))
            judged_as b b_is =
                judged_ending r.header r.history bytes up c d no_parents no_contents resolved (collides_as false (sym alone)) b (b_is ∙ (λ i. is_known (known_as i) (x_is i)))
                ∙ ap (λ y. cond b (unchanged (ChangesetPut y)) (entered r.header r.history (ChangesetPut y) (Change c))) (sym x_is)

            pub is_new : false ≡ is_known ks x → (is_known (known r.history) (id_of c) ≡ false) × AllByRecursion (λ p. is_known (known r.history) p ≡ true) c.parents
            is_new b_is = (sym (b_is ∙ (λ i. is_known (known_as i) (x_is i))), parents_known (known r.history) c no_parents)

-- ---- bytes that are decoded

pub spelled : (bytes : List ℕ) (c : Changeset) → IsBytes bytes → decoded bytes ≡ Ok c → bytes ≡ spelling c
spelled bytes c are d = let all = (accepted_exactly bytes c are).0 d in all.1.1

pub is_short : (bytes : List ℕ) (c : Changeset) → IsBytes bytes → decoded bytes ≡ Ok c → length (spelling c) ≤ 1_048_576
is_short bytes c are d = let all = (accepted_exactly bytes c are).0 d in subst (λ bs. length bs ≤ most_encoded) (spelled bytes c are d) all.0
