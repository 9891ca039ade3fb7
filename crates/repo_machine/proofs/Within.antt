-- Entries name the same changesets where more become known.
use Rattle.std.proofs.Common.{◌≡◌, ℕ, ◌<◌, ◌≤◌, List, [], ◌∷◌, ◌++◌, map, length, refl, sym, ap, subst, ◌∙◌, arith, length-append}
use Rattle.std.specs.List.{AllByRecursion}
use Rattle.std.proofs.lemmas.List.{map-append}
use Rattle.byte_fields.proofs.Lists.{weaker, all_push}
use Rattle.history_model.specs.History as model
use Rattle.changeset_model.specs.Changeset.{Changeset}
use Rattle.changeset_store.specs.Store.{changeset_at}
use Rattle.changeset_store.proofs.Places.{changeset_at-append, changeset_at-last}
use Rattle.repo_machine.specs.declared.records.Record.{Record}
use Rattle.repo_machine.specs.declared.records.Record.TheVariants.{Content, Whole, Change, Book, Land, Policy, Fault}
use Rattle.repo_machine.specs.declared.records.Entry.{Entry}
use Rattle.repo_machine.specs.Records.{body_of, entry_of, history_of, RecordWithin, IsWithin}

changesets_at-append : (ks more : List model.Known) (ns : List ℕ) → AllByRecursion (λ n. n < length ks) ns → map (changeset_at (ks ++ more)) ns ≡ map (changeset_at ks) ns
changesets_at-append ks more [] within = refl
changesets_at-append ks more (n ∷ ns) within = (λ i. changeset_at-append ks more n within.0 i ∷ changesets_at-append ks more ns within.1 i)

body_of-append : (ks more : List model.Known) (r : Record) → RecordWithin (length ks) r → body_of (ks ++ more) r ≡ body_of ks r
body_of-append ks more (Content id n) within = refl
body_of-append ks more (Whole whole) within = refl
body_of-append ks more (Change number) within = ap model.Change (changeset_at-append ks more number within)
body_of-append ks more (Book movement) within = refl
body_of-append ks more (Policy policy) within = refl
body_of-append ks more (Fault breaking) within = refl
body_of-append ks more (Land l) within = ap (λ new. model.Land (record { name = l.value.name; old = l.value.old; draft = l.value.draft; new = new; moment = l.value.moment; caller = l.value.caller })) (changesets_at-append ks more l.value.numbers.items within)

-- so the history stays
pub history_of-known : (ks more : List model.Known) (es : List Entry) → AllByRecursion (IsWithin (length ks)) es → history_of (ks ++ more) es ≡ history_of ks es
history_of-known ks more [] within = refl
history_of-known ks more (e ∷ es) within = (λ i. record { who = e.who; body = body_of-append ks more e.record within.0 i } ∷ history_of-known ks more es within.1 i)

record_stays : (n m : ℕ) → n ≤ m → (r : Record) → RecordWithin n r → RecordWithin m r
record_stays n m more (Content id length) within = tt
record_stays n m more (Whole whole) within = tt
record_stays n m more (Change number) within = omega arith
record_stays n m more (Book movement) within = tt
record_stays n m more (Policy policy) within = tt
record_stays n m more (Fault breaking) within = tt
record_stays n m more (Land landing) within = weaker (λ k. k < n) (λ k. k < m) (λ k below. omega arith) landing.value.numbers.items within

-- an entry more, and perhaps more known changesets
module _ (ks : List model.Known) (es : List Entry) (within : AllByRecursion (IsWithin (length ks)) es) (e : Entry) (seen : List Entry) (same : seen ≡ es) (after : List Entry) (grows : after ≡ seen ++ e ∷ []) where
  grown_list : after ≡ es ++ e ∷ []
  grown_list = grows ∙ ap (λ xs. xs ++ e ∷ []) same

  pub history_pushed : (more : List model.Known) → history_of (ks ++ more) after ≡ history_of ks es ++ entry_of (ks ++ more) e ∷ []
  history_pushed more = ap (history_of (ks ++ more)) grown_list ∙ map-append (entry_of (ks ++ more)) es (e ∷ []) ∙ ap (λ h. h ++ entry_of (ks ++ more) e ∷ []) (history_of-known ks more es within)

  pub within_pushed : (more : List model.Known) → IsWithin (length (ks ++ more)) e → AllByRecursion (IsWithin (length (ks ++ more))) after
  within_pushed more fits =
      let long : length ks ≤ length (ks ++ more) = (let len = length-append ks more in omega arith) in
      subst (AllByRecursion (IsWithin (length (ks ++ more)))) (sym grown_list)
      (all_push (IsWithin (length (ks ++ more))) es e (weaker (IsWithin (length ks)) (IsWithin (length (ks ++ more))) (λ d. record_stays (length ks) (length (ks ++ more)) long d.record) es within) fits)

  pub history_pushed_same : history_of ks after ≡ history_of ks es ++ entry_of ks e ∷ []
  history_pushed_same = ap (history_of ks) grown_list ∙ map-append (entry_of ks) es (e ∷ [])

  pub within_pushed_same : IsWithin (length ks) e → AllByRecursion (IsWithin (length ks)) after
  within_pushed_same fits = subst (AllByRecursion (IsWithin (length ks))) (sym grown_list) (all_push (IsWithin (length ks)) es e within fits)

-- an upload more
module _ (ks : List model.Known) (es : List Entry) (within : AllByRecursion (IsWithin (length ks)) es) (seen : List Entry) (same : seen ≡ es) (who number : ℕ) (c : Changeset) (number_is : number ≡ length ks) (after : List Entry) (grows : after ≡ seen ++ record { who = who; «record» = Change number } ∷ []) (ks' : List model.Known) (added : ks' ≡ ks ++ model.with_id c ∷ []) where
  pub history_uploaded : history_of ks' after ≡ history_of ks es ++ record { who = who; body = model.Change c } ∷ []
  history_uploaded =
      ap (λ ks. history_of ks after) added
      ∙ history_pushed ks es within _ seen same after grows (model.with_id c ∷ [])
      ∙ ap (λ d. history_of ks es ++ record { who = who; body = model.Change d } ∷ []) (ap (changeset_at (ks ++ model.with_id c ∷ [])) number_is ∙ changeset_at-last ks c)

  pub within_uploaded : AllByRecursion (IsWithin (length ks')) after
  within_uploaded =
      subst (λ ks. AllByRecursion (IsWithin (length ks)) after) (sym added)
      (within_pushed ks es within _ seen same after grows (model.with_id c ∷ []) (let one_more = length-append ks (model.with_id c ∷ []) in let is = number_is in omega arith))
