-- A landing is entered.
use Rattle.std.proofs.Common.{◌≡◌, ℕ, ◌<◌, Bool, true, false, List, [], ◌∷◌, ◌++◌, map, length, sym, ap, subst, ◌∙◌}
use Rattle.std.specs.Prelude.{◌&&◌}
use Rattle.std.specs.List.{AllByRecursion}
use Rattle.std.specs.declared.alloc.Global.{Global}
use Rattle.std.specs.declared.boxed.Box.{Box}
use Rattle.std.proofs.lemmas.List.{append_assoc, append-nil}
use Rattle.byte_fields.specs.Bytes.{Id}
use Rattle.changeset_model.specs.Changeset.{Changeset}
use Rattle.history_model.specs.History as model
use Rattle.history_model.specs.Journal.{Header}
use Rattle.reply_model.specs.Reply as reply
use Rattle.reply_model.specs.After.{entry_by}
use Rattle.changeset_store.specs.Store.{changeset_at}
use Rattle.repo_machine.specs.declared.records.LandRecord.{LandRecord}
use Rattle.repo_machine.specs.declared.records.Record.TheVariants.{Land}
use Rattle.repo_machine.specs.declared.records.Entry.{Entry}
use Rattle.repo_machine.specs.Records.{history_of, IsWithin}
use Rattle.repo_machine.specs.Landings.{IsLandable}
use Rattle.changeset_store.specs.Grown.{AreAlone, adding_one, adding, CanAdd}
use Rattle.repo_machine.proofs.Within.{history_pushed, within_pushed}
use Rattle.changeset_store.proofs.Added.{adds_some, can_add}

-- ---- the entry

adding_some : (ks : List model.Known) (cs : List Changeset) → (more : List model.Known) × (adding ks cs ≡ ks ++ more)
adding_some ks [] = ([], sym (append-nil ks))
adding_some ks (c ∷ cs) =
    let one = adds_some ks c in
    let later = adding_some (adding_one ks c) cs in
    (one.0 ++ later.0, later.1 ∙ ap (λ (ks : List model.Known). ks ++ later.0) one.1 ∙ append_assoc ks one.0 later.0)

abbrev landing_with : LandRecord → List Changeset → model.Landing
landing_with l new = record { name = l.name; old = l.old; draft = l.draft; new = new; moment = l.moment; caller = l.caller }

-- what is taken out of a box is what it held
pub entered_same : (h : List model.Entry) (who : ℕ) (new : List Changeset) (taken held : LandRecord) → taken ≡ held → h ++ entry_by who (model.Land (landing_with taken new)) ∷ [] ≡ h ++ entry_by who (model.Land (landing_with held new)) ∷ []
entered_same h who new taken held same = ap (λ l. h ++ entry_by who (model.Land (landing_with l new)) ∷ []) same

module _ (ks : List model.Known) (es : List Entry) (within : AllByRecursion (IsWithin (length ks)) es) (seen : List Entry) (same : seen ≡ es) (who : ℕ) (l : Box LandRecord Global) (new : List Changeset) (before ks' : List model.Known) (kept : before ≡ ks) (added : ks' ≡ adding before new) (noted : map (changeset_at ks') l.value.numbers.items ≡ new) (after : List Entry) (grows : after ≡ seen ++ record { who = who; «record» = Land l } ∷ []) where
  pub added_as : ks' ≡ adding ks new
  added_as = added ∙ ap (λ ks. adding ks new) kept

  abbrev more : List model.Known
  more = (adding_some ks new).0

  grown : ks' ≡ ks ++ more
  grown = added_as ∙ (adding_some ks new).1

  news : map (changeset_at (ks ++ more)) l.value.numbers.items ≡ new
  news = ap (λ ks. map (changeset_at ks) l.value.numbers.items) (sym grown) ∙ noted

  pub history_landed : history_of ks' after ≡ history_of ks es ++ entry_by who (model.Land (record { name = l.value.name; old = l.value.old; draft = l.value.draft; new = new; moment = l.value.moment; caller = l.value.caller })) ∷ []
  history_landed =
      ap (λ ks. history_of ks after) grown
      ∙ history_pushed ks es within (record { who = who; «record» = Land l }) seen same after grows more
      ∙ (λ i. history_of ks es ++ entry_by who (model.Land (record { name = l.value.name; old = l.value.old; draft = l.value.draft; new = news i; moment = l.value.moment; caller = l.value.caller })) ∷ [])

  pub within_landed : AllByRecursion (λ n. n < length ks') l.value.numbers.items → AllByRecursion (IsWithin (length ks')) after
  within_landed fits =
      subst (λ ks. AllByRecursion (IsWithin (length ks)) after) (sym grown)
      (within_pushed ks es within (record { who = who; «record» = Land l }) seen same after grows more (subst (λ ks. AllByRecursion (λ n. n < length ks) l.value.numbers.items) grown fits))

-- they can be added
pub can_as : (header : Header) (h : List model.Entry) (caller name : List ℕ) (draft : Id) (moment : ℕ) (l : model.Landing) → IsLandable header h caller name draft moment l → CanAdd (model.known h) l.new
can_as header h caller name draft moment l able =
    subst (CanAdd (model.known h)) (sym able.rewritten) (can_add (model.known h) able.fork_is.stack l.old moment able.old_known (subst (AreAlone (model.known h)) able.rewritten able.alone))

pub outer_rules : (a b c : Bool) → (a && b && c) ≡ true → (a && c) ≡ true
outer_rules true true c e = e
outer_rules true false c e = absurd cc
outer_rules false b c e = absurd (cc)

abbrev granted_old : Id → reply.Granted → Id
granted_old none (reply.ContentPut x) = none
granted_old none (reply.WholePut x n) = none
granted_old none (reply.ChangesetPut x) = none
granted_old none reply.BookmarkSet = none
granted_old none (reply.Landed old ids) = old
granted_old none (reply.PolicySet n) = none

abbrev granted_ids : reply.Granted → List Id
granted_ids (reply.ContentPut x) = []
granted_ids (reply.WholePut x n) = []
granted_ids (reply.ChangesetPut x) = []
granted_ids reply.BookmarkSet = []
granted_ids (reply.Landed old ids) = ids
granted_ids (reply.PolicySet n) = []

pub old_landed : (a b : Id) (xs ys : List Id) → reply.Landed a xs ≡ reply.Landed b ys → b ≡ a
old_landed a b xs ys e = sym (ap (granted_old a) e)

pub ids_landed : (a b : Id) (xs ys : List Id) → reply.Landed a xs ≡ reply.Landed b ys → ys ≡ xs
ids_landed a b xs ys e = sym (ap granted_ids e)
