-- What is read back of a file.
use Rattle.std.proofs.Common.{◌≡◌, ℕ, ◌+◌, ◌≤◌, Bool, true, false, cond, List, [], ◌∷◌, ◌++◌, refl, sym, ap, subst, ◌∙◌}
use Rattle.std.specs.Prelude.{None, Some, Result, Ok, Err, IfOk, OnOk}
use Rattle.std.proofs.lemmas.List.{append-nil}
use Rattle.byte_fields.specs.Bytes.{Id}
use Rattle.changeset_model.specs.Changeset.{Changeset, id_of, spelling}
use Rattle.history_model.specs.History.{Body, Change, Entry}
use Rattle.history_model.specs.Journal.{Header, payload_len}
use Rattle.history_model.specs.Journal as journal
use Rattle.reply_model.specs.After.{entry_by}
use Rattle.reply_model.specs.Reply.{Ask, PutChangeset, ChangesetPut, is_ask, Granted, judge, entered, unchanged}
use Rattle.repo_calls.specs.declared.refusal.Refusal.{Refusal}
use Rattle.repo_machine.specs.Entering.{CanMake}
use Rattle.repo_machine.specs.Replaying.{Decides, IsReplayed}
use Rattle.repo_machine.proofs.Judging.{entered_made}

module _ (header : Header) (h : List Entry) (who : ℕ) (ask : Ask) (asks : is_ask h ask ≡ true) (granted : Granted) where
  pub replays_nothing : judge header h ask ≡ unchanged granted → (after : List Entry) → after ≡ h → IsReplayed header h who ask false after
  replays_nothing judged after same = record {
    asks = asks;
    judged = record { granted = granted; made = None };
    judged_is = judged;
    told = refl;
    grows = same ∙ sym (append-nil h);
  }

  module _ (body : Body) (judged : judge header h ask ≡ entered header h granted body) where
    pub can_make : CanMake header h body
    can_make = record { ask = ask; granted = granted; asks = asks; judged = judged }

    pub replays_made : (r : Result Bool Refusal) (after : List Entry) → IfOk r (λ made. made ≡ true) → OnOk r (journal.size h + 5 + payload_len body ≤ header.capacity) → OnOk r (after ≡ h ++ entry_by who body ∷ []) → IfOk r (λ made. IsReplayed header h who ask made after)
    replays_made (Ok made) after told fits grows = record {
      asks = asks;
      judged = record { granted = granted; made = Some body };
      judged_is = judged ∙ entered_made header h granted body fits;
      told = told;
      grows = grows;
    }
    replays_made (Err e) after told fits grows = tt

module _ {header : Header} {h : List Entry} {ask : Ask} {granted : Granted} {body : Body} (known : Bool) (d : Decides header h ask granted body known) where
  pub decides_nothing : known ≡ true → judge header h ask ≡ unchanged granted
  decides_nothing e = d.judged ∙ ap (λ b. cond b (unchanged granted) (entered header h granted body)) e

  pub decides_made : known ≡ false → judge header h ask ≡ entered header h granted body
  decides_made e = d.judged ∙ ap (λ b. cond b (unchanged granted) (entered header h granted body)) e

-- of the same changeset, with its id
pub decides_as : (header : Header) (h : List Entry) (m c : Changeset) (x : Id) (known : Bool) → m ≡ c → x ≡ id_of m → Decides header h (PutChangeset (spelling m)) (ChangesetPut (id_of m)) (Change m) known → Decides header h (PutChangeset (spelling c)) (ChangesetPut x) (Change c) known
decides_as header h m c x known same x_is d =
    subst (λ y. Decides header h (PutChangeset (spelling c)) (ChangesetPut y) (Change c) known) (sym (x_is ∙ ap id_of same))
    (subst (λ n. Decides header h (PutChangeset (spelling n)) (ChangesetPut (id_of n)) (Change n) known) same d)

-- of the same changeset, shared
pub of_shared : (header : Header) (h : List Entry) (c m : Changeset) (known : Bool) → m ≡ c → Decides header h (PutChangeset (spelling c)) (ChangesetPut (id_of c)) (Change c) known → Decides header h (PutChangeset (spelling c)) (ChangesetPut (id_of c)) (Change m) known
of_shared header h c m known same d = subst (λ n. Decides header h (PutChangeset (spelling c)) (ChangesetPut (id_of c)) (Change n) known) (sym same) d
