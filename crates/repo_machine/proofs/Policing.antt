-- What is judged of a policy, and the text of one that is stored.
--     policy_short      the record of a policy that keeps the grammar is short
--     old_format, bad_policy, denied_so, entered_so      the steps of a new policy
--     place_within, text_read, no_text      the text at a number, by the machine's places of stored entries
use Rattle.std.proofs.Common.{◌≡◌, ℕ, zero, suc, ◌<◌, ◌≤◌, Bool, true, false, cond, inl, inr, List, [], ◌∷◌, length, length-append, map, get_or, refl, sym, ap, subst, ◌∙◌, arith}
use Rattle.std.specs.Prelude.{None, Some, Result, Ok, Err, ◌&&◌, ◌||◌, ◌==◌, nat_lt, not, slice_get}
use Rattle.std.specs.Int.{w8}
use Rattle.std.specs.List.{AllByRecursion}
use Rattle.std.specs.Option.{option_and_then}
use Rattle.std.specs.Result.{result_err}
use Rattle.std.proofs.lemmas.Bool.{and_parts, ltb-false}
use Rattle.std.proofs.lemmas.List.{length-map, get_or_default}
use Rattle.byte_fields.specs.Bytes.{are_bytes, sized}
use Rattle.changeset_model.specs.Version.{is_second}
use Rattle.history_model.specs.Bookmark.{is_name}
use Rattle.history_model.specs.History as model
use Rattle.history_model.specs.History.{Known, Policy, bodies, stored, is_down, policy_text, policy_at}
use Rattle.history_model.specs.Journal.{Header, payload_len}
use Rattle.land_policy.proofs.Callers.{name_is_short}
use Rattle.policy_model.specs.Rules.{Rule, policy_place}
use Rattle.policy_model.specs.Grammar.{parse}
use Rattle.reply_model.specs.Reply as reply
use Rattle.reply_model.specs.Reply.{◌>>=◌, refuse_if, refuse_some, denied_at, denial, PolicySet, SetPolicy, OldFormat, BadPolicy, Judged, judge, entered}
use Rattle.repo_calls.specs.declared.refusal.Refusal.{Refusal}
use Rattle.repo_calls.specs.Refusing.{IsRefusal}
use Rattle.repo_machine.specs.declared.records.Entry.{Entry}
use Rattle.repo_machine.specs.Lines.{entry_at, IsKeptAt}
use Rattle.repo_machine.specs.Records.{body_of, history_of, kept_from, IsWithin}
use Rattle.repo_machine.proofs.Judging.{judged_up}
use Rattle.repo_machine.proofs.Logging.{bodies-history, kept_are, all_kept}

-- ---- its record

text_by : (n : ℕ) (empty long : Bool) (read : Result (List Rule) ℕ) (rules : List Rule) → nat_lt 65536 n ≡ long → cond (empty || long) (Err 0) read ≡ Ok rules → n ≤ 65536
text_by n true long read rules e h = absurd cc
text_by n false true read rules e h = absurd cc
text_by n false false read rules e h = ltb-false 65536 n e

pub policy_short : (caller text : List ℕ) (rules : List Rule) → is_name caller && are_bytes text ≡ true → parse text ≡ Ok rules → payload_len (Policy caller text) ≤ 16_777_216
policy_short caller text rules asked parses =
    let name = name_is_short caller (and_parts (is_name caller) (are_bytes text) asked).0 in
    let few = text_by (length text) (length text == 0) (nat_lt 65536 (length text)) _ rules refl parses in
    let long = length-append (sized w8 caller) (0x52 ∷ text) in
    omega arith

-- ---- a new policy

module _ (header : Header) (h : List model.Entry) (caller text : List ℕ) (up : is_down h ≡ false) where
  abbrev decided : Result (Unit {0}) reply.Refusal
  decided = refuse_some (denied_at h caller (policy_place ∷ [])) denial

  abbrev entering : Result Judged reply.Refusal
  entering = entered header h (PolicySet (length (stored h))) (Policy caller text)

  abbrev allowed_by : Result (Unit {0}) reply.Refusal → Result Judged reply.Refusal
  allowed_by decides = decides >>= λ _. entering

  abbrev read_by : Result (List Rule) ℕ → Result Judged reply.Refusal
  read_by read = refuse_some (result_err read) BadPolicy >>= λ _. allowed_by decided

  abbrev filed_by : Bool → Result Judged reply.Refusal
  filed_by second = refuse_if (not second) OldFormat >>= λ _. read_by (parse text)

  judged_so : judge header h (SetPolicy caller text) ≡ filed_by (is_second header.version)
  judged_so = judged_up header h (SetPolicy caller text) up

  pub old_format : is_second header.version ≡ false → judge header h (SetPolicy caller text) ≡ Err OldFormat
  old_format first = judged_so ∙ ap filed_by first

  module _ (second : is_second header.version ≡ true) where
    pub bad_policy : (line : ℕ) → parse text ≡ Err line → judge header h (SetPolicy caller text) ≡ Err (BadPolicy line)
    bad_policy line bad = judged_so ∙ ap filed_by second ∙ ap read_by bad

    module _ (rules : List Rule) (parses : parse text ≡ Ok rules) where
      decided_so : judge header h (SetPolicy caller text) ≡ allowed_by decided
      decided_so = judged_so ∙ ap filed_by second ∙ ap read_by parses

      pub denied_so : (e : Refusal) → IsRefusal decided e → IsRefusal (judge header h (SetPolicy caller text)) e
      denied_so e (inl memory) = inl memory
      denied_so e (inr (r, is, same)) = inr (r, decided_so ∙ ap allowed_by is, same)

      pub entered_so : decided ≡ Ok tt → judge header h (SetPolicy caller text) ≡ entering
      entered_so allowed = decided_so ∙ ap allowed_by allowed

-- ---- the text at a number

got_mapped : {X Y : Type 0} (f : X → Y) (xs : List X) (n : ℕ) (d : X) → n < length xs → slice_get (map f xs) n ≡ Some (f (get_or xs n d))
got_mapped f [] n d less = absurd (omega arith)
got_mapped f (x ∷ xs) zero d less = refl
got_mapped f (x ∷ xs) (suc n) d less = got_mapped f xs n d (omega arith)

got_past : {X : Type 0} (xs : List X) (n : ℕ) → length xs ≤ n → slice_get xs n ≡ None
got_past [] n past = refl
got_past (x ∷ xs) zero past = absurd (omega arith)
got_past (x ∷ xs) (suc n) past = got_past xs n (omega arith)

got_all : {X : Type 0} (P : X → Type 0) (xs : List X) (n : ℕ) (d : X) → AllByRecursion P xs → n < length xs → P (get_or xs n d)
got_all P [] n d all less = absurd (omega arith)
got_all P (x ∷ xs) zero d all less = all.0
got_all P (x ∷ xs) (suc n) d all less = got_all P xs n d all.1 (omega arith)

module _ (ks : List Known) (es : List Entry) (kept : List ℕ) (are : kept ≡ kept_from 0 es) where
  bodies_kept : bodies (history_of ks es) ≡ map (λ e. body_of ks e.record) (map (entry_at es) kept)
  bodies_kept = bodies-history ks es ∙ ap (map (λ e. body_of ks e.record)) (sym (ap (map (entry_at es)) are ∙ kept_are es))

  text_at : (n : ℕ) → n < length kept → policy_at (history_of ks es) n ≡ policy_text (body_of ks (entry_at es (get_or kept n 0)).record)
  text_at n less =
      ap (λ bs. option_and_then policy_text (slice_get bs n)) bodies_kept
      ∙ ap (option_and_then policy_text) (got_mapped (λ e. body_of ks e.record) (map (entry_at es) kept) n (entry_at es 0) (let len = length-map kept (entry_at es) in omega arith))
      ∙ ap (λ (e : Entry). policy_text (body_of ks e.record)) (got_entry kept n less)
    where
      got_entry : (ns : List ℕ) (n : ℕ) → n < length ns → get_or (map (entry_at es) ns) n (entry_at es 0) ≡ entry_at es (get_or ns n 0)
      got_entry [] n less = absurd (omega arith)
      got_entry (m ∷ ns) zero less = refl
      got_entry (m ∷ ns) (suc n) less = got_entry ns n (omega arith)

  -- the place of a stored entry, and the entry, as they are read
  module _ (n at : ℕ) (less : n < length kept) (place : at ≡ get_or kept n at) where
    placed : get_or kept n 0 ≡ at
    placed = get_or_default kept n 0 at less ∙ sym place

    pub place_within : (count : ℕ) → AllByRecursion (IsWithin count) es → at < length es
    place_within count within = subst (λ k. k < length es) placed (got_all (IsKeptAt count es) kept n 0 (all_kept count es kept are within) less).0

    pub text_read : (count : ℕ) → AllByRecursion (IsWithin count) es → (e : Entry) → e ≡ get_or es at e → policy_at (history_of ks es) n ≡ policy_text (body_of ks e.record)
    text_read count within e is =
        text_at n less
        ∙ ap (λ (e : Entry). policy_text (body_of ks e.record)) (ap (entry_at es) placed ∙ get_or_default es at _ e (place_within count within) ∙ sym is)

  pub no_text : (n : ℕ) → length kept ≤ n → policy_at (history_of ks es) n ≡ None
  no_text n past =
      ap (λ bs. option_and_then policy_text (slice_get bs n)) bodies_kept
      ∙ ap (option_and_then policy_text) (got_past (map (λ e. body_of ks e.record) (map (entry_at es) kept)) n (let outer = length-map (map (entry_at es) kept) (λ e. body_of ks e.record) in let inner = length-map kept (entry_at es) in omega arith))
