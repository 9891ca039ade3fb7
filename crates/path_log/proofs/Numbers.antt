-- Where numbers stand for changesets, the log by numbers is the log by pasts.
use Rattle.std.proofs.Common.{◌≡◌, ℕ, zero, suc, ◌<◌, ◌≤◌, Bool, true, false, cond, List, [], ◌∷◌, refl, sym, ap, ◌∙◌, arith}
use Rattle.std.specs.Prelude.{Option, Some, None, IsTrue, filter, filter_map, find}
use Rattle.std.specs.List.{cons_option}
use Rattle.std.specs.Option.{option_map_or}
use Rattle.byte_fields.specs.Bytes.{Id}
use Rattle.changeset_model.specs.Path.{Path}
use Rattle.history_model.specs.History.{Known}
use Rattle.history_model.specs.Past.{At, Begin, Past}
use Rattle.manifest_model.specs.Deleted.{is_logged, path_log}
use Rattle.path_log.specs.Line.{IsEarlier, last_logged, line_within, logged}
use Rattle.path_log.specs.Pasts.{TellsPasts, id_in, last_past}

module _ (asked : ℕ → Bool) (parent : ℕ → Option ℕ) (at : ℕ → Past) (p : Path) (earlier : IsEarlier asked parent) (tells : TellsPasts asked parent at) where
  abbrev logs : ℕ → Bool
  logs m = is_logged (at m) p

  abbrev ids : List ℕ → List Id
  ids ns = filter_map (λ m. id_in (at m)) ns

  abbrev first_of : Option ℕ → Past
  first_of o = option_map_or at o Begin

  -- what the line that is left gives, by this bound
  abbrev Older : {X : Type 0} → (List ℕ → X) → (Past → X) → ℕ → Type 0
  Older by_line by_past k = (m : ℕ) → IsTrue (asked m) → m < k → by_line (line_within k parent m) ≡ by_past (at m)

  older_is : {X : Type 0} (by_line : List ℕ → X) (by_past : Past → X) (k n : ℕ) → by_line [] ≡ by_past Begin → Older by_line by_past k → IsTrue (asked n) → n ≤ k → (o : Option ℕ) → parent n ≡ o → by_line (option_map_or (line_within k parent) o []) ≡ by_past (first_of o)
  older_is by_line by_past k n none older may low None e = none
  older_is by_line by_past k n none older may low (Some m) e =
      let s = earlier n m may e in
      let less : m < n = s.0 in
      older m s.1 (omega arith)

  -- one member more
  module _ (n : ℕ) (c : Known) (first second : Past) (is : at n ≡ At c first second) (rest : List ℕ) where
    same_test : (b : Bool) → logs n ≡ b → is_logged (At c first second) p ≡ b
    same_test b e = ap (λ past. is_logged past p) (sym is) ∙ e

    log_more : ids (filter logs rest) ≡ path_log first p → (b : Bool) → logs n ≡ b → ids (cond b (n ∷ filter logs rest) (filter logs rest)) ≡ path_log (At c first second) p
    log_more older true e = (λ i. cons_option (id_in (is i)) (older i)) ∙ ap (λ b. cond b (c.id ∷ path_log first p) (path_log first p)) (sym (same_test true e))
    log_more older false e = older ∙ ap (λ b. cond b (c.id ∷ path_log first p) (path_log first p)) (sym (same_test false e))

    last_more : first_of (find logs rest) ≡ last_past first p → (b : Bool) → logs n ≡ b → first_of (cond b (Some n) (find logs rest)) ≡ last_past (At c first second) p
    last_more older true e = is ∙ ap (λ b. cond b (At c first second) (last_past first p)) (sym (same_test true e))
    last_more older false e = older ∙ ap (λ b. cond b (At c first second) (last_past first p)) (sym (same_test false e))

  log_within : (k n : ℕ) → IsTrue (asked n) → n < k → ids (filter logs (line_within k parent n)) ≡ path_log (at n) p
  log_within zero n may low = absurd (omega arith)
  log_within (suc k) n may low =
      let t = tells n may in
      log_more n t.0 (first_of (parent n)) t.1 t.2 (option_map_or (line_within k parent) (parent n) [])
      (older_is (λ xs. ids (filter logs xs)) (λ past. path_log past p) k n refl (log_within k) may (omega arith) (parent n) refl) (logs n) refl
      ∙ ap (λ past. path_log past p) (sym t.2)

  pub log_by_numbers : (n : ℕ) → IsTrue (asked n) → ids (logged parent logs n) ≡ path_log (at n) p
  log_by_numbers n may = log_within (suc n) n may (omega arith)

  last_within : (k n : ℕ) → IsTrue (asked n) → n < k → first_of (find logs (line_within k parent n)) ≡ last_past (at n) p
  last_within zero n may low = absurd (omega arith)
  last_within (suc k) n may low =
      let t = tells n may in
      last_more n t.0 (first_of (parent n)) t.1 t.2 (option_map_or (line_within k parent) (parent n) [])
      (older_is (λ xs. first_of (find logs xs)) (λ past. last_past past p) k n refl (last_within k) may (omega arith) (parent n) refl) (logs n) refl
      ∙ ap (λ past. last_past past p) (sym t.2)

  pub last_by_numbers : (n : ℕ) → IsTrue (asked n) → first_of (last_logged parent logs n) ≡ last_past (at n) p
  last_by_numbers n may = last_within (suc n) n may (omega arith)
