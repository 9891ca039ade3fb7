-- Lists of one entry.
use Rattle.std.proofs.Common.{◌≡◌, ◌↔◌, ℕ, Bool, IsTrue, List, [], ◌∷◌, true, false, ◌<◌, length, get_or, refl, sym, ap, ◌∙◌, arith}
use Rattle.std.proofs.lemmas.Bool.{eq-eqb, eqb-true}
use Rattle.std.proofs.lemmas.List.{length-map}
use mathlib.Core.Bool.{true≢false}
use Rattle.std.specs.Prelude.{nat_eq, ◌==◌}
use Rattle.reply_model.specs.Log.{LogLine}
use Rattle.repo_calls.specs.Calls.{line_seen, lines_seen}
use Rattle.repo_calls.specs.declared.log.LogEntry.{LogEntry}

head_is : (a b : LogLine) → a ∷ [] ≡ b ∷ [] → a ≡ b
head_is a b e = cc

pub only_line : (entries : List LogEntry) (line : LogLine) (x : LogEntry) (r : Bool) → length entries ≡ 1 → x ≡ get_or entries 0 x → (IsTrue r ↔ (line_seen x ≡ line)) → IsTrue r ↔ (lines_seen entries ≡ line ∷ [])
only_line [] line x r one is same = absurd (omega (arith, one))
only_line (y ∷ []) line x r one is same = (λ t. ap (λ l. l ∷ []) (ap line_seen (sym is) ∙ same.0 t), λ e. same.1 (ap line_seen is ∙ head_is (line_seen y) line e))
only_line (y ∷ z ∷ later) line x r one is same = absurd (omega (arith, one))

pub one_line_long : (entries : List LogEntry) (line : LogLine) → lines_seen entries ≡ line ∷ [] → IsTrue (nat_eq (length entries) 1)
one_line_long entries line e = eq-eqb (length entries) 1 (sym (length-map entries line_seen) ∙ ap length e)

-- ---- none, and some

pub no_lines : (entries : List LogEntry) (n : ℕ) → length entries ≡ n → (n == 0) ≡ true → lines_seen entries ≡ []
no_lines [] n is none = refl
no_lines (x ∷ later) n is none = absurd (let zero = eqb-true n 0 none in omega (arith, is, zero))

pub some_lines : (entries : List LogEntry) (n : ℕ) → length entries ≡ n → (n == 0) ≡ false → 0 < length (lines_seen entries)
some_lines [] n is some = absurd (true≢false (sym (eq-eqb n 0 (sym is)) ∙ some))
some_lines (x ∷ later) n is some = omega arith
