-- Pages that are read, and texts that are none.
use Rattle.std.proofs.Common.{◌≡◌, ◌≢◌, ℕ, List, length, Result, Ok, Err, Some, None, sym, ap, ◌∙◌, subst}
use Rattle.std.specs.Prelude.{IfErr, Option, unwrap_or, is_some}
use Rattle.std.proofs.lemmas.List.{length-map}
use mathlib.Core.Bool.{true≢false}
use Rattle.serde_json.specs.Data.{Data, null}
use Rattle.repo_calls.specs.declared.log.LogEntry.{LogEntry}
use Rattle.repo_calls.specs.Calls.{line_seen, lines_seen}
use Rattle.reply_model.specs.Log.{LogLine}
use Rattle.page_reader.specs.declared.page_fault.PageFault.{PageFault}
use Rattle.page_reader.specs.declared.page_fault.PageFault.TheVariants.{Memory}
use Rattle.page_reader.specs.Pages.{IsPage, IsNoPage, Counts}
use Rattle.page_reader.specs.Values.{Finds}

pub no_page_from : {X : Type 0} (from : ℕ) (text : List ℕ) (r : Result X PageFault) (P : List LogLine → ℕ → X → Type 0) → ((lines : List LogLine) (total : ℕ) → IsPage from text lines total → Finds r (P lines total)) → IfErr r (λ fault. fault ≢ Memory → IsNoPage from text)
no_page_from from text (Ok x) P found = tt
no_page_from from text (Err e) P found = λ other lines total page. other (found lines total page)

pub counted : (from : ℕ) (entries : List LogEntry) (lines : List LogLine) (total other : ℕ) → lines_seen entries ≡ lines → other ≡ total → Counts from (length lines) total → Counts from (length entries) other
counted from entries lines total other same totals counts =
    let len : length lines ≡ length entries = sym (ap length same) ∙ length-map entries line_seen in
    subst (λ (n : ℕ). Counts from n other) len (subst (λ (t : ℕ). Counts from (length lines) t) (sym totals) counts)

pub told_alike : (read : Option Data) (d e : Data) → read ≡ Some d → read ≡ Some e → d ≡ e
told_alike read d e is also = ap (λ o. unwrap_or o null) (sym is ∙ also)

pub some_is_not_none : (read : Option Data) (d : Data) → read ≡ Some d → read ≡ None → ⊥
some_is_not_none read d is none = true≢false (sym (ap is_some is) ∙ ap is_some none)
