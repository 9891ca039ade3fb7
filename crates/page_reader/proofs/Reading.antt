-- A text that spells a value with no float is read as that value.
use Rattle.std.proofs.Common.{◌≡◌, ℕ, ◌≤◌, refl, List, [], ◌∷◌, Some, Option, sym, ap, ◌∙◌, arith, append-nil}
use Rattle.std.specs.Prelude.{option_map, option_and_then}
use Rattle.std.specs.List.{AllByRecursion}
use Rattle.json.specs.Token.{Token}
use Rattle.json.specs.Lex.{tokens}
use Rattle.json.specs.Json as json
use Rattle.json.specs.Tree as tree
use Rattle.json.specs.Tree.{json_tokens, HasNumbers, ItemsHaveNumbers}
use Rattle.json.proofs.Printed.Tokens.{tokens-print}
use Rattle.json.proofs.Printed.Trees.{value-json_tokens, ArePrintable-json_tokens}
use Rattle.serde_json.specs.Data.{Data, string, Items, item}
use Rattle.serde_json.specs.Read.{read, of_json, of_items, max_depth}
use Rattle.serde_json.specs.View.{items_of}
use Rattle.serde_json.specs.Written.{outline, items_outline}
use Rattle.serde_json.proofs.Texts.{print-outline}
use Rattle.repo_text.specs.Spelling.{Spells}

-- what the JSON of a whole text is read as
abbrev whole : Option (json.Json × List Token) → Option Data
whole o = option_and_then of_json (option_and_then (λ p. json.if_last p.0 p.1) o)

-- the value, as JSON of its own, is read as itself, and nests so deep at most
pub record Reads (deep : ℕ) (d : Data) : Type 0 where
  pub is : of_json (outline d) ≡ Some d
  pub numbers : HasNumbers (outline d)
  pub shallow : tree.depth (outline d) ≤ deep

pub text_is_read : (text : List ℕ) (d : Data) → Reads 127 d → Spells d text → read text ≡ Some d
text_is_read text d reads spells =
    let same : tokens text ≡ json_tokens (outline d) =
    ap tokens (sym spells.text_is ∙ sym (print-outline d)) ∙ tokens-print (json_tokens (outline d)) (ArePrintable-json_tokens (outline d) reads.numbers) in
    ap whole (ap (json.value max_depth) (same ∙ sym (append-nil (json_tokens (outline d)))) ∙ value-json_tokens (outline d) max_depth [] reads.shallow) ∙ reads.is

pub string_reads : (s : List ℕ) → Reads 0 (string s)
string_reads s = record { is = refl; numbers = tt; shallow = omega arith }

pub record ReadsItems (deep : ℕ) (ds : Items) : Type 0 where
  pub is : of_items (items_outline ds) ≡ Some ds
  pub numbers : ItemsHaveNumbers (items_outline ds)
  pub shallow : tree.items_depth (items_outline ds) ≤ deep

pub items_read : (deep : ℕ) (ds : List Data) → AllByRecursion (Reads deep) ds → ReadsItems deep (items_of ds)
items_read deep [] all = record { is = refl; numbers = tt; shallow = omega arith }
items_read deep (d ∷ ds) all =
    let later = items_read deep ds all.1 in
    let here = all.0.shallow in
    let more = later.shallow in
    record {
      is = ap (option_and_then (λ e. option_map (item e) (of_items (items_outline (items_of ds))))) all.0.is ∙ ap (option_map (item d)) later.is;
      numbers = (all.0.numbers, later.numbers);
      shallow = omega arith;
    }
