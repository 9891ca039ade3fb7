-- Lists of values, one after another.
use Rattle.std.proofs.Common.{◌≡◌, ℕ, zero, suc, ◌+◌, ◌<◌, refl, List, [], ◌∷◌, ◌++◌, length, get_or, take, map, sym, ap, ◌∙◌, arith}
use Rattle.std.specs.List.{AllByRecursion}
use Rattle.serde_json.specs.Data.{Data, null, Items, no_items, item}
use Rattle.serde_json.specs.View.{view, items_of}
use Rattle.serde_json.specs.declared.value.Value.{Value}
use Rattle.byte_fields.specs.Bytes.{Id}
use Rattle.reply_model.specs.Log.{LogLine}
use Rattle.repo_text.specs.Spelling.{id_data}
use Rattle.page_reader.specs.Pages.{IsId, IsTold}
use Rattle.page_reader.specs.Values.{line_data, lines_data}

abbrev first_of : List Data → Data
first_of [] = null
first_of (d ∷ ds) = d

abbrev rest_of : List Data → List Data
rest_of [] = []
rest_of (d ∷ ds) = ds

pub id_here : (values : List Value) (xs : List Id) (i : ℕ) (d : Value) → i < length values → map view values ≡ map id_data xs → AllByRecursion IsId xs
    → (x : Id) × IsId x × (view (get_or values i d) ≡ id_data x) × (take (suc i) xs ≡ take i xs ++ x ∷ [])
id_here [] xs i d inside same all = absurd (omega arith)
id_here (v ∷ values) [] i d inside same all = absurd (let len = ap length same in omega arith)
id_here (v ∷ values) (x ∷ xs) zero d inside same all = (x, all.0, ap first_of same, refl)
id_here (v ∷ values) (x ∷ xs) (suc i) d inside same all =
    let later = id_here values xs i d (omega arith) (ap rest_of same) all.1 in
    (later.0, later.1, later.2, ap (λ ys. x ∷ ys) later.3)

pub line_here : (n : ℕ) (values : List Value) (lines : List LogLine) (i : ℕ) (d : Value) → i < length values → map view values ≡ lines_data n lines → AllByRecursion IsTold lines
    → (m : ℕ) × (line : LogLine) × IsTold line × (view (get_or values i d) ≡ line_data m line) × (take (suc i) lines ≡ take i lines ++ line ∷ [])
line_here n [] lines i d inside same all = absurd (omega arith)
line_here n (v ∷ values) [] i d inside same all = absurd (let len = ap length same in omega arith)
line_here n (v ∷ values) (line ∷ lines) zero d inside same all = (n, line, all.0, ap first_of same, refl)
line_here n (v ∷ values) (line ∷ lines) (suc i) d inside same all =
    let later = line_here (n + 1) values lines i d (omega arith) (ap rest_of same) all.1 in
    (later.0, later.1, later.2, later.3, ap (λ ys. line ∷ ys) later.4)

pub lines_data_len : (n : ℕ) (lines : List LogLine) → length (lines_data n lines) ≡ length lines
lines_data_len n [] = refl
lines_data_len n (line ∷ lines) = ap suc (lines_data_len (n + 1) lines)

pub all_push : {X : Type 0} (P : X → Type 0) (xs : List X) (x : X) → AllByRecursion P xs → P x → AllByRecursion P (xs ++ x ∷ [])
all_push P [] x all is = (is, tt)
all_push P (y ∷ xs) x all is = (all.0, all_push P xs x all.1 is)

-- ---- the items of a list

abbrev list_of : Items → List Data
list_of no_items = []
list_of (item d ds) = d ∷ list_of ds

listed : (ds : List Data) → list_of (items_of ds) ≡ ds
listed [] = refl
listed (d ∷ ds) = ap (λ es. d ∷ es) (listed ds)

pub items_same : (ds es : List Data) → items_of ds ≡ items_of es → ds ≡ es
items_same ds es same = sym (listed ds) ∙ ap list_of same ∙ listed es
