use Rattle.std.proofs.Common.{◌≡◌, ℕ, List, [], ◌∷◌, ◌++◌, refl, ap, sym, subst, ◌∙◌}
use Rattle.std.specs.Prelude.{None, Some}
use Rattle.std.proofs.lemmas.Result.{on_ok_weaker}
use Rattle.sha2.specs.Sha256.{sha256}
use Rattle.byte_fields.specs.Bytes.{Id}
use Rattle.changeset_model.specs.Changeset.{spelling}
use Rattle.history_model.specs.History.{Body, Book, Change, Entry}
use Rattle.history_model.specs.Journal.{Header}
use Rattle.reply_model.specs.Reply.{PutChangeset, SetBookmark}
use Rattle.reply_model.specs.Opening.{nobody}
use Rattle.repo_state.specs.State.{IsQuiet}
use Rattle.bookmark_lock.specs.Opening.{Opening}
use Rattle.run_gen.specs.Stacks.{base, base_id, main}
use Rattle.run_gen.specs.Loads.{base_entry, main_entry}
use Rattle.run_gen.specs.Begun.{Enters, load_header}
use Rattle.run_gen.proofs.Begins.{base_enters, main_enters}
use Rattle.run_gen.proofs.begin.lead.Goals as goal

abbrev main_body : Body
main_body = Book (record { name = main; from = None; to = Some base_id; caller = None })

base_asked : (header : Header) (h : List Entry) (bytes : List ℕ) → header ≡ load_header → h ≡ [] → bytes ≡ spelling base → Enters header h (PutChangeset bytes) (Change base)
base_asked header h bytes a b d = subst (λ (t : Header × List Entry × List ℕ). Enters t.0 t.1 (PutChangeset t.2) (Change base)) (λ i. (sym a i, sym b i, sym d i)) base_enters

main_asked : (header : Header) (h : List Entry) (caller name : List ℕ) (x : Id) → header ≡ load_header → h ≡ base_entry ∷ [] → caller ≡ nobody → name ≡ main → x ≡ base_id → Enters header h (SetBookmark caller name None (Some x)) main_body
main_asked header h caller name x a b f d e = subst (λ (t : Header × List Entry × List ℕ × List ℕ × Id). Enters t.0 t.1 (SetBookmark t.2 t.3 None (Some t.4)) main_body) (λ i. (sym a i, sym b i, sym f i, sym d i, sym e i)) main_enters

pub store-requires-clause-enters : goal.store-requires-clause-enters
store-requires-clause-enters c = (PutChangeset c.base_encoding-base.result, refl, Change base, base_asked c.args.state.now.header c.args.state.now.history c.base_encoding-base.result c.requires.header c.requires.none c.base_encoding-base.ensures)

pub store-requires-2-clause-enters : goal.store-requires-2-clause-enters
store-requires-2-clause-enters c =
    let first = base_asked c.args.state.now.header c.args.state.now.history c.base_encoding-base.result c.requires.header c.requires.none c.base_encoding-base.ensures in
    let stored = c.in_ok-store.ensures.entered (PutChangeset c.base_encoding-base.result) (Change base) refl first ∙ ap (λ h. h ++ base_entry ∷ []) c.requires.none in
    let names = c.in_ok-names.names in
    (SetBookmark names.caller names.main None (Some c.of.result), refl, main_body, main_asked c.store.new.state.header c.store.new.state.history names.caller names.main c.of.result (c.store.ensures.header ∙ c.requires.header) stored c.in_ok-names.ensures.1 c.in_ok-names.ensures.0 (c.of.ensures ∙ ap sha256 c.base_encoding-base.ensures))

pub returns : goal.returns
returns c =
    let first = base_asked c.args.state.now.header c.args.state.now.history c.base_encoding-base.result c.requires.header c.requires.none c.base_encoding-base.ensures in
    let stored = c.in_ok-store.ensures.entered (PutChangeset c.base_encoding-base.result) (Change base) refl first ∙ ap (λ h. h ++ base_entry ∷ []) c.requires.none in
    let names = c.in_ok-names.names in
    let second = main_asked c.store.new.state.header c.store.new.state.history names.caller names.main c.of.result (c.store.ensures.header ∙ c.requires.header) stored c.in_ok-names.ensures.1 c.in_ok-names.ensures.0 (c.of.ensures ∙ ap sha256 c.base_encoding-base.ensures) in
    let opening = c.store-2.ensures.opening ∙ c.store.ensures.opening in
    on_ok_weaker c.store-2.result (λ made. record { header = ap (λ (o : Opening). o.header) opening ∙ c.requires.opened; quiet = subst IsQuiet (sym opening) c.requires.quiet; history = made ∙ ap (λ h. h ++ main_entry ∷ []) stored }) (c.store-2.ensures.entered (SetBookmark names.caller names.main None (Some c.of.result)) main_body refl second)
