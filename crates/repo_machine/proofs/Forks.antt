-- What is so of each known changeset of a legal history is so of a fork's stack: where none of it has two parents, their copy sources are kept on another parent.
--     stack_keeps      the copy sources of a stack without a merge
use Rattle.std.proofs.Common.{◌≡◌, ◌≤◌, zero, suc, ℕ, ◌+◌, Bool, true, false, cond, List, [], ◌∷◌, drop, refl, length}
use Rattle.std.specs.Prelude.{Contains, Option, None, Some, find, bytes_eq}
use Rattle.std.specs.List.{AllByRecursion, after_first, position_or_len}
use Rattle.std.specs.Option.{option_map_or}
use Rattle.std.proofs.lemmas.Bool.{ltb-false}
use Rattle.byte_fields.specs.Bytes.{Id}
use Rattle.byte_fields.proofs.Lists.{all_reverse, weaker}
use Rattle.bonsai.specs.Making.{KeepOnParents}
use Rattle.bonsai.proofs.Rules.{keeps_on_parent}
use Rattle.changeset_model.specs.Changeset.{Changeset, is_changeset}
use Rattle.history_model.specs.History.{Entry, Known, known}
use Rattle.history_model.specs.Chain.{first_parent, line_among, chain, changesets}
use Rattle.history_model.specs.Pushrebase.{following}
use Rattle.history_model.specs.Journal.{Header}
use Rattle.reply_model.specs.Reply.{is_merge}
use Rattle.reply_model.specs.Legal.{IsLegal}
use Rattle.opening_laws.proofs.Rules.{known_keep}
use Rattle.std.proofs.lemmas.List.Elements.{recursion_from_All, All-contains_itself}
use Rattle.changeset_store.specs.declared.fork.Fork as store
use Rattle.changeset_store.specs.Store.{known_at}
use Rattle.changeset_store.specs.Fork.{fork_between}

-- ---- what each known changeset has

abbrev IsRuled : Changeset → Type 0
IsRuled c = is_changeset c ≡ true

all_ruled : (header : Header) (h : List Entry) → IsLegal header h → AllByRecursion (λ k. IsRuled k.changeset) (known h)
all_ruled header h legal =
    weaker (Contains (known h)) (λ k. IsRuled k.changeset)
    (λ k at. let keep = known_keep header h k legal at in keep.1)
    (known h) (recursion_from_All (Contains (known h)) (known h) (All-contains_itself (known h)))

-- ---- a part of a chain

tail_all : (P : Known → Type 0) (older : List Known) → ((x : Id) → AllByRecursion P (line_among older x)) → (o : Option Id) → AllByRecursion P (option_map_or (line_among older) o [])
tail_all P older all None = tt
tail_all P older all (Some x) = all x

line_by : (P : Known → Type 0) (k : Known) (older : List Known) (x : Id) → P k → ((x : Id) → AllByRecursion P (line_among older x)) → (b : Bool) → AllByRecursion P (cond b (k ∷ option_map_or (line_among older) (first_parent k.changeset) []) (line_among older x))
line_by P k older x one all true = (one, tail_all P older all (first_parent k.changeset))
line_by P k older x one all false = all x

line_all : (P : Known → Type 0) (ks : List Known) → AllByRecursion P ks → (x : Id) → AllByRecursion P (line_among ks x)
line_all P [] all x = tt
line_all P (k ∷ older) all x = line_by P k older x all.0 (line_all P older all.1) (bytes_eq k.id x)

chain_all : (P : Known → Type 0) (ks : List Known) → AllByRecursion P ks → (x : Id) → AllByRecursion P (chain ks x)
chain_all P ks all x = all_reverse P (line_among _ x) (line_all P _ (all_reverse P ks all) x)

drop_all_of : (P : Known → Type 0) (n : ℕ) (ks : List Known) → AllByRecursion P ks → AllByRecursion P (drop n ks)
drop_all_of P zero ks all = all
drop_all_of P (suc n) [] all = all
drop_all_of P (suc n) (k ∷ ks) all = drop_all_of P n ks all.1

each_changeset : (P : Changeset → Type 0) (ks : List Known) → AllByRecursion (λ k. P k.changeset) ks → AllByRecursion P (changesets ks)
each_changeset P [] all = tt
each_changeset P (k ∷ ks) all = (all.0, each_changeset P ks all.1)

following_all : (P : Changeset → Type 0) (ks : List Known) → AllByRecursion (λ k. P k.changeset) ks → (root : Known) (x : Id) → AllByRecursion P (following root (chain ks x))
following_all P ks all root x =
    each_changeset P (after_first (λ k. bytes_eq k.id root.id) (chain ks x))
    (drop_all_of (λ k. P k.changeset) (position_or_len (λ k. bytes_eq k.id root.id) (chain ks x) + 1) (chain ks x) (chain_all (λ k. P k.changeset) ks all x))

-- ---- no merge

alone_by : (c : Changeset) (found : Option Changeset) (b : Bool) → is_merge c ≡ b → cond b (Some c) found ≡ None → (length c.parents ≤ 1) × (found ≡ None)
alone_by c found true is none = absurd cc
alone_by c found false is none = (ltb-false 1 (length c.parents) is, none)

pub first_alone : (c : Changeset) (cs : List Changeset) → find is_merge (c ∷ cs) ≡ None → (length c.parents ≤ 1) × (find is_merge cs ≡ None)
first_alone c cs none = alone_by c (find is_merge cs) (is_merge c) refl none

keep_all : (cs : List Changeset) → AllByRecursion IsRuled cs → find is_merge cs ≡ None → KeepOnParents cs
keep_all [] all none = tt
keep_all (c ∷ cs) all none = let first = first_alone c cs none in (keeps_on_parent c all.0 first.0, keep_all cs all.1 first.1)

pub stack_keeps : (header : Header) (h : List Entry) → IsLegal header h → (f : store.Fork) → find is_merge (fork_between (known h) f).stack ≡ None → KeepOnParents (fork_between (known h) f).stack
stack_keeps header h legal f none =
    keep_all (fork_between (known h) f).stack
    (following_all IsRuled (known h) (all_ruled header h legal) (known_at (known h) f.root) (known_at (known h) f.draft).id) none
