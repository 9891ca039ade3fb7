-- The entries of a node in a map by their names, and in a list by rising names.
use Rattle.std.proofs.Common.{◌≡◌, ◌<◌, ◌^◌, Bool, true, false, cond, ◌&&◌, List, [], ◌∷◌, ◌++◌, length, refl, sym, ap, ◌∙◌, arith, append-nil, append_assoc}
use Rattle.std.specs.Prelude.{Option, None, Some, option_map}
use Rattle.std.specs.Cmp.{eq_by_cmp_equiv}
use Rattle.std.specs.Cmp.Lexicographic.{nat_list_cmp_total}
use Rattle.std.specs.List.{AllByRecursion, list_all}
use Rattle.std.specs.List.Sorted.{IsStrictlySortedBy}
use Rattle.std.specs.Option.{option_or, option_to_list}
use Rattle.std.specs.Ordering.{eq_by_cmp, is_lt}
use Rattle.std.specs.declared.cmp.Ordering.TheVariants.{Less}
use Rattle.std.specs.Map.{keys_of, lookup}
use Rattle.std.specs.BTreeMap.{BTreeMap, get, is_at}
use Rattle.std.specs.FinMap.{find as find_key, is_sorted, nat_cmp-IsAntisymmetric, slice_cmp-IsAntisymmetric}
use Rattle.std.specs.FinMap.Entries.{below_all, same_entries}
use Rattle.std.proofs.lemmas.Bool.{and_from, lt-ltb}
use Rattle.std.proofs.lemmas.Map.Keys.{sorted_head, sorted_tail}
use Rattle.byte_fields.specs.Bytes.{Id, is_bytes}
use Rattle.changeset_model.specs.Path.{is_element}
use Rattle.manifest_model.specs.Deleted.{DeletedNode, is_deleted}
use Rattle.manifest_model.specs.Fsnode.{are_entries}
use Rattle.manifest_laws.proofs.Lists.{is_so, list_all_append}
use Rattle.manifest_laws.proofs.Names.{Name, name_cmp}
use Rattle.deleted_node.specs.declared.entry.DeletedEntry.{DeletedEntry}
use Rattle.deleted_node.specs.Parts.{children_seen, entry_seen}
use Rattle.node_fields.specs.declared.child.Child.{Child}
use Rattle.deleted_step.specs.declared.opened.Opened.{Opened}
use Rattle.deleted_step.specs.Opened.{IsOf, among, among_seen}

abbrev Entries : Type 0
Entries = BTreeMap Name DeletedEntry

-- ---- a name more

map_cond : {A B : Type 0} (f : A → B) (b : Bool) (x : A) (o : Option A) → option_map f (cond b (Some x) o) ≡ cond b (Some (f x)) (option_map f o)
map_cond f true x o = refl
map_cond f false x o = refl

turned : (n m : Name) → eq_by_cmp name_cmp n m ≡ eq_by_cmp name_cmp m n
turned n m = (eq_by_cmp_equiv nat_list_cmp_total).symm n m

pub put_in : (old new : Entries) (k : Name) (x : DeletedEntry) → ((q : Name) → get name_cmp new q ≡ cond (is_at (name_cmp k) q) (Some x) (get name_cmp old q)) → (n : Name) → among new n ≡ cond (eq_by_cmp name_cmp k n) (Some (entry_seen x)) (among old n)
put_in old new k x updates n = ap (option_map entry_seen) (updates n) ∙ map_cond entry_seen (is_at (name_cmp k) n) x (get name_cmp old n)

none_cond : {A B : Type 0} (f : A → B) (b : Bool) (o : Option A) → option_map f (cond b None o) ≡ cond b None (option_map f o)
none_cond f true o = refl
none_cond f false o = refl

pub taken_out : (old new : Entries) (k : Name) → ((q : Name) → get name_cmp new q ≡ cond (is_at (name_cmp k) q) None (get name_cmp old q)) → (n : Name) → among new n ≡ cond (eq_by_cmp name_cmp k n) None (among old n)
taken_out old new k updates n = ap (option_map entry_seen) (updates n) ∙ none_cond entry_seen (is_at (name_cmp k) n) (get name_cmp old n)

-- ---- from a list

or_last : (b : Bool) (v : Id) (y : Option Id) → option_or (cond b (Some v) None) y ≡ cond b (Some v) y
or_last true v y = refl
or_last false v y = refl

or_first : (b : Bool) (v : Id) (o p y z : Option Id) → option_or o y ≡ option_or p z → option_or (cond b (Some v) o) y ≡ option_or (cond b (Some v) p) z
or_first true v o p y z h = refl
or_first false v o p y z h = h

found_last : (cs : List (Child DeletedEntry)) (c : Child DeletedEntry) (n : Name) (y : Option Id) → option_or (find_key name_cmp n (children_seen (cs ++ c ∷ []))) y ≡ option_or (find_key name_cmp n (children_seen cs)) (cond (eq_by_cmp name_cmp n c.name) (Some (entry_seen c.entry)) y)
found_last [] c n y = or_last (eq_by_cmp name_cmp n c.name) (entry_seen c.entry) y
found_last (x ∷ cs) c n y =
    or_first (eq_by_cmp name_cmp n x.name) (entry_seen x.entry) (find_key name_cmp n (children_seen (cs ++ c ∷ []))) (find_key name_cmp n (children_seen cs)) y (cond (eq_by_cmp name_cmp n c.name) (Some (entry_seen c.entry)) y) (found_last cs c n y)

abbrev pub AreTaken : List (Child DeletedEntry) → List (Child DeletedEntry) → Entries → Type 0
AreTaken all left m = (n : Name) → option_or (find_key name_cmp n (children_seen left)) (among m n) ≡ find_key name_cmp n (children_seen all)

pub one_taken : (all left rest : List (Child DeletedEntry)) (c : Child DeletedEntry) (old new : Entries) → AreTaken all left old → left ≡ rest ++ c ∷ [] → ((q : Name) → get name_cmp new q ≡ cond (is_at (name_cmp c.name) q) (Some c.entry) (get name_cmp old q)) → AreTaken all rest new
one_taken all left rest c old new are is updates n =
    ap (option_or (find_key name_cmp n (children_seen rest))) (put_in old new c.name c.entry updates n ∙ ap (λ b. cond b (Some (entry_seen c.entry)) (among old n)) (turned c.name n))
    ∙ sym (found_last rest c n (among old n))
    ∙ ap (λ cs. option_or (find_key name_cmp n (children_seen cs)) (among old n)) (sym is)
    ∙ are n

or_nothing : (o : Option Id) → option_or o None ≡ o
or_nothing None = refl
or_nothing (Some x) = refl

pub none_taken : (all : List (Child DeletedEntry)) (m : Entries) → m.entries ≡ [] → AreTaken all all m
none_taken all m e n = ap (λ es. option_or (find_key name_cmp n (children_seen all)) (option_map entry_seen (lookup (is_at (name_cmp n)) es))) e ∙ or_nothing (find_key name_cmp n (children_seen all))

pub all_taken : (all left : List (Child DeletedEntry)) (m : Entries) → left ≡ [] → AreTaken all left m → (n : Name) → among m n ≡ find_key name_cmp n (children_seen all)
all_taken all left m e are n = ap (λ cs. option_or (find_key name_cmp n (children_seen cs)) (among m n)) (sym e) ∙ are n

-- ---- into a list

pub found_seen : (es : List (Name × DeletedEntry)) (n : Name) → find_key name_cmp n (among_seen es) ≡ option_map entry_seen (lookup (is_at (name_cmp n)) es)
found_seen [] n = refl
found_seen (e ∷ es) n = ap (cond (is_at (name_cmp n) e.0) (Some (entry_seen e.1))) (found_seen es n) ∙ sym (map_cond entry_seen (is_at (name_cmp n) e.0) e.1 (lookup (is_at (name_cmp n)) es))

below_seen : (n : Name) (es : List (Name × DeletedEntry)) → AllByRecursion (λ m. name_cmp n m ≡ Less) (keys_of es) → below_all name_cmp n (among_seen es) ≡ true
below_seen n [] all = refl
below_seen n (e ∷ es) all = and_from (is_lt (name_cmp n e.0)) (below_all name_cmp n (among_seen es)) (ap is_lt all.0) (below_seen n es all.1)

pub seen_rise : (es : List (Name × DeletedEntry)) → IsStrictlySortedBy name_cmp (keys_of es) → is_sorted name_cmp (among_seen es) ≡ true
seen_rise [] rises = refl
seen_rise (e ∷ es) rises =
    and_from (below_all name_cmp e.0 (among_seen es)) (is_sorted name_cmp (among_seen es)) (below_seen e.0 es (sorted_head name_cmp e.0 (keys_of es) rises)) (seen_rise es (sorted_tail name_cmp e.0 (keys_of es) rises))

pub record AreListed (all : List (Name × DeletedEntry)) (list : List (Child DeletedEntry)) (rest : List (Name × DeletedEntry)) : Type 0 where
  pub entries : children_seen list ++ among_seen rest ≡ among_seen all
  pub named : list_all (λ e. is_element e.0) (children_seen list) ≡ true
  pub ids : list_all (λ e. is_bytes 32 e.1) (children_seen list) ≡ true

pub none_listed : (all : List (Name × DeletedEntry)) (list : List (Child DeletedEntry)) → list ≡ [] → AreListed all list all
none_listed all list e = record {
  entries = ap (λ cs. children_seen cs ++ among_seen all) e;
  named = ap (λ cs. list_all (λ (x : Name × Id). is_element x.0) (children_seen cs)) e;
  ids = ap (λ cs. list_all (λ (x : Name × Id). is_bytes 32 x.1) (children_seen cs)) e;
}

module _ (all rest es : List (Name × DeletedEntry)) (list more : List (Child DeletedEntry)) (n : Name) (x : DeletedEntry) (is : rest ≡ (n, x) ∷ es) (pushed : children_seen more ≡ children_seen list ++ (n, entry_seen x) ∷ []) where
  pub one_listed : is_element n ≡ true → is_bytes 32 x.id ≡ true → AreListed all list rest → AreListed all more es
  one_listed name id are = record {
    entries =
        ap (λ cs. cs ++ among_seen es) pushed
        ∙ append_assoc (children_seen list) ((n, entry_seen x) ∷ []) (among_seen es)
        ∙ ap (λ rest. children_seen list ++ among_seen rest) (sym is)
        ∙ are.entries;
    named = ap (list_all (λ (e : Name × Id). is_element e.0)) pushed ∙ list_all_append (λ (e : Name × Id). is_element e.0) (children_seen list) ((n, entry_seen x) ∷ []) are.named (ap (λ b. b && true) name);
    ids = ap (list_all (λ (e : Name × Id). is_bytes 32 e.1)) pushed ∙ list_all_append (λ (e : Name × Id). is_bytes 32 e.1) (children_seen list) ((n, entry_seen x) ∷ []) are.ids (ap (λ b. b && true) id);
  }

pub whole_list : (all : List (Name × DeletedEntry)) (list : List (Child DeletedEntry)) (rest : List (Name × DeletedEntry)) → length rest ≡ 0 → AreListed all list rest → children_seen list ≡ among_seen all
whole_list all list [] e are = sym (append-nil (children_seen list)) ∙ are.entries
whole_list all list (x ∷ rest) e are = absurd (omega (arith, e))

-- ---- the rules, and the node

pub rules_of : (es : List (Name × Id)) → length es < 2 ^ 32 → list_all (λ e. is_element e.0) es ≡ true → is_sorted name_cmp es ≡ true → are_entries es ≡ true
rules_of es short named rises = λ i. (lt-ltb (length es) (2 ^ 32) short i && named i) && rises i

pub node_rules : (link : Option Id) (es : List (Name × Id)) → list_all (is_bytes 32) (option_to_list link) ≡ true → are_entries es ≡ true → list_all (λ e. is_bytes 32 e.1) es ≡ true → is_deleted (record { link = link; entries = es }) ≡ true
node_rules link es one two three = λ i. (one i && two i) && three i

pub same_node : (o : Opened) (n : DeletedNode) (link : Option Id) (es : List (Name × Id)) → is_sorted name_cmp n.entries ≡ true → IsOf o n → link ≡ o.link → es ≡ among_seen o.entries.entries → is_sorted name_cmp es ≡ true → ◌≡◌ {A = DeletedNode} (record { link = link; entries = es }) n
same_node o n link es rises of same is sorted =
    let all : es ≡ n.entries = same_entries name_cmp nat_list_cmp_total (slice_cmp-IsAntisymmetric nat_cmp-IsAntisymmetric) es n.entries (is_so (is_sorted name_cmp es) sorted) (is_so (is_sorted name_cmp n.entries) rises) (λ m. ap (find_key name_cmp m) is ∙ found_seen o.entries.entries m ∙ of.entries m) in
    λ i. record { link = (same ∙ of.link) i; entries = all i }
