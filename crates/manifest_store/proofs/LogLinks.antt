-- The links of nodes lead to the last change of a path, by its number.
use Rattle.std.proofs.Common.{◌≡◌, ℕ, zero, suc, ◌<◌, Bool, true, false, cond, List, [], ◌∷◌, ◌++◌, length, map as list_map, drop, drop-cons, get_or, add-one, ◌+◌, append_assoc, refl, sym, ap, subst, ◌∙◌}
use Rattle.std.specs.Prelude.{Option, Some, None, is_some, filter_map, Result, Ok, Err, ◌==◌, not}
use Rattle.std.specs.List.{All, AllByRecursion, cons_option}
use Rattle.std.specs.Option.{option_and_then, option_map_or}
use Rattle.std.specs.FinMap as map
use Rattle.std.proofs.lemmas.List.Elements.{All-filter, All-from_recursion, recursion_from_All}
use Rattle.std.proofs.lemmas.List.{length-map}
use Rattle.byte_fields.specs.Bytes.{Id}
use Rattle.byte_fields.proofs.Booleans.{same_some}
use Rattle.changeset_model.specs.Path.{Path}
use Rattle.changeset_model.specs.Changeset.{File, id_of}
use Rattle.history_model.specs.History.{Known, is_known}
use Rattle.history_model.specs.Past.{Past, Begin}
use Rattle.history_model.specs.Tree.{files_in, is_dir, tree_of}
use Rattle.manifest_model.specs.Unode.{Unode, UnodeEntry, UnodeFile, UnodeDir, linknode_of}
use Rattle.manifest_model.specs.Merged.{unode_at as unode_of}
use Rattle.manifest_model.specs.Deleted.{deleted, deleted_at as deleted_in, deleted_bytes, last_deletion}
use Rattle.deleted_node.specs.Lookup.{link_in as link_read}
use Rattle.deleted_node.proofs.Named.{link_found}
use Rattle.deleted_node.proofs.Spelled.{deleted_is_read}
use Rattle.deleted_node.proofs.Within.{link_is, nothing_without}
use Rattle.reply_model.specs.Reply.{Absent, AbsentChangeset, NoPath, refuse_if, ◌>>=◌}
use Rattle.node_table.specs.Reads.{deleted_link_in}
use Rattle.node_table.specs.Table.{Table, is_settled}
use Rattle.node_table.specs.declared.roots.Roots.{Roots}
use Rattle.changeset_store.specs.Store.{number_in, known_at, changeset_at, parent_at, second_parent_at}
use Rattle.changeset_store.specs.Pasts.{past_at, past_at_some}
use Rattle.changeset_store.proofs.Places.{known_at-changeset}
use Rattle.path_log.specs.Line.{IsEarlier, last_logged, line_within, line, logged}
use Rattle.path_log.specs.Pasts.{TellsPasts, id_in, last_past}
use Rattle.path_log.proofs.Links.{last_is}
use Rattle.path_log.proofs.Logs.{deleted_is_last}
use Rattle.path_log.proofs.Numbers.{last_by_numbers, log_by_numbers}
use Rattle.manifest_store.specs.Manifests.{AreManifests}
use Rattle.manifest_store.specs.Nodes.{entry_id, deleted_entry_under, file_under, unode_entry_under, walk}
use Rattle.manifest_store.specs.Reads.{logged_ids, path_log_at}
use Rattle.manifest_store.specs.PathLines.{has_file_at, is_logged_at, link_at}
use Rattle.manifest_store.proofs.GoneNodes.{gone_got, gone_missing}
use Rattle.manifest_store.proofs.Held.{un_node}
use Rattle.manifest_store.proofs.Earlier.{parent_lower}
use Rattle.manifest_store.proofs.Lines.{its_number, known_here, own_id}
use Rattle.manifest_store.proofs.Makers.{held_node}
use Rattle.manifest_store.proofs.Pasts.{past_step}
use Rattle.manifest_store.proofs.Reading.{un_found, un_missing, un_no_file}

-- ids that are told one by one
pub ids_more : (f : ℕ → Id) (ns : List ℕ) (i d : ℕ) → i < length ns → (ids new : List Id) (x : Id) (total : List Id) → ids ++ list_map f (drop i ns) ≡ total → new ≡ ids ++ x ∷ [] → x ≡ f (get_or ns i d) → new ++ list_map f (drop (i + 1) ns) ≡ total
ids_more f ns i d less ids new x total so_far grows is =
    ap (λ ys. ys ++ list_map f (drop (i + 1) ns)) grows
    ∙ append_assoc ids (x ∷ []) (list_map f (drop (i + 1) ns))
    ∙ (λ j. ids ++ is j ∷ list_map f (drop (add-one i j) ns))
    ∙ sym (ap (λ ys. ids ++ list_map f ys) (drop-cons ns i d less))
    ∙ so_far

-- ---- numbers stand for pasts

deleted_told : (past : Past) (p : Path) → deleted_in past p ≡ cond (is_some (tree_of past p)) None (id_in (last_past past p))
deleted_told past p = by (tree_of past p) refl
  where
    by : (o : Option File) → tree_of past p ≡ o → deleted_in past p ≡ cond (is_some o) None (id_in (last_past past p))
    by (Some f) e = ap (λ o. cond (is_some o) None (last_deletion past p)) e
    by None e = deleted_is_last past p e

module _ (ks : List Known) (t : Table) (a : AreManifests ks t) where
  pub earlier : IsEarlier (is_settled t) (parent_at ks)
  earlier n q may e = (parent_lower ks a.store n q (a.numbered n may) e, a.parents n q may e)

  tells : TellsPasts (is_settled t) (parent_at ks) (past_at ks)
  tells n may = (known_at ks n, past_at_some ks (second_parent_at ks n), past_step ks a.store n (a.numbered n may))

  id_there : (n : ℕ) → is_settled t n ≡ true → id_in (past_at ks n) ≡ Some (known_at ks n).id
  id_there n may = ap id_in (past_step ks a.store n (a.numbered n may))

  module _ (n : ℕ) (settled : is_settled t n ≡ true) (p : Path) where
    abbrev last_number : Option ℕ
    last_number = last_logged (parent_at ks) (is_logged_at ks p) n

    -- the last that is logged, by its number
    number_of_last : option_and_then (number_in ks) (id_in (last_past (past_at ks n) p)) ≡ last_number
    number_of_last = ap (λ past. option_and_then (number_in ks) (id_in past)) (sym (last_by_numbers (is_settled t) (parent_at ks) (past_at ks) p earlier tells n settled)) ∙ by last_number refl
      where
        by : (o : Option ℕ) → last_number ≡ o → option_and_then (number_in ks) (id_in (option_map_or (past_at ks) o Begin)) ≡ o
        by None e = refl
        by (Some m) e =
            let may = (last_is (is_settled t) (parent_at ks) earlier (is_logged_at ks p) n m settled e).may in
            ap (option_and_then (number_in ks)) (id_there m may) ∙ its_number ks a.store m (a.numbered m may)

    pub gone_by : (b : Bool) (x : Option Id) → x ≡ cond b None (id_in (last_past (past_at ks n) p)) → option_and_then (number_in ks) x ≡ cond b None last_number
    gone_by true x e = ap (option_and_then (number_in ks)) e
    gone_by false x e = ap (option_and_then (number_in ks)) e ∙ number_of_last

    -- ---- by the nodes of the changeset

    abbrev q : Past
    q = past_at ks n

    -- who made the unode of a file
    abbrev link_if : Bool → Option Id
    link_if b = cond b (Some (link_at ks p n)) None

    module _ (r : Roots) (at : Some r ≡ map.get t.roots n) where
      pub no_setter : None ≡ walk (unode_entry_under t.nodes) (UnodeDir r.unode) p → None ≡ link_if (has_file_at ks p n)
      no_setter e = sym (ap (λ o. link_if (is_some o)) (un_missing ks t a n settled r at p e))

      pub dir_setter : (id : Id) → Some (UnodeDir id) ≡ walk (unode_entry_under t.nodes) (UnodeDir r.unode) p → None ≡ link_if (has_file_at ks p n)
      dir_setter id e = sym (ap (λ o. link_if (is_some o)) (un_no_file ks t a n settled r at p id e))

      module _ (id : Id) (e : Some (UnodeFile id) ≡ walk (unode_entry_under t.nodes) (UnodeDir r.unode) p) where
        found : (is_dir (files_in q) p ≡ false) × (f : File) × (tree_of q p ≡ Some f) × (id ≡ un_node q p)
        found = un_found ks t a n settled r at p id e

        node_there : file_under t.nodes id ≡ Some (unode_of q p)
        node_there = ap (file_under t.nodes) found.3 ∙ held_node ks t a p n settled (found.1, found.2)

        pub setter_there : None ≡ file_under t.nodes id → ⊥
        setter_there gone = absurd (cc (gone ∙ node_there))

        pub setter_is : (u : Unode) → Some u ≡ file_under t.nodes id → Some (linknode_of u) ≡ link_if (has_file_at ks p n)
        setter_is u here =
            ap (λ v. Some (linknode_of v)) (same_some u (unode_of q p) (here ∙ node_there))
            ∙ sym (ap (λ o. link_if (is_some o)) found.2)

      -- ---- by its deleted nodes

      pub no_deleter : None ≡ walk (deleted_entry_under t.nodes) (UnodeDir r.deleted) p → None ≡ cond (has_file_at ks p n) None (id_in (last_past (past_at ks n) p))
      no_deleter e = sym (nothing_without (past_at ks n) p (gone_missing ks t a n settled r at p e)) ∙ deleted_told (past_at ks n) p

      module _ (e : UnodeEntry) (id : Id) (same : id ≡ entry_id e) (h : Some e ≡ walk (deleted_entry_under t.nodes) (UnodeDir r.deleted) p) where
        deleter_there : map.get t.nodes id ≡ Some (deleted_bytes (deleted (past_at ks n) p))
        deleter_there = gone_got ks t a n settled r at p e id same h

        pub deleter_read : (x : Option Id) → x ≡ deleted_link_in t.nodes id → x ≡ cond (has_file_at ks p n) None (id_in (last_past (past_at ks n) p))
        deleter_read x is =
            is ∙ ap (option_and_then link_read) deleter_there
            ∙ link_found (deleted_bytes (deleted (past_at ks n) p)) (deleted (past_at ks n) p) (deleted_is_read (deleted (past_at ks n) p) ((a.right n (a.numbered n settled)).deletions p))
            ∙ link_is (past_at ks n) p ∙ deleted_told (past_at ks n) p

  -- ---- the whole log

  line_may : (k m : ℕ) → is_settled t m ≡ true → AllByRecursion (λ m. is_settled t m ≡ true) (line_within k (parent_at ks) m)
  line_may zero m may = tt
  line_may (suc k) m may = (may, rest (line_may k) (parent_at ks m) refl)
    where
      rest : ((q : ℕ) → is_settled t q ≡ true → AllByRecursion (λ m. is_settled t m ≡ true) (line_within k (parent_at ks) q)) → (o : Option ℕ) → parent_at ks m ≡ o → AllByRecursion (λ m. is_settled t m ≡ true) (option_map_or (line_within k (parent_at ks)) o [])
      rest later None e = tt
      rest later (Some q) e = later q (a.parents m q may e)

  ids_by : (ns : List ℕ) → AllByRecursion (λ m. is_settled t m ≡ true) ns → filter_map (λ m. id_in (past_at ks m)) ns ≡ list_map (λ m. id_of (changeset_at ks m)) ns
  ids_by [] all = refl
  ids_by (m ∷ ns) all = λ i. cons_option ((id_there m all.0 ∙ ap Some (own_id ks a.store m (a.numbered m all.0) ∙ ap id_of (known_at-changeset ks m))) i) (ids_by ns all.1 i)

  module _ (n : ℕ) (settled : is_settled t n ≡ true) (p : Path) where
    abbrev logged_numbers : List ℕ
    logged_numbers = logged (parent_at ks) (is_logged_at ks p) n

    are_settled : All (λ m. is_settled t m ≡ true) logged_numbers
    are_settled = All-filter (is_logged_at ks p) (λ m. is_settled t m ≡ true) (line (parent_at ks) n) (All-from_recursion (λ m. is_settled t m ≡ true) (line (parent_at ks) n) (line_may (suc n) n settled))

    pub are_known_numbers : (ns : List ℕ) → ns ≡ logged_numbers → All (λ m. m < length ks) ns
    are_known_numbers ns e = subst (All (λ m. m < length ks)) (sym e) (λ k d h. a.numbered _ (are_settled k d h))

    -- the ids of what is logged
    pub ids_are : list_map (λ m. id_of (changeset_at ks m)) logged_numbers ≡ logged_ids ks n p
    ids_are =
        sym (ids_by logged_numbers (recursion_from_All (λ m. is_settled t m ≡ true) logged_numbers are_settled))
        ∙ log_by_numbers (is_settled t) (parent_at ks) (past_at ks) p earlier tells n settled

    pub as_many : length logged_numbers ≡ length (logged_ids ks n p)
    as_many = sym (length-map logged_numbers (λ m. id_of (changeset_at ks m))) ∙ ap length ids_are

    abbrev log_as : Bool → Bool → List Id → Result (List Id) Absent
    log_as known none ids = refuse_if (not known) (AbsentChangeset (known_at ks n).id) >>= (λ _. refuse_if none NoPath >>= (λ _. Ok ids))

    known_one : is_known ks (known_at ks n).id ≡ true
    known_one = known_here ks n (a.numbered n settled)

    pub log_read : (ns : List ℕ) → ns ≡ logged_numbers → (length ns == 0) ≡ false → (ids : List Id) → ids ≡ list_map (λ m. id_of (changeset_at ks m)) ns → path_log_at ks n p ≡ Ok ids
    log_read ns e some ids is =
        let all : ids ≡ logged_ids ks n p = is ∙ ap (list_map (λ m. id_of (changeset_at ks m))) e ∙ ids_are in
        (λ i. log_as (known_one i) (length (sym all i) == 0) (sym all i))
        ∙ ap (λ b. log_as true b ids) (ap (λ xs. length xs == 0) is ∙ ap (λ k. k == 0) (length-map ns (λ m. id_of (changeset_at ks m))) ∙ some)

    pub log_missing : (ns : List ℕ) → ns ≡ logged_numbers → (length ns == 0) ≡ true → path_log_at ks n p ≡ Err NoPath
    log_missing ns e none =
        λ i. log_as (known_one i) ((ap (λ k. k == 0) (sym (ap length e ∙ as_many)) ∙ none) i) (logged_ids ks n p)
