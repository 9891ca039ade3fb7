-- A changeset of one edit keeps the rules, so that it is made unless memory runs out.
use Rattle.std.proofs.Common.{◌≡◌, ℕ, true, cond, [], ◌∷◌, refl, ap}
use Rattle.std.specs.Prelude.{None, Some, option_map}
use Rattle.std.specs.Option.{option_or}
use Rattle.std.proofs.lemmas.Bool.{and_from, both_ways}
use Rattle.byte_fields.specs.Bytes.{Id, is_bytes}
use Rattle.changeset_model.specs.Path.{Path}
use Rattle.changeset_model.specs.Version.{First}
use Rattle.changeset_model.specs.Changeset.{Changeset, File, FileChange, Set, Delete, are_changes, is_author, is_changeset, is_copied, is_message, self_conflict, source_of}
use Rattle.bonsai.specs.Making.{IsFault, keep_sizes, keep_sources, keeps_size}
use Rattle.bonsai.specs.declared.making.FieldsFault.{FieldsFault}
use Rattle.bonsai.specs.declared.making.FieldsFault.TheVariants.{BadParents, BadAuthor, BadMessage, TooManyEdits, TooLarge, BadSource, Unordered, SelfConflict, Memory}
use Rattle.run_gen.specs.Stacks.{client_name, edited, message_of}
use Rattle.bonsai.proofs.Between.{not_above_itself as not_under_itself}
use Rattle.bonsai.proofs.Rules.{edits_keep}

module _ (c j k : ℕ) (parent : Id) (edit : Path × FileChange) where
  abbrev it : Changeset
  it = edited c j k parent edit

  conflict_by : (change : FileChange) → self_conflict (edited c j k parent (edit.0, change)) ≡ None
  conflict_by (Set f copied) = ap (λ t. option_or (option_map (λ (short : Path × File). (short.0, edit.0)) (cond t (Some (edit.0, f)) None)) None) (not_under_itself edit.0)
  conflict_by Delete = refl

  no_conflict : self_conflict it ≡ None
  no_conflict = conflict_by edit.1

  module _ (id : is_bytes 32 parent ≡ true) (author : is_author (client_name c) ≡ true) (message : is_message (message_of j k) ≡ true) (rules : keeps_size edit ≡ true) (no_source : source_of edit.1 ≡ None) where
    sizes : keep_sizes (edit ∷ []) ≡ true
    sizes = and_from _ _ rules refl

    sources : keep_sources First 1 (edit ∷ []) ≡ true
    sources = and_from _ _ (ap (is_copied First 1) no_source) refl

    changes : are_changes First 1 (edit ∷ []) ≡ true
    changes = and_from _ _ (edits_keep First 1 (edit ∷ []) sizes sources) refl

    keeps : is_changeset it ≡ true
    keeps = and_from _ _ (and_from _ _ (and_from _ _ (and_from _ _ (and_from _ _ id author) refl) refl) message) changes

    pub only_memory : (fault : FieldsFault) → IsFault fault it → fault ≡ Memory
    only_memory BadParents f = absurd (both_ways _ f id)
    only_memory BadAuthor f = absurd (both_ways _ f author)
    only_memory BadMessage f = absurd (both_ways _ f message)
    only_memory TooManyEdits f = absurd (both_ways true f refl)
    only_memory TooLarge f = absurd (both_ways _ f sizes)
    only_memory BadSource f = absurd (both_ways _ f sources)
    only_memory Unordered f = absurd (both_ways true f refl)
    only_memory (SelfConflict short long) f = absurd (cc (f.1, no_conflict))
    only_memory Memory f = refl
