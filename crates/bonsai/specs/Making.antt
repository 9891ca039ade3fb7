-- Making a changeset of fields.
--     rises_from before es      each path is greater than the one before it
--     keeps_size e, keep_sizes es      the paths and the sizes keep their rules
--     keep_sources v n es      so do the copy sources, in a changeset of this version with so many parents
--     KeepsOnParent c, KeepOnParents cs      so they do where it has one parent;  of each changeset
--     IsFault fault c      the fields break the rule that the fault names
use Rattle.std.specs.Prelude.{◌≡◌, ℕ, IsTrue, Bool, true, false, ◌&&◌, nat_le, List, [], ◌∷◌, length, Option, Some}
use Rattle.std.specs.List.{AllByRecursion, list_all}
use Rattle.std.specs.FinMap.{is_sorted}
use Rattle.changeset_model.specs.Path.{Path, path_cmp, is_path}
use Rattle.byte_fields.specs.Bytes.{is_bytes}
use Rattle.changeset_model.specs.Version.{Version}
use Rattle.changeset_model.specs.Changeset.{FileChange, Set, Delete, Changeset, most_size, source_of, is_copied, are_changes, are_parents, is_author, is_message, is_changeset, self_conflict}
use Rattle.changeset_model.specs.Decoding.{is_after}
use Rattle.bonsai.specs.declared.limits.TheConstants.{MOST_EDITS}
use Rattle.bonsai.specs.declared.making.FieldsFault.{FieldsFault}
use Rattle.bonsai.specs.declared.making.FieldsFault.TheVariants as faults

abbrev pub rises_from : Option Path → List (Path × FileChange) → Bool
rises_from before [] = true
rises_from before (e ∷ es) = is_after before e.0 && rises_from (Some e.0) es

abbrev pub is_sized : FileChange → Bool
is_sized (Set f copied) = nat_le f.size most_size && is_bytes 32 f.content
is_sized Delete = true

abbrev pub keeps_size : Path × FileChange → Bool
keeps_size e = is_path e.0 && is_sized e.1

abbrev pub keep_sizes : List (Path × FileChange) → Bool
keep_sizes es = list_all keeps_size es

abbrev pub keeps_source : Version → ℕ → Path × FileChange → Bool
keeps_source v n e = is_copied v n (source_of e.1)

abbrev pub keep_sources : Version → ℕ → List (Path × FileChange) → Bool
keep_sources v n es = list_all (keeps_source v n) es

abbrev pub KeepsOnParent : Changeset → Type 0
KeepsOnParent c = IsTrue (are_changes c.version 1 c.changes)

abbrev pub KeepOnParents : List Changeset → Type 0
KeepOnParents cs = AllByRecursion KeepsOnParent cs

-- the same of the edits alone
abbrev pub IsEditsFault : Version → ℕ → FieldsFault → List (Path × FileChange) → Type 0
IsEditsFault v n faults.BadParents es = ⊥
IsEditsFault v n faults.BadAuthor es = ⊥
IsEditsFault v n faults.BadMessage es = ⊥
IsEditsFault v n faults.TooManyEdits es = nat_le (length es) MOST_EDITS ≡ false
IsEditsFault v n faults.TooLarge es = keep_sizes es ≡ false
IsEditsFault v n faults.BadSource es = keep_sources v n es ≡ false
IsEditsFault v n faults.Unordered es = is_sorted path_cmp es ≡ false
IsEditsFault v n (faults.SelfConflict short long) es = ⊥
IsEditsFault v n faults.Memory es = ⊥

abbrev pub IsFault : FieldsFault → Changeset → Type 0
IsFault faults.BadParents c = are_parents c.parents ≡ false
IsFault faults.BadAuthor c = is_author c.author ≡ false
IsFault faults.BadMessage c = is_message c.message ≡ false
IsFault faults.TooManyEdits c = nat_le (length c.changes) MOST_EDITS ≡ false
IsFault faults.TooLarge c = keep_sizes c.changes ≡ false
IsFault faults.BadSource c = keep_sources c.version (length c.parents) c.changes ≡ false
IsFault faults.Unordered c = is_sorted path_cmp c.changes ≡ false
IsFault (faults.SelfConflict short long) c = (is_changeset c ≡ true) × (self_conflict c ≡ Some (short, long))
IsFault faults.Memory c = Unit {0}
