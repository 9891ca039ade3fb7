-- Summaries whose numbers stay at the greatest that fits.
--     with_entry s e      with one entry more;  capped_by es      of all entries, from the first on
use Rattle.std.specs.Prelude.{ℕ, ◌+◌, ◌-◌, ◌^◌, min, List, fold}
use Rattle.manifest_model.specs.Fsnode.{Summary, FsEntry}
use Rattle.manifest_laws.specs.Summaries.{own_count, own_size, directory_count, all_count, all_size}

abbrev pub capped : ℕ → ℕ
capped n = min n (2 ^ 64 - 1)

abbrev pub with_entry : Summary → FsEntry → Summary
with_entry s e = record {
  child_files_count = capped (s.child_files_count + own_count e);
  child_files_total_size = capped (s.child_files_total_size + own_size e);
  child_dirs_count = capped (s.child_dirs_count + directory_count e);
  descendant_files_count = capped (s.descendant_files_count + all_count e);
  descendant_files_total_size = capped (s.descendant_files_total_size + all_size e);
}

abbrev pub no_entries : Summary
no_entries = record { child_files_count = 0; child_files_total_size = 0; child_dirs_count = 0; descendant_files_count = 0; descendant_files_total_size = 0 }

abbrev pub capped_by : List (List ℕ × FsEntry) → Summary
capped_by es = fold (λ s e. with_entry s e.1) no_entries es
