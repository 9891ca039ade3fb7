-- The entries of an fsnode that is read are those that it spells.
use Rattle.std.proofs.Common.{◌≡◌, ℕ, Bool, true, cond, List, [], sym, ap, ◌∙◌}
use Rattle.std.specs.Prelude.{Ok}
use Rattle.std.specs.Ordering.{nat_cmp}
use Rattle.std.specs.Cmp.Lexicographic.{slice_cmp}
use Rattle.std.specs.FinMap.{is_sorted}
use Rattle.manifest_model.specs.Fsnode.{Fsnode, is_fsnode}
use Rattle.manifest_model.specs.NodeReading.{fsnode_of}
use Rattle.repo_path.proofs.Faults.{first_of_two as first_of, second_of_two as second_of}
use Rattle.merge_walk.specs.Table.{entries_read, entries_spelled}

-- the entries of an fsnode are all kept
pub all_kept : (bytes : List ℕ) (n : Fsnode) → is_fsnode n ≡ true → fsnode_of bytes ≡ Ok n → n.entries ≡ entries_spelled bytes
all_kept bytes n valid e =
    ap (λ b. cond b n.entries []) (sym_of (is_sorted (slice_cmp nat_cmp) n.entries) (second_of _ (is_sorted (slice_cmp nat_cmp) n.entries) (second_of _ _ (first_of _ _ valid))))
    ∙ ap entries_read (sym e)
  where
    sym_of : (b : Bool) → b ≡ true → true ≡ b
    sym_of b h = sym h
