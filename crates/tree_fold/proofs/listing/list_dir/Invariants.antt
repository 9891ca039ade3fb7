use Rattle.std.proofs.Common.{◌≡◌, ◌++◌, map}
use Rattle.std.specs.Prelude.{option_map}
use Rattle.history_model.specs.Tree.{below, children}
use Rattle.tree_fold.specs.Listing.{dir_path, listed}
use Rattle.tree_fold.specs.View.{files_view, child_view}
use Rattle.tree_fold.proofs.Children.{left_in, from_dir}
use Rattle.tree_fold.proofs.listing.list_dir.Given as goal

-- what was listed, with what is left to list, is what is to be listed
abbrev pub invariant-loop-path : goal.invariant-loop-path
invariant-loop-path l = map child_view l.children.items ++ listed (option_map (λ n. n.now) l.before) (from_dir (dir_path l.dir) (left_in l.dir l.path-iterator)) ≡ children (below (dir_path l.dir) (files_view l.files.entries))
