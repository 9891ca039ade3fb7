-- What a load comes to.
--     SumsUp h summary      the landings and the stored entries of this history, and the id of the root fsnode of the trunk's head
use Rattle.std.specs.Prelude.{◌≡◌, List, [], length, count_by, Some}
use Rattle.byte_fields.specs.Bytes.{Id}
use Rattle.history_model.specs.Bookmark.{head}
use Rattle.history_model.specs.History.{Entry, known, stored}
use Rattle.history_model.specs.Tree.{files_of}
use Rattle.run_gen.specs.Stacks.{main}
use Rattle.manifest_model.specs.Fsnode.{fsnode, fsnode_id}
use Rattle.repo_machine.specs.Counting.{is_landing}
use Rattle.run_gen.specs.declared.summary.Summary.{Summary}

pub record SumsUp (h : List Entry) (summary : Summary) : Type 0 where
  pub landed : summary.landed ≡ count_by (λ (e : Entry). is_landing e.body) h
  pub entries : summary.entries ≡ length (stored h)
  pub at : Id
  pub head_is : head h main ≡ Some at
  pub root : summary.root ≡ fsnode_id (fsnode (files_of (known h) at) [])
