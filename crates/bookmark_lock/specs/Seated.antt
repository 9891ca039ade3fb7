-- What the fields of a seat keep.
use Rattle.std.specs.Prelude.{◌≡◌, ◌∷◌, false, List, [], None, Option}
use Rattle.atomic_table.specs.Table.{Me}
use Rattle.atomic_table.specs.Seated.{TableId}
use Rattle.bookmark_lock.specs.Rule.{spent_view}
use Rattle.bookmark_lock.specs.declared.view.View.{View}

-- the lock's table has nine words and one slot
pub record IsBoard (id : TableId) : Type 0 where
  pub words : id.words ≡ 9
  pub slots : id.slots ≡ 1

module _ {T : Type 0} where
  -- the seat has not the turn, and holds no slot
  pub record IsIdle (m : Me (Option T) View) : Type 0 where
    pub lives : m.0.member.spent ≡ false
    pub waits : m.0.turn ≡ None
    pub bare : m.1 ≡ []

-- the view of a badge that has one
abbrev pub view_in : List View → View
view_in [] = spent_view
view_in (v ∷ vs) = v

-- the views of a badge between two calls: it has one, which is idle and has nothing left to learn
pub record IsSettled (views : List View) : Type 0 where
  pub one : views ≡ view_in views ∷ []
  pub lives : (view_in views).member.spent ≡ false
  pub waits : (view_in views).turn ≡ None
  pub even : (view_in views).member.drawn ≡ (view_in views).member.post.split
  pub learned : (view_in views).member.met ≡ None
