-- A seat among all those of its lock, and what each step makes of it.
use Rattle.std.specs.Prelude.{ℕ, ◌+◌, ◌-◌, Bool, true, false, List, [], ◌∷◌, max, Option, None, Some}
use Rattle.history_model.specs.History.{Entry}
use Rattle.bookmark_lock.specs.Opening.{Opening, unopened}
use Rattle.bookmark_lock.specs.Place.{Post, Sight, longer}
use Rattle.bookmark_lock.specs.Turning.{Turn}

-- what the lead and another seat knew when the lead joined that one
pub record Meeting : Type 0 where
  pub lead : Post
  pub other : Post

-- spent: the lead has joined it. drawn: how many numbers it has drawn. met: the join whose facts it has still to learn
pub record Member : Type 0 where
  pub spent : Bool
  pub post : Post
  pub drawn : ℕ
  pub met : Option Meeting

abbrev pub lead_member : Turn → Opening → Member
lead_member t opening = record { spent = false; post = record { number = 0; front = t.log; sealed = t.sealed; since = t.sealed; reach = t.reach; unsealed = None; disk = t.disk; opening = opening; split = 0; out = 0; joined = [] }; drawn = 0; met = None }

abbrev pub seeing : Post → Sight → Post
seeing p s = record p { front = s.front; sealed = s.sealed; since = s.sealed; reach = s.reach; unsealed = s.unsealed; disk = s.disk }

abbrev pub seen : Member → Sight → Member
seen m s = record m { post = seeing m.post s; met = None }

-- the lead draws a number
abbrev pub drawing : Member → Member
drawing m = record m { drawn = m.drawn + 1 }

-- the lead gives it to a new seat
abbrev pub forking : Member → Member
forking m = record m { post = record m.post { split = m.post.split + 1; out = m.post.out + 1 } }

abbrev pub fork_of : Member → Member
fork_of m =
    record { spent = false; post = record { number = m.post.split + 1; front = m.post.front; sealed = m.post.sealed; since = m.post.since; reach = m.post.reach; unsealed = None; disk = m.post.disk; opening = m.post.opening; split = 0; out = 0; joined = [] }; drawn = 0; met = None }

-- the lead takes in another seat
abbrev pub merge_post : Post → Post → Post
merge_post p q = record p { front = longer p.front q.front; sealed = max p.sealed q.sealed; out = p.out - 1; joined = q.number ∷ p.joined }

abbrev pub merging : Member → Member → Member
merging m n = record m { post = merge_post m.post n.post; met = Some record { lead = m.post; other = n.post } }

-- the lead has learned what the join tells
abbrev pub settling : Member → Member
settling m = record m { met = None }

abbrev pub spent_member : Member
spent_member = record {
  spent = true;
  post = record { number = 0; front = []; sealed = 0; since = 0; reach = 0; unsealed = None; disk = unopened.disk; opening = unopened; split = 0; out = 0; joined = [] };
  drawn = 0;
  met = None;
}
