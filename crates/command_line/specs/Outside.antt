-- What is told of the outside world at one moment.
--     Told      of a link;  told ..      that of this one
--     Outside D      of an opener and a link;  outside ..      that of these;  taken_from file create disk shelf      what stands there still, where the file of this name was opened or not
--     Incoming      of what connections come from;  Links      of it before and after, with how many were served;  links ..      that of these;  TakesNone links      none was taken
--     Peer K      of a server that is followed: which link the accept tells that it gives next, the link as it was left, and what is told of a link;  peer ..      of these
--     none_served      none was served;  taken served link      how many links were taken: those that were served, and that to a server which was followed
use Rattle.std.specs.Prelude.{◌≡◌, ℕ, ◌+◌, Bool, if◌then◌else◌, is_some, List, Option, None, Some}
use Rattle.std.specs.Option.{option_map}
use Rattle.ports.specs.Openers.{Shelf, left}
use Rattle.http_front.specs.LinkEnd.{ServedView}

pub record Told : Type 0 where
  -- what is left to read, what was written, and how often a call failed
  pub rest : Option (List ℕ)
  pub written : Option (List ℕ)
  pub faults : ℕ

abbrev pub told : {L : Type 0} (rest written : L → Option (List ℕ)) (faults : L → ℕ) → L → Told
told rest written faults link = record { rest = rest link; written = written link; faults = faults link }

pub record Outside (D : Type 0) : Type 0 where
  -- what stands under the names, and how often opening failed
  pub shelf : Option (Shelf D)
  pub unopened : ℕ
  pub link : Told

abbrev pub outside : {O L D : Type 0} (shelf : O → Option (Shelf D)) (unopened : O → ℕ) (rest written : L → Option (List ℕ)) (faults : L → ℕ) → O → L → Outside D
outside shelf unopened rest written faults opener link = record { shelf = shelf opener; unopened = unopened opener; link = told rest written faults link }

abbrev pub taken_from : {D : Type 0} → List ℕ → Bool → Option D → Option (Shelf D) → Option (Shelf D)
taken_from file create disk shelf = if is_some disk then option_map (left file create) shelf else shelf

pub record Incoming : Type 0 where
  -- how many links it gave, whether it has said that no more will come, and how often a call failed
  pub given : ℕ
  pub over : Bool
  pub faults : ℕ

abbrev pub incoming : {A : Type 0} (given : A → ℕ) (over : A → Bool) (faults : A → ℕ) → A → Incoming
incoming given over faults accept = record { given = given accept; over = over accept; faults = faults accept }

pub record Links : Type 0 where
  pub before : Incoming
  pub after : Incoming
  -- how many were served, and among how many stored entries stands what their sessions were granted
  pub served : ℕ
  pub sealed : ℕ

abbrev pub links : {A : Type 0} (given : A → ℕ) (over : A → Bool) (faults : A → ℕ) (before after : A) → ServedView → Links
links given over faults before after served =
    record { before = incoming given over faults before; after = incoming given over faults after; served = served.count; sealed = served.sealed }

-- no link was taken
pub record TakesNone (links : Links) : Type 0 where
  pub same : links.after ≡ links.before
  pub none : links.served ≡ 0
  pub unsealed : links.sealed ≡ 0

pub record Peer (K : Type 0) : Type 0 where
  pub next : Option (Option K)
  pub left : Option K
  pub tells : K → Told

abbrev pub peer : {A K : Type 0} (next : A → Option (Option K)) (rest written : K → Option (List ℕ)) (faults : K → ℕ) → A → Option K → Peer K
peer next rest written faults accept left = record { next = next accept; left = left; tells = told rest written faults }

abbrev pub none_served : ServedView
none_served = record { count = 0; sealed = 0 }

abbrev pub taken : {K : Type 0} → ServedView → Option K → ServedView
taken served None = served
taken served (Some link) = record served { count = served.count + 1 }
