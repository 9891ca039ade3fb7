-- What a machine holds.
--     Held      header and history, and the room that was made
--     Room      for how many entries, of which how many stored, contents and changesets there is room without memory, and at which bookmarks
--     HasRoom room made      there is room for what a change makes, and for one fault after it
--     repository held      without the room
use Rattle.std.specs.Prelude.{ℕ, ◌≤◌, List, length, Contains, Option, None, Some, refl}
use Rattle.std.specs.Coded.{Coded, code_by, coded_ℕ, coded×, coded_list}
use Rattle.changeset_model.specs.Version.{Version}
use Rattle.changeset_model.specs.Codes.{coded_version}
use Rattle.history_model.specs.History.{Body, Content, Whole, Change, Book, Land, Policy, Fault, Entry}
use Rattle.history_model.specs.Journal.{Header}
use Rattle.history_model.specs.Repository.{Repository}
use Rattle.history_model.specs.Codes.{coded_history}

pub record Room : Type 0 where
  -- entries of any kind, so also faults
  pub entries : ℕ
  -- entries that are stored
  pub stored : ℕ
  pub contents : ℕ
  pub changesets : ℕ
  -- the bookmarks that have a place, whether or not they have a head
  pub names : List (List ℕ)

pub record Held : Type 0 where
  pub header : Header
  pub history : List Entry
  pub room : Room

abbrev pub repository : Held → Repository
repository held = record { header = held.header; history = held.history }

abbrev pub coded_room : Coded Room
coded_room =
    code_by (ℕ × (ℕ × (ℕ × (ℕ × List (List ℕ))))) (coded× coded_ℕ (coded× coded_ℕ (coded× coded_ℕ (coded× coded_ℕ (coded_list (coded_list coded_ℕ))))))
    (λ r. (r.entries, (r.stored, (r.contents, (r.changesets, r.names))))) (λ t. record { entries = t.0; stored = t.1.0; contents = t.1.1.0; changesets = t.1.1.1.0; names = t.1.1.1.1 }) (λ _. refl)

abbrev pub coded_held : Coded Held
coded_held =
    code_by (ℕ × (Version × (List Entry × Room))) (coded× coded_ℕ (coded× coded_version (coded× coded_history coded_room)))
    (λ m. (m.header.capacity, (m.header.version, (m.history, m.room)))) (λ t. record { header = record { capacity = t.0; version = t.1.0 }; history = t.1.1.0; room = t.1.1.1 }) (λ _. refl)

abbrev pub RoomFor : Room → Body → Type 0
RoomFor room (Content x n) = 1 ≤ room.contents
RoomFor room (Whole x n parts) = 1 ≤ room.contents
RoomFor room (Change c) = 1 ≤ room.changesets
RoomFor room (Book move) = Contains room.names move.name
RoomFor room (Land landing) = (length landing.new ≤ room.changesets) × Contains room.names landing.name
RoomFor room (Policy caller text) = Unit {0}
RoomFor room (Fault breaking) = Unit {0}

abbrev pub HasRoom : Room → Option Body → Type 0
HasRoom room None = Unit {0}
HasRoom room (Some body) = (2 ≤ room.entries) × (1 ≤ room.stored) × RoomFor room body
