-- Changesets with two parents on a line of first parents.
--     line_at ks n      the changeset of a number, its first parent and so on
--     nearest_merge_at ks n      the number of the first of these that has two parents
--     IsBetween ks above m n      what follows an ancestor is what follows it up to m, which it is an ancestor of, and what follows m
use Rattle.std.specs.Prelude.{◌≡◌, ℕ, List, ◌++◌, find, Option}
use Rattle.std.specs.Option.{option_and_then}
use Rattle.history_model.specs.History.{Known}
use Rattle.history_model.specs.Chain.{line}
use Rattle.reply_model.specs.Reply.{is_merge}
use Rattle.changeset_store.specs.Store.{number_in, known_at}
use Rattle.changeset_store.specs.Fork.{following_at, IsAncestor}

abbrev pub line_at : List Known → ℕ → List Known
line_at ks n = line ks (known_at ks n).id

abbrev pub nearest_merge_at : List Known → ℕ → Option ℕ
nearest_merge_at ks n = option_and_then (λ k. number_in ks k.id) (find (λ k. is_merge k.changeset) (line_at ks n))

pub record IsBetween (ks : List Known) (above m n : ℕ) : Type 0 where
  pub ancestor : IsAncestor ks above m
  pub following : following_at ks above n ≡ following_at ks above m ++ following_at ks m n
