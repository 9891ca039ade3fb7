-- A policy as text: a line for each rule, which is `allow` or `deny`, a space, a name or `*`, a space, and a path or `/`.
--     rule_of line      the rule that a line spells
--     rules_from n lines      the rules of lines of which the first has the number n, or the number of the first that breaks the grammar. Each line is ended by a line feed, so nothing stands in the last one
--     parse text      the rules of a text, or the number of the first line, from 0, that breaks the grammar. A text may have 65,536 bytes and 1,000 lines, and has at least one
use Rattle.std.specs.Prelude.{ℕ, ◌+◌, Bool, true, false, ◌||◌, ◌==◌, nat_lt, if◌then◌else◌, List, [], ◌∷◌, length, bytes_eq, Option, None, Some, Result, Ok, Err, codes}
use Rattle.std.specs.List.{before_first, after_first, slice_split}
use Rattle.changeset_model.specs.Path.{Path, elements, is_path}
use Rattle.history_model.specs.Bookmark.{is_name}
use Rattle.policy_model.specs.Rules.{Rule}

abbrev pub is_space : ℕ → Bool
is_space b = b == 0x20

abbrev pub is_line_feed : ℕ → Bool
is_line_feed b = b == 0x0A

abbrev pub allows_of : List ℕ → Option Bool
allows_of word = if bytes_eq word (codes "allow") then Some true else if bytes_eq word (codes "deny") then Some false else None

abbrev pub name_of : List ℕ → Option (Option (List ℕ))
name_of word = if bytes_eq word (codes "*") then Some None else if is_name word then Some (Some word) else None

abbrev pub elements_of : List ℕ → Option Path
elements_of text = if bytes_eq text (codes "/") then Some [] else if is_path (elements text) then Some (elements text) else None

abbrev pub rule_by : Option Bool → Option (Option (List ℕ)) → Option Path → Option Rule
rule_by None name p = None
rule_by (Some allows) None p = None
rule_by (Some allows) (Some name) None = None
rule_by (Some allows) (Some name) (Some p) = Some (record { allows = allows; name = name; elements = p })

-- the words before the first space and before the next one, and what follows. Where a space is absent, nothing follows, and no name and no path is empty
abbrev pub rule_of : List ℕ → Option Rule
rule_of line = rule_by (allows_of (before_first is_space line)) (name_of (before_first is_space (after_first is_space line))) (elements_of (after_first is_space (after_first is_space line)))

abbrev pub followed_by : ℕ → Option Rule → Result (List Rule) ℕ → Result (List Rule) ℕ
followed_by n None more = Err n
followed_by n (Some r) (Ok rs) = Ok (r ∷ rs)
followed_by n (Some r) (Err line) = Err line

abbrev pub rules_from : ℕ → List (List ℕ) → Result (List Rule) ℕ
rules_from n [] = Err n
rules_from n (line ∷ []) = if length line == 0 then Ok [] else Err n
rules_from n (line ∷ next ∷ lines) = if n == 1000 then Err n else followed_by n (rule_of line) (rules_from (n + 1) (next ∷ lines))

abbrev pub parse : List ℕ → Result (List Rule) ℕ
parse text = if (length text == 0) || nat_lt 65536 (length text) then Err 0 else rules_from 0 (slice_split is_line_feed text)
