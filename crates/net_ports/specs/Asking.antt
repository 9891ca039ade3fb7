-- The head of a request of HTTP/1.1 (RFC 9112), of which each line ends in CR LF or in LF alone.
--     has_head bytes      after any empty lines there is a line, and an empty line behind it or behind a later one
--     place_after place byte      where the byte after this one stands
use Rattle.std.specs.Prelude.{ℕ, Bool, true, false, ◌==◌, if◌then◌else◌, List, fold}
use Rattle.net_ports.specs.declared.asking.Place.{Place}
use Rattle.net_ports.specs.declared.asking.Place.TheVariants.{Before, BeforeLineFeed, Within, AtLine, AtLineFeed, Behind}

abbrev pub line_feed : ℕ
line_feed = 10

abbrev pub carriage_return : ℕ
carriage_return = 13

abbrev pub place_after : Place → ℕ → Place
place_after Before byte = if byte == line_feed then Before else (if byte == carriage_return then BeforeLineFeed else Within)
place_after BeforeLineFeed byte = if byte == line_feed then Before else Within
place_after Within byte = if byte == line_feed then AtLine else Within
place_after AtLine byte = if byte == line_feed then Behind else (if byte == carriage_return then AtLineFeed else Within)
place_after AtLineFeed byte = if byte == line_feed then Behind else Within
place_after Behind byte = Behind

abbrev pub is_behind : Place → Bool
is_behind Before = false
is_behind BeforeLineFeed = false
is_behind Within = false
is_behind AtLine = false
is_behind AtLineFeed = false
is_behind Behind = true

abbrev pub has_head : List ℕ → Bool
has_head bytes = is_behind (fold place_after Before bytes)
