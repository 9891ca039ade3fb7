-- Words that ask for a session.
--     is_session request      they do
--     is_value part      a word of this kind is a value
use Rattle.std.specs.Prelude.{Bool, true, false, Option, Some, None}
use Rattle.program_words.specs.Words.{Part, a_value, an_escape, asks_help, asks_version, a_wrong_flag, Request, init, session, serve, fsck, migrate, gen, follow, help, version}

abbrev pub is_session : Option Request → Bool
is_session (Some (init file capacity)) = false
is_session (Some (session file)) = true
is_session (Some (serve file address lanes derivers connections)) = false
is_session (Some (fsck file)) = false
is_session (Some (migrate old new)) = false
is_session (Some (gen seed stacks clients)) = false
is_session (Some (follow file address)) = false
is_session (Some help) = false
is_session (Some version) = false
is_session None = false

abbrev pub is_value : Part → Bool
is_value a_value = true
is_value an_escape = false
is_value asks_help = false
is_value asks_version = false
is_value a_wrong_flag = false
