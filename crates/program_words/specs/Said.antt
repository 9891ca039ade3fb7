-- The request that a command is, and the ranges of its numbers.
use Rattle.std.specs.Prelude.{◌≤◌, ⊤}
use Rattle.program_words.specs.Words.{Request, follow, fsck, gen, help, init, migrate, serve, session, version}
use Rattle.program_words.specs.declared.command.Command.{Command}
use Rattle.program_words.specs.declared.command.Command.TheVariants as command

abbrev pub said_of : Command → Request
said_of (command.Init file capacity) = init file.now capacity
said_of (command.Session file) = session file.now
said_of (command.Serve file address lanes derivers connections) =
    serve file.now address.now lanes derivers connections
said_of (command.Fsck file) = fsck file.now
said_of (command.Migrate old new) = migrate old.now new.now
said_of (command.Gen seed stacks clients) = gen seed stacks clients
said_of (command.Follow file address) = follow file.now address.now
said_of command.Help = help
said_of command.Version = version

abbrev pub IsInRange : Command → Type 0
IsInRange (command.Init file capacity) = (4096 ≤ capacity) × (capacity ≤ 34359738368)
IsInRange (command.Session file) = ⊤
IsInRange (command.Serve file address lanes derivers connections) =
    (1 ≤ lanes) × (lanes ≤ 4096) × (derivers ≤ 8) × (1 ≤ connections) × (connections ≤ 1000000000000000)
IsInRange (command.Fsck file) = ⊤
IsInRange (command.Migrate old new) = ⊤
IsInRange (command.Gen seed stacks clients) =
    (seed ≤ 4294967295) × (1 ≤ stacks) × (stacks ≤ 400) × (1 ≤ clients) × (clients ≤ 8)
IsInRange (command.Follow file address) = ⊤
IsInRange command.Help = ⊤
IsInRange command.Version = ⊤
