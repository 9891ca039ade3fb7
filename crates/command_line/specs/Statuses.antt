-- The exit statuses of the program.
--     status_code s      the number of a status
use Rattle.std.specs.Prelude.{ℕ}
use Rattle.command_line.specs.declared.status.Status.{Status}
use Rattle.command_line.specs.declared.status.Status.TheVariants.{Done, Usage, DiskFault, BadFile, NoMemory, StreamFault, NotEmpty, Cut, Refused, Spent, BadReply, Differs, Full, LoadRefused}

abbrev pub status_code : Status → ℕ
status_code Done = 0
status_code Usage = 1
status_code DiskFault = 2
status_code BadFile = 3
status_code NoMemory = 4
status_code StreamFault = 5
status_code NotEmpty = 6
status_code Cut = 7
status_code Refused = 8
status_code Spent = 9
status_code BadReply = 10
status_code Differs = 11
status_code Full = 12
status_code LoadRefused = 13
