-- The header of a file.
--     header_view header      it as the definitions see it
--     version_marked bytes      the version of which these are the mark
--     header_in head      the header that the first 16 bytes tell, or what is wrong with them
--     IsHeaded header file      the file tells this header, and opens as its records do
use Rattle.std.specs.Prelude.{◌≡◌, ℕ, if◌then◌else◌, List, [], length, take, drop, bytes_eq, Option, None, Some, Result, Ok, Err}
use Rattle.std.specs.Option.{option_map_or}
use Rattle.std.specs.Int.{w64, from_be_bytes}
use Rattle.changeset_model.specs.Version as model
use Rattle.history_model.specs.Journal as journal
use Rattle.history_model.specs.Journal.{is_header, mark}
use Rattle.reply_model.specs.Opening.{opens, records, version_in}
use Rattle.bonsai.specs.Versions.{version_view}
use Rattle.bonsai.specs.declared.version.Version.{Version}
use Rattle.bonsai.specs.declared.version.Version.TheVariants.{First, Second}
use Rattle.recovery.specs.declared.header.Header.{Header}
use Rattle.recovery.specs.declared.fault.OpenFault.{OpenFault}
use Rattle.recovery.specs.declared.fault.OpenFault.TheVariants.{NotARepository, Damaged}

abbrev pub header_view : Header → journal.Header
header_view header = record { capacity = header.capacity; version = version_view header.version }

abbrev pub version_marked : List ℕ → Option Version
version_marked bytes = if bytes_eq bytes (mark model.First) then Some First else if bytes_eq bytes (mark model.Second) then Some Second else None

abbrev pub within_limits : Header → Result Header OpenFault
within_limits header = if is_header (header_view header) then Ok header else Err (Damaged 8)

abbrev pub header_in : List ℕ → Result Header OpenFault
header_in head = option_map_or (λ version. within_limits (record { capacity = from_be_bytes w64 (drop 8 head); version = version })) (version_marked (take 8 head)) (Err NotARepository)

pub record IsHeaded (header : journal.Header) (file : List ℕ) : Type 0 where
  pub told : from_be_bytes w64 (take 8 (drop 8 file)) ≡ header.capacity
  pub marked : version_in file ≡ Some header.version
  pub opens_is : opens file ≡ records file (length file) header [] 16 (drop 16 file)
