-- Which files a disk may stand on.
--     IsApart file      its number is above those of standard input, output and error, 0 to 2
use Rattle.std.specs.Prelude.{pos, ◌<ℤ◌}
use Rattle.std.specs.declared.fs.File.{File}
use Rattle.std.specs.Fd.{file_raw_fd}

abbrev pub IsApart : File → Type 0
IsApart file = pos 2 <ℤ file_raw_fd file
