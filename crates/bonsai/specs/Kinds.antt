-- Types of files as the definitions see them.
--     kind_view k      the type;  kind_field      reads its byte
use Rattle.std.specs.Prelude.{nat_lt}
use Rattle.std.specs.Int.{w8}
use Rattle.byte_fields.specs.Reading.{Reader, value, ◌>>=◌, number}
use Rattle.changeset_model.specs.Changeset.{Kind, Regular, Executable, Symlink}
use Rattle.changeset_model.specs.Decoding.{kind_of}
use Rattle.bonsai.specs.declared.kind.FileKind.{FileKind}
use Rattle.bonsai.specs.declared.kind.FileKind.TheVariants as kinds

abbrev pub kind_view : FileKind → Kind
kind_view kinds.Regular = Regular
kind_view kinds.Executable = Executable
kind_view kinds.Symlink = Symlink

abbrev pub kind_field : Reader Kind
kind_field = do
  byte ← number w8 (λ n. nat_lt n 3)
  value (kind_of byte)
