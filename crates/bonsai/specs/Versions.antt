-- Versions of formats as the definitions see them.
--     version_view v      the version;  version_field      reads its byte
use Rattle.std.specs.Int.{w8}
use Rattle.byte_fields.specs.Reading.{Reader, value, ◌>>=◌, number}
use Rattle.changeset_model.specs.Version as model
use Rattle.bonsai.specs.declared.version.Version.{Version}
use Rattle.bonsai.specs.declared.version.Version.TheVariants as versions

abbrev pub version_view : Version → model.Version
version_view versions.First = model.First
version_view versions.Second = model.Second

abbrev pub version_field : Reader model.Version
version_field = do
  byte ← number w8 model.is_version
  value (model.version_of byte)
