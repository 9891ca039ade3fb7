-- The names that a load goes by.
--     IsNamed names      the bookmark `main`, and the caller who isn't named
use Rattle.std.specs.Prelude.{◌≡◌}
use Rattle.reply_model.specs.Opening.{nobody}
use Rattle.run_gen.specs.declared.names.Names.{Names}
use Rattle.run_gen.specs.Stacks.{main}

abbrev pub IsNamed : Names → Type 0
IsNamed names = (names.main ≡ main) × (names.caller ≡ nobody)
