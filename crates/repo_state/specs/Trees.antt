-- The trees after a landing.
--     LandsAs call granted before after      where the call asks for a landing, it is granted as one, and the trees are so
--     LandsSo draft result before after      where the stack was landed, the trees are so
use Rattle.std.specs.Prelude.{List}
use Rattle.byte_fields.specs.Bytes.{Id}
use Rattle.history_model.specs.History.{Entry, known}
use Rattle.reply_model.specs.Reply.{Ask, PutContent, PutWhole, PutChangeset, SetBookmark, LandDraft, SetPolicy, Granted, ContentPut, WholePut, ChangesetPut, BookmarkSet, Landed, PolicySet}
use Rattle.reply_model.specs.After.{Call, Asks, Joins, Looks, Derives}
use Rattle.repo_machine.specs.Landings.{IsLanding}
use Rattle.repo_state.specs.declared.exchanged.Exchanged.{Exchanged}
use Rattle.repo_state.specs.declared.exchanged.Exchanged.TheVariants as exchanges

abbrev pub LandsGranted : Id → Granted → List Entry → List Entry → Type 0
LandsGranted draft (ContentPut x) before after = ⊥
LandsGranted draft (WholePut x n) before after = ⊥
LandsGranted draft (ChangesetPut x) before after = ⊥
LandsGranted draft BookmarkSet before after = ⊥
LandsGranted draft (PolicySet number) before after = ⊥
LandsGranted draft (Landed old ids) before after = IsLanding (known before) (known after) old draft ids

abbrev pub LandsAsked : Ask → Granted → List Entry → List Entry → Type 0
LandsAsked (PutContent bytes) granted before after = Unit {0}
LandsAsked (PutWhole body pieces) granted before after = Unit {0}
LandsAsked (PutChangeset bytes) granted before after = Unit {0}
LandsAsked (SetBookmark caller name from to) granted before after = Unit {0}
LandsAsked (LandDraft caller name draft moment) granted before after = LandsGranted draft granted before after
LandsAsked (SetPolicy caller text) granted before after = Unit {0}

abbrev pub LandsAs : Call → Granted → List Entry → List Entry → Type 0
LandsAs (Asks ask) granted before after = LandsAsked ask granted before after
LandsAs (Joins body) granted before after = Unit {0}
LandsAs (Looks question) granted before after = Unit {0}
LandsAs (Derives id) granted before after = Unit {0}

abbrev pub LandsSo : Id → Exchanged → List Entry → List Entry → Type 0
LandsSo draft (exchanges.Landed landed) before after = IsLanding (known before) (known after) landed.old draft landed.ids.items
LandsSo draft (exchanges.HeadMoved found) before after = Unit {0}
LandsSo draft (exchanges.Refused e) before after = Unit {0}
