-- What a change may be granted.
--     IsLanding granted      a landing's ids;  FitsAsk ask granted      it is what was asked for
--     IsSameOutcome first second      both went well, or both stopped for the same reason
use Rattle.std.specs.Prelude.{◌≡◌, [], Result, Ok, Err}
use Rattle.reply_model.specs.Reply.{Ask, PutContent, PutWhole, PutChangeset, SetBookmark, LandDraft, SetPolicy, Granted, ContentPut, WholePut, ChangesetPut, BookmarkSet, Landed, PolicySet}
use Rattle.run_gen.specs.Calls.{heads_in}
use Rattle.run_gen.specs.declared.fault.LoadFault.{LoadFault}

abbrev pub IsLanding : Granted → Type 0
IsLanding (ContentPut x) = ⊥
IsLanding (WholePut x n) = ⊥
IsLanding (ChangesetPut x) = ⊥
IsLanding BookmarkSet = ⊥
IsLanding (Landed old ids) = Unit {0}
IsLanding (PolicySet n) = ⊥

abbrev pub FitsAsk : Ask → Granted → Type 0
FitsAsk (PutContent bytes) granted = heads_in granted ≡ []
FitsAsk (PutWhole body pieces) granted = heads_in granted ≡ []
FitsAsk (PutChangeset bytes) granted = heads_in granted ≡ []
FitsAsk (SetBookmark caller name from to) granted = heads_in granted ≡ []
FitsAsk (LandDraft caller name draft moment) granted = IsLanding granted
FitsAsk (SetPolicy caller text) granted = heads_in granted ≡ []

abbrev pub IsSameOutcome : {X Y : Type 0} → Result X LoadFault → Result Y LoadFault → Type 0
IsSameOutcome (Ok x) (Ok y) = Unit {0}
IsSameOutcome (Ok x) (Err fault) = ⊥
IsSameOutcome (Err fault) (Ok y) = ⊥
IsSameOutcome (Err fault) (Err other) = fault ≡ other
