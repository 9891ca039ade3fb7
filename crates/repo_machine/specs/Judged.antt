-- What a change is judged to make.
--     JudgedChange      who asked, what is granted, the entry if one is made, and its framed record
--     Frames made frame      the frame is that of a payload of the entry
--     IsJudged header h ask judged      the change is granted so at h
use Rattle.std.specs.Prelude.{◌≡◌, ◌⊎◌, ℕ, Bool, true, List, [], Option, None, Some, Ok, refl}
use mathlib.Core.Logic.{inl, inr}
use Rattle.std.specs.Coded.{Coded, code_by, coded_ℕ, coded_bool, coded_list, coded_option, coded×, coded⊎}
use Rattle.byte_fields.specs.Bytes.{Id}
use Rattle.changeset_model.specs.Codes.{coded_id}
use Rattle.history_model.specs.Codes.{coded_body}
use Rattle.history_model.specs.History.{Body, Entry}
use Rattle.history_model.specs.Journal.{Header, IsPayload, framed}
use Rattle.reply_model.specs.Reply.{Ask, is_ask, Granted, ContentPut, WholePut, ChangesetPut, BookmarkSet, Landed, PolicySet, judge}

pub record JudgedChange : Type 0 where
  pub who : ℕ
  pub granted : Granted
  pub made : Option Body
  pub frame : List ℕ

abbrev pub Frames : Option Body → List ℕ → Type 0
Frames None frame = frame ≡ []
Frames (Some body) frame = (payload : List ℕ) × IsPayload body payload × (frame ≡ framed payload)

pub record IsJudged (header : Header) (h : List Entry) (ask : Ask) (judged : JudgedChange) : Type 0 where
  pub asks : is_ask h ask ≡ true
  pub granted : judge header h ask ≡ Ok (record { granted = judged.granted; made = judged.made })
  pub frames : Frames judged.made judged.frame

-- ---- as pairs and sums

abbrev pub GrantedParts : Type 0
GrantedParts = (Id ⊎ Id) ⊎ (Bool ⊎ ((Id × List Id) ⊎ ((Id × ℕ) ⊎ ℕ)))

abbrev pub parts_of : Granted → GrantedParts
parts_of (ContentPut id) = inl (inl id)
parts_of (ChangesetPut id) = inl (inr id)
parts_of BookmarkSet = inr (inl true)
parts_of (Landed old ids) = inr (inr (inl (old, ids)))
parts_of (WholePut id size) = inr (inr (inr (inl (id, size))))
parts_of (PolicySet number) = inr (inr (inr (inr number)))

abbrev pub granted_of : GrantedParts → Granted
granted_of (inl (inl id)) = ContentPut id
granted_of (inl (inr id)) = ChangesetPut id
granted_of (inr (inl b)) = BookmarkSet
granted_of (inr (inr (inl t))) = Landed t.0 t.1
granted_of (inr (inr (inr (inl t)))) = WholePut t.0 t.1
granted_of (inr (inr (inr (inr number)))) = PolicySet number

pub granted_of-parts_of : (g : Granted) → granted_of (parts_of g) ≡ g
granted_of-parts_of (ContentPut id) = refl
granted_of-parts_of (ChangesetPut id) = refl
granted_of-parts_of BookmarkSet = refl
granted_of-parts_of (Landed old ids) = refl
granted_of-parts_of (WholePut id size) = refl
granted_of-parts_of (PolicySet number) = refl

abbrev pub coded_granted : Coded Granted
coded_granted = code_by GrantedParts (coded⊎ (coded⊎ coded_id coded_id) (coded⊎ coded_bool (coded⊎ (coded× coded_id (coded_list coded_id)) (coded⊎ (coded× coded_id coded_ℕ) coded_ℕ)))) parts_of granted_of granted_of-parts_of

abbrev pub coded_judged : Coded JudgedChange
coded_judged =
    code_by (ℕ × (Granted × (Option Body × List ℕ))) (coded× coded_ℕ (coded× coded_granted (coded× (coded_option coded_body) (coded_list coded_ℕ))))
    (λ j. (j.who, (j.granted, (j.made, j.frame)))) (λ t. record { who = t.0; granted = t.1.0; made = t.1.1.0; frame = t.1.1.1 }) (λ _. refl)
