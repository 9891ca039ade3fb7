-- What a change makes after some stored entries in one file, it makes after them in another, but for want of room.
use Rattle.std.proofs.Common.{◌≡◌, ◌⊎◌, ℕ, false, List, inl, inr, sym, ap, ◌∙◌}
use Rattle.std.specs.Prelude.{Some, Result, Ok, Err}
use Rattle.changeset_model.specs.Version.{Version, First, Second}
use Rattle.history_model.specs.History.{Body, Entry, is_down, stored}
use Rattle.history_model.specs.Journal.{Header, size}
use Rattle.reply_model.specs.Reply.{Ask, Granted, Judged, Refusal, Full, judge}
use Rattle.reply_model.proofs.Stored.{judge-stored}
use Rattle.reply_model.proofs.Capacities.{WasFull, judged_alike}
use Rattle.reply_model.proofs.Versions.{granted_too}
use Rattle.follower_laws.proofs.Anew.{HasMade}

abbrev pub of_second : ℕ → Header
of_second capacity = record { capacity = capacity; version = Second }

pub granted_in_second : (capacity : ℕ) (v : Version) (h : List Entry) (ask : Ask) (judged : Judged) → judge (record { capacity = capacity; version = v }) h ask ≡ Ok judged → judge (of_second capacity) h ask ≡ Ok judged
granted_in_second capacity First h ask judged e = granted_too capacity h ask judged e
granted_in_second capacity Second h ask judged e = e

not_both : (h : List Entry) (r : Result Judged Refusal) (judged : Judged) → r ≡ Ok judged → WasFull h r → ⊥
not_both h r judged e (len, full) = absurd (let both = sym e ∙ full in cc)

-- it is made, or there is no room
abbrev pub IsMadeOrFull : Header → List Entry → Ask → Granted → Body → Type 0
IsMadeOrFull header h ask granted body = HasMade header h ask granted body ⊎ WasFull h (judge header h ask)

in_second : (capacity other : ℕ) (h : List Entry) (ask : Ask) (granted : Granted) (body : Body) → HasMade (of_second capacity) h ask granted body → IsMadeOrFull (of_second other) h ask granted body
in_second capacity other h ask granted body made = elim (judged_alike capacity other Second h ask) [
  | inl same ↦ inl (sym same ∙ made)
  | inr (inl full) ↦ absurd (not_both h (judge (of_second capacity) h ask) (record { granted = granted; made = Some body }) made full)
  | inr (inr full) ↦ inr full
]

pub made_elsewhere : (server own : Header) (h : List Entry) (ask : Ask) (granted : Granted) (body : Body) → own.version ≡ Second → is_down h ≡ false → HasMade server (stored h) ask granted body
    → HasMade own h ask granted body ⊎ ((size len : ℕ) × (judge own h ask ≡ Err (Full size len)))
made_elsewhere server own h ask granted body second up made =
    let own_is : of_second own.capacity ≡ own = (λ i. record { capacity = own.capacity; version = sym second i }) in
    let here : judge (of_second own.capacity) (stored h) ask ≡ judge own h ask = ap (λ (o : Header). judge o (stored h) ask) own_is ∙ judge-stored own h ask up in
    elim (in_second server.capacity own.capacity (stored h) ask granted body (granted_in_second server.capacity server.version (stored h) ask (record { granted = granted; made = Some body }) made)) [
      | inl same ↦ inl (sym here ∙ same)
      | inr (len, full) ↦ inr (size (stored h), len, sym here ∙ full)
    ]
