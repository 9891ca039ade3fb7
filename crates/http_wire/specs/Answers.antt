-- What a cutter answered, by its kind.
use Rattle.std.specs.Prelude.{◌≡◌, ℕ, Bool}
use Rattle.http_model.specs.declared.head_refusal.HeadRefusal.{HeadRefusal}
use Rattle.http_model.specs.Stream as model
use Rattle.http_wire.specs.Seen.{seen}
use Rattle.http_wire.specs.declared.request.Request.{Request}
use Rattle.http_wire.specs.declared.next.Next.{Next}
use Rattle.http_wire.specs.declared.next.Next.TheVariants.{Message, Memory, NeedMore, Refused}

abbrev pub OnMessage : Next → (Request → Type 0) → Type 0
OnMessage (Message request) P = P request
OnMessage (Memory close head_only) P = Unit {0}
OnMessage NeedMore P = Unit {0}
OnMessage (Refused status code) P = Unit {0}

abbrev pub OnMemory : Next → (Bool → Bool → Type 0) → Type 0
OnMemory (Message request) P = Unit {0}
OnMemory (Memory close head_only) P = P close head_only
OnMemory NeedMore P = Unit {0}
OnMemory (Refused status code) P = Unit {0}

abbrev pub OnNeedMore : Next → Type 0 → Type 0
OnNeedMore (Message request) P = Unit {0}
OnNeedMore (Memory close head_only) P = Unit {0}
OnNeedMore NeedMore P = P
OnNeedMore (Refused status code) P = Unit {0}

abbrev pub OnRefused : Next → (ℕ → HeadRefusal → Type 0) → Type 0
OnRefused (Message request) P = Unit {0}
OnRefused (Memory close head_only) P = Unit {0}
OnRefused NeedMore P = Unit {0}
OnRefused (Refused status code) P = P status code

-- the request, or what its answer needs
abbrev pub Answers : model.Request → Next → Type 0
Answers asked (Message request) = (seen request ≡ asked) × (request.head_only ≡ model.is_head_only asked)
Answers asked (Memory close head_only) = (close ≡ asked.close) × (head_only ≡ model.is_head_only asked)
Answers asked NeedMore = ⊥
Answers asked (Refused status code) = ⊥
