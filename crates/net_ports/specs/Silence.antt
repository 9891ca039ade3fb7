-- Connections that have asked nothing, by their numbers, the first first.
--     minute      how many nanoseconds one may be silent
--     Leads before after stream      the first of them left, and it is this one
--     IsPutLast before after stream now      this one stands behind the others, from now on, or they stayed as they were
--     IsLedAndPutLast before after stream now left      the first of them left, and this one stands behind the others
--     waited now entries      how many nanoseconds the first has been there
use Rattle.std.specs.Prelude.{◌≡◌, ◌-◌, ◌⊎◌, ◌++◌, ℕ, List, [], ◌∷◌}
use Rattle.std.specs.Time.{instant_nanos}
use Rattle.std.specs.declared.time.Instant.{Instant}
use Rattle.mio.specs.declared.net.stream.TcpStream.{TcpStream}
use Rattle.net_ports.specs.declared.silent.Silent.{Silent}

abbrev pub minute : ℕ
minute = 60000000000

abbrev pub Leads : List (ℕ × Silent) → List (ℕ × Silent) → TcpStream → Type 0
Leads before after stream = (e : ℕ × Silent) × (before ≡ e ∷ after) × (stream ≡ e.1.stream)

abbrev pub IsPutLast : List (ℕ × Silent) → List (ℕ × Silent) → TcpStream → Instant → Type 0
IsPutLast before after stream now = (after ≡ before) ⊎ ((e : ℕ × Silent) × (after ≡ before ++ e ∷ []) × (e.1.stream ≡ stream) × (e.1.since ≡ now))

abbrev pub IsLedAndPutLast : List (ℕ × Silent) → List (ℕ × Silent) → TcpStream → Instant → TcpStream → Type 0
IsLedAndPutLast before after stream now left = (rest : List (ℕ × Silent)) × Leads before rest left × IsPutLast rest after stream now

abbrev pub waited : Instant → List (ℕ × Silent) → ℕ
waited now [] = 0
waited now (e ∷ rest) = instant_nanos now - instant_nanos e.1.since
