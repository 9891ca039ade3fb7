-- Draws of a linear congruential generator on 64 bits, whose high bits are taken.
--     advanced s      the state after one draw
--     drawn n s      what a draw below n gives whose state is then s
use Rattle.std.specs.Prelude.{ℕ, ◌+◌, ◌*◌, ◌/◌, ◌%◌, ◌^◌}

abbrev pub advanced : ℕ → ℕ
advanced s = (s * 6_364_136_223_846_793_005 + 1_442_695_040_888_963_407) % 2 ^ 64

abbrev pub drawn : ℕ → ℕ → ℕ
drawn n s = (s / 8_589_934_592) % n
