-- The definitions' denial of the code's.
use Rattle.policy_model.specs.Rules.{Denial}
use Rattle.land_policy.specs.declared.denied.Denied.{Denied}

abbrev pub denial_view : Denied → Denial
denial_view d = record { path = d.path.now; rule = d.rule }
