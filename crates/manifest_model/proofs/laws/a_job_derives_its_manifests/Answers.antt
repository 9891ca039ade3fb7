use Rattle.std.proofs.Common.{◌≡◌, refl}
use Rattle.history_model.specs.History.{Known}
use Rattle.history_model.specs.Past.{Past, Begin, At}
use Rattle.manifest_model.proofs.Jobs.{derives}
use Rattle.manifest_model.proofs.laws.a_job_derives_its_manifests.Goals as goal

no_begin : (k : Known) (first second other : Past) → At k first second ≡ Begin → other ≡ Begin
no_begin k first second other e = absurd cc

pub returns-clause-root : goal.returns-clause-root
returns-clause-root c = λ k. derives k Begin Begin (λ _. refl)

pub returns-clause-line : goal.returns-clause-line
returns-clause-line c = λ k j first second. derives k (At j first second) Begin (λ _. refl)

pub returns-clause-merge : goal.returns-clause-merge
returns-clause-merge c = λ k j i first second third fourth. derives k (At j first second) (At i third fourth) (no_begin j first second (At i third fourth))
