-- The boot state is well formed; the worked cases come out as document 01 says. All by computation on the abstract state.
use mathlib.Core.Bool.{true}
use mathlib.Core.Path.{refl, ◌≡◌}
use Rattle.rules.specs.Boot.{boot}
use Rattle.rules.specs.Cases.{cases, every_case}
use Rattle.rules.specs.Further.{every_script, scripts}
use Rattle.rules.specs.Opened.{opened}
use Rattle.rules.specs.WellFormed.{wf}

pub wf_boot : wf boot ≡ true
unfolding opened
wf_boot = refl

-- the cases marked P
pub worked : every_case cases ≡ true
unfolding opened
worked = refl

-- the further ones
pub scripted : every_script scripts ≡ true
unfolding opened
scripted = refl
