-- Each refusal has a number of its own, so that what a caller is given tells which refusal it was.
use mathlib.Core.List.{[], ◌∷◌}
use mathlib.Core.Path.{◌≡◌, refl, ap, sym, ◌∙◌}
use lib.IntN.{ℤ, pos, negsuc}
use lib.ListN.{get_or}
use Rattle.words.specs.Names.{Refusal, CapRange, CapFrozen, CapType, CapNull, CapFlag, CapExist, CapKotbl, CapQuie, CapRefcnt, PgtHw, PgtAddr, PgtMap, PgtPerm, SivFull, SivAct, SivConflict, BadCall, BadCaller, BadState}
use Rattle.words.specs.Refusals.{number}

-- ---- the refusals from −1 on, and the one that a number names
named : ℤ → Refusal
named (pos n) = BadState
named (negsuc n) =
    get_or
    (CapRange ∷ CapFrozen ∷ CapType ∷ CapNull ∷ CapFlag ∷ CapExist ∷ CapKotbl ∷ CapQuie ∷ CapRefcnt ∷ PgtHw ∷ PgtAddr ∷ PgtMap ∷ PgtPerm ∷ SivFull ∷ SivAct ∷ SivConflict ∷ BadCall ∷ BadCaller ∷ BadState ∷ [])
    n BadState

named_number : (r : Refusal) → named (number r) ≡ r
unfolding named
named_number CapRange = refl
named_number CapFrozen = refl
named_number CapType = refl
named_number CapNull = refl
named_number CapFlag = refl
named_number CapExist = refl
named_number CapKotbl = refl
named_number CapQuie = refl
named_number CapRefcnt = refl
named_number PgtHw = refl
named_number PgtAddr = refl
named_number PgtMap = refl
named_number PgtPerm = refl
named_number SivFull = refl
named_number SivAct = refl
named_number SivConflict = refl
named_number BadCall = refl
named_number BadCaller = refl
named_number BadState = refl

pub number_same : (q r : Refusal) → number q ≡ number r → q ≡ r
number_same q r h = sym (named_number q) ∙ (ap named h ∙ named_number r)
