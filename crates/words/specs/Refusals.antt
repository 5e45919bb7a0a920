-- "Refusals by number": `negsuc n` is −(n + 1).
use Rattle.std.specs.Prelude.{ℤ, negsuc}
use Rattle.words.specs.Names.{Refusal, CapRange, CapFrozen, CapType, CapNull, CapFlag, CapExist, CapKotbl, CapQuie, CapRefcnt, PgtHw, PgtAddr, PgtMap, PgtPerm, SivFull, SivAct, SivConflict, BadCall, BadCaller, BadState}

abbrev pub number : Refusal → ℤ
number CapRange = negsuc 0
number CapFrozen = negsuc 1
number CapType = negsuc 2
number CapNull = negsuc 3
number CapFlag = negsuc 4
number CapExist = negsuc 5
number CapKotbl = negsuc 6
number CapQuie = negsuc 7
number CapRefcnt = negsuc 8
number PgtHw = negsuc 9
number PgtAddr = negsuc 10
number PgtMap = negsuc 11
number PgtPerm = negsuc 12
number SivFull = negsuc 13
number SivAct = negsuc 14
number SivConflict = negsuc 15
number BadCall = negsuc 16
number BadCaller = negsuc 17
number BadState = negsuc 18
