-- The numbers and names of closings.
use Rattle.std.specs.Prelude.{ℕ, List, codes}
use Rattle.switch_session.specs.declared.closing.Closing.{Closing}
use Rattle.switch_session.specs.declared.closing.Closing.TheVariants.{WrongVersion, BadFrame, UnknownDp, TooFewTables, Auxiliary, Replaced, SwitchError, Silent, Overfull, LinkFault, End}

abbrev pub number_of : Closing → ℕ
number_of WrongVersion = 1
number_of BadFrame = 2
number_of UnknownDp = 3
number_of TooFewTables = 4
number_of Auxiliary = 5
number_of Replaced = 6
number_of (SwitchError kind code) = 7
number_of Silent = 8
number_of Overfull = 9
number_of LinkFault = 10
number_of End = 11

abbrev pub name_of : Closing → List ℕ
name_of WrongVersion = codes "WrongVersion"
name_of BadFrame = codes "BadFrame"
name_of UnknownDp = codes "UnknownDp"
name_of TooFewTables = codes "TooFewTables"
name_of Auxiliary = codes "Auxiliary"
name_of Replaced = codes "Replaced"
name_of (SwitchError kind code) = codes "SwitchError"
name_of Silent = codes "Silent"
name_of Overfull = codes "Overfull"
name_of LinkFault = codes "LinkFault"
name_of End = codes "End"
