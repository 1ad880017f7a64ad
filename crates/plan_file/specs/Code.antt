-- Believed: the numbers of the rules.
use Rattle.std.specs.Prelude.{ℕ}
use Rattle.plan_file.specs.declared.error.PlanError.{PlanError}
use Rattle.plan_file.specs.declared.error.PlanError.TheVariants.{NotToml, UnknownKey, MissingKey, WrongKind, Turns, TooMany, BadName, NameTwice, BadPlace, BadSlots, SlotTwice, PortTwice, ClientTwice, BadPace, BadSpan}

-- the rules count from 1, in the order in which they are tried
abbrev pub code_of : PlanError → ℕ
code_of NotToml = 1
code_of UnknownKey = 2
code_of MissingKey = 3
code_of WrongKind = 4
code_of Turns = 5
code_of TooMany = 6
code_of BadName = 7
code_of NameTwice = 8
code_of BadPlace = 9
code_of BadSlots = 10
code_of SlotTwice = 11
code_of PortTwice = 12
code_of ClientTwice = 13
code_of BadPace = 14
code_of BadSpan = 15
