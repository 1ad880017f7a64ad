-- Believed: the numbers of the rules; and the words in which a program says what is broken.
use Rattle.std.specs.Prelude.{ℕ, List, codes}
use Rattle.network_file.specs.declared.error.NetworkError.{NetworkError}
use Rattle.network_file.specs.declared.error.NetworkError.TheVariants.{NotToml, UnknownKey, MissingKey, WrongKind, TooMany, BadName}
use Rattle.network_file.specs.declared.error.NetworkError.TheVariants.{NameTwice, NoSuchNode, NoSuchLine, LineTwice, PlanRefused, OtherForm, NoSuchFibre, BadTurns}

-- the rules count from 1, in the order in which they are tried, but that those of cuts, 13 and 14, are tried after 10
abbrev pub code_of : NetworkError → ℕ
code_of NotToml = 1
code_of UnknownKey = 2
code_of MissingKey = 3
code_of WrongKind = 4
code_of TooMany = 5
code_of BadName = 6
code_of NameTwice = 7
code_of NoSuchNode = 8
code_of NoSuchLine = 9
code_of LineTwice = 10
code_of PlanRefused = 11
code_of OtherForm = 12
code_of NoSuchFibre = 13
code_of BadTurns = 14

abbrev pub words_of : NetworkError → List ℕ
words_of NotToml = codes "no TOML"
words_of UnknownKey = codes "unknown key"
words_of MissingKey = codes "missing key"
words_of WrongKind = codes "wrong kind of value"
words_of TooMany = codes "no node, or too many nodes, fibres or cuts"
words_of BadName = codes "bad name or folder"
words_of NameTwice = codes "name twice"
words_of NoSuchNode = codes "no such node"
words_of NoSuchLine = codes "no such line"
words_of LineTwice = codes "line in twice"
words_of PlanRefused = codes "plan refused"
words_of OtherForm = codes "ends of two forms"
words_of NoSuchFibre = codes "no such fibre"
words_of BadTurns = codes "bad turns"
