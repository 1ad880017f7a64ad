-- Steps: what the lines of a view are of.
use Rattle.view_events.specs.ViewLines.{ViewLine, OfTurn, OfMsi, OfTributary, OfEnd, OfOther}
use Rattle.view_events.specs.declared.view_lines.Kind.{Kind}
use Rattle.view_events.specs.declared.view_lines.Kind.TheVariants.{Turn, Msi, Tributary, End, Other}

abbrev pub kind_is : ViewLine → Kind
kind_is (OfTurn frames said) = Turn
kind_is (OfMsi slot byte) = Msi
kind_is (OfTributary x) = Tributary
kind_is (OfEnd turns rest) = End
kind_is (OfOther word more) = Other
