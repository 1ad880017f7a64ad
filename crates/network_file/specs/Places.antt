-- Believed: places: the top, and the nodes, fibres and cuts, which count from 1, each in the order of the file.
use Rattle.std.specs.Prelude.{ℕ, List, [], ◌∷◌, ◌++◌, Bool, if◌then◌else◌, Option, Some, None, codes}
use Rattle.std.specs.Fmt.{decimal}
use Rattle.std.specs.Option.{option_map, option_or}
use Rattle.plan_file.specs.Places.{first}
use Rattle.network_file.specs.declared.error.NetworkError.{NetworkError}
use Rattle.network_file.specs.declared.place.Place.{Place}
use Rattle.network_file.specs.declared.place.Place.TheVariants.{Top, Node, Fibre, Cut}

-- how a place is written
abbrev pub place_text : Place → List ℕ
place_text Top = codes "0"
place_text (Node number) = codes "node " ++ decimal number
place_text (Fibre number) = codes "fibre " ++ decimal number
place_text (Cut number) = codes "cut " ++ decimal number

-- the top, where the rule is broken there
abbrev pub at_top : Bool → Option Place
at_top broken = if broken then Some Top else None

-- the first of these nodes, of these fibres, or of these cuts
abbrev pub at_nodes : List ℕ → Option Place
at_nodes numbers = option_map Node (first numbers)

abbrev pub at_fibres : List ℕ → Option Place
at_fibres numbers = option_map Fibre (first numbers)

abbrev pub at_cuts : List ℕ → Option Place
at_cuts numbers = option_map Cut (first numbers)

-- of a rule that may be broken anywhere: the top comes before the nodes, these before the fibres, and these before the
-- cuts
abbrev pub at_any : (top : Bool) → (nodes fibres cuts : List ℕ) → Option Place
at_any top nodes fibres cuts =
    option_or (at_top top) (option_or (at_nodes nodes) (option_or (at_fibres fibres) (at_cuts cuts)))

-- the rule with its first place, if it is broken anywhere, else what is broken later
abbrev pub broken_or : NetworkError → Option Place → Option (NetworkError × Place) → Option (NetworkError × Place)
broken_or rule broken later = option_or (option_map (λ place. (rule, place)) broken) later

-- the first of the rules that is broken anywhere, with its first place
abbrev pub first_broken : (NetworkError → Option Place) → List NetworkError → Option (NetworkError × Place)
first_broken broken [] = None
first_broken broken (rule ∷ rules) = broken_or rule (broken rule) (first_broken broken rules)
