-- Believed: places: 0 is the top, and the connections count from 1 in the order of the file.
use Rattle.std.specs.Prelude.{ℕ, ◌+◌, List, [], ◌∷◌, ◌++◌, length, Bool, if◌then◌else◌, Option, Some, None}
use Rattle.std.specs.List.{list_any}
use Rattle.std.specs.Option.{option_map, option_or}
use Rattle.plan_file.specs.declared.error.PlanError.{PlanError}

-- the top, where the test holds
abbrev pub top_place : Bool → List ℕ
top_place broken = if broken then 0 ∷ [] else []

-- the places from `place` on whose connection passes the test
abbrev pub places_from : {A : Type 0} → ℕ → (A → Bool) → List A → List ℕ
places_from place test [] = []
places_from place test (x ∷ xs) = if test x then place ∷ places_from (place + 1) test xs
    else places_from (place + 1) test xs

-- the same of all connections, from place 1 on
abbrev pub places : {A : Type 0} → (A → Bool) → List A → List ℕ
places test xs = places_from 1 test xs

-- the places of the connections that clash with one before them
abbrev pub places_after : {A : Type 0} → List A → (A → A → Bool) → List A → List ℕ
places_after before clash [] = []
places_after before clash (x ∷ xs) =
    if list_any (λ y. clash y x) before
    then (length before + 1) ∷ places_after (before ++ x ∷ []) clash xs
    else places_after (before ++ x ∷ []) clash xs

-- the same of all connections
abbrev pub later_places : {A : Type 0} → (A → A → Bool) → List A → List ℕ
later_places clash xs = places_after [] clash xs

-- the first place, if there is one
abbrev pub first : List ℕ → Option ℕ
first [] = None
first (place ∷ more) = Some place

-- the rule with its first place, if it is broken anywhere, else what is broken later
abbrev pub broken_or : PlanError → List ℕ → Option (PlanError × ℕ) → Option (PlanError × ℕ)
broken_or rule broken later = option_or (option_map (λ place. (rule, place)) (first broken)) later

-- the first of the rules that is broken anywhere, with its first place
abbrev pub first_broken : (PlanError → List ℕ) → List PlanError → Option (PlanError × ℕ)
first_broken broken [] = None
first_broken broken (rule ∷ rules) = broken_or rule (broken rule) (first_broken broken rules)
