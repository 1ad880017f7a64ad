-- API: the words by which the page is asked for, and the word behind all others by which the events of a view are.
use Rattle.std.specs.Prelude.{◌≡◌, List, [], ◌∷◌, ◌++◌, ℕ, Bool, true, false, codes}

-- no word at all, or this one alone
abbrev pub AsksForPage : List (List ℕ) → Type 0
AsksForPage [] = Unit {0}
AsksForPage (word ∷ []) = word ≡ codes "--help"
AsksForPage (word ∷ other ∷ rest) = ⊥

-- these are the words in front of it, where it is the last one; else it is not, and these are all words
abbrev pub SplitsOff : (words front : List (List ℕ)) → Bool → Type 0
SplitsOff words front true = words ≡ front ++ codes "events" ∷ []
SplitsOff words front false = (front ≡ words) × ((rest : List (List ℕ)) → words ≡ rest ++ codes "events" ∷ [] → ⊥)
