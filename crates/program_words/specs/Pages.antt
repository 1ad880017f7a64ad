-- API: the words that are answered by a page of text.
use Rattle.std.specs.Prelude.{◌≡◌, ◌⊎◌, ℕ, List, [], ◌∷◌, codes}
use Rattle.program_words.specs.declared.pages.Page.{Page}
use Rattle.program_words.specs.declared.pages.Page.TheVariants.{Help, Rules, Version}

-- a word that asks for the page of the commands
abbrev pub IsHelp : List ℕ → Type 0
IsHelp word = (word ≡ codes "--help") ⊎ ((word ≡ codes "-h") ⊎ (word ≡ codes "help"))

-- such a word, alone or with one word behind it
abbrev pub AreHelp : List (List ℕ) → Type 0
AreHelp [] = ⊥
AreHelp (word ∷ []) = IsHelp word
AreHelp (word ∷ other ∷ []) = IsHelp word
AreHelp (word ∷ other ∷ another ∷ rest) = ⊥

-- the words that ask for each page
abbrev pub AsksFor : List (List ℕ) → Page → Type 0
AsksFor words Help = AreHelp words
AsksFor words Rules = words ≡ codes "--rules" ∷ []
AsksFor words Version = words ≡ codes "--version" ∷ []
