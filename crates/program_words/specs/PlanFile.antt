-- API: the plan's text, and what is made of it.
use Rattle.std.specs.Prelude.{◌≡◌, ℕ, [], ◌∷◌, Option, Some, None, IsOk, Vec}
use Rattle.std.specs.declared.alloc.Global.{Global}
use Rattle.otn_ports.specs.Listed.{listed_left, read_failing}
use Rattle.otn_ports.specs.declared.listed_source.ListedSource.{ListedSource}
use Rattle.plan_file.specs.Answer.{plan_of_text}

-- there is a text, and it is an accepted plan
abbrev pub IsAccepted : Option (Vec ℕ Global) → Type 0
IsAccepted (Some text) = IsOk (plan_of_text text.items)
IsAccepted None = ⊥

-- a source gives the text and fails at no call; where there is none it fails at the first
abbrev pub GivesPlan : Option (Vec ℕ Global) → ListedSource → Type 0
GivesPlan (Some text) source = (listed_left source ≡ text.items) × (read_failing source ≡ [])
GivesPlan None source = read_failing source ≡ 1 ∷ []
