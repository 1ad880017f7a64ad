-- Believed: what ports tell of their bytes and of their faults.
use Rattle.std.specs.Prelude.{◌≡◌, ◌<◌, ◌+◌, ◌-◌, ◌^◌, ◌⊎◌, min, max, ℕ, List, [], ◌++◌, take, Option, Some, None, Result, Ok, Err}
use Rattle.port_base.specs.declared.source.Failed.{Failed}

-- what was to come before these bytes were taken; nothing is known where nothing is told
abbrev pub before : List ℕ → Option (List ℕ) → Option (List ℕ)
before bytes None = None
before bytes (Some left) = Some (bytes ++ left)

-- what was taken by a read that left the slice so
abbrev pub read_by : Result ℕ Failed → List ℕ → List ℕ
read_by (Ok n) into = take n into
read_by (Err e) into = []

-- what a sink has got after it took these bytes; nothing is known where nothing is told
abbrev pub after : Option (List ℕ) → List ℕ → Option (List ℕ)
after None bytes = None
after (Some got) bytes = Some (got ++ bytes)

-- what went out in a write of these bytes
abbrev pub sent : Result ℕ Failed → List ℕ → List ℕ
sent (Ok n) bytes = take n bytes
sent (Err e) bytes = []

-- a count of faults rose, or stands at its end
abbrev pub HasFailed : ℕ → ℕ → Type 0
HasFailed old new = (old < new) ⊎ (new ≡ 2 ^ 64 - 1)

-- a number of 64 bits that grew by so much: it stops at its end
abbrev pub raised : ℕ → ℕ → ℕ
raised n more = max n (min (n + more) (2 ^ 64 - 1))

-- a count of faults after a call of so much effect
abbrev pub faults_after : ℕ → Result ℕ Failed → ℕ
faults_after faults (Ok n) = faults
faults_after faults (Err e) = raised faults 1
