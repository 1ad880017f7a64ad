use Rattle.std.proofs.Common.{◌≢◌, ◌<◌, ℕ}
use Rattle.std.specs.Fmt.{decimal}
use Rattle.number_lists.proofs.number.number_of.Given as goal

-- it is none of the numbers before
abbrev pub invariant-loop-number : goal.invariant-loop-number
invariant-loop-number l = (n : ℕ) → n < l.number → l.text ≢ decimal n
