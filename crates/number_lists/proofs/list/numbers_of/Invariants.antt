use Rattle.std.proofs.Common.{◌≡◌, ◌==◌, ◌≤◌, length}
use Rattle.std.specs.List.{position_or_len}
use Rattle.number_lists.proofs.Reading.{ReadSo}
use Rattle.number_lists.proofs.list.numbers_of.Given as goal

-- what is read so far is that of the first parts, and this is the next comma
abbrev pub invariant-loop-comma : goal.invariant-loop-comma
invariant-loop-comma g l = ReadSo l.limit l.text l.list.items l.rest × (l.comma ≡ position_or_len (λ byte. byte == 44) l.rest) × (l.comma ≤ length l.rest)

abbrev pub decreases-loop-comma : goal.decreases-loop-comma
decreases-loop-comma g l = length l.rest
