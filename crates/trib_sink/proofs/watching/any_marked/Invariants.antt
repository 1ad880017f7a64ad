use Rattle.std.proofs.Common.{◌≡◌, ℕ, List, false, take}
use Rattle.std.specs.List.{list_any}
use Rattle.msi_table.specs.Marks.{is_marked}
use Rattle.trib_sink.specs.Watching.{Watched}
use Rattle.trib_sink.proofs.watching.any_marked.Given as goal

abbrev pub invariant-loop-k : goal.invariant-loop-k
invariant-loop-k l = (port : ℕ) (taken : ℕ → List ℕ) → Watched port taken l.watches → list_any (λ k. is_marked port (taken k)) (take l.k-index l.slots) ≡ false
