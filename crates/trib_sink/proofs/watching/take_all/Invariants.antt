use Rattle.std.proofs.Common.{ℕ, List, ◌++◌, take}
use Rattle.tributary_model.specs.Stretches.{bytes_of}
use Rattle.trib_sink.specs.Watching.{Watched}
use Rattle.trib_sink.proofs.watching.take_all.Given as goal

abbrev pub invariant-loop-pair : goal.invariant-loop-pair
invariant-loop-pair l = (port : ℕ) (taken : ℕ → List ℕ) → Watched port taken l.initial.watches → Watched port (λ k. taken k ++ bytes_of k (take l.pair-index l.msi)) l.watches
