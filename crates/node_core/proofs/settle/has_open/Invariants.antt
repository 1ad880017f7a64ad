use Rattle.std.proofs.Common.{◌≡◌, ◌<◌, ℕ, true, Some, slice_get}
use Rattle.node_core.specs.Steps.Asking.{SaysSpent}
use Rattle.node_links.specs.declared.link.Link.{Link}
use Rattle.plan_file.specs.declared.connection.FromEnd.TheVariants as from_end
use Rattle.node_core.proofs.settle.has_open.Given as goal

abbrev pub invariant-loop-link : goal.invariant-loop-link
invariant-loop-link l = (k n : ℕ) (link : Link) → k < l.link-index → slice_get l.links k ≡ Some link → link.entry.from ≡ from_end.Client n → SaysSpent link true
