use Rattle.std.proofs.Common.{◌≡◌, ◌<◌, ℕ, false, Some, slice_get}
use Rattle.node_links.specs.Links.{joins}
use Rattle.node_links.specs.declared.link.Link.{Link}
use Rattle.node_core.proofs.reads.link_at.Given as goal

abbrev pub invariant-loop-link : goal.invariant-loop-link
invariant-loop-link l = record {
  at : l.i ≡ l.link-index;
  none : (k : ℕ) (link : Link) → k < l.link-index → slice_get l.links k ≡ Some link → joins l.name link ≡ false;
}
