use Rattle.std.proofs.Common.{◌≡◌, ℕ, Some, slice_get, vec_len}
use Rattle.plan_file.specs.declared.connection.Connection.{Connection}
use Rattle.node_moments.specs.Built.{IsNewLink}
use Rattle.node_links.specs.declared.link.Link.{Link}
use Rattle.node_moments.proofs.build.new_links.Given as goal

abbrev pub invariant-loop-i : goal.invariant-loop-i
invariant-loop-i l = record {
  len : vec_len l.links ≡ l.i;
  each : (k : ℕ) (link : Link) → slice_get l.links.items k ≡ Some link → (x : Connection) → slice_get l.plan.connections k ≡ Some x → IsNewLink x link;
}
