use Rattle.std.proofs.Common.{◌≡◌, ◌<◌, ℕ, true, Some, length}
use Rattle.std.specs.Prelude.{slice_get}
use Rattle.network_run.specs.Going.{IsFull, KeepsGoing}
use Rattle.network_run.specs.Sites.{EachOne, SameNode}
use Rattle.network_run.specs.declared.fibres.Filling.{Filling}
use Rattle.network_run.proofs.turn.fill_all.Given as goal

abbrev pub invariant-loop-n : goal.invariant-loop-n
invariant-loop-n g l = record {
  keeps : KeepsGoing g.P.Source g.K.Sink l.fn.sites.items l.fn.fillings.items l.sites.items l.fillings.items;
  nodes : EachOne SameNode l.fn.sites.items l.sites.items;
  full : (m : ℕ) (f : Filling) → m < l.n → slice_get l.fillings.items m ≡ Some f → f.whole ≡ true → IsFull g.P.Source g.K.Sink l.sites.items f;
  count : l.fillings.len ≡ l.fn.fillings.len;
}
