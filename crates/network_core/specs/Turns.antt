-- API: a node that is carried for a part of a turn.
use Rattle.port_base.specs.Views.{BaysView}
use Rattle.plan_file.specs.declared.plan.Plan.{Plan}
use Rattle.node_moments.specs.NodeView.{NodeView}
use Rattle.node_moments.specs.Stands.{InputBytes, StandsAt, Later}

-- from any moment of any accepted plan this leads to a moment of it
abbrev pub LeadsLater : (old : NodeView) → (was : BaysView) → (new : NodeView) → (is : BaysView) → Type 0
LeadsLater old was new is = (plan : Plan) (first : BaysView) (read : InputBytes) → StandsAt plan first read old was
    → Later plan first read old new is
