-- API: bytes that are handed in while a node goes.
use Rattle.std.specs.Prelude.{◌≡◌, ◌≢◌, ℕ, false, List, ◌++◌, Option, Some, None}
use Rattle.port_base.specs.Views.{InView, BaysView, line_in_at, client_in_at}
use Rattle.plan_file.specs.declared.plan.Plan.{Plan}
use Rattle.node_moments.specs.NodeView.{NodeView}
use Rattle.node_moments.specs.Stands.{InputBytes, StandsAt}

-- what a place has yet to give, where it tells it, with further bytes behind it
abbrev pub left_with : List ℕ → Option (List ℕ) → Option (List ℕ)
left_with further None = None
left_with further (Some left) = Some (left ++ further)

-- a place to whose port these bytes were handed in
abbrev pub grown : List ℕ → InView → InView
grown further place = record place { left = left_with further place.left }

-- further bytes were handed in at line input a, and nothing else has changed
pub record LineGrew (a : ℕ) (further : List ℕ) (old new : BaysView) : Type 0 where
  pub line : line_in_at new a ≡ grown further (line_in_at old a)
  pub others : (other : ℕ) → other ≢ a → line_in_at new other ≡ line_in_at old other
  pub line_out : new.line_out ≡ old.line_out
  pub client_in : new.client_in ≡ old.client_in
  pub client_out : new.client_out ≡ old.client_out

-- the same at client input n
pub record ClientGrew (n : ℕ) (further : List ℕ) (old new : BaysView) : Type 0 where
  pub client : client_in_at new n ≡ grown further (client_in_at old n)
  pub others : (other : ℕ) → other ≢ n → client_in_at new other ≡ client_in_at old other
  pub line_in : new.line_in ≡ old.line_in
  pub line_out : new.line_out ≡ old.line_out
  pub client_out : new.client_out ≡ old.client_out

-- Where a node stands at a moment of a plan it stands at the same moment where further bytes were handed in at line a,
-- whose place has not answered its end: the bays were first so with them, and are so now with them. So bytes that come
-- later change nothing of what was done, and of what was said of it.
abbrev pub LinesGrow : Type 0
LinesGrow = (plan : Plan) (first now first_with now_with : BaysView) (read : InputBytes) (node : NodeView) (a : ℕ)
    (further : List ℕ) → (line_in_at now a).ended ≡ false → LineGrew a further first first_with
    → LineGrew a further now now_with → StandsAt plan first read node now → StandsAt plan first_with read node now_with

-- The same at client n. A place that was retired has no port, which acts as one that has answered its end.
abbrev pub PacketsGrow : Type 0
PacketsGrow = (plan : Plan) (first now first_with now_with : BaysView) (read : InputBytes) (node : NodeView) (n : ℕ)
    (further : List ℕ) → (client_in_at now n).ended ≡ false → ClientGrew n further first first_with
    → ClientGrew n further now now_with → StandsAt plan first read node now
    → StandsAt plan first_with read node now_with
