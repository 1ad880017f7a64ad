-- API: what has left of a live node, by what was handed in.
use Rattle.std.specs.Prelude.{◌≡◌, ◌≤◌, ◌+◌, ℕ, min, true, false, List, slice_get, Some}
use Rattle.otn_base.specs.declared.kind.PortName.TheVariants as port
use Rattle.port_base.specs.Sent.{IsSent}
use Rattle.port_base.specs.Views.{OutView, BaysView, line_out_at, client_out_at}
use Rattle.line_side.specs.LineForm.{through_mask}
use Rattle.odu_client.specs.ClientInput.{input_given}
use Rattle.plan_file.specs.declared.connection.Connection.{Connection}
use Rattle.plan_file.specs.declared.connection.ToEnd.TheVariants as to_end
use Rattle.plan_file.specs.declared.plan.Plan.{Plan}
use Rattle.device_model.specs.Entries.{form_in}
use Rattle.device_model.specs.Moments.{uses, client_due, is_retired, LineDue}
use Rattle.device_model.specs.RetiredPlaces.{out_after_retire}
use Rattle.device_model.specs.Through.{Inputs, own_input}
use Rattle.node_moments.specs.NodeView.{NodeView}
use Rattle.node_moments.specs.Stands.{InputBytes, MayGive}
use Rattle.live_laws.specs.Live.{telling, AreServed, LiveStands}

-- the inputs of a plan that are the bytes handed in, and no others
abbrev pub inputs_of : Plan → InputBytes → Inputs
inputs_of plan handed = record {
  line = λ a. through_mask (form_in plan a).scrambled (handed.line a);
  client = λ n. input_given false (handed.client n);
}

-- All bytes handed in so far, and no others, are among what the inputs of a live node may turn out to be. So what is
-- said of it for all that they may turn out to be is said of these.
abbrev pub HandedMayGive : Type 0
HandedMayGive = (plan : Plan) (handed : InputBytes) (node : NodeView) (now : BaysView)
    → (stands : LiveStands plan handed node now) → MayGive plan stands.read node (inputs_of plan handed)

-- how many turns have left: before anything of turn past + 1 is taken of an input its outputs are served
abbrev pub turns_out : NodeView → ℕ
turns_out node = min (node.past + 1) node.turns

-- ---- what is due

-- of the text that is due to the client of a connection, which has started, so much went to its place as it was until
-- it was emptied
pub record ClientLeft (x : Connection) (past : ℕ) (due : List ℕ) (now : OutView) : Type 0 where
  pub was : OutView
  pub sent : IsSent telling due was
  pub place : now ≡ out_after_retire (is_retired x past) was

-- By now the outputs got what the first turns of a plan have due to them where the inputs are these, as many as have
-- left: a live place all of it, and nothing else.
pub record HaveLeft (plan : Plan) (inputs : Inputs) (node : NodeView) (now : BaysView) : Type 0 where
  pub line : (b : ℕ) → uses plan (port.LineOut b) ≡ true
      → (due : List ℕ) × LineDue plan inputs b (turns_out node) 0 due × IsSent telling due (line_out_at now b)
  pub client : (i n : ℕ) (x : Connection) → slice_get plan.connections i ≡ Some x → x.to ≡ to_end.Client n
      → x.start ≤ node.past + 1
      → ClientLeft x node.past (client_due x (own_input inputs x) (turns_out node) 0) (client_out_at now n)

-- What has left of a live node is what the definitions have due of all bytes handed in so far: nothing that is handed
-- in later changes it.
abbrev pub LiveTurns : Type 0
LiveTurns = (plan : Plan) (handed : InputBytes) (node : NodeView) (now : BaysView) → LiveStands plan handed node now
    → AreServed node → HaveLeft plan (inputs_of plan handed) node now
