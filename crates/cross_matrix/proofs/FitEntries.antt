-- An entry of an accepted plan fits a pipe.
use Rattle.std.proofs.Common.{◌≡◌, ◌<◌, ℕ, List, Some, length, get_or, slice_index_or, refl, subst}
use Rattle.std.specs.Prelude.{slice_get}
use Rattle.std.proofs.lemmas.Option.{slice_get_read, slice_get-get_or}
use Rattle.plan_file.specs.declared.connection.Connection.{Connection}
use Rattle.plan_file.specs.declared.plan.Plan.{Plan}
use Rattle.device_model.specs.SoundPlans.{IsSoundPlan}
use Rattle.cross_matrix.specs.Steps.Pipes.{IsFit}

pub entry_fits : (plan : Plan) (i : ℕ) (x : Connection) → IsSoundPlan plan → slice_get plan.connections i ≡ Some x → IsFit x
entry_fits plan i x sound known =
    let entry = sound.entries i x known in
    record {
      port = λ a port slots is. ((entry.from_line a port slots is).port_least, (entry.from_line a port slots is).port_most);
      given = λ b port slots is. (entry.to_line b port slots is).many;
      paces = λ k d less. entry.pace_most k (slice_index_or x.pace k d) (slice_get-get_or x.pace k d less);
    }

-- the entry that is read of a plan's connections
pub entry_at : (plan : Plan) (i : ℕ) (y : Connection) (xs : List Connection) → xs ≡ plan.connections → i < length plan.connections → y ≡ get_or xs i y → slice_get plan.connections i ≡ Some y
entry_at plan i y xs same less read = slice_get_read plan.connections (length plan.connections) i y refl less (subst (λ (l : List Connection). y ≡ get_or l i y) same read)
