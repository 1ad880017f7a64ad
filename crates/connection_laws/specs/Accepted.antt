-- API: what a sound plan gives to the laws of carriage.
use Rattle.std.specs.Prelude.{◌≡◌, ℕ, Some, length, slice_get}
use Rattle.otn_base.specs.LineSlots.{LineSlots}
use Rattle.plan_file.specs.declared.connection.Connection.{Connection}
use Rattle.plan_file.specs.declared.connection.FromEnd.TheVariants as from_end
use Rattle.plan_file.specs.declared.connection.ToEnd.TheVariants as to_end
use Rattle.plan_file.specs.declared.plan.Plan.{Plan}
use Rattle.connection_laws.specs.Carried.{GoesTo, HasPaces}
use Rattle.device_model.specs.SoundPlans.{IsSoundPlan}

-- Each connection that goes to a line does so as the laws ask, and so do its paces.
abbrev pub GoesAsAsked : Type 0
GoesAsAsked = (plan : Plan) (i b port : ℕ) (x : Connection) (slots : LineSlots)
    → IsSoundPlan plan → slice_get plan.connections i ≡ Some x → x.to ≡ to_end.Line b port slots
    → GoesTo plan x b port slots × HasPaces (length slots.list) x.pace

-- One that comes from a line too has as many slots there.
abbrev pub HasAsManySlots : Type 0
HasAsManySlots = (plan : Plan) (i a from b port : ℕ) (x : Connection) (slots others : LineSlots)
    → IsSoundPlan plan → slice_get plan.connections i ≡ Some x → x.from ≡ from_end.Line a from slots
    → x.to ≡ to_end.Line b port others
    → length others.list ≡ length slots.list
