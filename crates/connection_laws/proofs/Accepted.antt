-- What a sound plan gives to the laws of carriage.
use Rattle.std.proofs.Common.{◌≡◌, ℕ, Some, length, sym, ◌∙◌, arith}
use Rattle.std.specs.Prelude.{slice_get}
use Rattle.std.proofs.lemmas.Option.{slice_get_within, get_or_from_slice_get}
use Rattle.otn_base.specs.LineSlots.{LineSlots}
use Rattle.plan_file.specs.declared.connection.Connection.{Connection}
use Rattle.plan_file.specs.declared.connection.FromEnd.TheVariants as from_end
use Rattle.plan_file.specs.declared.connection.ToEnd.TheVariants as to_end
use Rattle.plan_file.specs.declared.plan.Plan.{Plan}
use Rattle.connection_laws.specs.Carried.{GoesTo, HasPaces}
use Rattle.device_model.specs.SoundPlans.{IsSoundPlan}

pub goes_as_asked : (plan : Plan) (i b port : ℕ) (x : Connection) (slots : LineSlots) → IsSoundPlan plan → slice_get plan.connections i ≡ Some x → x.to ≡ to_end.Line b port slots
    → GoesTo plan x b port slots × HasPaces (length slots.list) x.pace
goes_as_asked plan i b port x slots sound known to =
    let entry = sound.entries i x known in
    let end = entry.to_line b port slots to in (
      record {
        is_of = (i, slice_get_within plan.connections i x known, get_or_from_slice_get plan.connections i x x known);
        to = to;
        start = entry.start;
        end = record { kind = end.kind; list = end.list; port_least = (let low = end.port_least in omega arith) };
      },
      record {
        some = entry.paces_least;
        least = λ j pace e. (let many = end.many in let low = entry.pace_least j pace e in omega arith);
        most = λ j pace e. (let many = end.many in let high = entry.pace_most j pace e in omega arith);
      },
    )

pub has_as_many_slots : (plan : Plan) (i a from b port : ℕ) (x : Connection) (slots others : LineSlots) → IsSoundPlan plan → slice_get plan.connections i ≡ Some x
    → x.from ≡ from_end.Line a from slots → x.to ≡ to_end.Line b port others → length others.list ≡ length slots.list
has_as_many_slots plan i a from b port x slots others sound known comes goes =
    let entry = sound.entries i x known in
    (entry.to_line b port others goes).many ∙ sym (entry.from_line a from slots comes).many
