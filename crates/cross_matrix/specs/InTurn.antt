-- API: what a pipe has yet to do in a turn.
use Rattle.std.specs.Prelude.{◌==◌, ℕ, Bool, true, false, length, ◌&&◌, Option, Some, None, nat_lt, is_some}
use Rattle.otn_base.specs.LineSlots.{slots_of}
use Rattle.otn_base.specs.declared.limits.TheConstants.{OTU2_SLOTS}
use Rattle.cross_matrix.specs.declared.taking.TakingPart.{TakingPart}
use Rattle.cross_matrix.specs.declared.taking.TakingPart.TheVariants as taking
use Rattle.cross_matrix.specs.declared.giving.GivingPart.{GivingPart}
use Rattle.cross_matrix.specs.declared.giving.GivingPart.TheVariants as giving

-- the number, where this is so
abbrev pub some_if : Bool → ℕ → Option ℕ
some_if true n = Some n
some_if false n = None

-- the number of the next frame that the part takes of its line in the turn, from 0, where it takes of one and has not
-- had all
abbrev pub next_taken : TakingPart → Option ℕ
next_taken (taking.Line sink) = some_if (nat_lt sink.taken (slots_of sink.slots.kind)) sink.taken
next_taken (taking.Client client) = None
next_taken (taking.Signal stream) = None

-- the part takes of a line, whose turn may end so: with a multiframe only where all of its frames were taken
abbrev pub may_end : (whole : Bool) → TakingPart → Bool
may_end true (taking.Line sink) = sink.taken == slots_of sink.slots.kind
may_end false (taking.Line sink) = true
may_end whole (taking.Client client) = false
may_end whole (taking.Signal stream) = false

-- G.709 clause 19.1: the part takes of an OTU2, one slot alone
abbrev pub takes_one_slot : TakingPart → Bool
takes_one_slot (taking.Line sink) = slots_of sink.slots.kind == OTU2_SLOTS && length sink.slots.list == 1
takes_one_slot (taking.Client client) = false
takes_one_slot (taking.Signal stream) = false

-- the number of the next frame of its line that the part fills in the turn, from 0, where it gives to one, in a turn,
-- and has not filled all
abbrev pub next_filled : GivingPart → Option ℕ
next_filled (giving.Line source) = some_if (is_some source.said && nat_lt source.filled (slots_of source.slots.kind))
    source.filled
next_filled (giving.Client receiver) = None
