-- API: how a command over lines ends.
use Rattle.std.specs.Prelude.{Bool, true, false}
use Rattle.port_base.specs.declared.ended.Ended.{Ended}
use Rattle.port_base.specs.declared.ended.Ended.TheVariants.{Done, Unfinished, Cut}

-- how the command ends, by whether a place that it uses is dead and whether more is left than it takes
abbrev pub ended_by : (dead more : Bool) → Ended
ended_by true more = Cut
ended_by false true = Unfinished
ended_by false false = Done
