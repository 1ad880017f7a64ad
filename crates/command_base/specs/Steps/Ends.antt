-- Steps of `step_after` and `write_slot_of`: what private contracts alone cite, beside the definitions of `Ends`.
use Rattle.std.specs.Prelude.{Option, Some, None}
use Rattle.port_base.specs.declared.drain.Written.{Written}
use Rattle.port_base.specs.declared.drain.Written.TheVariants as written
use Rattle.port_base.specs.declared.ended.Ended.{Ended}
use Rattle.port_base.specs.declared.ended.Ended.TheVariants.{ReportFault}

-- how a write ends a command
abbrev pub step_of : Written → Option Ended
step_of written.Whole = None
step_of written.Lost = Some ReportFault
