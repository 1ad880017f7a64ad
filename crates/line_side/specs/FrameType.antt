-- API: the type of a line's frame, for the clause on what is lent of it.
use denote.RattleType.{RattleType}
use denote.Param.{number}
use Rattle.frame_geometry.specs.contracts.frame.Frame.{the_row}
use Rattle.otn_base.specs.declared.limits.TheConstants.{LINE_COLUMNS}

-- a frame of a line, as a type of the logic
abbrev pub line_frame : RattleType
line_frame = the_row (number LINE_COLUMNS)
