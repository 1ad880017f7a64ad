-- Believed: the runs of the trial, over places in memory.
use Rattle.std.specs.Prelude.{ℕ, ◌+◌, ◌*◌, false, true, List, [], Some}
use Rattle.otn_base.specs.declared.limits.TheConstants.{LINE_FRAME_BYTES}
use Rattle.port_base.specs.Views.{Live, InView, OutView}
use Rattle.trial_plans.specs.TrialCarried.{longest_packet, trial_frames}
use Rattle.trial_plans.specs.TrialPlans.{trial_packets, trial_turns}

-- ---- places

-- a place with these bytes in memory, of which none was taken or asked for
abbrev pub holding : List ℕ → InView
holding bytes = record { state = Live; boxed = false; left = Some bytes; ended = false; faults = 0; number = 0 }

-- a place with room in memory, to which nothing went
abbrev pub waiting : OutView
waiting = record { state = Live; boxed = false; got = Some []; keeps = true; faults = 0; number = 0 }

-- ---- room

-- bytes of the file of a line
abbrev pub file_bytes : ℕ
file_bytes = LINE_FRAME_BYTES * trial_frames

-- bytes of the text of a client at most: two digits a byte, and LF behind each packet
abbrev pub most_text : ℕ
most_text = trial_packets * (2 * longest_packet + 1)

-- ---- runs

-- how many pieces the ports of a run have in all: in each turn one of each of eight clients, or eight of a line, and
-- eight of a line, or one of each of eight clients
abbrev pub run_pieces : ℕ
run_pieces = 16 * trial_turns

-- ---- what came to the clients
