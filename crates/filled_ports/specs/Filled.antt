-- API: what is seen of the ports between which and their user bytes pass.
use Rattle.std.specs.Prelude.{ℕ, Bool, List, ◌++◌, drop}
use Rattle.filled_ports.specs.declared.source.FilledSource.{FilledSource}
use Rattle.filled_ports.specs.declared.sink.FilledSink.{FilledSink}

-- the bytes that were handed in and not given yet
abbrev pub filled_left : FilledSource → List ℕ
filled_left source = drop source.at source.bytes.items

-- whether it has answered that it ended
abbrev pub filled_ended : FilledSource → Bool
filled_ended source = source.ended

-- all bytes that it got
abbrev pub filled_got : FilledSink → List ℕ
filled_got sink = sink.past.bytes ++ sink.kept.bytes.items

-- those that it keeps
abbrev pub filled_kept : FilledSink → List ℕ
filled_kept sink = sink.kept.bytes.items

-- how often there was no memory
abbrev pub filled_faults : FilledSink → ℕ
filled_faults sink = sink.failed
