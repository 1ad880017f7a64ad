-- API: what is seen of the near end of fibres.
use Rattle.std.specs.Prelude.{ℕ, List, ◌++◌}
use Rattle.network_run.specs.declared.fibre_sink.FibreSink.{FibreSink}

-- all bytes that it got
abbrev pub fibre_got : FibreSink → List ℕ
fibre_got sink = sink.past.bytes ++ sink.kept.bytes.items

-- how often it failed
abbrev pub fibre_faults : FibreSink → ℕ
fibre_faults sink = sink.failed
