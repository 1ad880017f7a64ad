-- API: what is seen of a sink in memory that grows.
use Rattle.std.specs.Prelude.{ℕ, List}
use Rattle.otn_c.specs.declared.growing_sink.GrowingSink.{GrowingSink}

-- the bytes that it got
abbrev pub growing_got : GrowingSink → List ℕ
growing_got sink = sink.kept.items

-- how often there was no memory
abbrev pub growing_faults : GrowingSink → ℕ
growing_faults sink = sink.failed
