-- API: what is seen of the ports in memory.
use Rattle.std.specs.Prelude.{◌≡◌, ◌<◌, ◌↔◌, ◌-◌, min, ℕ, Bool, List, length, drop, take, Result, IfOk, IsErr, vec_len}
use Rattle.port_base.specs.Bytes.{sent}
use Rattle.port_base.specs.declared.source.Failed.{Failed}
use Rattle.port_base.specs.declared.mem_source.MemSource.{MemSource}
use Rattle.port_base.specs.declared.mem_sink.MemSink.{MemSink}

-- the bytes still to come
abbrev pub memory_left : MemSource → List ℕ
memory_left m = drop m.at m.bytes.items

-- whether it has answered that it ended
abbrev pub memory_ended : MemSource → Bool
memory_ended m = m.ended

-- the bytes taken so far
abbrev pub memory_got : MemSink → List ℕ
memory_got m = take m.len m.buf.items

-- how many bytes it has room for yet
abbrev pub memory_room : MemSink → ℕ
memory_room m = vec_len m.buf - m.len

-- a write fails exactly where there is a byte and no room, and else takes what fits
pub record TakesWhatFits (old_room : ℕ) (bytes : List ℕ) (result : Result ℕ Failed) (new_room : ℕ) : Type 0 where
  pub full : IsErr result ↔ ((0 < length bytes) × (old_room ≡ 0))
  pub fits : IfOk result (λ n. n ≡ min old_room (length bytes))
  pub room : new_room ≡ old_room - length (sent result bytes)

-- how often it had no room
abbrev pub memory_faults : MemSink → ℕ
memory_faults m = m.failed
