-- API: what is seen of the ports over readers and writers of the system: they tell no bytes.
use Rattle.std.specs.Io.KnownBytes.{prepend_known}
use Rattle.std.specs.Prelude.{◌≢◌, ℕ, Bool, List, Option, Some, None, is_some}
use Rattle.std.specs.declared.io.ErrorKind.{ErrorKind}
use Rattle.std.specs.declared.io.ErrorKind.TheVariants.{Interrupted}
use Rattle.otn_ports.specs.declared.reader_source.ReaderSource.{ReaderSource}
use Rattle.otn_ports.specs.declared.writer_sink.WriterSink.{WriterSink}

-- the bytes that a reader has yet, or that a writer holds, where there is one and it tells them
abbrev pub told_by : {A : Type 0} → (A → Option (List ℕ)) → Option A → Option (List ℕ)
told_by bytes None = None
told_by bytes (Some port) = bytes port

-- why a call failed: the kind of the system's refusal, which is not that a signal interrupted the call
abbrev pub IsFault : Option ErrorKind → Type 0
IsFault None = ⊥
IsFault (Some kind) = kind ≢ Interrupted

-- whether it has a reader
abbrev pub has_reader : {R : Type 0} → ReaderSource R → Bool
has_reader source = is_some source.reader

-- how often it has failed
abbrev pub reader_faults : {R : Type 0} → ReaderSource R → ℕ
reader_faults source = source.failed

-- why it failed last
abbrev pub reader_fault : {R : Type 0} → ReaderSource R → Option ErrorKind
reader_fault source = source.fault

-- whether its reader has answered that it ended
abbrev pub reader_ended : {R : Type 0} → ReaderSource R → Bool
reader_ended source = source.ended

-- the bytes that it has read ahead of what it gave
abbrev pub reader_at_hand : {R : Type 0} → ReaderSource R → List ℕ
reader_at_hand source = source.ahead.bytes

-- why its reader refused to give more when it looked ahead, where no read has answered so yet
abbrev pub reader_refused : {R : Type 0} → ReaderSource R → Option ErrorKind
reader_refused source = source.ahead.refused

-- the bytes that it has yet: those at hand, and then those that its reader has, where it tells them
abbrev pub reader_bytes : {R : Type 0} → (R → Option (List ℕ)) → ReaderSource R → Option (List ℕ)
reader_bytes remaining source = prepend_known source.ahead.bytes (told_by remaining source.reader)

-- whether it has a writer
abbrev pub has_writer : {W : Type 0} → WriterSink W → Bool
has_writer sink = is_some sink.writer

-- how often it has failed
abbrev pub writer_faults : {W : Type 0} → WriterSink W → ℕ
writer_faults sink = sink.failed

-- why it failed last
abbrev pub writer_fault : {W : Type 0} → WriterSink W → Option ErrorKind
writer_fault sink = sink.fault

-- the bytes that its writer holds
abbrev pub writer_bytes : {W : Type 0} → (W → Option (List ℕ)) → WriterSink W → Option (List ℕ)
writer_bytes contents sink = told_by contents sink.writer
