-- API: how far a signal's stream was given.
use Rattle.std.specs.Prelude.{◌≡◌, ℕ, ◌%◌}
use Rattle.maintenance_signals.specs.declared.signal.Signal.{Signal}
use Rattle.maintenance_signals.specs.declared.runs.TheConstants.{PERIOD}

-- a signal, and a place among the 3,915,776 bytes of its 256 different frames
pub record StreamPlace : Type 0 where
  pub signal : Signal
  pub place : ℕ

-- So many bytes of this signal's stream were emitted: it stands at the next one. It comes again after 256 frames.
pub record HasEmitted (signal : Signal) (emitted : ℕ) (stands : StreamPlace) : Type 0 where
  pub signal_is : stands.signal ≡ signal
  pub place_is : stands.place ≡ emitted % PERIOD
