-- API: what the system's answer to a read or a write comes to.
use Rattle.std.specs.IoError.{error_kind}
use Rattle.std.specs.Prelude.{◌≡◌, ◌≢◌, ℕ, zero, suc, Result, Ok, Err}
use Rattle.std.specs.declared.io.Error.{Error}
use Rattle.std.specs.declared.io.ErrorKind.{ErrorKind}
use Rattle.std.specs.declared.io.ErrorKind.TheVariants.{Interrupted, WriteZero}
use Rattle.otn_ports.specs.declared.system_answer.Outcome.{Outcome}
use Rattle.otn_ports.specs.declared.system_answer.Outcome.TheVariants.{Moved, Again, Refused}

-- a call that a signal interrupted is made again, and any other refusal is a fault of its kind
abbrev pub IsRefusalOutcome : ErrorKind → Outcome → Type 0
IsRefusalOutcome kind outcome = (kind ≡ Interrupted → outcome ≡ Again) × (kind ≢ Interrupted → outcome ≡ Refused kind)

-- a read moved as many bytes as the system says, also where that is none
abbrev pub IsReadOutcome : Result ℕ Error → Outcome → Type 0
IsReadOutcome (Ok n) outcome = outcome ≡ Moved n
IsReadOutcome (Err error) outcome = IsRefusalOutcome (error_kind error) outcome

-- a write likewise, but one that took no byte is a fault
abbrev pub IsWriteOutcome : Result ℕ Error → Outcome → Type 0
IsWriteOutcome (Ok zero) outcome = outcome ≡ Refused WriteZero
IsWriteOutcome (Ok (suc n)) outcome = outcome ≡ Moved (suc n)
IsWriteOutcome (Err error) outcome = IsRefusalOutcome (error_kind error) outcome
