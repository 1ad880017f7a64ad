-- API: what follows of what the command `bundle` answers for: by the bytes that its clients had to give, and where
-- nothing failed.
use Rattle.std.specs.Prelude.{◌≡◌, ◌≢◌, ◌↔◌, ◌⊎◌, ◌-◌, ◌+◌, ◌^◌, ◌<◌, ℕ, Bool, false, List, [], ◌++◌, length}
use Rattle.port_base.specs.Given.{HadToGive}
use Rattle.port_base.specs.Views.{Dead, InView, BaysView, line_out_at}
use Rattle.port_base.specs.declared.ended.Ended.{Ended}
use Rattle.port_base.specs.declared.ended.Ended.TheVariants as ending
use Rattle.packet_text.specs.LinesStand.{ReadAsNeeded}
use Rattle.odu_client.specs.ClientInput.{ClientInput, input_given}
use Rattle.device_model.specs.Inputs.{has_died}
use Rattle.bundle_command.specs.ChannelInput.{texts_of}
use Rattle.bundle_command.specs.BundleStream.{IsAskedWithin, IsFinished, begun_of, channel_turns, first_slot, lines_told}
use Rattle.tributary_line.specs.TurnsLeft.{OutputDue}
use Rattle.bundle_command.specs.BundleLeft.{IsCut, OnlyBundled, Tells, WasAsked, place_of}
use Rattle.command_base.specs.AnswerWords.{IsWell}
use Rattle.line_tool.specs.Answers.{Bundles, PlacesAnswers}
use Rattle.command_base.specs.Device.{Device}
use Rattle.command_base.specs.declared.status.Status.{Status}
use Rattle.command_base.specs.declared.status.Status.TheVariants as status

-- the clients' inputs where they had these bytes to give
abbrev pub inputs_of : (clients : List ℕ) (first last : BaysView) (available : ℕ → List ℕ) → (c : ℕ) → ClientInput
inputs_of clients first last available c = input_given
    (has_died (place_of clients first c).state (place_of clients last c).state) (available c)

-- These bytes from the front of a client's were taken: where its channel is asked in the turns, no block that was not
-- needed for one packet more than these, and for that one; where it is not, none. The place's number tells how many
-- bytes.
pub record TookOf (Asked : Type 0) (packets : ℕ) (available : List ℕ) (first last : InView) : Type 0 where
  pub read : List ℕ
  pub rest : List ℕ
  pub parts : available ≡ read ++ rest
  pub more : Bool
  pub over : more ≡ false → rest ≡ []
  pub short : Bool
  pub needed : ReadAsNeeded short (packets + 1) read
  pub asked : WasAsked Asked packets more first last read
  pub number : last.number < 2 ^ 64 - 1 → last.number - first.number ≡ length read

-- What is left where the clients had these bytes to give.
pub record BundledOfGiven (clients : List ℕ) (turns : ℕ) (old new : Device) (ended : Ended) (available : ℕ → List ℕ)
    (inputs : ℕ → ClientInput) : Type 0 where
  pub output : OutputDue first_slot (channel_turns clients (texts_of (length clients) inputs) turns) turns
      (line_out_at old.bays 0) (line_out_at new.bays 0)
  pub report : Tells ended old.report (lines_told clients (texts_of (length clients) inputs) turns
      (λ c. (place_of clients new.bays c).state) (length clients)) new.report
  pub took : (c : ℕ) → c < length clients
      → TookOf (IsAskedWithin clients (texts_of (length clients) inputs) turns c)
      (length (begun_of clients (texts_of (length clients) inputs) turns c)) (available c)
      (place_of clients old.bays c) (place_of clients new.bays c)
  pub cut : ended ≢ ending.ReportFault → (ended ≡ ending.Cut) ↔ IsCut clients new.bays
  pub unfinished : ended ≢ ending.ReportFault
      → (ended ≡ ending.Unfinished) ↔ ((IsCut clients new.bays → ⊥) × (IsFinished clients turns inputs → ⊥))

-- Where the clients tell their bytes, `bundle` leaves what it does of all that they had to give.
abbrev pub BundlesWhatWasGiven : Type 0
BundlesWhatWasGiven = (clients : List ℕ) (turns : ℕ) (old new : Device) (ended : Ended) (available : ℕ → List ℕ)
    → Bundles clients turns old new ended
    → ((c : ℕ) → c < length clients
    → HadToGive (place_of clients old.bays c) (place_of clients new.bays c) (available c))
    → BundledOfGiven clients turns old new ended available (inputs_of clients old.bays new.bays available)

-- No client's place was dead, nor line output 0, and none of their counts of faults rose or stands at its end.
pub record AreBundledWell (clients : List ℕ) (first last : BaysView) : Type 0 where
  pub live : (c : ℕ) → c < length clients → (place_of clients first c).state ≢ Dead
  pub clients_well : (c : ℕ) → c < length clients
      → IsWell (place_of clients first c).faults (place_of clients last c).faults
  pub line_live : (line_out_at first 0).state ≢ Dead
  pub line : IsWell (line_out_at first 0).faults (line_out_at last 0).faults

-- Then, and where no write of the report failed, the answer is Done or Unfinished; or there was no memory.
abbrev pub BundleIsComplete : Type 0
BundleIsComplete = (clients : List ℕ) (turns : ℕ) (old new : Device) (answer : Status)
    → PlacesAnswers (OnlyBundled clients) (Bundles clients turns) old new answer
    → IsWell old.report.faults new.report.faults → AreBundledWell clients old.bays new.bays
    → (answer ≡ status.Done) ⊎ (answer ≡ status.Unfinished) ⊎ (answer ≡ status.Memory)
