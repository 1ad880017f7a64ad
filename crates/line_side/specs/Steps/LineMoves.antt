-- Steps of `close`, `step` and others: what the moves of an input line within a piece do. `size` is the number of
-- frames of a multiframe.
use Rattle.std.specs.Prelude.{◌≡◌, ◌<◌, ◌+◌, ◌-◌, min, max, ℕ, Bool, true, false, if◌then◌else◌, List, length, nat_lt, option_map, Some, None, IsSome, slice_index}
use Rattle.port_base.specs.Views.{InView}
use Rattle.multiframe.specs.LineTurns.{Lock, one_if, looked_ahead, is_start, least_start}
use Rattle.multiframe.specs.Alignment.{Alignment, aligned_at, with_frame, taken_of, EndsTurn}
use Rattle.line_side.specs.LineFile.{frame_at, mfas_of, whole_frames}
use Rattle.line_side.specs.Reader.{ReaderView, HasRead}
use Rattle.line_side.specs.Steps.Reader.{OnAnyLine, ReadStep}
use Rattle.otn_base.specs.Counts.{saturated}
use Rattle.line_side.specs.LineStands.{LineView, frames_taken}
use Rattle.line_side.specs.declared.tried.Tried.{Tried}
use Rattle.line_side.specs.declared.tried.Tried.TheVariants.{Locks, Passes, Ends}

-- the kind, the pieces and the lost multiframes stay
pub record Keeps (old new : LineView) : Type 0 where
  pub kind : new.kind ≡ old.kind
  pub pieces : new.pieces ≡ old.pieces
  pub lost : new.lost ≡ old.lost

-- a frame was taken into the alignment, and the line is locked, or none was taken, and the alignment stays
pub record TakesMember (taken : Bool) (old new : LineView) : Type 0 where
  pub aligned : taken ≡ true → IsSome new.alignment
  pub stays : taken ≡ false → new.alignment ≡ old.alignment
  pub count : frames_taken new ≡ frames_taken old + one_if taken

-- so many more lead-in frames were passed over
abbrev pub PassesOver : LineView → ℕ → LineView → Type 0
PassesOver old m new = (before : ℕ) → old.lead_in ≡ saturated before → new.lead_in ≡ saturated (before + m)

-- frame u is in hand, and taken into the alignment
pub record TookFrame (available : List ℕ) (n u w : ℕ) (old new : LineView) : Type 0 where
  pub read : HasRead available n (u + 1) w new.reader
  pub there : u < whole_frames available
  pub hand : new.reader.hand ≡ frame_at available u
  pub alignment : new.alignment ≡ option_map (with_frame (slice_index (mfas_of available) u)) old.alignment
  pub ended : new.ended ≡ old.ended

-- there is no frame u, and the line ends
pub record FoundNone (available : List ℕ) (n u w : ℕ) (old new : LineView) : Type 0 where
  pub read : HasRead available n u w new.reader
  pub end : u ≡ whole_frames available
  pub alignment : new.alignment ≡ old.alignment
  pub ended : new.ended ≡ true

-- a piece of a locked turn: the next frame is taken, or the line ends where it is not whole
pub record TakesNext (result : Bool) (old : LineView) (was : InView) (new : LineView) (is : InView) : Type 0 where
  pub further : List ℕ
  pub step : ReadStep old.reader was further new.reader is
  pub keeps : Keeps old new
  pub member : TakesMember result old new
  pub lead_in : new.lead_in ≡ old.lead_in
  pub over : result ≡ false → new.ended ≡ true
  pub frame : result ≡ true → OnAnyLine old.reader new.reader further
      (λ available n u w. TookFrame available n u (max w (u + 1)) old new)
  pub none : result ≡ false → OnAnyLine old.reader new.reader further
      (λ available n u w. FoundNone available n u (max w (u + 1)) old new)

-- the line is locked on the multiframe that begins with frame u
pub record LockedAt (size : ℕ) (available : List ℕ) (n u w : ℕ) (old new : LineView) : Type 0 where
  pub read : HasRead available n (u + 1) w new.reader
  pub start : is_start size (mfas_of available) u ≡ true
  pub hand : new.reader.hand ≡ frame_at available u
  pub alignment : new.alignment ≡ Some (with_frame (slice_index (mfas_of available) u)
      (aligned_at (slice_index (mfas_of available) u)))
  pub ended : new.ended ≡ old.ended

-- no multiframe may begin at frame u, which is lead-in
pub record PassedBy (size : ℕ) (available : List ℕ) (n u w : ℕ) (r : ReaderView) : Type 0 where
  pub read : HasRead available n (u + 1) w r
  pub start : is_start size (mfas_of available) u ≡ false

-- whether the frame that was tried is lead-in
abbrev pub is_passed : Tried → Bool
is_passed Locks = false
is_passed Passes = true
is_passed Ends = false

-- whether a multiframe begins with the frame that was tried
abbrev pub is_locked : Tried → Bool
is_locked Locks = true
is_locked Passes = false
is_locked Ends = false

-- a hunt tries the next frame: the line locks on the multiframe that begins with it, passes over it, or ends where it
-- is not whole
pub record Tries (size : ℕ) (tried : Tried) (old : LineView) (was : InView) (new : LineView)
    (is : InView) : Type 0 where
  pub further : List ℕ
  pub step : ReadStep old.reader was further new.reader is
  pub keeps : Keeps old new
  pub member : TakesMember (is_locked tried) old new
  pub passes_over : PassesOver old (one_if (is_passed tried)) new
  pub passed : tried ≡ Passes → (new.alignment ≡ old.alignment) × (new.ended ≡ old.ended)
  pub locks : tried ≡ Locks → OnAnyLine old.reader new.reader further
      (λ available n u w. LockedAt size available n u (max w (u + 1 + 1)) old new)
  pub passes : tried ≡ Passes → OnAnyLine old.reader new.reader further
      (λ available n u w. PassedBy size available n u
      (max w (u + 1 + one_if (looked_ahead size (mfas_of available) u))) new.reader)
  pub ends : tried ≡ Ends → OnAnyLine old.reader new.reader further
      (λ available n u w. FoundNone available n u (max w (u + 1)) old new)

-- a hunt from frame i on has locked at the least of the frames of a multiframe at which a multiframe may begin
pub record HuntLocked (size : ℕ) (available : List ℕ) (n i w m : ℕ) (old new : LineView) : Type 0 where
  pub least : least_start size (mfas_of available) i size ≡ Some m
  pub locked : LockedAt size available n (i + m) (max w (i + m + 2)) old new
  pub passes_over : PassesOver old m new

-- a hunt from frame i on found no such frame among those of a multiframe, or among those that are left
pub record HuntFailed (size : ℕ) (available : List ℕ) (n i w : ℕ) (old new : LineView) : Type 0 where
  pub least : least_start size (mfas_of available) i size ≡ None
  pub read : HasRead available n (min (length (mfas_of available)) (i + size))
      (max w (i + size + one_if (looked_ahead size (mfas_of available) (i + size - 1)))) new.reader
  pub alignment : new.alignment ≡ old.alignment
  pub ended : new.ended ≡ nat_lt (length (mfas_of available)) (i + size)
  pub passes_over : PassesOver old (min size (length (mfas_of available) - i)) new

-- the first piece of a turn that hunts: frame after frame is tried until the line locks or ends, but no more than a
-- multiframe has
pub record Hunts (size : ℕ) (result : Bool) (old : LineView) (was : InView) (new : LineView)
    (is : InView) : Type 0 where
  pub further : List ℕ
  pub step : ReadStep old.reader was further new.reader is
  pub keeps : Keeps old new
  pub member : TakesMember result old new
  pub locks : result ≡ true → OnAnyLine old.reader new.reader further
      (λ available n i w. (m : ℕ) × HuntLocked size available n i w m old new)
  pub fails : result ≡ false
      → OnAnyLine old.reader new.reader further (λ available n i w. HuntFailed size available n i w old new)

-- nothing was read
pub record Waits (result : Bool) (old : LineView) (was : InView) (new : LineView) (is : InView) : Type 0 where
  pub answer : result ≡ false
  pub line : new ≡ old
  pub place : is ≡ was

-- a piece: a line that has ended waits, one that is locked takes the next frame, and one that hunts does so in the
-- first piece of the turn and waits in the others
pub record StepMoves (size : ℕ) (first result : Bool) (old : LineView) (was : InView) (new : LineView)
    (is : InView) : Type 0 where
  pub over : old.ended ≡ true → Waits result old was new is
  pub locked : (a : Alignment) → old.ended ≡ false → old.alignment ≡ Some a → TakesNext result old was new is
  pub hunting : old.ended ≡ false → old.alignment ≡ None → first ≡ true → Hunts size result old was new is
  pub waiting : old.ended ≡ false → old.alignment ≡ None → first ≡ false → Waits result old was new is

-- the end of a turn
pub record EndMoves (size : ℕ) (result : Bool) (old new : LineView) : Type 0 where
  pub kind : new.kind ≡ old.kind
  pub reader : new.reader ≡ old.reader
  pub ended : new.ended ≡ old.ended
  pub lead_in : new.lead_in ≡ old.lead_in
  pub pieces : new.pieces ≡ 0
  pub has_frame : new.has_frame ≡ false
  pub over : old.ended ≡ true → (result ≡ false) × (new.lost ≡ old.lost)
  pub hunted : old.alignment ≡ None → (result ≡ false) × (new.lost ≡ old.lost) × (new.alignment ≡ None)
  pub locked : (ms : List ℕ) (lock : Lock) → old.ended ≡ false → old.alignment ≡ Some (taken_of size ms lock)
      → EndsTurn size ms lock result new.alignment
      × (new.lost ≡ (if result then old.lost else saturated (old.lost + 1)))
  pub whole : result ≡ true → frames_taken old ≡ size
  pub none_taken : frames_taken new ≡ 0
