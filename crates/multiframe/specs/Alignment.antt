-- API: the multiframe alignment of a line within a turn, by the MFAS bytes that were taken in it.
use Rattle.std.specs.Prelude.{◌≡◌, ◌≤◌, ℕ, ◌+◌, ◌/◌, ◌%◌, ◌==◌, nat_le, if◌then◌else◌, List, [], ◌∷◌, ◌++◌, length, take, drop, Option, Some, None, ⊤, Bool, IsTrue, ◌↔◌}
use Rattle.otn_base.specs.LineSlots.{slots_of}
use Rattle.otn_base.specs.declared.line_kind.LineKind.{LineKind}
use Rattle.multiframe.specs.LineTurns.{Lock, LineState, Hunting, Locked, Ended, Whole, outcome_of, after_outcome, wrong_count}

-- a line that is locked: the MFAS that is expected in the turn's first frame, and those that were taken in this turn
pub record Alignment : Type 0 where
  pub expected : ℕ
  pub taken : List ℕ

-- what is seen of the multiframe alignment of a line: the line's kind, and its alignment where it is locked
pub record LinePhase : Type 0 where
  pub kind : LineKind
  pub alignment : Option Alignment

-- locked, and no frame of the turn was taken
abbrev pub aligned_at : ℕ → Alignment
aligned_at e = record { expected = e; taken = [] }

-- one more frame of the turn
abbrev pub with_frame : ℕ → Alignment → Alignment
with_frame mfas a = record { expected = a.expected; taken = a.taken ++ mfas ∷ [] }

-- a whole multiframe was taken, and at most half of its MFAS bytes differ from the expected ones
abbrev pub HasMultiframe : ℕ → Option Alignment → Type 0
HasMultiframe size (Some a) = (length a.taken ≡ size) × (wrong_count a.expected a.taken ≤ size / 2)
HasMultiframe size None = ⊥

-- after a whole multiframe the next one is expected, or the line hunts where more than half of the MFAS bytes differ;
-- after a turn that was cut short the same MFAS is expected again, and none is taken
abbrev pub after_end : ℕ → Option Alignment → Option Alignment
after_end size None = None
after_end size (Some a) =
    if length a.taken == size then (if nat_le (wrong_count a.expected a.taken) (size / 2)
    then Some (aligned_at ((a.expected + size) % 256)) else None)
    else Some (aligned_at a.expected)

-- a turn of a line has ended: whether it has a multiframe, and how the line is aligned after it
pub record PhaseEnds (old : LinePhase) (result : Bool) (new : LinePhase) : Type 0 where
  pub multiframe : IsTrue result ↔ HasMultiframe (slots_of old.kind) old.alignment
  pub after : new ≡ record { kind = old.kind; alignment = after_end (slots_of old.kind) old.alignment }

-- of the first k frames of a locked turn those that there are, all taken
abbrev pub taken_of : (k : ℕ) → List ℕ → Lock → Alignment
taken_of k ms lock = record { expected = lock.expected; taken = take k (drop lock.frame ms) }

-- The alignment between two turns of a line in this state. Of a line that has ended nothing is said.
abbrev pub IsAlignmentOf : LineState → Option Alignment → Type 0
IsAlignmentOf (Hunting i) alignment = alignment ≡ None
IsAlignmentOf (Locked lock) alignment = alignment ≡ Some (aligned_at lock.expected)
IsAlignmentOf Ended alignment = ⊤

-- a turn of the line that is locked so has ended: it has a multiframe exactly where the line's turn has one, and the
-- alignment is that of the line after it
pub record EndsTurn (size : ℕ) (ms : List ℕ) (lock : Lock) (result : Bool) (new : Option Alignment) : Type 0 where
  pub multiframe : IsTrue result ↔ (outcome_of size ms lock ≡ Whole)
  pub after : IsAlignmentOf (after_outcome size lock (outcome_of size ms lock)) new
