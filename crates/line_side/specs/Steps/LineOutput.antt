-- Steps of `join`: what private contracts alone cite, beside the definitions of `LineOutput`.
use Rattle.std.specs.Prelude.{◌≡◌, ℕ, ◌+◌, ◌*◌, ◌%◌, List, ◌++◌, length}
use Rattle.otn_base.specs.declared.limits.TheConstants.{LINE_FRAME_BYTES}
use Rattle.port_base.specs.Sent.{IsSent}
use Rattle.port_base.specs.Views.{OutView}
use Rattle.line_side.specs.LineOutput.{counted_now}
use Rattle.line_side.specs.declared.waiting.TheConstants.{FRAMES_TOGETHER}

-- these frames were due to a place, and so many of them count
pub record Leaves (was : OutView) (frames : List ℕ) (is : OutView) (counts : ℕ) : Type 0 where
  pub sent : IsSent was frames is
  pub counted : counts ≡ counted_now was.state sent.written

-- A frame has joined those that wait, and where they were eight then all were due to the place. `left` wait from now
-- on, and so many frames count.
pub record Joins (waiting : List ℕ) (was : OutView) (frame left : List ℕ) (is : OutView) (counts : ℕ) : Type 0 where
  pub due : List ℕ
  pub parts : due ++ left ≡ waiting ++ frame
  pub over : (k : ℕ) → length waiting ≡ LINE_FRAME_BYTES * (k % FRAMES_TOGETHER)
      → length left ≡ LINE_FRAME_BYTES * ((k + 1) % FRAMES_TOGETHER)
  pub leaves : Leaves was due is counts
