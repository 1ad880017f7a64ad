-- Believed: the command within its turns: a sink, and what becomes of the bytes that it emits.
use Rattle.std.specs.Prelude.{◌≡◌, ◌≢◌, ℕ}
use Rattle.port_base.specs.Views.{BaysView, line_in_at}

-- all places but line input 0 and the client outputs are as they were
pub record OnlyUnbundled (first now : BaysView) : Type 0 where
  pub line_in : (a : ℕ) → a ≢ 0 → line_in_at now a ≡ line_in_at first a
  pub line_out : now.line_out ≡ first.line_out
  pub client_in : now.client_in ≡ first.client_in

-- ---- the end
