-- Believed: one place changed, and all others are as at entry.
use Rattle.std.specs.Prelude.{◌≡◌, ◌≢◌, ℕ}
use Rattle.port_base.specs.Views.{BaysView, line_in_at}

-- all places but line input n are as at first
pub record OnlyLineIn (n : ℕ) (first now : BaysView) : Type 0 where
  pub line_in : (m : ℕ) → m ≢ n → line_in_at now m ≡ line_in_at first m
  pub line_out : now.line_out ≡ first.line_out
  pub client_in : now.client_in ≡ first.client_in
  pub client_out : now.client_out ≡ first.client_out
