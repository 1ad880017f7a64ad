-- One output place changed, and all others are as at entry.
use Rattle.std.specs.Prelude.{◌≡◌, ◌≢◌, ℕ}
use Rattle.port_base.specs.Views.{BaysView, line_out_at, client_out_at}

-- all places but line output n are as at first
pub record OnlyLineOut (n : ℕ) (first now : BaysView) : Type 0 where
  pub line_in : now.line_in ≡ first.line_in
  pub line_out : (m : ℕ) → m ≢ n → line_out_at now m ≡ line_out_at first m
  pub client_in : now.client_in ≡ first.client_in
  pub client_out : now.client_out ≡ first.client_out

-- all places but client output n are as at first
pub record OnlyClientOut (n : ℕ) (first now : BaysView) : Type 0 where
  pub line_in : now.line_in ≡ first.line_in
  pub line_out : now.line_out ≡ first.line_out
  pub client_in : now.client_in ≡ first.client_in
  pub client_out : (m : ℕ) → m ≢ n → client_out_at now m ≡ client_out_at first m
