-- Steps of `settle_one` and `ask_channel`: what private contracts alone cite, beside the definitions of `OnePlace`.
use Rattle.std.specs.Prelude.{◌≡◌, ◌≢◌, ℕ}
use Rattle.port_base.specs.Views.{BaysView, client_in_at}

-- all places but client input n are as at first
pub record OnlyClientIn (n : ℕ) (first now : BaysView) : Type 0 where
  pub line_in : now.line_in ≡ first.line_in
  pub line_out : now.line_out ≡ first.line_out
  pub client_in : (m : ℕ) → m ≢ n → client_in_at now m ≡ client_in_at first m
  pub client_out : now.client_out ≡ first.client_out
