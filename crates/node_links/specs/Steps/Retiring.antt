-- Steps of `retire_link`, `retire_ends` and others: what private contracts alone cite, beside the definitions of
-- `Retiring`.
use Rattle.std.specs.Prelude.{◌≡◌, ℕ, Bool}
use Rattle.port_base.specs.Views.{BaysView, client_in_at, client_out_at}
use Rattle.device_model.specs.RetiredPlaces.{after_retire, out_after_retire}

-- these client places were emptied, where they were live, and all others are as they were
pub record RetiredAt (ins outs : ℕ → Bool) (was is : BaysView) : Type 0 where
  pub line_in : is.line_in ≡ was.line_in
  pub line_out : is.line_out ≡ was.line_out
  pub client_in : (n : ℕ) → client_in_at is n ≡ after_retire (ins n) (client_in_at was n)
  pub client_out : (n : ℕ) → client_out_at is n ≡ out_after_retire (outs n) (client_out_at was n)
