-- Inputs over bytes in memory never fail.
use Rattle.std.proofs.Common.{◌≡◌, ℕ, zero, suc, List, [], ◌∷◌, get_or, map, refl}
use Rattle.port_base.specs.InPlace.{in_view}
use Rattle.port_base.specs.Views.{no_input}
use Rattle.port_base.specs.declared.bays.Rack.{Rack}
use Rattle.port_base.specs.declared.in_place.InPlaceOf.{InPlaceOf}
use Rattle.port_base.specs.declared.in_place.InPlaceOf.TheVariants as input
use Rattle.otn_c.specs.Places.{InputsAreWell}
use Rattle.otn_c.specs.contracts.slice_source.SliceSourceSource.TheImpl as source
use Rattle.otn_c.specs.declared.growing_sink.GrowingSink.{GrowingSink}
use Rattle.otn_c.specs.declared.slice_source.SliceSource.{SliceSource}
use Rattle.otn_c.proofs.Filling.{view}

calm_place : (place : InPlaceOf SliceSource) → (in_view source.ghosts place).faults ≡ 0
calm_place input.Empty = refl
calm_place (input.Live port number) = refl
calm_place (input.Dead sealed number) = refl

calm_at : (places : List (InPlaceOf SliceSource)) (n : ℕ) → (get_or (map (in_view source.ghosts) places) n no_input).faults ≡ 0
calm_at [] n = refl
calm_at (place ∷ places) zero = calm_place place
calm_at (place ∷ places) (suc n) = calm_at places n

pub calm_inputs : (rack : Rack SliceSource GrowingSink) → InputsAreWell (view rack)
calm_inputs rack = record { line_in = λ a. calm_at rack.line_in.items a; client_in = λ n. calm_at rack.client_in.items n }
