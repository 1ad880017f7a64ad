-- A place that is emptied twice, or once of two times.
use Rattle.std.proofs.Common.{◌≡◌, Bool, true, false, ◌||◌, refl, sym}
use Rattle.port_base.specs.Views.{State, Empty, Live, Dead, InView, OutView}
use Rattle.device_model.specs.RetiredPlaces.{after_retire, out_after_retire}

retired_twice : (v : InView) (s : State) → v.state ≡ s → after_retire true (after_retire true v) ≡ after_retire true v
retired_twice v Live e = rw e refl
retired_twice v Empty e = rw e refl
retired_twice v Dead e = rw e refl

pub after_or : (a b : Bool) (v : InView) → after_retire (a || b) v ≡ after_retire b (after_retire a v)
after_or false b v = refl
after_or true false v = refl
after_or true true v = sym (retired_twice v v.state refl)

out_twice : (v : OutView) (s : State) → v.state ≡ s → out_after_retire true (out_after_retire true v) ≡ out_after_retire true v
out_twice v Live e = rw e refl
out_twice v Empty e = rw e refl
out_twice v Dead e = rw e refl

pub out_after_or : (a b : Bool) (v : OutView) → out_after_retire (a || b) v ≡ out_after_retire b (out_after_retire a v)
out_after_or false b v = refl
out_after_or true false v = refl
out_after_or true true v = sym (out_twice v v.state refl)
