-- API: the fibres of a network before its first turn.
use Rattle.std.specs.Prelude.{◌<◌, ◌^◌, true}
use Rattle.network_laws.specs.Networks.{FibreEnds}
use Rattle.network_run.specs.declared.fibres.Filling.{Filling}

-- the indexes of its nodes have 32 bits
pub record IsNear (f : FibreEnds) : Type 0 where
  pub here : f.here < 2 ^ 32
  pub there : f.there < 2 ^ 32

-- a fibre over which nothing went yet
abbrev pub new_filling : FibreEnds → Filling
new_filling f = record {
  span = record { here = f.here; out = f.out; there = f.there; into = f.into };
  mark = 0;
  whole = true;
}
