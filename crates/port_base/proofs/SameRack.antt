-- Two racks with the same places are the same: a fact has one proof.
use Rattle.std.proofs.Common.{◌≡◌, ap, vec_len}
use Rattle.std.proofs.Props.{props}
use Rattle.std.specs.declared.vec.Vec.{Vec}
use Rattle.std.specs.declared.alloc.Global.{Global}
use Rattle.port_base.specs.declared.bays.Rack.{Rack}
use Rattle.port_base.specs.declared.in_place.InPlaceOf.{InPlaceOf}
use Rattle.port_base.specs.declared.out_place.OutPlaceOf.{OutPlaceOf}

abbrev Sizes : {A B : Type 0} → Vec A Global → Vec B Global → Vec A Global → Vec B Global → Type 0
Sizes a b c d = (vec_len a ≡ 4) × (vec_len b ≡ 4) × (vec_len c ≡ 16) × (vec_len d ≡ 16)

pub same_rack : {P K : Type 0} (a : Vec (InPlaceOf P) Global) (b : Vec (OutPlaceOf K) Global) (c : Vec (InPlaceOf P) Global) (d : Vec (OutPlaceOf K) Global) (p q : Sizes a b c d)
    → let Rk : Type 0 = Rack P K in let x : Rk = record { line_in = a; line_out = b; client_in = c; client_out = d; all = p } in let y : Rk = record { line_in = a; line_out = b; client_in = c; client_out = d; all = q } in x ≡ y
same_rack a b c d p q =
    let prop : IsProp (Sizes a b c d) = Prim.hlevel props in
    ap (λ s. record { line_in = a; line_out = b; client_in = c; client_out = d; all = s }) (prop p q)
