-- A place that is put back as it was leaves all places so.
use Rattle.std.proofs.Common.{◌≡◌, ◌≤◌, ◌∙◌, List, [], ◌∷◌, Some, length, sym, ap, subst, slice_get, slice_set}
use Rattle.std.proofs.Props.{props}
use Rattle.std.specs.Vec.{with_item}
use Rattle.std.specs.declared.alloc.Global.{Global}
use Rattle.std.specs.declared.vec.Vec.{Vec}
use Rattle.port_base.specs.Racks.{line_ins, with_line_in}
use Rattle.port_base.specs.declared.bays.Rack.{Rack}
use Rattle.port_base.specs.declared.in_place.InPlaceOf.{InPlaceOf}

-- there is room for these in a list's memory
abbrev Fits : {A : Type 0} → Vec A Global → List A → Type 0
Fits v xs = (v.len ≡ length xs) × (v.len ≤ v.cap)

-- the rack with these line inputs
abbrev with_places : {P K : Type 0} (rack : Rack P K) (places : List (InPlaceOf P)) → Fits rack.line_in places → Rack P K
with_places rack places fits =
    let v = rack.line_in in
    record rack { line_in = record { ptr = v.ptr; len = v.len; cap = v.cap; alloc = v.alloc; items = places; ok = fits; small = v.small } }

-- it is the same rack where they are its own: a fact has one proof
same_places : {P K : Type 0} (rack : Rack P K) (places : List (InPlaceOf P)) → places ≡ line_ins rack → (fits : Fits rack.line_in places) → with_places rack places fits ≡ rack
same_places rack places same = subst (λ xs. (fits : Fits rack.line_in xs) → with_places rack xs fits ≡ rack) (sym same) back
  where
    back : (fits : Fits rack.line_in (line_ins rack)) → with_places rack (line_ins rack) fits ≡ rack
    back fits =
        let prop : IsProp (Fits rack.line_in (line_ins rack)) = Prim.hlevel props in
        ap (with_places rack (line_ins rack)) (prop fits rack.line_in.ok)

set_first : {X : Type 0} (xs : List X) (x : X) → slice_get xs 0 ≡ Some x → slice_set xs 0 x ≡ xs
set_first [] x there = absurd (cc)
set_first (z ∷ zs) x there = let e : z ≡ x = cc in ap (λ y. y ∷ zs) (sym e)

pub put_back : {P K : Type 0} (rack : Rack P K) (x y : InPlaceOf P) → slice_get (line_ins rack) 0 ≡ Some x → y ≡ x → with_line_in rack 0 y ≡ rack
put_back rack x y there same =
    let back : slice_set (line_ins rack) 0 y ≡ line_ins rack = ap (slice_set (line_ins rack) 0) same ∙ set_first (line_ins rack) x there in
    same_places rack (slice_set (line_ins rack) 0 y) back (with_item rack.line_in 0 y).ok
