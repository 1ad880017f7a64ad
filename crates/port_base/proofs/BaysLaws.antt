-- What is seen of all places where one of them is read, set or lent.
use Rattle.std.proofs.Common.{◌≡◌, ◌≢◌, ◌<◌, ℕ, List, Some, get_or, set, map, length, refl, ap, ◌∙◌}
use Rattle.std.proofs.lemmas.List.{map-set, get_or-set_same, get_or-set_other, get_or-map, length-map}
use Rattle.std.proofs.lemmas.Option.{get_or_from_slice_get, slice_get_within}
use Rattle.std.specs.Prelude.{slice_get}
use Rattle.port_base.specs.InPlace.{in_view}
use Rattle.port_base.specs.OutPlace.{out_view}
use Rattle.port_base.specs.OnePlace.{OnlyLineIn}
use Rattle.port_base.specs.Steps.OnePlace.{OnlyClientIn}
use Rattle.port_base.proofs.OneOutPlace.{OnlyLineOut, OnlyClientOut}
use Rattle.port_base.specs.Racks.{bays_view, line_ins, line_outs, client_ins, client_outs, with_line_in, with_line_out, with_client_in, with_client_out}
use Rattle.port_base.specs.Views.{line_in_at, line_out_at, client_in_at, client_out_at, no_input, no_output}
use Rattle.port_base.specs.declared.source.Source as source
use Rattle.port_base.specs.declared.sink.Sink as sink
use Rattle.port_base.specs.declared.bays.Rack.{Rack}
use Rattle.port_base.specs.declared.in_place.InPlaceOf.{InPlaceOf}
use Rattle.port_base.specs.declared.out_place.OutPlaceOf.{OutPlaceOf}

-- at the place that was read
at : {A V : Type 0} (f : A → V) (l : List A) (n : ℕ) (x : A) (d : V) → slice_get l n ≡ Some x → get_or (map f l) n d ≡ f x
at f l n x d e = get_or-map f l n x d (slice_get_within l n x e) ∙ ap f (get_or_from_slice_get l n x x e)

-- at the place that was written
now_at : {A V : Type 0} (f : A → V) (l : List A) (n : ℕ) (x y : A) (d : V) → slice_get l n ≡ Some x → get_or (map f (set l n y)) n d ≡ f y
now_at f l n x y d e =
    let within : n < length (map f l) = rw length-map (slice_get_within l n x e) in
    rw (map-set f l n y) (get_or-set_same (map f l) n (f y) d within)

-- at another
other_at : {A V : Type 0} (f : A → V) (l : List A) (n m : ℕ) (y : A) (d : V) → m ≢ n → get_or (map f (set l n y)) m d ≡ get_or (map f l) m d
other_at f l n m y d other = rw (map-set f l n y) (get_or-set_other (map f l) n m (f y) d other)

-- line input n as it was read, and as it was set or given back; all other places are as they were
pub line_in_seen : {P K : Type 0} (p : source.Ghosts P) (k : sink.Ghosts K) (rack : Rack P K) (n : ℕ) (x : InPlaceOf P) → slice_get (line_ins rack) n ≡ Some x → line_in_at (bays_view p k rack) n ≡ in_view p x
line_in_seen p k rack n x e = at (in_view p) (line_ins rack) n x no_input e

pub line_in_set : {P K : Type 0} (p : source.Ghosts P) (k : sink.Ghosts K) (rack : Rack P K) (n : ℕ) (x y : InPlaceOf P) → slice_get (line_ins rack) n ≡ Some x → line_in_at (bays_view p k (with_line_in rack n y)) n ≡ in_view p y
line_in_set p k rack n x y e = now_at (in_view p) (line_ins rack) n x y no_input e

pub only_line_in : {P K : Type 0} (p : source.Ghosts P) (k : sink.Ghosts K) (rack : Rack P K) (n : ℕ) (y : InPlaceOf P) → OnlyLineIn n (bays_view p k rack) (bays_view p k (with_line_in rack n y))
only_line_in p k rack n y = record { line_in = λ m other. other_at (in_view p) (line_ins rack) n m y no_input other; line_out = refl; client_in = refl; client_out = refl }

-- line output n as it was read, and as it was set or given back; all other places are as they were
pub line_out_seen : {P K : Type 0} (p : source.Ghosts P) (k : sink.Ghosts K) (rack : Rack P K) (n : ℕ) (x : OutPlaceOf K) → slice_get (line_outs rack) n ≡ Some x → line_out_at (bays_view p k rack) n ≡ out_view k x
line_out_seen p k rack n x e = at (out_view k) (line_outs rack) n x no_output e

pub line_out_set : {P K : Type 0} (p : source.Ghosts P) (k : sink.Ghosts K) (rack : Rack P K) (n : ℕ) (x y : OutPlaceOf K) → slice_get (line_outs rack) n ≡ Some x → line_out_at (bays_view p k (with_line_out rack n y)) n ≡ out_view k y
line_out_set p k rack n x y e = now_at (out_view k) (line_outs rack) n x y no_output e

pub only_line_out : {P K : Type 0} (p : source.Ghosts P) (k : sink.Ghosts K) (rack : Rack P K) (n : ℕ) (y : OutPlaceOf K) → OnlyLineOut n (bays_view p k rack) (bays_view p k (with_line_out rack n y))
only_line_out p k rack n y = record { line_in = refl; line_out = λ m other. other_at (out_view k) (line_outs rack) n m y no_output other; client_in = refl; client_out = refl }

-- client input n as it was read, and as it was set or given back; all other places are as they were
pub client_in_seen : {P K : Type 0} (p : source.Ghosts P) (k : sink.Ghosts K) (rack : Rack P K) (n : ℕ) (x : InPlaceOf P) → slice_get (client_ins rack) n ≡ Some x → client_in_at (bays_view p k rack) n ≡ in_view p x
client_in_seen p k rack n x e = at (in_view p) (client_ins rack) n x no_input e

pub client_in_set : {P K : Type 0} (p : source.Ghosts P) (k : sink.Ghosts K) (rack : Rack P K) (n : ℕ) (x y : InPlaceOf P) → slice_get (client_ins rack) n ≡ Some x → client_in_at (bays_view p k (with_client_in rack n y)) n ≡ in_view p y
client_in_set p k rack n x y e = now_at (in_view p) (client_ins rack) n x y no_input e

pub only_client_in : {P K : Type 0} (p : source.Ghosts P) (k : sink.Ghosts K) (rack : Rack P K) (n : ℕ) (y : InPlaceOf P) → OnlyClientIn n (bays_view p k rack) (bays_view p k (with_client_in rack n y))
only_client_in p k rack n y = record { line_in = refl; line_out = refl; client_in = λ m other. other_at (in_view p) (client_ins rack) n m y no_input other; client_out = refl }

-- client output n as it was read, and as it was set or given back; all other places are as they were
pub client_out_seen : {P K : Type 0} (p : source.Ghosts P) (k : sink.Ghosts K) (rack : Rack P K) (n : ℕ) (x : OutPlaceOf K) → slice_get (client_outs rack) n ≡ Some x → client_out_at (bays_view p k rack) n ≡ out_view k x
client_out_seen p k rack n x e = at (out_view k) (client_outs rack) n x no_output e

pub client_out_set : {P K : Type 0} (p : source.Ghosts P) (k : sink.Ghosts K) (rack : Rack P K) (n : ℕ) (x y : OutPlaceOf K) → slice_get (client_outs rack) n ≡ Some x → client_out_at (bays_view p k (with_client_out rack n y)) n ≡ out_view k y
client_out_set p k rack n x y e = now_at (out_view k) (client_outs rack) n x y no_output e

pub only_client_out : {P K : Type 0} (p : source.Ghosts P) (k : sink.Ghosts K) (rack : Rack P K) (n : ℕ) (y : OutPlaceOf K) → OnlyClientOut n (bays_view p k rack) (bays_view p k (with_client_out rack n y))
only_client_out p k rack n y = record { line_in = refl; line_out = refl; client_in = refl; client_out = λ m other. other_at (out_view k) (client_outs rack) n m y no_output other }
