-- A plan uses the ports of its connections.
use Rattle.std.proofs.Common.{◌≡◌, ℕ, zero, suc, Bool, true, false, ◌||◌, List, [], ◌∷◌, Some, slice_get, refl, ap, ◌∙◌}
use Rattle.std.proofs.lemmas.Bool.{eq-eqb}
use Rattle.std.specs.List.{list_any}
use Rattle.otn_base.specs.LineSlots.{LineSlots}
use Rattle.otn_base.specs.declared.kind.PortName.{PortName}
use Rattle.otn_base.specs.declared.kind.PortName.TheVariants as port
use Rattle.plan_file.specs.declared.connection.Connection.{Connection}
use Rattle.plan_file.specs.declared.connection.FromEnd.TheVariants as from_end
use Rattle.plan_file.specs.declared.connection.ToEnd.TheVariants as to_end
use Rattle.plan_file.specs.declared.plan.Plan.{Plan}
use Rattle.device_model.specs.Entries.{is_from_line, is_from_client, is_to_line, is_to_client}
use Rattle.device_model.specs.Moments.{touches, uses}

-- ---- a list and a test

-- where the test fails for each element it holds for none
pub none_passes : (test : Connection → Bool) (xs : List Connection) → ((i : ℕ) (x : Connection) → slice_get xs i ≡ Some x → test x ≡ false) → list_any test xs ≡ false
none_passes test [] h = refl
none_passes test (x ∷ xs) h = rw (h 0 x refl) (none_passes test xs (λ i y e. h (suc i) y e))

or_true : (a b : Bool) → b ≡ true → (a || b) ≡ true
or_true true b h = refl
or_true false b h = h

-- where it holds for one it holds for some
pub one_passes : (test : Connection → Bool) (xs : List Connection) (i : ℕ) (x : Connection) → slice_get xs i ≡ Some x → test x ≡ true → list_any test xs ≡ true
one_passes test [] i x e h = cc
one_passes test (y ∷ ys) zero x e h = let same : y ≡ x = cc in rw (same, h) refl
one_passes test (y ∷ ys) (suc i) x e h = or_true (test y) (list_any test ys) (one_passes test ys i x e h)

pub uses_at : (plan : Plan) (name : PortName) (i : ℕ) (x : Connection) → slice_get plan.connections i ≡ Some x → touches name x ≡ true → uses plan name ≡ true
uses_at plan name i x e h = one_passes (touches name) plan.connections i x e h

-- where it holds for none it fails for each
none_fails : (test : Connection → Bool) (xs : List Connection) (i : ℕ) (x : Connection) → slice_get xs i ≡ Some x → list_any test xs ≡ false → test x ≡ false
none_fails test xs i x e h = go (test x) refl
  where
    go : (b : Bool) → test x ≡ b → b ≡ false
    go true t = absurd (cc (one_passes test xs i x e t, h))
    go false t = refl

pub uses_none : (plan : Plan) (name : PortName) (i : ℕ) (x : Connection) → slice_get plan.connections i ≡ Some x → uses plan name ≡ false → touches name x ≡ false
uses_none plan name i x e h = none_fails (touches name) plan.connections i x e h

-- the plan uses the ports of its connections
pub from_line_used : (plan : Plan) (i a number : ℕ) (slots : LineSlots) (x : Connection) → slice_get plan.connections i ≡ Some x → x.from ≡ from_end.Line a number slots → uses plan (port.LineIn a) ≡ true
from_line_used plan i a number slots x at e = uses_at plan (port.LineIn a) i x at (ap (is_from_line a) e ∙ eq-eqb a a refl)

pub from_client_used : (plan : Plan) (i n : ℕ) (x : Connection) → slice_get plan.connections i ≡ Some x → x.from ≡ from_end.Client n → uses plan (port.ClientIn n) ≡ true
from_client_used plan i n x at e = uses_at plan (port.ClientIn n) i x at (ap (is_from_client n) e ∙ eq-eqb n n refl)

pub to_line_used : (plan : Plan) (i b number : ℕ) (slots : LineSlots) (x : Connection) → slice_get plan.connections i ≡ Some x → x.to ≡ to_end.Line b number slots → uses plan (port.LineOut b) ≡ true
to_line_used plan i b number slots x at e = uses_at plan (port.LineOut b) i x at (ap (is_to_line b) e ∙ eq-eqb b b refl)

pub to_client_used : (plan : Plan) (i n : ℕ) (x : Connection) → slice_get plan.connections i ≡ Some x → x.to ≡ to_end.Client n → uses plan (port.ClientOut n) ≡ true
to_client_used plan i n x at e = uses_at plan (port.ClientOut n) i x at (ap (is_to_client n) e ∙ eq-eqb n n refl)
