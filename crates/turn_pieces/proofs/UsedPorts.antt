-- An accepted plan uses only ports of the device.
use Rattle.std.proofs.Common.{◌≡◌, ◌<◌, ◌≤◌, ℕ, Bool, true, false, ◌==◌, if◌then◌else◌, nat_lt, List, None, length, get_or, arith, refl, sym, ap, ◌∙◌}
use Rattle.std.proofs.lemmas.Bool.Decides.{nat_tests}
use Rattle.std.proofs.lemmas.List.{get_or_past}
use Rattle.otn_base.specs.LineSlots.{slots_of}
use Rattle.otn_base.specs.declared.kind.PortName.{PortName}
use Rattle.otn_base.specs.declared.kind.PortName.TheVariants as port
use Rattle.otn_base.specs.declared.line_kind.LineKind.{LineKind}
use Rattle.otn_base.specs.declared.line_kind.LineKind.TheVariants.{Otu2, Otu3}
use Rattle.plan_file.specs.Answer.{fault_in}
use Rattle.plan_file.specs.declared.connection.Connection.{Connection}
use Rattle.plan_file.specs.declared.connection.FromEnd.{FromEnd}
use Rattle.plan_file.specs.declared.connection.FromEnd.TheVariants as from_end
use Rattle.plan_file.specs.declared.connection.ToEnd.{ToEnd}
use Rattle.plan_file.specs.declared.connection.ToEnd.TheVariants as to_end
use Rattle.plan_file.specs.declared.plan.Plan.{Plan}
use Rattle.device_model.specs.Entries.{is_from_line, is_from_client, is_to_line, is_to_client, kind_by}
use Rattle.device_model.specs.Moments.{touches, uses, pieces_by, pieces_of, over_ports}
use Rattle.device_model.specs.SoundPlans.{IsSoundEntry, IsSoundPlan}
use Rattle.device_model.proofs.SoundPlans.{sound_plan}
use Rattle.device_model.proofs.ConnectionPorts.{none_passes}
use Rattle.turn_pieces.specs.Ports.{index_of, port_at}
use Rattle.turn_pieces.specs.Pieces.{PiecesView, wanted_of, in_a_turn}
use Rattle.turn_pieces.proofs.PortNumbers.{port_at_index, ports_same}
use Rattle.turn_pieces.proofs.PieceCounts.{ports_turn}

-- ---- a sound connection

differ : (a b n : ℕ) → a < n → n ≤ b → (a == b) ≡ false
differ a b n lt le = grind (arith, nat_tests)

line_past : (n : ℕ) → 40 ≤ index_of (port.LineIn n) → 4 ≤ n
line_past n h = grind (arith, nat_tests)

line_out_past : (n : ℕ) → 40 ≤ index_of (port.LineOut n) → 4 ≤ n
line_out_past n h = grind (arith, nat_tests)

client_past : (n : ℕ) → 40 ≤ index_of (port.ClientIn n) → 16 ≤ n
client_past n h = grind (arith, nat_tests)

client_out_past : (n : ℕ) → 40 ≤ index_of (port.ClientOut n) → 16 ≤ n
client_out_past n h = grind (arith, nat_tests)

from_line_past : (plan : Plan) (x : Connection) (n : ℕ) → IsSoundEntry plan x → 4 ≤ n → (e : FromEnd) → x.from ≡ e → is_from_line n e ≡ false
from_line_past plan x n sound le (from_end.Line a number slots) e = differ a n 4 (sound.from_line a number slots e).line le
from_line_past plan x n sound le (from_end.Client c) e = refl
from_line_past plan x n sound le (from_end.Signal s) e = refl

from_client_past : (plan : Plan) (x : Connection) (n : ℕ) → IsSoundEntry plan x → 16 ≤ n → (e : FromEnd) → x.from ≡ e → is_from_client n e ≡ false
from_client_past plan x n sound le (from_end.Line a number slots) e = refl
from_client_past plan x n sound le (from_end.Client c) e = differ c n 16 (sound.from_client c e) le
from_client_past plan x n sound le (from_end.Signal s) e = refl

to_line_past : (plan : Plan) (x : Connection) (n : ℕ) → IsSoundEntry plan x → 4 ≤ n → (e : ToEnd) → x.to ≡ e → is_to_line n e ≡ false
to_line_past plan x n sound le (to_end.Line b number slots) e = differ b n 4 (sound.to_line b number slots e).line le
to_line_past plan x n sound le (to_end.Client c) e = refl

to_client_past : (plan : Plan) (x : Connection) (n : ℕ) → IsSoundEntry plan x → 16 ≤ n → (e : ToEnd) → x.to ≡ e → is_to_client n e ≡ false
to_client_past plan x n sound le (to_end.Line b number slots) e = refl
to_client_past plan x n sound le (to_end.Client c) e = differ c n 16 (sound.to_client c e) le

untouched : (plan : Plan) (x : Connection) (name : PortName) → IsSoundEntry plan x → 40 ≤ index_of name → touches name x ≡ false
untouched plan x (port.LineIn n) sound past = from_line_past plan x n sound (line_past n past) x.from refl
untouched plan x (port.LineOut n) sound past = to_line_past plan x n sound (line_out_past n past) x.to refl
untouched plan x (port.ClientIn n) sound past = from_client_past plan x n sound (client_past n past) x.from refl
untouched plan x (port.ClientOut n) sound past = to_client_past plan x n sound (client_out_past n past) x.to refl

-- ---- an accepted plan

-- uses no name of no port
pub unused_past : (plan : Plan) (name : PortName) → fault_in plan ≡ None → 40 ≤ index_of name → uses plan name ≡ false
unused_past plan name accepted past =
    let sound : IsSoundPlan plan = sound_plan plan accepted in
    none_passes (touches name) plan.connections (λ i x e. untouched plan x name (sound.entries i x e) past)

pub used_within : (plan : Plan) (name : PortName) → fault_in plan ≡ None → uses plan name ≡ true → index_of name < 40
used_within plan name accepted u = go (nat_lt (index_of name) 40) refl
  where
    go : (b : Bool) → nat_lt (index_of name) 40 ≡ b → index_of name < 40
    go true e = grind (arith, nat_tests)
    go false e = let past : 40 ≤ index_of name = grind (arith, nat_tests) in absurd (cc (unused_past plan name accepted past, u))

-- ---- pieces

pub pieces_unused : (plan : Plan) (name : PortName) → uses plan name ≡ false → pieces_of plan name ≡ 0
unfolding pieces_of
pieces_unused plan name u = ap (λ b. if b then pieces_by plan name else 0) u

pub pieces_used : (plan : Plan) (name : PortName) → uses plan name ≡ true → pieces_of plan name ≡ pieces_by plan name
unfolding pieces_of
pieces_used plan name u = ap (λ b. if b then pieces_by plan name else 0) u

some_slots : (kind : LineKind) → 1 ≤ slots_of kind
some_slots Otu2 = omega arith
some_slots Otu3 = omega arith

pub some_pieces : (plan : Plan) (name : PortName) → 1 ≤ pieces_by plan name
some_pieces plan (port.LineIn n) = some_slots (kind_by plan.otu3_in n)
some_pieces plan (port.LineOut n) = some_slots (kind_by plan.otu3_out n)
some_pieces plan (port.ClientIn n) = omega arith
some_pieces plan (port.ClientOut n) = omega arith

-- a port has a piece exactly where the plan uses it
pub used_pieces : (plan : Plan) (name : PortName) → nat_lt 0 (pieces_of plan name) ≡ uses plan name
used_pieces plan name = go (uses plan name) refl
  where
    go : (b : Bool) → uses plan name ≡ b → nat_lt 0 (pieces_of plan name) ≡ b
    go true e = let some = some_pieces plan name in let all = pieces_used plan name e in grind (arith, nat_tests)
    go false e = let none = pieces_unused plan name e in grind (arith, nat_tests)

-- what each number wants, each name does
pub wants_by_name : (plan : Plan) (wants : List ℕ) (name : PortName) → fault_in plan ≡ None → length wants ≡ 40 → ((i : ℕ) → i < 40 → get_or wants i 0 ≡ pieces_of plan (port_at i))
    → get_or wants (index_of name) 0 ≡ pieces_of plan name
wants_by_name plan wants name accepted len each = go (nat_lt (index_of name) 40) refl
  where
    go : (b : Bool) → nat_lt (index_of name) 40 ≡ b → get_or wants (index_of name) 0 ≡ pieces_of plan name
    go true e = let within : index_of name < 40 = grind (arith, nat_tests) in each (index_of name) within ∙ ap (pieces_of plan) (port_at_index name within)
    go false e =
        let past : 40 ≤ index_of name = grind (arith, nat_tests) in
        get_or_past wants (index_of name) 0 (omega arith) ∙ sym (pieces_unused plan name (unused_past plan name accepted past))

-- the pieces of a turn of the plan
pub plan_turn : (plan : Plan) (pieces : PiecesView) → ((name : PortName) → wanted_of pieces name ≡ pieces_of plan name) → over_ports (pieces_of plan) ≡ in_a_turn pieces
plan_turn plan pieces wants = ports_same (pieces_of plan) (wanted_of pieces) (λ name. sym (wants name)) ∙ ports_turn pieces
