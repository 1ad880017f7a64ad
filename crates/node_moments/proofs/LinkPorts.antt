-- The two ports of a connection, and what a piece of a port leaves of it as it was.
use Rattle.std.proofs.Common.{◌≡◌, ◌≢◌, ◌⊎◌, ◌<◌, ℕ, Bool, true, false, None, Some, slice_get, arith, refl, sym, ap, ◌∙◌, inl, inr}
use Rattle.std.proofs.lemmas.Bool.{eq-eqb}
use Rattle.std.proofs.lemmas.Bool.Decides.{eqb_tells}
use Rattle.otn_base.specs.declared.kind.PortName.{PortName}
use Rattle.otn_base.specs.declared.kind.PortName.TheVariants as port
use Rattle.plan_file.specs.Answer.{fault_in}
use Rattle.plan_file.specs.declared.connection.Connection.{Connection}
use Rattle.plan_file.specs.declared.connection.FromEnd.{FromEnd}
use Rattle.plan_file.specs.declared.connection.FromEnd.TheVariants as from_end
use Rattle.plan_file.specs.declared.connection.ToEnd.{ToEnd}
use Rattle.plan_file.specs.declared.connection.ToEnd.TheVariants as to_end
use Rattle.plan_file.specs.declared.plan.Plan.{Plan}
use Rattle.device_model.specs.Entries.{is_from_line, is_to_line, is_from_client, is_to_client}
use Rattle.device_model.specs.Moments.{touches}
use Rattle.device_model.proofs.SoundPlans.{sound_plan}
use Rattle.node_links.specs.Links.{IsLinkOf, SameEntry, is_on, joins, takes_part}
use Rattle.node_links.specs.declared.link.Link.{Link}
use Rattle.node_links.proofs.LinkLaws.{both, both_right, from_client, to_client}
use Rattle.node_moments.specs.NodeView.{NodeView, done_at, taken_pieces, given_pieces}
use Rattle.node_moments.proofs.Parts.{and_none}
use Rattle.turn_pieces.specs.Ports.{index_of}
use Rattle.turn_pieces.proofs.PortNumbers.{one_port}

-- ---- kinds of ports

abbrev pub is_input_port : PortName → Bool
is_input_port (port.LineIn a) = true
is_input_port (port.LineOut b) = false
is_input_port (port.ClientIn n) = true
is_input_port (port.ClientOut n) = false

abbrev pub is_client_port : PortName → Bool
is_client_port (port.LineIn a) = false
is_client_port (port.LineOut b) = false
is_client_port (port.ClientIn n) = true
is_client_port (port.ClientOut n) = true

-- the port is this one, or another
pub same_port : (name other : PortName) → index_of name < 40 → (other ≡ name) ⊎ (other ≢ name)
same_port name other within = elim (eqb_tells (index_of other) (index_of name)) [
  | inl t ↦ inl (one_port other name (omega (arith, t.1)) within t.1)
  | inr t ↦ inr (λ e. t.1 (ap index_of e))
]

-- ---- a connection and a port

-- as its entry has it
pub joins_as : (name : PortName) (x : Connection) (link : Link) → IsLinkOf x link → joins name link ≡ touches name x
joins_as name x link is = ap (touches name) is.entry

-- where a connection has a part in the piece, it joins the port
pub has_part : (name : PortName) (x : Connection) (link : Link) (past : ℕ) → IsLinkOf x link → takes_part past name link ≡ true → touches name x ≡ true
has_part name x link past is part = sym (joins_as name x link is) ∙ both_right (is_on past link) (joins name link) part

-- ---- the connection of a client

pub touched_in : (n : ℕ) (x : Connection) → x.from ≡ from_end.Client n → touches (port.ClientIn n) x ≡ true
touched_in n x from = ap (is_from_client n) from ∙ eq-eqb n n refl

pub touched_out : (n : ℕ) (x : Connection) → x.to ≡ to_end.Client n → touches (port.ClientOut n) x ≡ true
touched_out n x to = ap (is_to_client n) to ∙ eq-eqb n n refl

-- an accepted plan has one at most
pub sole : (plan : Plan) (name : PortName) (i j : ℕ) (x y : Connection) → fault_in plan ≡ None → is_client_port name ≡ true → slice_get plan.connections i ≡ Some x → slice_get plan.connections j ≡ Some y
    → touches name x ≡ true → touches name y ≡ true → i ≡ j
sole plan (port.LineIn a) i j x y accepted client at there t s = absurd (cc)
sole plan (port.LineOut b) i j x y accepted client at there t s = absurd (cc)
sole plan (port.ClientIn n) i j x y accepted client at there t s = (sound_plan plan accepted).clients_in i j n x y at there (from_client n x.from t) (from_client n y.from s)
sole plan (port.ClientOut n) i j x y accepted client at there t s = (sound_plan plan accepted).clients_out i j n x y at there (to_client n x.to t) (to_client n y.to s)

-- ---- the pieces of a connection

other_port : (one name : PortName) (x : Connection) → touches one x ≡ true → touches name x ≡ false → one ≢ name
other_port one name x on off e = both (touches name x) (sym (ap (λ p. touches p x) e) ∙ on) off

-- a piece of a port is none of a connection that it does not join
pub taken_other : (name : PortName) (old new : NodeView) → ((other : PortName) → other ≢ name → done_at new other ≡ done_at old other) → (x : Connection) → touches name x ≡ false → (o : FromEnd) → x.from ≡ o
    → taken_pieces new o ≡ taken_pieces old o
taken_other name old new same x off (from_end.Line a number slots) from = same (port.LineIn a) (other_port (port.LineIn a) name x (ap (is_from_line a) from ∙ eq-eqb a a refl) off)
taken_other name old new same x off (from_end.Client n) from = same (port.ClientIn n) (other_port (port.ClientIn n) name x (ap (is_from_client n) from ∙ eq-eqb n n refl) off)
taken_other name old new same x off (from_end.Signal s) from = refl

pub given_other : (name : PortName) (old new : NodeView) → ((other : PortName) → other ≢ name → done_at new other ≡ done_at old other) → (x : Connection) → touches name x ≡ false → (o : ToEnd) → x.to ≡ o
    → given_pieces new o ≡ given_pieces old o
given_other name old new same x off (to_end.Line b number slots) to = same (port.LineOut b) (other_port (port.LineOut b) name x (ap (is_to_line b) to ∙ eq-eqb b b refl) off)
given_other name old new same x off (to_end.Client n) to = same (port.ClientOut n) (other_port (port.ClientOut n) name x (ap (is_to_client n) to ∙ eq-eqb n n refl) off)

-- a piece of an input is none of what is given, and one of an output none of what is taken
pub given_in : (name : PortName) (old new : NodeView) → is_input_port name ≡ true → ((other : PortName) → other ≢ name → done_at new other ≡ done_at old other) → (o : ToEnd) → given_pieces new o ≡ given_pieces old o
given_in name old new input same (to_end.Line b number slots) = same (port.LineOut b) (λ e. both (is_input_port name) input (sym (ap is_input_port e)))
given_in name old new input same (to_end.Client n) = same (port.ClientOut n) (λ e. both (is_input_port name) input (sym (ap is_input_port e)))

pub taken_out : (name : PortName) (old new : NodeView) → is_input_port name ≡ false → ((other : PortName) → other ≢ name → done_at new other ≡ done_at old other) → (o : FromEnd) → taken_pieces new o ≡ taken_pieces old o
taken_out name old new output same (from_end.Line a number slots) = same (port.LineIn a) (λ e. both (is_input_port name) (sym (ap is_input_port e)) output)
taken_out name old new output same (from_end.Client n) = same (port.ClientIn n) (λ e. both (is_input_port name) (sym (ap is_input_port e)) output)
taken_out name old new output same (from_end.Signal s) = refl

-- where no piece is done none is of any connection
pub none_taken : (node : NodeView) → ((name : PortName) → done_at node name ≡ 0) → (o : FromEnd) → taken_pieces node o ≡ 0
none_taken node none (from_end.Line a number slots) = none (port.LineIn a)
none_taken node none (from_end.Client n) = none (port.ClientIn n)
none_taken node none (from_end.Signal s) = refl

pub none_given : (node : NodeView) → ((name : PortName) → done_at node name ≡ 0) → (o : ToEnd) → given_pieces node o ≡ 0
none_given node none (to_end.Line b number slots) = none (port.LineOut b)
none_given node none (to_end.Client n) = none (port.ClientOut n)

-- ---- what a piece of a port does to a connection

-- One that has no part in it is as it was. A piece of an input leaves what a connection gives, one of an output what it
-- takes.
pub record LinkMoved (name : PortName) (past : ℕ) (old new : Link) : Type 0 where
  pub same : SameEntry old new
  pub other : takes_part past name old ≡ false → new ≡ old
  pub taking : is_input_port name ≡ false → new.pipe.taking ≡ old.pipe.taking
  pub giving : is_input_port name ≡ true → new.pipe.giving ≡ old.pipe.giving

-- the part at a client is as it was, where it is not the client's piece
pub taking_kept : (name : PortName) (past n : ℕ) (old new : Link) → LinkMoved name past old new → old.entry.from ≡ from_end.Client n → port.ClientIn n ≢ name → new.pipe.taking ≡ old.pipe.taking
taking_kept (port.LineOut b) past n old new m from differ = m.taking refl
taking_kept (port.ClientOut c) past n old new m from differ = m.taking refl
taking_kept (port.LineIn a) past n old new m from differ = ap (λ (l : Link). l.pipe.taking) (m.other (and_none (is_on past old) (is_from_line a old.entry.from) (ap (is_from_line a) from)))
taking_kept (port.ClientIn c) past n old new m from differ = elim (eqb_tells n c) [
  | inl t ↦ absurd (differ (ap port.ClientIn t.1))
  | inr t ↦ ap (λ (l : Link). l.pipe.taking) (m.other (and_none (is_on past old) (is_from_client c old.entry.from) (ap (is_from_client c) from ∙ t.0)))
]

pub giving_kept : (name : PortName) (past n : ℕ) (old new : Link) → LinkMoved name past old new → old.entry.to ≡ to_end.Client n → port.ClientOut n ≢ name → new.pipe.giving ≡ old.pipe.giving
giving_kept (port.LineIn a) past n old new m to differ = m.giving refl
giving_kept (port.ClientIn c) past n old new m to differ = m.giving refl
giving_kept (port.LineOut b) past n old new m to differ = ap (λ (l : Link). l.pipe.giving) (m.other (and_none (is_on past old) (is_to_line b old.entry.to) (ap (is_to_line b) to)))
giving_kept (port.ClientOut c) past n old new m to differ = elim (eqb_tells n c) [
  | inl t ↦ absurd (differ (ap port.ClientOut t.1))
  | inr t ↦ ap (λ (l : Link). l.pipe.giving) (m.other (and_none (is_on past old) (is_to_client c old.entry.to) (ap (is_to_client c) to ∙ t.0)))
]
