-- The places of a device by the names of their ports: where one of them alone changes.
use Rattle.std.proofs.Common.{◌≡◌, ◌≢◌, ℕ, List, refl, ap, ◌∙◌, get_or}
use Rattle.otn_base.specs.declared.kind.PortName.{PortName}
use Rattle.otn_base.specs.declared.kind.PortName.TheVariants.{LineIn, LineOut, ClientIn, ClientOut}
use Rattle.port_base.specs.OnePlace.{OnlyLineIn}
use Rattle.port_base.specs.Steps.OnePlace.{OnlyClientIn}
use Rattle.port_base.proofs.OneOutPlace.{OnlyLineOut, OnlyClientOut}
use Rattle.port_base.specs.Places.{Input, Output, place_at, input_of, output_of, OnlyPort}
use Rattle.port_base.specs.Views.{BaysView, no_input, no_output, line_in_at, line_out_at, client_in_at, client_out_at}

-- nothing changed, and the same place changed twice
pub only_port_none : (port : PortName) (bays : BaysView) → OnlyPort port bays bays
only_port_none port bays = record { others = λ other distinct. refl }

pub only_port_twice : (port : PortName) (first old new : BaysView) → OnlyPort port first old → OnlyPort port old new → OnlyPort port first new
only_port_twice port first old new h k = record { others = λ other distinct. k.others other distinct ∙ h.others other distinct }

-- a port's place alone changed where that is so of each kind of place
only_port_by : (port : PortName) (old new : BaysView) → ((m : ℕ) → LineIn m ≢ port → line_in_at new m ≡ line_in_at old m) → ((m : ℕ) → LineOut m ≢ port → line_out_at new m ≡ line_out_at old m)
    → ((m : ℕ) → ClientIn m ≢ port → client_in_at new m ≡ client_in_at old m) → ((m : ℕ) → ClientOut m ≢ port → client_out_at new m ≡ client_out_at old m) → OnlyPort port old new
only_port_by port old new line_in line_out client_in client_out = record { others = others }
  where
    others : (other : PortName) → other ≢ port → place_at new other ≡ place_at old other
    others (LineIn m) distinct = ap Input (line_in m distinct)
    others (LineOut m) distinct = ap Output (line_out m distinct)
    others (ClientIn m) distinct = ap Input (client_in m distinct)
    others (ClientOut m) distinct = ap Output (client_out m distinct)

-- all places of a kind are as they were
same : {A : Type 0} {old new : List A} (none : A) → new ≡ old → (m : ℕ) → get_or new m none ≡ get_or old m none
same none e m = ap (λ places. get_or places m none) e

-- where one place of a kind alone changed, its port's alone did
pub only_line_in_port : (n : ℕ) (old new : BaysView) → OnlyLineIn n old new → OnlyPort (LineIn n) old new
only_line_in_port n old new h = only_port_by (LineIn n) old new (λ m other. h.line_in m (λ e. other (ap LineIn e))) (λ m _. same no_output h.line_out m) (λ m _. same no_input h.client_in m) (λ m _. same no_output h.client_out m)

pub only_line_out_port : (n : ℕ) (old new : BaysView) → OnlyLineOut n old new → OnlyPort (LineOut n) old new
only_line_out_port n old new h = only_port_by (LineOut n) old new (λ m _. same no_input h.line_in m) (λ m other. h.line_out m (λ e. other (ap LineOut e))) (λ m _. same no_input h.client_in m) (λ m _. same no_output h.client_out m)

pub only_client_in_port : (n : ℕ) (old new : BaysView) → OnlyClientIn n old new → OnlyPort (ClientIn n) old new
only_client_in_port n old new h = only_port_by (ClientIn n) old new (λ m _. same no_input h.line_in m) (λ m _. same no_output h.line_out m) (λ m other. h.client_in m (λ e. other (ap ClientIn e))) (λ m _. same no_output h.client_out m)

pub only_client_out_port : (n : ℕ) (old new : BaysView) → OnlyClientOut n old new → OnlyPort (ClientOut n) old new
only_client_out_port n old new h = only_port_by (ClientOut n) old new (λ m _. same no_input h.line_in m) (λ m _. same no_output h.line_out m) (λ m _. same no_input h.client_in m) (λ m other. h.client_out m (λ e. other (ap ClientOut e)))

-- the place of another port is as it was
pub other_line_in : (port : PortName) (old new : BaysView) (m : ℕ) → OnlyPort port old new → LineIn m ≢ port → line_in_at new m ≡ line_in_at old m
other_line_in port old new m h distinct = ap input_of (h.others (LineIn m) distinct)

pub other_line_out : (port : PortName) (old new : BaysView) (m : ℕ) → OnlyPort port old new → LineOut m ≢ port → line_out_at new m ≡ line_out_at old m
other_line_out port old new m h distinct = ap output_of (h.others (LineOut m) distinct)

pub other_client_in : (port : PortName) (old new : BaysView) (m : ℕ) → OnlyPort port old new → ClientIn m ≢ port → client_in_at new m ≡ client_in_at old m
other_client_in port old new m h distinct = ap input_of (h.others (ClientIn m) distinct)

pub other_client_out : (port : PortName) (old new : BaysView) (m : ℕ) → OnlyPort port old new → ClientOut m ≢ port → client_out_at new m ≡ client_out_at old m
other_client_out port old new m h distinct = ap output_of (h.others (ClientOut m) distinct)
