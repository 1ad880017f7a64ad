-- Believed: the report of a run, as text.
use Rattle.std.specs.Prelude.{ℕ, zero, suc, ◌+◌, Bool, true, false, if◌then◌else◌, List, [], ◌∷◌, ◌++◌, Option, Some, None, codes}
use Rattle.std.specs.Fmt.{decimal}
use Rattle.std.specs.List.{concat, flat_map, range_with_len}
use Rattle.otn_base.specs.declared.kind.PortName.TheVariants as port
use Rattle.otn_base.specs.declared.limits.TheConstants.{CLIENTS, LINES}
use Rattle.port_base.specs.Views.{State, Empty, Live, Dead, BaysView}
use Rattle.line_side.specs.declared.counts.LineCounts.{LineCounts}
use Rattle.plan_file.specs.declared.connection.Connection.{Connection}
use Rattle.plan_file.specs.declared.plan.Plan.{Plan}
use Rattle.device_model.specs.Moments.{uses}
use Rattle.device_model.specs.Outcomes.{place_state}
use Rattle.device_model.specs.declared.outcome.FromState.{FromState}
use Rattle.device_model.specs.declared.outcome.FromState.TheVariants as from
use Rattle.device_model.specs.declared.outcome.Outcome.{Outcome}
use Rattle.device_model.specs.declared.outcome.Outcome.TheVariants as outcome

-- ---- the numbers of the ports

-- of a client input: the packets begun, whether it is spent, and the number of its bad line, once that is seen
pub record ClientInNumbers : Type 0 where
  pub packets : ℕ
  pub spent : Bool
  pub bad : Option ℕ

-- of a client output: how many whole frames were handed on, and how many packets were delivered
pub record ClientOutNumbers : Type 0 where
  pub frames : ℕ
  pub packets : ℕ

-- of all ports, by number; what the from end of each connection, from 0, was after the last turn, nothing where it was
-- not active in that; and how the run ended
pub record Numbers : Type 0 where
  pub line_in : (a : ℕ) → LineCounts
  pub line_out : (b : ℕ) → ℕ
  pub client_in : (n : ℕ) → ClientInNumbers
  pub client_out : (n : ℕ) → ClientOutNumbers
  pub from : (i : ℕ) → Option FromState
  pub outcome : Outcome

-- ---- words

-- how a place is; what a connection's from end was, off where it was not active; how the run ended; and that a client's
-- text is spent, or at which line it is bad, else open
abbrev pub state_word : State → List ℕ
state_word Live = codes "live"
state_word Dead = codes "dead"
state_word Empty = codes "empty"

abbrev pub from_word : Option FromState → List ℕ
from_word None = codes "off"
from_word (Some from.Client) = codes "client"
from_word (Some from.Signal) = codes "signal"
from_word (Some from.Waiting) = codes "waiting"
from_word (Some from.Up) = codes "up"
from_word (Some from.Down) = codes "down"

abbrev pub outcome_word : Outcome → List ℕ
outcome_word outcome.Done = codes "done"
outcome_word outcome.Unfinished = codes "unfinished"
outcome_word outcome.Cut = codes "cut"

abbrev pub client_word : (spent : Bool) → (bad : Option ℕ) → List ℕ
client_word true bad = codes "spent"
client_word false (Some n) = codes "bad " ++ decimal n
client_word false None = codes "open"

-- ---- lines

-- a line of text: these parts, and a line feed
abbrev pub line_of : List (List ℕ) → List ℕ
line_of parts = concat parts ++ 10 ∷ []

-- an input line, an output line, a client input, a client output, each with its place; a connection with its from end
unfoldable pub line_in_line : (a : ℕ) → LineCounts → State → List ℕ
line_in_line a counts state = line_of (codes "line-in " ∷ decimal a ∷ codes " frames " ∷ decimal counts.frames
    ∷ codes " lead-in " ∷ decimal counts.lead_in ∷ codes " lost " ∷ decimal counts.lost
    ∷ codes " rest " ∷ decimal counts.rest ∷ codes " fas " ∷ decimal counts.fas ∷ codes " sm " ∷ decimal counts.sm
    ∷ codes " pm " ∷ decimal counts.pm ∷ codes " " ∷ state_word state ∷ [])

unfoldable pub line_out_line : (b frames : ℕ) → State → List ℕ
line_out_line b frames state = line_of (codes "line-out " ∷ decimal b ∷ codes " frames " ∷ decimal frames ∷ codes " "
    ∷ state_word state ∷ [])

unfoldable pub client_in_line : (n : ℕ) → ClientInNumbers → State → List ℕ
client_in_line n numbers state = line_of (codes "client-in " ∷ decimal n ∷ codes " packets "
    ∷ decimal numbers.packets ∷ codes " " ∷ client_word numbers.spent numbers.bad ∷ codes " " ∷ state_word state ∷ [])

unfoldable pub client_out_line : (n : ℕ) → ClientOutNumbers → State → List ℕ
client_out_line n numbers state = line_of (codes "client-out " ∷ decimal n ∷ codes " frames "
    ∷ decimal numbers.frames ∷ codes " packets " ∷ decimal numbers.packets ∷ codes " " ∷ state_word state ∷ [])

unfoldable pub connection_line : (name : List ℕ) → Option FromState → List ℕ
connection_line name state = line_of (codes "connection " ∷ name ∷ codes " " ∷ from_word state ∷ [])

-- ---- the whole

-- the lines of the ports of one kind that the plan uses, by number, and of the connections from connection i on
abbrev pub used_lines : (count : ℕ) → (is_used : ℕ → Bool) → (line : ℕ → List ℕ) → List ℕ
used_lines count is_used line = flat_map (λ n. if is_used n then line n else []) (range_with_len 0 count)

abbrev pub connection_lines : (i : ℕ) → (state : ℕ → Option FromState) → List Connection → List ℕ
connection_lines i state [] = []
connection_lines i state (x ∷ xs) = connection_line x.name (state i) ++ connection_lines (suc i) state xs

-- The report of a run over a plan that left the places so, with a line for each port that is used and each connection.
unfoldable pub report_text : Plan → Numbers → (last : BaysView) → List ℕ
report_text plan numbers last =
    line_of (codes "turns " ∷ decimal plan.turns ∷ [])
    ++ used_lines LINES (λ a. uses plan (port.LineIn a))
    (λ a. line_in_line a (numbers.line_in a) (place_state last (port.LineIn a)))
    ++ used_lines LINES (λ b. uses plan (port.LineOut b))
    (λ b. line_out_line b (numbers.line_out b) (place_state last (port.LineOut b)))
    ++ used_lines CLIENTS (λ n. uses plan (port.ClientIn n))
    (λ n. client_in_line n (numbers.client_in n) (place_state last (port.ClientIn n)))
    ++ used_lines CLIENTS (λ n. uses plan (port.ClientOut n))
    (λ n. client_out_line n (numbers.client_out n) (place_state last (port.ClientOut n)))
    ++ connection_lines 0 numbers.from plan.connections
    ++ line_of (codes "status " ∷ outcome_word numbers.outcome ∷ [])
