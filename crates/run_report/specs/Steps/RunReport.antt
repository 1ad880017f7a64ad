-- Steps of `count`, `put_ports` and others: the lines of the ports in the report of a run, by their kind.
use Rattle.std.specs.Prelude.{ℕ, List}
use Rattle.otn_base.specs.declared.kind.PortName.{PortName}
use Rattle.otn_base.specs.declared.kind.PortName.TheVariants as port
use Rattle.otn_base.specs.declared.limits.TheConstants.{CLIENTS, LINES}
use Rattle.port_base.specs.Views.{BaysView, State}
use Rattle.device_model.specs.Outcomes.{place_state}
use Rattle.device_model.specs.Report.{Numbers, line_in_line, line_out_line, client_in_line, client_out_line}
use Rattle.run_report.specs.declared.port_kind.PortKind.{PortKind}
use Rattle.run_report.specs.declared.port_kind.PortKind.TheVariants.{LinesIn, LinesOut, ClientsIn, ClientsOut}
use Rattle.run_report.specs.declared.report_lines.TheConstants.{CLIENT_IN_BYTES, CLIENT_OUT_BYTES, LINE_IN_BYTES, LINE_OUT_BYTES}

-- how many ports of a kind there are
abbrev pub count_of : PortKind → ℕ
count_of LinesIn = LINES
count_of LinesOut = LINES
count_of ClientsIn = CLIENTS
count_of ClientsOut = CLIENTS

-- the port of a kind by its number
abbrev pub port_of : PortKind → (n : ℕ) → PortName
port_of LinesIn a = port.LineIn a
port_of LinesOut b = port.LineOut b
port_of ClientsIn n = port.ClientIn n
port_of ClientsOut n = port.ClientOut n

-- the line of a port of a kind, where its place is so
abbrev pub line_by : Numbers → PortKind → (n : ℕ) → State → List ℕ
line_by numbers LinesIn a state = line_in_line a (numbers.line_in a) state
line_by numbers LinesOut b state = line_out_line b (numbers.line_out b) state
line_by numbers ClientsIn n state = client_in_line n (numbers.client_in n) state
line_by numbers ClientsOut n state = client_out_line n (numbers.client_out n) state

-- its line in the report, by how its place was left
abbrev pub port_line : Numbers → (last : BaysView) → PortKind → (n : ℕ) → List ℕ
port_line numbers last kind n = line_by numbers kind n (place_state last (port_of kind n))

-- how many bytes that has at most
abbrev pub width_of : PortKind → ℕ
width_of LinesIn = LINE_IN_BYTES
width_of LinesOut = LINE_OUT_BYTES
width_of ClientsIn = CLIENT_IN_BYTES
width_of ClientsOut = CLIENT_OUT_BYTES
