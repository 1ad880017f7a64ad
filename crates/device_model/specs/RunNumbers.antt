-- API: the numbers of a settled run, as its report sees them.
use Rattle.std.specs.Prelude.{false, None, get_or}
use Rattle.line_side.specs.declared.counts.LineCounts.{LineCounts}
use Rattle.device_model.specs.Report.{ClientInNumbers, ClientOutNumbers, Numbers}
use Rattle.device_model.specs.declared.numbers.ClientInCounts.{ClientInCounts}
use Rattle.device_model.specs.declared.numbers.ClientOutCounts.{ClientOutCounts}
use Rattle.device_model.specs.declared.numbers.RunNumbers.{RunNumbers}

-- a line input of which no frame was used
abbrev pub no_counts : LineCounts
no_counts = record { frames = 0; lead_in = 0; lost = 0; rest = 0; fas = 0; sm = 0; pm = 0 }

-- a client input that began no packet
abbrev pub no_client_in : ClientInCounts
no_client_in = record { packets = 0; spent = false; bad = None }

-- a client output that handed on no frame
abbrev pub no_client_out : ClientOutCounts
no_client_out = record { frames = 0; packets = 0 }

-- the numbers of a client, as its line of the report has them
abbrev pub client_in_numbers : ClientInCounts → ClientInNumbers
client_in_numbers counts = record { packets = counts.packets; spent = counts.spent; bad = counts.bad }

abbrev pub client_out_numbers : ClientOutCounts → ClientOutNumbers
client_out_numbers counts = record { frames = counts.frames; packets = counts.packets }

-- the numbers of a run: those of each port, and what each connection's from end was
abbrev pub numbers_of_run : RunNumbers → Numbers
numbers_of_run run = record {
  line_in = λ a. get_or run.lines_in a no_counts;
  line_out = λ b. get_or run.lines_out b 0;
  client_in = λ n. client_in_numbers (get_or run.clients_in n no_client_in);
  client_out = λ n. client_out_numbers (get_or run.clients_out n no_client_out);
  from = λ i. get_or run.from i None;
  outcome = run.outcome;
}
