use Rattle.std.proofs.Common.{◌≡◌, ◌≤◌, ◌+◌, ◌*◌, ◌++◌}
use Rattle.arrayvec.specs.ArrayString.{array_string_len}
use Rattle.port_base.specs.Racks.{bays_view}
use Rattle.device_model.specs.Moments.{uses}
use Rattle.device_model.specs.Report.{used_lines}
use Rattle.device_model.specs.RunNumbers.{numbers_of_run}
use Rattle.run_report.specs.Steps.RunReport.{port_line, port_of, width_of}
use Rattle.run_report.proofs.report.put_ports.Given as goal

-- the lines so far
abbrev pub invariant-loop-n : goal.invariant-loop-n
invariant-loop-n g l = record {
  text : l.text.bytes ≡ l.fn.text.bytes
      ++ used_lines l.n (λ n. uses l.plan (port_of l.kind n)) (port_line (numbers_of_run l.numbers) (bays_view g.I.Source g.O.Sink l.bays) l.kind);
  most : array_string_len l.text ≤ array_string_len l.fn.text + width_of l.kind * l.n;
}
