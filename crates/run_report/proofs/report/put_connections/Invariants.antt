use Rattle.std.proofs.Common.{◌≡◌, ◌≤◌, ◌+◌, ◌*◌, ◌++◌, drop}
use Rattle.arrayvec.specs.ArrayString.{array_string_len}
use Rattle.device_model.specs.Report.{connection_lines}
use Rattle.device_model.specs.RunNumbers.{numbers_of_run}
use Rattle.run_report.specs.declared.report_lines.TheConstants.{CONNECTION_BYTES}
use Rattle.run_report.proofs.report.put_connections.Given as goal

-- the lines so far, and what is left of them
abbrev pub invariant-loop-i : goal.invariant-loop-i
invariant-loop-i l = record {
  text : l.text.bytes ++ connection_lines l.i (numbers_of_run l.numbers).from (drop l.i l.plan.connections)
      ≡ l.fn.text.bytes ++ connection_lines 0 (numbers_of_run l.numbers).from l.plan.connections;
  most : array_string_len l.text ≤ array_string_len l.fn.text + CONNECTION_BYTES * l.i;
}
