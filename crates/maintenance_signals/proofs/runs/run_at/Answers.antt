use Rattle.std.proofs.Common.{arith}
use Rattle.maintenance_signals.proofs.Frames.{alignment_run, ftfl_run, pattern_run}
use Rattle.maintenance_signals.proofs.runs.run_at.Goals as goal

pub returns-then-in_frame-lt-ALIGNMENT-clause-same : goal.returns-then-in_frame-lt-ALIGNMENT-clause-same
returns-then-in_frame-lt-ALIGNMENT-clause-same c = λ k h.
    alignment_run c.args.signal c.args.place c.alignment_byte.result k (omega arith) (omega arith) c.alignment_byte.ensures h

pub returns-then-in_frame-lt-FTFL-clause-same : goal.returns-then-in_frame-lt-FTFL-clause-same
returns-then-in_frame-lt-FTFL-clause-same c = λ k h.
    pattern_run c.args.signal c.args.place c.pattern_byte.result k (omega arith) (λ e. omega (arith, e, h)) (omega arith) c.pattern_byte.ensures

pub returns-then-in_frame-gt-FTFL-clause-same : goal.returns-then-in_frame-gt-FTFL-clause-same
returns-then-in_frame-gt-FTFL-clause-same c = λ k h.
    pattern_run c.args.signal c.args.place c.pattern_byte-then-in_frame-gt-FTFL.result k (omega arith) (λ e. omega (arith, e, h)) (omega arith)
    c.pattern_byte-then-in_frame-gt-FTFL.ensures

pub returns-clause-same : goal.returns-clause-same
returns-clause-same c = λ k h. ftfl_run c.args.signal c.args.place c.ftfl_byte.result k (omega arith) c.ftfl_byte.ensures h
