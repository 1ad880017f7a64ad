use Rattle.std.proofs.Common.{◌≡◌, ◌++◌, filter}
use Rattle.otn_base.specs.declared.limits.TheConstants.{LINES}
use Rattle.program_words.specs.Files.{is_written, first_lines_out, first_clients_out}
use Rattle.program_words.proofs.files.files_written.Given as goal

-- the files of the places so far are those of them that the command writes
abbrev pub invariant-loop-n : goal.invariant-loop-n
invariant-loop-n l = l.files.items ≡ filter (is_written l.command) (first_lines_out l.n)

abbrev pub invariant-loop-n-2 : goal.invariant-loop-n-2
invariant-loop-n-2 l = l.files.items ≡ filter (is_written l.command) (first_lines_out LINES ++ first_clients_out l.n)
