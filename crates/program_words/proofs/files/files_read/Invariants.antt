use Rattle.std.proofs.Common.{◌≡◌, ◌++◌, filter}
use Rattle.otn_base.specs.declared.limits.TheConstants.{LINES}
use Rattle.program_words.specs.Files.{is_read, first_lines_in, first_clients_in}
use Rattle.program_words.proofs.files.files_read.Given as goal

-- the files of the places so far are those of them that the command reads
abbrev pub invariant-loop-n : goal.invariant-loop-n
invariant-loop-n l = l.files.items ≡ filter (is_read l.command) (first_lines_in l.n)

abbrev pub invariant-loop-n-2 : goal.invariant-loop-n-2
invariant-loop-n-2 l = l.files.items ≡ filter (is_read l.command) (first_lines_in LINES ++ first_clients_in l.n)
