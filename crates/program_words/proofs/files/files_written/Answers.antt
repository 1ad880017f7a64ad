use Rattle.program_words.specs.Files.{is_written}
use Rattle.program_words.proofs.FileLists.{outputs_are_places}
use Rattle.program_words.proofs.files.files_written.Goals as goal

pub returns-clause-places : goal.returns-clause-places
returns-clause-places c =
    rw c.loop-n-2.invariant (outputs_are_places (is_written c.args.command.now) c.loop-n-2.n c.loop-n-2.auto.n-end)
