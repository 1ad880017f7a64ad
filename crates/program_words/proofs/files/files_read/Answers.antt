use Rattle.program_words.specs.Files.{is_read}
use Rattle.program_words.proofs.FileLists.{inputs_are_places}
use Rattle.program_words.proofs.files.files_read.Goals as goal

pub returns-clause-places : goal.returns-clause-places
returns-clause-places c =
    rw c.loop-n-2.invariant (inputs_are_places (is_read c.args.command.now) c.loop-n-2.n c.loop-n-2.auto.n-end)
