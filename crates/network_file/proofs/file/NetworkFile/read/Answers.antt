use Rattle.std.proofs.Common.{◌≡◌, None, Some, ◌∙◌}
use Rattle.toml.specs.View.{table_view}
use Rattle.plan_file.specs.Meaning.{table_of_text}
use Rattle.network_file.proofs.Texts.{answer_of, accepted_is_sound}
use Rattle.network_file.proofs.file.NetworkFile.read.Goals as goal

pub returns-in-Ok-Some-clause-file : goal.returns-in-Ok-Some-clause-file
returns-in-Ok-Some-clause-file c = λ others.
    let is : Some (table_view c.in-Ok-Some.top) ≡ table_of_text c.args.text.now = rw c.in-Ok-Some.field-0-is at c.in-Ok-Some.ensures in
    (c.file.ensures others) ∙ answer_of c.args.text.now (Some (table_view c.in-Ok-Some.top)) is

pub returns-in-Ok-Some-clause-sound : goal.returns-in-Ok-Some-clause-sound
returns-in-Ok-Some-clause-sound c = accepted_is_sound (table_view c.in-Ok-Some.top) c.file.result c.file.ensures

pub returns-in-Ok-None-clause-file : goal.returns-in-Ok-None-clause-file
returns-in-Ok-None-clause-file c = λ others.
    let is : None ≡ table_of_text c.args.text.now = rw c.in-Ok-None.field-0-is at c.in-Ok-None.ensures in
    answer_of c.args.text.now None is
