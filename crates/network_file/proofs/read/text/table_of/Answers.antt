use Rattle.std.proofs.Common.{◌≡◌, sym, arith}
use Rattle.toml.specs.Parse.{parse_document}
use Rattle.plan_file.specs.Meaning.{table_of_text}
use Rattle.plan_file.proofs.Texts.{table_of_text-short, table_of_text-bad}
use Rattle.network_file.proofs.read.text.table_of.Goals as goal

pub returns-in-Ok : goal.returns-in-Ok
returns-in-Ok c =
    let text = c.args.text.now in
    let is : table_of_text text ≡ parse_document text = table_of_text-short text (omega arith) c.in-Ok.ensures.cases.1 in
    rw is (rw c.in-Ok.ensures.cases.0 at c.table_of_str.ensures)

pub returns-in-Err : goal.returns-in-Err
returns-in-Err c = sym (table_of_text-bad c.args.text.now c.in-Err.ensures.cases.0)
