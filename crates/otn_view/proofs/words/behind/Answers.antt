use Rattle.std.proofs.Common.{◌≡◌, rules}
use Rattle.std.specs.Prelude.{string_bytes}
use Rattle.otn_view.proofs.Lists.{first_word}
use Rattle.otn_view.proofs.words.behind.Goals as goal

pub returns-then-eq-clause-words : goal.returns-then-eq-clause-words
returns-then-eq-clause-words c =
    let same : string_bytes c.first-item.result ≡ c.args.word.now = search rules in
    first_word c.args.words.now c.first-item.result c.args.word.now c.in-len1-up.len_at_least c.first-item.is same
