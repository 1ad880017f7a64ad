use Rattle.std.proofs.Common.{◌≡◌, rules}
use Rattle.std.specs.Prelude.{codes, string_bytes}
use Rattle.otn_view.proofs.Lists.{last_word}
use Rattle.otn_view.proofs.choice.split_events.Goals as goal

pub returns-in-len1-up : goal.returns-in-len1-up
returns-in-len1-up c =
    let same : string_bytes c.last-item.result ≡ codes "events" = search rules in
    last_word c.args.words.now c.last-item.result (codes "events") c.in-len1-up.len_at_least c.last-item.is same
