use Rattle.std.proofs.Common.{◌≡◌, ◌∙◌, ap, subst, sym, Ok}
use Rattle.std.proofs.lemmas.Fmt.{parse-decimal, IsAscii-decimal}
use Rattle.std.proofs.lemmas.Str.{IsUtf8-from_ascii}
use Rattle.std.specs.Fmt.{decimal}
use Rattle.std.specs.Result.{result_unwrap_or}
use Rattle.std.specs.Str.{IsUtf8}
use Rattle.view_events.proofs.words.number_of.Goals as goal

pub returns-in-Ok : goal.returns-in-Ok
returns-in-Ok c n few is =
    let read : c.parse.result ≡ Ok n = parse-decimal 64 n c.in-Ok.text.now c.parse.result few few (c.in-Ok.ensures.cases.0 ∙ is) c.parse.ensures.value.0 in
    c.unwrap_or.ensures ∙ ap (λ r. result_unwrap_or r 0) read

pub returns-in-Err : goal.returns-in-Err
returns-in-Err c n few is =
    absurd (c.in-Err.ensures.cases.0 (subst IsUtf8 (sym is) (IsUtf8-from_ascii (decimal n) (IsAscii-decimal n few))))
