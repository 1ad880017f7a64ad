use Rattle.std.proofs.Common.{◌≡◌, [], ◌∷◌, IfNone, subst, sym, arith}
use Rattle.command_words.specs.Words.{IsNoForm, texts}
use Rattle.command_words.proofs.WordLists.{five_texts}
use Rattle.command_words.proofs.words.command_of.Goals as goal

pub returns-in-len5-clause-no_form : goal.returns-in-len5-clause-no_form
returns-in-len5-clause-no_form c =
    let five = five_texts c.args.words.now c.name-item-then-words-lt6.result c.port-item.result c.slots-item.result c.turns-item.result c.wait-item.result
    (omega (arith, c.in-len5.len_at_least)) c.in-len5.len_below c.name-item-then-words-lt6.is c.port-item.is c.slots-item.is c.turns-item.is c.wait-item.is in
    let same : texts c.args.words.now
    ≡ c.as_str-in-len5.result.now ∷ c.as_str-in-len5-2.result.now ∷ c.as_str-in-len5-3.result.now ∷ c.as_str-in-len5-4.result.now ∷ c.as_str-in-len5-5.result.now ∷ []
    = cc (five, c.as_str-in-len5.ensures.value, c.as_str-in-len5-2.ensures.value, c.as_str-in-len5-3.ensures.value, c.as_str-in-len5-4.ensures.value, c.as_str-in-len5-5.ensures.value) in
    subst (λ words. IfNone c.command_with_four.result (IsNoForm words)) (sym same) c.command_with_four.ensures.no_form
