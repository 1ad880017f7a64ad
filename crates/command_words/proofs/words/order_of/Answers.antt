use Rattle.std.proofs.Common.{ℕ, rules}
use Rattle.command_words.specs.Words.{IsForm, texts}
use Rattle.command_words.specs.declared.words.Command.TheVariants.{RunOrdered}
use Rattle.command_words.proofs.words.order_of.Goals as goal

pub returns-in_err-number-clause-none : goal.returns-in_err-number-clause-none
returns-in_err-number-clause-none c =
    let no_form = c.in_err-number.ensures.no_form in
    let none : (number : ℕ) → IsForm (texts c.args.words.now) (RunOrdered number) → ⊥ = λ number form. no_form (RunOrdered number) form in
    search rules
