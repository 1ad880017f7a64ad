use Rattle.command_words.specs.Words.{IsForm, texts}
use Rattle.command_words.specs.declared.words.Command.TheVariants.{RunCaptures}
use Rattle.command_words.proofs.Forms.{one_form}
use Rattle.command_words.proofs.words.takes_captures.Goals as goal

pub returns-in-Some : goal.returns-in-Some
returns-in-Some c =
    let words = texts c.args.words.now in (
      λ yes. (let mine : IsForm words RunCaptures = rw (c.is_of_captures.ensures.0 yes) at c.in-Some.ensures.form in mine),
      λ form. c.is_of_captures.ensures.1 (one_form words c.in-Some.command RunCaptures c.in-Some.ensures.form form),
    )

pub returns-in-None : goal.returns-in-None
returns-in-None c = (λ yes. absurd (cc), λ form. absurd (c.in-None.ensures.no_form RunCaptures form))
