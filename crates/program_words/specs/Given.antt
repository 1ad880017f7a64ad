-- API: the words after the program's name.
use Rattle.std.specs.Prelude.{ℕ, List, [], Option, Some, None, Result, Ok, Err, Vec, if◌then◌else◌}
use Rattle.std.specs.Str.{is_utf8}
use Rattle.std.specs.declared.alloc.Global.{Global}
use Rattle.std.specs.declared.env.FillError.{FillError}
use Rattle.std.specs.declared.env.FillError.TheVariants.{NotPresent, TooLong}

-- how many bytes of a word are looked at, by the system's answer to the question for it; the words end where there is
-- none
abbrev pub word_length : Result ℕ FillError → Option ℕ
word_length (Ok count) = Some count
word_length (Err TooLong) = Some 0
word_length (Err NotPresent) = None

-- the text of the word that has these bytes: the empty one where they are no UTF-8
abbrev pub word_text : List ℕ → List ℕ
word_text bytes = if is_utf8 bytes then bytes else []

-- the text of the word for which the system gave this
abbrev pub given_text : Vec ℕ Global → List ℕ
given_text answer = word_text answer.items
