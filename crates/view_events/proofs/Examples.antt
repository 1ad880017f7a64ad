-- Worked examples of the events of a view, by docs/VIEW.md, by computation.
use Rattle.std.proofs.Common.{◌≡◌, ℕ, List, [], ◌∷◌, ◌++◌, Option, Some, None, arith}
use Rattle.std.specs.Prelude.{codes}
use Rattle.std.specs.Fmt.{decimal}
use Rattle.std.proofs.lemmas.Fmt.{decimal_digit}
use Rattle.view_events.specs.EventsOf.{all_sums, events_of, line_events, said_after, tributary_text}
use Rattle.view_events.specs.ViewLines.{OfEnd, OfMsi, OfOther, OfTributary, OfTurn, ViewLine, line_text}
use Rattle.view_events.specs.declared.said.Alignment.{Alignment}
use Rattle.view_events.specs.declared.said.Alignment.TheVariants.{Whole, Lost}
use Rattle.view_events.specs.declared.said.SinkState.{SinkState}
use Rattle.view_events.specs.declared.said.SinkState.TheVariants.{Waiting, Up, Down}

-- digits
zero_is : decimal 0 ≡ 48 ∷ []
zero_is = decimal_digit 0 (omega arith)

one_is : decimal 1 ≡ 49 ∷ []
one_is = decimal_digit 1 (omega arith)

two_is : decimal 2 ≡ 50 ∷ []
two_is = decimal_digit 2 (omega arith)

three_is : decimal 3 ≡ 51 ∷ []
three_is = decimal_digit 3 (omega arith)

five_is : decimal 5 ≡ 53 ∷ []
five_is = decimal_digit 5 (omega arith)

seven_is : decimal 7 ≡ 55 ∷ []
seven_is = decimal_digit 7 (omega arith)

eight_is : decimal 8 ≡ 56 ∷ []
eight_is = decimal_digit 8 (omega arith)

nine_is : decimal 9 ≡ 57 ∷ []
nine_is = decimal_digit 9 (omega arith)

-- port 1 in slot 3, without a name
abbrev one : SinkState → Option (ℕ × ℕ) → ViewLine
one state pair = OfTributary (record { name = codes "-"; port = 1; slots = 3 ∷ []; state = state; pair = pair; bytes = 9 })

abbrev turn : (number lead_in fas pm : ℕ) → Alignment → ViewLine
turn number lead_in fas pm alignment = OfTurn 8 (record { number = number; alignment = alignment; lead_in = lead_in; fas = fas; sm = 0; pm = pm })

-- the lines of a turn, of an MSI byte and of a tributary
turn_line : line_text (turn 2 1 0 3 Whole) ≡ codes "turn 2 whole frames 8 lead-in 1 fas 0 sm 0 pm 3\n"
unfolding line_text
turn_line = simp (zero_is, one_is, two_is, three_is, five_is, seven_is, eight_is, nine_is)

msi_line : line_text (OfMsi 8 192) ≡ codes "msi 8 c0\n"
unfolding line_text
msi_line = simp (zero_is, one_is, two_is, three_is, five_is, seven_is, eight_is, nine_is)

up_line : line_text (one Up (Some (5, 7))) ≡ codes "tributary - port 1 slots 3 up cm 5 cnd 7 bytes 9\n"
unfolding line_text
up_line = simp (zero_is, one_is, two_is, three_is, five_is, seven_is, eight_is, nine_is)

down_line : line_text (one Down None) ≡ codes "tributary - port 1 slots 3 down cm - cnd - bytes 9\n"
unfolding line_text
down_line = simp (zero_is, one_is, two_is, three_is, five_is, seven_is, eight_is, nine_is)

-- a tributary that comes up, and goes down with the turn that loses its multiframe
abbrev three_turns : List ViewLine
three_turns = OfOther (codes "line") (codes "otu2" ∷ codes "plain" ∷ []) ∷ turn 1 0 0 0 Whole ∷ OfMsi 3 128 ∷ one Waiting None
    ∷ turn 2 2 1 3 Whole ∷ OfMsi 3 129 ∷ one Up (Some (5, 7)) ∷ turn 3 0 0 0 Lost ∷ one Down None ∷ OfEnd 3 5 ∷ []

its_events : events_of three_turns ≡ codes "line otu2 plain\n"
    ++ codes "turn 1 line whole after 0 turns\n"
    ++ codes "turn 1 port 1 in slot 3\n"
    ++ codes "turn 2 line passed over 2 frames\n"
    ++ codes "turn 2 line fas 1 sm 0 pm 3\n"
    ++ codes "turn 2 port 2 in slot 3\n"
    ++ codes "turn 2 1:3 up cm 5 cnd 7 after 1 turns\n"
    ++ codes "turn 3 line lost multiframe\n"
    ++ codes "turn 3 1:3 down no multiframe\n"
    ++ codes "end turns 3 rest 5\n"
    ++ codes "end line whole 2 lost 1 none 0 fas 1 sm 0 pm 3\n"
    ++ codes "end 1:3 up 1 waiting 1 down 1 times 1 longest 1 first 1 last 3\n"
unfolding events_of line_text line_events said_after tributary_text all_sums
its_events = simp (zero_is, one_is, two_is, three_is, five_is, seven_is, eight_is, nine_is)

-- two tributaries of one label have a line each in a turn, and sums of their own
abbrev two_alike : List ViewLine
two_alike = turn 1 0 0 0 Whole ∷ one Up (Some (5, 7)) ∷ one Down None ∷ OfEnd 1 0 ∷ []

their_events : events_of two_alike ≡ codes "turn 1 line whole after 0 turns\n"
    ++ codes "turn 1 1:3 up cm 5 cnd 7 after 0 turns\n"
    ++ codes "turn 1 1:3 down never came up\n"
    ++ codes "end turns 1 rest 0\n"
    ++ codes "end line whole 1 lost 0 none 0 fas 0 sm 0 pm 0\n"
    ++ codes "end 1:3 up 1 waiting 0 down 0 times 0 longest 0 first 1 last 1\n"
    ++ codes "end 1:3 up 0 waiting 0 down 1 times 1 longest 1 first 1 last 1\n"
unfolding events_of line_text line_events said_after tributary_text all_sums
their_events = simp (zero_is, one_is, two_is, three_is, five_is, seven_is, eight_is, nine_is)
