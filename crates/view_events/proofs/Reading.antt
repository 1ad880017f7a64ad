-- What the lines of a view say, as they are read.
use Rattle.std.proofs.Common.{◌≡◌, ◌<◌, ◌≤◌, ◌^◌, ◌∙◌, ℕ, List, [], ◌∷◌, Option, Some, None, get_or, sym, ap, arith}
use Rattle.std.specs.Prelude.{codes}
use Rattle.std.specs.Fmt.{decimal}
use Rattle.view_events.specs.EventsOf.{cm_of, cnd_of, tributary_said}
use Rattle.view_events.specs.Steps.Kinds.{kind_is}
use Rattle.view_events.specs.Steps.Words.{nth_word}
use Rattle.view_events.specs.ViewLines.{IsOtherWord, IsPair, IsTributaryLine, IsTurnLine, IsViewLine, OfEnd, OfMsi, OfOther, OfTributary, OfTurn, TributaryLine, ViewLine, alignment_word, cm_word, cnd_word, kind_word, line_text, more_words, state_word}
use Rattle.view_events.specs.declared.said.Alignment.{Alignment}
use Rattle.view_events.specs.declared.said.Alignment.TheVariants.{Whole, Lost, Hunting, Ended}
use Rattle.view_events.specs.declared.said.SinkState.{SinkState}
use Rattle.view_events.specs.declared.said.SinkState.TheVariants.{Waiting, Up, Down}
use Rattle.view_events.specs.declared.said.TurnSaid.{TurnSaid}
use Rattle.view_events.specs.declared.slot_events.TheConstants.{SLOTS}
use Rattle.view_events.specs.declared.view_lines.Kind.{Kind}
use Rattle.view_events.specs.declared.view_lines.Kind.TheVariants.{Turn, Msi, Tributary, End, Other}
use Rattle.view_events.proofs.Spelling.{line_word}

-- ---- words by cases

pub alignment_read : (r a : Alignment) (w : List ℕ) → w ≡ alignment_word a → (w ≡ codes "whole" → r ≡ Whole) → (w ≡ codes "lost" → r ≡ Lost)
    → (w ≡ codes "none" → r ≡ Hunting) → (w ≡ codes "end" → r ≡ Ended) → r ≡ a
alignment_read r Whole w is whole lost none end = whole is
alignment_read r Lost w is whole lost none end = lost is
alignment_read r Hunting w is whole lost none end = none is
alignment_read r Ended w is whole lost none end = end is

pub state_read : (r s : SinkState) (w : List ℕ) → w ≡ state_word s → (w ≡ codes "up" → r ≡ Up) → (w ≡ codes "waiting" → r ≡ Waiting) → (w ≡ codes "down" → r ≡ Down) → r ≡ s
state_read r Waiting w is up waiting down = waiting is
state_read r Up w is up waiting down = up is
state_read r Down w is up waiting down = down is

pub cm_read : (r : ℕ) (pair : Option (ℕ × ℕ)) (w : List ℕ) → IsPair pair → w ≡ cm_word pair → (w ≡ codes "-" → r ≡ 0) → ((n : ℕ) → n < 2 ^ 64 → w ≡ decimal n → r ≡ n) → r ≡ cm_of pair
cm_read r None w h is mark number = mark is
cm_read r (Some pair) w h is mark number = number (pair.0) (let few = h.0 in omega (arith, few)) is

pub cnd_read : (r : ℕ) (pair : Option (ℕ × ℕ)) (w : List ℕ) → IsPair pair → w ≡ cnd_word pair → (w ≡ codes "-" → r ≡ 0) → ((n : ℕ) → n < 2 ^ 64 → w ≡ decimal n → r ≡ n) → r ≡ cnd_of pair
cnd_read r None w h is mark number = mark is
cnd_read r (Some pair) w h is mark number = number (pair.1) (let few = h.1 in omega (arith, few)) is

pub kind_read : (r : Kind) (line : ViewLine) (w : List ℕ) → IsViewLine line → w ≡ kind_word line → (w ≡ codes "turn" → r ≡ Turn) → (w ≡ codes "msi" → r ≡ Msi)
    → (w ≡ codes "tributary" → r ≡ Tributary) → (w ≡ codes "end" → r ≡ End) → (IsOtherWord w → r ≡ Other) → r ≡ kind_is line
kind_read r (OfTurn frames said) w h is turn msi tributary end other = turn is
kind_read r (OfMsi slot byte) w h is turn msi tributary end other = msi is
kind_read r (OfTributary x) w h is turn msi tributary end other = tributary is
kind_read r (OfEnd turns rest) w h is turn msi tributary end other = end is
kind_read r (OfOther word more) w h is turn msi tributary end other =
    other (record { turn = (λ e. h.2.turn (sym is ∙ e)); msi = (λ e. h.2.msi (sym is ∙ e)); tributary = (λ e. h.2.tributary (sym is ∙ e)); end = (λ e. h.2.end (sym is ∙ e)) })

-- ---- lines of one kind

pub only_turn : (G : ViewLine → Type 0) (line : ViewLine) → IsViewLine line → kind_is line ≡ Turn → ((frames : ℕ) (said : TurnSaid) → IsTurnLine frames said → G (OfTurn frames said)) → G line
only_turn G (OfTurn frames said) h is go = go frames said h
only_turn G (OfMsi slot byte) h is go = absurd (cc)
only_turn G (OfTributary x) h is go = absurd (cc)
only_turn G (OfEnd turns rest) h is go = absurd (cc)
only_turn G (OfOther word more) h is go = absurd (cc)

pub only_msi : (G : ViewLine → Type 0) (line : ViewLine) → IsViewLine line → kind_is line ≡ Msi → ((slot byte : ℕ) → slot < SLOTS → byte < 256 → G (OfMsi slot byte)) → G line
only_msi G (OfTurn frames said) h is go = absurd (cc)
only_msi G (OfMsi slot byte) h is go = go slot byte h.0 h.1
only_msi G (OfTributary x) h is go = absurd (cc)
only_msi G (OfEnd turns rest) h is go = absurd (cc)
only_msi G (OfOther word more) h is go = absurd (cc)

pub only_tributary : (G : ViewLine → Type 0) (line : ViewLine) → IsViewLine line → kind_is line ≡ Tributary → ((x : TributaryLine) → IsTributaryLine x → G (OfTributary x)) → G line
only_tributary G (OfTurn frames said) h is go = absurd (cc)
only_tributary G (OfMsi slot byte) h is go = absurd (cc)
only_tributary G (OfTributary x) h is go = go x h
only_tributary G (OfEnd turns rest) h is go = absurd (cc)
only_tributary G (OfOther word more) h is go = absurd (cc)

pub only_end : (G : ViewLine → Type 0) (line : ViewLine) → IsViewLine line → kind_is line ≡ End → ((turns rest : ℕ) → G (OfEnd turns rest)) → G line
only_end G (OfTurn frames said) h is go = absurd (cc)
only_end G (OfMsi slot byte) h is go = absurd (cc)
only_end G (OfTributary x) h is go = absurd (cc)
only_end G (OfEnd turns rest) h is go = go turns rest
only_end G (OfOther word more) h is go = absurd (cc)

pub only_other : (G : ViewLine → Type 0) (line : ViewLine) → IsViewLine line → kind_is line ≡ Other → ((word : List ℕ) (more : List (List ℕ)) → G (OfOther word more)) → G line
only_other G (OfTurn frames said) h is go = absurd (cc)
only_other G (OfMsi slot byte) h is go = absurd (cc)
only_other G (OfTributary x) h is go = absurd (cc)
only_other G (OfEnd turns rest) h is go = absurd (cc)
only_other G (OfOther word more) h is go = go word more

-- ---- records by their fields

pub turn_by : (said : TurnSaid) (number : ℕ) (alignment : Alignment) (lead_in fas sm pm : ℕ) → number ≡ said.number → alignment ≡ said.alignment → lead_in ≡ said.lead_in
    → fas ≡ said.fas → sm ≡ said.sm → pm ≡ said.pm
    → record { number = number; alignment = alignment; lead_in = lead_in; fas = fas; sm = sm; pm = pm } ≡ said
turn_by said number alignment lead_in fas sm pm e f g h k m =
    ap (λ x. record { number = x; alignment = alignment; lead_in = lead_in; fas = fas; sm = sm; pm = pm }) e
    ∙ ap (λ x. record { number = said.number; alignment = x; lead_in = lead_in; fas = fas; sm = sm; pm = pm }) f
    ∙ ap (λ x. record { number = said.number; alignment = said.alignment; lead_in = x; fas = fas; sm = sm; pm = pm }) g
    ∙ ap (λ x. record { number = said.number; alignment = said.alignment; lead_in = said.lead_in; fas = x; sm = sm; pm = pm }) h
    ∙ ap (λ x. record { number = said.number; alignment = said.alignment; lead_in = said.lead_in; fas = said.fas; sm = x; pm = pm }) k
    ∙ ap (λ x. record { number = said.number; alignment = said.alignment; lead_in = said.lead_in; fas = said.fas; sm = said.sm; pm = x }) m

pub tributary_by : (turn : ℕ) (x : TributaryLine) (state : SinkState) (cm cnd : ℕ) → state ≡ x.state → cm ≡ cm_of x.pair → cnd ≡ cnd_of x.pair
    → record { turn = turn; state = state; cm = cm; cnd = cnd } ≡ tributary_said turn x
tributary_by turn x state cm cnd e f g =
    ap (λ y. record { turn = turn; state = y; cm = cm; cnd = cnd }) e
    ∙ ap (λ y. record { turn = turn; state = x.state; cm = y; cnd = cnd }) f
    ∙ ap (λ y. record { turn = turn; state = x.state; cm = cm_of x.pair; cnd = y }) g

-- ---- word n of a line of each kind

pub turn_word : (frames : ℕ) (said : TurnSaid) → IsTurnLine frames said → (text : List ℕ) → text ≡ line_text (OfTurn frames said) → (n : ℕ) → n ≤ 12
    → nth_word n text ≡ get_or (codes "turn" ∷ more_words (OfTurn frames said)) n []
turn_word frames said h text is n less = line_word (OfTurn frames said) h text is n less

pub msi_word : (slot byte : ℕ) → slot < SLOTS → byte < 256 → (text : List ℕ) → text ≡ line_text (OfMsi slot byte) → (n : ℕ) → n ≤ 2
    → nth_word n text ≡ get_or (codes "msi" ∷ more_words (OfMsi slot byte)) n []
msi_word slot byte low few text is n less = line_word (OfMsi slot byte) (low, few) text is n less

pub tributary_word : (x : TributaryLine) → IsTributaryLine x → (text : List ℕ) → text ≡ line_text (OfTributary x) → (n : ℕ) → n ≤ 12
    → nth_word n text ≡ get_or (codes "tributary" ∷ more_words (OfTributary x)) n []
tributary_word x h text is n less = line_word (OfTributary x) h text is n less
