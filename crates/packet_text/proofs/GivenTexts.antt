-- What a place gave is among the texts that its lines may have.
use Rattle.std.proofs.Common.{◌≡◌, ◌≢◌, ℕ, Bool, true, false, List, [], ◌++◌, Option, Some, refl, sym, ap, ◌∙◌, append_assoc, append-nil}
use Rattle.port_base.specs.Views.{State, Empty, Live, Dead, InView}
use Rattle.port_base.specs.Reads.{HasEnded}
use Rattle.port_base.proofs.GivenLaws.{Beyond, given_of_gave, dead_not_live}
use Rattle.packet_text.specs.TextLines.{full_lines, text_of_dead}
use Rattle.packet_text.specs.LinesStand.{may_be}
use Rattle.packet_text.specs.Laws.{AvailableIsAmong}
use Rattle.packet_text.specs.declared.line.Line.{Line}
use Rattle.packet_text.specs.declared.line.Line.TheVariants.{Packet, End, Bad, Lost}
use Rattle.packet_text.proofs.Texts.{full_lines-front}

ended_none : (left : Option (List ℕ)) (answered : Bool) (rest : List ℕ) → left ≡ Some rest → HasEnded left answered → rest ≡ []
ended_none left answered rest e h = rw e at h.nothing

same : (read available : List ℕ) (now : InView) → (b : Beyond read available now.state now.left) → b.rest ≡ [] → available ≡ read
same read available now b e = b.parts ∙ ap (λ bytes. read ++ bytes) e ∙ append-nil read

nothing_left : (now : InView) (rest : List ℕ) → (now.state ≡ Live → now.left ≡ Some rest) → (now.state ≢ Live → rest ≡ []) → (now.state ≡ Live → HasEnded now.left now.ended) → rest ≡ []
nothing_left now rest live other over = by_state now.state refl
  where
    by_state : (s : State) → now.state ≡ s → rest ≡ []
    by_state Live e = ended_none now.left now.ended rest (live e) (over e)
    by_state Empty e = other (λ l. (let f : Empty ≡ Live = sym e ∙ l in cc))
    by_state Dead e = other (λ l. dead_not_live (sym e ∙ l))

among : (ended : Bool) (a : Line) (read available rest : List ℕ) → available ≡ read ++ rest → (ended ≡ true → rest ≡ []) → (a ≡ End → ended ≡ true) → a ≢ Lost → may_be ended a read available
among true a read available rest parts none end alive = parts ∙ ap (λ bytes. read ++ bytes) (none refl) ∙ append-nil read
among false Packet read available rest parts none end alive =
    let f = full_lines-front read in
    record { rest = f.rest ++ rest; parts = parts ∙ ap (λ bytes. bytes ++ rest) f.parts ∙ append_assoc (full_lines read) f.rest rest }
among false (Bad n) read available rest parts none end alive = record { rest = rest; parts = parts }
among false End read available rest parts none end alive = absurd (let e = end refl in cc)
among false Lost read available rest parts none end alive = absurd (alive refl)

dead_text : (ended : Bool) (a : Line) (read available : List ℕ) → ended ≡ false → a ≡ Lost → available ≡ read → may_be ended a read (text_of_dead available)
dead_text ended a read available e f g = rw (e, f, g) refl

pub given_among : AvailableIsAmong
given_among = λ first now read available packets view h given_is.
    let b = given_of_gave first now read available h.gave given_is in (
      λ alive. among view.ended view.answer read available b.rest b.parts (λ e. nothing_left now b.rest b.live b.other (h.over e)) h.ended alive,
      λ lost. (let l = h.lost lost in dead_text view.ended view.answer read available l.0 lost (same read available now b (b.other (λ live. dead_not_live (sym l.1 ∙ live))))),
    )
