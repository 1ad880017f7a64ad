-- What is known of a client behind the packets that are begun.
use Rattle.std.proofs.Common.{◌≡◌, ◌≢◌, ◌⊎◌, inl, inr, ◌<◌, ◌+◌, ℕ, Bool, true, false, List, [], ◌∷◌, ◌++◌, length, refl, sym, ap, subst, ◌∙◌, append-nil, length-append, arith}
use Rattle.port_base.specs.Views.{State, Live, Dead, Empty, InView}
use Rattle.packet_text.specs.LinesStand.{LinesView, LinesStand, Told, may_be, asked_for}
use Rattle.packet_text.specs.PacketText.{Packets, packets_of}
use Rattle.packet_text.specs.TextLines.{full_lines}
use Rattle.packet_text.specs.declared.line.Line.{Line}
use Rattle.packet_text.specs.declared.line.Line.TheVariants as line
use Rattle.bundle_command.specs.BundleLeft.{TellsBehind, WasAsked}
use Rattle.bundle_command.specs.Steps.Channels.{IsBadLine, StandsSo}
use Rattle.bundle_command.specs.declared.channel.Standing.{Standing}
use Rattle.bundle_command.specs.declared.channel.Standing.TheVariants as standing
use Rattle.bundle_command.proofs.Ends.{more_by, none_ended}

-- the lines came to an end
at_end : (packets : ℕ) (read : List ℕ) (state : State) (ended : Bool) → ended ≡ true → TellsBehind packets (more_by state ended) read
at_end packets read state ended e = inl (none_ended state ended e)

-- a packet came that was not given
has_more : (first last : InView) (read packet : List ℕ) (offered : List (List ℕ)) (view : LinesView) → LinesStand first last read (offered ++ packet ∷ []) view → view.answer ≡ line.Packet
    → TellsBehind (length offered) (more_by last.state view.ended) read
has_more first last read packet offered view h answer = by view.ended refl
  where
    many : view.ended ≡ false → length offered < length (packets_of (full_lines read)).packets
    many e =
        let told = subst (λ a. Told a (offered ++ packet ∷ []) (packets_of (full_lines read))) answer
        (h.told (full_lines read) (subst (λ b. may_be b view.answer read (full_lines read)) (sym e) (subst (λ a. may_be false a read (full_lines read)) (sym answer)
        (record { rest = []; parts = sym (append-nil (full_lines read)) })))) in
        let size = ap (λ (ps : Packets). length ps.packets) told.parts in
        let both = length-append (offered ++ packet ∷ []) told.later.packets in
        let one = length-append offered (packet ∷ []) in
        omega (arith, size, both, one)

    by : (ended : Bool) → view.ended ≡ ended → TellsBehind (length offered) (more_by last.state view.ended) read
    by true e = at_end (length offered) read last.state view.ended e
    by false e = inr (inr (many e))

is_bad : (first last : InView) (read : List ℕ) (packets : ℕ) (offered : List (List ℕ)) (view : LinesView) → LinesStand first last read offered view → IsBadLine view.answer
    → TellsBehind packets (more_by last.state view.ended) read
is_bad first last read packets offered view h bad = by view.answer refl bad
  where
    by_ended : (n : ℕ) → view.answer ≡ line.Bad n → (ended : Bool) → view.ended ≡ ended → TellsBehind packets (more_by last.state view.ended) read
    by_ended n a true e = at_end packets read last.state view.ended e
    by_ended n a false e = inr (inl (h.shown n a e))

    by : (a : Line) → view.answer ≡ a → IsBadLine a → TellsBehind packets (more_by last.state view.ended) read
    by line.Packet e is = absurd is
    by line.End e is = absurd is
    by (line.Bad n) e is = by_ended n e view.ended refl
    by line.Lost e is = absurd is

-- nothing was asked for
none_asked : (first last : InView) (read : List ℕ) (offered beyond : List (List ℕ)) (view : LinesView) → offered ≡ [] → beyond ≡ [] → view.answer ≡ line.Packet → LinesStand first last read (offered ++ beyond) view
    → read ≡ []
none_asked first last read offered beyond view e f answer h =
    let nothing : length (offered ++ beyond) ≡ 0 = ap length (ap (λ g. g ++ beyond) e ∙ f) in
    let asked : asked_for view.answer (length (offered ++ beyond)) ≡ 0 = ap (λ a. asked_for a (length (offered ++ beyond))) answer ∙ nothing in
    elim h.needed.fewer [
      | inl none ↦ none
      | inr less ↦ absurd (omega (arith, less, asked))
    ]

-- one that was asked, once it is settled
tells_behind : (s : Standing) (first last : InView) (read : List ℕ) (offered beyond : List (List ℕ)) (view : LinesView) → s ≢ standing.Going → s ≢ standing.Fresh → StandsSo s offered beyond view.answer
    → LinesStand first last read (offered ++ beyond) view → TellsBehind (length offered) (more_by last.state view.ended) read
tells_behind standing.Fresh first last read offered beyond view over known so h = absurd (known refl)
tells_behind standing.Going first last read offered beyond view over known so h = absurd (over refl)
tells_behind standing.Ended first last read offered beyond view over known so h = at_end (length offered) read last.state view.ended (h.ended so.1)
tells_behind standing.Bad first last read offered beyond view over known (inl (none, bad)) h = is_bad first last read (length offered) (offered ++ beyond) view h bad
tells_behind standing.Bad first last read offered beyond view over known (inr (packet, is, long, answer)) h =
    has_more first last read packet offered view (subst (λ b. LinesStand first last read (offered ++ b) view) is h) answer
tells_behind standing.Lost first last read offered beyond view over known so h = inl (ap (λ s. more_by s view.ended) (h.lost so.1).1)
tells_behind standing.More first last read offered beyond view over known (packet, is, answer) h =
    has_more first last read packet offered view (subst (λ b. LinesStand first last read (offered ++ b) view) is h) answer

-- by whether its channel is asked
pub was_asked : (Asked : Type 0) (s : Standing) (first last : InView) (read : List ℕ) (offered beyond : List (List ℕ)) (view : LinesView) → s ≢ standing.Going → (s ≢ standing.Fresh → Asked)
    → (s ≡ standing.Fresh → (Asked → ⊥) × (last ≡ first)) → StandsSo s offered beyond view.answer → LinesStand first last read (offered ++ beyond) view
    → WasAsked Asked (length offered) (more_by last.state view.ended) first last read
was_asked Asked s first last read offered beyond view over known fresh so h = by s refl so
  where
    other : (x : Standing) → s ≡ x → x ≢ standing.Fresh → WasAsked Asked (length offered) (more_by last.state view.ended) first last read
    other x e differ =
        let other_than : s ≢ standing.Fresh = λ f. differ (sym e ∙ f) in
        record { behind = λ asked. tells_behind s first last read offered beyond view over other_than so h; untouched = λ never. absurd (never (known other_than)) }

    by : (x : Standing) → s ≡ x → StandsSo x offered beyond view.answer → WasAsked Asked (length offered) (more_by last.state view.ended) first last read
    by standing.Fresh e so' = record {
      behind = λ asked. absurd ((fresh e).0 asked);
      untouched = λ never. ((fresh e).1, none_asked first last read offered beyond view so'.0 so'.1 so'.2 h);
    }
    by standing.Going e so' = other standing.Going e (λ f. cc)
    by standing.Ended e so' = other standing.Ended e (λ f. cc)
    by standing.Bad e so' = other standing.Bad e (λ f. cc)
    by standing.Lost e so' = other standing.Lost e (λ f. cc)
    by standing.More e so' = other standing.More e (λ f. cc)
