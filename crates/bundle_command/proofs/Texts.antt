-- What a channel has to give, by how it stands.
use Rattle.std.proofs.Common.{◌≡◌, ◌≢◌, ◌⊎◌, inl, inr, ◌≤◌, ℕ, zero, suc, Bool, true, false, cond, List, [], ◌∷◌, ◌++◌, Some, None, length, refl, sym, ap, subst, ◌∙◌, append-nil, append_assoc, arith}
use Rattle.std.specs.Prelude.{◌&&◌, slice_get}
use Rattle.std.specs.List.{list_all, take_while}
use Rattle.std.proofs.lemmas.List.Folds.{list_all-append}
use Rattle.std.proofs.lemmas.List.Sums.{take_while-cons}
use Rattle.std.proofs.lemmas.Option.{slice_get_past}
use Rattle.port_base.specs.Views.{InView}
use Rattle.packet_text.specs.LinesStand.{LinesView, LinesStand, Told, lines_view}
use Rattle.packet_text.specs.PacketText.{Packets, TextEnding, Ended as TextEnds, BadAt, behind, packets_of}
use Rattle.packet_text.specs.declared.line.Line.{Line}
use Rattle.packet_text.specs.declared.line.Line.TheVariants as line
use Rattle.gfp_linear.specs.Weave.{ChannelText}
use Rattle.odu_client.specs.ClientInput.{InputEnding, AtEnd, AtBad, AtDeath, ClientInput, input_of, is_end}
use Rattle.bundle_command.specs.ChannelInput.{is_short, is_death, channel_text, ends_whole}
use Rattle.bundle_command.specs.Steps.Channels.{ChannelStands, MayShow, StandsSo, IsBadLine}
use Rattle.bundle_command.specs.declared.channel.Channel.{Channel}
use Rattle.bundle_command.specs.declared.channel.Standing.{Standing}
use Rattle.bundle_command.specs.declared.channel.Standing.TheVariants as standing

-- ---- the packets before the first that is too long

and_parts : (a b : Bool) → (a && b) ≡ true → (a ≡ true) × (b ≡ true)
and_parts true b e = (refl, e)
and_parts false b e = absurd (cc)

all_head : (x : List ℕ) (xs : List (List ℕ)) → list_all is_short (x ∷ xs) ≡ true → (is_short x ≡ true) × (list_all is_short xs ≡ true)
all_head x xs e = and_parts (is_short x) (list_all is_short xs) e

pub kept_front : (offered later : List (List ℕ)) → list_all is_short offered ≡ true → take_while is_short (offered ++ later) ≡ offered ++ take_while is_short later
kept_front [] later e = refl
kept_front (x ∷ offered) later e =
    let parts = all_head x offered e in
    take_while-cons is_short x (offered ++ later) ∙ ap (λ b. cond b (x ∷ take_while is_short (offered ++ later)) []) parts.0 ∙ ap (λ xs. x ∷ xs) (kept_front offered later parts.1)

pub kept_all : (offered : List (List ℕ)) → list_all is_short offered ≡ true → take_while is_short offered ≡ offered
kept_all offered e = ap (take_while is_short) (sym (append-nil offered)) ∙ kept_front offered [] e ∙ append-nil offered

-- a packet that is too long ends the list
kept_long : (offered later : List (List ℕ)) (packet : List ℕ) → list_all is_short offered ≡ true → is_short packet ≡ false → take_while is_short (offered ++ packet ∷ later) ≡ offered
kept_long offered later packet e long =
    kept_front offered (packet ∷ later) e ∙ ap (λ xs. offered ++ xs) (take_while-cons is_short packet later ∙ ap (λ b. cond b (packet ∷ take_while is_short later) []) long) ∙ append-nil offered

not_all : (offered later : List (List ℕ)) (packet : List ℕ) → is_short packet ≡ false → list_all is_short (offered ++ packet ∷ later) ≡ false
not_all offered later packet long =
    list_all-append is_short offered (packet ∷ later) ∙ ap (λ b. list_all is_short offered && (b && list_all is_short later)) long ∙ and_false (list_all is_short offered)
  where
    and_false : (a : Bool) → (a && false) ≡ false
    and_false true = refl
    and_false false = refl

-- ---- what an input is, by its text

packets_with : (packets : List (List ℕ)) (died : Bool) (text : List ℕ) (ending : TextEnding) → packets_of text ≡ record { packets = packets; ending = ending } → (input_of died text).packets ≡ packets
packets_with packets died text ending e = ap (λ (p : Packets). p.packets) e

text_with : (offered : List (List ℕ)) (ending : InputEnding) → list_all is_short offered ≡ true → channel_text (record { packets = offered; ending = ending }) ≡ record { packets = offered; is_lost = is_death ending }
text_with offered ending e = rw (kept_all offered e, e) refl

-- the input of a text that ended, or whose place died
pub input_ended : (offered : List (List ℕ)) (text : List ℕ) → packets_of text ≡ record { packets = offered; ending = TextEnds } → input_of false text ≡ record { packets = offered; ending = AtEnd }
input_ended offered text e = rw e refl

pub input_dead : (offered : List (List ℕ)) (text : List ℕ) → packets_of text ≡ record { packets = offered; ending = TextEnds } → input_of true text ≡ record { packets = offered; ending = AtDeath }
input_dead offered text e = rw e refl

pub input_bad : (offered : List (List ℕ)) (died : Bool) (text : List ℕ) (n : ℕ) → packets_of text ≡ record { packets = offered; ending = BadAt n } → input_of died text ≡ record { packets = offered; ending = AtBad n }
input_bad offered died text n e = rw e refl

-- ---- what a channel has to give

-- whether its client is lost, and whether its text has ended, as it stands
abbrev pub is_lost_so : Standing → Bool
is_lost_so standing.Fresh = false
is_lost_so standing.Going = false
is_lost_so standing.Ended = false
is_lost_so standing.Bad = false
is_lost_so standing.Lost = true
is_lost_so standing.More = false

-- one that gives no packet more within the turns
abbrev pub IsOver : Standing → Type 0
IsOver standing.Fresh = ⊥
IsOver standing.Going = ⊥
IsOver standing.Ended = Unit {0}
IsOver standing.Bad = Unit {0}
IsOver standing.Lost = Unit {0}
IsOver standing.More = ⊥

abbrev pub is_ended_so : Standing → Bool
is_ended_so standing.Fresh = false
is_ended_so standing.Going = false
is_ended_so standing.Ended = true
is_ended_so standing.Bad = false
is_ended_so standing.Lost = false
is_ended_so standing.More = false

-- what is told of it
pub record OverText (s : Standing) (offered : List (List ℕ)) (input : ClientInput) : Type 0 where
  pub text : channel_text input ≡ record { packets = offered; is_lost = is_lost_so s }
  pub ends : ends_whole input ≡ is_ended_so s

over_of : (s : Standing) (offered : List (List ℕ)) (ending : InputEnding) (input : ClientInput) → list_all is_short offered ≡ true → is_death ending ≡ is_lost_so s → is_end ending ≡ is_ended_so s
    → input ≡ record { packets = offered; ending = ending } → OverText s offered input
over_of s offered ending input short dead end is = record {
  text = ap channel_text is ∙ text_with offered ending short ∙ ap (λ b. record { packets = offered; is_lost = b }) dead;
  ends = ap ends_whole is ∙ ap (λ b. b && is_end ending) short ∙ end;
}

-- the text of a bad line
bad_told : (a : Line) (offered : List (List ℕ)) (text : Packets) → IsBadLine a → Told a offered text → (n : ℕ) × (text ≡ record { packets = offered; ending = BadAt n })
bad_told (line.Bad n) offered text bad told = (told.line, told.ends)
bad_told line.Packet offered text bad told = absurd bad
bad_told line.End offered text bad told = absurd bad
bad_told line.Lost offered text bad told = absurd bad

-- a text that goes on behind these packets
goes_told : (died : Bool) (offered : List (List ℕ)) (text : List ℕ) → Told line.Packet offered (packets_of text) → (rest : List (List ℕ)) × ((input_of died text).packets ≡ offered ++ rest)
goes_told died offered text told = (told.later.packets, ap (λ (p : Packets). p.packets) told.parts)

no_beyond : (offered beyond : List (List ℕ)) → beyond ≡ [] → offered ++ beyond ≡ offered
no_beyond offered beyond e = ap (λ b. offered ++ b) e ∙ append-nil offered

-- one whose text is over gives no more than it gave
pub over_text : (first now : InView) (read : List ℕ) (offered : List (List ℕ)) (channel : Channel) (input : ClientInput) → ChannelStands first now read offered channel → IsOver channel.standing
    → MayShow (lines_view channel.lines) read input → OverText channel.standing offered input
over_text first now read offered channel input stands over may = go channel.standing stands.so over
  where
    told : Told (lines_view channel.lines).answer (offered ++ stands.beyond) (packets_of may.text)
    told = stands.text.told may.text may.may

    go : (s : Standing) → StandsSo s offered stands.beyond (lines_view channel.lines).answer → IsOver s → OverText s offered input
    go standing.Ended so over =
        let t : packets_of may.text ≡ record { packets = offered; ending = TextEnds } =
        subst (λ a. Told a (offered ++ stands.beyond) (packets_of may.text)) so.1 told ∙ ap (λ ps. record { packets = ps; ending = TextEnds }) (no_beyond offered stands.beyond so.0) in
        over_of standing.Ended offered AtEnd input stands.short refl refl (may.is ∙ ap (λ d. input_of d may.text) (may.die.ended so.1) ∙ input_ended offered may.text t)
    go standing.Lost so over =
        let t : packets_of may.text ≡ record { packets = offered; ending = TextEnds } =
        subst (λ a. Told a (offered ++ stands.beyond) (packets_of may.text)) so.1 told ∙ ap (λ ps. record { packets = ps; ending = TextEnds }) (no_beyond offered stands.beyond so.0) in
        over_of standing.Lost offered AtDeath input stands.short refl refl (may.is ∙ ap (λ d. input_of d may.text) (may.die.lost so.1) ∙ input_dead offered may.text t)
    go standing.Bad (inl so) over =
        let t = bad_told (lines_view channel.lines).answer (offered ++ stands.beyond) (packets_of may.text) so.1 told in
        let e : packets_of may.text ≡ record { packets = offered; ending = BadAt t.0 } = t.1 ∙ ap (λ ps. record { packets = ps; ending = BadAt t.0 }) (no_beyond offered stands.beyond so.0) in
        over_of standing.Bad offered (AtBad t.0) input stands.short refl refl (may.is ∙ input_bad offered may.died may.text t.0 e)
    go standing.Bad (inr (packet, is, long, answer)) over =
        let t = goes_told may.died (offered ++ stands.beyond) may.text (subst (λ a. Told a (offered ++ stands.beyond) (packets_of may.text)) answer told) in
        let e : input.packets ≡ offered ++ packet ∷ t.0 =
        ap (λ (i : ClientInput). i.packets) may.is ∙ t.1 ∙ ap (λ b. (offered ++ b) ++ t.0) is ∙ append_assoc offered (packet ∷ []) t.0 in
        let none : list_all is_short input.packets ≡ false = ap (list_all is_short) e ∙ not_all offered t.0 packet long in
        record {
          text = ap (λ ps. record { packets = ps; is_lost = list_all is_short input.packets && is_death input.ending }) (ap (take_while is_short) e ∙ kept_long offered t.0 packet stands.short long)
              ∙ ap (λ b. record { packets = offered; is_lost = b && is_death input.ending }) none;
          ends = ap (λ b. b && is_end input.ending) none;
        }
    go standing.Fresh so over = absurd over
    go standing.Going so over = absurd over
    go standing.More so over = absurd over

-- one that gave packets: they are the first that it has
pub going_text : (first now : InView) (read : List ℕ) (offered : List (List ℕ)) (channel : Channel) (input : ClientInput) → ChannelStands first now read offered channel → channel.standing ≡ standing.Going
    → MayShow (lines_view channel.lines) read input → (rest : List (List ℕ)) × ((channel_text input).packets ≡ offered ++ rest)
going_text first now read offered channel input stands going may =
    let so = subst (λ s. StandsSo s offered stands.beyond (lines_view channel.lines).answer) going stands.so in
    let told = stands.text.told may.text may.may in
    let t = goes_told may.died (offered ++ stands.beyond) may.text (subst (λ a. Told a (offered ++ stands.beyond) (packets_of may.text)) so.1 told) in
    let e : input.packets ≡ offered ++ t.0 = ap (λ (i : ClientInput). i.packets) may.is ∙ t.1 ∙ ap (λ ps. ps ++ t.0) (no_beyond offered stands.beyond so.0) in
    (take_while is_short t.0, ap (take_while is_short) e ∙ kept_front offered t.0 stands.short)

-- one that has a packet more: that is one of its own, or its text does not end well
pub more_text : (first now : InView) (read : List ℕ) (offered : List (List ℕ)) (channel : Channel) (input : ClientInput) → ChannelStands first now read offered channel → channel.standing ≡ standing.More
    → MayShow (lines_view channel.lines) read input → (ends_whole input ≡ false) ⊎ ((packet : List ℕ) × (rest : List (List ℕ)) × ((channel_text input).packets ≡ offered ++ packet ∷ rest))
more_text first now read offered channel input stands more may =
    let so = subst (λ s. StandsSo s offered stands.beyond (lines_view channel.lines).answer) more stands.so in
    let packet = so.0 in
    let told = stands.text.told may.text may.may in
    let t = goes_told may.died (offered ++ stands.beyond) may.text (subst (λ a. Told a (offered ++ stands.beyond) (packets_of may.text)) so.2 told) in
    let e : input.packets ≡ offered ++ packet ∷ t.0 = ap (λ (i : ClientInput). i.packets) may.is ∙ t.1 ∙ ap (λ b. (offered ++ b) ++ t.0) so.1 ∙ append_assoc offered (packet ∷ []) t.0 in
    by_size packet t.0 e (is_short packet) refl
  where
    by_size : (packet : List ℕ) (rest : List (List ℕ)) → input.packets ≡ offered ++ packet ∷ rest → (b : Bool) → is_short packet ≡ b
        → (ends_whole input ≡ false) ⊎ ((packet : List ℕ) × (rest : List (List ℕ)) × ((channel_text input).packets ≡ offered ++ packet ∷ rest))
    by_size packet rest e false long = inl (ap (λ b. b && is_end input.ending) (ap (list_all is_short) e ∙ not_all offered rest packet long))
    by_size packet rest e true short =
        inr (
          packet,
          take_while is_short rest,
          ap (take_while is_short) e ∙ kept_front offered (packet ∷ rest) stands.short
              ∙ ap (λ xs. offered ++ xs) (take_while-cons is_short packet rest ∙ ap (λ b. cond b (packet ∷ take_while is_short rest) []) short),
        )

-- ---- places in a list

pub get_next : (before rest : List (List ℕ)) (x : List ℕ) → slice_get (before ++ x ∷ rest) (length before) ≡ Some x
get_next [] rest x = refl
get_next (y ∷ before) rest x = get_next before rest x

pub get_none : (offered : List (List ℕ)) → slice_get offered (length offered) ≡ None
get_none offered = slice_get_past offered (length offered) (omega arith)
