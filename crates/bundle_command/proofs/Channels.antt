-- One channel, answer by answer.
use Rattle.std.proofs.Common.{◌≡◌, ◌≢◌, ◌⊎◌, inl, inr, ◌≤◌, ◌+◌, ℕ, Bool, true, false, cond, List, [], ◌∷◌, ◌++◌, length, refl, sym, ap, subst, ◌∙◌, append-nil, append_assoc, length-append, arith}
use Rattle.std.specs.Prelude.{nat_le, ◌&&◌}
use Rattle.std.specs.List.{list_all}
use Rattle.std.proofs.lemmas.List.Folds.{list_all-append}
use Rattle.otn_base.specs.Counts.{saturated}
use Rattle.port_base.specs.Views.{InView}
use Rattle.packet_text.specs.LinesStand.{LinesView, LinesStand, TakeStands, MayBe, given_by, is_packet, lines_view}
use Rattle.packet_text.specs.declared.line.Line.{Line}
use Rattle.packet_text.specs.declared.line.Line.TheVariants as line
use Rattle.odu_client.specs.ClientInput.{ClientInput}
use Rattle.bundle_command.specs.ChannelInput.{is_short}
use Rattle.bundle_command.specs.Steps.Channels.{Answered, ChannelStands, IsBadLine, MayShow, StandsSo, count_of, news, standing_at_end, standing_of}
use Rattle.bundle_command.specs.declared.channel.Channel.{Channel}
use Rattle.bundle_command.specs.declared.channel.Standing.{Standing}
use Rattle.bundle_command.specs.declared.channel.Standing.TheVariants as standing

-- ---- how a channel stands

short_one : (offered : List (List ℕ)) (packet : List ℕ) → list_all is_short offered ≡ true → is_short packet ≡ true → list_all is_short (offered ++ packet ∷ []) ≡ true
short_one offered packet e short = list_all-append is_short offered (packet ∷ []) ∙ ap (λ b. b && (is_short packet && true)) e ∙ ap (λ b. b && true) short

sat_one : (offered : List (List ℕ)) (packet : List ℕ) (count : ℕ) → count ≡ saturated (length offered) → saturated (count + 1) ≡ saturated (length (offered ++ packet ∷ []))
sat_one offered packet count e = (let l = length-append offered (packet ∷ []) in omega arith)

sat_none : (offered : List (List ℕ)) (count : ℕ) → count ≡ saturated (length offered) → saturated (count + 0) ≡ saturated (length (offered ++ []))
sat_none offered count e = (let l = length-append offered [] in omega arith)

record NewStands (first now : InView) (read : List ℕ) (offered : List (List ℕ)) (view : LinesView) (s : Standing) : Type 0 where
  beyond : List (List ℕ)
  text : LinesStand first now read ((offered ++ news s view.packet) ++ beyond) view
  so : StandsSo s (offered ++ news s view.packet) beyond view.answer
  short : list_all is_short (offered ++ news s view.packet) ≡ true

-- nothing was given
none_new : (first now : InView) (read : List ℕ) (offered beyond : List (List ℕ)) (view : LinesView) → LinesStand first now read (offered ++ beyond) view → LinesStand first now read ((offered ++ []) ++ beyond) view
none_new first now read offered beyond view h = subst (λ g. LinesStand first now read (g ++ beyond) view) (sym (append-nil offered)) h

none_short : (offered : List (List ℕ)) → list_all is_short offered ≡ true → list_all is_short (offered ++ []) ≡ true
none_short offered e = ap (list_all is_short) (append-nil offered) ∙ e

new_stands : (first now : InView) (read : List ℕ) (offered : List (List ℕ)) (view : LinesView) → list_all is_short offered ≡ true → LinesStand first now read (offered ++ given_by view.answer view.packet) view
    → NewStands first now read offered view (standing_of view.answer (length view.packet))
new_stands first now read offered view short h = go view.answer refl
  where
    by_size : view.answer ≡ line.Packet → (b : Bool) → is_short view.packet ≡ b → LinesStand first now read (offered ++ view.packet ∷ []) view → NewStands first now read offered view (cond b standing.Going standing.Bad)
    by_size e true small h = record {
      beyond = [];
      text = subst (λ g. LinesStand first now read g view) (sym (append-nil (offered ++ view.packet ∷ []))) h;
      so = (refl, e);
      short = short_one offered view.packet short small;
    }
    by_size e false long h = record {
      beyond = view.packet ∷ [];
      text = none_new first now read offered (view.packet ∷ []) view h;
      so = inr (view.packet, refl, long, e);
      short = none_short offered short;
    }

    go : (a : Line) → view.answer ≡ a → NewStands first now read offered view (standing_of view.answer (length view.packet))
    go line.Packet e = subst (λ a. NewStands first now read offered view (standing_of a (length view.packet))) (sym e)
        (by_size e (is_short view.packet) refl (subst (λ a. LinesStand first now read (offered ++ given_by a view.packet) view) e h))
    go line.End e = subst (λ a. NewStands first now read offered view (standing_of a (length view.packet))) (sym e) (record {
      beyond = [];
      text = none_new first now read offered [] view (subst (λ a. LinesStand first now read (offered ++ given_by a view.packet) view) e h);
      so = (refl, e);
      short = none_short offered short;
    })
    go (line.Bad n) e = subst (λ a. NewStands first now read offered view (standing_of a (length view.packet))) (sym e) (record {
      beyond = [];
      text = none_new first now read offered [] view (subst (λ a. LinesStand first now read (offered ++ given_by a view.packet) view) e h);
      so = inl (refl, subst IsBadLine (sym e) tt);
      short = none_short offered short;
    })
    go line.Lost e = subst (λ a. NewStands first now read offered view (standing_of a (length view.packet))) (sym e) (record {
      beyond = [];
      text = none_new first now read offered [] view (subst (λ a. LinesStand first now read (offered ++ given_by a view.packet) view) e h);
      so = (refl, e);
      short = none_short offered short;
    })

count_on : (s : Standing) (offered : List (List ℕ)) (packet : List ℕ) (count : ℕ) → count ≡ saturated (length offered) → saturated (count + count_of s) ≡ saturated (length (offered ++ news s packet))
count_on standing.Going offered packet count e = sat_one offered packet count e
count_on standing.Fresh offered packet count e = sat_none offered count e
count_on standing.Ended offered packet count e = sat_none offered count e
count_on standing.Bad offered packet count e = sat_none offered count e
count_on standing.Lost offered packet count e = sat_none offered count e
count_on standing.More offered packet count e = sat_none offered count e

-- ---- one that may be asked

record IsOpen (offered beyond : List (List ℕ)) (answer : Line) : Type 0 where
  none : beyond ≡ []
  packet : answer ≡ line.Packet

is_open : (s : Standing) (offered beyond : List (List ℕ)) (answer : Line) → (s ≡ standing.Fresh) ⊎ (s ≡ standing.Going) → StandsSo s offered beyond answer → IsOpen offered beyond answer
is_open s offered beyond answer (inl e) so = (let h = subst (λ s. StandsSo s offered beyond answer) e so in record { none = h.1; packet = h.2 })
is_open s offered beyond answer (inr e) so = (let h = subst (λ s. StandsSo s offered beyond answer) e so in record { none = h.0; packet = h.1 })

may_earlier : (old new : LinesView) (read further : List ℕ) (input : ClientInput) → old.answer ≡ line.Packet → ((text : List ℕ) → MayBe new (read ++ further) text → MayBe old read text)
    → MayShow new (read ++ further) input → MayShow old read input
may_earlier old new read further input packet earlier may = record {
  died = may.died;
  text = may.text;
  may = earlier may.text may.may;
  die = record { ended = λ e. absurd (not_end (sym packet ∙ e)); lost = λ e. absurd (not_lost (sym packet ∙ e)) };
  is = may.is;
}
  where
    not_end : line.Packet ≢ line.End
    not_end e = cc

    not_lost : line.Packet ≢ line.Lost
    not_lost e = cc

-- the lines after an answer
lines_on : (first now : InView) (read : List ℕ) (offered beyond : List (List ℕ)) (old new : LinesView) → beyond ≡ [] → old.answer ≡ line.Packet → (h : TakeStands first read (offered ++ beyond) old new now)
    → LinesStand first now (read ++ h.further) (offered ++ given_by new.answer new.packet) new
lines_on first now read offered beyond old new none packet h =
    subst (λ g. LinesStand first now (read ++ h.further) g new) (ap (λ b. (offered ++ b) ++ cond (is_packet old.answer) (given_by new.answer new.packet) []) none
    ∙ ap (λ g. g ++ cond (is_packet old.answer) (given_by new.answer new.packet) []) (append-nil offered)
    ∙ ap (λ a. offered ++ cond (is_packet a) (given_by new.answer new.packet) []) packet) h.stands

pub taken_one : (first was now : InView) (read : List ℕ) (offered : List (List ℕ)) (old new : Channel) (answer : Line) (packet : List ℕ) → (old.standing ≡ standing.Fresh) ⊎ (old.standing ≡ standing.Going)
    → ((first : InView) (read : List ℕ) (packets : List (List ℕ)) → LinesStand first was read packets (lines_view old.lines) → TakeStands first read packets (lines_view old.lines) (lines_view new.lines) now)
    → (lines_view new.lines).answer ≡ answer → packet ≡ (lines_view new.lines).packet → new.standing ≡ standing_of answer (length packet) → new.packets ≡ saturated (old.packets + count_of new.standing)
    → ChannelStands first was read offered old → Answered first now read (offered ++ news new.standing (lines_view new.lines).packet) old new
taken_one first was now read offered old new answer packet may_ask takes answers packet_is stands_as count h =
    let view = lines_view new.lines in
    let o = is_open old.standing offered h.beyond (lines_view old.lines).answer may_ask h.so in
    let t = takes first read (offered ++ h.beyond) h.text in
    let s : new.standing ≡ standing_of view.answer (length view.packet) = stands_as ∙ ap (λ a. standing_of a (length packet)) (sym answers) ∙ ap (λ (p : List ℕ). standing_of view.answer (length p)) packet_is in
    let n : NewStands first now (read ++ t.further) offered view new.standing =
    subst (NewStands first now (read ++ t.further) offered view) (sym s) (new_stands first now (read ++ t.further) offered view h.short (lines_on first now read offered h.beyond (lines_view old.lines) view o.none o.packet t)) in
    record {
      further = t.further;
      stands = record { beyond = n.beyond; text = n.text; so = n.so; short = n.short; count = count ∙ count_on new.standing offered view.packet old.packets h.count };
      earlier = λ input may. may_earlier (lines_view old.lines) view read t.further input o.packet t.earlier may;
    }

pub no_news : (answer : Standing) (packet : List ℕ) → answer ≢ standing.Going → news answer packet ≡ []
no_news standing.Going packet other = absurd (other refl)
no_news standing.Fresh packet other = refl
no_news standing.Ended packet other = refl
no_news standing.Bad packet other = refl
no_news standing.Lost packet other = refl
no_news standing.More packet other = refl

-- one whose text is over
pub stays_over : (first now : InView) (read : List ℕ) (offered more : List (List ℕ)) (channel : Channel) → more ≡ [] → ChannelStands first now read offered channel → Answered first now read (offered ++ more) channel channel
stays_over first now read offered more channel none h = record {
  further = [];
  stands = subst (λ t. ChannelStands first now t (offered ++ more) channel) (sym (append-nil read))
      (subst (λ g. ChannelStands first now read g channel) (sym (ap (λ m. offered ++ m) none ∙ append-nil offered)) h);
  earlier = λ input may. subst (λ t. MayShow (lines_view channel.lines) t input) (append-nil read) may;
}

-- ---- at the end

end_so : (offered : List (List ℕ)) (view : LinesView) → StandsSo (standing_at_end view.answer) offered (given_by view.answer view.packet) view.answer
end_so offered view = go view.answer refl
  where
    go : (a : Line) → view.answer ≡ a → StandsSo (standing_at_end view.answer) offered (given_by view.answer view.packet) view.answer
    go line.Packet e = subst (λ a. StandsSo (standing_at_end a) offered (given_by a view.packet) a) (sym e) (view.packet, refl, refl)
    go line.End e = subst (λ a. StandsSo (standing_at_end a) offered (given_by a view.packet) a) (sym e) (refl, refl)
    go (line.Bad n) e = subst (λ a. StandsSo (standing_at_end a) offered (given_by a view.packet) a) (sym e) (inl (refl, tt))
    go line.Lost e = subst (λ a. StandsSo (standing_at_end a) offered (given_by a view.packet) a) (sym e) (refl, refl)

pub settled_one : (first was now : InView) (read : List ℕ) (offered : List (List ℕ)) (old new : Channel) (answer : Line) → old.standing ≡ standing.Going
    → ((first : InView) (read : List ℕ) (packets : List (List ℕ)) → LinesStand first was read packets (lines_view old.lines) → TakeStands first read packets (lines_view old.lines) (lines_view new.lines) now)
    → (lines_view new.lines).answer ≡ answer → new.standing ≡ standing_at_end answer → new.packets ≡ old.packets → ChannelStands first was read offered old → Answered first now read offered old new
settled_one first was now read offered old new answer going takes answers stands_as count h =
    let view = lines_view new.lines in
    let o = is_open old.standing offered h.beyond (lines_view old.lines).answer (inr going) h.so in
    let t = takes first read (offered ++ h.beyond) h.text in
    let s : new.standing ≡ standing_at_end view.answer = stands_as ∙ ap standing_at_end (sym answers) in
    record {
      further = t.further;
      stands = record {
        beyond = given_by view.answer view.packet;
        text = lines_on first now read offered h.beyond (lines_view old.lines) view o.none o.packet t;
        so = subst (λ s. StandsSo s offered (given_by view.answer view.packet) view.answer) (sym s) (end_so offered view);
        short = h.short;
        count = count ∙ h.count;
      };
      earlier = λ input may. may_earlier (lines_view old.lines) view read t.further input o.packet t.earlier may;
    }

-- one that is not asked at the end
pub stays_settled : (first now : InView) (read : List ℕ) (offered : List (List ℕ)) (channel : Channel) → ChannelStands first now read offered channel → Answered first now read offered channel channel
stays_settled first now read offered channel h = record {
  further = [];
  stands = subst (λ t. ChannelStands first now t offered channel) (sym (append-nil read)) h;
  earlier = λ input may. subst (λ t. MayShow (lines_view channel.lines) t input) (append-nil read) may;
}
