-- What arrives on channels is held for their client outputs, and counted.
use Rattle.std.proofs.Common.{◌≡◌, ◌≢◌, ◌<◌, ◌≤◌, ◌+◌, ◌-◌, ◌^◌, ℕ, zero, suc, min, Bool, true, false, cond, List, [], ◌∷◌, ◌++◌, Some, length, replicate, set, refl, sym, ap, subst, ◌∙◌, inl, inr, append_assoc, append-nil, length-append, arith}
use Rattle.std.specs.Prelude.{nat_le, slice_get}
use Rattle.std.specs.List.{filter}
use Rattle.std.proofs.lemmas.Option.{get_or_from_slice_get, slice_get_within}
use Rattle.std.proofs.lemmas.Bool.{cases_lt, eq-eqb, ne_eqb}
use Rattle.std.proofs.lemmas.Bool.Decides.{nat_tests}
use Rattle.std.proofs.lemmas.Grind.{flat_map-append}
use Rattle.std.proofs.lemmas.List.{get_or-set_same, get_or-set_other}
use Rattle.std.proofs.lemmas.List.Elements.{filter-append}
use Rattle.otn_base.specs.Counts.{saturated}
use Rattle.otn_base.specs.declared.limits.TheConstants.{CLIENTS}
use Rattle.port_base.proofs.OneOutPlace.{OnlyClientOut}
use Rattle.port_base.specs.Sent.{IsSent}
use Rattle.port_base.specs.Views.{OutView, BaysView, client_out_at}
use Rattle.port_base.proofs.SentLaws.{sent_none, sent_twice}
use Rattle.packet_text.specs.PacketText.{packet_line, hex_text}
use Rattle.gfp_linear.specs.ChannelArrivals.{ChannelArrival, PacketOn, LossOn}
use Rattle.gfp_linear.specs.Laws.{packet_on, packets_on}
use Rattle.unbundle_command.specs.Unbundled.{is_loss_on, is_of_other}
use Rattle.unbundle_command.specs.Receiving.{ChannelView, OutputsView}
use Rattle.unbundle_command.specs.Steps.Receiving.{no_channel, LinesHeld, ChannelStands, channel_at, ChannelsStand, NoneHeld, OutputsStand, OnlyClientsOut}

-- ---- the lines of one channel

text_more : (packets : List (List ℕ)) (packet : List ℕ) → hex_text (packets ++ packet ∷ []) ≡ hex_text packets ++ packet_line packet
unfolding hex_text
text_more [] packet = append-nil (packet_line packet)
text_more (p ∷ ps) packet = ap (λ t. packet_line p ++ t) (text_more ps packet) ∙ sym (append_assoc (packet_line p) (hex_text ps) (packet_line packet))

text_none : hex_text [] ≡ []
unfolding hex_text
text_none = refl

-- a packet more
pub lines_more : (first now : OutView) (packets : List (List ℕ)) (packet old new : List ℕ) → new ≡ old ++ packet_line packet → LinesHeld first now packets old → LinesHeld first now (packets ++ packet ∷ []) new
lines_more first now packets packet old new e h = record {
  due = h.due;
  sent = h.sent;
  parts = ap (λ t. h.due ++ t) e ∙ sym (append_assoc h.due old (packet_line packet)) ∙ ap (λ t. t ++ packet_line packet) h.parts ∙ sym (text_more packets packet);
  quiet = λ none. absurd (let some = length-append packets (packet ∷ []) in let no : length (packets ++ packet ∷ []) ≡ 0 = ap length none in omega arith);
}

-- all of them leave
pub lines_flushed : (first old new : OutView) (packets : List (List ℕ)) (text : List ℕ) → IsSent old text new → (length text ≡ 0 → new ≡ old) → LinesHeld first old packets text → LinesHeld first new packets []
lines_flushed first old new packets text sent empty h = record {
  due = h.due ++ text;
  sent = sent_twice first old new h.due text h.sent sent;
  parts = append-nil (h.due ++ text) ∙ h.parts;
  quiet = λ none. (let no : length (h.due ++ text) ≡ 0 = ap length (h.parts ∙ ap hex_text none ∙ text_none) in let both = length-append h.due text in empty (omega arith)) ∙ h.quiet none;
}

-- ---- one arrival

packets_more : (cid : ℕ) (arrived : List ChannelArrival) (arrival : ChannelArrival) → packets_on cid (arrived ++ arrival ∷ []) ≡ packets_on cid arrived ++ packet_on cid arrival
packets_more cid arrived arrival = flat_map-append (packet_on cid) arrived (arrival ∷ []) ∙ ap (λ ps. packets_on cid arrived ++ ps) (append-nil (packet_on cid arrival))

count_more : (f : ChannelArrival → Bool) (arrived : List ChannelArrival) (arrival : ChannelArrival) → length (filter f (arrived ++ arrival ∷ [])) ≡ length (filter f arrived) + length (filter f (arrival ∷ []))
count_more f arrived arrival = ap length (filter-append f arrived (arrival ∷ [])) ∙ length-append (filter f arrived) (filter f (arrival ∷ []))

counted_one : (f : ChannelArrival → Bool) (arrival : ChannelArrival) → f arrival ≡ true → length (filter f (arrival ∷ [])) ≡ 1
counted_one f arrival e = ap (λ b. length (cond b (arrival ∷ []) [])) e

counted_none : (f : ChannelArrival → Bool) (arrival : ChannelArrival) → f arrival ≡ false → length (filter f (arrival ∷ [])) ≡ 0
counted_none f arrival e = ap (λ b. length (cond b (arrival ∷ []) [])) e

one_more : (f : ChannelArrival → Bool) (arrived : List ChannelArrival) (arrival : ChannelArrival) → f arrival ≡ true → min (saturated (length (filter f arrived)) + 1) (2 ^ 64 - 1) ≡ saturated (length (filter f (arrived ++ arrival ∷ [])))
one_more f arrived arrival e = let both = count_more f arrived arrival in let one = counted_one f arrival e in omega arith

none_more : (f : ChannelArrival → Bool) (arrived : List ChannelArrival) (arrival : ChannelArrival) → f arrival ≡ false → saturated (length (filter f arrived)) ≡ saturated (length (filter f (arrived ++ arrival ∷ [])))
none_more f arrived arrival e = let both = count_more f arrived arrival in let none = counted_none f arrival e in omega arith

-- it is not on the channel of this CID
pub record IsOff (cid : ℕ) (arrival : ChannelArrival) : Type 0 where
  pub packet : packet_on cid arrival ≡ []
  pub loss : is_loss_on cid arrival ≡ false

packet_off : (cid other : ℕ) (packet : List ℕ) → cid ≢ other → IsOff cid (PacketOn other packet)
packet_off cid other packet distinct = record { packet = ap (λ b. cond b (packet ∷ []) []) (ne_eqb other cid (λ e. distinct (sym e))); loss = refl }

loss_off : (cid other : ℕ) → cid ≢ other → IsOff cid (LossOn other)
loss_off cid other distinct = record { packet = refl; loss = ne_eqb other cid (λ e. distinct (sym e)) }

-- then nothing changes there
channel_off : (first now : OutView) (cid : ℕ) (arrived : List ChannelArrival) (arrival : ChannelArrival) (channel : ChannelView) → IsOff cid arrival → ChannelStands first now cid arrived channel → ChannelStands first now cid (arrived ++ arrival ∷ []) channel
channel_off first now cid arrived arrival channel off h =
    let same : packets_on cid (arrived ++ arrival ∷ []) ≡ packets_on cid arrived = packets_more cid arrived arrival ∙ ap (λ ps. packets_on cid arrived ++ ps) off.packet ∙ append-nil (packets_on cid arrived) in
    record {
      lines = subst (λ ps. LinesHeld first now ps channel.text) (sym same) h.lines;
      packets = h.packets ∙ sym (ap (λ (ps : List (List ℕ)). saturated (length ps)) same);
      losses = h.losses ∙ none_more (is_loss_on cid) arrived arrival off.loss;
    }

-- a packet on it
pub channel_packet : (first old new : OutView) (cid : ℕ) (arrived : List ChannelArrival) (packet : List ℕ) (channel next : ChannelView)
    → (LinesHeld first old (packets_on cid arrived) channel.text → LinesHeld first new (packets_on cid arrived ++ packet ∷ []) next.text)
    → next.packets ≡ min (channel.packets + 1) (2 ^ 64 - 1) → next.losses ≡ channel.losses → ChannelStands first old cid arrived channel → ChannelStands first new cid (arrived ++ PacketOn cid packet ∷ []) next
channel_packet first old new cid arrived packet channel next goes e f h =
    let same : packets_on cid (arrived ++ PacketOn cid packet ∷ []) ≡ packets_on cid arrived ++ packet ∷ [] =
    packets_more cid arrived (PacketOn cid packet) ∙ ap (λ ps. packets_on cid arrived ++ ps) (ap (λ b. cond b (packet ∷ []) []) (eq-eqb cid cid refl)) in
    record {
      lines = subst (λ ps. LinesHeld first new ps next.text) (sym same) (goes h.lines);
      packets = (let count = ap length same ∙ length-append (packets_on cid arrived) (packet ∷ []) in let was = h.packets in omega arith);
      losses = f ∙ h.losses ∙ none_more (is_loss_on cid) arrived (PacketOn cid packet) refl;
    }

-- a loss of it
pub channel_loss : (first now : OutView) (cid : ℕ) (arrived : List ChannelArrival) (channel next : ChannelView)
    → next.text ≡ channel.text → next.packets ≡ channel.packets → next.losses ≡ min (channel.losses + 1) (2 ^ 64 - 1) → ChannelStands first now cid arrived channel → ChannelStands first now cid (arrived ++ LossOn cid ∷ []) next
channel_loss first now cid arrived channel next d e f h =
    let same : packets_on cid (arrived ++ LossOn cid ∷ []) ≡ packets_on cid arrived = packets_more cid arrived (LossOn cid) ∙ append-nil (packets_on cid arrived) in
    record {
      lines = subst (λ text. LinesHeld first now (packets_on cid (arrived ++ LossOn cid ∷ [])) text) (sym d) (subst (λ ps. LinesHeld first now ps channel.text) (sym same) h.lines);
      packets = e ∙ h.packets ∙ sym (ap (λ (ps : List (List ℕ)). saturated (length ps)) same);
      losses = f ∙ ap (λ n. min (n + 1) (2 ^ 64 - 1)) h.losses ∙ one_more (is_loss_on cid) arrived (LossOn cid) (eq-eqb cid cid refl);
    }

-- its lines leave
pub channel_flushed : (first old new : OutView) (cid : ℕ) (arrived : List ChannelArrival) (channel next : ChannelView)
    → (LinesHeld first old (packets_on cid arrived) channel.text → LinesHeld first new (packets_on cid arrived) next.text)
    → next.packets ≡ channel.packets → next.losses ≡ channel.losses → ChannelStands first old cid arrived channel → ChannelStands first new cid arrived next
channel_flushed first old new cid arrived channel next goes e f h = record { lines = goes h.lines; packets = e ∙ h.packets; losses = f ∙ h.losses }

-- ---- all channels

-- where one channel and its place alone change
channels_set : (first was is : BaysView) (arrived more : List ChannelArrival) (cid : ℕ) (channels : List ChannelView) (next : ChannelView) → cid < length channels → OnlyClientOut cid was is
    → ((other : ℕ) → other ≢ cid → (place now : OutView) (channel : ChannelView) → ChannelStands place now other arrived channel → ChannelStands place now other more channel)
    → (ChannelStands (client_out_at first cid) (client_out_at was cid) cid arrived (channel_at channels cid) → ChannelStands (client_out_at first cid) (client_out_at is cid) cid more next)
    → ChannelsStand first was arrived channels → ChannelsStand first is more (set channels cid next)
channels_set first was is arrived more cid channels next within only off on h = record { each = by_cid }
  where
    at_other : (d : ℕ) → d < CLIENTS → d ≢ cid → ChannelStands (client_out_at first d) (client_out_at is d) d more (channel_at (set channels cid next) d)
    at_other d low other =
        subst (λ v. ChannelStands (client_out_at first d) v d more (channel_at (set channels cid next) d)) (sym (only.client_out d other))
        (subst (λ ch. ChannelStands (client_out_at first d) (client_out_at was d) d more ch) (sym (get_or-set_other channels cid d next no_channel other))
        (off d other (client_out_at first d) (client_out_at was d) (channel_at channels d) (h.each d low)))

    here : cid < CLIENTS → ChannelStands (client_out_at first cid) (client_out_at is cid) cid more (channel_at (set channels cid next) cid)
    here low = subst (λ ch. ChannelStands (client_out_at first cid) (client_out_at is cid) cid more ch) (sym (get_or-set_same channels cid next no_channel within)) (on (h.each cid low))

    at_same : (d : ℕ) → d < CLIENTS → d ≡ cid → ChannelStands (client_out_at first d) (client_out_at is d) d more (channel_at (set channels cid next) d)
    at_same d low e = subst (λ k. ChannelStands (client_out_at first k) (client_out_at is k) k more (channel_at (set channels cid next) k)) (sym e) (here (subst (λ k. k < CLIENTS) e low))

    by_cid : (d : ℕ) → d < CLIENTS → ChannelStands (client_out_at first d) (client_out_at is d) d more (channel_at (set channels cid next) d)
    by_cid d low = elim (cases_lt d cid) [
      | inl less ↦ at_other d low (λ e. omega arith)
      | inr least ↦ elim (cases_lt cid d) [
        | inl above ↦ at_other d low (λ e. omega arith)
        | inr most ↦ at_same d low (omega arith)
      ]
    ]

pub packet_put : (first was is : BaysView) (arrived : List ChannelArrival) (cid : ℕ) (packet : List ℕ) (channels : List ChannelView) (channel next : ChannelView) (old new : OutView) → slice_get channels cid ≡ Some channel
    → OnlyClientOut cid was is → client_out_at was cid ≡ old → client_out_at is cid ≡ new
    → ((place : OutView) (packets : List (List ℕ)) → LinesHeld place old packets channel.text → LinesHeld place new (packets ++ packet ∷ []) next.text)
    → next.packets ≡ min (channel.packets + 1) (2 ^ 64 - 1) → next.losses ≡ channel.losses
    → ChannelsStand first was arrived channels → ChannelsStand first is (arrived ++ PacketOn cid packet ∷ []) (set channels cid next)
packet_put first was is arrived cid packet channels channel next old new got only a b goes e f h =
    channels_set first was is arrived (arrived ++ PacketOn cid packet ∷ []) cid channels next (slice_get_within channels cid channel got) only
    (λ other distinct place now view k. channel_off place now other arrived (PacketOn cid packet) view (packet_off other cid packet distinct) k)
    (λ k. subst (λ v. ChannelStands (client_out_at first cid) v cid (arrived ++ PacketOn cid packet ∷ []) next) (sym b)
    (channel_packet (client_out_at first cid) old new cid arrived packet channel next (goes (client_out_at first cid) (packets_on cid arrived)) e f
    (subst (λ v. ChannelStands (client_out_at first cid) v cid arrived channel) a
    (subst (λ ch. ChannelStands (client_out_at first cid) (client_out_at was cid) cid arrived ch) (get_or_from_slice_get channels cid channel no_channel got) k)))) h

pub only_none : (cid : ℕ) (bays : BaysView) → OnlyClientOut cid bays bays
only_none cid bays = record { line_in = refl; line_out = refl; client_in = refl; client_out = λ m other. refl }

pub loss_put : (first now : BaysView) (arrived : List ChannelArrival) (cid : ℕ) (channels : List ChannelView) (channel next : ChannelView) → slice_get channels cid ≡ Some channel
    → next.text ≡ channel.text → next.packets ≡ channel.packets → next.losses ≡ min (channel.losses + 1) (2 ^ 64 - 1)
    → ChannelsStand first now arrived channels → ChannelsStand first now (arrived ++ LossOn cid ∷ []) (set channels cid next)
loss_put first now arrived cid channels channel next got d e f h =
    channels_set first now now arrived (arrived ++ LossOn cid ∷ []) cid channels next (slice_get_within channels cid channel got) (only_none cid now)
    (λ other distinct place out view k. channel_off place out other arrived (LossOn cid) view (loss_off other cid distinct) k)
    (λ k. channel_loss (client_out_at first cid) (client_out_at now cid) cid arrived channel next d e f
    (subst (λ ch. ChannelStands (client_out_at first cid) (client_out_at now cid) cid arrived ch) (get_or_from_slice_get channels cid channel no_channel got) k)) h

pub one_flushed : (first was is : BaysView) (arrived : List ChannelArrival) (cid : ℕ) (channels : List ChannelView) (channel next : ChannelView) (old new : OutView) → slice_get channels cid ≡ Some channel
    → OnlyClientOut cid was is → client_out_at was cid ≡ old → client_out_at is cid ≡ new
    → ((place : OutView) (packets : List (List ℕ)) → LinesHeld place old packets channel.text → LinesHeld place new packets next.text)
    → next.packets ≡ channel.packets → next.losses ≡ channel.losses → ChannelsStand first was arrived channels → ChannelsStand first is arrived (set channels cid next)
one_flushed first was is arrived cid channels channel next old new got only a b goes e f h =
    channels_set first was is arrived arrived cid channels next (slice_get_within channels cid channel got) only
    (λ other distinct place now view k. k)
    (λ k. subst (λ v. ChannelStands (client_out_at first cid) v cid arrived next) (sym b)
    (channel_flushed (client_out_at first cid) old new cid arrived channel next (goes (client_out_at first cid) (packets_on cid arrived)) e f
    (subst (λ v. ChannelStands (client_out_at first cid) v cid arrived channel) a
    (subst (λ ch. ChannelStands (client_out_at first cid) (client_out_at was cid) cid arrived ch) (get_or_from_slice_get channels cid channel no_channel got) k)))) h

-- one channel more holds no line
pub none_held : (cid : ℕ) (channels : List ChannelView) (channel next : ChannelView) → slice_get channels cid ≡ Some channel → next.text ≡ [] → NoneHeld cid channels → NoneHeld (cid + 1) (set channels cid next)
none_held cid channels channel next got none h = record { each = by_cid }
  where
    by_cid : (d : ℕ) → d < cid + 1 → (channel_at (set channels cid next) d).text ≡ []
    by_cid d low = elim (cases_lt d cid) [
      | inl less ↦ ap (λ (ch : ChannelView). ch.text) (get_or-set_other channels cid d next no_channel (λ e. omega arith)) ∙ h.each d less
      | inr least ↦
          let e : d ≡ cid = omega arith in
          ap (λ k. (channel_at (set channels cid next) k).text) e ∙ ap (λ (ch : ChannelView). ch.text) (get_or-set_same channels cid next no_channel (slice_get_within channels cid channel got)) ∙ none
    ]

-- ---- the outputs

-- nothing has arrived
none_at : (count cid : ℕ) → channel_at (replicate count no_channel) cid ≡ no_channel
none_at zero cid = refl
none_at (suc count) zero = refl
none_at (suc count) (suc cid) = none_at count cid

channel_none : (first : OutView) (cid : ℕ) → ChannelStands first first cid [] no_channel
channel_none first cid = record {
  lines = record { due = []; sent = sent_none first; parts = sym text_none; quiet = λ none. refl };
  packets = refl;
  losses = refl;
}

pub outputs_none : (first : BaysView) (channels : List ChannelView) → channels ≡ replicate CLIENTS no_channel → OutputsStand first first [] (record { channels = channels; other = 0 })
outputs_none first channels e = record {
  channels = record { each = λ cid low. subst (λ ch. ChannelStands (client_out_at first cid) (client_out_at first cid) cid [] ch) (sym (ap (λ chs. channel_at chs cid) e ∙ none_at CLIENTS cid)) (channel_none (client_out_at first cid) cid) };
  other = refl;
}

is_other : (cid : ℕ) → CLIENTS ≤ cid → nat_le CLIENTS cid ≡ true
is_other cid high = grind (arith, nat_tests)

is_not_other : (cid : ℕ) → cid < CLIENTS → nat_le CLIENTS cid ≡ false
is_not_other cid low = grind (arith, nat_tests)

-- an arrival on a channel without an output
pub other_packet : (first now : BaysView) (arrived : List ChannelArrival) (cid : ℕ) (packet : List ℕ) (old : OutputsView) (other : ℕ) → CLIENTS ≤ cid → other ≡ min (old.other + 1) (2 ^ 64 - 1)
    → OutputsStand first now arrived old → OutputsStand first now (arrived ++ PacketOn cid packet ∷ []) (record { channels = old.channels; other = other })
other_packet first now arrived cid packet old other high e h = record {
  channels = record { each = λ d low. channel_off (client_out_at first d) (client_out_at now d) d arrived (PacketOn cid packet) (channel_at old.channels d) (packet_off d cid packet (λ e. omega arith)) (h.channels.each d low) };
  other = e ∙ ap (λ n. min (n + 1) (2 ^ 64 - 1)) h.other ∙ one_more is_of_other arrived (PacketOn cid packet) (is_other cid high);
}

pub other_loss : (first now : BaysView) (arrived : List ChannelArrival) (cid : ℕ) (old : OutputsView) (other : ℕ) → CLIENTS ≤ cid → other ≡ min (old.other + 1) (2 ^ 64 - 1)
    → OutputsStand first now arrived old → OutputsStand first now (arrived ++ LossOn cid ∷ []) (record { channels = old.channels; other = other })
other_loss first now arrived cid old other high e h = record {
  channels = record { each = λ d low. channel_off (client_out_at first d) (client_out_at now d) d arrived (LossOn cid) (channel_at old.channels d) (loss_off d cid (λ e. omega arith)) (h.channels.each d low) };
  other = e ∙ ap (λ n. min (n + 1) (2 ^ 64 - 1)) h.other ∙ one_more is_of_other arrived (LossOn cid) (is_other cid high);
}

-- on one with an output
pub own_packet : (first was is : BaysView) (arrived : List ChannelArrival) (cid : ℕ) (packet : List ℕ) (old : OutputsView) (channels : List ChannelView) → cid < CLIENTS
    → (ChannelsStand first was arrived old.channels → ChannelsStand first is (arrived ++ PacketOn cid packet ∷ []) channels)
    → OutputsStand first was arrived old → OutputsStand first is (arrived ++ PacketOn cid packet ∷ []) (record { channels = channels; other = old.other })
own_packet first was is arrived cid packet old channels low goes h = record { channels = goes h.channels; other = h.other ∙ none_more is_of_other arrived (PacketOn cid packet) (is_not_other cid low) }

pub own_loss : (first now : BaysView) (arrived : List ChannelArrival) (cid : ℕ) (old : OutputsView) (channels : List ChannelView) → cid < CLIENTS
    → (ChannelsStand first now arrived old.channels → ChannelsStand first now (arrived ++ LossOn cid ∷ []) channels)
    → OutputsStand first now arrived old → OutputsStand first now (arrived ++ LossOn cid ∷ []) (record { channels = channels; other = old.other })
own_loss first now arrived cid old channels low goes h = record { channels = goes h.channels; other = h.other ∙ none_more is_of_other arrived (LossOn cid) (is_not_other cid low) }

-- ---- the other places

pub clients_none : (bays : BaysView) → OnlyClientsOut bays bays
clients_none bays = record { line_in = refl; line_out = refl; client_in = refl }

pub clients_one : (cid : ℕ) (was is : BaysView) → OnlyClientOut cid was is → OnlyClientsOut was is
clients_one cid was is h = record { line_in = h.line_in; line_out = h.line_out; client_in = h.client_in }

pub clients_twice : (was mid is : BaysView) → OnlyClientsOut was mid → OnlyClientsOut mid is → OnlyClientsOut was is
clients_twice was mid is h k = record { line_in = k.line_in ∙ h.line_in; line_out = k.line_out ∙ h.line_out; client_in = k.client_in ∙ h.client_in }
