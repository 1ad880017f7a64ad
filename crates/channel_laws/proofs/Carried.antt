-- The packets of a text are such as a channel can carry.
use Rattle.std.proofs.Common.{◌≡◌, ◌≤◌, ◌+◌, ℕ, Bool, true, false, cond, All, List, [], ◌∷◌, ◌++◌, Option, Some, None, length, sym, subst, arith, refl}
use Rattle.std.specs.List.{take_while}
use Rattle.std.proofs.lemmas.List.Elements.{All-cons, All-head, All-nil, All-tail}
use Rattle.std.proofs.lemmas.List.Sums.{take_while-cons}
use Rattle.packet_text.specs.PacketText.{Packets, line_gives, packets_behind, packets_of, with_line}
use Rattle.packet_text.specs.TextLines.{lines_of, text_of_dead}
use Rattle.bundle_command.specs.ChannelInput.{is_short}
use Rattle.bundle_command.proofs.BundleEnds.{is_le}
use Rattle.channel_laws.specs.ComesOut.{AreInputsCarried}

abbrev HaveSome : List (List ℕ) → Type 0
HaveSome = All (λ packet. 1 ≤ length packet)

abbrev FitChannels : List (List ℕ) → Type 0
FitChannels = All (λ packet. (1 ≤ length packet) × (length packet ≤ 65523))

line_some : (n : ℕ) (o : Option (List ℕ)) (later : Packets) → HaveSome later.packets → HaveSome (with_line n o later).packets
line_some n None later h = All-nil (λ packet. 1 ≤ length packet)
line_some n (Some []) later h = h
line_some n (Some (x ∷ xs)) later h = All-cons (λ packet. 1 ≤ length packet) (x ∷ xs) later.packets (omega arith) h

some_packets : (before lines : List (List ℕ)) → HaveSome (packets_behind before lines).packets
unfolding packets_behind
some_packets before [] = All-nil (λ packet. 1 ≤ length packet)
some_packets before (line ∷ lines) =
    line_some (length before + 1) (line_gives before line) (packets_behind (before ++ line ∷ []) lines) (some_packets (before ++ line ∷ []) lines)

fit_channels : (packets : List (List ℕ)) → HaveSome packets → FitChannels (take_while is_short packets)
fit_channels [] h = All-nil (λ packet. (1 ≤ length packet) × (length packet ≤ 65523))
fit_channels (x ∷ xs) h =
    subst FitChannels (sym (take_while-cons is_short x xs))
    (by (is_short x) refl (fit_channels xs (All-tail (λ packet. 1 ≤ length packet) x xs h)))
  where
    by : (b : Bool) → is_short x ≡ b → FitChannels (take_while is_short xs) → FitChannels (cond b (x ∷ take_while is_short xs) [])
    by true e rest =
        All-cons (λ packet. (1 ≤ length packet) × (length packet ≤ 65523)) x (take_while is_short xs) (All-head (λ packet. 1 ≤ length packet) x xs h, is_le (length x) 65523 e) rest
    by false e rest = All-nil (λ packet. (1 ≤ length packet) × (length packet ≤ 65523))

text_carried : (text : List ℕ) → FitChannels (take_while is_short (packets_of text).packets)
unfolding packets_of
text_carried text = fit_channels (packets_of text).packets (some_packets [] (lines_of text))

pub inputs_are_carried : AreInputsCarried
inputs_are_carried died available = text_carried (cond died (text_of_dead available) available)
