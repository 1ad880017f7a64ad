-- The report of the command.
use Rattle.std.proofs.Common.{◌≡◌, ◌<◌, ◌≤◌, ℕ, ◌+◌, ◌-◌, ◌^◌, List, [], ◌++◌, length, sym, ap, ◌∙◌, append_assoc, add-one}
use Rattle.otn_base.specs.declared.limits.TheConstants.{CLIENTS}
use Rattle.port_base.specs.Views.{BaysView}
use Rattle.gfp_linear.specs.ChannelArrivals.{ChannelArrival}
use Rattle.unbundle_command.specs.Unbundled.{is_loss_on, is_of_other, packet_count, loss_count, other_count, channel_line, channel_lines, other_text, report_text}
use Rattle.unbundle_command.specs.Receiving.{ChannelView, OutputsView}
use Rattle.unbundle_command.specs.Steps.Receiving.{channel_at, OutputsStand}
use Rattle.unbundle_command.proofs.Few.{packets_few, filter_few, told_exactly}
use Rattle.unbundle_command.proofs.Turns.{flat_more}

-- the line of one channel more
pub line_more : (first now : BaysView) (arrived : List ChannelArrival) (outputs : OutputsView) (cid : ℕ) (channel : ChannelView) (start was is : List ℕ) → OutputsStand first now arrived outputs → length arrived ≤ 2 ^ 64 - 1 → cid < CLIENTS
    → channel ≡ channel_at outputs.channels cid → was ≡ start ++ channel_lines arrived cid → is ≡ was ++ channel_line cid channel.packets channel.losses → is ≡ start ++ channel_lines arrived (cid + 1)
line_more first now arrived outputs cid channel start was is h few low same so_far step =
    let own : ℕ → List ℕ = λ k. channel_line k (packet_count k arrived) (loss_count k arrived) in
    let stands = h.channels.each cid low in
    let line : channel_line cid channel.packets channel.losses ≡ own cid =
    ap (λ (ch : ChannelView). channel_line cid ch.packets ch.losses) same ∙ ap (λ n. channel_line cid n (channel_at outputs.channels cid).losses) (stands.packets ∙ told_exactly (packet_count cid arrived) (length arrived) (packets_few cid arrived) few) ∙ ap (λ n. channel_line cid (packet_count cid arrived) n) (stands.losses ∙ told_exactly (loss_count cid arrived) (length arrived) (filter_few (is_loss_on cid) arrived) few) in
    step ∙ ap (λ xs. xs ++ channel_line cid channel.packets channel.losses) so_far ∙ append_assoc start (channel_lines arrived cid) (channel_line cid channel.packets channel.losses)
    ∙ ap (λ xs. start ++ xs) (ap (λ xs. channel_lines arrived cid ++ xs) line ∙ sym (ap (channel_lines arrived) (add-one cid) ∙ flat_more own cid))

-- the whole of it
pub whole_report : (first now : BaysView) (arrived : List ChannelArrival) (outputs : OutputsView) (start lines last : List ℕ) (other : ℕ) → OutputsStand first now arrived outputs → length arrived ≤ 2 ^ 64 - 1 → start ≡ [] → lines ≡ start ++ channel_lines arrived CLIENTS
    → other ≡ outputs.other → last ≡ lines ++ other_text other → last ≡ report_text arrived
unfolding report_text
whole_report first now arrived outputs start lines last other h few none so_far same step =
    step ∙ ap (λ xs. xs ++ other_text other) (so_far ∙ ap (λ xs. xs ++ channel_lines arrived CLIENTS) none) ∙ ap (λ n. channel_lines arrived CLIENTS ++ other_text n) (same ∙ h.other ∙ told_exactly (other_count arrived) (length arrived) (filter_few is_of_other arrived) few)
