-- Channels are asked once more at the end.
use Rattle.std.proofs.Common.{◌≡◌, ◌≢◌, ◌⊎◌, inl, inr, ◌<◌, ◌≤◌, ◌+◌, ◌-◌, ℕ, suc, List, [], ◌∷◌, ◌++◌, Some, length, set, get_or, refl, sym, ap, subst, ◌∙◌, append-nil, arith}
use Rattle.std.specs.Prelude.{slice_get}
use Rattle.std.proofs.lemmas.Option.{same_Some, slice_get_within}
use Rattle.port_base.specs.Views.{InView, BaysView, client_in_at}
use Rattle.packet_text.specs.LinesStand.{lines_view}
use Rattle.gfp_linear.specs.Weave.{packets_given}
use Rattle.gfp_linear.specs.Weaver.{IsWeave}
use Rattle.odu_client.specs.ClientInput.{ClientInput}
use Rattle.bundle_command.specs.ChannelInput.{texts_of}
use Rattle.bundle_command.specs.BundleLeft.{place_of}
use Rattle.bundle_command.specs.Steps.Channels.{Answered, ChannelAt, ChannelStands, HasChannel, IsUnasked, MayShow, MayShowAll, WeavingHas, WeavingStands}
use Rattle.bundle_command.specs.Steps.Settled.{ChannelSettled, IsSettled}
use Rattle.bundle_command.specs.declared.channel.Channel.{Channel}
use Rattle.bundle_command.specs.declared.channel.Standing.TheVariants as standing
use Rattle.bundle_command.specs.declared.weaving.Weaving.{Weaving}
use Rattle.bundle_command.proofs.Asked.{set_at, set_beside, set_many, which, taken_on, taken_here, taken_there, list_here, list_there, other_place, only_on}

pub none_settled : (clients : List ℕ) (first now : BaysView) (emitted : List ℕ) (weaving : Weaving) → WeavingStands clients first now emitted weaving → IsSettled 0 clients first now emitted weaving
none_settled clients first now emitted weaving h = record { read = h.read; at = h.at; has = h.has; over = λ c channel known less. absurd (omega arith); begun = h.begun; told = h.told }

pub settles : (clients : List ℕ) (first was is : BaysView) (emitted : List ℕ) (old new : Weaving) (index : ℕ) → new.maker ≡ old.maker → new.emitted ≡ old.emitted → new.end ≡ old.end
    → ChannelSettled index was old.channels.items is new.channels.items → IsSettled index clients first was emitted old → IsSettled (suc index) clients first is emitted new
settles clients first was is emitted old new index maker_same given_same end_same asked h =
    record {
      read = later;
      at = h.at;
      has = record {
        list = h.has.list;
        woven = rw maker_same h.has.woven;
        going = h.has.going;
        many = ap length asked.channels ∙ set_many old.channels.items index asked.next ∙ h.has.many;
        end = h.has.end;
        ends = h.has.ends;
        each = λ c channel known. each c channel known (which c index);
        weave = λ inputs may. h.has.weave inputs (earlier inputs may);
        only = only_on clients first was is asked.channel.client index h.has.only asked.only here_at.client here;
        emitted_is = given_same ∙ h.has.emitted_is;
        end_is = end_same ∙ h.has.end_is;
      };
      over = λ c channel known less. over c channel known less (which c index);
      begun = h.begun;
      told = h.told;
    }
  where
    within : index < length old.channels.items
    within = slice_get_within old.channels.items index asked.channel asked.known

    here : index < length clients
    here = (let many = h.has.many in let less = slice_get_within old.channels.items index asked.channel asked.known in omega arith)

    here_at : ChannelAt clients first was (h.read index) h.at h.has.end index asked.channel
    here_at = h.has.each index asked.channel asked.known

    answered : Answered (place_of clients first index) (client_in_at is asked.channel.client) (h.read index) (packets_given index h.at.frames) asked.channel asked.next
    answered = asked.settled (place_of clients first index) (h.read index) (packets_given index h.at.frames)
        (subst (λ k. ChannelStands (place_of clients first index) (client_in_at was k) (h.read index) (packets_given index h.at.frames) asked.channel) (sym (h.has.each index asked.channel asked.known).client)
        (h.has.each index asked.channel asked.known).stands)

    later : ℕ → List ℕ
    later = taken_on h.read index answered.further

    each_here : ChannelAt clients first is (later index) h.at h.has.end index asked.next
    each_here = record {
      stands = subst (λ t. ChannelStands (place_of clients first index) (place_of clients is index) t (packets_given index h.at.frames) asked.next) (sym (taken_here h.read index answered.further))
          (subst (λ k. ChannelStands (place_of clients first index) (client_in_at is k) (h.read index ++ answered.further) (packets_given index h.at.frames) asked.next) here_at.client answered.stands);
      client = asked.client ∙ here_at.client;
      unasked = λ fresh. here_at.unasked (asked.fresh fresh);
      untouched = λ fresh. ap (client_in_at is) (sym here_at.client) ∙ asked.still fresh ∙ ap (client_in_at was) here_at.client ∙ here_at.untouched (asked.fresh fresh);
      asked = λ other. here_at.asked (λ fresh. other (asked.stays fresh));
    }

    each : (c : ℕ) (channel : Channel) → HasChannel new.channels.items c channel → (c ≡ index) ⊎ (c ≢ index) → ChannelAt clients first is (later c) h.at h.has.end c channel
    each c channel known (inl same) =
        let P : ℕ → Channel → Type 0 = λ c ch. ChannelAt clients first is (later c) h.at h.has.end c ch in
        let is_next : asked.next ≡ channel = list_here old.channels.items new.channels.items index asked.next channel asked.channels within (subst (λ k. HasChannel new.channels.items k channel) same known) in
        subst (λ k. P k channel) (sym same) (subst (P index) is_next each_here)
    each c channel known (inr differ) =
        let before = list_there old.channels.items new.channels.items index c asked.next channel asked.channels differ known in
        let there : c < length clients = (let many = h.has.many in let less = slice_get_within old.channels.items c channel before in omega arith) in
        let was_at = h.has.each c channel before in
        record {
          stands = subst (λ t. ChannelStands (place_of clients first c) (place_of clients is c) t (packets_given c h.at.frames) channel) (sym (taken_there h.read index c answered.further differ))
              (subst (λ v. ChannelStands (place_of clients first c) v (h.read c) (packets_given c h.at.frames) channel) (sym (other_place clients was is asked.channel.client index c h.has.list asked.only here_at.client here there differ)) was_at.stands);
          client = was_at.client;
          unasked = was_at.unasked;
          untouched = λ fresh. other_place clients was is asked.channel.client index c h.has.list asked.only here_at.client here there differ ∙ was_at.untouched fresh;
          asked = was_at.asked;
        }

    over : (c : ℕ) (channel : Channel) → HasChannel new.channels.items c channel → c < suc index → (c ≡ index) ⊎ (c ≢ index) → channel.standing ≢ standing.Going
    over c channel known less (inl same) going =
        let is_next : asked.next ≡ channel = list_here old.channels.items new.channels.items index asked.next channel asked.channels within (subst (λ k. HasChannel new.channels.items k channel) same known) in
        asked.over (ap (λ (ch : Channel). ch.standing) is_next ∙ going)
    over c channel known less (inr differ) going =
        h.over c channel (list_there old.channels.items new.channels.items index c asked.next channel asked.channels differ known) (omega (arith, less, differ)) going

    earlier : (inputs : ℕ → ClientInput) → MayShowAll new.channels.items later inputs → MayShowAll old.channels.items h.read inputs
    earlier inputs may c channel known = go (which c index)
      where
        may_here : MayShow (lines_view asked.next.lines) (h.read index ++ answered.further) (inputs index)
        may_here = subst (λ t. MayShow (lines_view asked.next.lines) t (inputs index)) (taken_here h.read index answered.further)
            (may index asked.next (ap (λ cs. slice_get cs index) asked.channels ∙ set_at old.channels.items index asked.next within))

        go : (c ≡ index) ⊎ (c ≢ index) → MayShow (lines_view channel.lines) (h.read c) (inputs c)
        go (inl same) =
            let is_old : asked.channel ≡ channel = same_Some asked.channel channel (sym asked.known ∙ subst (λ k. HasChannel old.channels.items k channel) same known) in
            subst (λ k. MayShow (lines_view channel.lines) (h.read k) (inputs k)) (sym same)
            (subst (λ (ch : Channel). MayShow (lines_view ch.lines) (h.read index) (inputs index)) is_old (answered.earlier (inputs index) may_here))
        go (inr differ) =
            subst (λ t. MayShow (lines_view channel.lines) t (inputs c)) (taken_there h.read index c answered.further differ)
            (may c channel (ap (λ cs. slice_get cs c) asked.channels ∙ set_beside old.channels.items index c asked.next differ ∙ known))

-- the number of a channel's client is that of a place
pub place_low : (count : ℕ) (clients : List ℕ) (first now : BaysView) (emitted : List ℕ) (weaving : Weaving) → IsSettled count clients first now emitted weaving → (c : ℕ) (channel : Channel) → HasChannel weaving.channels.items c channel → channel.client < 16
place_low count clients first now emitted weaving h c channel at =
    let here : c < length clients = (let many = h.has.many in let less = slice_get_within weaving.channels.items c channel at in omega arith) in
    subst (λ n. n < 16) (sym (h.has.each c channel at).client) (h.has.list.places c here)
