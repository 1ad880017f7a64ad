-- A turn of the command.
use Rattle.std.proofs.Common.{◌≡◌, ◌≢◌, ◌<◌, ◌≤◌, ◌+◌, ◌-◌, ◌*◌, ◌/◌, ℕ, zero, suc, List, [], ◌∷◌, ◌++◌, length, get_or, take, drop, refl, sym, ap, subst, ◌∙◌, add-one, length-append, arith}
use Rattle.std.specs.Prelude.{slice_index, slice_range}
use Rattle.std.specs.List.{Contains}
use Rattle.otn_base.specs.declared.line_kind.LineKind.TheVariants.{Otu2}
use Rattle.port_base.proofs.OneOutPlace.{OnlyLineOut}
use Rattle.port_base.specs.Views.{InView, OutView, BaysView, client_in_at, line_out_at, no_input}
use Rattle.tributary_line.specs.FeedTurn.{Completes, FeedStands, FeedView}
use Rattle.gfp_linear.specs.Weave.{packets_given}
use Rattle.tributary_model.specs.Carries.{sent}
use Rattle.tributary_model.specs.Puts.{lengths_of}
use Rattle.port_base.specs.PortViews.{SinkView}
use Rattle.bundle_command.specs.BundleLeft.{BundleRan, OnlyBundled, place_of}
use Rattle.bundle_command.specs.BundleStream.{first_slot, parts_of}
use Rattle.bundle_command.specs.Steps.Bundled.{CanTurn, TurnsGone}
use Rattle.bundle_command.specs.Steps.Channels.{ChannelStands, HasChannel, WeavingHas, WeavingStands}
use Rattle.bundle_command.specs.Steps.Framed.{AreReady, FramesHave, FramesStand, OnlyInputs, left_of}
use Rattle.bundle_command.specs.Steps.Settled.{IsSettled}
use Rattle.bundle_command.specs.declared.bundling.Bundling.{Bundling}
use Rattle.bundle_command.specs.declared.channel.Channel.{Channel}
use Rattle.port_base.specs.declared.ended.Ended.{Ended}
use Rattle.bundle_command.specs.declared.framing.Framing.{Framing}
use Rattle.bundle_command.specs.declared.weaving.Weaving.{Weaving}
use Rattle.bundle_command.proofs.AtEnd.{place_low}
use Rattle.bundle_command.proofs.Frames.{parts_more}
use Rattle.bundle_command.proofs.Ran.{Outcome, ran}

-- ---- where only a line output changed

same_weaving : (clients : List ℕ) (first was is : BaysView) (emitted : List ℕ) (weaving : Weaving) → is.client_in ≡ was.client_in → WeavingStands clients first was emitted weaving → WeavingStands clients first is emitted weaving
same_weaving clients first was is emitted weaving same h = record {
  read = h.read;
  at = h.at;
  has = record {
    list = h.has.list;
    woven = h.has.woven;
    going = h.has.going;
    many = h.has.many;
    end = h.has.end;
    ends = h.has.ends;
    each = λ c channel known.
        let a = h.has.each c channel known in
        record {
          stands = subst (λ v. ChannelStands (place_of clients first c) v (h.read c) (packets_given c h.at.frames) channel) (sym (ap (λ (l : List InView). get_or l (get_or clients c 0) no_input) same)) a.stands;
          client = a.client;
          unasked = a.unasked;
          untouched = λ fresh. ap (λ (l : List InView). get_or l (get_or clients c 0) no_input) same ∙ a.untouched fresh;
          asked = a.asked;
        };
    weave = h.has.weave;
    only = record { client_in = λ n none. ap (λ (l : List InView). get_or l n no_input) same ∙ h.has.only.client_in n none };
    emitted_is = h.has.emitted_is;
    end_is = h.has.end_is;
  };
  unsettled = h.unsettled;
  begun = h.begun;
  told = h.told;
}

same_frames : (clients : List ℕ) (first was is : BaysView) (due : List ℕ) (framing : Framing) → is.client_in ≡ was.client_in → FramesStand clients first was due framing → FramesStand clients first is due framing
same_frames clients first was is due framing same h = record {
  has = record {
    emitted = h.has.emitted;
    count = h.has.count;
    weaving = same_weaving clients first was is h.has.emitted framing.weaving same h.has.weaving;
    made = h.has.made;
    frames = h.has.frames;
    trace = h.has.trace;
  };
  part = h.part;
}

-- ---- before the first turn

pub only_nothing : (clients : List ℕ) (bays : BaysView) → OnlyBundled clients bays bays
only_nothing clients bays = record { line_in = refl; line_out = λ b other. refl; client_in = λ n none. refl; client_out = refl }

pub turns_begin : (clients : List ℕ) (parts : Bundling) → ((first : BaysView) → FramesStand clients first first [] parts.framing) → ((first : OutView) → FeedStands first_slot first first [] parts.feed)
    → (first : BaysView) → TurnsGone clients first first 0 parts
unfolding parts_of
turns_begin clients parts frames fed first = record {
  due = [];
  framing = frames first;
  size = refl;
  fed = fed (line_out_at first 0);
  alone = only_nothing clients first;
}

-- ---- a turn

-- 15,168 bytes of one slot complete at most 15,232 groups
completes : (turns : List (List ℕ)) (bytes : List ℕ) → length bytes ≡ 15168 → Completes first_slot turns bytes
completes turns bytes size = (let n = sent (lengths_of turns) (length turns) in let a : n / 1 ≡ n = omega arith in let b : (n + length bytes) / 1 ≡ n + length bytes = omega arith in omega (arith, a, b, size))

pub turn_gone : (clients : List ℕ) (first was mid is : BaysView) (bytes : List ℕ) (t : ℕ) (old new : Bundling) → length bytes ≡ 15168 → OnlyInputs was mid → OnlyLineOut 0 mid is
    → ((due : List ℕ) → FramesStand clients first was due old.framing → FramesStand clients first mid (due ++ bytes) new.framing)
    → ((turns : List (List ℕ)) → FeedStands first_slot (line_out_at first 0) (line_out_at mid 0) turns old.feed → Completes first_slot turns bytes
    → FeedStands first_slot (line_out_at first 0) (line_out_at is 0) (turns ++ bytes ∷ []) new.feed)
    → TurnsGone clients first was t old → TurnsGone clients first is (t + 1) new
turn_gone clients first was mid is bytes t old new size inputs output frames feeds h =
    let framed = frames h.due h.framing in
    let out : line_out_at mid 0 ≡ line_out_at was 0 = ap (λ (l : List OutView). line_out_at (record mid { line_out = l }) 0) inputs.line_out in
    record {
      due = h.due ++ bytes;
      framing = same_frames clients first mid is (h.due ++ bytes) new.framing output.client_in framed;
      size = (let l = length-append h.due bytes in let s = h.size in omega arith);
      fed = subst (λ ts. FeedStands first_slot (line_out_at first 0) (line_out_at is 0) ts new.feed) (sym (parts_more h.due bytes t h.size size))
          (feeds (parts_of h.due t) (subst (λ v. FeedStands first_slot (line_out_at first 0) v (parts_of h.due t) old.feed) (sym out) h.fed) (completes (parts_of h.due t) bytes size));
      alone = record {
        line_in = output.line_in ∙ inputs.line_in ∙ h.alone.line_in;
        line_out = λ b other. output.line_out b other ∙ ap (λ (l : List OutView). line_out_at (record mid { line_out = l }) b) inputs.line_out ∙ h.alone.line_out b other;
        client_in = λ n none. ap (λ (l : List InView). get_or l n no_input) output.client_in ∙ framed.has.weaving.has.only.client_in n none;
        client_out = output.client_out ∙ inputs.client_out ∙ h.alone.client_out;
      };
    }

pub can_turn_on : (was is : BaysView) (old new : Bundling) → ((clients : List ℕ) (first : BaysView) (t : ℕ) → TurnsGone clients first was t old → TurnsGone clients first is (t + 1) new) → CanTurn was old → CanTurn is new
can_turn_on was is old new goes h = record { clients = h.clients; first = h.first; t = h.t + 1; ready = goes h.clients h.first h.t h.ready }

pub ready_frames : (now : BaysView) (parts : Bundling) → CanTurn now parts → AreReady now parts.framing
ready_frames now parts h = record { clients = h.clients; first = h.first; due = h.ready.due; ready = h.ready.framing.has }

-- ---- behind the last turn

pub settled_places : (was is : BaysView) (parts : Bundling) (weaving : Weaving) → (r : CanTurn was parts)
    → ((clients : List ℕ) (first : BaysView) (emitted : List ℕ) → WeavingStands clients first was emitted parts.framing.weaving → IsSettled (length clients) clients first is emitted weaving)
    → (c : ℕ) (channel : Channel) → HasChannel weaving.channels.items c channel → channel.client < 16
settled_places was is parts weaving r settles =
    let has = r.ready.framing.has in
    place_low (length r.clients) r.clients r.first is has.emitted weaving (settles r.clients r.first has.emitted has.weaving)

pub finishes : (clients : List ℕ) (first was is : BaysView) (report told : SinkView) (turns : ℕ) (parts : Bundling) (weaving : Weaving) (ended : Ended) → 1 ≤ turns → turns ≤ 16384 → OnlyInputs was is
    → ((emitted : List ℕ) → WeavingStands clients first was emitted parts.framing.weaving → IsSettled (length clients) clients first is emitted weaving)
    → Outcome weaving turns is report told ended → TurnsGone clients first was turns parts → BundleRan clients turns first is report told ended × OnlyBundled clients first is
finishes clients first was is report told turns parts weaving ended some few inputs settles outcome h =
    let has = h.framing.has in
    let settled = settles has.emitted has.weaving in
    let out : line_out_at is 0 ≡ line_out_at was 0 = ap (λ (l : List OutView). line_out_at (record is { line_out = l }) 0) inputs.line_out in (
      ran clients turns first is report told h.due (left_of parts.framing) has.emitted has.count weaving parts.feed ended some few settled has.made.size has.frames h.framing.part h.size
          (subst (λ v. FeedStands first_slot (line_out_at first 0) v (parts_of h.due turns) parts.feed) (sym out) h.fed) outcome,
      record {
        line_in = inputs.line_in ∙ h.alone.line_in;
        line_out = λ b other. ap (λ (l : List OutView). line_out_at (record is { line_out = l }) b) inputs.line_out ∙ h.alone.line_out b other;
        client_in = settled.has.only.client_in;
        client_out = inputs.client_out ∙ h.alone.client_out;
      },
    )
