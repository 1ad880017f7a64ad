-- The client frames of the stream, and the turns.
use Rattle.std.proofs.Common.{◌≡◌, ◌<◌, ◌≤◌, ◌+◌, ◌-◌, ◌*◌, ◌/◌, ◌%◌, ℕ, zero, suc, List, [], ◌∷◌, ◌++◌, length, take, drop, refl, sym, ap, subst, ◌∙◌, append-nil, append_assoc, length-append, length-drop, add-one, arith}
use Rattle.std.specs.List.{concat}
use Rattle.std.proofs.Math.Seq.{take-append_seam, take-length, drop-append_seam, drop-length}
use Rattle.std.proofs.lemmas.List.{take-append-le, drop-append-le}
use Rattle.std.proofs.lemmas.Nat.{div-mul-add}
use Rattle.port_base.specs.Views.{BaysView}
use Rattle.gfp_linear.specs.Weave.{ChannelText, weave_text}
use Rattle.odu_client.specs.ClientFrames.{client_frames, frames_begun, payload_begun}
use Rattle.odu_client.specs.ClientOverhead.{HasMadeFrames, MakesFrame, OverheadState}
use Rattle.odu_client.proofs.FrameLists.{joined_next, joined_size}
use Rattle.bundle_command.specs.BundleStream.{channel_stream, parts_of}
use Rattle.bundle_command.specs.Steps.Channels.{WeavingStands}
use Rattle.bundle_command.specs.Steps.Framed.{AreReady, FramesHave, FramesStand, left_of}
use Rattle.bundle_command.specs.declared.framing.Framing.{Framing}

pub frame_made : (clients : List ℕ) (first was is : BaysView) (due payload : List ℕ) (old new : Framing) → old.at ≡ 15296 → length old.frame ≡ 15296 → new.at ≡ 0 → new.trace ≡ old.trace → length payload ≡ 15232
    → ((emitted : List ℕ) → WeavingStands clients first was emitted old.weaving → WeavingStands clients first is (emitted ++ payload) new.weaving)
    → ((count : ℕ) (emitted : List ℕ) → HasMadeFrames old.trace count emitted old.overhead → MakesFrame old.trace count emitted payload new.frame new.overhead)
    → FramesHave clients first was due old → FramesHave clients first is due new
frame_made clients first was is due payload old new at size start trace long weaves makes h =
    let m : MakesFrame [] h.count h.emitted payload new.frame new.overhead =
    subst (λ t. MakesFrame t h.count h.emitted payload new.frame new.overhead) h.trace (makes h.count h.emitted (subst (λ t. HasMadeFrames t h.count h.emitted old.overhead) (sym h.trace) h.made)) in
    let none : left_of old ≡ [] = ap (λ k. drop k old.frame) (at ∙ sym size) ∙ drop-length old.frame in
    let all : due ≡ concat (client_frames [] h.count h.emitted) = sym (append-nil due) ∙ ap (λ y. due ++ y) (sym none) ∙ h.frames in
    record {
      emitted = h.emitted ++ payload;
      count = h.count + 1;
      weaving = weaves h.emitted h.weaving;
      made = m.made;
      frames = ap (λ k. due ++ drop k new.frame) start ∙ ap (λ g. g ++ new.frame) all ∙ sym (joined_next (client_frames [] h.count h.emitted) new.frame) ∙ ap concat (sym m.frames);
      trace = trace ∙ h.trace;
    }

pub frame_gives : (clients : List ℕ) (first now : BaysView) (due bytes : List ℕ) (old new : Framing) → left_of old ≡ bytes ++ left_of new → 1 ≤ length bytes → length (left_of old) ≤ 15296
    → new.weaving ≡ old.weaving → new.overhead ≡ old.overhead → new.trace ≡ old.trace
    → FramesHave clients first now due old → FramesStand clients first now (due ++ bytes) new
frame_gives clients first now due bytes old new left some most weaving overhead trace h = record {
  has = record {
    emitted = h.emitted;
    count = h.count;
    weaving = subst (WeavingStands clients first now h.emitted) (sym weaving) h.weaving;
    made = subst (HasMadeFrames [] h.count h.emitted) (sym overhead) h.made;
    frames = append_assoc due bytes (left_of new) ∙ ap (λ y. due ++ y) (sym left) ∙ h.frames;
    trace = trace ∙ h.trace;
  };
  part = (let l = ap length left in let s = length-append bytes (left_of new) in omega arith);
}

pub frames_begin : (clients : List ℕ) (first : BaysView) (framing : Framing) → framing.at ≡ 15296 → length framing.frame ≡ 15296 → WeavingStands clients first first [] framing.weaving
    → HasMadeFrames [] 0 [] framing.overhead → framing.trace ≡ [] → FramesStand clients first first [] framing
unfolding client_frames
frames_begin clients first framing at size weaving made trace =
    let none : left_of framing ≡ [] = ap (λ k. drop k framing.frame) (at ∙ sym size) ∙ drop-length framing.frame in
    record {
      has = record { emitted = []; count = 0; weaving = weaving; made = made; frames = none; trace = trace };
      part = (let n = ap length none in omega arith);
    }

pub areready_on : (was is : BaysView) (due : List ℕ) (old new : Framing) → ((clients : List ℕ) (first : BaysView) (g : List ℕ) → FramesHave clients first was g old → FramesStand clients first is (g ++ due) new) → AreReady was old → AreReady is new
areready_on was is due old new goes h = record { clients = h.clients; first = h.first; due = h.due ++ due; ready = (goes h.clients h.first h.due h.ready).has }

-- ---- the bytes that are gone

pub begun_frames : (n count left : ℕ) → n + left ≡ 15296 * count → left < 15296 → frames_begun n ≡ count
begun_frames n count left all part =
    ap (λ k. k / 15296) (let e : n + 15295 ≡ count * 15296 + (15295 - left) = omega arith in e) ∙ div-mul-add count 15296 (15295 - left) (omega arith)

-- they are those of the stream
pub gone_is : (clients : List ℕ) (texts : List ChannelText) (due left emitted : List ℕ) (count : ℕ) → emitted ≡ weave_text clients texts (length emitted) → length emitted ≡ 15232 * count → due ++ left ≡ concat (client_frames [] count emitted)
    → length left < 15296 → due ≡ channel_stream clients texts (length due)
gone_is clients texts due left emitted count weave size frames part =
    let begun : frames_begun (length due) ≡ count =
    begun_frames (length due) count (length left) (sym (length-append due left) ∙ ap length frames ∙ joined_size [] count emitted) part in
    let payload : payload_begun (length due) ≡ length emitted = ap (λ k. 15232 * k) begun ∙ sym size in
    sym (take-append_seam due left) ∙ ap (take (length due)) frames
    ∙ ap (λ g. take (length due) (concat (client_frames [] count g))) weave
    ∙ ap (λ n. take (length due) (concat (client_frames [] count (weave_text clients texts n)))) (sym payload)
    ∙ ap (λ k. take (length due) (concat (client_frames [] k (weave_text clients texts (payload_begun (length due)))))) (sym begun)

-- ---- the parts of the turns

parts_front : (due more : List ℕ) (t : ℕ) → 15168 * t ≤ length due → parts_of (due ++ more) t ≡ parts_of due t
unfolding parts_of
parts_front due more zero enough = refl
parts_front due more (suc t) enough =
    let before = parts_front due more t (omega arith) in
    let rest : drop (15168 * t) (due ++ more) ≡ drop (15168 * t) due ++ more = drop-append-le (15168 * t) due more (omega arith) in
    let here : take 15168 (drop (15168 * t) (due ++ more)) ≡ take 15168 (drop (15168 * t) due) =
    ap (take 15168) rest ∙ take-append-le 15168 (drop (15168 * t) due) more (let l = length-drop (15168 * t) due in omega arith) in
    ap (λ ps. ps ++ take 15168 (drop (15168 * t) (due ++ more)) ∷ []) before ∙ ap (λ p. parts_of due t ++ p ∷ []) here

pub parts_more : (due bytes : List ℕ) (t : ℕ) → length due ≡ 15168 * t → length bytes ≡ 15168 → parts_of (due ++ bytes) (t + 1) ≡ parts_of due t ++ bytes ∷ []
unfolding parts_of
parts_more due bytes t size long =
    let before = parts_front due bytes t (omega arith) in
    let here : take 15168 (drop (15168 * t) (due ++ bytes)) ≡ bytes =
    ap (λ k. take 15168 (drop k (due ++ bytes))) (sym size) ∙ ap (take 15168) (drop-append_seam due bytes) ∙ ap (λ k. take k bytes) (sym long) ∙ take-length bytes in
    ap (parts_of (due ++ bytes)) (add-one t) ∙ ap (λ ps. ps ++ take 15168 (drop (15168 * t) (due ++ bytes)) ∷ []) before ∙ ap (λ p. parts_of due t ++ p ∷ []) here
