-- The steps of a framer.
use Rattle.std.proofs.Common.{◌≡◌, ◌≢◌, ◌<◌, ◌≤◌, ◌+◌, ◌*◌, ◌%◌, ℕ, Bool, true, false, List, [], ◌∷◌, ◌++◌, length, drop, Option, None, arith, refl, sym, ap, subst, ◌∙◌, append_assoc, append-nil, length-append, length-drop}
use Rattle.std.specs.List.{concat}
use Rattle.packet_text.proofs.StandingLines.{fresh_stands as fresh_lines_stand}
use Rattle.port_base.specs.Views.{InView}
use Rattle.frame_overhead.specs.TwoBefore.{Kept, HasSent, parity_due, or_zero}
use Rattle.gfp_frames.specs.GfpText.{stream_frames, text_of}
use Rattle.packet_text.specs.LinesStand.{LinesView, LinesStand, fresh_lines}
use Rattle.packet_text.specs.declared.line.Line.TheVariants as line
use Rattle.odu_client.specs.ClientFrames.{client_frame, client_frames}
use Rattle.odu_client.specs.ClientInput.{gfp_length}
use Rattle.odu_client.specs.Framing.{StreamState, FramerState, StreamMade, Framed, ClientStands}
use Rattle.odu_client.specs.Steps.Framing.{StreamGoes, StreamsBy}
use Rattle.odu_client.specs.PacketStream.{fresh_stream}
use Rattle.odu_client.specs.FramerSteps.{fresh_framer}
use Rattle.odu_client.specs.Steps.FramerSteps.{FramedSome, Makes, Gives}
use Rattle.odu_client.proofs.GfpTexts.{longer}
use Rattle.odu_client.proofs.Streaming.{fresh_stands}
use Rattle.odu_client.proofs.FrameLists.{frames_next, joined_next}

-- ---- at the start

pub fresh_framed : (sapi : List ℕ) (fcs : Bool) → Framed [] [] 0 [] (fresh_framer sapi fcs)
unfolding client_frames
fresh_framed sapi fcs = record {
  stream = fresh_stands fcs;
  size = refl;
  path = record { last = refl; before = refl };
  mfas = refl;
  frames = refl;
  fresh = λ other. absurd (other refl);
  late = λ other. absurd (other refl);
}

pub fresh_client : (first : InView) (sapi : List ℕ) (fcs : Bool) → LinesStand first first [] [] fresh_lines → ClientStands first first [] [] fresh_lines (fresh_framer sapi fcs)
fresh_client first sapi fcs lines = record { packets = []; payload = []; text = record { stands = lines; answer = refl }; framed = fresh_framed sapi fcs }

-- ---- a frame more

-- what was payload is no longer than the packets' frames, while there may be packets
pub within_packets : (packets : List (List ℕ)) (payload : List ℕ) (s : StreamState) → StreamMade packets payload s → s.answer ≡ line.Packet → length payload ≤ gfp_length packets s.fcs
unfolding gfp_length
within_packets packets payload s h going =
    let t : payload ++ s.maker.hand ≡ text_of (stream_frames packets s.fcs 0) = h.made.text ∙ ap (λ k. text_of (stream_frames packets s.fcs k)) (h.going going) in
    let n = ap length t in
    let a = length-append payload s.maker.hand in
    omega arith

pub frame_made : (first now : InView) (read emitted : List ℕ) (packets : List (List ℕ)) (payload added : List ℕ) (count : ℕ) (lines next : LinesView) (old new : FramerState)
    → old.stream.answer ≡ lines.answer → Framed packets payload count emitted old → old.left ≡ [] → length added ≡ 15232
    → (g : StreamGoes first now read (payload ++ added) packets lines next old.stream.fcs new.stream)
    → new.left ≡ client_frame old.sapi old.mfas (or_zero (parity_due 3824 (client_frames old.sapi count payload))) added
    → HasSent 3824 (client_frames old.sapi count payload ++ new.left ∷ []) new.path
    → new.sapi ≡ old.sapi → new.mfas ≡ (old.mfas + 1) % 256 → (new.fresh ≡ true → old.stream.answer ≡ line.Packet) → (new.fresh ≡ false → old.stream.answer ≢ line.Packet)
    → Framed (packets ++ g.goes.more) (payload ++ added) (count + 1) emitted new
frame_made first now read emitted packets payload added count lines next old new answers h none size g left sent sapi mfas fresh late = record {
  stream = g.made;
  size = all;
  path = (let P : List (List ℕ) → Type 0 = λ fs. HasSent 3824 fs new.path in subst P (sym frames) sent);
  mfas = mfas ∙ (let e = h.mfas in omega arith);
  frames = ap (λ y. y ++ new.left) (sym (append-nil emitted) ∙ ap (λ y. emitted ++ y) (sym none) ∙ h.frames) ∙ sym (joined_next (client_frames old.sapi count payload) new.left) ∙ ap concat (sym frames);
  fresh = λ over e. (let going = fresh e in
      let a = within_packets packets payload old.stream h.stream going in
      let b = longer packets g.goes.more old.stream.fcs in
      let c : gfp_length (packets ++ g.goes.more) new.stream.fcs ≡ gfp_length (packets ++ g.goes.more) old.stream.fcs = ap (gfp_length (packets ++ g.goes.more)) g.goes.same in
      let d = h.size in omega arith);
  late = λ over e. (let ended = late e in
      let a = h.stream.seen ended in
      let b = (g.goes.still (λ f. ended (answers ∙ f))).0 in
      let c : gfp_length (packets ++ g.goes.more) new.stream.fcs ≡ gfp_length packets old.stream.fcs = ap (λ m. gfp_length (packets ++ m) new.stream.fcs) b ∙ ap (λ ps. gfp_length ps new.stream.fcs) (append-nil packets) ∙ ap (gfp_length packets) g.goes.same in
      let d = h.size in omega arith);
}
  where
    all : length (payload ++ added) ≡ 15232 * (count + 1)
    all = (let a = length-append payload added in let b = h.size in omega arith)

    frames : client_frames new.sapi (count + 1) (payload ++ added) ≡ client_frames old.sapi count payload ++ new.left ∷ []
    frames = ap (λ i. client_frames i (count + 1) (payload ++ added)) sapi ∙ frames_next old.sapi count payload added h.size size
        ∙ ap (λ f. client_frames old.sapi count payload ++ f ∷ []) (ap (λ m. client_frame old.sapi m (or_zero (parity_due 3824 (client_frames old.sapi count payload))) added) (sym h.mfas) ∙ sym left)

-- a framer that made a frame
pub makes_frame : (first was now : InView) (read emitted : List ℕ) (added : List ℕ) (lines next : LinesView) (old new : FramerState) → old.left ≡ [] → length added ≡ 15232
    → StreamsBy was now added lines next old.stream new.stream
    → ((fs : List (List ℕ)) → HasSent 3824 fs old.path → (new.left ≡ client_frame old.sapi old.mfas (or_zero (parity_due 3824 fs)) added) × HasSent 3824 (fs ++ new.left ∷ []) new.path)
    → new.sapi ≡ old.sapi → new.mfas ≡ (old.mfas + 1) % 256 → (new.fresh ≡ true → old.stream.answer ≡ line.Packet) → (new.fresh ≡ false → old.stream.answer ≢ line.Packet)
    → FramedSome first was read emitted lines old → Makes first now read emitted lines next old new
makes_frame first was now read emitted added lines next old new none size step frame sapi mfas fresh late h =
    let g = step first read h.payload h.packets h.text h.framed.stream in
    let f = frame (client_frames old.sapi h.count h.payload) h.framed.path in
    record {
      further = g.goes.further;
      stands = record {
        packets = h.packets ++ g.goes.more;
        payload = h.payload ++ added;
        count = h.count + 1;
        text = g.goes.text;
        framed = frame_made first now read emitted h.packets h.payload added h.count lines next old new h.text.answer h.framed none size g f.0 f.1 sapi mfas fresh late;
      };
      earlier = g.goes.earlier;
      sapi = sapi;
      fcs = g.goes.same;
    }

-- no frame is to be made
pub makes_none : (first now : InView) (read emitted : List ℕ) (lines : LinesView) (f : FramerState) → FramedSome first now read emitted lines f → Makes first now read emitted lines lines f f
makes_none first now read emitted lines f h = record {
  further = [];
  stands = rw (append-nil read) h;
  earlier = λ text may. rw (append-nil read) at may;
  sapi = refl;
  fcs = refl;
}

-- bytes of the frame in hand are emitted
with_left : FramerState → List ℕ → FramerState
with_left f left = record f { left = left }

left_gives : (packets : List (List ℕ)) (payload : List ℕ) (count : ℕ) (emitted bytes rest : List ℕ) (f : FramerState) → f.left ≡ bytes ++ rest → Framed packets payload count emitted f → Framed packets payload count (emitted ++ bytes) (with_left f rest)
unfolding with_left
left_gives packets payload count emitted bytes rest f e h = record {
  stream = h.stream;
  size = h.size;
  path = h.path;
  mfas = h.mfas;
  frames = append_assoc emitted bytes rest ∙ ap (λ y. emitted ++ y) (sym e) ∙ h.frames;
  fresh = h.fresh;
  late = h.late;
}

pub gives_framed : (first now : InView) (read emitted bytes : List ℕ) (lines : LinesView) (old new : FramerState) → Gives bytes old new → FramedSome first now read emitted lines old → FramedSome first now read (emitted ++ bytes) lines new
unfolding with_left
gives_framed first now read emitted bytes lines old new g h =
    let P : FramerState → Type 0 = λ f. FramedSome first now read (emitted ++ bytes) lines f in
    subst P (sym g.same) (record {
      packets = h.packets;
      payload = h.payload;
      count = h.count;
      text = h.text;
      framed = left_gives h.packets h.payload h.count emitted bytes new.left old g.bytes_of h.framed;
    })

-- a frame more where there is none, and then some of its bytes
pub makes_then : (first now later : InView) (read emitted done bytes : List ℕ) (a b c : LinesView) (was mid ready is : FramerState) → Makes first now read (emitted ++ done) a b was mid
    → ((tk gn : List ℕ) → FramedSome first now tk gn b mid → Makes first later tk gn b c mid ready) → Gives bytes ready is → Makes first later read (emitted ++ (done ++ bytes)) a c was is
makes_then first now later read emitted done bytes a b c was mid ready is m step g =
    let n = step (read ++ m.further) (emitted ++ done) m.stands in
    let emitted_is : (emitted ++ done) ++ bytes ≡ emitted ++ (done ++ bytes) = append_assoc emitted done bytes in
    let read_is : (read ++ m.further) ++ n.further ≡ read ++ (m.further ++ n.further) = append_assoc read m.further n.further in
    record {
      further = m.further ++ n.further;
      stands = (let P : List ℕ → List ℕ → Type 0 = λ t g. FramedSome first later t g c is in
          subst (P (read ++ (m.further ++ n.further))) emitted_is (subst (λ t. P t ((emitted ++ done) ++ bytes)) read_is (gives_framed first later ((read ++ m.further) ++ n.further) (emitted ++ done) bytes c ready is g n.stands)));
      earlier = λ text may. m.earlier text (n.earlier text (rw (sym read_is) at may));
      sapi = ap (λ f. f.sapi) g.same ∙ n.sapi ∙ m.sapi;
      fcs = ap (λ f. f.stream.fcs) g.same ∙ n.fcs ∙ m.fcs;
    }

pub same_makes : (first now : InView) (read emitted all bytes : List ℕ) (a c : LinesView) (was is : FramerState) → all ≡ bytes → Makes first now read (emitted ++ bytes) a c was is → Makes first now read (emitted ++ all) a c was is
same_makes first now read emitted all bytes a c was is e m = let P : List ℕ → Type 0 = λ b. Makes first now read (emitted ++ b) a c was is in subst P (sym e) m

pub some_left : (left : List ℕ) → 1 ≤ length left → left ≢ []
some_left left some e = let n = ap length e in omega arith

-- what is left and what is done
pub left_more : (old mid new : FramerState) (bytes : List ℕ) (done count whole : ℕ) → mid ≡ old → Gives bytes mid new → length bytes ≡ count → length old.left + done ≡ whole → length new.left + (done + count) ≡ whole
left_more old mid new bytes done count whole e g size all =
    let a = ap length g.bytes_of in
    let b = length-append bytes new.left in
    let c = ap (λ f. length f.left) e in
    omega arith

-- something is left of a frame that is not emitted
pub some_drop : (left frame : List ℕ) (at : ℕ) → left ≡ drop at frame → at < length frame → left ≢ []
some_drop left frame at e less none = let n = ap length (sym e ∙ none) in let d = length-drop at frame in omega arith

made_of : List ℕ → StreamState → Option ℕ → Option ℕ → ℕ → List ℕ → Bool → FramerState
made_of sapi stream last before mfas left fresh = record { sapi = sapi; stream = stream; path = record { last = last; before = before }; mfas = mfas; left = left; fresh = fresh }

-- a framer that nothing was made with
pub fresh_view : (sapi s : List ℕ) (fcs : Bool) (stream : StreamState) (path : Kept) (mfas : ℕ) (left : List ℕ) → s ≡ sapi → stream ≡ fresh_stream fcs → HasSent 3824 [] path → mfas ≡ 0 → left ≡ []
    → record { sapi = s; stream = stream; path = path; mfas = mfas; left = left; fresh = true } ≡ fresh_framer sapi fcs
unfolding made_of
fresh_view sapi s fcs stream path mfas left a b h m e =
    ap (λ x. made_of x stream path.last path.before mfas left true) a
    ∙ ap (λ x. made_of sapi x path.last path.before mfas left true) b
    ∙ ap (λ x. made_of sapi (fresh_stream fcs) x path.before mfas left true) h.last
    ∙ ap (λ x. made_of sapi (fresh_stream fcs) None x mfas left true) h.before
    ∙ ap (λ x. made_of sapi (fresh_stream fcs) None None x left true) m
    ∙ ap (λ x. made_of sapi (fresh_stream fcs) None None 0 x true) e

pub fresh_from : (first : InView) (sapi : List ℕ) (fcs : Bool) (f : FramerState) → f ≡ fresh_framer sapi fcs → ClientStands first first [] [] fresh_lines f
fresh_from first sapi fcs f e =
    let P : FramerState → Type 0 = λ x. ClientStands first first [] [] fresh_lines x in
    subst P (sym e) (fresh_client first sapi fcs (fresh_lines_stand first fresh_lines refl))
