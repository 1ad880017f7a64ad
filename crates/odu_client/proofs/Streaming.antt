-- The steps of a stream of GFP frames.
use Rattle.std.proofs.Common.{◌≡◌, ◌≢◌, ◌≤◌, ◌+◌, ℕ, zero, suc, Bool, if◌then◌else◌, List, [], ◌∷◌, ◌++◌, length, take, arith, refl, sym, ap, subst, ◌∙◌, append_assoc, append-nil, length-append}
use Rattle.std.specs.Prelude.{replicate, Option}
use Rattle.std.proofs.Math.Seq.{take-append_seam, take-length}
use Rattle.port_base.specs.Views.{InView}
use Rattle.frame_geometry.specs.PayloadParity.{payload_parity_of}
use Rattle.gfp_frames.specs.Area.{client_area}
use Rattle.gfp_frames.specs.GfpText.{Frame, Idle, Client, text_of, stream_frames}
use Rattle.gfp_frames.specs.Maker.{MakerState, HasMade, made_frame, fresh, idle_bytes}
use Rattle.gfp_frames.specs.CoreHeader.{core_header}
use Rattle.gfp_scrambler.specs.Register.{scrambled}
use Rattle.gfp_frames.proofs.Idles.{idles_given, idles_join}
use Rattle.gfp_frames.proofs.Texts.{frame_made, fresh_made, header_size}
use Rattle.packet_text.specs.LinesStand.{LinesView, LinesStand, TakeStands, is_packet, given_by}
use Rattle.otn_base.specs.Counts.{saturated}
use Rattle.packet_text.specs.declared.line.Line.{Line}
use Rattle.packet_text.specs.declared.line.Line.TheVariants as line
use Rattle.odu_client.specs.ClientInput.{gfp_length}
use Rattle.odu_client.specs.AlignedRuns.{payload_of}
use Rattle.odu_client.specs.Framing.{StreamState, StreamMade, TextStands}
use Rattle.odu_client.specs.Steps.Framing.{StreamReady, TextGoes, GetsReady, StreamsBy, IdlesBy, Repeats, IsKnown}
use Rattle.odu_client.specs.PacketStream.{fresh_stream}
use Rattle.odu_client.proofs.GfpTexts.{clients, clients-append, first_frames, no_idles}

snoc_same : {X : Type 0} (xs ys : List X) (x y : X) → xs ++ x ∷ [] ≡ ys ++ y ∷ [] → xs ≡ ys
snoc_same xs ys x y e =
    let size : length xs ≡ length ys = (let n = ap length e in let a = length-append xs (x ∷ []) in let b = length-append ys (y ∷ []) in omega arith) in
    sym (take-append_seam xs (x ∷ [])) ∙ ap (take (length xs)) e ∙ ap (λ n. take n (ys ++ y ∷ [])) size ∙ take-append_seam ys (y ∷ [])

no_snoc : {X : Type 0} (xs : List X) (x : X) → [] ≡ xs ++ x ∷ [] → ⊥
no_snoc xs x e = let n = ap length e in let a = length-append xs (x ∷ []) in omega arith

more_idles : (fs : List Frame) (n k : ℕ) → (fs ++ replicate n Idle) ++ replicate k Idle ≡ fs ++ replicate (n + k) Idle
more_idles fs zero k = ap (λ gs. gs ++ replicate k Idle) (append-nil fs) ∙ ap (λ m. fs ++ replicate m Idle) (let e : k ≡ 0 + k = omega arith in e)
more_idles fs (suc n) k =
    let next : (suc n) + k ≡ suc (n + k) = omega arith in
    ap (λ gs. gs ++ replicate k Idle) (sym (append_assoc fs (Idle ∷ []) (replicate n Idle)))
    ∙ more_idles (fs ++ Idle ∷ []) n k ∙ append_assoc fs (Idle ∷ []) (replicate (n + k) Idle) ∙ ap (λ m. fs ++ replicate m Idle) (sym next)

-- a stream before its first byte
pub fresh_stands : (fcs : Bool) → StreamMade [] [] (fresh_stream fcs)
fresh_stands fcs = record {
  idles = 0;
  made = fresh_made fresh refl;
  going = λ e. refl;
  begun = λ before last e. absurd (no_snoc before last e);
  seen = λ other. absurd (other refl);
  count = refl;
}

-- nothing is to be asked for
pub ready_from : (packets : List (List ℕ)) (emitted : List ℕ) (s : StreamState) → (s.answer ≡ line.Packet → s.maker.hand ≢ []) → StreamMade packets emitted s → StreamReady packets emitted s
ready_from packets emitted s some h = record {
  idles = h.idles;
  made = h.made;
  going = λ e. (h.going e, some e);
  begun = λ before last e. (let less = h.begun before last e in omega arith);
  seen = λ other. (let less = h.seen other in omega arith);
  count = h.count;
}

-- the text did not go on
pub stays : (first now : InView) (read : List ℕ) (packets : List (List ℕ)) (lines : LinesView) (s : StreamState) → TextStands first now read packets lines s → TextGoes first now read packets lines lines s.fcs s
stays first now read packets lines s h = record {
  further = [];
  more = [];
  text = rw (append-nil read, append-nil packets) h;
  earlier = λ text may. rw (append-nil read) at may;
  still = λ other. (refl, refl);
  same = refl;
}

-- the frames made so far are all that was emitted
all_emitted : (packets : List (List ℕ)) (emitted : List ℕ) (s : StreamState) → StreamMade packets emitted s → s.answer ≡ line.Packet → s.maker.hand ≡ [] → gfp_length packets s.fcs ≡ length emitted
unfolding gfp_length
all_emitted packets emitted s h going none =
    let t : emitted ++ s.maker.hand ≡ text_of (stream_frames packets s.fcs 0) = h.made.text ∙ ap (λ k. text_of (stream_frames packets s.fcs k)) (h.going going) in
    ap length (sym t ∙ ap (λ y. emitted ++ y) none ∙ append-nil emitted)

counted : (n m : ℕ) → m ≡ saturated n → saturated (m + 1) ≡ saturated (n + 1)
counted n m e = omega arith

made_going : (packets : List (List ℕ)) (emitted : List ℕ) (s : StreamState) → StreamMade packets emitted s → s.answer ≡ line.Packet → HasMade (stream_frames packets s.fcs 0) emitted s.maker
made_going packets emitted s h going = let P : ℕ → Type 0 = λ k. HasMade (stream_frames packets s.fcs k) emitted s.maker in subst P (h.going going) h.made

pub some_framed : (maker : MakerState) (area : List ℕ) (register : ℕ) → maker ≡ made_frame area register → maker.hand ≢ []
some_framed maker area register is none =
    let e : core_header (length area) ++ scrambled register area ≡ [] = sym (ap (λ m. m.hand) is) ∙ none in
    let n = ap length e in
    let a = length-append (core_header (length area)) (scrambled register area) in
    let b = header_size (length area) in
    omega arith

-- an answer, and the packets that it brings
more_of : LinesView → LinesView → List (List ℕ)
more_of lines next = if is_packet lines.answer then given_by next.answer next.packet else []

no_more : (a : Line) (packet : List ℕ) → a ≢ line.Packet → given_by a packet ≡ []
no_more line.Packet packet other = absurd (other refl)
no_more line.End packet other = refl
no_more (line.Bad n) packet other = refl
no_more line.Lost packet other = refl

asked_text : (first was now : InView) (read : List ℕ) (packets more : List (List ℕ)) (lines next : LinesView) (old new : StreamState) → old.answer ≡ line.Packet
    → (LinesStand first was read packets lines → TakeStands first read packets lines next now) → next.answer ≡ new.answer → new.fcs ≡ old.fcs → given_by next.answer next.packet ≡ more
    → TextStands first was read packets lines old → TextGoes first now read packets lines next old.fcs new
unfolding more_of
asked_text first was now read packets more lines next old new going stands answer fcs is h =
    let t = stands h.stands in
    let was_going : lines.answer ≡ line.Packet = sym h.answer ∙ going in
    let e : more_of lines next ≡ more = ap (λ a. if is_packet a then given_by next.answer next.packet else []) was_going ∙ is in
    let P : List (List ℕ) → Type 0 = λ ps. LinesStand first now (read ++ t.further) (packets ++ ps) next in
    record {
      further = t.further;
      more = more;
      text = record { stands = subst P e t.stands; answer = sym answer };
      earlier = t.earlier;
      still = λ other. absurd (other was_going);
      same = fcs;
    }

-- the next packet is in hand
pub packet_asked : (first was now : InView) (read emitted : List ℕ) (packets : List (List ℕ)) (lines next : LinesView) (old new : StreamState) → old.answer ≡ line.Packet → old.maker.hand ≡ []
    → (LinesStand first was read packets lines → TakeStands first read packets lines next now) → next.answer ≡ new.answer → new.fcs ≡ old.fcs → new.answer ≡ line.Packet
    → new.maker ≡ made_frame (client_area next.packet old.fcs) old.maker.register → new.packets ≡ saturated (old.packets + 1)
    → TextStands first was read packets lines old → StreamMade packets emitted old → GetsReady first now read emitted packets lines next old.fcs new
unfolding asked_text
packet_asked first was now read emitted packets lines next old new going none stands answer fcs is maker count t h = record {
  goes = asked_text first was now read packets (next.packet ∷ []) lines next old new going stands answer fcs (ap (λ a. given_by a next.packet) (answer ∙ is)) t;
  ready = record {
    idles = 0;
    made = (let P : List Frame → Type 0 = λ fs. HasMade fs emitted new.maker in subst P frames (frame_made (stream_frames packets old.fcs 0) frame emitted old.maker new.maker (made_going packets emitted old h going) none maker));
    going = λ f. (refl, some_framed _ _ _ maker);
    begun = λ before last f. (let size : gfp_length before new.fcs ≡ gfp_length packets old.fcs = ap (λ ps. gfp_length ps new.fcs) (sym (snoc_same packets before next.packet last f)) ∙ ap (gfp_length packets) fcs in
        omega (arith, all_emitted packets emitted old h going none));
    seen = λ f. absurd (f is);
    count = count ∙ counted (length packets) old.packets h.count ∙ ap saturated (let n = length-append packets (next.packet ∷ []) in let m : length packets + 1 ≡ length (packets ++ next.packet ∷ []) = omega arith in m);
  };
}
  where
    frame : Frame
    frame = Client next.packet old.fcs

    frames : stream_frames packets old.fcs 0 ++ frame ∷ [] ≡ stream_frames (packets ++ next.packet ∷ []) new.fcs 0
    frames =
        ap (λ fs. fs ++ frame ∷ []) (no_idles packets old.fcs) ∙ ap (λ fs. Idle ∷ fs) (sym (clients-append packets (next.packet ∷ []) old.fcs))
        ∙ ap (first_frames (packets ++ next.packet ∷ [])) (sym fcs) ∙ sym (no_idles (packets ++ next.packet ∷ []) new.fcs)

-- there is none
pub none_asked : (first was now : InView) (read emitted : List ℕ) (packets : List (List ℕ)) (lines next : LinesView) (old new : StreamState) → old.answer ≡ line.Packet → old.maker.hand ≡ []
    → (LinesStand first was read packets lines → TakeStands first read packets lines next now) → next.answer ≡ new.answer → new.fcs ≡ old.fcs → new.answer ≢ line.Packet
    → new.maker ≡ old.maker → new.packets ≡ old.packets
    → TextStands first was read packets lines old → StreamMade packets emitted old → GetsReady first now read emitted packets lines next old.fcs new
unfolding asked_text
none_asked first was now read emitted packets lines next old new going none stands answer fcs other maker count t h =
    let P : List (List ℕ) → Type 0 = λ ps. StreamReady ps emitted new in
    let Q : MakerState → Bool → Type 0 = λ m f. HasMade (stream_frames packets f 0) emitted m in
    record {
      goes = asked_text first was now read packets [] lines next old new going stands answer fcs (no_more next.answer next.packet (λ e. other (sym answer ∙ e))) t;
      ready = subst P (sym (append-nil packets)) (record {
        idles = 0;
        made = subst (Q new.maker) (sym fcs) (subst (λ m. Q m old.fcs) (sym maker) (made_going packets emitted old h going));
        going = λ e. absurd (other e);
        begun = λ before last f. (let less = h.begun before last f in let e = ap (gfp_length before) fcs in omega arith);
        seen = λ f. (let e = ap (gfp_length packets) fcs in omega (arith, all_emitted packets emitted old h going none));
        count = count ∙ h.count;
      });
    }

-- at least one byte more was emitted
pub emitted_made : (packets : List (List ℕ)) (emitted bytes : List ℕ) (k : ℕ) (old new : StreamState) → 1 ≤ length bytes → new.fcs ≡ old.fcs → new.answer ≡ old.answer → new.packets ≡ old.packets
    → (old.answer ≡ line.Packet → k ≡ 0) → (h : StreamReady packets emitted old) → HasMade (stream_frames packets old.fcs h.idles ++ replicate k Idle) (emitted ++ bytes) new.maker → StreamMade packets (emitted ++ bytes) new
emitted_made packets emitted bytes k old new some fcs answer same none h made =
    let size = length-append emitted bytes in
    let frames : stream_frames packets old.fcs h.idles ++ replicate k Idle ≡ stream_frames packets new.fcs (h.idles + k) =
    ap (λ fs. Idle ∷ fs) (more_idles (clients packets old.fcs) h.idles k) ∙ ap (λ f. stream_frames packets f (h.idles + k)) (sym fcs) in
    record {
      idles = h.idles + k;
      made = (let P : List Frame → Type 0 = λ fs. HasMade fs (emitted ++ bytes) new.maker in subst P frames made);
      going = λ e. (let f = sym answer ∙ e in let a = (h.going f).0 in let b = none f in omega arith);
      begun = λ before last e. (let less = h.begun before last e in let f = ap (gfp_length before) fcs in omega arith);
      seen = λ other. (let less = h.seen (λ e. other (answer ∙ e)) in let f = ap (gfp_length packets) fcs in omega arith);
      count = same ∙ h.count;
    }

-- a step after others
pub goes_then : (first now later : InView) (read emitted : List ℕ) (packets : List (List ℕ)) (a b c : LinesView) (fcs : Bool) (s t : StreamState) → (g : TextGoes first now read packets a b fcs s)
    → TextGoes first later (read ++ g.further) (packets ++ g.more) b c s.fcs t → TextGoes first later read packets a c fcs t
goes_then first now later read emitted packets a b c fcs s t g h = record {
  further = g.further ++ h.further;
  more = g.more ++ h.more;
  text = rw (sym (append_assoc read g.further h.further), sym (append_assoc packets g.more h.more)) h.text;
  earlier = λ text may. g.earlier text (h.earlier text (rw (sym (append_assoc read g.further h.further)) at may));
  still = λ other.
      let one = g.still other in
      let two = h.still (λ e. other (ap (λ v. v.answer) (sym one.1) ∙ e)) in
      (ap (λ m. m ++ h.more) one.0 ∙ two.0, two.1 ∙ one.1);
  same = h.same ∙ g.same;
}

-- nothing is to be asked for, or nothing can be
pub stays_ready : (first now : InView) (read emitted : List ℕ) (packets : List (List ℕ)) (lines : LinesView) (s : StreamState) → (s.answer ≡ line.Packet → s.maker.hand ≢ []) → TextStands first now read packets lines s
    → StreamMade packets emitted s → GetsReady first now read emitted packets lines lines s.fcs s
unfolding stays
stays_ready first now read emitted packets lines s some t h = record {
  goes = stays first now read packets lines s t;
  ready = (let P : List (List ℕ) → Type 0 = λ ps. StreamReady ps emitted s in subst P (sym (append-nil packets)) (ready_from packets emitted s some h));
}

-- all of a slice was emitted
pub emitted_all : (packets : List (List ℕ)) (emitted bytes : List ℕ) (k : ℕ) (old new : StreamState) → 1 ≤ length bytes → new.fcs ≡ old.fcs → new.answer ≡ old.answer → new.packets ≡ old.packets
    → (old.answer ≡ line.Packet → k ≡ 0) → (h : StreamReady packets emitted old) → HasMade (stream_frames packets old.fcs h.idles ++ replicate k Idle) (emitted ++ bytes) new.maker
    → StreamMade packets (emitted ++ take (length bytes) bytes) new
emitted_all packets emitted bytes k old new some fcs answer same none h made =
    let P : List ℕ → Type 0 = λ b. StreamMade packets (emitted ++ b) new in subst P (sym (take-length bytes)) (emitted_made packets emitted bytes k old new some fcs answer same none h made)

-- ready, and then some bytes were emitted
pub ready_streams : (was now : InView) (bytes : List ℕ) (lines next : LinesView) (old mid new : StreamState) → new.fcs ≡ mid.fcs → new.answer ≡ mid.answer
    → ((ps : List (List ℕ)) (g : List ℕ) → StreamReady ps g mid → StreamMade ps (g ++ bytes) new)
    → ((first : InView) (read emitted : List ℕ) (packets : List (List ℕ)) → TextStands first was read packets lines old → StreamMade packets emitted old → GetsReady first now read emitted packets lines next old.fcs mid)
    → StreamsBy was now bytes lines next old new
ready_streams was now bytes lines next old mid new same answer made ready = λ first read emitted packets t h.
    let r = ready first read emitted packets t h in
    record {
      goes = record {
        further = r.goes.further;
        more = r.goes.more;
        text = record { stands = r.goes.text.stands; answer = answer ∙ r.goes.text.answer };
        earlier = r.goes.earlier;
        still = r.goes.still;
        same = same ∙ r.goes.same;
      };
      made = made (packets ++ r.goes.more) emitted r.ready;
    }

-- nothing was emitted yet
pub streams_none : (place : InView) (lines : LinesView) (s : StreamState) → StreamsBy place place [] lines lines s s
unfolding stays
streams_none place lines s = λ first read emitted packets t h. record {
  goes = stays first place read packets lines s t;
  made = (let P : List (List ℕ) → List ℕ → Type 0 = λ ps g. StreamMade ps g s in subst (P (packets ++ [])) (sym (append-nil emitted)) (subst (λ ps. P ps emitted) (sym (append-nil packets)) h));
}

-- two calls, one after another
pub streams_both : (was mid now : InView) (x y : List ℕ) (a b c : LinesView) (s t u : StreamState) → StreamsBy was mid x a b s t → StreamsBy mid now y b c t u → StreamsBy was now (x ++ y) a c s u
unfolding goes_then
streams_both was mid now x y a b c s t u one two = λ first read emitted packets text made.
    let g = one first read emitted packets text made in
    let n = two first (read ++ g.goes.further) (emitted ++ x) (packets ++ g.goes.more) g.goes.text g.made in
    record {
      goes = goes_then first mid now read emitted packets a b c s.fcs t u g.goes n.goes;
      made = (let P : List (List ℕ) → List ℕ → Type 0 = λ ps bytes. StreamMade ps bytes u in
          subst (λ ps. P ps (emitted ++ (x ++ y))) (append_assoc packets g.goes.more n.goes.more) (subst (P ((packets ++ g.goes.more) ++ n.goes.more)) (append_assoc emitted x y) n.made));
    }

-- the same bytes, by another name
pub streams_same : (was now : InView) (x y : List ℕ) (a b : LinesView) (s t : StreamState) → x ≡ y → StreamsBy was now x a b s t → StreamsBy was now y a b s t
streams_same was now x y a b s t e one = let P : List ℕ → Type 0 = λ z. StreamsBy was now z a b s t in subst P e one

-- ---- where no packet is left

-- nothing was emitted yet
pub idles_none : (s : StreamState) → IdlesBy [] s s
idles_none s = record { so = λ other. (0, sym (append-nil s.maker.hand)) }

-- what was asked for before changed nothing
pub idles_after : (bytes : List ℕ) (s mid t : StreamState) → (s.answer ≢ line.Packet → mid ≡ s) → IdlesBy bytes mid t → IdlesBy bytes s t
idles_after bytes s mid t same one = record {
  so = λ other.
      let e = same other in
      let b = one.so (λ q. other (ap (λ x. x.answer) (sym e) ∙ q)) in
      (b.0, b.1 ∙ ap (λ x. x.maker.hand ++ idle_bytes b.0) e);
}

-- two calls, one after another
pub idles_both : (x y : List ℕ) (s t u : StreamState) → (s.answer ≢ line.Packet → t.answer ≡ s.answer) → IdlesBy x s t → IdlesBy y t u → IdlesBy (x ++ y) s u
idles_both x y s t u same one two = record {
  so = λ other.
      let a = one.so other in
      let b = two.so (λ e. other (sym (same other) ∙ e)) in (
        a.0 + b.0,
        append_assoc x y u.maker.hand ∙ ap (λ z. x ++ z) b.1 ∙ sym (append_assoc x t.maker.hand (idle_bytes b.0))
            ∙ ap (λ z. z ++ idle_bytes b.0) a.1 ∙ append_assoc s.maker.hand (idle_bytes a.0) (idle_bytes b.0)
            ∙ ap (λ z. s.maker.hand ++ z) (idles_join a.0 b.0),
      );
}

-- the same bytes, by another name
pub idles_same : (x y : List ℕ) (s t : StreamState) → x ≡ y → IdlesBy x s t → IdlesBy y s t
idles_same x y s t e one = let P : List ℕ → Type 0 = λ z. IdlesBy z s t in subst P e one

-- all of a slice was emitted
pub idles_all : (bytes : List ℕ) (s t : StreamState) → IdlesBy bytes s t → IdlesBy (take (length bytes) bytes) s t
idles_all bytes s t one = idles_same bytes (take (length bytes) bytes) s t (sym (take-length bytes)) one

-- as much of an idle frame is in hand as before
pub repeats_from : (payload : List ℕ) (s t : StreamState) → s.answer ≢ line.Packet → t.answer ≡ s.answer → length payload ≡ 15232 → IdlesBy payload s t → t.maker.hand ≡ s.maker.hand → Repeats payload t
repeats_from payload s t other same size idles hand = record {
  over = λ e. other (sym same ∙ e);
  size = size;
  idles = (idles.so other).0;
  bytes = (idles.so other).1 ∙ ap (λ h. h ++ idle_bytes (idles.so other).0) (sym hand);
}

-- the same payload was emitted once more
pub streams_again : (place : InView) (payload : List ℕ) (lines : LinesView) (s : StreamState) → Repeats payload s → StreamsBy place place payload lines lines s s
unfolding stays
streams_again place payload lines s r = λ first read emitted packets t h.
    let ready = ready_from packets emitted s (λ e. absurd (r.over e)) h in
    let P : List (List ℕ) → Type 0 = λ ps. StreamMade ps (emitted ++ payload) s in
    record {
      goes = stays first place read packets lines s t;
      made = subst P (sym (append-nil packets)) (emitted_made packets emitted payload r.idles s s (let size = r.size in omega arith) refl refl refl (λ e. absurd (r.over e)) ready
          (idles_given (stream_frames packets s.fcs ready.idles) emitted payload s.maker s.maker r.idles ready.made r.bytes refl));
    }

-- what is written beside the payload changes nothing that is known of it
pub known_kept : (again : Option ℕ) (old new : List ℕ) (s : StreamState) (parity : ℕ) → IsKnown again old s → payload_of new ≡ payload_of old
    → payload_parity_of 3824 new ≡ parity → parity ≡ payload_parity_of 3824 old → IsKnown again new s
known_kept again old new s parity known same now was = λ p e.
    let k = known p e in
    let P : List ℕ → Type 0 = λ payload. Repeats payload s in
    (subst P (sym same) k.0, k.1 ∙ sym was ∙ sym now)
