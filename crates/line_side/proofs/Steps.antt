-- What a step of the reader does, over plain views.
use Rattle.std.proofs.Common.{◌≡◌, ◌≢◌, ◌<◌, ◌+◌, ◌-◌, ◌*◌, ◌%◌, ◌^◌, min, max, ℕ, suc, Bool, true, false, List, [], ◌∷◌, ◌++◌, Option, Some, None, length, arith, refl, sym, ap, ◌∙◌, length-append, append-nil, append_assoc, subst}
use Rattle.std.specs.Prelude.{IfSome, IsTrue, ◌↔◌, if◌then◌else◌}
use Rattle.port_base.specs.Views.{InView, Dead}
use Rattle.port_base.specs.declared.in_place.Reading.{Reading}
use Rattle.port_base.specs.declared.in_place.Reading.TheVariants.{Full, End, Lost}
use Rattle.line_side.specs.declared.ending.Ending.{Ending}
use Rattle.line_side.specs.declared.ending.Ending.TheVariants.{Open}
use Rattle.line_side.specs.LineForm.{through_mask}
use Rattle.line_side.specs.LineFile.{frame_at, first_frames, whole_frames}
use Rattle.line_side.specs.Counted.{Counted, HasCounted}
use Rattle.line_side.specs.Steps.Counted.{CountsOn}
use Rattle.line_side.specs.Reader.{ReaderView, HasRead, count_of, rest_of, EndedAs}
use Rattle.line_side.specs.Steps.Reader.{FrameRead, Advanced, LookedAhead, Advances, LooksAhead, with_ahead, taking, with_reading, ending_after, left_after, ReadStep}
use Rattle.otn_base.specs.Counts.{saturated}
use Rattle.line_side.proofs.Giving.{step_none, step_kept}
use Rattle.line_side.proofs.Frames.{frame_here, whole_here, short_here}

stopped_twice : (u f : ℕ) → f ≡ saturated u → min (f + 1) (2 ^ 64 - 1) ≡ saturated (u + 1)
stopped_twice u f e = omega arith

-- one frame more was counted
one_more : (available frame : List ℕ) (u : ℕ) (old new : Counted) → frame ≡ frame_at available u → CountsOn old frame new → HasCounted (first_frames available u) old → HasCounted (first_frames available (u + 1)) new
unfolding first_frames
one_more available frame u old new here sees h =
    let P : List ℕ → Type 0 = λ f. HasCounted (first_frames available u ++ f ∷ []) new in
    let Q : ℕ → Type 0 = λ n. HasCounted (first_frames available n) new in
    subst Q (let e : suc u ≡ u + 1 = omega arith in e) (subst P here (sees (first_frames available u) h))

-- nothing was taken, and the frame that was looked ahead at is in hand
took_ahead : (available frame : List ℕ) (n u w : ℕ) (old : ReaderView) (seen : Counted) → old.ahead ≡ Some frame → CountsOn old.seen frame seen → HasRead available n u w old → Advanced available n u (max w (u + 1)) true (taking (Some frame) seen old)
took_ahead available frame n u w old seen e sees h =
    let one : count_of old.ahead ≡ 1 = ap count_of e in
    let here : frame ≡ frame_at available u = (let P : Option (List ℕ) → Type 0 = λ a. IfSome a (λ frame. frame ≡ frame_at available u) in subst P e h.ahead) in
    let within = h.within in
    record {
      frame = λ _. (
        record {
          within = omega arith;
          ahead = tt;
          still = λ opened. (let s = h.still opened in (omega arith, omega arith));
          over = λ closed. (let o = h.over closed in (omega arith, o.1, omega arith));
          frames = stopped_twice u old.frames h.frames;
          rest = h.rest;
          seen = one_more available frame u old.seen seen here sees h.seen;
        },
        omega arith,
        here,
      );
      none = λ f. absurd (cc);
    }

-- the bytes have ended, and nothing was looked ahead at
ended_already : (available : List ℕ) (n u w : ℕ) (old : ReaderView) → old.ahead ≡ None → old.ending ≢ Open → HasRead available n u w old → HasRead available n u (max w (u + 1)) old × (u ≡ whole_frames available)
ended_already available n u w old e closed h =
    let zero : count_of old.ahead ≡ 0 = ap count_of e in
    let o = h.over closed in
    (record { within = h.within; ahead = h.ahead; still = λ opened. absurd (closed opened); over = λ _. (o.0, o.1, omega arith); frames = h.frames; rest = h.rest; seen = h.seen }, omega arith)

-- a read gave no whole frame
short_read : (s : Bool) (read further rest : List ℕ) (u w : ℕ) (old new : ReaderView) → HasRead (through_mask s (read ++ (further ++ rest))) (length read) u w old
    → old.ahead ≡ None → old.ending ≡ Open → length further < 16320 → rest ≡ []
    → new.ahead ≡ None → new.ending ≢ Open → new.frames ≡ old.frames → new.rest ≡ rest_of new.ending (through_mask s (read ++ (further ++ rest))) → new.seen ≡ old.seen
    → HasRead (through_mask s (read ++ (further ++ rest))) (length (read ++ further)) u (max w (u + 1)) new × (u ≡ whole_frames (through_mask s (read ++ (further ++ rest))))
short_read s read further rest u w old new h e opened less none f closed frames left seen =
    let zero : count_of old.ahead ≡ 0 = ap count_of e in
    let zero' : count_of new.ahead ≡ 0 = ap count_of f in
    let still = h.still opened in
    let here = short_here s read further rest u (omega arith) less none in (
      record {
        within = omega (arith, here.0);
        ahead = (let P : Option (List ℕ) → Type 0 = λ a. IfSome a (λ frame. frame ≡ frame_at (through_mask s (read ++ (further ++ rest))) u) in subst P (sym f) tt);
        still = λ o. absurd (closed o);
        over = λ _. (omega (arith, here.0), here.1, omega (arith, here.0));
        frames = frames ∙ h.frames;
        rest = left;
        seen = (let P : Counted → Type 0 = λ c. HasCounted (first_frames (through_mask s (read ++ (further ++ rest))) u) c in subst P (sym seen) h.seen);
      },
      here.0,
    )

-- how the bytes ended where no whole frame came
rest_after : (reading : Reading) (available further : List ℕ) (r : ReaderView) → r.rest ≡ 0 → reading ≢ Full → ((k : ℕ) → reading ≡ End k → k ≡ length further) → length available % 16320 ≡ length further
    → (with_reading reading r).rest ≡ rest_of (with_reading reading r).ending available
rest_after Full available further r zero other end e = absurd (other refl)
rest_after (End k) available further r zero other end e = end k refl ∙ sym e
rest_after Lost available further r zero other end e = zero

with_reading_ahead : (reading : Reading) (r : ReaderView) → ((with_reading reading r).ahead ≡ r.ahead) × ((with_reading reading r).frames ≡ r.frames) × ((with_reading reading r).hand ≡ r.hand) × ((with_reading reading r).seen ≡ r.seen)
with_reading_ahead Full r = (refl, refl, refl, refl)
with_reading_ahead (End k) r = (refl, refl, refl, refl)
with_reading_ahead Lost r = (refl, refl, refl, refl)

pub closed_rest : (available : List ℕ) (n u w : ℕ) (r : ReaderView) → r.ending ≡ Open → HasRead available n u w r → r.rest ≡ 0
closed_rest available n u w r opened h = h.rest ∙ ap (λ e. rest_of e available) opened

-- the bytes have ended where no whole frame came
closed_after : (reading : Reading) (ending : Ending) → reading ≢ Full → ending_after reading ending ≢ Open
closed_after Full ending other = absurd (other refl)
closed_after (End k) ending other = λ o. cc
closed_after Lost ending other = λ o. cc

ended_short : (reading : Reading) (ending : Ending) (is : InView) → reading ≢ Full → ((k : ℕ) → reading ≡ End k → is.state ≢ Dead) → (reading ≡ Lost → is.state ≡ Dead) → EndedAs (ending_after reading ending) is
ended_short Full ending is other end lost = absurd (other refl)
ended_short (End k) ending is other end lost = record { died = λ d. absurd (cc); seen = λ _. end k refl }
ended_short Lost ending is other end lost = record { died = λ _. lost refl; seen = λ e. absurd (cc) }

ended_open : (ending : Ending) (is : InView) → ending ≡ Open → EndedAs ending is
ended_open ending is opened = record { died = λ d. absurd (cc); seen = λ e. absurd (cc) }

short_step : (reading : Reading) (old new : ReaderView) (was is : InView) (frame : List ℕ) → old.ending ≡ Open → reading ≢ Full → new.scrambled ≡ old.scrambled → new.ending ≡ ending_after reading old.ending
    → (f : FrameRead old.scrambled reading was frame is) → ReadStep old was f.further new is
short_step reading old new was is frame opened other same after f = record {
  scrambled = same;
  gave = f.gave;
  quiet = λ closed. absurd (closed opened);
  over = λ _ _. (f.short other).1;
  ended = λ _. (let P : Ending → Type 0 = λ e. EndedAs e is in subst P (sym after) (ended_short reading old.ending is other (λ k e. (f.end k e).1) f.lost));
  unended = λ unseen. (λ seen. (let e = sym opened ∙ seen in cc), f.unended (λ k e. unseen (after ∙ ap (λ r. ending_after r old.ending) e)));
}

whole_step : (reading : Reading) (old new : ReaderView) (was is : InView) (frame : List ℕ) → reading ≡ Full → old.ending ≡ Open → new.scrambled ≡ old.scrambled → new.ending ≡ old.ending
    → (f : FrameRead old.scrambled reading was frame is) → ReadStep old was f.further new is
whole_step reading old new was is frame full opened same kept f = record {
  scrambled = same;
  gave = f.gave;
  quiet = λ closed. absurd (closed opened);
  over = λ _ closed. absurd (closed (kept ∙ opened));
  ended = λ _. ended_open new.ending is (kept ∙ opened);
  unended = λ _. (λ seen. (let e = sym opened ∙ seen in cc), f.unended (λ k e. (let x = sym full ∙ e in cc)));
}

-- ---- the steps as the reader's calls make them

pub advance_ahead : (old : ReaderView) (was : InView) (frame : List ℕ) (seen : Counted) → old.ahead ≡ Some frame → IfSome old.ahead (λ frame. CountsOn old.seen frame seen) → Advances true old was (with_ahead seen old) was
advance_ahead old was frame seen e sees = rw (ap (λ a. taking a seen old) e) (record {
  further = [];
  step = step_kept old (taking (Some frame) seen old) was refl refl;
  alone = refl;
  line = λ available read u w may h.
      let P : List ℕ → Type 0 = λ g. HasRead g (length read) u w old → Advanced g (length (read ++ [])) u (max w (u + 1)) true (taking (Some frame) seen old) in
      let A : Option (List ℕ) → Type 0 = λ a. IfSome a (λ frame. CountsOn old.seen frame seen) in
      subst P (sym (may.parts ∙ ap (through_mask old.scrambled) (append_assoc read [] may.rest))) (λ h. rw (append-nil read) (took_ahead (through_mask old.scrambled (read ++ may.rest)) frame (length read) u w old seen e (subst A e sees) h)) h;
})

pub advance_over : (old : ReaderView) (was : InView) → old.ahead ≡ None → old.ending ≢ Open → Advances false old was old was
advance_over old was e closed = record {
  further = [];
  step = step_none old was;
  alone = e;
  line = λ available read u w may h.
      let P : List ℕ → Type 0 = λ g. HasRead g (length read) u w old → Advanced g (length (read ++ [])) u (max w (u + 1)) false old in
      subst P (sym (may.parts ∙ ap (through_mask old.scrambled) (append_assoc read [] may.rest))) (λ h. rw (append-nil read) (let o = ended_already (through_mask old.scrambled (read ++ may.rest)) (length read) u w old e closed h in
      record { frame = λ t. absurd (cc); none = λ _. (o.0, o.1, closed) })) h;
}

pub advance_short : (reading : Reading) (old : ReaderView) (was is : InView) (frame : List ℕ) (new : ReaderView) → old.ahead ≡ None → old.ending ≡ Open → reading ≢ Full → FrameRead old.scrambled reading was frame is
    → new ≡ with_reading reading (record old { hand = frame }) → Advances false old was new is
advance_short reading old was is frame new e opened other f same = let closed = closed_after reading old.ending other in rw same (record {
  further = f.further;
  step = short_step reading old (with_reading reading (record old { hand = frame })) was is frame opened other refl refl f;
  alone = (with_reading_ahead reading (record old { hand = frame })).0 ∙ e;
  line = λ available read u w may h.
      let P : List ℕ → Type 0 = λ g. HasRead g (length read) u w old → Advanced g (length (read ++ f.further)) u (max w (u + 1)) false (with_reading reading (record old { hand = frame })) in
      subst P (sym (may.parts ∙ ap (through_mask old.scrambled) (append_assoc read f.further may.rest))) (λ h.
      let short = f.short other in
      let none = may.over closed in
      let zero = closed_rest (through_mask old.scrambled (read ++ (f.further ++ may.rest))) (length read) u w old opened h in
      let size = h.still opened in
      let zero' : count_of old.ahead ≡ 0 = ap count_of e in
      let here = short_here old.scrambled read f.further may.rest u (omega arith) short.0 none in
      let r = record old { hand = frame } in
      let kept = with_reading_ahead reading r in
      let after = rest_after reading (through_mask old.scrambled (read ++ (f.further ++ may.rest))) f.further r zero other (λ k q. (f.end k q).0) here.2 in
      let none_more = short_read old.scrambled read f.further may.rest u w old (with_reading reading r) h e opened short.0 none (kept.0 ∙ e) closed kept.1 after kept.3 in
      record { frame = λ t. absurd (cc); none = λ _. (none_more.0, none_more.1, closed) }) h;
})

pub advance_whole : (reading : Reading) (old : ReaderView) (was is : InView) (frame : List ℕ) (new : ReaderView) (seen : Counted) → CountsOn old.seen frame seen → old.ahead ≡ None → old.ending ≡ Open → reading ≡ Full → FrameRead old.scrambled reading was frame is
    → new ≡ record { scrambled = old.scrambled; hand = frame; ahead = None; ending = old.ending; frames = saturated (old.frames + 1); rest = old.rest; seen = seen } → Advances true old was new is
advance_whole reading old was is frame new seen sees e opened full f same = rw same (record {
  further = f.further;
  step = whole_step reading old (record { scrambled = old.scrambled; hand = frame; ahead = None; ending = old.ending; frames = saturated (old.frames + 1); rest = old.rest; seen = seen }) was is frame full opened refl refl f;
  alone = refl;
  line = λ available read u w may h.
      let P : List ℕ → Type 0 = λ g. HasRead g (length read) u w old → Advanced g (length (read ++ f.further)) u (max w (u + 1)) true (record { scrambled = old.scrambled; hand = frame; ahead = None; ending = old.ending; frames = saturated (old.frames + 1); rest = old.rest; seen = seen }) in
      subst P (sym (may.parts ∙ ap (through_mask old.scrambled) (append_assoc read f.further may.rest))) (λ h.
      let whole = f.whole full in
      let size = h.still opened in
      let zero : count_of old.ahead ≡ 0 = ap count_of e in
      let n : length read ≡ 16320 * u = omega arith in
      let here = frame_here old.scrambled read f.further may.rest u n whole.1 in
      let there = whole_here old.scrambled read f.further may.rest u n whole.1 in
      let m = length-append read f.further in
      record {
        frame = λ _. (
          record {
            within = omega arith;
            ahead = tt;
            still = λ o. (omega (arith, whole.1), omega arith);
            over = λ closed. absurd (closed opened);
            frames = stopped_twice u old.frames h.frames;
            rest = h.rest;
            seen = one_more (through_mask old.scrambled (read ++ (f.further ++ may.rest))) frame u old.seen seen (whole.0 ∙ sym here) sees h.seen;
          },
          there,
          whole.0 ∙ sym here,
        );
        none = λ t. absurd (cc);
      }) h;
})

pub look_over : (old : ReaderView) (was : InView) → old.ahead ≡ None → old.ending ≢ Open → LooksAhead false old was old was
look_over old was e closed = record {
  further = [];
  step = step_none old was;
  hand = refl;
  line = λ available read u w may h.
      let P : List ℕ → Type 0 = λ g. HasRead g (length read) u w old → LookedAhead g (length (read ++ [])) u (max w (u + 1)) false old in
      subst P (sym (may.parts ∙ ap (through_mask old.scrambled) (append_assoc read [] may.rest))) (λ h. rw (append-nil read) (let o = ended_already (through_mask old.scrambled (read ++ may.rest)) (length read) u w old e closed h in
      record { read = o.0; frame = λ t. absurd (cc); none = λ _. (o.1, e) })) h;
}

pub look_short : (reading : Reading) (old : ReaderView) (was is : InView) (frame : List ℕ) (new : ReaderView) → old.ahead ≡ None → old.ending ≡ Open → reading ≢ Full → FrameRead old.scrambled reading was frame is
    → new ≡ with_reading reading old → LooksAhead false old was new is
look_short reading old was is frame new e opened other f same = let closed = closed_after reading old.ending other in rw same (record {
  further = f.further;
  step = short_step reading old (with_reading reading old) was is frame opened other refl refl f;
  hand = (with_reading_ahead reading old).2;
  line = λ available read u w may h.
      let P : List ℕ → Type 0 = λ g. HasRead g (length read) u w old → LookedAhead g (length (read ++ f.further)) u (max w (u + 1)) false (with_reading reading old) in
      subst P (sym (may.parts ∙ ap (through_mask old.scrambled) (append_assoc read f.further may.rest))) (λ h.
      let short = f.short other in
      let none = may.over closed in
      let zero = closed_rest (through_mask old.scrambled (read ++ (f.further ++ may.rest))) (length read) u w old opened h in
      let size = h.still opened in
      let zero' : count_of old.ahead ≡ 0 = ap count_of e in
      let here = short_here old.scrambled read f.further may.rest u (omega arith) short.0 none in
      let kept = with_reading_ahead reading old in
      let after = rest_after reading (through_mask old.scrambled (read ++ (f.further ++ may.rest))) f.further old zero other (λ k q. (f.end k q).0) here.2 in
      let none_more = short_read old.scrambled read f.further may.rest u w old (with_reading reading old) h e opened short.0 none (kept.0 ∙ e) closed kept.1 after kept.3 in
      record { read = none_more.0; frame = λ t. absurd (cc); none = λ _. (none_more.1, kept.0 ∙ e) }) h;
})

pub look_whole : (reading : Reading) (old : ReaderView) (was is : InView) (frame : List ℕ) (new : ReaderView) → old.ahead ≡ None → old.ending ≡ Open → reading ≡ Full → FrameRead old.scrambled reading was frame is
    → new ≡ record old { ahead = Some frame } → LooksAhead true old was new is
look_whole reading old was is frame new e opened full f same = rw same (record {
  further = f.further;
  step = whole_step reading old (record old { ahead = Some frame }) was is frame full opened refl refl f;
  hand = refl;
  line = λ available read u w may h.
      let P : List ℕ → Type 0 = λ g. HasRead g (length read) u w old → LookedAhead g (length (read ++ f.further)) u (max w (u + 1)) true (record old { ahead = Some frame }) in
      subst P (sym (may.parts ∙ ap (through_mask old.scrambled) (append_assoc read f.further may.rest))) (λ h.
      let whole = f.whole full in
      let size = h.still opened in
      let zero : count_of old.ahead ≡ 0 = ap count_of e in
      let n : length read ≡ 16320 * u = omega arith in
      let here = frame_here old.scrambled read f.further may.rest u n whole.1 in
      let there = whole_here old.scrambled read f.further may.rest u n whole.1 in
      let m = length-append read f.further in
      record {
        read = record {
          within = omega arith;
          ahead = whole.0 ∙ sym here;
          still = λ o. (omega (arith, whole.1), omega arith);
          over = λ closed. absurd (closed opened);
          frames = h.frames;
          rest = h.rest;
          seen = h.seen;
        };
        frame = λ _. (there, ap Some (whole.0 ∙ sym here));
        none = λ t. absurd (cc);
      }) h;
})

-- two views are equal where their fields are
pub same_view : (r s : ReaderView) → r.scrambled ≡ s.scrambled → r.hand ≡ s.hand → r.ahead ≡ s.ahead → r.ending ≡ s.ending → r.frames ≡ s.frames → r.rest ≡ s.rest → r.seen ≡ s.seen → r ≡ s
same_view r s m a b c d e f =
    ap (λ x. record { scrambled = x; hand = r.hand; ahead = r.ahead; ending = r.ending; frames = r.frames; rest = r.rest; seen = r.seen }) m
    ∙ ap (λ x. record { scrambled = s.scrambled; hand = x; ahead = r.ahead; ending = r.ending; frames = r.frames; rest = r.rest; seen = r.seen }) a
    ∙ ap (λ x. record { scrambled = s.scrambled; hand = s.hand; ahead = x; ending = r.ending; frames = r.frames; rest = r.rest; seen = r.seen }) b
    ∙ ap (λ x. record { scrambled = s.scrambled; hand = s.hand; ahead = s.ahead; ending = x; frames = r.frames; rest = r.rest; seen = r.seen }) c
    ∙ ap (λ x. record { scrambled = s.scrambled; hand = s.hand; ahead = s.ahead; ending = s.ending; frames = x; rest = r.rest; seen = r.seen }) d
    ∙ ap (λ x. record { scrambled = s.scrambled; hand = s.hand; ahead = s.ahead; ending = s.ending; frames = s.frames; rest = x; seen = r.seen }) e
    ∙ ap (λ x. record { scrambled = s.scrambled; hand = s.hand; ahead = s.ahead; ending = s.ending; frames = s.frames; rest = s.rest; seen = x }) f

false_not_true : false ≢ true
false_not_true e = cc

pub not_full : (reading : Reading) (b : Bool) → b ≡ false → (IsTrue b ↔ (reading ≡ Full)) → reading ≢ Full
not_full reading true e h f = cc
not_full reading false e h f = false_not_true (h.1 f)

pub is_full : (reading : Reading) (b : Bool) → b ≡ true → (IsTrue b ↔ (reading ≡ Full)) → reading ≡ Full
is_full reading true e h = h.0 refl
is_full reading false e h = absurd (cc)

pub not_open : (ending : Ending) (b : Bool) → b ≡ false → (IsTrue b ↔ (ending ≡ Open)) → ending ≢ Open
not_open ending true e h f = cc
not_open ending false e h f = false_not_true (h.1 f)

pub is_opened : (ending : Ending) (b : Bool) → b ≡ true → (IsTrue b ↔ (ending ≡ Open)) → ending ≡ Open
is_opened ending true e h = h.0 refl
is_opened ending false e h = absurd (cc)

-- the reading says whether there is a frame
pub look_by : (reading : Reading) (result : Bool) (old : ReaderView) (was is : InView) (frame : List ℕ) (new : ReaderView) → (IsTrue result ↔ (reading ≡ Full)) → old.ahead ≡ None → old.ending ≡ Open → FrameRead old.scrambled reading was frame is
    → new.scrambled ≡ old.scrambled → new.hand ≡ old.hand → new.ahead ≡ (if result then Some frame else None) → new.ending ≡ ending_after reading old.ending → new.frames ≡ old.frames → new.rest ≡ left_after reading old.rest → new.seen ≡ old.seen → LooksAhead result old was new is
look_by reading true old was is frame new said e opened f same hand ahead ending frames rest seen =
    let full = said.0 refl in
    look_whole reading old was is frame new e opened full f (same_view new (record old { ahead = Some frame }) same hand ahead (ending ∙ ap (λ r. ending_after r old.ending) full) frames (rest ∙ ap (λ r. left_after r old.rest) full) seen)
look_by reading false old was is frame new said e opened f same hand ahead ending frames rest seen =
    look_short reading old was is frame new e opened (λ full. false_not_true (said.1 full)) f (same_view new (with_reading reading old) same hand (ahead ∙ sym e) ending frames rest seen)
