-- Where a multiframe may begin, by the frame in hand and the next one.
use Rattle.std.proofs.Common.{◌≡◌, ◌≢◌, ◌≤◌, ◌+◌, ◌%◌, max, ℕ, Bool, true, false, eqb, ltb, List, [], ◌++◌, Option, Some, None, length, arith, refl, sym, ap, ◌∙◌, append-nil, subst}
use Rattle.std.specs.Prelude.{slice_index, ◌&&◌, IfSome}
use Rattle.std.proofs.lemmas.Bool.Decides.{nat_tests}
use Rattle.port_base.specs.Views.{InView}
use Rattle.multiframe.specs.LineTurns.{one_if, looked_ahead, is_start, starts}
use Rattle.line_side.specs.declared.ending.Ending.{Ending}
use Rattle.line_side.specs.declared.ending.Ending.TheVariants.{Open, Seen, Died}
use Rattle.line_side.specs.LineFile.{frame_at, frame_mfas, whole_frames, mfas_of}
use Rattle.line_side.specs.Reader.{ReaderView, HasRead, count_of}
use Rattle.line_side.specs.Steps.Reader.{LookedAhead, LooksAhead, Began, Begins}
use Rattle.line_side.proofs.Giving.{step_none}
use Rattle.line_side.proofs.Mfas.{length_mfas, index_mfas}

-- what is wanted covers what is used
pub covers : (available : List ℕ) (n u w : ℕ) (r : ReaderView) → HasRead available n u w r → u + count_of r.ahead ≤ w
covers available n u w r h = by_ending r.ending refl
  where
    closed : r.ending ≢ Open → u + count_of r.ahead ≤ w
    closed other = let o = h.over other in let x = h.within in omega arith

    by_ending : (e : Ending) → r.ending ≡ e → u + count_of r.ahead ≤ w
    by_ending Open e = let s = h.still e in omega arith
    by_ending Seen e = closed (λ f. cc)
    by_ending Died e = closed (λ f. cc)

pub same_wanted : (available : List ℕ) (n u w w' : ℕ) (r : ReaderView) → w ≡ w' → HasRead available n u w r → HasRead available n u w' r
same_wanted available n u w w' r e h = let P : ℕ → Type 0 = λ w. HasRead available n u w r in subst P e h

pub same_used : (available : List ℕ) (n u u' w : ℕ) (r : ReaderView) → u ≡ u' → HasRead available n u w r → HasRead available n u' w r
same_used available n u u' w r e h = let P : ℕ → Type 0 = λ u. HasRead available n u w r in subst P e h

and_false : (a : Bool) → (a && false) ≡ false
and_false true = refl
and_false false = refl

-- the frame in hand has no MFAS with which a multiframe may begin
no_look : (size : ℕ) (available : List ℕ) (n u w : ℕ) (r : ReaderView) → r.ahead ≡ None → eqb (frame_mfas (frame_at available u) % size) 0 ≡ false → HasRead available n (u + 1) w r → Began size available n u w false r
no_look size available n u w r alone other h =
    let zero : count_of r.ahead ≡ 0 = ap count_of alone in
    let within = h.within in
    let cover = covers available n (u + 1) w r h in
    let mf = index_mfas available u (omega arith) in
    let test : eqb (slice_index (mfas_of available) u % size) 0 ≡ false = ap (λ m. eqb (m % size) 0) mf ∙ other in
    let ahead : looked_ahead size (mfas_of available) u ≡ false = ap (λ b. ltb u (length (mfas_of available)) && b) test ∙ and_false (ltb u (length (mfas_of available))) in
    let one : one_if (looked_ahead size (mfas_of available) u) ≡ 0 = ap one_if ahead in
    record {
      read = same_wanted available n (u + 1) w (max w (u + 1 + one_if (looked_ahead size (mfas_of available) u))) r (omega arith) h;
      start = ap (λ b. ltb (u + 1) (length (mfas_of available)) && (b && eqb (slice_index (mfas_of available) (u + 1)) (slice_index (mfas_of available) u + 1))) test
          ∙ and_false (ltb (u + 1) (length (mfas_of available)));
    }

pub begins_not : (size : ℕ) (old : ReaderView) (was : InView) → old.ahead ≡ None → eqb (frame_mfas old.hand % size) 0 ≡ false → Begins size false old was old was
begins_not size old was alone other = record {
  further = [];
  step = step_none old was;
  hand = refl;
  line = λ available read used w may h u e hand. rw (append-nil read)
      (no_look size available (length read) u w old alone (ap (λ frame. eqb (frame_mfas frame % size) 0) (sym hand) ∙ other) (same_used available (length read) used (u + 1) w old e h));
}

-- it has, and the next frame was looked size at
looked : (size : ℕ) (available : List ℕ) (n' u w : ℕ) (result said : Bool) (r : ReaderView) → eqb (frame_mfas (frame_at available u) % size) 0 ≡ true → u + 1 ≤ whole_frames available
    → LookedAhead available n' (u + 1) (max w (u + 1 + 1)) result r
    → (result ≡ false → said ≡ false) → (result ≡ true → IfSome r.ahead (λ frame. said ≡ starts size (frame_mfas (frame_at available u)) (frame_mfas frame)))
    → Began size available n' u w said r
looked size available n' u w result said r fits within look none some =
    let count = length_mfas available in
    let mf = index_mfas available u (omega arith) in
    let test : eqb (slice_index (mfas_of available) u % size) 0 ≡ true = ap (λ m. eqb (m % size) 0) mf ∙ fits in
    let there : ltb u (length (mfas_of available)) ≡ true = grind (arith, nat_tests) in
    let ahead : looked_ahead size (mfas_of available) u ≡ true = rw (there, test) refl in
    let one : one_if (looked_ahead size (mfas_of available) u) ≡ 1 = ap one_if ahead in
    record {
      read = same_wanted available n' (u + 1) (max w (u + 1 + 1)) (max w (u + 1 + one_if (looked_ahead size (mfas_of available) u))) r (omega arith) look.read;
      start = by_result result refl;
    }
  where
    mf : slice_index (mfas_of available) u ≡ frame_mfas (frame_at available u)
    mf = index_mfas available u (omega arith)

    by_result : (b : Bool) → result ≡ b → is_start size (mfas_of available) u ≡ said
    by_result false e =
        let end = (look.none e).0 in
        let past : ltb (u + 1) (length (mfas_of available)) ≡ false = (let count = length_mfas available in grind (arith, nat_tests)) in
        rw past (sym (none e))
    by_result true e =
        let f = look.frame e in
        let inside : ltb (u + 1) (length (mfas_of available)) ≡ true = (let l = f.0 in let count = length_mfas available in grind (arith, nat_tests)) in
        let next : slice_index (mfas_of available) (u + 1) ≡ frame_mfas (frame_at available (u + 1)) = index_mfas available (u + 1) f.0 in
        let P : Option (List ℕ) → Type 0 = λ a. IfSome a (λ frame. said ≡ starts size (frame_mfas (frame_at available u)) (frame_mfas frame)) in
        let s : said ≡ starts size (frame_mfas (frame_at available u)) (frame_mfas (frame_at available (u + 1))) = subst P f.1 (some e) in
        ap (λ b. b && starts size (slice_index (mfas_of available) u) (slice_index (mfas_of available) (u + 1))) inside
        ∙ ap (λ m. starts size m (slice_index (mfas_of available) (u + 1))) mf
        ∙ ap (λ m. starts size (frame_mfas (frame_at available u)) m) next
        ∙ sym s

pub begins_by : (size : ℕ) (result said : Bool) (old : ReaderView) (was : InView) (new : ReaderView) (is : InView) → old.ahead ≡ None → eqb (frame_mfas old.hand % size) 0 ≡ true → LooksAhead result old was new is
    → (result ≡ false → said ≡ false) → (result ≡ true → IfSome new.ahead (λ frame. said ≡ starts size (frame_mfas old.hand) (frame_mfas frame))) → Begins size said old was new is
begins_by size result said old was new is alone fits look none some = record {
  further = look.further;
  step = look.step;
  hand = look.hand;
  line = λ available read used w may h u e hand.
      let within = h.within in
      let zero : count_of old.ahead ≡ 0 = ap count_of alone in
      looked size available (length (read ++ look.further)) u w result said new
      (ap (λ frame. eqb (frame_mfas frame % size) 0) (sym hand) ∙ fits) (omega arith) (look.line available read (u + 1) w may (same_used available (length read) used (u + 1) w old e h)) none
      (λ e. let P : List ℕ → Type 0 = λ hand. IfSome new.ahead (λ frame. said ≡ starts size (frame_mfas hand) (frame_mfas frame)) in subst P hand (some e));
}

-- what is said of the frame in hand and of the next MFAS
pub some_said : (size : ℕ) (ahead : Option (List ℕ)) (first hand next : ℕ) (said : Bool) → said ≡ starts size first next → first ≡ hand → IfSome ahead (λ frame. next ≡ frame_mfas frame)
    → IfSome ahead (λ frame. said ≡ starts size hand (frame_mfas frame))
some_said size None first hand next said e f h = tt
some_said size (Some frame) first hand next said e f h = e ∙ ap (λ m. starts size m next) f ∙ ap (starts size hand) h
