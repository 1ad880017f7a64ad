-- The steps of an aligner.
use Rattle.std.proofs.Common.{◌≡◌, ◌<◌, ◌≤◌, ◌+◌, ◌-◌, ℕ, Bool, true, false, if◌then◌else◌, List, [], ◌∷◌, ◌++◌, length, get_or, take, drop, arith, refl, sym, ap, subst, ◌∙◌, inl, inr, append_assoc, append-nil, length-append, length-drop}
use Rattle.std.proofs.lemmas.List.{take_at, drop_at, drop-append-le, take_more}
use Rattle.std.proofs.Math.Seq.{take-add, take-length}
use Rattle.std.proofs.lemmas.Bool.{cases_lt}
use Rattle.odu_client.specs.AlignedRuns.{has_fas, misses_after, is_signal, Arrival, Broken, arrival_of, whole_frame, searching, arrivals}
use Rattle.odu_client.specs.Aligner.{AlignerState, to_come, HasAligned, news, Aligns, AlignsBy, searches_anew, from_search, from_frame}
use Rattle.odu_client.specs.Steps.Aligner.{Goes, GoesBy}
use Rattle.odu_client.specs.declared.aligned.Aligned.{Aligned}
use Rattle.odu_client.specs.declared.aligned.Aligned.TheVariants as aligned
use Rattle.odu_client.proofs.Arriving.{search_step}
use Rattle.odu_client.proofs.Fronts.{has_fas-front, misses-front, short_none, frame_meets, frame_breaks, frame_none, long_frame}

abbrev pub search_at : ℕ → List ℕ → AlignerState
search_at misses held = record { searches = true; misses = misses; held = held }

abbrev pub frame_at : ℕ → List ℕ → AlignerState
frame_at misses held = record { searches = false; misses = misses; held = held }

joined : (held : List ℕ) (byte : ℕ) (more : List ℕ) → held ++ (byte ∷ more) ≡ (held ++ byte ∷ []) ++ more
joined held byte more = sym (append_assoc held (byte ∷ []) more)

more_size : (front more : List ℕ) (n : ℕ) → n ≤ length front → n ≤ length (front ++ more)
more_size front more n h = let e = length-append front more in omega arith

-- fewer bytes than the FAS has
pub search_keeps : (misses byte : ℕ) (held frame : List ℕ) → length (held ++ byte ∷ []) < 6 → Goes (search_at misses held) byte aligned.Nothing frame (search_at misses (held ++ byte ∷ []))
search_keeps misses byte held frame short = record {
  each = λ more. ap from_search (joined held byte more);
  none = ap from_search (append-nil (held ++ byte ∷ [])) ∙ short_none (held ++ byte ∷ []) short;
}

-- the FAS was found
pub search_finds : (misses byte : ℕ) (held frame : List ℕ) → length (held ++ byte ∷ []) ≡ 6 → has_fas (held ++ byte ∷ []) ≡ true → Goes (search_at misses held) byte aligned.Nothing frame (frame_at 0 (held ++ byte ∷ []))
search_finds misses byte held frame size fas = record {
  each = λ more. ap from_search (joined held byte more) ∙ found more;
  none = ap (from_frame 0) (append-nil now) ∙ frame_none 0 now (omega arith) (λ _. few);
}
  where
    now : List ℕ
    now = held ++ byte ∷ []

    zero_is : misses_after 0 now ≡ 0
    zero_is = ap (λ (b : Bool). if b then 0 else 0 + 1) fas

    few : misses_after 0 now < 5
    few = omega (arith, zero_is)

    found : (more : List ℕ) → from_search (now ++ more) ≡ from_frame 0 (now ++ more)
    found more =
        let all : 6 ≤ length (now ++ more) = more_size now more 6 (omega arith) in
        let has : has_fas (now ++ more) ≡ true = has_fas-front now more (omega arith) ∙ fas in
        let none : misses_after 0 (now ++ more) ≡ 0 = misses-front 0 now more (omega arith) ∙ zero_is in
        search_step (now ++ more) ∙ ap (λ (b : Bool). if b then whole_frame (now ++ more) (from_frame 0 (drop 15296 (now ++ more))) else from_search (drop 1 (now ++ more))) has
        ∙ ap (λ m. whole_frame (now ++ more) (from_frame m (drop 15296 (now ++ more)))) (sym none) ∙ sym (frame_meets 0 (now ++ more) all (omega (arith, none)))

-- it was not: the search goes on one byte further
pub search_slides : (misses byte : ℕ) (held next frame : List ℕ) → length (held ++ byte ∷ []) ≡ 6 → has_fas (held ++ byte ∷ []) ≡ false → next ≡ drop 1 (held ++ byte ∷ [])
    → Goes (search_at misses held) byte aligned.Nothing frame (search_at misses next)
search_slides misses byte held next frame size other e = record {
  each = λ more.
      let now = held ++ byte ∷ [] in
      let has : has_fas (now ++ more) ≡ false = has_fas-front now more (omega arith) ∙ other in
      ap from_search (joined held byte more) ∙ search_step (now ++ more) ∙ ap (λ (b : Bool). if b then whole_frame (now ++ more) (from_frame 0 (drop 15296 (now ++ more))) else from_search (drop 1 (now ++ more))) has
      ∙ ap from_search (drop-append-le 1 now more (omega arith) ∙ ap (λ bytes. bytes ++ more) (sym e));
  none = ap from_search (append-nil next) ∙ short_none next (let s = length-drop 1 (held ++ byte ∷ []) in let d = ap length e in omega arith);
}

-- the fifth frame in a row without the FAS
pub frame_given_up : (misses anew byte : ℕ) (held frame : List ℕ) → length (held ++ byte ∷ []) ≡ 6 → 5 ≤ misses_after misses (held ++ byte ∷ []) → Goes (frame_at misses held) byte aligned.Break frame (search_at anew [])
unfolding searching
frame_given_up misses anew byte held frame size many = record {
  each = λ more.
      let now = held ++ byte ∷ [] in
      let count = misses-front misses now more (omega arith) in
      ap (from_frame misses) (joined held byte more) ∙ frame_breaks misses (now ++ more) (more_size now more 6 (omega arith)) (omega (arith, count)) ∙ ap (λ bytes. Broken ∷ from_search bytes) (drop_at now more 6 size);
  none = refl;
}

-- a frame that is not yet whole
pub frame_keeps : (misses byte : ℕ) (held frame : List ℕ) → length (held ++ byte ∷ []) < 15296 → (6 ≤ length (held ++ byte ∷ []) → misses_after misses (held ++ byte ∷ []) < 5)
    → Goes (frame_at misses held) byte aligned.Nothing frame (frame_at misses (held ++ byte ∷ []))
frame_keeps misses byte held frame short few = record {
  each = λ more. ap (from_frame misses) (joined held byte more);
  none = ap (from_frame misses) (append-nil (held ++ byte ∷ [])) ∙ frame_none misses (held ++ byte ∷ []) short few;
}

-- a whole frame
pub frame_ends : (r : Aligned) (misses byte count : ℕ) (held frame : List ℕ) → length (held ++ byte ∷ []) ≡ 15296 → misses_after misses (held ++ byte ∷ []) < 5 → count ≡ misses_after misses (held ++ byte ∷ [])
    → news r frame ≡ arrival_of (held ++ byte ∷ []) ∷ [] → Goes (frame_at misses held) byte r frame (frame_at count [])
unfolding searching
frame_ends r misses byte count held frame size few counted arrived = record {
  each = λ more.
      let now = held ++ byte ∷ [] in
      let same = misses-front misses now more (omega arith) in
      let all : 15296 ≤ length (now ++ more) = more_size now more 15296 (omega arith) in
      ap (from_frame misses) (joined held byte more) ∙ frame_meets misses (now ++ more) (more_size now more 6 (omega arith)) (omega (arith, same)) ∙ long_frame (now ++ more) (from_frame (misses_after misses (now ++ more)) (drop 15296 (now ++ more))) all
      ∙ ap (λ bytes. arrival_of bytes ∷ from_frame (misses_after misses (now ++ more)) (drop 15296 (now ++ more))) (take_at now more 15296 size)
      ∙ ap (λ bytes. arrival_of now ∷ from_frame (misses_after misses (now ++ more)) bytes) (drop_at now more 15296 size)
      ∙ ap (λ m. arrival_of now ∷ from_frame m more) (same ∙ sym counted) ∙ ap (λ (events : List Arrival). events ++ from_frame count more) (sym arrived);
  none = refl;
}

pub news_whole : (frame now : List ℕ) → frame ≡ now → is_signal now ≡ false → news aligned.Whole frame ≡ arrival_of now ∷ []
news_whole frame now e f = rw (f, e) refl

pub news_break : (frame now : List ℕ) → is_signal now ≡ true → news aligned.Break frame ≡ arrival_of now ∷ []
news_break frame now f = rw f refl

-- a step after those before it
pub aligns : (read : List ℕ) (old new : AlignerState) (byte : ℕ) (r : Aligned) (frame : List ℕ) → Goes old byte r frame new → HasAligned read old → Aligns read byte r frame new
aligns read old new byte r frame g h = record {
  arrived = arrived;
  aligned = record { whole = λ more. ap arrivals (append_assoc read (byte ∷ []) more) ∙ h.whole (byte ∷ more) ∙ ap (λ events. arrivals read ++ events) (g.each more) ∙ sym (append_assoc (arrivals read) (news r frame) (to_come new more)) ∙ ap (λ events. events ++ to_come new more) (sym arrived) };
}
  where
    arrived : arrivals (read ++ byte ∷ []) ≡ arrivals read ++ news r frame
    arrived = h.whole (byte ∷ []) ∙ ap (λ events. arrivals read ++ events) (g.each [] ∙ ap (λ events. news r frame ++ events) g.none ∙ append-nil (news r frame))

pub anew : HasAligned [] searches_anew
unfolding arrivals searching
anew = record { whole = λ more. refl }

-- ---- the same, for what an aligner is seen to be before and after

pub keeps_search : (s : Bool) (misses byte : ℕ) (held now frame : List ℕ) → s ≡ true → now ≡ held ++ byte ∷ [] → length now < 6
    → Goes (record { searches = s; misses = misses; held = held }) byte aligned.Nothing frame (record { searches = s; misses = misses; held = now })
keeps_search s misses byte held now frame e f short = let g = ap length f in rw (e, f) (search_keeps misses byte held frame (omega arith))

pub finds : (s : Bool) (misses byte : ℕ) (held now frame : List ℕ) → s ≡ true → now ≡ held ++ byte ∷ [] → length now ≡ 6 → has_fas now ≡ true
    → Goes (record { searches = s; misses = misses; held = held }) byte aligned.Nothing frame (record { searches = false; misses = 0; held = now })
finds s misses byte held now frame e f size fas = rw (e, f) (search_finds misses byte held frame (sym (ap length f) ∙ size) (sym (ap has_fas f) ∙ fas))

pub slides : (s : Bool) (misses byte : ℕ) (held now next frame : List ℕ) → s ≡ true → now ≡ held ++ byte ∷ [] → length now ≡ 6 → has_fas now ≡ false → next ≡ drop 1 now
    → Goes (record { searches = s; misses = misses; held = held }) byte aligned.Nothing frame (record { searches = s; misses = misses; held = next })
slides s misses byte held now next frame e f size other g = rw e (search_slides misses byte held next frame (sym (ap length f) ∙ size) (sym (ap has_fas f) ∙ other) (g ∙ ap (drop 1) f))

pub gives_up : (s : Bool) (misses byte : ℕ) (held now next frame : List ℕ) → s ≡ false → now ≡ held ++ byte ∷ [] → length now ≡ 6 → 5 ≤ misses_after misses now → next ≡ []
    → Goes (record { searches = s; misses = misses; held = held }) byte aligned.Break frame (record { searches = true; misses = 0; held = next })
gives_up s misses byte held now next frame e f size many g = let h = ap (misses_after misses) f in rw (e, g) (frame_given_up misses 0 byte held frame (sym (ap length f) ∙ size) (omega arith))

pub keeps_frame : (s : Bool) (misses byte : ℕ) (held now frame : List ℕ) → s ≡ false → now ≡ held ++ byte ∷ [] → length now < 15296 → (6 ≤ length now → misses_after misses now < 5)
    → Goes (record { searches = s; misses = misses; held = held }) byte aligned.Nothing frame (record { searches = s; misses = misses; held = now })
keeps_frame s misses byte held now frame e f short few = rw (e, f) (frame_keeps misses byte held frame (let g = ap length f in omega arith) (λ six. let g = ap length f in let h = ap (misses_after misses) f in let k = few (omega arith) in omega arith))

pub ends : (r : Aligned) (s : Bool) (misses byte count : ℕ) (held now next frame : List ℕ) → s ≡ false → now ≡ held ++ byte ∷ [] → length now ≡ 15296 → misses_after misses now < 5 → count ≡ misses_after misses now
    → news r frame ≡ arrival_of now ∷ [] → next ≡ [] → Goes (record { searches = s; misses = misses; held = held }) byte r frame (record { searches = s; misses = count; held = next })
ends r s misses byte count held now next frame e f size few counted arrived g =
    let h = ap (misses_after misses) f in
    rw (e, g) (frame_ends r misses byte count held frame (sym (ap length f) ∙ size) (omega arith) (counted ∙ h) (arrived ∙ ap (λ bytes. arrival_of bytes ∷ []) f))

-- a frame that was not given up goes on
pub still_few : (misses byte : ℕ) (held now : List ℕ) → now ≡ held ++ byte ∷ [] → (6 ≤ length held → misses_after misses held < 5) → (length now ≡ 6 → misses_after misses now < 5) → 6 ≤ length now → misses_after misses now < 5
still_few misses byte held now f before here six =
    elim (cases_lt (length held) 6) [
      | inl short ↦ here (let g = ap length f in let h = length-append held (byte ∷ []) in omega arith)
      | inr long ↦ (let h = ap (misses_after misses) f in let k = misses-front misses held (byte ∷ []) long in let b = before long in omega arith)
    ]

pub fresh_aligned : (held : List ℕ) → held ≡ [] → HasAligned [] (record { searches = true; misses = 0; held = held })
fresh_aligned held e = rw e anew

pub few_here : (misses : ℕ) (text now : List ℕ) → text ≡ now → (length text ≡ 6 → misses_after misses text < 5) → length now ≡ 6 → misses_after misses now < 5
few_here misses text now e h = rw (← e) h

pub many_here : (misses : ℕ) (text now : List ℕ) → text ≡ now → 5 ≤ misses_after misses text → 5 ≤ misses_after misses now
many_here misses text now e h = rw (← e) h

-- ---- many bytes at once

pub passes : (s : Bool) (misses : ℕ) (held bytes now frame : List ℕ) → s ≡ false → now ≡ held ++ bytes → length now < 15296 → 6 ≤ length held → misses_after misses held < 5
    → GoesBy (record { searches = s; misses = misses; held = held }) bytes aligned.Nothing frame (record { searches = s; misses = misses; held = now })
passes s misses held bytes now frame e f short six few = rw (e, f) (record {
  each = λ more. ap (from_frame misses) (sym (append_assoc held bytes more));
  none = ap (from_frame misses) (append-nil (held ++ bytes)) ∙ frame_none misses (held ++ bytes) (let g = ap length f in omega arith) (λ _. let h = misses-front misses held bytes six in omega arith);
})

pub aligns_by : (read bytes : List ℕ) (old new : AlignerState) (r : Aligned) (frame : List ℕ) → GoesBy old bytes r frame new → HasAligned read old → AlignsBy read bytes r frame new
aligns_by read bytes old new r frame g h = record {
  arrived = arrived;
  aligned = record { whole = λ more. ap arrivals (append_assoc read bytes more) ∙ h.whole (bytes ++ more) ∙ ap (λ events. arrivals read ++ events) (g.each more) ∙ sym (append_assoc (arrivals read) (news r frame) (to_come new more)) ∙ ap (λ events. events ++ to_come new more) (sym arrived) };
}
  where
    arrived : arrivals (read ++ bytes) ≡ arrivals read ++ news r frame
    arrived = ap (λ b. arrivals (read ++ b)) (sym (append-nil bytes)) ∙ h.whole (bytes ++ []) ∙ ap (λ events. arrivals read ++ events) (g.each [] ∙ ap (λ events. news r frame ++ events) g.none ∙ append-nil (news r frame))

pub aligns_none : (read frame : List ℕ) (state : AlignerState) → HasAligned read state → AlignsBy read [] aligned.Nothing frame state
aligns_none read frame state h = record {
  arrived = ap arrivals (append-nil read) ∙ sym (append-nil (arrivals read));
  aligned = (let P : List ℕ → Type 0 = λ bytes. HasAligned bytes state in subst P (sym (append-nil read)) h);
}

pub passes_few : (misses : ℕ) (held bytes now : List ℕ) → now ≡ held ++ bytes → 6 ≤ length held → misses_after misses held < 5 → misses_after misses now < 5
passes_few misses held bytes now f six few = let g = ap (misses_after misses) f in let h = misses-front misses held bytes six in omega arith

-- bytes without news, and what comes behind them
pub by_then : (read x y all : List ℕ) (r : Aligned) (f g : List ℕ) (a b : AlignerState) → all ≡ x ++ y → AlignsBy read x aligned.Nothing f a → AlignsBy (read ++ x) y r g b → AlignsBy read all r g b
by_then read x y all r f g a b e h k = rw e (record {
  arrived = ap arrivals (sym (append_assoc read x y)) ∙ k.arrived ∙ ap (λ events. events ++ news r g) (h.arrived ∙ append-nil (arrivals read));
  aligned = rw (← append_assoc read x y) k.aligned;
})

pub by_byte : (read : List ℕ) (byte : ℕ) (r : Aligned) (f : List ℕ) (a : AlignerState) → Aligns read byte r f a → AlignsBy read (byte ∷ []) r f a
by_byte read byte r f a h = record { arrived = h.arrived; aligned = h.aligned }

-- so many bytes of a list without news, and more of it behind them
pub passed_on : (read bytes : List ℕ) (done k : ℕ) (f g : List ℕ) (a b : AlignerState) → AlignsBy read (take done bytes) aligned.Nothing f a
    → AlignsBy (read ++ take done bytes) (take k (take (length bytes - done) (drop done bytes))) aligned.Nothing g b → AlignsBy read (take (done + k) bytes) aligned.Nothing g b
passed_on read bytes done k f g a b h j =
    let rest : take (length bytes - done) (drop done bytes) ≡ drop done bytes = rw (← length-drop done bytes) (take-length (drop done bytes)) in
    by_then read (take done bytes) (take k (take (length bytes - done) (drop done bytes))) (take (done + k) bytes) aligned.Nothing f g a b (take-add done k bytes ∙ ap (λ r. take done bytes ++ take k r) (sym rest)) h j

pub stepped_on : (read bytes : List ℕ) (done : ℕ) (r : Aligned) (f g : List ℕ) (a b : AlignerState) → done < length bytes → AlignsBy read (take done bytes) aligned.Nothing f a → Aligns (read ++ take done bytes) (get_or bytes done 0) r g b
    → AlignsBy read (take (done + 1) bytes) r g b
stepped_on read bytes done r f g a b less h j = by_then read (take done bytes) (get_or bytes done 0 ∷ []) (take (done + 1) bytes) r f g a b (take_more bytes done 0 less) h (by_byte (read ++ take done bytes) (get_or bytes done 0) r g b j)

pub none_on : (read bytes : List ℕ) (r : Aligned) (f : List ℕ) (a : AlignerState) (q : Aligned) → r ≡ q → AlignsBy read bytes r f a → AlignsBy read bytes q f a
none_on read bytes r f a q e h = rw (← e) h
