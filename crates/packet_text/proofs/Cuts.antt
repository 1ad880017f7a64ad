-- How a cutter goes on with a line, block by block, and cuts it.
use Rattle.std.proofs.Common.{◌≡◌, ◌≢◌, ◌<◌, ◌≤◌, ◌+◌, ◌-◌, ◌%◌, inl, inr, ℕ, Bool, true, false, List, [], ◌∷◌, ◌++◌, length, take, drop, arith, refl, sym, ap, ◌∙◌, append_assoc, append-nil, length-append}
use Rattle.std.proofs.lemmas.List.{drop-drop, drop-take}
use Rattle.port_base.specs.Views.{InView}
use Rattle.port_base.proofs.GivenLaws.{gave_none, gave_twice}
use Rattle.packet_text.specs.TextLines.{has_lf}
use Rattle.packet_text.specs.Steps.Carrying.{Carried, NoneCarried}
use Rattle.packet_text.specs.Cutting.{CutView}
use Rattle.packet_text.specs.Steps.Cutting.{GoesOnBy, BlockCame, BlockLost, Came, Goes, Met, Cuts, Loses}
use Rattle.packet_text.specs.declared.cutter.Cut.{Cut}
use Rattle.packet_text.specs.declared.cutter.Cut.TheVariants.{Last, End}
use Rattle.packet_text.proofs.Lists.{clean_both}

-- the bytes behind a part of those in hand
pub hand_after : (block : List ℕ) (at end n : ℕ) → end ≤ length block → at + n ≤ end → take (end - (at + n)) (drop (at + n) block) ≡ drop n (take (end - at) (drop at block))
hand_after block at end n within fits =
    let front : List ℕ = take n (drop at block) in
    let e : drop n (drop at block) ≡ drop (at + n) block = drop-drop n at block in
    let m : end - at ≡ n + (end - (at + n)) = omega arith in
    rw (m, ← e) (sym (drop-take n (end - (at + n)) (drop at block)))

-- the bytes in hand up to an LF went on with the line
pub by_some : (line line' hand hand' : List ℕ) (ended : Bool) (n : ℕ) → Carried line hand n line' → hand' ≡ drop (n + 1) hand
    → GoesOnBy true (record { line = line; hand = hand; ended = ended }) (record { line = line'; hand = hand'; ended = ended })
by_some line line' hand hand' ended n h rest = record {
  ended = refl;
  clean = λ k. rw h.line (clean_both line (take n hand) k h.clean);
  lf = λ _. rw (rest, h.line) (ap (λ bytes. line ++ bytes) h.parts ∙ sym (append_assoc line (take n hand) (10 ∷ drop (n + 1) hand)));
  all = λ e. absurd (cc);
}

pub by_none : (line line' hand hand' : List ℕ) (ended : Bool) → NoneCarried line hand line' → hand' ≡ []
    → GoesOnBy false (record { line = line; hand = hand; ended = ended }) (record { line = line'; hand = hand'; ended = ended })
by_none line line' hand hand' ended h none = record {
  ended = refl;
  clean = λ k. rw h.line (clean_both line hand k h.clean);
  lf = λ e. absurd (cc);
  all = λ _. (h.line, none);
}

-- what is not so is false
pub flag : (b : Bool) → (b ≡ true → ⊥) → b ≡ false
flag true f = absurd (f refl)
flag false f = refl

-- while the end is not seen, it was not before
pub was_open : {hand further : List ℕ} {ended seen : Bool} {was is : InView} → Came hand ended was further seen is → seen ≡ false → ended ≡ false
was_open {ended = ended} k still = flag ended (λ e. let q = (k.quiet e).1 in cc)

-- a line begins with the bytes in hand
pub goes_none : (line hand : List ℕ) (ended : Bool) (p : InView) → line ≡ [] → Goes hand ended p (record { line = line; hand = hand; ended = ended }) p
unfolding has_lf
goes_none line hand ended p none = rw none (record {
  further = [];
  reads = record { gave = gave_none p; quiet = λ e. (refl, e); over = λ f. f; unended = λ _. refl; alive = refl; blocks = λ _. refl; reads = inl (refl, refl) };
  clean = refl;
  all = append-nil hand;
})

pub few_none : (line : List ℕ) → line ≡ [] → length line ≤ 131055
few_none line none = rw none (omega arith)

-- the bytes in hand go on with the line, and have no LF
pub goes_all : {hand : List ℕ} {ended found : Bool} {p q : InView} {b c : CutView} → found ≡ false → GoesOnBy found b c → Goes hand ended p b q → Goes hand ended p c q
goes_all {b = b} {c = c} no_lf g h =
    let all = g.all no_lf in
    record { further = h.further; reads = rw g.ended h.reads; clean = g.clean h.clean; all = h.all ∙ sym all.0 ∙ sym (ap (λ bytes. c.line ++ bytes) all.1 ∙ append-nil c.line) }

-- a block goes on with the line
pub goes_block : {hand : List ℕ} {ended : Bool} {p q s : InView} {c d : CutView} → c.hand ≡ [] → c.ended ≡ false → length c.line ≤ 131055 → BlockCame c q d s → Goes hand ended p c q → Goes hand ended p d s
goes_block {hand = hand} {ended = ended} {p = p} {q = q} {s = s} {c = c} {d = d} none open_yet short k h =
    let all : hand ++ h.further ≡ c.line = h.all ∙ ap (λ bytes. c.line ++ bytes) none ∙ append-nil c.line in
    let blocks : length h.further % 4096 ≡ 0 = h.reads.blocks open_yet in
    let still : ended ≡ false = was_open h.reads open_yet in
    record {
      further = h.further ++ d.hand;
      reads = record {
        gave = gave_twice p q s h.further d.hand h.reads.gave k.gave;
        quiet = λ e. absurd (cc);
        over = λ _. k.over;
        unended = λ e. k.unended e ∙ h.reads.unended open_yet;
        alive = k.alive ∙ h.reads.alive;
        blocks = λ e. (let size = k.whole e in rw (length-append h.further d.hand) (omega arith));
        reads = inr (record {
          before = h.further;
          last = d.hand;
          parts = refl;
          blocks = blocks;
          most = k.most;
          whole = λ e. rw (k.whole e) refl;
          part = k.part;
          still_open = still;
          clean = rw all h.clean;
          short = rw all short;
        });
      };
      clean = rw k.line h.clean;
      all = sym (append_assoc hand h.further d.hand) ∙ ap (λ bytes. bytes ++ d.hand) (all ∙ sym k.line);
    }

-- such a line is cut
pub cuts_by : {hand : List ℕ} {ended found : Bool} {p q : InView} {b c : CutView} (r : Cut) → GoesOnBy found b c → (h : Goes hand ended p b q) → Met r (hand ++ h.further) c → Cuts r hand ended p c q
cuts_by r g h met = record { further = h.further; reads = rw g.ended h.reads; clean = g.clean h.clean; met = met }

-- the text has ended
pub cuts_close : {hand : List ℕ} {ended found : Bool} {p q : InView} {b c : CutView} (r : Cut) → found ≡ false → GoesOnBy found b c → Goes hand ended p b q → c.ended ≡ true
    → (c.line ≢ [] → r ≡ Last) → (c.line ≡ [] → r ≡ End) → Cuts r hand ended p c q
cuts_close {hand = hand} {ended = ended} {p = p} {q = q} {c = c} r no_lf g h over last end = by_line c.line refl
  where
    by_line : (line : List ℕ) → c.line ≡ line → Cuts r hand ended p c q
    by_line [] e = rw (end e) (cuts_by End g h (h.all ∙ sym (g.all no_lf).0 ∙ e, over))
    by_line (x ∷ xs) e = let some : c.line ≢ [] = λ none. (let f : x ∷ xs ≡ [] = sym e ∙ none in cc) in rw (last some) (cuts_by Last g h (h.all ∙ sym (g.all no_lf).0, (g.all no_lf).1, over, some))

-- the place died
pub loses : {hand : List ℕ} {ended : Bool} {p q s : InView} {c d : CutView} → d ≡ record c { hand = [] } → c.hand ≡ [] → c.ended ≡ false → length c.line ≤ 131055 → BlockLost q s → Goes hand ended p c q → Loses hand ended p d s
loses {q = q} {c = c} same none still few lost h = rw same (record {
  mid = q;
  goes = record { further = h.further; reads = h.reads; clean = h.clean; all = h.all ∙ ap (λ bytes. c.line ++ bytes) none };
  none = refl;
  still = still;
  few = few;
  lost = lost;
})

-- more bytes than this are not read for one line
pub left : Bool → ℕ → ℕ
left true n = 0
left false n = 200000 - n

pub left_less : {found : Bool} {q s : InView} {b c d : CutView} → found ≡ false → GoesOnBy found b c → c.ended ≡ false → length c.line ≤ 131055 → BlockCame c q d s
    → left d.ended (length d.line + length d.hand) < left b.ended (length b.line + length b.hand)
unfolding left
left_less {b = b} {c = c} {d = d} no_lf g still short k = rw (sym g.ended ∙ still) (by_flag d.ended refl)
  where
    size : length c.line ≡ length b.line + length b.hand
    size = ap length (g.all no_lf).0 ∙ length-append b.line b.hand

    by_flag : (t : Bool) → d.ended ≡ t → left t (length d.line + length d.hand) < 200000 - (length b.line + length b.hand)
    by_flag true e = omega (arith, short, size)
    by_flag false e = let w = k.whole e in let l = ap length k.line in omega (arith, short, size, w, l)

pub hand_none : (n : ℕ) (bytes : List ℕ) → take (n - n) bytes ≡ []
hand_none n bytes = let e : n - n ≡ 0 = omega arith in rw e refl
