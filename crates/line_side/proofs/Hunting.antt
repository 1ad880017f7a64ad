-- A hunt: frames are tried one after the other, as many as a multiframe has at most.
use Rattle.std.proofs.Common.{◌≡◌, ◌<◌, ◌≤◌, ◌+◌, ◌-◌, min, max, ℕ, zero, suc, Bool, true, false, List, [], ◌++◌, Some, None, length, arith, refl, sym, ap, ◌∙◌, append_assoc, append-nil, add-one, subst}
use Rattle.std.proofs.lemmas.Bool.{lt-ltb, le-ltb}
use Rattle.otn_base.specs.LineSlots.{slots_of}
use Rattle.otn_base.specs.declared.line_kind.LineKind.{LineKind}
use Rattle.port_base.specs.Views.{InView}
use Rattle.multiframe.specs.LineTurns.{one_if, looked_ahead, is_start, least_start, least_or}
use Rattle.line_side.specs.LineFile.{whole_frames, mfas_of}
use Rattle.line_side.specs.Reader.{ReaderView, HasRead}
use Rattle.line_side.specs.Steps.Reader.{OnAnyLine, ReadStep}
use Rattle.otn_base.specs.Counts.{saturated}
use Rattle.line_side.specs.LineStands.{LineView, taken_count}
use Rattle.line_side.specs.Steps.LineMoves.{Keeps, PassesOver, Tries, Hunts}
use Rattle.line_side.specs.declared.tried.Tried.{Tried}
use Rattle.line_side.specs.declared.tried.Tried.TheVariants.{Locks, Passes, Ends}
use Rattle.line_side.proofs.Giving.{step_none, step_twice, may_first, may_second}
use Rattle.line_side.proofs.Beginnings.{same_wanted, same_used}
use Rattle.line_side.proofs.Mfas.{length_mfas}

-- how many frames a hunt from frame i on wanted when it has passed over m frames; w were wanted before it
abbrev pub hunt_wanted : (size : ℕ) → List ℕ → (i m w : ℕ) → ℕ
hunt_wanted size ms i zero w = w
hunt_wanted size ms i (suc m) w = max w (i + suc m + one_if (looked_ahead size ms (i + m)))

-- m frames from frame i on were passed over
pub record HuntAt (size : ℕ) (available : List ℕ) (n i w m : ℕ) (line : LineView) : Type 0 where
  pub read : HasRead available n (i + m) (hunt_wanted size (mfas_of available) i m w) line.reader
  pub least : least_start size (mfas_of available) i m ≡ None

-- a hunt goes on after it has passed over m frames
pub record HuntsOn (size : ℕ) (old : LineView) (was : InView) (m : ℕ) (line : LineView) (is : InView) : Type 0 where
  pub further : List ℕ
  pub step : ReadStep old.reader was further line.reader is
  pub keeps : Keeps old line
  pub alignment : line.alignment ≡ old.alignment
  pub ended : line.ended ≡ old.ended
  pub passes_over : PassesOver old m line
  pub at : OnAnyLine old.reader line.reader further (λ available n i w. HuntAt size available n i w m line)

-- ---- the least start

least_grows : (size : ℕ) (ms : List ℕ) (i k n j : ℕ) → least_start size ms i k ≡ Some n → least_start size ms i (k + j) ≡ Some n
unfolding least_start
least_grows size ms i k n zero e = ap (least_start size ms i) (let z : k + 0 ≡ k = omega arith in z) ∙ e
least_grows size ms i k n (suc j) e = ap (least_start size ms i) (let z : k + suc j ≡ suc (k + j) = omega arith in z) ∙ ap (λ o. least_or o (is_start size ms (i + (k + j))) (k + j)) (least_grows size ms i k n j e)

past : (size : ℕ) (ms : List ℕ) (f : ℕ) → length ms ≤ f + 1 → is_start size ms f ≡ false
past size ms f h = rw (le-ltb (f + 1) (length ms) h) refl

least_past : (size : ℕ) (ms : List ℕ) (i k j : ℕ) → length ms ≤ i + k → least_start size ms i k ≡ None → least_start size ms i (k + j) ≡ None
unfolding least_start
least_past size ms i k zero h e = ap (least_start size ms i) (let z : k + 0 ≡ k = omega arith in z) ∙ e
least_past size ms i k (suc j) h e =
    ap (least_start size ms i) (let z : k + suc j ≡ suc (k + j) = omega arith in z)
    ∙ ap (λ o. least_or o (is_start size ms (i + (k + j))) (k + j)) (least_past size ms i k j h e)
    ∙ ap (λ b. least_or None b (k + j)) (past size ms (i + (k + j)) (omega arith))

least_none : (size : ℕ) (ms : List ℕ) (i : ℕ) → least_start size ms i 0 ≡ None
unfolding least_start
least_none size ms i = refl

least_next : (size : ℕ) (ms : List ℕ) (i m : ℕ) (here : Bool) → least_start size ms i m ≡ None → is_start size ms (i + m) ≡ here → least_start size ms i (m + 1) ≡ least_or None here m
unfolding least_start
least_next size ms i m here e f = rw add-one (ap (λ o. least_or o (is_start size ms (i + m)) m) e ∙ ap (λ b. least_or None b m) f)

one_most : (b : Bool) → one_if b ≤ 1
one_most true = omega arith
one_most false = omega arith

-- ---- what is wanted

pub raised_wanted : (available : List ℕ) (n u w w' : ℕ) (r : ReaderView) → whole_frames available < w → w ≤ w' → HasRead available n u w r → HasRead available n u w' r
raised_wanted available n u w w' r more up h = let within = h.within in record {
  within = h.within;
  ahead = h.ahead;
  still = λ e. absurd (let s = h.still e in omega arith);
  over = λ c. (let o = h.over c in (o.0, o.1, omega arith));
  frames = h.frames;
  rest = h.rest;
  seen = h.seen;
}

wanted_locked : (size : ℕ) (ms : List ℕ) (i m w : ℕ) → max (hunt_wanted size ms i m w) (i + m + 1 + 1) ≡ max w (i + m + 2)
wanted_locked size ms i zero w = omega arith
wanted_locked size ms i (suc m) w = let o = one_most (looked_ahead size ms (i + m)) in omega arith

wanted_next : (size : ℕ) (ms : List ℕ) (i m w : ℕ) → max (hunt_wanted size ms i m w) (i + m + 1 + one_if (looked_ahead size ms (i + m))) ≡ hunt_wanted size ms i (m + 1) w
wanted_next size ms i zero w = omega arith
wanted_next size ms i (suc m) w = rw (add-one (suc m)) (let o = one_most (looked_ahead size ms (i + m)) in omega arith)

wanted_most : (size : ℕ) (ms : List ℕ) (i m w : ℕ) → hunt_wanted size ms i m w ≤ max w (i + m + 1)
wanted_most size ms i zero w = omega arith
wanted_most size ms i (suc m) w = let o = one_most (looked_ahead size ms (i + m)) in omega arith

wanted_at : (size : ℕ) (ms : List ℕ) (i m w : ℕ) → 0 < m → hunt_wanted size ms i m w ≡ max w (i + m + one_if (looked_ahead size ms (i + m - 1)))
wanted_at size ms i zero w some = absurd (omega arith)
wanted_at size ms i (suc m) w some = ap (λ k. max w (i + suc m + one_if (looked_ahead size ms k))) (let e : i + m ≡ i + suc m - 1 = omega arith in e)

-- ---- the hunt

pub hunt_begins : (size : ℕ) (old : LineView) (was : InView) → HuntsOn size old was 0 old was
hunt_begins size old was = record {
  further = [];
  step = step_none old.reader was;
  keeps = record { kind = refl; pieces = refl; lost = refl };
  alignment = refl;
  ended = refl;
  passes_over = λ before e. omega arith;
  at = λ available read i w may h. rw (append-nil read) (record {
    read = same_used available (length read) i (i + 0) w old.reader (omega arith) h;
    least = least_none size (mfas_of available) i;
  });
}

pub hunt_passes : (size : ℕ) (old : LineView) (was : InView) (m : ℕ) (line new : LineView) (mid is : InView) → HuntsOn size old was m line mid → Tries size Passes line mid new is → HuntsOn size old was (m + 1) new is
hunt_passes size old was m line new mid is h t = record {
  further = h.further ++ t.further;
  step = step_twice old.reader line.reader new.reader was mid is h.further t.further h.step t.step;
  keeps = record { kind = t.keeps.kind ∙ h.keeps.kind; pieces = t.keeps.pieces ∙ h.keeps.pieces; lost = t.keeps.lost ∙ h.keeps.lost };
  alignment = (t.passed refl).0 ∙ h.alignment;
  ended = (t.passed refl).1 ∙ h.ended;
  passes_over = λ before e. (let x = t.passes_over (before + m) (h.passes_over before e) in omega arith);
  at = λ available read i w may r.
      let a = h.at available read i w (may_first line.reader new.reader mid is h.further t.further read available t.step may) r in
      let p = t.passes refl available (read ++ h.further) (i + m) (hunt_wanted size (mfas_of available) i m w) (may_second new.reader h.further t.further read available may) a.read in
      rw (← append_assoc read h.further t.further) (record {
        read = same_used available _ (i + m + 1) (i + (m + 1)) _ new.reader (omega arith) (same_wanted available _ (i + m + 1) _ _ new.reader (wanted_next size (mfas_of available) i m w) p.read);
        least = least_next size (mfas_of available) i m false a.least p.start;
      });
}

pub hunt_locks : (size : ℕ) (old : LineView) (was : InView) (m : ℕ) (line new : LineView) (mid is : InView) → m < size → HuntsOn size old was m line mid → Tries size Locks line mid new is → Hunts size true old was new is
hunt_locks size old was m line new mid is few h t = record {
  further = h.further ++ t.further;
  step = step_twice old.reader line.reader new.reader was mid is h.further t.further h.step t.step;
  keeps = record { kind = t.keeps.kind ∙ h.keeps.kind; pieces = t.keeps.pieces ∙ h.keeps.pieces; lost = t.keeps.lost ∙ h.keeps.lost };
  member = record { aligned = λ _. t.member.aligned refl; stays = λ f. absurd (cc); count = t.member.count ∙ ap (λ a. taken_count a + 1) h.alignment };
  locks = λ _ available read i w may r.
      let a = h.at available read i w (may_first line.reader new.reader mid is h.further t.further read available t.step may) r in
      let l = t.locks refl available (read ++ h.further) (i + m) (hunt_wanted size (mfas_of available) i m w) (may_second new.reader h.further t.further read available may) a.read in (
        m,
        rw (← append_assoc read h.further t.further) (record {
          least = ap (least_start size (mfas_of available) i) (let e : size ≡ m + 1 + (size - (m + 1)) = omega arith in e)
              ∙ least_grows size (mfas_of available) i (m + 1) m (size - (m + 1)) (least_next size (mfas_of available) i m true a.least l.start);
          locked = record {
            read = same_wanted available _ (i + m + 1) _ _ new.reader (wanted_locked size (mfas_of available) i m w) l.read;
            start = l.start;
            hand = l.hand;
            alignment = l.alignment;
            ended = l.ended ∙ h.ended;
          };
          passes_over = λ before e. (let x = t.passes_over (before + m) (h.passes_over before e) in omega arith);
        }),
      );
  fails = λ f. absurd (cc);
}

pub hunt_ends : (size : ℕ) (old : LineView) (was : InView) (m : ℕ) (line new : LineView) (mid is : InView) → m < size → HuntsOn size old was m line mid → Tries size Ends line mid new is → Hunts size false old was new is
hunt_ends size old was m line new mid is few h t = record {
  further = h.further ++ t.further;
  step = step_twice old.reader line.reader new.reader was mid is h.further t.further h.step t.step;
  keeps = record { kind = t.keeps.kind ∙ h.keeps.kind; pieces = t.keeps.pieces ∙ h.keeps.pieces; lost = t.keeps.lost ∙ h.keeps.lost };
  member = record { aligned = λ f. absurd (cc); stays = λ _. t.member.stays refl ∙ h.alignment; count = t.member.count ∙ ap (λ a. taken_count a + 0) h.alignment };
  locks = λ f. absurd (cc);
  fails = λ _ available read i w may r.
      let a = h.at available read i w (may_first line.reader new.reader mid is h.further t.further read available t.step may) r in
      let l = t.ends refl available (read ++ h.further) (i + m) (hunt_wanted size (mfas_of available) i m w) (may_second new.reader h.further t.further read available may) a.read in
      let count = length_mfas available in
      let end = l.end in
      let most = wanted_most size (mfas_of available) i m w in
      let W : ℕ = max w (i + size + one_if (looked_ahead size (mfas_of available) (i + size - 1))) in
      rw (← append_assoc read h.further t.further) (record {
        least = ap (least_start size (mfas_of available) i) (let e : size ≡ m + (size - m) = omega arith in e)
            ∙ least_past size (mfas_of available) i m (size - m) (omega arith) a.least;
        read = same_used available _ (i + m) _ _ new.reader (let e : i + m ≡ min (length (mfas_of available)) (i + size) = omega arith in e)
            (raised_wanted available _ (i + m) (max (hunt_wanted size (mfas_of available) i m w) (i + m + 1)) _ new.reader (omega arith) (omega arith) l.read);
        alignment = l.alignment ∙ h.alignment;
        ended = l.ended ∙ sym (lt-ltb (length (mfas_of available)) (i + size) (omega arith));
        passes_over = λ before e. (let x = t.passes_over (before + m) (h.passes_over before e) in
            x ∙ ap saturated (let y : before + m + 0 ≡ before + min size (length (mfas_of available) - i) = omega arith in y));
      });
}

pub hunt_fails : (size : ℕ) (old : LineView) (was : InView) (line : LineView) (is : InView) → 0 < size → old.ended ≡ false → HuntsOn size old was size line is → Hunts size false old was line is
hunt_fails size old was line is some opened h = record {
  further = h.further;
  step = h.step;
  keeps = h.keeps;
  member = record { aligned = λ f. absurd (cc); stays = λ _. h.alignment; count = (let e = ap taken_count h.alignment in omega arith) };
  locks = λ f. absurd (cc);
  fails = λ _ available read i w may r.
      let a = h.at available read i w may r in
      let count = length_mfas available in
      let within = a.read.within in
      record {
        least = a.least;
        read = same_used available _ (i + size) _ _ line.reader (let e : i + size ≡ min (length (mfas_of available)) (i + size) = omega arith in e)
            (same_wanted available _ (i + size) _ _ line.reader (wanted_at size (mfas_of available) i size w some) a.read);
        alignment = h.alignment;
        ended = h.ended ∙ opened ∙ sym (le-ltb (length (mfas_of available)) (i + size) (omega arith));
        passes_over = λ before e. h.passes_over before e ∙ ap saturated (let y : before + size ≡ before + min size (length (mfas_of available) - i) = omega arith in y);
      };
}

-- a try in the hunt of a line, whose kind stays
pub tries_as : (old : LineView) (was : InView) (m : ℕ) (tried : Tried) (line new : LineView) (mid is : InView) → HuntsOn (slots_of old.kind) old was m line mid → Tries (slots_of line.kind) tried line mid new is
    → Tries (slots_of old.kind) tried line mid new is
tries_as old was m tried line new mid is h t = let P : LineKind → Type 0 = λ k. Tries (slots_of k) tried line mid new is in subst P h.keeps.kind t
