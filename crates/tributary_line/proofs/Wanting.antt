-- What was taken of a line after the last turn of a walk.
use Rattle.std.proofs.Common.{◌≡◌, ◌<◌, ◌≢◌, ◌≤◌, ◌+◌, ◌*◌, ◌∙◌, ℕ, zero, suc, Bool, true, false, cond, List, Option, Some, None, length, min, max, refl, sym, ap, subst, arith}
use Rattle.std.specs.Prelude.{nat_le, slice_index}
use Rattle.line_side.specs.LineFile.{mfas_of}
use Rattle.line_side.specs.LineStands.{LineView, IsLine}
use Rattle.line_side.specs.Reader.{HasRead, ReaderView}
use Rattle.line_side.specs.declared.ending.Ending.{Ending}
use Rattle.line_side.specs.declared.ending.Ending.TheVariants.{Open, Seen, Died}
use Rattle.multiframe.specs.LineTurns.{Lock, LineState, Hunting, Locked, Ended, Outcome, CutShort, Lost, Whole, lock_from, least_start, outcome_of, after_outcome, after_hunt, after_turn, line_state, wanted, wanted_in, wanted_from, wanted_so_far, used_in}
use Rattle.tributary_line.specs.TurnsDone.{frames_wanted, turns_of}

-- ---- between turns nothing more is wanted than by the turns before

after_locked : (size : ℕ) (ms : List ℕ) (lock : Lock) (outcome : Outcome) → wanted_in size ms (after_outcome size lock outcome) 0 ≤ lock.frame + size
after_locked size ms lock CutShort = omega arith
after_locked size ms lock Lost = omega arith
after_locked size ms lock Whole = omega arith

after_none : (size : ℕ) (ms : List ℕ) (i n : ℕ) (more : Bool) → wanted_in size ms (cond more (Hunting (i + size)) Ended) 0 ≤ n
after_none size ms i n true = omega arith
after_none size ms i n false = omega arith

two_or_more : (x a size : ℕ) → x ≤ a + size → x ≤ a + max 2 size
two_or_more x a size less = omega (arith, less)

after_hunting : (size : ℕ) (ms : List ℕ) (i : ℕ) (least : Option ℕ) → wanted_in size ms (after_hunt size ms i (lock_from ms i least)) 0 ≤ wanted_from size ms i least size
after_hunting size ms i None = after_none size ms i (wanted_from size ms i None size) (nat_le (i + size) (length ms))
after_hunting size ms i (Some n) =
    let lock : Lock = lock_at i n in
    two_or_more (wanted_in size ms (after_outcome size lock (outcome_of size ms lock)) 0) (i + n) size (after_locked size ms lock (outcome_of size ms lock))
  where
    lock_at : (i n : ℕ) → Lock
    lock_at i n = record { frame = i + n; expected = slice_index ms (i + n) }

after_any : (size : ℕ) (ms : List ℕ) (st : LineState) → 1 ≤ size → wanted_in size ms (after_turn size ms st) 0 ≤ wanted_in size ms st size
after_any zero ms st some = absurd (omega (arith, some))
after_any (suc k) ms (Hunting i) some = after_hunting (suc k) ms i (least_start (suc k) ms i (suc k))
after_any (suc k) ms (Locked lock) some = after_locked (suc k) ms lock (outcome_of (suc k) ms lock)
after_any (suc k) ms Ended some = omega arith

wanted_more : (size : ℕ) (ms : List ℕ) (t : ℕ) → wanted size ms (suc t) ≡ max (wanted size ms t) (wanted_in size ms (line_state size ms t) size)
unfolding wanted
wanted_more size ms t = refl

line_state_more : (size : ℕ) (ms : List ℕ) (t : ℕ) → line_state size ms (suc t) ≡ after_turn size ms (line_state size ms t)
unfolding line_state
line_state_more size ms t = refl

line_state_first : (size : ℕ) (ms : List ℕ) → line_state size ms 0 ≡ Hunting 0
unfolding line_state
line_state_first size ms = refl

none_wanted : (size : ℕ) (ms : List ℕ) (t : ℕ) → 1 ≤ size → wanted_in size ms (line_state size ms t) 0 ≤ wanted size ms t
none_wanted size ms zero some = subst (λ s. wanted_in size ms s 0 ≤ wanted size ms 0) (sym (line_state_first size ms)) (omega arith)
none_wanted size ms (suc t) some =
    let after = subst (λ s. wanted_in size ms s 0 ≤ wanted_in size ms (line_state size ms t) size) (sym (line_state_more size ms t)) (after_any size ms (line_state size ms t) some) in
    omega (arith, after, wanted_more size ms t)

between : (size : ℕ) (ms : List ℕ) (t : ℕ) → 1 ≤ size → wanted_so_far size ms t 0 ≡ wanted size ms t
between size ms t some = let none = none_wanted size ms t some in omega (arith, none)

-- ---- what was taken

-- as many bytes were taken as so many frames have, or all that there are
pub record TookFrames (frames : ℕ) (available read : List ℕ) (r : ReaderView) : Type 0 where
  pub still : r.ending ≡ Open → length read ≡ 16320 * frames
  pub over : r.ending ≢ Open → (length read ≡ length available) × (length available < 16320 * frames)

took_read : (frames : ℕ) (available read : List ℕ) (u : ℕ) (r : ReaderView) → HasRead available (length read) u frames r → TookFrames frames available read r
took_read frames available read u r h = record {
  still = λ on. let s = h.still on in s.0 ∙ ap (λ n. 16320 * n) s.1;
  over = λ closed. let o = h.over closed in (o.1, omega (arith, o.2));
}

-- after t turns
pub took_turns : (size : ℕ) (available read : List ℕ) (t : ℕ) (line : LineView) → 1 ≤ size → IsLine size available (length read) t line → line.pieces ≡ 0
    → TookFrames (wanted size (mfas_of available) t) available read line.reader
took_turns size available read t line some is none =
    let used = λ (k : ℕ). used_in size (mfas_of available) (line_state size (mfas_of available) t) k in
    let has_read = subst (λ k. HasRead available (length read) (used k) (wanted_so_far size (mfas_of available) t k) line.reader) none is.read in
    took_read (wanted size (mfas_of available) t) available read (used 0) line.reader
    (subst (λ w. HasRead available (length read) (used 0) w line.reader) (between size (mfas_of available) t some) has_read)

-- after all of them
pub took_wanted : (size : ℕ) (available read : List ℕ) (t : ℕ) (line : LineView) → 1 ≤ size → IsLine size available (length read) t line → line.pieces ≡ 0 → length (turns_of size (mfas_of available)) ≡ t
    → TookFrames (frames_wanted size available) available read line.reader
took_wanted size available read t line some is none count =
    subst (λ n. TookFrames (wanted size (mfas_of available) n) available read line.reader) (sym count) (took_turns size available read t line some is none)

-- before any turn nothing is wanted
pub none_by_turns : (size : ℕ) (ms : List ℕ) → wanted size ms 0 ≡ 0
unfolding wanted
none_by_turns size ms = refl

-- so many are the least of both
pub took_least : (frames : ℕ) (available read : List ℕ) (r : ReaderView) → length read ≤ length available → TookFrames frames available read r → length read ≡ min (length available) (16320 * frames)
took_least frames available read r part h = by_ending r.ending refl
  where
    by_ending : (e : Ending) → r.ending ≡ e → length read ≡ min (length available) (16320 * frames)
    by_ending Open e = let count = h.still e in omega (arith, count, part)
    by_ending Seen e = let over = h.over (λ f. let g : Seen ≡ Open = sym e ∙ f in cc) in omega (arith, over.0, over.1)
    by_ending Died e = let over = h.over (λ f. let g : Died ≡ Open = sym e ∙ f in cc) in omega (arith, over.0, over.1)

-- in numbers
pub closed_least : (n m frames : ℕ) → n ≡ m → m < 16320 * frames → n ≡ min m (16320 * frames + 1)
closed_least n m frames a b = omega (arith, a, b)

pub open_least : (n m frames : ℕ) → n ≡ 16320 * frames → m ≡ n → n ≡ min m (16320 * frames + 1)
open_least n m frames a b = omega (arith, a, b)

pub more_least : (n more m frames : ℕ) → n ≡ 16320 * frames → more ≡ n + 1 → more ≤ m → more ≡ min m (16320 * frames + 1)
more_least n more m frames a b c = omega (arith, a, b, c)
