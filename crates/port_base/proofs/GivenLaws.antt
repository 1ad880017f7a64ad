-- What places gave and got, from one moment to the next, adds up.
use Rattle.std.proofs.Common.{◌^◌, ◌<◌, ◌-◌, ◌≡◌, ◌≢◌, ◌≤◌, ◌+◌, ◌∙◌, ℕ, Bool, true, false, List, [], ◌∷◌, ◌++◌, Option, Some, None, length, take, arith, refl, sym, ap, inl, inr, append-nil, length-append}
use Rattle.std.proofs.lemmas.List.{append_cancel_left, append_cancel_right}
use Rattle.std.specs.Prelude.{unwrap_or}
use Rattle.port_base.specs.Bytes.{before, after, HasFailed, raised}
use Rattle.port_base.specs.Reads.{Takes, Reads, state_after, idle_reading}
use Rattle.port_base.specs.Writes.{Sends, Writes, state_after_write}
use Rattle.port_base.specs.Given.{Lives, Gave, Gained, DiedUnended, Took, HadToGive, given_between, Grew, IsWritten, written_between}
use Rattle.port_base.specs.Views.{State, Empty, Live, Dead, is_dead, InView, OutView}
use Rattle.port_base.specs.declared.drain.Written.{Written}
use Rattle.port_base.specs.declared.drain.Written.TheVariants as written
use Rattle.port_base.specs.declared.in_place.Reading.{Reading}
use Rattle.port_base.specs.declared.in_place.Reading.TheVariants.{Full, End, Lost}
use Rattle.port_base.proofs.TakenTwice.{before-before, after-after}

-- what the answer of a read says of what a place gave in it, live or not, with the slice as it was left
abbrev pub GaveBy : Reading → InView → List ℕ → InView → Type 0
GaveBy Full old into new = Gave old into new
GaveBy (End n) old into new = Gave old (take n into) new
GaveBy Lost old into new = (n : ℕ) × (n < length into) × Gave old (take n into) new

-- what the answer of a write says of what went to a place in it: to one that is not live nothing goes
abbrev pub GainedBy : Written → OutView → List ℕ → OutView → Type 0
GainedBy written.Whole old bytes new = (sent : List ℕ) × Gained old sent new × (old.state ≡ Live → sent ≡ bytes)
GainedBy written.Lost old bytes new = (n : ℕ) × (n < length bytes) × Gained old (take n bytes) new

-- a number raised by nothing, and raised twice
pub raised-none : (n : ℕ) → n ≡ raised n 0
raised-none n = omega arith

pub raised-twice : (n a b : ℕ) → raised (raised n a) b ≡ raised n (a + b)
raised-twice n a b = omega arith

raised_twice : (first old new : ℕ) (x y : List ℕ) → old ≡ raised first (length x) → new ≡ raised old (length y) → new ≡ raised first (length (x ++ y))
raised_twice first old new x y e f = rw (f, e, length-append x y) (raised-twice first (length x) (length y))

pub before-none : (left : Option (List ℕ)) → left ≡ before [] left
before-none None = refl
before-none (Some left) = refl

pub after-none : (got : Option (List ℕ)) → got ≡ after got []
after-none None = refl
after-none (Some got) = ap Some (sym (append-nil got))

-- nothing was taken of a port that is as it was, and what was taken twice adds up
pub takes_none : (place : InView) → Takes place [] place
takes_none place = record { boxed = refl; left = before-none place.left; faults = omega arith; number = raised-none place.number }

pub takes_twice : (first old new : InView) (x y : List ℕ) → Takes first x old → Takes old y new → Takes first (x ++ y) new
takes_twice first old new x y h k = record {
  boxed = k.boxed ∙ h.boxed;
  left = h.left ∙ ap (before x) k.left ∙ before-before x y new.left;
  faults = omega (arith, h.faults, k.faults);
  number = raised_twice first.number old.number new.number x y h.number k.number;
}

pub sends_none : (place : OutView) → Sends place [] place
sends_none place = record { boxed = refl; got = after-none place.got; keeps = refl; faults = omega arith; number = raised-none place.number }

pub sends_twice : (first old new : OutView) (x y : List ℕ) → Sends first x old → Sends old y new → Sends first (x ++ y) new
sends_twice first old new x y h k = record {
  boxed = k.boxed ∙ h.boxed;
  got = k.got ∙ ap (λ got. after got y) h.got ∙ after-after first.got x y;
  keeps = k.keeps ∙ h.keeps;
  faults = omega (arith, h.faults, k.faults);
  number = raised_twice first.number old.number new.number x y h.number k.number;
}

-- a count of faults that rose, or stands at its end, has done so since any earlier moment
pub has_failed_since : (first old new : ℕ) → first ≤ old → HasFailed old new → HasFailed first new
has_failed_since first old new h (inl k) = inl (omega (arith, h, k))
has_failed_since first old new h (inr k) = inr k

-- a place of which the test says so is dead
pub dead_of : (s : State) → is_dead s ≡ true → s ≡ Dead
dead_of Dead e = refl
dead_of Live e = absurd (cc)
dead_of Empty e = absurd (cc)

pub dead_not_live : Dead ≢ Live
dead_not_live e = cc

pub empty_not_live : Empty ≢ Live
empty_not_live e = cc

empty_not_dead : Empty ≢ Dead
empty_not_dead e = cc

-- lives on, or died, twice
lives_twice : (a b c : State) (f g h : ℕ) → f ≤ g → Lives a b f g → Lives b c g h → (b ≢ Live → h ≡ g) → Lives a c f h
lives_twice a b c f g h le (inl (e, m)) (inl (d, n)) same = inl (d ∙ e, n ∙ m)
lives_twice a b c f g h le (inl (e, m)) (inr (l, d, k)) same = inr (sym e ∙ l, d, has_failed_since f g h le k)
lives_twice a b c f g h le (inr (l, d, k)) (inl (e, n)) same = inr (l, e ∙ d, rw (same (λ live. dead_not_live (sym d ∙ live))) k)
lives_twice a b c f g h le (inr (l, d, k)) (inr (l', d', k')) same = absurd (dead_not_live (sym d ∙ l'))

-- a place that is as it was gave nothing
pub gave_none : (place : InView) → Gave place [] place
gave_none place = record { takes = takes_none place; state = inl (refl, refl); idle = λ _. (refl, refl) }

-- what a place gave from a first moment to one in between and to the last one adds up
pub gave_twice : (first old new : InView) (x y : List ℕ) → Gave first x old → Gave old y new → Gave first (x ++ y) new
gave_twice first old new x y h k = record {
  takes = takes_twice first old new x y h.takes k.takes;
  state = lives_twice first.state old.state new.state first.faults old.faults new.faults h.takes.faults h.state k.state (λ no. ap (λ place. place.faults) (k.idle no).0);
  idle = λ no. let e = h.idle no in let f = k.idle (λ live. no (sym (ap (λ place. place.state) e.0) ∙ live)) in (f.0 ∙ e.0, rw (e.1, f.1) refl);
}

pub gained_none : (place : OutView) → Gained place [] place
gained_none place = record { sends = sends_none place; state = inl (refl, refl); idle = λ _. (refl, refl) }

pub gained_twice : (first old new : OutView) (x y : List ℕ) → Gained first x old → Gained old y new → Gained first (x ++ y) new
gained_twice first old new x y h k = record {
  sends = sends_twice first old new x y h.sends k.sends;
  state = lives_twice first.state old.state new.state first.faults old.faults new.faults h.sends.faults h.state k.state (λ no. ap (λ place. place.faults) (k.idle no).0);
  idle = λ no. let e = h.idle no in let f = k.idle (λ live. no (sym (ap (λ place. place.state) e.0) ∙ live)) in (f.0 ∙ e.0, rw (e.1, f.1) refl);
}

-- a place that was live gave what was taken of it
live_gave : (old new : InView) (bytes : List ℕ) → old.state ≡ Live → Takes old bytes new → Lives old.state new.state old.faults new.faults → Gave old bytes new
live_gave old new bytes live takes state = record { takes = takes; state = state; idle = λ no. absurd (no live) }

live_gained : (old new : OutView) (bytes : List ℕ) → old.state ≡ Live → Sends old bytes new → Lives old.state new.state old.faults new.faults → Gained old bytes new
live_gained old new bytes live sends state = record { sends = sends; state = state; idle = λ no. absurd (no live) }

nothing : (into : List ℕ) → length into ≡ 0 → into ≡ []
nothing [] e = refl
nothing (x ∷ xs) e = grind arith

live_read : (result : Reading) (old new : InView) (into : List ℕ) → old.state ≡ Live → new.state ≡ state_after Live result → Reads result old into new → GaveBy result old into new
live_read Full old new into live state (takes, calm, open_yet) = live_gave old new into live takes (inl (state ∙ sym live, calm))
live_read (End n) old new into live state (n_less, takes, ended, calm) = live_gave old new (take n into) live takes (inl (state ∙ sym live, calm))
live_read Lost old new into live state (n, less, takes, failed, open_yet) = (n, less, live_gave old new (take n into) live takes (inr (live, state, failed)))

idle_read : (result : Reading) (old new : InView) (into : List ℕ) → new ≡ old → result ≡ idle_reading (length into) → GaveBy result old into new
idle_read result old new [] same answer = rw (same, answer) (gave_none old)
idle_read result old new (x ∷ xs) same answer = rw (same, answer) (gave_none old)

-- from what a read of a whole slice ensures: what the place gave in it, live or not
pub read_gave : (result : Reading) (old new : InView) (into : List ℕ) (room : ℕ) → length into ≡ room → new.state ≡ state_after old.state result
    → (old.state ≡ Live → Reads result old into new) → (old.state ≢ Live → (new ≡ old) × (result ≡ idle_reading room)) → GaveBy result old into new
read_gave result old new into room fits state live idle = by_state old.state refl
  where
    by_state : (s : State) → old.state ≡ s → GaveBy result old into new
    by_state Live e = live_read result old new into e (state ∙ ap (λ s. state_after s result) e) (live e)
    by_state Empty e = let h = idle (λ l. empty_not_live (sym e ∙ l)) in idle_read result old new into h.0 (h.1 ∙ ap idle_reading (sym fits))
    by_state Dead e = let h = idle (λ l. dead_not_live (sym e ∙ l)) in idle_read result old new into h.0 (h.1 ∙ ap idle_reading (sym fits))

live_unended : (result : Reading) (old new : InView) (into : List ℕ) → Reads result old into new → ((n : ℕ) → result ≢ End n) → new.ended ≡ old.ended
live_unended Full old new into (takes, calm, same) other = same
live_unended (End n) old new into reads other = absurd (other n refl)
live_unended Lost old new into (n, less, takes, failed, same) other = same

-- a place has answered its end in a read only where that came to the end
pub read_unended : (result : Reading) (old new : InView) (into : List ℕ) (room : ℕ) → (old.state ≡ Live → Reads result old into new)
    → (old.state ≢ Live → (new ≡ old) × (result ≡ idle_reading room)) → ((n : ℕ) → result ≢ End n) → new.ended ≡ old.ended
read_unended result old new into room live idle other = by_state old.state refl
  where
    by_state : (s : State) → old.state ≡ s → new.ended ≡ old.ended
    by_state Live e = live_unended result old new into (live e) other
    by_state Empty e = ap (λ place. place.ended) (idle (λ l. empty_not_live (sym e ∙ l))).0
    by_state Dead e = ap (λ place. place.ended) (idle (λ l. dead_not_live (sym e ∙ l))).0

-- a place that is as it was has answered no end, and one that is not live in between is not asked
pub died_none : (place : InView) → DiedUnended place place
died_none place dead = refl

pub died_twice : (first old new : InView) (y : List ℕ) → Gave old y new → DiedUnended first old → (old.state ≡ Live → DiedUnended first new) → DiedUnended first new
died_twice first old new y gave h k = by_state old.state refl
  where
    rests : old.state ≢ Live → DiedUnended first new
    rests idle dead = let e = (gave.idle idle).0 in ap (λ place. place.ended) e ∙ h (sym (ap (λ place. place.state) e) ∙ dead)

    by_state : (s : State) → old.state ≡ s → DiedUnended first new
    by_state Live e = k e
    by_state Empty e = rests (λ l. empty_not_live (sym e ∙ l))
    by_state Dead e = rests (λ l. dead_not_live (sym e ∙ l))

live_write : (result : Written) (old new : OutView) (bytes : List ℕ) → old.state ≡ Live → new.state ≡ state_after_write Live result → Writes result old bytes new → GainedBy result old bytes new
live_write written.Whole old new bytes live state (sends, calm) = (bytes, live_gained old new bytes live sends (inl (state ∙ sym live, calm)), λ _. refl)
live_write written.Lost old new bytes live state (n, less, sends, failed) = (n, less, live_gained old new (take n bytes) live sends (inr (live, state, failed)))

idle_write : (result : Written) (old new : OutView) (bytes : List ℕ) → old.state ≢ Live → new ≡ old → result ≡ written.Whole → GainedBy result old bytes new
idle_write result old new bytes idle same answer = rw (same, answer) ([], gained_none old, λ live. absurd (idle live))

-- from what a whole write ensures: what went to the place in it, live or not
pub write_gained : (result : Written) (old new : OutView) (bytes : List ℕ) → new.state ≡ state_after_write old.state result → (old.state ≡ Live → Writes result old bytes new)
    → (old.state ≢ Live → (new ≡ old) × (result ≡ written.Whole)) → GainedBy result old bytes new
write_gained result old new bytes state live idle = by_state old.state refl
  where
    by_state : (s : State) → old.state ≡ s → GainedBy result old bytes new
    by_state Live e = live_write result old new bytes e (state ∙ ap (λ s. state_after_write s result) e) (live e)
    by_state Empty e = let no : old.state ≢ Live = λ l. empty_not_live (sym e ∙ l) in let h = idle no in idle_write result old new bytes no h.0 h.1
    by_state Dead e = let no : old.state ≢ Live = λ l. dead_not_live (sym e ∙ l) in let h = idle no in idle_write result old new bytes no h.0 h.1

some_same : (a b : List ℕ) → Some a ≡ Some b → a ≡ b
some_same a b e = ap (λ bytes. unwrap_or bytes []) e

-- what Given has beyond the bytes taken: all that a live place has yet, and nothing of another
pub record Beyond (bytes available : List ℕ) (now : State) (left : Option (List ℕ)) : Type 0 where
  pub rest : List ℕ
  pub parts : available ≡ bytes ++ rest
  pub live : now ≡ Live → left ≡ Some rest
  pub other : now ≢ Live → rest ≡ []

lived : (bytes available : List ℕ) (left : Option (List ℕ)) → Some available ≡ before bytes left → Beyond bytes available Live left
lived bytes available None e = absurd (grind arith)
lived bytes available (Some rest) e = record { rest = rest; parts = grind arith; live = λ _. refl; other = λ no. absurd (no refl) }

died : (bytes available : List ℕ) (first left : Option (List ℕ)) → first ≡ before bytes left → Took first left available → Beyond bytes available Dead left
died bytes available first left e took = record { rest = []; parts = rw (append-nil bytes) (append_cancel_right available bytes took.rest (some_same (available ++ took.rest) (bytes ++ took.rest) (sym took.had ∙ e ∙ ap (before bytes) took.has))); live = λ l. absurd (dead_not_live l); other = λ _. refl }

idled : (bytes available : List ℕ) (s : State) (left : Option (List ℕ)) → s ≢ Live → bytes ≡ [] → available ≡ [] → Beyond bytes available s left
idled bytes available s left idle e f = record { rest = []; parts = rw (e, f) refl; live = λ l. absurd (idle l); other = λ _. refl }

beyond : (s t : State) (f g : ℕ) (first left : Option (List ℕ)) (bytes available : List ℕ) → first ≡ before bytes left → Lives s t f g → (s ≢ Live → bytes ≡ [])
    → given_between s t first left available → Beyond bytes available t left
beyond Live Live f g first left bytes available e lives idle all = lived bytes available left (sym all ∙ e)
beyond Live Dead f g first left bytes available e lives idle took = died bytes available first left e took
beyond Live Empty f g first left bytes available e (inl (same, n)) idle all = absurd (empty_not_live same)
beyond Live Empty f g first left bytes available e (inr (l, d, k)) idle all = absurd (empty_not_dead d)
beyond Empty t f g first left bytes available e (inl (same, n)) idle none = idled bytes available t left (λ l. empty_not_live (sym same ∙ l)) (idle empty_not_live) none
beyond Empty t f g first left bytes available e (inr (l, d, k)) idle none = absurd (empty_not_live l)
beyond Dead t f g first left bytes available e (inl (same, n)) idle none = idled bytes available t left (λ l. dead_not_live (sym same ∙ l)) (idle dead_not_live) none
beyond Dead t f g first left bytes available e (inr (l, d, k)) idle none = absurd (dead_not_live l)

-- Given is what was taken, and all that a live place has yet
pub given_of_gave : (first now : InView) (bytes available : List ℕ) → Gave first bytes now → HadToGive first now available → Beyond bytes available now.state now.left
given_of_gave first now bytes available h k = beyond first.state now.state first.faults now.faults first.left now.left bytes available h.takes.left h.state (λ no. (h.idle no).1) k

grew : (first now : Option (List ℕ)) (bytes gone : List ℕ) → now ≡ after first bytes → Grew first now gone → gone ≡ bytes
grew first now bytes gone e k = append_cancel_left k.before gone bytes (some_same (k.before ++ gone) (k.before ++ bytes) (sym k.has ∙ e ∙ ap (λ got. after got bytes) k.had))

sent : (s t : State) (keeps : Bool) (first now : Option (List ℕ)) (bytes gone : List ℕ) → now ≡ after first bytes → (s ≢ Live → bytes ≡ []) → written_between s t keeps first now gone → gone ≡ bytes
sent Live Live keeps first now bytes gone e idle k = grew first now bytes gone e k
sent Live Dead keeps first now bytes gone e idle k = grew first now bytes gone e k
sent Live Empty false first now bytes gone e idle k = absurd k
sent Live Empty true first now bytes gone e idle k = grew first now bytes gone e k
sent Empty t keeps first now bytes gone e idle k = k ∙ sym (idle empty_not_live)
sent Dead t keeps first now bytes gone e idle k = k ∙ sym (idle dead_not_live)

-- Gone is what went to the place
pub gone_of_gained : (first now : OutView) (bytes gone : List ℕ) → Gained first bytes now → IsWritten first now gone → gone ≡ bytes
gone_of_gained first now bytes gone h k = sent first.state now.state now.keeps first.got now.got bytes gone h.sends.got (λ idle. (h.idle idle).1) k

-- below the end of the number, a place counts exactly the bytes
pub raised-below : (n k m : ℕ) → m ≡ raised n k → m < 2 ^ 64 - 1 → m ≡ n + k
raised-below n k m e h = omega arith

pub gone_counted : (first now : OutView) (bytes gone : List ℕ) → Gained first bytes now → IsWritten first now gone → now.number < 2 ^ 64 - 1 → now.number ≡ first.number + length gone
gone_counted first now bytes gone h k below = rw (gone_of_gained first now bytes gone h k) (raised-below first.number (length bytes) now.number h.sends.number below)

pub taken_counted : (first now : InView) (bytes : List ℕ) → Gave first bytes now → now.number < 2 ^ 64 - 1 → now.number ≡ first.number + length bytes
taken_counted first now bytes h below = raised-below first.number (length bytes) now.number h.takes.number below
