use Rattle.std.proofs.Common.{◌≡◌, ◌≤◌, List, ℕ, length, take, ◌++◌, ◌+◌, arith, sym, refl, ap, ◌∙◌, append_assoc, Option, Some, None, drop, ◌-◌, length-drop, subst}
use Rattle.std.proofs.lemmas.List.{take-append-le, length-take-le, take-append-drop}
use Rattle.std.proofs.Math.Seq.{take-append-add, take-add}
use Rattle.std.specs.Io.KnownBytes.{Appends}
use Rattle.port_base.specs.Bytes.{before, after}

-- what was taken in two steps
pub before-before : (a b : List ℕ) (left : Option (List ℕ)) → before a (before b left) ≡ before (a ++ b) left
before-before a b None = refl
before-before a b (Some left) = ap Some (sym (append_assoc a b left))

-- the front of what was filled in two steps
pub front : (s w t : List ℕ) (d n : ℕ) → d ≤ length s → n ≤ length w → take (d + n) (take d s ++ (w ++ t)) ≡ take d s ++ take n w
front s w t d n h k =
    let len : length (take d s) ≡ d = length-take-le d s h in
    ap (λ m. take (m + n) (take d s ++ (w ++ t))) (sym len) ∙ take-append-add (take d s) (w ++ t) n ∙ ap (λ x. take d s ++ x) (take-append-le n w t k)

pub more : (first second third : Option (List ℕ)) (s w t : List ℕ) (d n : ℕ) → d ≤ length s → n ≤ length w → first ≡ before (take d s) second → second ≡ before (take n w) third → first ≡ before (take (d + n) (take d s ++ (w ++ t))) third
more first second third s w t d n h k e f = rw (e, f, before-before (take d s) (take n w) third, front s w t d n h k) refl

pub after-after : (first : Option (List ℕ)) (a b : List ℕ) → after (after first a) b ≡ after first (a ++ b)
after-after None a b = refl
after-after (Some got) a b = ap Some (append_assoc got a b)

take-take : (n m : ℕ) (l : List ℕ) → n ≤ m → m ≤ length l → take n (take m l) ≡ take n l
take-take n m l h k =
    let short : n ≤ length (take m l) = omega (arith, length-take-le m l k) in
    sym (take-append-le n (take m l) (drop m l) short) ∙ ap (take n) (take-append-drop m l)

-- a piece of the rest was given, and a part of it went
pub sent_piece : (first second third : Option (List ℕ)) (s : List ℕ) (d m n : ℕ) → d ≤ length s → m ≤ length s - d → n ≤ m → second ≡ after first (take d s) → third ≡ after second (take n (take m (drop d s))) → third ≡ after first (take (d + n) s)
sent_piece first second third s d m n h k j e f =
    rw (f, e, take-take n m (drop d s) j (simp length-drop (omega arith)), after-after first (take d s) (take n (drop d s)), ← take-add d n s) refl

pub sent_more : (first second third : Option (List ℕ)) (s : List ℕ) (d n : ℕ) → d ≤ length s → n ≤ length s - d → second ≡ after first (take d s) → third ≡ after second (take n (take (length s - d) (drop d s))) → third ≡ after first (take (d + n) s)
sent_more first second third s d n h k e f =
    rw (f, e, take-take n (length s - d) (drop d s) k (simp length-drop (omega arith)), after-after first (take d s) (take n (drop d s)), ← take-add d n s) refl

-- the same of known bytes
appends-appends : (first second third : Option (List ℕ)) (a b : List ℕ) → Appends first second a → Appends second third b → Appends first third (a ++ b)
appends-appends None second third a b h k = tt
appends-appends (Some xs) None third a b h k = absurd h
appends-appends (Some xs) (Some ys) None a b h k = absurd k
appends-appends (Some xs) (Some ys) (Some zs) a b h k = k ∙ ap (λ l. l ++ b) h ∙ append_assoc xs a b

pub appends_more : (first second third : Option (List ℕ)) (s : List ℕ) (d n : ℕ) → d ≤ length s → n ≤ length s - d → Appends first second (take d s) → Appends second third (take n (take (length s - d) (drop d s))) → Appends first third (take (d + n) s)
appends_more first second third s d n h k e f =
    let piece : take n (take (length s - d) (drop d s)) ≡ take n (drop d s) = take-take n (length s - d) (drop d s) k (simp length-drop (omega arith)) in
    let P : List ℕ → Type 0 = λ l. Appends second third l in
    rw (take-add d n s) (appends-appends first second third (take d s) (take n (drop d s)) e (subst P piece f))
