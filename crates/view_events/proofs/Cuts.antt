-- A text that comes in pieces, cut into lines.
use Rattle.std.proofs.Common.{◌≡◌, ◌≢◌, ◌<◌, ◌≤◌, ◌+◌, ◌-◌, ◌∙◌, ℕ, zero, suc, Bool, true, false, All, List, [], ◌∷◌, ◌++◌, length, map, take, get_or, refl, sym, ap, subst, arith, append_assoc, append-nil}
use Rattle.std.specs.Prelude.{◌==◌, if◌then◌else◌}
use Rattle.std.proofs.lemmas.Bool.Decides.{nat_tests}
use Rattle.std.proofs.lemmas.List.{take_more}
use Rattle.std.proofs.lemmas.List.Elements.{All-head, All-tail, All-from_get_or, All-cons, All-push}
use Rattle.view_events.specs.EventsOf.{Said, events_from, events_of, line_events, nothing_said, said_after, said_by}
use Rattle.view_events.specs.ViewLines.{ViewLine, lines_after, rest_after, rest_of, whole_lines}

-- ---- pieces

abbrev pub IsInside : (byte : ℕ) → Type 0
IsInside byte = (byte == 10) ≡ false

lines_step : (front : List ℕ) (x : ℕ) (xs ys : List ℕ) (b : Bool) → (x == 10) ≡ b → lines_after [] (xs ++ ys) ≡ lines_after [] xs ++ lines_after (rest_after [] xs) ys
    → lines_after (front ++ x ∷ []) (xs ++ ys) ≡ lines_after (front ++ x ∷ []) xs ++ lines_after (rest_after (front ++ x ∷ []) xs) ys
    → lines_after front (x ∷ xs ++ ys) ≡ lines_after front (x ∷ xs) ++ lines_after (rest_after front (x ∷ xs)) ys
lines_step front x xs ys true on fresh longer =
    ap (λ b. if b then (front ++ x ∷ []) ∷ lines_after [] (xs ++ ys) else lines_after (front ++ x ∷ []) (xs ++ ys)) on
    ∙ ap (λ ls. (front ++ x ∷ []) ∷ ls) fresh
    ∙ sym (ap (λ b. (if b then (front ++ x ∷ []) ∷ lines_after [] xs else lines_after (front ++ x ∷ []) xs)
    ++ lines_after (if b then rest_after [] xs else rest_after (front ++ x ∷ []) xs) ys) on)
lines_step front x xs ys false off fresh longer =
    ap (λ b. if b then (front ++ x ∷ []) ∷ lines_after [] (xs ++ ys) else lines_after (front ++ x ∷ []) (xs ++ ys)) off
    ∙ longer
    ∙ sym (ap (λ b. (if b then (front ++ x ∷ []) ∷ lines_after [] xs else lines_after (front ++ x ∷ []) xs)
    ++ lines_after (if b then rest_after [] xs else rest_after (front ++ x ∷ []) xs) ys) off)

-- the lines of a text of two parts
pub lines_twice : (front xs ys : List ℕ) → lines_after front (xs ++ ys) ≡ lines_after front xs ++ lines_after (rest_after front xs) ys
lines_twice front [] ys = refl
lines_twice front (x ∷ xs) ys = lines_step front x xs ys (x == 10) refl (lines_twice [] xs ys) (lines_twice (front ++ x ∷ []) xs ys)

rest_step : (front : List ℕ) (x : ℕ) (xs ys : List ℕ) (b : Bool) → (x == 10) ≡ b → rest_after [] (xs ++ ys) ≡ rest_after (rest_after [] xs) ys
    → rest_after (front ++ x ∷ []) (xs ++ ys) ≡ rest_after (rest_after (front ++ x ∷ []) xs) ys → rest_after front (x ∷ xs ++ ys) ≡ rest_after (rest_after front (x ∷ xs)) ys
rest_step front x xs ys true on fresh longer =
    ap (λ b. if b then rest_after [] (xs ++ ys) else rest_after (front ++ x ∷ []) (xs ++ ys)) on ∙ fresh
    ∙ sym (ap (λ b. rest_after (if b then rest_after [] xs else rest_after (front ++ x ∷ []) xs) ys) on)
rest_step front x xs ys false off fresh longer =
    ap (λ b. if b then rest_after [] (xs ++ ys) else rest_after (front ++ x ∷ []) (xs ++ ys)) off ∙ longer
    ∙ sym (ap (λ b. rest_after (if b then rest_after [] xs else rest_after (front ++ x ∷ []) xs) ys) off)

rest_twice : (front xs ys : List ℕ) → rest_after front (xs ++ ys) ≡ rest_after (rest_after front xs) ys
rest_twice front [] ys = refl
rest_twice front (x ∷ xs) ys = rest_step front x xs ys (x == 10) refl (rest_twice [] xs ys) (rest_twice (front ++ x ∷ []) xs ys)

-- a piece without a line feed ends no line
no_lines : (front xs : List ℕ) → All IsInside xs → lines_after front xs ≡ []
no_lines front [] inside = refl
no_lines front (x ∷ xs) inside =
    ap (λ b. if b then (front ++ x ∷ []) ∷ lines_after [] xs else lines_after (front ++ x ∷ []) xs) (All-head IsInside x xs inside)
    ∙ no_lines (front ++ x ∷ []) xs (All-tail IsInside x xs inside)

all_waits : (front xs : List ℕ) → All IsInside xs → rest_after front xs ≡ front ++ xs
all_waits front [] inside = sym (append-nil front)
all_waits front (x ∷ xs) inside =
    ap (λ b. if b then rest_after [] xs else rest_after (front ++ x ∷ []) xs) (All-head IsInside x xs inside)
    ∙ all_waits (front ++ x ∷ []) xs (All-tail IsInside x xs inside) ∙ append_assoc front (x ∷ []) xs

-- one with a line feed at its end ends one
pub one_line : (front xs : List ℕ) → All IsInside xs → lines_after front (xs ++ 10 ∷ []) ≡ (front ++ (xs ++ 10 ∷ [])) ∷ []
one_line front xs inside =
    lines_twice front xs (10 ∷ []) ∙ ap (λ ls. ls ++ lines_after (rest_after front xs) (10 ∷ [])) (no_lines front xs inside)
    ∙ ap (λ l. (l ++ 10 ∷ []) ∷ []) (all_waits front xs inside) ∙ ap (λ l. l ∷ []) (append_assoc front xs (10 ∷ []))

-- and leaves none
pub none_waits : (front xs : List ℕ) → rest_after front (xs ++ 10 ∷ []) ≡ []
none_waits front xs = rest_twice front xs (10 ∷ [])

-- ---- a text, and a piece more

pub open_lines : (text xs : List ℕ) → All IsInside xs → whole_lines (text ++ xs) ≡ whole_lines text
unfolding whole_lines
open_lines text xs inside =
    lines_twice [] text xs ∙ ap (λ ls. lines_after [] text ++ ls) (no_lines (rest_after [] text) xs inside) ∙ append-nil (lines_after [] text)

pub open_rest : (text xs : List ℕ) → All IsInside xs → rest_of (text ++ xs) ≡ rest_of text ++ xs
unfolding rest_of
open_rest text xs inside = rest_twice [] text xs ∙ all_waits (rest_after [] text) xs inside

pub closed_lines : (text xs : List ℕ) → All IsInside xs → whole_lines (text ++ (xs ++ 10 ∷ [])) ≡ whole_lines text ++ (rest_of text ++ (xs ++ 10 ∷ [])) ∷ []
unfolding whole_lines rest_of
closed_lines text xs inside = lines_twice [] text (xs ++ 10 ∷ []) ∙ ap (λ ls. lines_after [] text ++ ls) (one_line (rest_after [] text) xs inside)

pub closed_rest : (text xs : List ℕ) → rest_of (text ++ (xs ++ 10 ∷ [])) ≡ []
unfolding rest_of
closed_rest text xs = rest_twice [] text (xs ++ 10 ∷ []) ∙ none_waits (rest_after [] text) xs

-- of a piece that has no line feed but maybe its last byte: it has none, or ends with it
is_inside : (b : ℕ) → b ≢ 10 → (b == 10) ≡ false
is_inside b other = grind (arith, nat_tests)

pub inside_front : (bytes : List ℕ) (n : ℕ) → n ≤ length bytes → ((k : ℕ) → k + 1 < n → get_or bytes k 0 ≢ 10) → All IsInside (take (n - 1) bytes)
inside_front bytes n within before = go (n - 1) (omega (arith, within)) (λ k less. before k (omega (arith, less)))
  where
    go : (m : ℕ) → m ≤ length bytes → ((k : ℕ) → k < m → get_or bytes k 0 ≢ 10) → All IsInside (take m bytes)
    go zero few none = All-from_get_or IsInside [] 0 (λ i less. absurd (omega (arith, less)))
    go (suc m) few none =
        let last : take (m + 1) bytes ≡ take m bytes ++ get_or bytes m 0 ∷ [] = take_more bytes m 0 (omega (arith, few)) in
        let same : suc m ≡ m + 1 = omega arith in
        subst (λ k. All IsInside (take k bytes)) (sym same) (subst (All IsInside) (sym last)
        (All-push IsInside (take m bytes) (get_or bytes m 0) (go m (omega (arith, few)) (λ k less. none k (omega (arith, less)))) (is_inside (get_or bytes m 0) (none m (omega arith)))))

pub last_of : (bytes : List ℕ) (n : ℕ) → 0 < n → n ≤ length bytes → take n bytes ≡ take (n - 1) bytes ++ get_or bytes (n - 1) 0 ∷ []
last_of bytes n some within =
    let same : n ≡ n - 1 + 1 = omega (arith, some) in
    ap (λ k. take k bytes) same ∙ take_more bytes (n - 1) 0 (omega (arith, some, within))

pub inside_all : (bytes : List ℕ) (n : ℕ) → 0 < n → n ≤ length bytes → ((k : ℕ) → k + 1 < n → get_or bytes k 0 ≢ 10) → get_or bytes (n - 1) 0 ≢ 10 → All IsInside (take n bytes)
inside_all bytes n some within before last = subst (All IsInside) (sym (last_of bytes n some within))
    (All-push IsInside (take (n - 1) bytes) (get_or bytes (n - 1) 0) (inside_front bytes n within before) (is_inside (get_or bytes (n - 1) 0) last))

-- ---- the lines of a view, and one more

-- a list with one more at its end is that of some things: of all but the last, and of the last
pub record Parted {X : Type 0} (f : X → List ℕ) (P : X → Type 0) (xs : List (List ℕ)) (y : List ℕ) (all : List X) : Type 0 where
  pub init : List X
  pub last : X
  pub are : all ≡ init ++ last ∷ []
  pub init_is : xs ≡ map f init
  pub last_is : y ≡ f last
  pub each : All P init
  pub one : P last

pub parted : {X : Type 0} (f : X → List ℕ) (P : X → Type 0) (xs : List (List ℕ)) (y : List ℕ) (all : List X) → All P all → xs ++ y ∷ [] ≡ map f all → Parted f P xs y all
parted f P [] y [] h e = absurd (cc)
parted f P [] y (x ∷ []) h e = record { init = []; last = x; are = refl; init_is = refl; last_is = cc; each = (λ k d less. absurd (omega (arith, less))); one = All-head P x [] h }
parted f P [] y (x ∷ z ∷ all) h e = absurd (let rest : [] ≡ map f (z ∷ all) = cc in cc)
parted f P (w ∷ xs) y [] h e = absurd (cc)
parted f P (w ∷ xs) y (x ∷ all) h e =
    let first : w ≡ f x = cc in
    let rest : xs ++ y ∷ [] ≡ map f all = cc in
    let p = parted f P xs y all (All-tail P x all h) rest in
    record {
      init = x ∷ p.init;
      last = p.last;
      are = ap (λ l. x ∷ l) p.are;
      init_is = ap (λ l. l ∷ xs) first ∙ ap (λ l. f x ∷ l) p.init_is;
      last_is = p.last_is;
      each = All-cons P x p.init (All-head P x all h) p.each;
      one = p.one;
    }

events_more_from : (said : Said) (lines : List ViewLine) (one : ViewLine) → events_from said (lines ++ one ∷ []) ≡ events_from said lines ++ line_events (said_by said lines) one
events_more_from said [] one = append-nil (line_events said one)
events_more_from said (line ∷ lines) one =
    ap (λ t. line_events said line ++ t) (events_more_from (said_after said line) lines one)
    ∙ sym (append_assoc (line_events said line) (events_from (said_after said line) lines) (line_events (said_by (said_after said line) lines) one))

said_more_from : (said : Said) (lines : List ViewLine) (one : ViewLine) → said_by said (lines ++ one ∷ []) ≡ said_after (said_by said lines) one
said_more_from said [] one = refl
said_more_from said (line ∷ lines) one = said_more_from (said_after said line) lines one

pub events_more : (lines : List ViewLine) (one : ViewLine) → events_of (lines ++ one ∷ []) ≡ events_of lines ++ line_events (said_by nothing_said lines) one
unfolding events_of
events_more lines one = events_more_from nothing_said lines one

pub said_more : (lines : List ViewLine) (one : ViewLine) → said_by nothing_said (lines ++ one ∷ []) ≡ said_after (said_by nothing_said lines) one
said_more lines one = said_more_from nothing_said lines one

pub no_events : events_of [] ≡ []
unfolding events_of
no_events = refl

-- no text has no lines, and nothing waits
pub no_text_lines : whole_lines [] ≡ []
unfolding whole_lines
no_text_lines = refl

pub no_text_rest : rest_of [] ≡ []
unfolding rest_of
no_text_rest = refl

pub take_none : (xs : List ℕ) → take 0 xs ≡ []
take_none [] = refl
take_none (x ∷ xs) = refl
