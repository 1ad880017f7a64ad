-- At most one row of the table is of a change, and at most one fits what is heard.
use Rattle.std.proofs.Common.{◌≡◌, ◌≢◌, ℕ, ◌+◌, ◌<◌, ◌≤◌, List, Bool, true, false, refl, ap, ◌∙◌, sym, arith, cond}
use Rattle.std.specs.Prelude.{bit_xor, ◌==◌, ◌&&◌, count_by}
use Rattle.std.specs.Int.Bits.{xor_self, xor_zero_l, xor_assoc}
use Rattle.std.proofs.lemmas.Bool.{and_parts, eqb-true, eq-eqb, false≢true}
use Rattle.jc_codec.specs.Message.{table, is_change, fits, turned, same, one_more, one_less, two_more, two_less}
use Rattle.jc_codec.proofs.Turned.{turned_one_more, turned_one_less, turned_two_more, turned_two_less}

one : (t : Bool) (n : ℕ) → (t ≡ true → n ≡ 0) → n ≤ 1 → cond t 1 0 + n ≤ 1
one true n none h = let e = none refl in omega arith
one false n none h = omega arith

no : (t : Bool) (n : ℕ) → (t ≡ true → ⊥) → n ≡ 0 → cond t 1 0 + n ≡ 0
no true n never h = absurd (never refl)
no false n never h = omega arith

-- of five tests no two of which hold at once, at most one holds
of_five : (a b c d e : Bool)
    → (a ≡ true → b ≡ true → ⊥) → (a ≡ true → c ≡ true → ⊥) → (a ≡ true → d ≡ true → ⊥) → (a ≡ true → e ≡ true → ⊥)
    → (b ≡ true → c ≡ true → ⊥) → (b ≡ true → d ≡ true → ⊥) → (b ≡ true → e ≡ true → ⊥)
    → (c ≡ true → d ≡ true → ⊥) → (c ≡ true → e ≡ true → ⊥) → (d ≡ true → e ≡ true → ⊥)
    → cond a 1 0 + (cond b 1 0 + (cond c 1 0 + (cond d 1 0 + (cond e 1 0 + 0)))) ≤ 1
of_five a b c d e ab ac ad ae bc bd be cd ce de =
    one a _ (λ x. no b _ (ab x) (no c _ (ac x) (no d _ (ad x) (no e 0 (ae x) refl))))
    (one b _ (λ x. no c _ (bc x) (no d _ (bd x) (no e 0 (be x) refl)))
    (one c _ (λ x. no d _ (cd x) (no e 0 (ce x) refl))
    (one d _ (λ x. no e 0 (de x) refl) (one e 0 (λ x. refl) (omega arith)))))

-- in the order in which a count adds
counted : (x y z u v : ℕ) → x + (y + (z + (u + (v + 0)))) ≤ 1 → 0 + x + y + z + u + v ≤ 1
counted x y z u v h = omega arith

pub one_change : (former next : ℕ) → count_by (is_change former next) table ≤ 1
one_change former next =
    counted _ _ _ _ _ (of_five (next + 0 == former + 0) (next + 0 == former + 1) (next + 1 == former + 0) (next + 0 == former + 2) (next + 2 == former + 0)
    (apart (next + 0) (former + 0) (next + 0) (former + 1) (λ p q. omega arith)) (apart (next + 0) (former + 0) (next + 1) (former + 0) (λ p q. omega arith))
    (apart (next + 0) (former + 0) (next + 0) (former + 2) (λ p q. omega arith)) (apart (next + 0) (former + 0) (next + 2) (former + 0) (λ p q. omega arith))
    (apart (next + 0) (former + 1) (next + 1) (former + 0) (λ p q. omega arith)) (apart (next + 0) (former + 1) (next + 0) (former + 2) (λ p q. omega arith))
    (apart (next + 0) (former + 1) (next + 2) (former + 0) (λ p q. omega arith)) (apart (next + 1) (former + 0) (next + 0) (former + 2) (λ p q. omega arith))
    (apart (next + 1) (former + 0) (next + 2) (former + 0) (λ p q. omega arith)) (apart (next + 0) (former + 2) (next + 2) (former + 0) (λ p q. omega arith)))
  where
    apart : (a b c d : ℕ) → (a ≡ b → c ≡ d → ⊥) → (a == b) ≡ true → (c == d) ≡ true → ⊥
    apart a b c d never p q = never (eqb-true a b p) (eqb-true c d q)

-- two patterns on one number differ
turned_apart : (n a b : ℕ) → bit_xor n a ≡ bit_xor n b → a ≡ b
turned_apart n a b e = sym (back a) ∙ ap (bit_xor n) e ∙ back b
  where
    back : (x : ℕ) → bit_xor n (bit_xor n x) ≡ x
    back x = sym (xor_assoc n n x) ∙ ap (λ y. bit_xor y x) (xor_self n) ∙ xor_zero_l x

pub more_differ : (n : ℕ) → n < 16384 → turned one_more n ≢ turned two_more n
more_differ n h e =
    false≢true (eq-eqb 0x2AAA 0x1999 (turned_apart n 0x2AAA 0x1999 (sym (turned_one_more n h) ∙ e ∙ turned_two_more n h)))

pub less_differ : (n : ℕ) → n < 16384 → turned one_less n ≢ turned two_less n
less_differ n h e =
    false≢true (eq-eqb 0x1555 0x2666 (turned_apart n 0x1555 0x2666 (sym (turned_one_less n h) ∙ e ∙ turned_two_less n h)))

-- what it says that a row fits
fit_facts : (former bits ii di more less : ℕ) (letters : List ℕ) (row_ii row_di : ℕ)
    → fits former bits ii di (record { more = more; less = less; letters = letters; ii = row_ii; di = row_di }) ≡ true
    → (row_ii ≡ ii) × (row_di ≡ di) × (turned letters former ≡ bits)
fit_facts former bits ii di more less letters row_ii row_di e =
    let whole = and_parts (row_ii == ii && row_di == di) (turned letters former == bits) e in
    let indicators = and_parts (row_ii == ii) (row_di == di) whole.0 in
    (eqb-true row_ii ii indicators.0, eqb-true row_di di indicators.1, eqb-true (turned letters former) bits whole.1)

pub one_fits : (former bits ii di : ℕ) → former < 16384 → count_by (fits former bits ii di) table ≤ 1
one_fits former bits ii di h =
    let is0 = fit_facts former bits ii di 0 0 same 0 0 in
    let is1 = fit_facts former bits ii di 1 0 one_more 1 0 in
    let is2 = fit_facts former bits ii di 0 1 one_less 0 1 in
    let is3 = fit_facts former bits ii di 2 0 two_more 1 0 in
    let is4 = fit_facts former bits ii di 0 2 two_less 0 1 in
    counted _ _ _ _ _ (of_five _ _ _ _ _
    (λ p q. let x = is0 p in let y = is1 q in omega arith) (λ p q. let x = is0 p in let y = is2 q in omega arith)
    (λ p q. let x = is0 p in let y = is3 q in omega arith) (λ p q. let x = is0 p in let y = is4 q in omega arith)
    (λ p q. let x = is1 p in let y = is2 q in omega arith) (λ p q. more_differ former h ((is1 p).2 ∙ sym (is3 q).2))
    (λ p q. let x = is1 p in let y = is4 q in omega arith) (λ p q. let x = is2 p in let y = is3 q in omega arith)
    (λ p q. less_differ former h ((is2 p).2 ∙ sym (is4 q).2)) (λ p q. let x = is3 p in let y = is4 q in omega arith))
