-- A line's frame is fixed by its MFAS, the ports of its slots and the bytes put into its OPU.
use Rattle.std.proofs.Common.{◌≡◌, ◌⊎◌, inl, inr, ◌<◌, ◌≤◌, ◌+◌, ◌/◌, ◌%◌, ℕ, suc, Bool, true, false, cond, List, [], ◌∷◌, ◌++◌, Some, length, take, get_or, refl, sym, ap, ◌∙◌, subst, arith}
use Rattle.std.specs.Prelude.{◌==◌, ◌&&◌, nat_le, slice_get}
use Rattle.std.proofs.lemmas.Bool.{cases_lt, and_from, le-leb, eq-eqb}
use Rattle.std.proofs.lemmas.List.{ext_get_or}
use Rattle.frame_geometry.specs.Places.{place_of}
use Rattle.line_side.specs.LineOutput.{FramePut, IsLineFrame, AreLineFrames, line_byte}
use Rattle.tributary_model.specs.Places.{byte_at}

-- what is put into two frames is alike
pub record Alike (one other : FramePut) : Type 0 where
  pub mfas : one.mfas ≡ other.mfas
  pub ports : one.ports ≡ other.ports
  pub bytes : (row column : ℕ) → 1 ≤ row → row ≤ 4 → 15 ≤ column → column ≤ 3824 → byte_at one.bytes row column ≡ byte_at other.bytes row column

-- ---- each byte

-- the last of three choices is free where one before it is taken
fixed_by : (t u v : Bool) (a b c x y : ℕ) → (t ≡ true) ⊎ ((u ≡ true) ⊎ (v ≡ true)) → cond t a (cond u b (cond v c x)) ≡ cond t a (cond u b (cond v c y))
fixed_by true u v a b c x y h = refl
fixed_by false true v a b c x y h = refl
fixed_by false false true a b c x y h = refl
fixed_by false false false a b c x y (inl e) = absurd (cc)
fixed_by false false false a b c x y (inr (inl e)) = absurd (cc)
fixed_by false false false a b c x y (inr (inr e)) = absurd (cc)

-- outside the OPU whatever is put is written over
overhead_byte : (n bip : ℕ) (put : FramePut) (row column byte other : ℕ) → 1 ≤ row → (column < 15) ⊎ (3825 ≤ column) → line_byte n bip put row column byte ≡ line_byte n bip put row column other
overhead_byte n bip put row column byte other low outside = fixed_by (row == 1 && nat_le column 14) (nat_le 3825 column) (nat_le 2 row && nat_le column 14) _ _ _ _ _ (which outside (cases_lt row 2))
  where
    which : (column < 15) ⊎ (3825 ≤ column) → (row < 2) ⊎ (2 ≤ row) → ((row == 1 && nat_le column 14) ≡ true) ⊎ ((nat_le 3825 column ≡ true) ⊎ ((nat_le 2 row && nat_le column 14) ≡ true))
    which (inl l) (inl r) = inl (and_from (row == 1) (nat_le column 14) (eq-eqb row 1 (omega arith)) (le-leb column 14 (omega arith)))
    which (inl l) (inr r) = inr (inr (and_from (nat_le 2 row) (nat_le column 14) (le-leb 2 row r) (le-leb column 14 (omega arith))))
    which (inr h) any = inr (inl (le-leb 3825 column h))

by_fields : (n bip : ℕ) (one other : FramePut) (row column byte : ℕ) → Alike one other → line_byte n bip one row column byte ≡ line_byte n bip other row column byte
by_fields n bip one other row column byte alike =
    let W : ℕ → List ℕ → ℕ = λ m ports. line_byte n bip (record { mfas = m; ports = ports; bytes = [] }) row column byte in
    ap (λ m. W m one.ports) alike.mfas ∙ ap (W other.mfas) alike.ports

same_byte : (n bip : ℕ) (one other : FramePut) (row column : ℕ) → Alike one other → 1 ≤ row → row ≤ 4
    → line_byte n bip one row column (byte_at one.bytes row column) ≡ line_byte n bip other row column (byte_at other.bytes row column)
same_byte n bip one other row column alike first last = by_fields n bip one other row column (byte_at one.bytes row column) alike ∙ go (cases_lt column 15) (cases_lt column 3825)
  where
    go : (column < 15) ⊎ (15 ≤ column) → (column < 3825) ⊎ (3825 ≤ column) → line_byte n bip other row column (byte_at one.bytes row column) ≡ line_byte n bip other row column (byte_at other.bytes row column)
    go (inl l) any = overhead_byte n bip other row column (byte_at one.bytes row column) (byte_at other.bytes row column) first (inl l)
    go (inr l) (inr h) = overhead_byte n bip other row column (byte_at one.bytes row column) (byte_at other.bytes row column) first (inr h)
    go (inr l) (inl h) = ap (line_byte n bip other row column) (alike.bytes row column first last l (omega arith))

-- ---- frames

same_frame : (n bip : ℕ) (one other : FramePut) (a b : List ℕ) → Alike one other → IsLineFrame n bip one a → IsLineFrame n bip other b → a ≡ b
same_frame n bip one other a b alike h k = ext_get_or 0 a b (h.size ∙ sym k.size) (λ i within.
    let size = h.size in
    let row = i / 4080 + 1 in
    let column = i % 4080 + 1 in
    let here : place_of 4080 row column ≡ i = omega arith in
    subst (λ p. get_or a p 0 ≡ get_or b p 0) here (
    h.byte row column (record { row_low = omega arith; row_high = omega arith; col_low = omega arith; col_high = omega arith })
    ∙ same_byte n bip one other row column alike (omega arith) (omega arith)
    ∙ sym (k.byte row column (record { row_low = omega arith; row_high = omega arith; col_low = omega arith; col_high = omega arith }))))

-- the frames of alike puts: the fewer are the front of the more
pub same_frames : (n : ℕ) (before : List (List ℕ)) (puts more : List FramePut) (frames others : List (List ℕ)) → length puts ≤ length more
    → ((f : ℕ) (one other : FramePut) → slice_get puts f ≡ Some one → slice_get more f ≡ Some other → Alike one other) → AreLineFrames n before puts frames → AreLineFrames n before more others
    → frames ≡ take (length puts) others
same_frames n before [] more [] others few alike h k = refl
same_frames n before [] more (a ∷ frames) others few alike h k = absurd h
same_frames n before (one ∷ puts) [] frames others few alike h k = absurd (omega arith)
same_frames n before (one ∷ puts) (other ∷ more) [] others few alike h k = absurd h
same_frames n before (one ∷ puts) (other ∷ more) (a ∷ frames) [] few alike h k = absurd k
same_frames n before (one ∷ puts) (other ∷ more) (a ∷ frames) (b ∷ others) few alike h k =
    let same = same_frame n _ one other a b (alike 0 one other refl refl) h.0 k.0 in
    ap (λ f. f ∷ frames) same
    ∙ ap (λ fs. b ∷ fs)
    (same_frames n (before ++ b ∷ []) puts more frames others (omega arith) (λ f p q e g. alike (suc f) p q e g) (subst (λ f. AreLineFrames n (before ++ f ∷ []) puts frames) same h.1) k.1)
