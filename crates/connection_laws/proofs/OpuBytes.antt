-- The bytes of the OPU in a line's frame: but for the PSI byte they are as they were put.
use Rattle.std.proofs.Common.{◌≡◌, ◌⊎◌, inl, inr, ◌<◌, ◌≤◌, ◌+◌, ◌-◌, ◌*◌, ◌/◌, ◌%◌, ℕ, Bool, false, cond, List, length, ap, ◌∙◌, subst, arith}
use Rattle.std.specs.Prelude.{◌==◌, nat_le}
use Rattle.std.proofs.lemmas.Bool.{and_left, and_right, and_from, lt-leb, le-leb, ne_eqb}
use Rattle.std.proofs.Math.Nat.{mod-eq_of_lt, div-eq_of_lt, mul-add-div, mul-add-mod_self_left}
use Rattle.line_side.specs.LineForm.{size_of}
use Rattle.line_side.specs.LineOutput.{FramePut, IsLineFrame, line_byte, psi_byte_at}
use Rattle.msi_table.specs.Psi.{port_at, slot_msi, psi_of}
use Rattle.plan_file.specs.declared.plan.Plan.{Plan}
use Rattle.tributary_model.specs.Places.{byte_at}
use Rattle.device_model.specs.Entries.{form_out}
use Rattle.device_model.specs.LineFiles.{IsFrameOf}
use Rattle.device_model.specs.Through.{Inputs}

skip : (t : Bool) (x y : ℕ) → t ≡ false → cond t x y ≡ y
skip t x y e = ap (λ t. cond t x y) e

pub opu_byte : (n bip : ℕ) (put : FramePut) (row column byte : ℕ) → 15 ≤ column → column ≤ 3824 → line_byte n bip put row column byte ≡ psi_byte_at put.ports put.mfas row column byte
opu_byte n bip put row column byte low high =
    skip _ _ _ (and_right (row == 1) (nat_le column 14) (lt-leb column 14 (omega arith)))
    ∙ skip _ _ _ (lt-leb 3825 column (omega arith))
    ∙ skip _ _ _ (and_right (nat_le 2 row) (nat_le column 14) (lt-leb column 14 (omega arith)))

pub not_psi : (ports : List ℕ) (mfas row column byte : ℕ) → (row < 4) ⊎ (16 ≤ column) → psi_byte_at ports mfas row column byte ≡ byte
not_psi ports mfas row column byte (inl l) = skip _ _ _ (and_left (row == 4) (column == 15) (ne_eqb row 4 (λ e. omega arith)))
not_psi ports mfas row column byte (inr l) = skip _ _ _ (and_right (row == 4) (column == 15) (ne_eqb column 15 (λ e. omega arith)))

-- in a frame
pub opu_byte_at : (n bip : ℕ) (put : FramePut) (frame : List ℕ) (row column : ℕ) → IsLineFrame n bip put frame → 1 ≤ row → row ≤ 4 → 15 ≤ column → column ≤ 3824
    → byte_at frame row column ≡ psi_byte_at put.ports put.mfas row column (byte_at put.bytes row column)
opu_byte_at n bip put frame row column is first last low high =
    is.byte row column (record { row_low = first; row_high = last; col_low = omega arith; col_high = omega arith })
    ∙ opu_byte n bip put row column (byte_at put.bytes row column) low high

-- the PSI byte of a slot
pub psi_of_slot : (ports : List ℕ) (mfas k : ℕ) → mfas ≡ 1 + k → 1 ≤ k → k ≤ length ports → psi_of ports mfas ≡ slot_msi (port_at ports k)
psi_of_slot ports mfas k e low high =
    let slot : mfas - 1 ≡ k = omega arith in
    skip _ _ _ (ne_eqb mfas 0 (λ z. omega arith))
    ∙ ap (λ t. cond t (slot_msi (port_at ports (mfas - 1))) 0) (and_from (nat_le 2 mfas) (nat_le mfas (length ports + 1)) (le-leb 2 mfas (omega arith)) (le-leb mfas (length ports + 1) (omega arith)))
    ∙ ap (λ k. slot_msi (port_at ports k)) slot

-- frame n of turn past + 1, by its place in the file
pub of_turn : (plan : Plan) (inputs : Inputs) (b past n : ℕ) (put : FramePut) → n < size_of (form_out plan b)
    → IsFrameOf plan inputs b ((size_of (form_out plan b) * past + n) / size_of (form_out plan b)) ((size_of (form_out plan b) * past + n) % size_of (form_out plan b)) put
    → IsFrameOf plan inputs b past n put
of_turn plan inputs b past n put l is =
    let size = size_of (form_out plan b) in
    let some : 0 < size = omega arith in
    let small : n / size ≡ 0 = div-eq_of_lt l in
    let turn : (size * past + n) / size ≡ past = mul-add-div some past n ∙ (let e : past + n / size ≡ past = omega arith in e) in
    let place : (size * past + n) % size ≡ n = mul-add-mod_self_left size past n ∙ mod-eq_of_lt l in
    subst (λ p. IsFrameOf plan inputs b p n put) turn (subst (λ k. IsFrameOf plan inputs b ((size * past + n) / size) k put) place is)
