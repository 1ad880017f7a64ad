-- What one source put stays when others put theirs.
use Rattle.std.proofs.Common.{◌≡◌, ◌⊎◌, inl, inr, ℕ, suc, ◌+◌, ◌<◌, ◌≤◌, List, [], ◌∷◌, length, refl, ◌∙◌, sym, subst, arith}
use Rattle.std.specs.Prelude.{max}
use Rattle.std.specs.List.{Contains}
use Rattle.odtu_columns.specs.Columns.{slot_of}
use Rattle.tributary_model.specs.Places.{Tributary, byte_at, greatest, IsOwnPayload, IsOwnMessage}
use Rattle.tributary_model.specs.Laws.{IsTributary}
use Rattle.tributary_model.specs.Puts.{IsSourcePlace}
use Rattle.tributary_model.specs.Sending.{StaysWhereKept, StandApart, StaysApart}

pub stays_where_kept : StaysWhereKept
stays_where_kept own turns t n before now put kept = record {
  payload = λ row column o. kept row column (inl o) ∙ put.payload row column o;
  message = λ row column o. kept row column (inr (inl o)) ∙ put.message row column o;
  others = λ row column o. kept row column (inr (inr o)) ∙ put.others row column o;
}

-- the greatest slot is one of them
has_greatest : (slots : List ℕ) → 0 < length slots → Contains slots (greatest slots)
has_greatest [] some = absurd (omega arith)
has_greatest (k ∷ []) some = (0, omega arith, (let e : k ≡ max k 0 = omega arith in e))
has_greatest (k ∷ x ∷ slots) some =
    let rest = has_greatest (x ∷ slots) (omega arith) in
    go (which k (greatest (x ∷ slots))) rest
  where
    which : (k g : ℕ) → (max k g ≡ k) ⊎ (max k g ≡ g)
    which k g = grind arith

    go : (max k (greatest (x ∷ slots)) ≡ k) ⊎ (max k (greatest (x ∷ slots)) ≡ greatest (x ∷ slots)) → Contains (x ∷ slots) (greatest (x ∷ slots)) → Contains (k ∷ x ∷ slots) (max k (greatest (x ∷ slots)))
    go (inl e) rest = subst (Contains (k ∷ x ∷ slots)) (sym e) (0, omega arith, refl)
    go (inr e) rest = subst (Contains (k ∷ x ∷ slots)) (sym e) (suc (rest.0), (let l = rest.1 in omega arith), rest.2)

-- a message place is in the frame of an own slot
in_own_frame : (own : Tributary) (n row column : ℕ) → IsTributary own → IsOwnMessage own n row column → Contains own.slots (n + 1)
in_own_frame own n row column tr o = subst (Contains own.slots) (sym o.frame) (has_greatest own.slots tr.slots.taken)

-- no place is of both
payload_apart : (own other : Tributary) (n row column : ℕ) → StandApart own other → IsOwnPayload own row column → IsSourcePlace other n row column → ⊥
payload_apart own other n row column apart o (inl p) = apart.none (slot_of own.line_slots column) o.slot (subst (λ s. Contains other.slots (slot_of s column)) (sym apart.line) p.slot)
payload_apart own other n row column apart o (inr (inl p)) = (let low = o.columns.0 in let high = p.columns.1 in let bad : ⊥ = omega arith in bad)
payload_apart own other n row column apart o (inr (inr p)) = (let low = o.columns.0 in let high = p.columns.1 in let bad : ⊥ = omega arith in bad)

message_apart : (own other : Tributary) (n row column : ℕ) → IsTributary other → StandApart own other → Contains own.slots (n + 1) → column ≤ 16 → IsSourcePlace other n row column → ⊥
message_apart own other n row column tr apart has high (inl p) = (let low = p.columns.0 in let bad : ⊥ = omega arith in bad)
message_apart own other n row column tr apart has high (inr (inl p)) = apart.none (n + 1) has (in_own_frame other n row column tr p)
message_apart own other n row column tr apart has high (inr (inr p)) = apart.none (n + 1) has p.frame

pub stays_apart : StaysApart
stays_apart own other turns others t u n before now tr tr_other apart put was = stays_where_kept own turns t n before now put kept
  where
    kept : (row column : ℕ) → IsSourcePlace own n row column → byte_at now row column ≡ byte_at before row column
    kept row column (inl o) =
        let low = o.columns.0 in
        let high = o.columns.1 in
        was.kept row column o.rows.0 o.rows.1 (omega arith) (omega arith) (payload_apart own other n row column apart o)
    kept row column (inr (inl o)) =
        let low = o.columns.0 in
        let high = o.columns.1 in
        let last = o.rows.1 in
        was.kept row column o.rows.0 (omega arith) (omega arith) (omega arith) (message_apart own other n row column tr_other apart (in_own_frame own n row column tr o) high)
    kept row column (inr (inr o)) =
        let low = o.columns.0 in
        let high = o.columns.1 in
        let last = o.rows.1 in
        was.kept row column o.rows.0 (omega arith) (omega arith) (omega arith) (message_apart own other n row column tr_other apart o.frame high)
