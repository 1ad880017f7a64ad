-- What line outputs got grows by a piece.
use Rattle.std.proofs.Common.{◌≡◌, ◌≢◌, inl, inr, ℕ, List, [], ◌++◌, Option, None, Some, refl, sym, ap, ◌∙◌, subst, append-nil}
use Rattle.std.proofs.lemmas.Bool.Decides.{eqb_tells}
use Rattle.otn_base.specs.declared.kind.PortName.{PortName}
use Rattle.otn_base.specs.declared.kind.PortName.TheVariants as port
use Rattle.port_base.specs.Bytes.{after}
use Rattle.port_base.specs.Places.{OnlyPort, output_of}
use Rattle.port_base.specs.Views.{OutView, BaysView, line_out_at}
use Rattle.node_core.specs.Growing.{OutputsGrow}

none_after : (got : Option (List ℕ)) → got ≡ after got []
none_after None = refl
none_after (Some xs) = ap Some (sym (append-nil xs))

kept : (name : PortName) (old new : BaysView) (b : ℕ) → OnlyPort name old new → port.LineOut b ≢ name → (written : List ℕ) × ((line_out_at new b).got ≡ after (line_out_at old b).got written)
kept name old new b only apart = ([], ap (λ (v : OutView). v.got) (ap output_of (only.others (port.LineOut b) apart)) ∙ none_after (line_out_at old b).got)

-- by a piece of another port they got nothing
pub all_kept : (name : PortName) (old new : BaysView) → OnlyPort name old new → ((b : ℕ) → port.LineOut b ≢ name) → OutputsGrow old new
all_kept name old new only apart = λ b. kept name old new b only (apart b)

other_out : (b n : ℕ) → (b ≡ n → ⊥) → port.LineOut b ≢ port.LineOut n
other_out b n apart e = apart (cc)

-- by a piece of its own one grew, and the others got nothing
pub one_grew : (n : ℕ) (old new : BaysView) (written : List ℕ) → OnlyPort (port.LineOut n) old new → (line_out_at new n).got ≡ after (line_out_at old n).got written → OutputsGrow old new
one_grew n old new written only grew = λ b. elim (eqb_tells b n) as (λ h. (written : List ℕ) × ((line_out_at new b).got ≡ after (line_out_at old b).got written)) [
  | inl t ↦ subst (λ k. (written : List ℕ) × ((line_out_at new k).got ≡ after (line_out_at old k).got written)) (sym t.1) (written, grew)
  | inr t ↦ kept (port.LineOut n) old new b only (other_out b n t.1)
]
