-- What the end of a command over lines says.
use Rattle.std.proofs.Common.{◌≡◌, ◌≢◌, ◌↔◌, Bool, true, false, refl}
use Rattle.port_base.specs.declared.ended.Ended.{Ended}
use Rattle.port_base.specs.declared.ended.Ended.TheVariants.{Unfinished, Cut, ReportFault, Memory}
use Rattle.tributary_line.specs.Settling.{ended_by}

-- the booleans of the end and what they say
pub record EndsAs (ended : Ended) (CutBy MoreBy : Type 0) : Type 0 where
  pub cut : (ended ≡ Cut) ↔ CutBy
  pub unfinished : (ended ≡ Unfinished) ↔ ((CutBy → ⊥) × MoreBy)
  pub other : (ended ≢ ReportFault) × (ended ≢ Memory)

pub ends_by : (dead more : Bool) (CutBy MoreBy : Type 0) → (dead ≡ true → CutBy) → (CutBy → dead ≡ true) → (more ≡ true → MoreBy) → (MoreBy → more ≡ true)
    → EndsAs (ended_by dead more) CutBy MoreBy
ends_by true more CutBy MoreBy a b c d = record { cut = (λ e. a refl, λ h. refl); unfinished = (λ e. absurd (cc), λ h. absurd (h.0 (a refl))); other = (λ e. cc, λ e. cc) }
ends_by false true CutBy MoreBy a b c d = record {
  cut = (λ e. absurd (cc), λ h. absurd (let e : false ≡ true = b h in cc));
  unfinished = (λ e. (λ h. (let e : false ≡ true = b h in cc), c refl), λ h. refl);
  other = (λ e. cc, λ e. cc);
}
ends_by false false CutBy MoreBy a b c d = record {
  cut = (λ e. absurd (cc), λ h. absurd (let e : false ≡ true = b h in cc));
  unfinished = (λ e. absurd (cc), λ h. absurd (let e : false ≡ true = d h.1 in cc));
  other = (λ e. cc, λ e. cc);
}
