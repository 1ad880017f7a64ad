-- The fibres of a file that are whole lead to lines apart.
use Rattle.std.proofs.Common.{◌≡◌, ℕ, ◌+◌, zero, suc, Bool, true, false, List, [], ◌∷◌, ◌++◌, cond, Some, refl, ap, sym, ◌∙◌}
use Rattle.std.specs.Prelude.{slice_get}
use Rattle.std.proofs.lemmas.Option.{same_Some}
use Rattle.network_laws.specs.Networks.{FibreEnds}
use Rattle.network_file.specs.Cuts.{is_cut, whole_from, whole_fibres}
use Rattle.network_file.specs.Sound.{IsSound}
use Rattle.network_file.specs.declared.cut.Cut.{Cut}
use Rattle.network_file.specs.declared.file.NetworkFile.{NetworkFile}
use Rattle.network_file.proofs.Places.{element_of}
use Rattle.network_file.proofs.Uncut.{has_from}

-- no two lead to one line
pub record AreApart (fibres : List FibreEnds) : Type 0 where
  pub single : (i j : ℕ) (f g : FibreEnds) → slice_get fibres i ≡ Some f → slice_get fibres j ≡ Some g → f.there ≡ g.there
      → f.into ≡ g.into → i ≡ j

rest_apart : (f : FibreEnds) (fibres : List FibreEnds) → AreApart (f ∷ fibres) → AreApart fibres
rest_apart f fibres apart = record {
  single = λ i j g h at here there into. same (apart.single (suc i) (suc j) g h at here there into);
}
  where
    same : {i j : ℕ} → suc i ≡ suc j → i ≡ j
    same e = cc

-- the first one and one of the rest that is whole
never : {A : Type 0} (number : ℕ) (cuts : List Cut) (f : FibreEnds) (fibres : List FibreEnds) (j : ℕ) (g h : FibreEnds) → AreApart (f ∷ fibres)
    → Some f ≡ Some g → slice_get (whole_from number cuts fibres) j ≡ Some h → g.there ≡ h.there → g.into ≡ h.into → A
never number cuts f fibres j g h apart is at there into =
    let has = has_from number cuts fibres j h at in
    none (apart.single 0 (suc has.0) g h is (element_of fibres h has) there into)
  where
    none : {A : Type 0} {i : ℕ} → zero ≡ suc i → A
    none e = cc

step : (cut : Bool) (number : ℕ) (cuts : List Cut) (f : FibreEnds) (fibres : List FibreEnds) (i j : ℕ) (g h : FibreEnds) → AreApart (f ∷ fibres)
    → AreApart (whole_from number cuts fibres) → slice_get (cond cut [] (f ∷ []) ++ whole_from number cuts fibres) i ≡ Some g
    → slice_get (cond cut [] (f ∷ []) ++ whole_from number cuts fibres) j ≡ Some h → g.there ≡ h.there → g.into ≡ h.into → i ≡ j
step true number cuts f fibres i j g h apart rest at here there into = rest.single i j g h at here there into
step false number cuts f fibres zero zero g h apart rest at here there into = refl
step false number cuts f fibres zero (suc j) g h apart rest at here there into =
    never number cuts f fibres j g h apart at here there into
step false number cuts f fibres (suc i) zero g h apart rest at here there into =
    never number cuts f fibres i h g apart here at (sym there) (sym into)
step false number cuts f fibres (suc i) (suc j) g h apart rest at here there into = ap suc (rest.single i j g h at here there into)

from_apart : (number : ℕ) (cuts : List Cut) (fibres : List FibreEnds) → AreApart fibres → AreApart (whole_from number cuts fibres)
from_apart number cuts [] apart = apart
from_apart number cuts (f ∷ fibres) apart = record {
  single = λ i j g h at here there into.
      step (is_cut cuts number) (number + 1) cuts f fibres i j g h apart
      (from_apart (number + 1) cuts fibres (rest_apart f fibres apart)) at here there into;
}

-- so of a sound file
pub whole_apart : (file : NetworkFile) → IsSound file → (i j : ℕ) (f g : FibreEnds) → slice_get (whole_fibres file) i ≡ Some f
    → slice_get (whole_fibres file) j ≡ Some g → f.there ≡ g.there → f.into ≡ g.into → i ≡ j
whole_apart file sound = (from_apart 1 file.cuts file.fibres record { single = sound.single }).single
