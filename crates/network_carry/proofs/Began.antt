-- A network of a file before its first turn, and what it ran as.
use Rattle.std.proofs.Common.{◌≡◌, ◌≤◌, ◌<◌, ℕ, true, List, [], map, Option, None, Some, length, refl, sym, ap, ◌∙◌, arith}
use Rattle.std.specs.Prelude.{slice_get}
use Rattle.std.specs.List.{Contains}
use Rattle.std.proofs.lemmas.List.{length-map}
use Rattle.std.proofs.lemmas.Option.{same_Some, slice_get_within}
use Rattle.port_base.specs.Views.{InView, OutView, line_in_at, line_out_at}
use Rattle.port_base.specs.declared.sink.Sink as sink
use Rattle.port_base.specs.declared.source.Source as source
use Rattle.device_model.specs.declared.numbers.RunNumbers.{RunNumbers}
use Rattle.plan_file.specs.declared.plan.Plan.{Plan}
use Rattle.plan_file.proofs.Lists.{slice_get_known}
use Rattle.live_laws.specs.Live.{holding}
use Rattle.network_laws.specs.Networks.{FibreEnds, IsNetwork}
use Rattle.network_file.specs.Cuts.{whole_fibres, whole_network}
use Rattle.network_file.specs.Joining.{network_of}
use Rattle.network_file.specs.Sound.{IsSound}
use Rattle.network_file.specs.declared.file.NetworkFile.{NetworkFile}
use Rattle.network_file.proofs.Places.{is_element, mapped_at}
use Rattle.network_file.proofs.Uncut.{whole_has, whole_is_network}
use Rattle.network_run.specs.Beginning.{AtFirst}
use Rattle.network_run.specs.Ending.{AreSettled, RanAsNetwork}
use Rattle.network_run.specs.Going.{ends_of, KeepsGoing, SameFibre, IsFull}
use Rattle.network_run.specs.Sites.{EachOne, site_view}
use Rattle.network_run.specs.declared.fibres.Filling.{Filling}
use Rattle.network_run.specs.declared.site.Site.{Site}
use Rattle.network_run.proofs.Begun.{runs_as_network}
use Rattle.network_run.proofs.Going.{some_at}
use Rattle.network_carry.specs.Carried.{places_of, first_of, AreOf}
use Rattle.network_carry.specs.Fillings.{IsNear, new_filling}
use Rattle.network_carry.specs.Opening.{AreOpened}
use Rattle.network_carry.proofs.Apart.{AreApart, whole_apart}

-- ---- its fibres

-- the indexes of a sound file's nodes have 32 bits
pub all_near : (file : NetworkFile) → IsSound file → (f : FibreEnds) → Contains (whole_fibres file) f → IsNear f
all_near file sound f has =
    let ends = sound.ends f (whole_has file f has) in
    let most = sound.nodes in
    let here = ends.0 in
    let there = ends.1 in
    record { here = omega arith; there = omega arith }

from_fibre : (fibres : List FibreEnds) (n : ℕ) (g : Filling) → slice_get (map new_filling fibres) n ≡ Some g
    → slice_get fibres n ≡ Some (ends_of g.span)
from_fibre fibres n g at =
    let it = mapped_at new_filling fibres n g at in
    it.1 ∙ ap (λ (filling : Filling). Some (ends_of filling.span)) (sym it.2)

unmarked : (fibres : List FibreEnds) (n : ℕ) (g : Filling) → slice_get (map new_filling fibres) n ≡ Some g → g.mark ≡ 0
unmarked fibres n g at = ap (λ (filling : Filling). filling.mark) (mapped_at new_filling fibres n g at).2

-- fibres that were new, and lead where they led
pub are_of : (fibres : List FibreEnds) (was is : List Filling) → was ≡ map new_filling fibres → EachOne SameFibre was is → AreOf fibres is
are_of fibres was is new same = record {
  count = same.count ∙ ap length new ∙ length-map fibres new_filling;
  each = λ n f filling here now.
      let known : slice_get was n ≡ Some (new_filling f) = ap (λ l. slice_get l n) new ∙ slice_get_known new_filling fibres n f here in
      ap ends_of (same.each n (new_filling f) filling known now);
}

-- ---- its nodes

module _ {P K : Type 0} (p : source.Ghosts P) (k : sink.Ghosts K) (file : NetworkFile) (plans : List Plan) (sites : List (Site P K))
    (sound : IsSound file) (net : IsNetwork (whole_network file plans)) (opened : AreOpened p k (whole_fibres file) plans sites) where
  near_end : (f : FibreEnds) → Contains (whole_fibres file) f → (line_out_at (first_of p k sites f.here) f.out).got ≡ Some []
  near_end f has =
      let ends = net.ends f has in
      let plan = some_at plans f.here ends.0 in
      let site = some_at sites f.here (let count = opened.count in let less = ends.0 in omega arith) in
      ap (λ bays. (line_out_at bays f.out).got) (ap (places_of p k) site.1)
      ∙ ap (λ (v : OutView). v.got) ((opened.each f.here plan.0 site.0 plan.1 site.1).near f has refl ends.2)

  far_end : (f : FibreEnds) → Contains (whole_fibres file) f → line_in_at (first_of p k sites f.there) f.into ≡ holding []
  far_end f has =
      let ends = net.ends f has in
      let plan = some_at plans f.there ends.1 in
      let site = some_at sites f.there (let count = opened.count in let less = ends.1 in omega arith) in
      ap (λ bays. line_in_at bays f.into) (ap (places_of p k) site.1)
      ∙ (opened.each f.there plan.0 site.0 plan.1 site.1).far f has refl ends.3

  -- so it is before its first turn
  pub at_first : (fillings : List Filling) → fillings ≡ map new_filling (whole_fibres file)
      → AtFirst p k (whole_network file plans) (first_of p k sites) sites fillings
  at_first fillings new =
      let whole = whole_fibres file in
      let known : (n : ℕ) (g : Filling) → slice_get fillings n ≡ Some g → slice_get (map new_filling (whole_fibres file)) n ≡ Some g =
      λ n g at. sym (ap (λ l. slice_get l n) new) ∙ at in
      record {
        count = opened.count;
        nodes = λ i plan site at here first. (opened.each i plan site at here).node first;
        places = λ i site at. sym (ap (places_of p k) at);
        fibres = record {
          has = λ n f at. is_element whole n (ends_of f.span) (from_fibre whole n f (known n f at));
          once = λ m n f g at here there into.
              whole_apart file sound m n (ends_of f.span) (ends_of g.span) (from_fibre whole m f (known m f at))
              (from_fibre whole n g (known n g here)) there into;
        };
        near = near_end;
        far = λ f has. ap (λ (v : InView). v.left) (far_end f has);
        live = λ f has. ap (λ (v : InView). v.state) (far_end f has);
        marks = λ n f at. unmarked whole n f (known n f at);
      }

-- ---- what it ran as

-- where it stood at all moments, and was settled
pub ran_so : {P K : Type 0} (p : source.Ghosts P) (k : sink.Ghosts K) (file : NetworkFile) (plans : List Plan) (olds mids news : List (Site P K))
    (was is : List Filling) (numbers : List RunNumbers) → IsSound file → length plans ≡ length file.nodes → IsNetwork (network_of file plans)
    → AreOpened p k (whole_fibres file) plans olds → was ≡ map new_filling (whole_fibres file) → KeepsGoing p k olds was mids is
    → ((n : ℕ) (f : Filling) → slice_get is n ≡ Some f → f.whole ≡ true → IsFull p k mids f) → AreSettled p k mids news numbers
    → RanAsNetwork p k (whole_network file plans) (first_of p k olds) news numbers is
ran_so p k file plans olds mids news was is numbers sound count net opened new keeps full settled =
    let left = whole_is_network file plans net in
    (runs_as_network p k olds mids news was is numbers keeps full settled).ran (whole_network file plans) (first_of p k olds) left
    (let some = sound.some in omega arith) (at_first p k file plans olds sound left opened was new)
