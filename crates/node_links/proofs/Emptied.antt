-- Client places that are emptied, one connection after the other.
use Rattle.std.proofs.Common.{◌≡◌, ◌<◌, ◌≤◌, ◌+◌, ℕ, false, ◌&&◌, List, [], ◌∷◌, length, drop, get_or, Some, slice_get, sym, ap, subst, ◌∙◌, inl, inr}
use Rattle.std.proofs.lemmas.Bool.Decides.{eqb_tells}
use Rattle.std.proofs.lemmas.List.{drop_more}
use Rattle.otn_base.specs.declared.kind.PortName.TheVariants as port
use Rattle.port_base.specs.InPlace.{in_view}
use Rattle.port_base.specs.OutPlace.{out_view}
use Rattle.port_base.specs.Racks.{bays_view, client_ins, client_outs, with_client_in, with_client_out}
use Rattle.port_base.specs.Retiring.{retired_in, retired_out}
use Rattle.port_base.specs.Views.{BaysView, client_in_at, client_out_at, no_input, no_output}
use Rattle.port_base.specs.declared.bays.Rack.{Rack}
use Rattle.port_base.specs.declared.in_place.InPlaceOf.{InPlaceOf}
use Rattle.port_base.specs.declared.out_place.OutPlaceOf.{OutPlaceOf}
use Rattle.port_base.specs.declared.sink.Sink as sink
use Rattle.port_base.specs.declared.source.Source as source
use Rattle.port_base.proofs.BaysLaws.{client_in_seen, client_in_set, only_client_in, client_out_seen, client_out_set, only_client_out}
use Rattle.node_links.specs.Links.{joins}
use Rattle.node_links.specs.Retiring.{RetiredBy, ends_here, retires_at}
use Rattle.node_links.specs.Steps.Retiring.{RetiredAt}
use Rattle.plan_file.specs.declared.connection.FromEnd.{FromEnd}
use Rattle.plan_file.specs.declared.connection.FromEnd.TheVariants as from_end
use Rattle.plan_file.specs.declared.connection.ToEnd.{ToEnd}
use Rattle.plan_file.specs.declared.connection.ToEnd.TheVariants as to_end
use Rattle.device_model.specs.Entries.{is_from_client, is_to_client}
use Rattle.device_model.specs.RetiredPlaces.{after_retire, out_after_retire}
use Rattle.node_links.specs.declared.link.Link.{Link}
use Rattle.node_links.proofs.LinkSteps.{drop_all}
use Rattle.device_model.proofs.RetiredPlaces.{after_or, out_after_or}

-- ---- one end

-- one place is emptied
pub emptied_in : {P K : Type 0} (p : source.Ghosts P) (k : sink.Ghosts K) (rack : Rack P K) (from : FromEnd) (n : ℕ) (x y : InPlaceOf P) → from ≡ from_end.Client n → slice_get (client_ins rack) n ≡ Some x
    → in_view p y ≡ retired_in (in_view p x) → RetiredAt (λ m. is_from_client m from) (λ m. false) (bays_view p k rack) (bays_view p k (with_client_in rack n y))
emptied_in p k rack from n x y e known h =
    let only = only_client_in p k rack n y in
    let was = bays_view p k rack in
    let is = bays_view p k (with_client_in rack n y) in
    subst (λ (o : FromEnd). RetiredAt (λ m. is_from_client m o) (λ m. false) was is) (sym e)
    (record {
      line_in = only.line_in;
      line_out = only.line_out;
      client_in = λ m. elim (eqb_tells n m) [
        | inl t ↦
            ap (client_in_at is) (sym t.1) ∙ client_in_set p k rack n x y known ∙ h ∙ ap retired_in (sym (client_in_seen p k rack n x known))
            ∙ ap (λ i. retired_in (client_in_at was i)) t.1 ∙ ap (λ b. after_retire b (client_in_at was m)) (sym t.0)
        | inr t ↦ only.client_in m (λ d. t.1 (sym d)) ∙ ap (λ b. after_retire b (client_in_at was m)) (sym t.0)
      ];
      client_out = λ m. ap (λ l. get_or l m no_output) only.client_out;
    })

pub emptied_out : {P K : Type 0} (p : source.Ghosts P) (k : sink.Ghosts K) (rack : Rack P K) (to : ToEnd) (n : ℕ) (x y : OutPlaceOf K) → to ≡ to_end.Client n → slice_get (client_outs rack) n ≡ Some x
    → out_view k y ≡ retired_out (out_view k x) → RetiredAt (λ m. false) (λ m. is_to_client m to) (bays_view p k rack) (bays_view p k (with_client_out rack n y))
emptied_out p k rack to n x y e known h =
    let only = only_client_out p k rack n y in
    let was = bays_view p k rack in
    let is = bays_view p k (with_client_out rack n y) in
    subst (λ (o : ToEnd). RetiredAt (λ m. false) (λ m. is_to_client m o) was is) (sym e)
    (record {
      line_in = only.line_in;
      line_out = only.line_out;
      client_in = λ m. ap (λ l. get_or l m no_input) only.client_in;
      client_out = λ m. elim (eqb_tells n m) [
        | inl t ↦
            ap (client_out_at is) (sym t.1) ∙ client_out_set p k rack n x y known ∙ h ∙ ap retired_out (sym (client_out_seen p k rack n x known))
            ∙ ap (λ i. retired_out (client_out_at was i)) t.1 ∙ ap (λ b. out_after_retire b (client_out_at was m)) (sym t.0)
        | inr t ↦ only.client_out m (λ d. t.1 (sym d)) ∙ ap (λ b. out_after_retire b (client_out_at was m)) (sym t.0)
      ];
    })

-- ---- all connections

-- with those that are still to come, all connections empty what they are to empty
pub record RestRetires (past j : ℕ) (links : List Link) (was is : BaysView) : Type 0 where
  pub line_in : is.line_in ≡ was.line_in
  pub line_out : is.line_out ≡ was.line_out
  pub client_in : (n : ℕ) → after_retire (retires_at past (port.ClientIn n) (drop j links)) (client_in_at is n) ≡ after_retire (retires_at past (port.ClientIn n) links) (client_in_at was n)
  pub client_out : (n : ℕ) → out_after_retire (retires_at past (port.ClientOut n) (drop j links)) (client_out_at is n) ≡ out_after_retire (retires_at past (port.ClientOut n) links) (client_out_at was n)

pub rest_next : (past j : ℕ) (links : List Link) (link : Link) (was mid is : BaysView) → j < length links → link ≡ get_or links j link
    → RetiredAt (λ n. ends_here past link && joins (port.ClientIn n) link) (λ n. ends_here past link && joins (port.ClientOut n) link) mid is → RestRetires past j links was mid → RestRetires past (j + 1) links was is
rest_next past j links link was mid is less at step h =
    let rest = drop (j + 1) links in
    let split : drop j links ≡ link ∷ rest = drop_more links j link less ∙ ap (λ l. l ∷ rest) (sym at) in
    record {
      line_in = step.line_in ∙ h.line_in;
      line_out = step.line_out ∙ h.line_out;
      client_in = λ n.
          ap (after_retire (retires_at past (port.ClientIn n) rest)) (step.client_in n)
          ∙ sym (after_or (ends_here past link && joins (port.ClientIn n) link) (retires_at past (port.ClientIn n) rest) (client_in_at mid n))
          ∙ ap (λ b. after_retire b (client_in_at mid n)) (sym (ap (retires_at past (port.ClientIn n)) split)) ∙ h.client_in n;
      client_out = λ n.
          ap (out_after_retire (retires_at past (port.ClientOut n) rest)) (step.client_out n)
          ∙ sym (out_after_or (ends_here past link && joins (port.ClientOut n) link) (retires_at past (port.ClientOut n) rest) (client_out_at mid n))
          ∙ ap (λ b. out_after_retire b (client_out_at mid n)) (sym (ap (retires_at past (port.ClientOut n)) split)) ∙ h.client_out n;
    }

pub rest_none : (past j : ℕ) (links : List Link) (was is : BaysView) → length links ≤ j → RestRetires past j links was is → RetiredBy past links was is
rest_none past j links was is most h =
    let gone : drop j links ≡ [] = drop_all links j most in
    record {
      line_in = h.line_in;
      line_out = h.line_out;
      client_in = λ n. sym (ap (λ b. after_retire b (client_in_at is n)) (ap (retires_at past (port.ClientIn n)) gone)) ∙ h.client_in n;
      client_out = λ n. sym (ap (λ b. out_after_retire b (client_out_at is n)) (ap (retires_at past (port.ClientOut n)) gone)) ∙ h.client_out n;
    }
