-- A place of a site that was lent, and what is seen of all of them then.
use Rattle.std.proofs.Common.{◌≡◌, ◌<◌, inl, inr, ℕ, List, Option, None, Some, get_or, map, set, length, drop, refl, sym, ap, ◌∙◌, subst}
use Rattle.std.specs.Prelude.{slice_get, false, IfSome}
use Rattle.std.proofs.Math.Seq.{map-set_same}
use Rattle.std.proofs.lemmas.Bool.Decides.{eqb_tells}
use Rattle.std.proofs.lemmas.List.{length-set}
use Rattle.std.proofs.lemmas.Option.{get_or_from_slice_get, same_Some, slice_get_within, slice_get-get_or}
use Rattle.port_base.specs.InPlace.{in_view}
use Rattle.port_base.specs.OutPlace.{out_view}
use Rattle.port_base.specs.Racks.{line_ins, line_outs, with_line_in, with_line_out}
use Rattle.port_base.specs.Views.{InView, OutView, BaysView, line_in_at, line_out_at}
use Rattle.port_base.specs.declared.bays.Rack.{Rack}
use Rattle.port_base.specs.declared.in_place.InPlaceOf.{InPlaceOf}
use Rattle.port_base.specs.declared.in_place.InPlaceOf.TheVariants as input
use Rattle.port_base.specs.declared.out_place.OutPlaceOf.{OutPlaceOf}
use Rattle.port_base.specs.declared.out_place.OutPlaceOf.TheVariants as output
use Rattle.port_base.specs.declared.sink.Sink as sink
use Rattle.port_base.specs.declared.source.Source as source
use Rattle.port_base.proofs.BaysLaws.{line_in_seen, line_in_set, only_line_in, line_out_seen}
use Rattle.live_laws.specs.HandedIn.{grown, LineGrew}
use Rattle.network_run.specs.Fibres.{HandedTo, TookMore, WaitsAt, WaitsFor}
use Rattle.network_run.specs.Sites.{EachOne, SiteStill, net_sink, net_source, rack_view, site_view}
use Rattle.network_run.specs.declared.fibres.Span.{Span}
use Rattle.network_run.specs.declared.ports.NetIn.{NetIn}
use Rattle.network_run.specs.declared.ports.NetOut.{NetOut}
use Rattle.network_run.specs.declared.site.Site.{Site}
use Rattle.network_run.proofs.Each.{set_here, set_apart}

unseen : {A V : Type 0} (f : A → V) (l : List A) (n : ℕ) (old new d : A) → slice_get l n ≡ Some old → f new ≡ f old → map f (set l n new) ≡ map f l
unseen f l n old new d lent same = map-set_same f l n new d (same ∙ ap f (sym (get_or_from_slice_get l n old d lent)))

module _ {P K : Type 0} (p : source.Ghosts P) (k : sink.Ghosts K) where
  pub line_out_still : (rack : Rack (NetIn P) (NetOut K)) (b : ℕ) (old new : OutPlaceOf (NetOut K)) → slice_get (line_outs rack) b ≡ Some old
      → out_view (net_sink k) new ≡ out_view (net_sink k) old → rack_view p k (with_line_out rack b new) ≡ rack_view p k rack
  line_out_still rack b old new lent same =
      ap (λ l. record (rack_view p k rack) { line_out = l }) (unseen (out_view (net_sink k)) (line_outs rack) b old new output.Empty lent same)

  pub line_in_still : (rack : Rack (NetIn P) (NetOut K)) (a : ℕ) (old new : InPlaceOf (NetIn P)) → slice_get (line_ins rack) a ≡ Some old
      → in_view (net_source p) new ≡ in_view (net_source p) old → rack_view p k (with_line_in rack a new) ≡ rack_view p k rack
  line_in_still rack a old new lent same =
      ap (λ l. record (rack_view p k rack) { line_in = l }) (unseen (in_view (net_source p)) (line_ins rack) a old new input.Empty lent same)

  pub line_grew : (rack : Rack (NetIn P) (NetOut K)) (a : ℕ) (old new : InPlaceOf (NetIn P)) (further : List ℕ) → slice_get (line_ins rack) a ≡ Some old
      → in_view (net_source p) new ≡ grown further (in_view (net_source p) old)
      → LineGrew a further (rack_view p k rack) (rack_view p k (with_line_in rack a new))
  line_grew rack a old new further lent grew = record {
    line =
        line_in_set (net_source p) (net_sink k) rack a old new lent ∙ grew
        ∙ ap (grown further) (sym (line_in_seen (net_source p) (net_sink k) rack a old lent));
    others = λ other apart. (only_line_in (net_source p) (net_sink k) rack a new).line_in other apart;
    line_out = refl;
    client_in = refl;
    client_out = refl;
  }

  pub took : (site : Site P K) (a : ℕ) (old new : InPlaceOf (NetIn P)) (further : List ℕ) → slice_get (line_ins site.bays) a ≡ Some old
      → in_view (net_source p) new ≡ grown further (in_view (net_source p) old) → (in_view (net_source p) old).ended ≡ false
      → TookMore p k a further site (record site { bays = with_line_in site.bays a new })
  took site a old new further lent grew going = record {
    node = refl;
    grew = line_grew site.bays a old new further lent grew;
    going = ap (λ (v : InView). v.ended) (line_in_seen (net_source p) (net_sink k) site.bays a old lent) ∙ going;
  }

  pub still : (site : Site P K) (a : ℕ) (old new : InPlaceOf (NetIn P)) → slice_get (line_ins site.bays) a ≡ Some old
      → in_view (net_source p) new ≡ in_view (net_source p) old → SiteStill p k site (record site { bays = with_line_in site.bays a new })
  still site a old new lent same = record { node = refl; places = line_in_still site.bays a old new lent same }

  pub handed : (olds : List (Site P K)) (there into : ℕ) (bytes : List ℕ) (old new : Site P K) → slice_get olds there ≡ Some old
      → TookMore p k into bytes old new → HandedTo p k there into bytes olds (set olds there new)
  handed olds there into bytes old new at t = record { old = old; new = new; at = at; is = refl; took = t }

  pub one_still : (olds : List (Site P K)) (there : ℕ) (old new : Site P K) → slice_get olds there ≡ Some old → SiteStill p k old new
      → EachOne (SiteStill p k) olds (set olds there new)
  one_still olds there old new at s = record {
    count = length-set olds there new;
    each = λ i was is here now. elim (eqb_tells i there) as (λ t. SiteStill p k was is) [
      | inl t ↦
          let one : old ≡ was = same_Some old was (sym at ∙ ap (slice_get olds) (sym t.1) ∙ here) in
          let within = slice_get_within olds there old at in
          let two : new ≡ is = same_Some new is (sym (set_here olds there new within) ∙ ap (slice_get (set olds there new)) (sym t.1) ∙ now) in
          subst (λ x. SiteStill p k x is) one (subst (SiteStill p k old) two s)
      | inr t ↦
          let same : was ≡ is = same_Some was is (sym here ∙ sym (set_apart olds there i new t.1) ∙ now) in
          subst (SiteStill p k was) same (stays was)
    ];
  }
    where
      stays : (site : Site P K) → SiteStill p k site site
      stays site = record { node = refl; places = refl }

  pub all_stay : (sites : List (Site P K)) → EachOne (SiteStill p k) sites sites
  all_stay sites = record {
    count = refl;
    each = λ i was is here now. subst (SiteStill p k was) (same_Some was is (sym here ∙ now)) record { node = refl; places = refl };
  }

  pub waits_for : (sites : List (Site P K)) (span : Span) (mark total : ℕ) (bytes : List ℕ) (site : Site P K) (place : OutPlaceOf (NetOut K))
      → slice_get sites span.here ≡ Some site → slice_get (line_outs site.bays) span.out ≡ Some place
      → WaitsAt (out_view (net_sink k) place) mark bytes total → WaitsFor p k sites span mark bytes total
  waits_for sites span mark total bytes site place at lent w = record {
    site = site;
    at = at;
    waits = subst (λ v. WaitsAt v mark bytes total) (sym (line_out_seen (net_source p) (net_sink k) site.bays span.out place lent)) w;
  }

  pub waits_if : (sites : List (Site P K)) (span : Span) (mark : ℕ) (bytes : List ℕ) (d : Site P K) (place : OutPlaceOf (NetOut K))
      → span.here < length sites → slice_get (line_outs (get_or sites span.here d).bays) span.out ≡ Some place
      → (answer : Option ℕ) → IfSome answer (WaitsAt (out_view (net_sink k) place) mark bytes) → IfSome answer (WaitsFor p k sites span mark bytes)
  waits_if sites span mark bytes d place less lent None w = w
  waits_if sites span mark bytes d place less lent (Some total) w =
      waits_for sites span mark total bytes (get_or sites span.here d) place (slice_get-get_or sites span.here d less) lent w
