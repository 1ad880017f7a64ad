-- A place of a rack that was lent, and what is seen of all of them then.
use Rattle.std.proofs.Common.{◌≡◌, ℕ, List, Some, get_or, map, set, refl, sym, ap, ◌∙◌}
use Rattle.std.specs.Prelude.{slice_get}
use Rattle.std.proofs.Math.Seq.{map-set_same}
use Rattle.std.proofs.lemmas.Option.{get_or_from_slice_get}
use Rattle.port_base.specs.InPlace.{in_view}
use Rattle.port_base.specs.OutPlace.{out_view}
use Rattle.port_base.specs.Racks.{line_ins, line_outs, client_ins, client_outs, with_line_in, with_line_out, with_client_in, with_client_out}
use Rattle.port_base.specs.Views.{InView, line_in_at, client_in_at}
use Rattle.port_base.specs.declared.bays.Rack.{Rack}
use Rattle.port_base.specs.declared.in_place.InPlaceOf.{InPlaceOf}
use Rattle.port_base.specs.declared.in_place.InPlaceOf.TheVariants as input
use Rattle.port_base.specs.declared.out_place.OutPlaceOf.{OutPlaceOf}
use Rattle.port_base.specs.declared.out_place.OutPlaceOf.TheVariants as output
use Rattle.port_base.proofs.BaysLaws.{line_in_seen, line_in_set, only_line_in, client_in_seen, client_in_set, only_client_in}
use Rattle.filled_ports.specs.contracts.sink.FilledSinkSink.TheImpl as sink
use Rattle.filled_ports.specs.contracts.source.FilledSourceSource.TheImpl as source
use Rattle.filled_ports.specs.declared.sink.FilledSink.{FilledSink}
use Rattle.filled_ports.specs.declared.source.FilledSource.{FilledSource}
use Rattle.live_laws.specs.HandedIn.{grown, LineGrew, ClientGrew}
use Rattle.live_node.specs.Places.{places, kept_at}

-- ---- a place with further bytes

pub line_grew : (rack : Rack FilledSource FilledSink) (a : ℕ) (old new : InPlaceOf FilledSource) (further : List ℕ) → slice_get (line_ins rack) a ≡ Some old
    → in_view source.ghosts new ≡ grown further (in_view source.ghosts old) → LineGrew a further (places rack) (places (with_line_in rack a new))
line_grew rack a old new further lent grew = record {
  line = line_in_set source.ghosts sink.ghosts rack a old new lent ∙ grew ∙ ap (grown further) (sym (line_in_seen source.ghosts sink.ghosts rack a old lent));
  others = λ other apart. (only_line_in source.ghosts sink.ghosts rack a new).line_in other apart;
  line_out = refl;
  client_in = refl;
  client_out = refl;
}

pub client_grew : (rack : Rack FilledSource FilledSink) (n : ℕ) (old new : InPlaceOf FilledSource) (further : List ℕ)
    → slice_get (client_ins rack) n ≡ Some old
    → in_view source.ghosts new ≡ grown further (in_view source.ghosts old) → ClientGrew n further (places rack) (places (with_client_in rack n new))
client_grew rack n old new further lent grew = record {
  client =
      client_in_set source.ghosts sink.ghosts rack n old new lent ∙ grew
      ∙ ap (grown further) (sym (client_in_seen source.ghosts sink.ghosts rack n old lent));
  others = λ other apart. (only_client_in source.ghosts sink.ghosts rack n new).client_in other apart;
  line_in = refl;
  line_out = refl;
  client_out = refl;
}

pub line_ended : (rack : Rack FilledSource FilledSink) (a : ℕ) (old : InPlaceOf FilledSource) → slice_get (line_ins rack) a ≡ Some old
    → (line_in_at (places rack) a).ended ≡ (in_view source.ghosts old).ended
line_ended rack a old lent = ap (λ (v : InView). v.ended) (line_in_seen source.ghosts sink.ghosts rack a old lent)

pub client_ended : (rack : Rack FilledSource FilledSink) (n : ℕ) (old : InPlaceOf FilledSource) → slice_get (client_ins rack) n ≡ Some old
    → (client_in_at (places rack) n).ended ≡ (in_view source.ghosts old).ended
client_ended rack n old lent = ap (λ (v : InView). v.ended) (client_in_seen source.ghosts sink.ghosts rack n old lent)

-- ---- a place that is seen as it was

unseen : {A V : Type 0} (f : A → V) (l : List A) (n : ℕ) (old new d : A) → slice_get l n ≡ Some old → f new ≡ f old → map f (set l n new) ≡ map f l
unseen f l n old new d lent same = map-set_same f l n new d (same ∙ ap f (sym (get_or_from_slice_get l n old d lent)))

pub line_in_still : (rack : Rack FilledSource FilledSink) (a : ℕ) (old new : InPlaceOf FilledSource) → slice_get (line_ins rack) a ≡ Some old
    → in_view source.ghosts new ≡ in_view source.ghosts old → places (with_line_in rack a new) ≡ places rack
line_in_still rack a old new lent same =
    ap (λ l. record (places rack) { line_in = l }) (unseen (in_view source.ghosts) (line_ins rack) a old new input.Empty lent same)

pub line_out_still : (rack : Rack FilledSource FilledSink) (b : ℕ) (old new : OutPlaceOf FilledSink) → slice_get (line_outs rack) b ≡ Some old
    → out_view sink.ghosts new ≡ out_view sink.ghosts old → places (with_line_out rack b new) ≡ places rack
line_out_still rack b old new lent same =
    ap (λ l. record (places rack) { line_out = l }) (unseen (out_view sink.ghosts) (line_outs rack) b old new output.Empty lent same)

pub client_in_still : (rack : Rack FilledSource FilledSink) (n : ℕ) (old new : InPlaceOf FilledSource) → slice_get (client_ins rack) n ≡ Some old
    → in_view source.ghosts new ≡ in_view source.ghosts old → places (with_client_in rack n new) ≡ places rack
client_in_still rack n old new lent same =
    ap (λ l. record (places rack) { client_in = l }) (unseen (in_view source.ghosts) (client_ins rack) n old new input.Empty lent same)

pub client_out_still : (rack : Rack FilledSource FilledSink) (n : ℕ) (old new : OutPlaceOf FilledSink) → slice_get (client_outs rack) n ≡ Some old
    → out_view sink.ghosts new ≡ out_view sink.ghosts old → places (with_client_out rack n new) ≡ places rack
client_out_still rack n old new lent same =
    ap (λ l. record (places rack) { client_out = l }) (unseen (out_view sink.ghosts) (client_outs rack) n old new output.Empty lent same)

-- ---- what a place keeps

pub kept_of : (l : List (OutPlaceOf FilledSink)) (n : ℕ) (place : OutPlaceOf FilledSink) → slice_get l n ≡ Some place
    → kept_at place ≡ kept_at (get_or l n output.Empty)
kept_of l n place lent = ap kept_at (sym (get_or_from_slice_get l n place output.Empty lent))
