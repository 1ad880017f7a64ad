-- The outputs keep what they got since: their places count it.
use Rattle.std.proofs.Common.{◌≡◌, ◌≢◌, ◌<◌, ◌≤◌, ◌+◌, ◌-◌, ◌^◌, min, max, ℕ, Bool, true, false, List, [], ◌∷◌}
use Rattle.std.proofs.Common.{◌++◌, length, length-append, Option, Some, None, get_or, slice_get, take, refl, sym, ap, ◌∙◌, subst, arith, append-nil, append_assoc}
use Rattle.std.proofs.lemmas.List.{take_at}
use Rattle.port_base.specs.Bytes.{after, raised}
use Rattle.port_base.specs.OutPlace.{out_view}
use Rattle.port_base.specs.Racks.{line_outs, client_outs}
use Rattle.port_base.specs.Sent.{IsSent}
use Rattle.port_base.specs.Views.{Live, OutView, BaysView, line_out_at, client_out_at}
use Rattle.port_base.specs.declared.bays.Rack.{Rack}
use Rattle.port_base.specs.declared.out_place.OutPlaceOf.{OutPlaceOf}
use Rattle.port_base.specs.declared.out_place.OutPlaceOf.TheVariants as output
use Rattle.port_base.proofs.BaysLaws.{line_out_seen, client_out_seen}
use Rattle.filled_ports.specs.Filled.{filled_kept}
use Rattle.filled_ports.specs.contracts.sink.FilledSinkSink.TheImpl as sink
use Rattle.filled_ports.specs.contracts.source.FilledSourceSource.TheImpl as source
use Rattle.filled_ports.specs.declared.sink.FilledSink.{FilledSink}
use Rattle.filled_ports.specs.declared.source.FilledSource.{FilledSource}
use Rattle.plan_file.specs.declared.plan.Plan.{Plan}
use Rattle.node_core.specs.Growing.{OutputsGrow}
use Rattle.node_moments.specs.NodeView.{NodeView}
use Rattle.node_moments.specs.Stands.{no_bytes}
use Rattle.live_laws.specs.Live.{telling, AreServed, LiveStands}
use Rattle.live_laws.specs.LivePairs.{HasGot}
use Rattle.live_laws.proofs.Stays.{GoesOnFrom, client_on, client_sent, line_sent, nothing_sent, nothing_yet}
use Rattle.live_node.specs.Kept.{HandsOut, HandsOutSince, KeepsAll, KeepsSince, OutputsKeep, AreNone, AreSent}
use Rattle.live_node.specs.Live.{GoesOn}
use Rattle.live_node.specs.Places.{places, kept_at, line_kept, client_kept}
use Rattle.live_node.proofs.Handing.{kept_of}

-- ---- a place of a rack

pub line_number : (rack : Rack FilledSource FilledSink) (b n : ℕ) (place : OutPlaceOf FilledSink) → slice_get (line_outs rack) b ≡ Some place
    → n ≡ (out_view sink.ghosts place).number → n ≡ (line_out_at (places rack) b).number
line_number rack b n place lent e = e ∙ ap (λ (v : OutView). v.number) (sym (line_out_seen source.ghosts sink.ghosts rack b place lent))

pub client_number : (rack : Rack FilledSource FilledSink) (m n : ℕ) (place : OutPlaceOf FilledSink) → slice_get (client_outs rack) m ≡ Some place
    → n ≡ (out_view sink.ghosts place).number → n ≡ (client_out_at (places rack) m).number
client_number rack m n place lent e = e ∙ ap (λ (v : OutView). v.number) (sym (client_out_seen source.ghosts sink.ghosts rack m place lent))

pub line_keeps : (rack : Rack FilledSource FilledSink) (b sent : ℕ) (place : OutPlaceOf FilledSink) → slice_get (line_outs rack) b ≡ Some place
    → KeepsSince sent (out_view sink.ghosts place) (kept_at place) → KeepsSince sent (line_out_at (places rack) b) (line_kept rack b)
line_keeps rack b sent place lent h =
    subst (λ v. KeepsSince sent v (line_kept rack b)) (sym (line_out_seen source.ghosts sink.ghosts rack b place lent))
    (subst (λ l. KeepsSince sent (out_view sink.ghosts place) l) (kept_of (line_outs rack) b place lent) h)

pub client_keeps : (rack : Rack FilledSource FilledSink) (n sent : ℕ) (place : OutPlaceOf FilledSink) → slice_get (client_outs rack) n ≡ Some place
    → KeepsSince sent (out_view sink.ghosts place) (kept_at place) → KeepsSince sent (client_out_at (places rack) n) (client_kept rack n)
client_keeps rack n sent place lent h =
    subst (λ v. KeepsSince sent v (client_kept rack n)) (sym (client_out_seen source.ghosts sink.ghosts rack n place lent))
    (subst (λ l. KeepsSince sent (out_view sink.ghosts place) l) (kept_of (client_outs rack) n place lent) h)

-- a live place whose count is the sum
pub live_keeps : (sent number : ℕ) (place : OutPlaceOf FilledSink) (port : FilledSink) (kept : List ℕ) → place ≡ output.Live port number → kept ≡ filled_kept port
    → (number < 2 ^ 64 - 1) × (number ≡ sent + length kept) → KeepsSince sent (out_view sink.ghosts place) (kept_at place)
live_keeps sent number place port kept is same sum = subst (λ p. KeepsSince sent (out_view sink.ghosts p) (kept_at p)) (sym is) record {
  alive = λ dead. cc;
  ends = λ live. (port.past.bytes, refl);
  few = λ live. sum.0;
  count = λ live. sum.1 ∙ ap (λ l. sent + length l) same;
  none = λ not. absurd (not refl);
}

-- ---- bytes and counts

some_same : {a b : List ℕ} → ◌≡◌ {A = Option (List ℕ)} (Some a) (Some b) → a ≡ b
some_same e = cc

-- what a place got, by its count
pub counted : (due bytes : List ℕ) (place : OutView) → IsSent telling due place → HasGot place bytes → place.number ≡ raised 0 (length bytes)
counted due bytes place s has =
    s.gained.sends.number ∙ ap (λ l. raised 0 (length l)) (some_same (sym s.gained.sends.got ∙ has.got))

-- Where what a place got ends with what is kept, and grew by some bytes, and its count grew by as many as are kept,
-- these are the bytes.
same_end : (bytes more past kept : List ℕ) → bytes ++ more ≡ past ++ kept → length kept ≡ length more → bytes ++ more ≡ bytes ++ kept
same_end bytes more past kept e size =
    let sizes : length past ≡ length bytes = (let all = ap length e in let one = length-append bytes more in let two = length-append past kept in omega arith) in
    let front : past ≡ bytes = sym (take_at past kept (length bytes) sizes) ∙ ap (take (length bytes)) (sym e) ∙ take_at bytes more (length bytes) refl in
    e ∙ ap (λ l. l ++ kept) front

pub hands_out : (sent : ℕ) (due later bytes others more kept : List ℕ) (was is : OutView) → IsSent telling due was → IsSent telling later is
    → sent ≡ was.number → KeepsSince sent is kept → HasGot was bytes → HasGot is others → others ≡ bytes ++ more → others ≡ bytes ++ kept
hands_out sent due later bytes others more kept was is one two at keeps had has grew =
    let ends = keeps.ends has.alive in
    let few = keeps.few has.alive in
    let count = keeps.count has.alive in
    let e : bytes ++ more ≡ ends.0 ++ kept = sym grew ∙ some_same (sym has.got ∙ ends.1) in
    let was_number = counted due bytes was one had in
    let is_number = counted later others is two has in
    let size : length others ≡ length bytes + length more = ap length grew ∙ length-append bytes more in
    let kept_size : length kept ≡ length more = omega arith in
    grew ∙ same_end bytes more ends.0 kept e kept_size

handed_at : (sent : ℕ) (due later kept : List ℕ) (was is : OutView) → IsSent telling due was → IsSent telling later is → sent ≡ was.number
    → ((bytes others : List ℕ) → HasGot was bytes → HasGot is others → GoesOnFrom bytes others) → KeepsSince sent is kept → HandsOut was is kept
handed_at sent due later kept was is one two at on keeps = record {
  alive = keeps.alive;
  adds = λ bytes others had has.
      let g = on bytes others had has in
      hands_out sent due later bytes others g.more kept was is one two at keeps had has g.parts;
  emptied = keeps.none;
}

-- where a place may not be live
either_live : (sent : ℕ) (kept : List ℕ) (was is : OutView)
    → ((bytes others : List ℕ) → HasGot was bytes → HasGot is others → others ≡ bytes ++ kept) → KeepsSince sent is kept → HandsOut was is kept
either_live sent kept was is adds keeps = record { alive = keeps.alive; adds = adds; emptied = keeps.none }

grown_by : (was is : OutView) (written bytes others : List ℕ) → is.got ≡ after was.got written → HasGot was bytes → HasGot is others → GoesOnFrom bytes others
grown_by was is written bytes others grew had has = record {
  more = written;
  parts = some_same (sym has.got ∙ grew ∙ ap (λ got. after got written) had.got);
}

-- ---- all outputs

pub all_handed : (lines clients : List ℕ) (old new : NodeView) (was kept : BaysView) (rack : Rack FilledSource FilledSink) → kept ≡ was
    → AreSent lines clients kept → OutputsKeep lines clients rack → OutputsGrow kept (places rack)
    → GoesOn old new was (places rack) → AreServed old → AreServed new → new.past ≡ old.past + 1 → HandsOutSince old was rack
all_handed lines clients old new was kept rack same sent_kept keeps grows_kept goes served served_too past plan handed h =
    let k = goes plan handed h in
    let sent = subst (AreSent lines clients) same sent_kept in
    let grows = subst (λ v. OutputsGrow v (places rack)) same grows_kept in
    record {
      line = λ b few.
          let one = line_sent plan handed old was b few h served in
          let two = line_sent plan handed new (places rack) b few k served_too in
          let g = grows b in
          handed_at (get_or lines b 0) one.0 two.0 (line_kept rack b) (line_out_at was b) (line_out_at (places rack) b) one.1 two.1 (sent.line b few)
          (λ bytes others had has. grown_by (line_out_at was b) (line_out_at (places rack) b) g.0 bytes others g.1 had has) (keeps.line b few);
      client = λ n few. either_live (get_or clients n 0) (client_kept rack n) (client_out_at was n) (client_out_at (places rack) n)
          (λ bytes others had has.
          let one = client_sent plan handed old was n bytes few h served had in
          let two = client_sent plan handed new (places rack) n others few k served_too has in
          let g = client_on plan handed old new was (places rack) n bytes others few h k served served_too (omega arith) had has in
          hands_out (get_or clients n 0) one.0 two.0 bytes others g.more (client_kept rack n) (client_out_at was n) (client_out_at (places rack) n)
          one.1 two.1 (sent.client n few) (keeps.client n few) had has g.parts)
          (keeps.client n few);
    }

all_at_first : (sent : ℕ) (due others kept : List ℕ) (is : OutView) → sent ≡ 0 → IsSent telling due is → KeepsSince sent is kept
    → (bytes : List ℕ) → HasGot telling bytes → HasGot is others → others ≡ bytes ++ kept
all_at_first sent due others kept is none two keeps bytes had has =
    let e = nothing_yet telling bytes refl had in
    hands_out sent [] due bytes others others kept telling is (nothing_sent telling refl) two none keeps had has (ap (λ l. l ++ others) (sym e))

pub keeps_all : (lines clients : List ℕ) (plan : Plan) (node : NodeView) (rack : Rack FilledSource FilledSink) → AreNone lines clients
    → OutputsKeep lines clients rack → LiveStands plan no_bytes node (places rack) → AreServed node → KeepsAll rack
keeps_all lines clients plan node rack none keeps h served = record {
  line = λ b few. either_live (get_or lines b 0) (line_kept rack b) telling (line_out_at (places rack) b)
      (λ bytes others had has.
      let two = line_sent plan no_bytes node (places rack) b few h served in
      all_at_first (get_or lines b 0) two.0 others (line_kept rack b) (line_out_at (places rack) b) (none.line b few) two.1 (keeps.line b few) bytes had has)
      (keeps.line b few);
  client = λ n few. either_live (get_or clients n 0) (client_kept rack n) telling (client_out_at (places rack) n)
      (λ bytes others had has.
      let two = client_sent plan no_bytes node (places rack) n others few h served has in
      all_at_first (get_or clients n 0) two.0 others (client_kept rack n) (client_out_at (places rack) n) (none.client n few) two.1 (keeps.client n few) bytes had has)
      (keeps.client n few);
}
