use Rattle.std.proofs.Common.{◌≡◌, ◌≢◌, ap, length, ◌∙◌, refl}
use Rattle.port_base.specs.Views.{Live}
use Rattle.port_base.specs.InPlace.{in_view}
use Rattle.port_base.specs.declared.in_place.Reading.TheVariants.{End}
use Rattle.port_base.specs.Reads.{idle_reading}
use Rattle.frame_geometry.specs.Loans.{after_loan-whole}
use Rattle.line_side.proofs.Reading.{frame_came, frame_alive, frame_dead, lost_dead, not_dead}
use Rattle.line_side.proofs.reader.read_into.Goals as goal

pub returns-in_default : goal.returns-in_default
returns-in_default g c =
    let e = c.read_full-reading.ensures in
    let len : length c.read_full-reading.new.into ≡ 16320 = c.read_full-reading.auto.into ∙ c.as_bytes_mut.ensures.size in
    let idle : (in_view g.P.Source c.args.place.now).state ≢ Live → (in_view g.P.Source c.read_full-reading.new.self ≡ in_view g.P.Source c.args.place.now) × (c.read_full-reading.result ≡ End 0) = λ rests. let h = e.idle rests in (ap (in_view g.P.Source) h.0, h.2 ∙ ap idle_reading c.as_bytes_mut.ensures.size) in
    rw (after_loan-whole 4080 c.args.frame.now c.read_full-reading.new.into len)
    (frame_alive _ _ _ _ (not_dead g.P.Source _ c.in_default.not-Dead) (frame_came _ _ _ _ len e.state e.live idle) (lost_dead _ (in_view g.P.Source c.args.place.now) (in_view g.P.Source c.read_full-reading.new.self) e.state (λ rests. (idle rests).1)))

pub returns-in-Dead : goal.returns-in-Dead
returns-in-Dead g c =
    let e = c.read_full-reading.ensures in
    let len : length c.read_full-reading.new.into ≡ 16320 = c.read_full-reading.auto.into ∙ c.as_bytes_mut.ensures.size in
    let idle : (in_view g.P.Source c.args.place.now).state ≢ Live → (in_view g.P.Source c.read_full-reading.new.self ≡ in_view g.P.Source c.args.place.now) × (c.read_full-reading.result ≡ End 0) = λ rests. let h = e.idle rests in (ap (in_view g.P.Source) h.0, h.2 ∙ ap idle_reading c.as_bytes_mut.ensures.size) in
    rw (after_loan-whole 4080 c.args.frame.now c.read_full-reading.new.into len)
    (frame_dead _ _ _ _ (rw c.in-Dead.is refl) (frame_came _ _ _ _ len e.state e.live idle))
