use Rattle.std.proofs.Common.{◌≡◌, ◌≤◌, ℕ, List, ap, sym, subst, take, length, ◌∙◌, arith, rules}
use Rattle.std.proofs.lemmas.List.{length-take-le}
use Rattle.port_base.specs.Given.{Gained}
use Rattle.port_base.specs.OutPlace.{out_view}
use Rattle.port_base.specs.Views.{Live}
use Rattle.port_base.specs.Writes.{IsWriting}
use Rattle.port_base.specs.declared.drain.Written.TheVariants as written
use Rattle.device_model.specs.Numbers.{whole_lines}
use Rattle.cross_matrix.specs.Receiving.{HeldView}
use Rattle.cross_matrix.specs.Steps.Receiving.{LinesHeld}
use Rattle.cross_matrix.proofs.LineCounts.{flushed, front_of_front, went_within}
use Rattle.cross_matrix.proofs.held_lines.HeldLines.flush.Goals as goal

pub returns-clause-sent : goal.returns-clause-sent
returns-clause-sent g c = λ first packets h.
    let inside = c.self.inside in
    let old = out_view g.K.Sink c.args.place.now in
    let new = out_view g.K.Sink c.write_lines-answer.new.self in
    let was : HeldView = record { text = take inside.len inside.text.items; count = inside.count; packets = inside.packets } in
    let Old : HeldView → Type 0 = λ v. LinesHeld first old packets v in
    let held : LinesHeld first old packets was = subst Old (sym c.self.view_is) h in
    let r = c.write_lines-answer.result.0 in
    let n = c.write_lines-answer.result.1 in
    let more = c.count_written-more.result in
    let e = c.write_lines-answer.ensures in
    let items = inside.text.items in
    let value : c.deref.result.now ≡ items = search rules in
    let again : c.deref-2.result.now ≡ items = search rules in
    let fits : inside.len ≤ length items = search rules in
    let Went : List ℕ → Type 0 = λ bytes. Gained old (take n (take inside.len bytes)) new in
    let gained : Gained old (take n was.text) new = subst Went value e.written in
    let Wrote : List ℕ → Type 0 = λ bytes. IsWriting r n (length (take inside.len bytes)) in
    let writing : old.state ≡ Live → IsWriting r n (length was.text) = λ live. subst Wrote value (e.writing live) in
    let size = length-take-le inside.len items fits in
    let within = went_within old.state r n (length was.text) writing (λ no. ap (λ p. p.1) (e.idle no).1) in
    let lost : r ≡ written.Lost → more ≡ whole_lines (take n was.text) = λ l. c.count_written-more.ensures.lost l ∙ ap (λ bytes. whole_lines (take n bytes)) again ∙ ap whole_lines (sym (front_of_front n inside.len items (omega arith) fits)) in
    rw c.saturating_add-self-inside.ensures (
    flushed first old new packets was r n more e.state (λ no. let f = e.idle no in (ap (out_view g.K.Sink) f.0, ap (λ p. p.0) f.1)) gained writing c.count_written-more.ensures.whole lost held
    )
