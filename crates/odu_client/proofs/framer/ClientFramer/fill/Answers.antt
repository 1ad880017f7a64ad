use Rattle.std.proofs.Common.{rules, ◌≡◌, ◌+◌, refl, sym, ap, ◌∙◌, arith, take, length}
use Rattle.std.proofs.lemmas.List.{length-take-le}
use Rattle.gfp_frames.proofs.Idles.{end_put}
use Rattle.odu_client.proofs.Slices.{rest_size, rest_length, rest_more, all_taken}
use Rattle.odu_client.proofs.Framing.{makes_then, same_makes, some_left, left_more}
use Rattle.odu_client.proofs.Totals.{makes_start, framed_from, fills_from}
use Rattle.odu_client.proofs.framer.ClientFramer.fill.Goals as goal

pub loop-done-init : goal.loop-done-init
loop-done-init g c = record {
  within = omega arith;
  size = refl;
  short = λ first read emitted h. (framed_from first _ read emitted _ _ h).1;
  goes = λ first read emitted h. makes_start first _ read emitted _ _ h;
  over = λ other. (refl, refl, refl);
  hand = λ fits. (refl, refl, omega arith);
}

pub loop-done-preserved : goal.loop-done-preserved
loop-done-preserved g c =
    let i = c.loop-done.invariant in
    let h = c.have_frame.ensures in
    let e = c.give-done.ensures in
    let into = c.loop-done.into in
    let done = c.loop-done.done in
    let put = end_put into done c.give-done.new.into in
    let size = ap length put ∙ rest_size into c.give-done.new.into done i.within e.size in
    let more = ap (take (done + c.give-done.result)) put ∙ rest_more into c.give-done.new.into done c.give-done.result i.within in
    record {
      within = (let a = rest_length into done i.within in let b = e.within in omega arith);
      size = size ∙ i.size;
      short = λ first read emitted k. e.short;
      goes = λ first read emitted k. same_makes first _ read emitted _ _ _ _ _ _ more
          (makes_then first _ _ read emitted _ _ _ _ _ _ _ _ _ (i.goes first read emitted k) (λ tk gn s. h.makes first tk gn s) e.gives);
      over = λ other. (let a = i.over other in let b = h.over (λ q. other (sym a.2 ∙ q)) in (b.0 ∙ a.0, b.1 ∙ a.1, ap (λ f. f.stream.answer) e.gives.same ∙ b.2 ∙ a.2));
      hand = λ fits. (let a = i.hand fits in
          let b = h.hand (some_left _ (omega arith)) in
          (b.0 ∙ a.0, b.1 ∙ a.1, left_more _ _ _ _ _ _ _ b.2 e.gives (length-take-le c.give-done.result c.give-done.new.into (let w = e.within in let z = e.size in omega arith)) a.2));
    }

pub returns-clause-fills : goal.returns-clause-fills
returns-clause-fills g c = λ first read emitted h.
    let i = c.loop-done.invariant in
    let all : take c.loop-done.done c.loop-done.into ≡ c.loop-done.into = all_taken c.loop-done.into c.loop-done.done (search rules) i.within in
    fills_from first _ read emitted _ _ _ _ _ (i.short first read emitted h) (rw all at (i.goes first read emitted h))
