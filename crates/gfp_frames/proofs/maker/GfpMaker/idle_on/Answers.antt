use Rattle.std.proofs.Common.{◌≡◌, ◌-◌, ◌*◌, ◌/◌, ◌<◌, ◌++◌, ◌≤◌, drop, take, length, ap, ◌∙◌, arith, refl, length-append, length-drop}
use Rattle.std.proofs.lemmas.List.{length-take-le, take_rest}
use Rattle.gfp_frames.specs.Maker.{idle_bytes, MakerState}
use Rattle.gfp_frames.proofs.Texts.{header_size}
use Rattle.gfp_frames.proofs.Idles.{idle_end, idle_size}
use Rattle.gfp_frames.proofs.maker.GfpMaker.idle_on.Goals as goal

pub returns-then-whole-into-clause-bytes : goal.returns-then-whole-into-clause-bytes
returns-then-whole-into-clause-bytes c =
    let into = c.args.into.now in
    let n = length into in
    let whole = n / 4 * 4 in
    let front = c.put_idles.new.into in
    let few : whole ≤ n = omega arith in
    let part : length (take whole into) ≡ whole = length-take-le whole into few in
    let idles : front ≡ idle_bytes (whole / 4) = c.put_idles.ensures ∙ ap (λ k. idle_bytes (k / 4)) part in
    let size : length front ≡ whole = ap length idles ∙ idle_size (whole / 4) ∙ (let e : 4 * (whole / 4) ≡ whole = omega arith in e) in
    let all : length (front ++ drop whole into) ≡ n = (let e = length-append front (drop whole into) in let f = length-drop whole into in omega arith) in
    let short : whole < n = (let t : whole < length (front ++ drop whole into) = c.if-whole-into.true in omega arith) in
    let both = front ++ drop whole into in
    let end : length (take (length both - whole) (drop whole both)) ≡ n - whole = ap length (take_rest both whole) ∙ length-drop whole both ∙ ap (λ k. k - whole) all in
    let rest : length c.give.new.into ≡ n - whole = c.give.auto.into ∙ end in
    let header = header_size 0 in
    let hand : length c.put_idle.new.self.hand ≡ 4 = ap (λ (m : MakerState). length m.hand) c.put_idle.ensures ∙ header in
    idle_end front (drop whole into) c.give.new.into c.give.new.self.hand n whole c.give.result refl short size idles rest
    (let count = c.give.ensures.count in omega arith) (c.give.ensures.bytes ∙ ap (λ (m : MakerState). m.hand) c.put_idle.ensures)
