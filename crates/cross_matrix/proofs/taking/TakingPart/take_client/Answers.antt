use Rattle.std.proofs.Common.{◌≡◌, ◌≤◌, ◌∙◌, List, ℕ, length, take, arith, sym, subst}
use Rattle.std.proofs.lemmas.List.{length-take-le}
use Rattle.port_base.specs.InPlace.{in_view}
use Rattle.cross_matrix.specs.Parts.{ClientInStands}
use Rattle.cross_matrix.specs.Steps.Parts.{TextTook}
use Rattle.cross_matrix.specs.declared.taking.TakingPart.{TakingPart}
use Rattle.cross_matrix.specs.declared.taking.TakingPart.TheVariants as taking
use Rattle.cross_matrix.proofs.PartMoves.{front_of, text_took}
use Rattle.cross_matrix.proofs.taking.TakingPart.take_client.Goals as goal

pub returns-in-Client-clause-took : goal.returns-in-Client-clause-took
returns-in-Client-clause-took g c = λ x first read n e h.
    let f = c.fill_front in
    let now = in_view g.P.Source f.new.place in
    let was = in_view g.P.Source c.args.place.now in
    let client = c.in-Client.client in
    let part : TakingPart = taking.Client (record { framer = f.new.framer; lines = f.new.lines; trace = client.trace; fcs = client.fcs }) in
    let out = c.hand_out-buffer.result.0 in
    let whole : length f.new.into ≡ out.len = f.ensures.size ∙ c.deref_mut.ensures.len in
    let room = c.hand_out-buffer.ensures.room in
    let fits = c.requires.room in
    let within : c.args.count ≤ length f.new.into = omega arith in
    let bytes = take c.args.count f.new.into in
    subst (λ (bytes : List ℕ). TextTook x first now read n c.args.self.now part bytes) (sym (front_of c.args.count out.len f.new.into out.items c.exchange.new.self _ c.exchange.ensures.state whole)) (
    subst (λ (was : TakingPart). TextTook x first now read n was part bytes) (sym c.in-Client.is)
    (text_took x first was now read n c.args.count client f.new.lines f.new.framer bytes e (length-take-le c.args.count f.new.into within) f.ensures.over
    (λ read emitted s. f.ensures.fills first read emitted s) (subst (ClientInStands x first was read n) c.in-Client.is h))
    )
