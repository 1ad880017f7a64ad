use Rattle.std.proofs.Common.{◌∙◌, ◌≤◌, [], ◌∷◌, ◌++◌, length, ap, refl, arith}
use Rattle.std.specs.Prelude.{option_map}
use Rattle.gfp_frames.specs.Reader.{news}
use Rattle.gfp_linear.specs.ChannelArrivals.{channel_arrivals, seen}
use Rattle.gfp_linear.proofs.Arrived.{Searched, reads_one, arrives_one, lent_one, lent_none, sized}
use Rattle.gfp_linear.proofs.reader.ChannelReader.take.Goals as goal

pub returns-then-find_area : goal.returns-then-find_area
returns-then-find_area c =
    let new = c.find_area.new.self in
    let areas = news c.find_area.result.1 new in
    let e = c.find_area.ensures in
    let searched : Searched (c.args.byte ∷ []) c.self.inside.reader c.find_area.result.0 areas new = record { has_read = e.read; areas_are = e.areas; before = e.none_before; within = e.within } in
    let some : 1 ≤ c.find_area.result.0 = e.some (omega arith) in (
      (refl, (λ _. tt), reads_one c.args.byte c.find_area.result.0 c.args.self.now c.self.inside.reader new areas c.self.view_is searched some),
      record {
        read = tt;
        arrivals = λ read has.
            arrives_one c.args.byte c.find_area.result.0 c.args.self.now c.self.inside.reader new areas c.self.view_is searched some read has
            ∙ ap (λ y. channel_arrivals read ++ y) (lent_one c.find_area.result.1 new c.area.result.now (option_map seen c.arrival_of.result) c.if-find_area.true c.area.ensures c.arrival_of.ensures);
        size = sized seen c.arrival_of.result c.area.result.now c.arrival_of.ensures (let few = (e.size c.if-find_area.true).1 in let same = ap length c.area.ensures in omega arith);
      },
    )

pub returns-else-find_area : goal.returns-else-find_area
returns-else-find_area c =
    let new = c.find_area.new.self in
    let areas = news c.find_area.result.1 new in
    let e = c.find_area.ensures in
    let searched : Searched (c.args.byte ∷ []) c.self.inside.reader c.find_area.result.0 areas new = record { has_read = e.read; areas_are = e.areas; before = e.none_before; within = e.within } in
    let some : 1 ≤ c.find_area.result.0 = e.some (omega arith) in (
      (refl, (λ _. tt), reads_one c.args.byte c.find_area.result.0 c.args.self.now c.self.inside.reader new areas c.self.view_is searched some),
      record {
        read = tt;
        arrivals = λ read has.
            arrives_one c.args.byte c.find_area.result.0 c.args.self.now c.self.inside.reader new areas c.self.view_is searched some read has
            ∙ ap (λ y. channel_arrivals read ++ y) (lent_none c.find_area.result.1 new c.if-find_area.false);
        size = tt;
      },
    )
