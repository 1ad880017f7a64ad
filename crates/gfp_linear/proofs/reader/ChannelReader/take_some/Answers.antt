use Rattle.std.proofs.Common.{◌≡◌, ◌∙◌, List, ℕ, ◌++◌, ap, refl, sym, subst, take}
use Rattle.std.specs.Prelude.{option_map, option_to_list}
use Rattle.gfp_frames.specs.Reader.{ReaderState, HasRead}
use Rattle.gfp_linear.specs.ChannelArrivals.{arrival_in, channel_arrivals, seen}
use Rattle.gfp_linear.specs.Steps.ChannelArrivals.{found_in}
use Rattle.gfp_linear.proofs.Arrived.{some_seen, sized}
use Rattle.gfp_linear.proofs.reader.ChannelReader.take_some.Goals as goal

pub returns-then-found : goal.returns-then-found
returns-then-found c =
    let bytes = take c.find_arrival-count.result.0 c.args.bytes.now in
    let new = c.find_arrival-count.new.self in
    let e = c.find_arrival-count.ensures in
    let Q : List ℕ → ReaderState → Type 0 = λ read s. HasRead (read ++ bytes) s in
    let area : c.area.result.now ≡ new.area = c.area.ensures ∙ ap (λ (s : ReaderState). s.area) c.self.view_is in
    let lent : option_map seen c.arrival_of.result ≡ arrival_in new.area = c.arrival_of.ensures ∙ ap arrival_in area in (
      (refl, (λ _. tt), λ read has. subst (Q read) (sym c.self.view_is) (e.read read has)),
      record {
        read = tt;
        arrivals = λ read has.
            e.arrivals read has ∙ ap (λ b. channel_arrivals read ++ found_in b new.area) c.if-found.true ∙ ap (λ o. channel_arrivals read ++ option_to_list o) (sym lent);
        none_before = e.none_before;
        within = e.within;
        all = λ none. absurd (some_seen seen c.arrival_of.result (arrival_in new.area) lent (e.found c.if-found.true) none);
        some = e.some;
        size = sized seen c.arrival_of.result new.area lent (e.size c.if-found.true);
      },
    )

pub returns-else-found : goal.returns-else-found
returns-else-found c =
    let bytes = take c.find_arrival-count.result.0 c.args.bytes.now in
    let new = c.find_arrival-count.new.self in
    let e = c.find_arrival-count.ensures in
    let Q : List ℕ → ReaderState → Type 0 = λ read s. HasRead (read ++ bytes) s in (
      (refl, (λ _. tt), λ read has. subst (Q read) (sym c.self.view_is) (e.read read has)),
      record {
        read = tt;
        arrivals = λ read has. e.arrivals read has ∙ ap (λ b. channel_arrivals read ++ found_in b new.area) c.if-found.false;
        none_before = e.none_before;
        within = e.within;
        all = λ _. e.all c.if-found.false;
        some = e.some;
        size = tt;
      },
    )
