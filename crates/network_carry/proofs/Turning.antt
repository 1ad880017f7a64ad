-- All turns: what is done twice in a turn is done once.
use Rattle.std.proofs.Common.{◌≡◌, ◌∙◌, arith, List}
use Rattle.network_run.specs.Sites.{EachOne, SameMoment, IsTurned}
use Rattle.network_run.specs.declared.site.Site.{Site}
use Rattle.network_run.proofs.Turning.{each_twice}

-- nodes that were in the same turn have done a turn more
pub turned_from : {P K : Type 0} (olds mids news : List (Site P K)) → EachOne SameMoment olds mids → EachOne IsTurned mids news → EachOne IsTurned olds news
turned_from {P} {K} olds mids news same turned = each_twice SameMoment IsTurned IsTurned olds mids news both same turned
  where
    both : (old mid new : Site P K) → SameMoment old mid → IsTurned mid new → IsTurned old new
    both old mid new one two = record {
      turns = two.turns ∙ one.turns;
      rests = λ over. (let turns = one.turns in let past = one.past in two.rests (omega arith)) ∙ one.past;
      done = λ going. (let turns = one.turns in let past = one.past in let more = two.done (omega arith) in omega arith);
    }
