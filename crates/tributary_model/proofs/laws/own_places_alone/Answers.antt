use Rattle.tributary_model.proofs.Views.{fixed_by_own_places, whole_view}
use Rattle.tributary_model.proofs.laws.own_places_alone.Goals as goal

pub returns-clause-fixed : goal.returns-clause-fixed
returns-clause-fixed c = fixed_by_own_places

pub returns-clause-whole : goal.returns-clause-whole
returns-clause-whole c = whole_view
