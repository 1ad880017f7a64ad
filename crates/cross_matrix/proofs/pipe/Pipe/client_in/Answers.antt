use Rattle.std.proofs.Common.{sym, subst}
use Rattle.device_model.specs.Through.{of_client}
use Rattle.cross_matrix.specs.Parts.{ClientInStands, MayShow}
use Rattle.cross_matrix.specs.Pipes.{PipeView}
use Rattle.cross_matrix.proofs.pipe.Pipe.client_in.Goals as goal

pub returns : goal.returns
returns c = λ x first now read n input h may.
    c.client_in.ensures x first now read n input (subst (λ (p : PipeView). ClientInStands x first now read n p.taking) (sym c.self.view_is) h)
    (subst (λ (p : PipeView). MayShow p.taking read (of_client input)) (sym c.self.view_is) may)
