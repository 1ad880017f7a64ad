-- Two calls of `run` that share a connection hand out the same of it.
use Rattle.std.proofs.Common.{◌≡◌, ◌+◌, refl, sym, subst}
use Rattle.std.specs.List.{Contains}
use Rattle.plan_file.specs.declared.connection.Connection.{Connection}
use Rattle.plan_file.specs.declared.connection.FromEnd.{FromEnd}
use Rattle.plan_file.specs.declared.connection.FromEnd.TheVariants as from_end
use Rattle.run_laws.specs.SeenRuns.{Run, AgreeOnInput, ClientGave, SameOutput}
use Rattle.run_command.specs.Headline.{IsIsolated}
use Rattle.otn_c.specs.Isolation.{AgreeOnHanded, Call, CarriedPlan, IsRunOf, SameHandedOut, ShareHanded, client_handed, line_handed, output_of}
use Rattle.otn_c.proofs.ByteRuns.{is_run, run_of}

agree_on : (one other : Call) (first second : Run) (x : Connection) (from : FromEnd) → x.from ≡ from → IsRunOf one first → IsRunOf other second → Contains one.plan.connections x
    → Contains other.plan.connections x → AgreeOnHanded from one other → AgreeOnInput from first second
agree_on one other first second x (from_end.Line a number slots) e is is_too has has_too agree =
    (line_handed one a, line_handed other a, is.line_in x a number slots has e, is_too.line_in x a number slots has_too e, agree)
agree_on one other first second x (from_end.Client n) e is is_too has has_too agree =
    (client_handed one n, is.client_in x n has e, subst (ClientGave second n) (sym agree) (is_too.client_in x n has_too e))
agree_on one other first second x (from_end.Signal signal) e is is_too has has_too agree = tt

pub isolated : IsIsolated → (one other : Call) (x : Connection) → CarriedPlan one → CarriedPlan other → ShareHanded one other x → SameHandedOut one other x
isolated law one other x first second share =
    let is = is_run one first in
    let is_too = is_run other second in
    let agree = agree_on one other (run_of one first) (run_of other second) x x.from refl is is_too share.first share.second share.agree in
    let same : SameOutput (run_of one first) (run_of other second) x
    = law (run_of one first) (run_of other second) x is.ran is_too.ran (record { first = share.first; second = share.second; agree = agree }) in
    record {
      text = λ n to.
          (same.client n (output_of one (4 + n)) (output_of other (4 + n)) to (is.client_out x n share.first to) (is_too.client_out x n share.second to)).front;
      whole_text = λ n to whole whole_too.
          (same.client n (output_of one (4 + n)) (output_of other (4 + n)) to (is.client_out x n share.first to) (is_too.client_out x n share.second to)).whole
          (is.client_lived x n whole share.first to) (is_too.client_lived x n whole_too share.second to);
      places = λ b number past n row column slots place mask gone gone_too.
          (same.line b number past n row column slots (output_of one b) (output_of other b) place mask
          (is.line_out x b number slots share.first place.to) (is_too.line_out x b number slots share.second place.to)).gone
          gone gone_too;
      all_places = λ b number past n row column slots place mask whole whole_too.
          (same.line b number past n row column slots (output_of one b) (output_of other b) place mask
          (is.line_out x b number slots share.first place.to) (is_too.line_out x b number slots share.second place.to)).whole
          (is.line_lived x b number slots whole share.first place.to) (is_too.line_lived x b number slots whole_too share.second place.to);
    }
