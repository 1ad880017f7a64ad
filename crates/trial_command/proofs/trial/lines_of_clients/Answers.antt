use Rattle.std.proofs.Common.{◌++◌, ap, sym, ◌∙◌, arith}
use Rattle.std.specs.Prelude.{string_bytes}
use Rattle.port_base.specs.OutPlace.{out_view}
use Rattle.port_base.specs.Views.{OutView}
use Rattle.port_base.specs.contracts.mem_source.MemSourceSource.TheImpl as source
use Rattle.port_base.proofs.BaysLaws.{client_out_seen}
use Rattle.trial_command.proofs.TrialReport.{none_told, next_told}
use Rattle.trial_command.proofs.TrialPlaces.{text_sink, view}
use Rattle.trial_command.proofs.trial.lines_of_clients.Goals as goal

pub loop-c-init : goal.loop-c-init
loop-c-init c = none_told (view text_sink c.args.bays.now) (string_bytes c.new-lines.result) c.new-lines.ensures.bytes

pub text_of-text-requires : goal.text_of-text-requires
text_of-text-requires c =
    ap (λ (v : OutView). v.state) (sym (client_out_seen source.ghosts text_sink c.args.bays.now c.loop-c.c c.client_out.result.now c.client_out.ensures)) ∙ c.requires c.loop-c.c (omega arith)

pub loop-c-preserved : goal.loop-c-preserved
loop-c-preserved c =
    let n = c.loop-c.c in
    let place = c.client_out.result.now in
    let lines = string_bytes c.loop-c.lines in
    next_told n (view text_sink c.args.bays.now) (out_view text_sink place) c.text_of-text.result.now (string_bytes c.in_ok-line.line) lines (string_bytes c.push_str.new.self)
    (omega arith) c.loop-c.invariant (client_out_seen source.ghosts text_sink c.args.bays.now n place c.client_out.ensures) c.text_of-text.ensures c.in_ok-line.ensures
    (c.in_ok-push_str.ensures.bytes ∙ ap (λ s. lines ++ s) c.deref.ensures)
