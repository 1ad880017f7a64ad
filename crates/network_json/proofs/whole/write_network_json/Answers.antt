use Rattle.std.proofs.Common.{◌≡◌, ◌∙◌, ap}
use Rattle.std.specs.Prelude.{string_bytes}
use Rattle.port_base.specs.PortViews.{sink_view}
use Rattle.serde_json.specs.View.{view}
use Rattle.serde_json.specs.Written.{has_float}
use Rattle.network_json.specs.NetworkJson.{network_json}
use Rattle.network_json.proofs.Telling.{line_is, tells_lost, tells_whole}
use Rattle.network_json.proofs.Values.{no_float}
use Rattle.network_json.proofs.whole.write_network_json.Goals as goal

pub line_of-requires : goal.line_of-requires
line_of-requires g c = ap has_float c.in_ok-told.ensures.value ∙ no_float c.args.named.now

pub returns-in-Lost-clause-told : goal.returns-in-Lost-clause-told
returns-in-Lost-clause-told g c =
    let named = c.args.named.now in
    let whole : c.as_bytes.result.now ≡ network_json named = c.as_bytes.ensures.value
    ∙ line_is named (view c.in_ok-told.told.0) (string_bytes c.in_ok-text.text) c.in_ok-told.ensures.value c.in_ok-text.ensures in
    tells_lost named c.write_whole.result c.as_bytes.result.now (sink_view g.K.Sink c.args.report.now) (sink_view g.K.Sink c.write_whole.new.sink) whole
    c.in-Lost.is c.write_whole.ensures.port

pub returns-clause-told : goal.returns-clause-told
returns-clause-told g c =
    let named = c.args.named.now in
    let whole : c.as_bytes.result.now ≡ network_json named = c.as_bytes.ensures.value
    ∙ line_is named (view c.in_ok-told.told.0) (string_bytes c.in_ok-text.text) c.in_ok-told.ensures.value c.in_ok-text.ensures in
    tells_whole named c.in_ok-told.told.1 c.answer_of.result c.write_whole.result c.as_bytes.result.now (sink_view g.K.Sink c.args.report.now)
    (sink_view g.K.Sink c.write_whole.new.sink) c.in_ok-told.ensures.met c.answer_of.ensures whole c.in-Whole.is c.write_whole.ensures.port
