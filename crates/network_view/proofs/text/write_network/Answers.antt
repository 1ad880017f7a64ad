use Rattle.std.proofs.Common.{◌≡◌, ◌∙◌, ◌++◌, ap, codes, length, flat_map}
use Rattle.std.specs.Prelude.{string_bytes}
use Rattle.port_base.specs.PortViews.{sink_view}
use Rattle.network_view.specs.NetworkText.{is_met_by, network_text, numbered, troubles_in, way_lines}
use Rattle.network_view.specs.Ways.{way_at}
use Rattle.network_view.proofs.Whole.{met_is, tells_lost, tells_whole, whole_text}
use Rattle.network_view.proofs.text.write_network.Goals as goal

pub returns-in-Lost-clause-told : goal.returns-in-Lost-clause-told
returns-in-Lost-clause-told g c =
    let named = c.args.named.now in
    let head = string_bytes c.in_ok-head.head in
    let fibres = string_bytes c.in_ok-fibres.fibres in
    let ways = string_bytes c.in_ok-ways.ways in
    let troubles = string_bytes c.in_ok-troubles.troubles in
    let status = c.word_of_status-status.result.now in
    let parts : string_bytes c.in_ok-text.text ≡ head ++ (fibres ++ (ways ++ (troubles ++ (codes "status " ++ (status ++ codes "\n"))))) =
    c.in_ok-text.ensures.ok in
    let whole : c.as_bytes-2.result.now ≡ network_text named = c.as_bytes-2.ensures.value ∙ parts
    ∙ whole_text named c.in_ok-legs.legs.items head fibres ways troubles status c.is_met-met.result c.in_ok-legs.ensures c.in_ok-head.ensures
    c.in_ok-fibres.ensures
    (c.in_ok-ways.ensures ∙ ap (λ xs. numbered (way_lines named) 1 (flat_map (way_at named.network (length xs)) xs)) c.as_slice.ensures.value)
    (c.in_ok-troubles.ensures ∙ ap (troubles_in named) c.as_slice-2.ensures.value)
    (c.is_met-met.ensures ∙ ap is_met_by c.as_bytes.ensures.value) c.word_of_status-status.ensures in
    tells_lost named c.write_whole.result c.as_bytes-2.result.now (sink_view g.K.Sink c.args.report.now)
    (sink_view g.K.Sink c.write_whole.new.sink) whole c.in-Lost.is c.write_whole.ensures.port

pub returns-clause-told : goal.returns-clause-told
returns-clause-told g c =
    let named = c.args.named.now in
    let head = string_bytes c.in_ok-head.head in
    let fibres = string_bytes c.in_ok-fibres.fibres in
    let ways = string_bytes c.in_ok-ways.ways in
    let troubles = string_bytes c.in_ok-troubles.troubles in
    let status = c.word_of_status-status.result.now in
    let parts : string_bytes c.in_ok-text.text ≡ head ++ (fibres ++ (ways ++ (troubles ++ (codes "status " ++ (status ++ codes "\n"))))) =
    c.in_ok-text.ensures.ok in
    let amiss = c.in_ok-troubles.ensures ∙ ap (troubles_in named) c.as_slice-2.ensures.value in
    let met = c.is_met-met.ensures ∙ ap is_met_by c.as_bytes.ensures.value in
    let whole : c.as_bytes-2.result.now ≡ network_text named = c.as_bytes-2.ensures.value ∙ parts
    ∙ whole_text named c.in_ok-legs.legs.items head fibres ways troubles status c.is_met-met.result c.in_ok-legs.ensures c.in_ok-head.ensures
    c.in_ok-fibres.ensures
    (c.in_ok-ways.ensures ∙ ap (λ xs. numbered (way_lines named) 1 (flat_map (way_at named.network (length xs)) xs)) c.as_slice.ensures.value)
    amiss met c.word_of_status-status.ensures in
    tells_whole named c.is_met-met.result c.answer_of.result c.write_whole.result c.as_bytes-2.result.now (sink_view g.K.Sink c.args.report.now)
    (sink_view g.K.Sink c.write_whole.new.sink)
    (met_is named c.in_ok-legs.legs.items troubles c.is_met-met.result c.in_ok-legs.ensures amiss met) c.answer_of.ensures whole c.in-Whole.is
    c.write_whole.ensures.port
