use Rattle.std.proofs.Common.{◌≡◌, ◌<◌, ◌+◌, ◌*◌, ◌%◌, ap, sym, ◌∙◌, subst}
use Rattle.otn_base.specs.declared.kind.PortName.TheVariants as port
use Rattle.otn_base.specs.LineSlots.{slots_of}
use Rattle.line_side.specs.LineForm.{LineForm}
use Rattle.port_base.specs.OutPlace.{out_view}
use Rattle.line_side.specs.LineOutput.{FramePut, LineMade, LineOutView}
use Rattle.node_links.specs.Links.{takes_part}
use Rattle.node_links.specs.Steps.LineFrames.{AllotsOwn, FromBlank}
use Rattle.node_links.proofs.LineFrames.{frame_due, made_on}
use Rattle.node_links.proofs.lines_out.write_line.Goals as goal

pub returns : goal.returns
returns g c =
    let kind = c.kind-kind.result in
    let put : FramePut = record { mfas = c.mfas_of.result; ports = c.slot_map-map.result; bytes = c.fill_line-payload.new.line.frame } in
    let is : kind ≡ c.args.line.now.form.kind = c.kind-kind.ensures in
    let allots = subst (λ links. FromBlank (λ link before now. AllotsOwn kind (takes_part c.args.past (port.LineOut c.args.b) link) link before now) links put.ports) c.deref.ensures.value c.slot_map-map.ensures.allots in
    record {
      writes = record {
        put = put;
        made = λ form first puts h.
            c.finish_with.ensures.made c.args.b form first puts (subst (LineMade c.args.b form first (out_view g.K.Sink c.args.place.now) puts) (sym c.fill_line-payload.ensures.line) (made_on put.bytes h));
        gained = c.finish_with.ensures.gained;
        form = c.finish_with.ensures.form ∙ ap (λ (line : LineOutView). line.form) c.fill_line-payload.ensures.line;
        mfas = subst (λ k. put.mfas ≡ (slots_of k * c.args.past + c.args.n) % 256) is c.mfas_of.ensures;
        gave = c.fill_line-payload.ensures.gave c.args.n;
      };
      due = λ plan inputs accepted is_form fill.
          frame_due plan inputs c.args.b c.args.past c.args.n c.args.links.now.items kind put accepted (is ∙ ap (λ (form : LineForm). form.kind) is_form)
          (subst (λ k. c.args.n < slots_of k) (sym is) c.requires.frame) fill c.mfas_of.ensures c.slot_map-map.ensures.size allots c.fill_line-payload.ensures.size
          c.fill_line-payload.ensures.puts;
    }
