use Rattle.std.proofs.Common.{◌≡◌, ◌<◌, ◌+◌, ◌∙◌, ◌∷◌, suc, drop, get_or, length, refl, sym, ap, arith, add-one}
use Rattle.std.proofs.Math.Seq.{drop-cons}
use Rattle.std.proofs.lemmas.Option.{slice_get_read}
use Rattle.device_model.specs.RunNumbers.{numbers_of_run}
use Rattle.run_report.proofs.RunReports.{connection_more, short_name}
use Rattle.run_report.proofs.report.put_connections.Goals as goal

pub put_connection-requires-clause-name : goal.put_connection-requires-clause-name
put_connection-requires-clause-name c =
    let xs = c.args.plan.now.connections in
    let x = c.index-connections-i.result in
    let read : get_or xs c.loop-i.i x ≡ x = sym (rw c.as_slice-connections.ensures at c.index-connections-i.is) in
    let within : c.loop-i.i < length xs = rw c.as_slice-connections.ensures at c.loop-i-test.true in
    let short = short_name c.args.plan.now c.loop-i.i x c.requires.accepted (slice_get_read xs (length xs) c.loop-i.i x refl within (sym read)) in
    rw (c.as_str.ensures, ← c.index-connections-i.is) short

pub loop-i-preserved : goal.loop-i-preserved
loop-i-preserved c =
    let xs = c.args.plan.now.connections in
    let x = c.index-connections-i.result in
    let read : get_or xs c.loop-i.i x ≡ x = sym (rw c.as_slice-connections.ensures at c.index-connections-i.is) in
    let within : c.loop-i.i < length xs = rw c.as_slice-connections.ensures at c.loop-i-test.true in
    let front : drop c.loop-i.i xs ≡ x ∷ drop (c.loop-i.i + 1) xs =
    drop-cons xs c.loop-i.i x within ∙ ap (λ y. y ∷ drop (suc c.loop-i.i) xs) read ∙ ap (λ k. x ∷ drop k xs) (sym (add-one c.loop-i.i)) in
    let step = rw (c.as_str.ensures, ← c.index-connections-i.is) at c.put_connection.ensures.text in
    record {
      text = connection_more (numbers_of_run c.args.numbers.now).from xs c.loop-i.i x c.loop-i.text.bytes c.put_connection.new.text.bytes _ front c.loop-i.invariant.text step;
      most = omega (arith, c.put_connection.ensures.most, c.loop-i.invariant.most);
    }
