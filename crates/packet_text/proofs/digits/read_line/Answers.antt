use Rattle.std.proofs.Common.{◌≡◌, ◌/◌, ◌∙◌, length, take, if◌then◌else◌, Some, None, Bool, arith, ap}
use Rattle.std.proofs.lemmas.List.{length-take-le}
use Rattle.packet_text.proofs.LineBytes.{read_ok}
use Rattle.packet_text.proofs.digits.read_line.Goals as goal

pub returns : goal.returns
returns c =
    let n = length c.trimmed-digits.result.now / 2 in
    let size : length (take n c.args.packet.now) ≡ n = length-take-le n c.args.packet.now (omega arith) in
    let out : length c.decode_digits.new.bytes ≡ n = omega (arith, c.decode_digits.auto.bytes) in
    (omega arith, read_ok _ _ c.decode_digits.new.bytes _ n c.trimmed-digits.ensures c.if-digits-gt-MOST_DIGITS.false (c.decode_digits.ensures ∙ ap (λ (b : Bool). if b then Some c.decode_digits.new.bytes else None) c.if-not-decode_digits.false) out)
