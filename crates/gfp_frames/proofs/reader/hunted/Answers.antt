use Rattle.std.proofs.Common.{◌≡◌, ℕ, ◌<◌, get_or, length, Option, Some, None, false, refl, sym, ◌∙◌, arith}
use Rattle.std.specs.Prelude.{is_some}
use Rattle.std.proofs.lemmas.Bool.{false≢true}
use Rattle.gfp_frames.proofs.Over.{hunt_begins, hunt_next}
use Rattle.gfp_frames.proofs.reader.hunted.Goals as goal

no_some : (o : Option ℕ) → is_some o ≡ false → o ≡ None
no_some None e = refl
no_some (Some x) e = absurd (false≢true (sym e))

pub loop-i-init : goal.loop-i-init
loop-i-init c = record { goes = hunt_begins c.args.three; small = c.requires }

pub loop-i-preserved : goal.loop-i-preserved
loop-i-preserved c =
    let bytes = c.args.bytes.now in
    let i = c.loop-i.i in
    let byte = get_or bytes i 0 in
    let few : byte < 256 = omega (arith, c.type_inv.bytes i) in
    let within : i < length bytes = omega arith in
    let none = sym c.checked_pli.ensures.value ∙ no_some c.checked_pli.result (sym c.is_some.ensures ∙ c.if-is_some.false) in
    record {
      goes = λ register. hunt_next c.args.three c.loop-i.last byte register bytes i c.loop-i.invariant.small few within refl none (c.loop-i.invariant.goes register);
      small = omega arith;
    }
