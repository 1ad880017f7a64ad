use Rattle.std.proofs.Common.{◌≡◌, ◌*◌, ◌^◌, ◌%◌, sym, ◌∙◌, subst, arith, refl, below_more}
use Rattle.std.specs.Prelude.{bit_xor}
use Rattle.std.proofs.lemmas.Bool.{false≢true}
use Rattle.crc_small.specs.Header.{IsRightHeader}
use Rattle.crc_small.proofs.Header.{at_most_one, near_turned, none_near, turned}
use Rattle.crc_small.proofs.header_check.fix_one_bit.Goals as goal

pub returns-then-is_right-clause-at_most_one : goal.returns-then-is_right-clause-at_most_one
returns-then-is_right-clause-at_most_one c = λ a b. at_most_one c.args.header a b

pub loop-place-init : goal.loop-place-init
loop-place-init c = record {
  itself = λ right. false≢true (sym c.if-is_right.false ∙ c.is_right.ensures.1 right);
  below = λ k h. absurd (omega arith);
}

pub returns-then-is_right-2-clause-none : goal.returns-then-is_right-2-clause-none
returns-then-is_right-2-clause-none c =
    let other = bit_xor c.args.header ((1 * 2 ^ c.loop-place.place) % 2 ^ 32) in
    let right : IsRightHeader other = c.is_right-in-loop-place.ensures.0 c.if-is_right-2.true in
    (λ e. absurd (false≢true (sym e)), λ none. absurd (none other right (near_turned c.args.header c.loop-place.place (omega arith))))

pub returns-then-is_right-2-clause-near : goal.returns-then-is_right-2-clause-near
returns-then-is_right-2-clause-near c = near_turned c.args.header c.loop-place.place (omega arith)

pub returns-then-is_right-2-clause-at_most_one : goal.returns-then-is_right-2-clause-at_most_one
returns-then-is_right-2-clause-at_most_one c = λ a b. at_most_one c.args.header a b

pub loop-place-preserved : goal.loop-place-preserved
loop-place-preserved c = record {
  itself = c.loop-place.invariant.itself;
  below = below_more _ _ c.loop-place.invariant.below
      (λ right. false≢true (sym c.if-is_right-2.false ∙ c.is_right-in-loop-place.ensures.1
      (subst (λ x. IsRightHeader x) (sym (turned c.args.header c.loop-place.place (omega arith))) right)));
}

pub returns-clause-none : goal.returns-clause-none
returns-clause-none c =
    let all : c.loop-place.place ≡ 32 = omega arith in
    (λ e right. none_near c.args.header right c.loop-place.invariant.itself (λ k h. c.loop-place.invariant.below k (omega arith)), λ none. refl)

pub returns-clause-at_most_one : goal.returns-clause-at_most_one
returns-clause-at_most_one c = λ a b. at_most_one c.args.header a b
