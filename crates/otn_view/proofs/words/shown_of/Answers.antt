use Rattle.std.proofs.Common.{◌≡◌, ◌∙◌, sym, arith}
use Rattle.std.specs.Prelude.{string_bytes}
use Rattle.otn_view.specs.Words.{word_of}
use Rattle.otn_view.proofs.Forms.{no_tributary}
use Rattle.otn_view.proofs.Lists.{known_item, shown_none, shown_more}
use Rattle.otn_view.proofs.words.shown_of.Goals as goal

pub loop-i-init : goal.loop-i-init
loop-i-init c = shown_none c.args.kind c.new-shown.result.items c.new-shown.ensures.items

pub loop-i-preserved : goal.loop-i-preserved
loop-i-preserved c =
    let item = c.index-words-i.result in
    let known = known_item c.args.words.now c.loop-i.i item (omega (arith, c.loop-i-test.true)) c.index-words-i.is in
    let said : string_bytes item ≡ word_of c.in-Some.one = sym c.as_str.ensures.value ∙ c.in-Some.ensures.one.0 in
    rw c.in_ok-push-in-Some.ensures.items
    (shown_more c.args.kind c.args.words.now c.loop-i.i item c.loop-i.shown.items c.in-Some.one known said c.in-Some.ensures.one.1 c.loop-i.invariant)

pub returns-in-None-clause-none : goal.returns-in-None-clause-none
returns-in-None-clause-none c =
    let item = c.index-words-i.result in
    let known = known_item c.args.words.now c.loop-i.i item (omega (arith, c.loop-i-test.true)) c.index-words-i.is in
    no_tributary c.args.kind c.args.words.now c.loop-i.i item known
    (λ one on said. c.in-None.ensures.none one on (c.as_str.ensures.value ∙ said))
