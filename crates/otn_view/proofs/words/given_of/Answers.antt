use Rattle.std.proofs.Common.{List, subst}
use Rattle.std.specs.Prelude.{IfSome, IfNone}
use Rattle.line_view.specs.declared.shown.Shown.{Shown}
use Rattle.otn_view.proofs.Forms.{not_given}
use Rattle.otn_view.specs.Words.{AreShown, texts}
use Rattle.otn_view.proofs.words.given_of.Goals as goal

pub returns-in-None-clause-none : goal.returns-in-None-clause-none
returns-in-None-clause-none c =
    let behind = texts c.behind-scrambled.result.1.now in
    let none : (all : List Shown) → AreShown c.kind_by-kind.result behind all → ⊥
    = subst (λ o. IfNone o ((all : List Shown) → AreShown c.kind_by-kind.result behind all → ⊥)) c.in-None.is c.in_ok-shown_of.ensures.none in
    not_given (texts c.args.words.now) (texts c.behind-otu3.result.1.now) behind c.behind-otu3.result.0 c.behind-scrambled.result.0
    c.behind-otu3.ensures.words c.behind-otu3.ensures.other c.behind-scrambled.ensures.words c.behind-scrambled.ensures.other
    (subst (λ k. (all : List Shown) → AreShown k behind all → ⊥) c.kind_by-kind.ensures none)

pub returns-in-Some-clause-on_line : goal.returns-in-Some-clause-on_line
returns-in-Some-clause-on_line c =
    let are : AreShown c.kind_by-kind.result (texts c.behind-scrambled.result.1.now) c.in-Some.shown.items
    = subst (λ o. IfSome o (λ all. AreShown c.kind_by-kind.result (texts c.behind-scrambled.result.1.now) all.items)) c.in-Some.is c.in_ok-shown_of.ensures.shown in
    λ i x at. (are.each i x at).on_line
