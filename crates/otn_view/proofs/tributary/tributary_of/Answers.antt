use Rattle.std.proofs.Common.{◌≡◌, ◌≤◌, ◌∙◌, ◌∷◌, ◌++◌, Some, None, codes, sym, ap, subst, arith, rules, append_assoc}
use Rattle.std.specs.Fmt.{decimal}
use Rattle.std.proofs.lemmas.Str.Pattern.{split_after, split_parts}
use Rattle.otn_base.specs.LineSlots.{slots_of}
use Rattle.otn_base.specs.SlotList.{IsSlotList}
use Rattle.line_view.specs.ViewText.{slots_text}
use Rattle.line_view.specs.declared.shown.Shown.{Shown}
use Rattle.otn_view.proofs.Forms.{cut_word, no_colon}
use Rattle.otn_view.specs.Words.{IsAllAlong, word_of}
use Rattle.otn_view.proofs.tributary.tributary_of.Goals as goal

pub returns-in_err-port-clause-none : goal.returns-in_err-port-clause-none
returns-in_err-port-clause-none c =
    let none : (one : Shown) → IsAllAlong c.args.kind one → c.args.word.now ≡ word_of one → ⊥
    = λ one h e. split_after 58 c.args.word.now (decimal one.port) (slots_text one.slots.list) None c.in_err-port.ensures.cases (omega arith) (cut_word c.args.word.now one e) (no_colon c.args.kind one h) in
    search rules

pub returns-in_err-port-2-clause-none : goal.returns-in_err-port-2-clause-none
returns-in_err-port-2-clause-none c =
    let none : (one : Shown) → IsAllAlong c.args.kind one → c.args.word.now ≡ word_of one → ⊥
    = λ one h e.
    let parts = split_after 58 c.args.word.now (decimal one.port) (slots_text one.slots.list) (Some (c.in_ok-port.port, c.in_ok-port.slots)) c.in_ok-port.ensures.cases (omega arith)
    (cut_word c.args.word.now one e) (no_colon c.args.kind one h) in
    c.in_err-port-2.ensures.none one.port (c.as_bytes.ensures.value ∙ parts.0) h.on_line.low h.on_line.high in
    search rules

pub returns-in_err-slots_of-clause-none : goal.returns-in_err-slots_of-clause-none
returns-in_err-slots_of-clause-none c =
    let none : (one : Shown) → IsAllAlong c.args.kind one → c.args.word.now ≡ word_of one → ⊥
    = λ one h e.
    let parts = split_after 58 c.args.word.now (decimal one.port) (slots_text one.slots.list) (Some (c.in_ok-port.port, c.in_ok-port.slots)) c.in_ok-port.ensures.cases (omega arith)
    (cut_word c.args.word.now one e) (no_colon c.args.kind one h) in
    c.in_err-slots_of.ensures.none one.slots.list h.slots (c.as_bytes-2.ensures.value ∙ parts.1) in
    search rules

pub returns-clause-one : goal.returns-clause-one
returns-clause-one c =
    let made = c.all_along.ensures in
    let parts = split_parts 58 c.args.word.now (Some (c.in_ok-port.port, c.in_ok-port.slots)) c.in_ok-port.ensures.cases (omega arith) in
    let port = c.in_ok-port-2.ensures.port in
    let slots = c.in_ok-slots_of.ensures.slots in
    let front : c.in_ok-port.port.now ≡ decimal c.all_along.result.port = sym c.as_bytes.ensures.value ∙ port.0 ∙ ap decimal (sym made.port) in
    let behind : c.in_ok-port.slots.now ≡ slots_text c.all_along.result.slots.list = sym c.as_bytes-2.ensures.value ∙ slots.0 ∙ ap (λ s. slots_text s.list) (sym made.slots) in (
      parts.0 ∙ ap (λ xs. xs ++ 58 ∷ c.in_ok-port.slots.now) front ∙ ap (λ ys. decimal c.all_along.result.port ++ 58 ∷ ys) behind
          ∙ sym (append_assoc (decimal c.all_along.result.port) (codes ":") (slots_text c.all_along.result.slots.list)),
      record {
        on_line = record {
          kind_is = ap (λ s. s.kind) made.slots ∙ slots.1;
          low = subst (λ n. 1 ≤ n) (sym made.port) port.1;
          high = subst (λ n. n ≤ slots_of c.args.kind) (sym made.port) port.2;
        };
        slots = subst (λ s. IsSlotList (slots_of c.args.kind) s.list) (sym made.slots) slots.2;
        name = made.name;
        first = made.first;
        stop = made.stop;
      },
    )
