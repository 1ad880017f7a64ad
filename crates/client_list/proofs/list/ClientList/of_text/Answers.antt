use Rattle.std.proofs.Common.{◌≡◌, ◌∙◌, List, ℕ, ap, sym, rules}
use Rattle.client_list.specs.ClientLists.{IsClientList, clients_text}
use Rattle.client_list.proofs.ClientLists.{is_number_list, list_read}
use Rattle.client_list.proofs.list.ClientList.of_text.Goals as goal

pub returns-in_err-list-clause-none : goal.returns-in_err-list-clause-none
returns-in_err-list-clause-none c =
    let none : (clients : List ℕ) → IsClientList clients → c.args.text.now ≡ clients_text clients → ⊥
    = λ clients h e. c.in_err-list.ensures.none clients (is_number_list clients h) e in
    search rules

pub returns-clause-clients : goal.returns-clause-clients
returns-clause-clients c =
    let text : c.args.text.now ≡ clients_text c.as_slice.result.now = c.in_ok-list.ensures.numbers.1 ∙ ap clients_text (sym c.as_slice.ensures.value) in
    search rules

pub returns-clause-none : goal.returns-clause-none
returns-clause-none c =
    let numbers = c.in_ok-list.ensures.numbers in
    let read = list_read c.args.text.now c.in_ok-list.list.items c.as_slice.result.now numbers.0 numbers.1 c.as_slice.ensures.value in
    search rules
