use Rattle.std.proofs.Common.{rules, ◌≡◌, ◌∷◌, [], length, arith, ap, length-append}
use Rattle.odu_client.proofs.Aligning.{keeps_search, finds, slides}
use Rattle.odu_client.proofs.aligner.ClientAligner.search.Goals as goal

pub returns-then-len-lt-FAS_BYTES-clause-goes : goal.returns-then-len-lt-FAS_BYTES-clause-goes
returns-then-len-lt-FAS_BYTES-clause-goes c = keeps_search _ _ _ _ _ _ c.requires c.append.ensures.items (omega arith)

pub returns-then-begins-clause-goes : goal.returns-then-begins-clause-goes
returns-then-begins-clause-goes c =
    let a = c.append.ensures.items in
    let s = c.args.self.now.search_short c.requires in
    let size : length c.append.new.buffer.items ≡ 6 = (let n = ap length a in let m = length-append c.args.self.now.held.items (c.args.byte ∷ []) in omega arith) in
    let v = c.deref.ensures.value in
    finds _ _ _ _ _ _ c.requires a size (search rules)

pub returns-clause-goes : goal.returns-clause-goes
returns-clause-goes c =
    let a = c.append.ensures.items in
    let s = c.args.self.now.search_short c.requires in
    let size : length c.append.new.buffer.items ≡ 6 = (let n = ap length a in let m = length-append c.args.self.now.held.items (c.args.byte ∷ []) in omega arith) in
    let m = c.remove-first.ensures in
    slides _ _ _ _ _ _ _ c.requires a size (search rules) m.items
