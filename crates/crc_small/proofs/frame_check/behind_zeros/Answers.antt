use Rattle.std.proofs.Common.{[], ◌++◌, get_or, ap, ◌∙◌}
use Rattle.std.specs.Prelude.{replicate}
use Rattle.std.proofs.lemmas.List.{append-nil, get_or-append-add, get_or-take}
use Rattle.crc_small.proofs.frame_check.behind_zeros.Goals as goal

pub returns-clause-bytes : goal.returns-clause-bytes
returns-clause-bytes c = λ j l.
    let put = c.copy_from_slice.new.self in
    get_or-append-add (replicate 16 0) (put ++ []) j 0
    ∙ ap (λ xs. get_or xs j 0) (append-nil put ∙ c.copy_from_slice.ensures.after)
    ∙ get_or-take 16 c.args.bytes.now j 0 l
