-- The words of a line, one after another.
use Rattle.std.proofs.Common.{◌≡◌, ◌<◌, ◌+◌, ◌++◌, ℕ, List, [], ◌∷◌, String, length, get_or, take, map, sym, ap, ◌∙◌, Bor}
use Rattle.std.specs.Prelude.{string_bytes}
use Rattle.std.specs.declared.alloc.Global.{Global}
use Rattle.std.proofs.lemmas.List.{map-append, take_more, get_or-map, length-map}
use Rattle.line_tool.specs.Words.{texts}

pub next_word : (words now : List (String Global)) (word : String Global) (parts : List (Bor (List ℕ))) (part : Bor (List ℕ)) (i : ℕ) → i < length parts
    → part ≡ get_or parts i part → texts words ≡ take i (map (λ x. x.now) parts) → now ≡ words ++ word ∷ [] → string_bytes word ≡ part.now
    → texts now ≡ take (i + 1) (map (λ x. x.now) parts)
next_word words now word parts part i within read before push said =
    let within' : i < length (map (λ (x : Bor (List ℕ)). x.now) parts) = rw length-map within in
    ap texts push ∙ map-append string_bytes words (word ∷ []) ∙ ap (λ l. l ++ string_bytes word ∷ []) before
    ∙ ap (λ b. take i (map (λ (x : Bor (List ℕ)). x.now) parts) ++ b ∷ [])
    (said ∙ ap (λ (x : Bor (List ℕ)). x.now) read ∙ sym (get_or-map (λ (x : Bor (List ℕ)). x.now) parts i part [] within))
    ∙ sym (take_more (map (λ (x : Bor (List ℕ)). x.now) parts) i [] within')
