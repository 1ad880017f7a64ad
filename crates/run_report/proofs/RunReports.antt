-- The report of a run, line by line.
use Rattle.std.proofs.Common.{◌≡◌, ◌≤◌, ◌<◌, ◌+◌, ◌*◌, ◌∙◌, ℕ, Bool, List, [], ◌∷◌, ◌++◌, Option, Some, None, length, nat_le, drop, slice_get, refl, ap, sym, arith, add-one, append_assoc, ◌&&◌}
use Rattle.std.specs.Prelude.{if◌then◌else◌}
use Rattle.std.specs.List.{list_all}
use Rattle.std.proofs.Math.Nat.{mul-le-mul_left}
use Rattle.std.proofs.lemmas.Bool.{and_parts, not-false}
use Rattle.std.proofs.lemmas.Bool.Decides.{nat_tests}
use Rattle.plan_file.specs.Answer.{fault_in}
use Rattle.plan_file.specs.Entry.{seen, outline}
use Rattle.plan_file.specs.Rules.{is_name, is_name_byte, is_sapi}
use Rattle.plan_file.specs.declared.connection.Connection.{Connection}
use Rattle.plan_file.specs.declared.error.PlanError.TheVariants.{BadName}
use Rattle.plan_file.specs.declared.plan.Plan.{Plan}
use Rattle.plan_file.proofs.Lists.{slice_get_known}
use Rattle.device_model.specs.declared.outcome.FromState.{FromState}
use Rattle.device_model.specs.Report.{connection_line, connection_lines, used_lines}
use Rattle.device_model.proofs.Kept.{keeps_all}
use Rattle.command_base.proofs.Rows.{flat_map-range_more}

-- one port more of a kind
pub used_more : (is_used : ℕ → Bool) (line : ℕ → List ℕ) (n : ℕ) (first now new : List ℕ) → now ≡ first ++ used_lines n is_used line
    → new ≡ now ++ (if is_used n then line n else []) → new ≡ first ++ used_lines (n + 1) is_used line
used_more is_used line n first now new so_far step =
    let own : ℕ → List ℕ = λ k. if is_used k then line k else [] in
    let last : 0 + n ≡ n = omega arith in
    step ∙ ap (λ xs. xs ++ own n) so_far ∙ append_assoc first (used_lines n is_used line) (own n)
    ∙ ap (λ xs. first ++ xs) (sym (flat_map-range_more own 0 n ∙ ap (λ k. used_lines n is_used line ++ own k) last))

-- one connection more
pub connection_more : (state : ℕ → Option FromState) (xs : List Connection) (i : ℕ) (x : Connection) (now new whole : List ℕ)
    → drop i xs ≡ x ∷ drop (i + 1) xs → now ++ connection_lines i state (drop i xs) ≡ whole → new ≡ now ++ connection_line x.name (state i)
    → new ++ connection_lines (i + 1) state (drop (i + 1) xs) ≡ whole
connection_more state xs i x now new whole front so_far step =
    let rest = drop (i + 1) xs in
    ap (λ ys. ys ++ connection_lines (i + 1) state rest) step
    ∙ append_assoc now (connection_line x.name (state i)) (connection_lines (i + 1) state rest)
    ∙ ap (λ k. now ++ (connection_line x.name (state i) ++ connection_lines k state rest)) (add-one i)
    ∙ ap (λ ys. now ++ connection_lines i state ys) (sym front)
    ∙ so_far

-- a name of an accepted plan has 32 bytes at most
pub short_name : (plan : Plan) (i : ℕ) (x : Connection) → fault_in plan ≡ None → slice_get plan.connections i ≡ Some x → length x.name ≤ 32
unfolding fault_in
short_name plan i x none at_i =
    let known = slice_get_known seen plan.connections i x at_i in
    let broken = (keeps_all (outline plan) none).alone 2 BadName i (seen x) refl known in
    let (name, trace) = and_parts (is_name x.name) (is_sapi x.trace) (not-false _ broken) in
    let (size, bytes) = and_parts (nat_le 1 (length x.name) && nat_le (length x.name) 32) (list_all is_name_byte x.name) name in
    let (least, most) = and_parts (nat_le 1 (length x.name)) (nat_le (length x.name) 32) size in
    grind (arith, nat_tests)

-- the room that lines of a width leave for one more, of so many that fit
pub room_left : (old now width n count : ℕ) {room : ℕ} → now ≤ old + width * n → n < count → old + width * count ≤ room → now + width ≤ room
room_left old now width n count so_far less fits =
    let more : width * (n + 1) ≤ width * count = mul-le-mul_left width (let l : n + 1 ≤ count = omega arith in l) in
    let split : width * (n + 1) ≡ width * n + width = omega arith in
    omega arith

-- and what one line more takes of it
pub most_more : (old now new width n : ℕ) → now ≤ old + width * n → new ≤ now + width → new ≤ old + width * (n + 1)
most_more old now new width n so_far step = omega arith

-- seven parts, one behind the other
pub seven_parts : (a b c d e f g : List ℕ) {t0 t1 t2 t3 t4 t5 t6 t7 : List ℕ} → t0 ≡ [] → t1 ≡ t0 ++ a → t2 ≡ t1 ++ b → t3 ≡ t2 ++ c → t4 ≡ t3 ++ d → t5 ≡ t4 ++ e → t6 ≡ t5 ++ f → t7 ≡ t6 ++ g
    → t7 ≡ a ++ b ++ c ++ d ++ e ++ f ++ g
seven_parts a b c d e f g e0 e1 e2 e3 e4 e5 e6 e7 = rw (e7, e6, e5, e4, e3, e2, e1, e0)
