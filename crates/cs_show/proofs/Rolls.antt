-- The rolls of a view, read one after another.
use Rattle.std.proofs.Common.{◌≡◌, ℕ, ◌<◌, List, length, get_or, Some, sym, ap, ◌∙◌, arith}
use Rattle.std.specs.Option.{option_map}
use Rattle.std.proofs.lemmas.List.{get_or_read}
use Rattle.cs_base.specs.declared.member.Member.{Member}
use Rattle.cs_base.proofs.Ascending.{IsAt, find-at}
use Rattle.cs_roll.specs.Sight.{IsByRegion, Rolls, at_region}

-- the roll that is read beside a region is found by it
pub found_at : (read rolls : Rolls) (i : ℕ) (pair : ℕ × List Member) → read ≡ rolls → IsByRegion rolls → i < length read
    → pair ≡ get_or read i pair → at_region pair.0 rolls ≡ Some pair.1
found_at read rolls i pair same ascending below is =
    let number : ℕ × List Member → ℕ = λ p. p.0 in
    let here : pair ≡ get_or rolls i pair = is ∙ ap (λ (ps : Rolls). get_or ps i pair) same in
    let in_range : i < length rolls = omega (arith, ap length same) in
    let at : IsAt number pair.0 rolls i =
    record { in_range = in_range; has_key = λ d. ap number (sym (get_or_read rolls i pair in_range here d)) } in
    ap (option_map (λ (p : ℕ × List Member). p.1)) (find-at number pair.0 rolls i pair ascending at ∙ ap (λ p. Some p) (sym here))
