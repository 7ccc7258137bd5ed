use Rattle.std.proofs.Common.{◌≡◌, ◌∙◌, ℕ, ◌+◌, List, ◌∷◌, Option, Some, None, drop, get_or, Bool, true, false, refl, sym, ap, arith, if◌then◌else◌}
use Rattle.std.specs.Option.{option_or, unwrap_or}
use Rattle.std.proofs.lemmas.List.{drop_more}
use Rattle.cs_node.specs.Folding.{begins_as_base, from_last_base}
use Rattle.cs_node.proofs.Bases.{Frames}
use Rattle.cs_node.proofs.folding.from_last_base.Goals as goal
use Rattle.cs_node.proofs.folding.from_last_base.Goals.{then-begins_as_base, else-begins_as_base}

-- one frame more is passed
passed : (frames rest seen : Frames) (frame : ℕ × List ℕ) (i : ℕ) → drop i frames ≡ frame ∷ rest → (b : Bool) → begins_as_base frame.1 ≡ b
    → unwrap_or (from_last_base (drop i frames)) seen ≡ unwrap_or (from_last_base rest) (if b then drop i frames else seen)
passed frames rest seen frame i step b is =
    ap (λ (left : Frames). unwrap_or (from_last_base left) seen) step
    ∙ ap (λ (begins : Bool). unwrap_or (option_or (from_last_base rest) (if begins then Some (frame ∷ rest) else None)) seen) is
    ∙ by (from_last_base rest) b
  where
    by : (o : Option Frames) (b : Bool)
        → unwrap_or (option_or o (if b then Some (frame ∷ rest) else None)) seen ≡ unwrap_or o (if b then drop i frames else seen)
    by (Some found) b = refl
    by None true = sym step
    by None false = refl

pub loop-i-preserved : goal.loop-i-preserved
loop-i-preserved c =
    let frames = c.args.frames.now in
    let i = c.loop-i.i in
    let frame = get_or frames i c.index-frames-i.result in
    let rest = drop (i + 1) frames in
    let step : drop i frames ≡ frame ∷ rest = drop_more frames i c.index-frames-i.result c.loop-i-test.true in
    let begins : begins_as_base frame.1 ≡ c.begins_as_base.result =
    ap begins_as_base (sym c.as_slice.ensures) ∙ sym c.begins_as_base.ensures in
    elim c.if-begins_as_base.branch [
      | then-begins_as_base w ↦ record {
        from = omega (arith, w.from-is);
        seen = c.loop-i.invariant.seen ∙ passed frames rest (drop c.loop-i.from frames) frame i step true (begins ∙ w.if-begins_as_base.true)
            ∙ ap (λ from. unwrap_or (from_last_base rest) (drop from frames)) (sym w.from-is);
      }
      | else-begins_as_base w ↦ record {
        from = omega (arith, w.from-is, c.loop-i.invariant.from);
        seen = c.loop-i.invariant.seen ∙ passed frames rest (drop c.loop-i.from frames) frame i step false (begins ∙ w.if-begins_as_base.false)
            ∙ ap (λ from. unwrap_or (from_last_base rest) (drop from frames)) (sym w.from-is);
      }
    ]
