use Rattle.std.proofs.Common.{◌≡◌, rules, w64, of_z, to_z}
use Rattle.std.specs.String.{string_bytes}
use Rattle.std.proofs.lemmas.Result.{IfOk-equal}
use Rattle.cs_show.proofs.LineLemmas.{three_put}
use Rattle.cs_show.proofs.lines.put_spread.Goals as goal

pub returns : goal.returns
returns c =
    let s = c.args.spread in
    let p : to_z w64 (of_z w64 s.x) ≡ s.x = search rules in
    let q : to_z w64 (of_z w64 s.y) ≡ s.y = search rules in
    let r : to_z w64 (of_z w64 s.z) ≡ s.z = search rules in
    IfOk-equal _ _ _ _ c.put_number-3.ensures
    (three_put (string_bytes c.args.out.now) _ _ _ _ _ (record { x = s.x; y = s.y; z = s.z })
    c.in_ok-put_number.ensures c.in_ok-put_number-2.ensures p q r)
