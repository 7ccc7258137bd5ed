use Rattle.std.proofs.Common.{◌≡◌, ◌++◌, ◌<◌, [], ◌∷◌, map, decimal, take, length, ap, sym, append-nil, ◌∙◌, arith}
use Rattle.std.specs.List.{join_with_byte}
use Rattle.std.specs.String.{string_bytes}
use Rattle.cs_world.proofs.LineLemmas.{first_part, next_part, numbers_more, length_numbers}
use Rattle.cs_world.proofs.lines.put_regions.Goals as goal
use Rattle.cs_world.proofs.lines.put_regions.Goals.{then-place-gt0+in_ok-write, else-place-gt0}

pub loop-place-preserved : goal.loop-place-preserved
loop-place-preserved c =
    let all = c.as_slice-pair-items.result.now in
    let place = c.loop-place.place in
    let below : place < length all = omega arith in
    let more = numbers_more all place c.pair-item.result below c.pair-item.is in
    let many = length_numbers all place below in
    let start = string_bytes c.args.out.now in
    let was = string_bytes c.loop-place.out in
    let mid = string_bytes c.if-place-gt0.out in
    let now = string_bytes c.write-in-loop-place.new.self in
    let front = map decimal (map (λ pair. pair.0) (take place all)) in
    let x = decimal c.pair-item.result.0 in
    let e : now ≡ start ++ join_with_byte 44 (front ++ x ∷ []) = elim c.if-place-gt0.branch [
      | then-place-gt0+in_ok-write w ↦
          let between : mid ≡ was ++ 44 ∷ [] = ap string_bytes w.out-is ∙ w.in_ok-write.ensures.bytes in
          next_part start was mid now front x (omega (arith, many)) c.loop-place.invariant between c.in_ok-write-2.ensures.bytes
      | else-place-gt0 w ↦
          let same : mid ≡ was = ap string_bytes w.out-is in
          first_part start was now front x (omega (arith, many)) c.loop-place.invariant
          (c.in_ok-write-2.ensures.bytes ∙ ap (λ text. text ++ x) same)
    ] in
    e ∙ ap (λ parts. start ++ join_with_byte 44 parts) (sym more)

pub loop-place-init : goal.loop-place-init
loop-place-init c = sym (append-nil (string_bytes c.args.out.now))
