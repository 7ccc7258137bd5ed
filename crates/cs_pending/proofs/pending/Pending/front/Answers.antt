use Rattle.std.proofs.Common.{◌≡◌, ◌∙◌, ◌++◌, ◌<◌, [], ◌∷◌, Some, take, length, slice_get, sym, ap, subst, arith}
use Rattle.std.proofs.lemmas.List.{take_more}
use Rattle.std.proofs.lemmas.Option.{get_or_from_slice_get}
use Rattle.cs_pending.proofs.pending.Pending.front.Goals as goal

pub loop-i-preserved : goal.loop-i-preserved
loop-i-preserved c =
    let change = c.index.result.now in
    let all = c.args.self.now in
    let within : c.loop-i.i < length all = omega (arith, c.requires) in
    let read : slice_get all c.loop-i.i ≡ Some change = subst (λ xs. slice_get xs c.loop-i.i ≡ Some change) c.self.view_is c.index.ensures in
    let same = get_or_from_slice_get all c.loop-i.i change change read in
    c.in_ok-push.ensures.ok
    ∙ ap (λ front. front ++ change ∷ []) c.loop-i.invariant
    ∙ ap (λ x. take c.loop-i.i all ++ x ∷ []) (sym same)
    ∙ sym (take_more all c.loop-i.i change within)
