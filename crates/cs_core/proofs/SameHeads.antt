-- The tests for the same heads and the same views decide whether they are the same.
use Rattle.std.proofs.Common.{◌≡◌, ap, true}
use Rattle.std.specs.Bool.{Decides}
use Rattle.std.proofs.lemmas.Bool.Decides.{Decides-eqb, Decides-and, Decides-like}
use Rattle.std.proofs.lemmas.Slice.Eq.{bytes_eq-Decides}
use Rattle.cs_item.specs.declared.head.Head.{Head}
use Rattle.cs_item.specs.declared.picture.Picture.{Picture}
use Rattle.cs_roll.proofs.SameByRegion.{Decides-rolls, Decides-summaries}
use Rattle.cs_core.specs.Heads.{is_same_head, is_same_view}

-- heads are the same where each part is
pub Decides-head : (h k : Head) → Decides (is_same_head h k) (h ≡ k)
Decides-head h k =
    Decides-like _
    (λ e. λ i. record { epoch = e.0 i; left = e.1.0 i; dropped = e.1.1.0 i; summaries = e.1.1.1.0 i; touched = e.1.1.1.1 i })
    (λ (e : h ≡ k). (
      ap (λ (r : Head). r.epoch) e,
      (
        ap (λ (r : Head). r.left) e,
        (ap (λ (r : Head). r.dropped) e, (ap (λ (r : Head). r.summaries) e, ap (λ (r : Head). r.touched) e)),
      ),
    ))
    (Decides-and _ _ (Decides-eqb h.epoch k.epoch)
    (Decides-and _ _ (bytes_eq-Decides h.left k.left)
    (Decides-and _ _ (bytes_eq-Decides h.dropped k.dropped)
    (Decides-and _ _ (Decides-summaries h.summaries k.summaries) (bytes_eq-Decides h.touched k.touched)))))

-- so the test tells that two heads are the same
pub same_heads : (h k : Head) → is_same_head h k ≡ true → h ≡ k
same_heads h k e = (Decides-head h k).0 e

-- views are the same where the epoch, the rolls and the summaries are
pub Decides-view : (v w : Picture) → Decides (is_same_view v w) (v ≡ w)
Decides-view v w =
    Decides-like _ (λ e. λ i. record { epoch = e.0 i; summaries = e.1.1 i; rolls = e.1.0 i })
    (λ (e : v ≡ w). (ap (λ (p : Picture). p.epoch) e, (ap (λ (p : Picture). p.rolls) e, ap (λ (p : Picture). p.summaries) e)))
    (Decides-and _ _ (Decides-eqb v.epoch w.epoch)
    (Decides-and _ _ (Decides-rolls v.rolls w.rolls) (Decides-summaries v.summaries w.summaries)))

-- so the test tells that two views are the same
pub same_views : (v w : Picture) → is_same_view v w ≡ true → v ≡ w
same_views v w e = (Decides-view v w).0 e
