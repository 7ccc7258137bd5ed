-- Five lists of lines in a row, of some of which no line passes a test.
use Rattle.std.proofs.Common.{◌≡◌, Bool, false, List, [], ◌++◌, refl, ap, ◌∙◌, append-nil}
use Rattle.std.specs.List.{AllByRecursion, filter, list_any}
use Rattle.std.proofs.lemmas.List.Elements.{All-from_recursion, filter-append}
use Rattle.std.proofs.lemmas.List.Folds.{list_any_none}
use Rattle.cs_show.specs.Text.{Line}
use Rattle.cs_show.proofs.BlockLines.{All-five}
use Rattle.cs_show.proofs.LineLemmas.{filter-none}

module _ (test : Line → Bool) (a b c d e : List Line) where
  -- the lines that pass, list by list
  filter-five : filter test (a ++ b ++ c ++ d ++ e) ≡ filter test a ++ filter test b ++ filter test c ++ filter test d ++ filter test e
  filter-five = rw (filter-append test (a ++ b ++ c ++ d) e, filter-append test (a ++ b ++ c) d, filter-append test (a ++ b) c, filter-append test a b) refl

  -- no line passes
  abbrev None-of : List Line → Type 0
  None-of lines = AllByRecursion (λ line. test line ≡ false) lines

  -- but of the second list
  pub filter-second : None-of a → None-of c → None-of d → None-of e → filter test (a ++ b ++ c ++ d ++ e) ≡ filter test b
  filter-second not_a not_c not_d not_e =
      filter-five
      ∙ rw (filter-none test a not_a, filter-none test c not_c, filter-none test d not_d, filter-none test e not_e)
      (append-nil ((filter test b ++ []) ++ []) ∙ (append-nil (filter test b ++ []) ∙ append-nil (filter test b)))

  -- but of the fourth list
  pub filter-fourth : None-of a → None-of b → None-of c → None-of e → filter test (a ++ b ++ c ++ d ++ e) ≡ filter test d
  filter-fourth not_a not_b not_c not_e =
      filter-five
      ∙ rw (filter-none test a not_a, filter-none test b not_b, filter-none test c not_c, filter-none test e not_e) (append-nil (filter test d))

  -- but of the second and the fourth list
  pub filter-even : None-of a → None-of c → None-of e → filter test (a ++ b ++ c ++ d ++ e) ≡ filter test b ++ filter test d
  filter-even not_a not_c not_e =
      filter-five
      ∙ rw (filter-none test a not_a, filter-none test c not_c, filter-none test e not_e)
      (append-nil ((filter test b ++ []) ++ filter test d) ∙ ap (λ lines. lines ++ filter test d) (append-nil (filter test b)))

  -- but of the first, the third and the fifth list
  pub filter-odd : None-of b → None-of d → filter test (a ++ b ++ c ++ d ++ e) ≡ filter test a ++ filter test c ++ filter test e
  filter-odd not_b not_d =
      filter-five
      ∙ rw (filter-none test b not_b, filter-none test d not_d)
      (ap (λ lines. lines ++ filter test e)
      (append-nil ((filter test a ++ []) ++ filter test c) ∙ ap (λ lines. lines ++ filter test c) (append-nil (filter test a))))

  -- of none of them
  pub any-none : None-of a → None-of b → None-of c → None-of d → None-of e → list_any test (a ++ b ++ c ++ d ++ e) ≡ false
  any-none not_a not_b not_c not_d not_e =
      list_any_none test (a ++ b ++ c ++ d ++ e) (All-from_recursion (λ line. test line ≡ false) (a ++ b ++ c ++ d ++ e)
      (All-five (λ line. test line ≡ false) a b c d e not_a not_b not_c not_d not_e))
