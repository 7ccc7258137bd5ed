-- Lines that are put behind a text, one after the other.
use Rattle.std.proofs.Common.{◌≡◌, ℕ, List, [], ◌∷◌, ◌++◌, codes, decimal, ap, refl, sym, ◌∙◌}
use Rattle.std.proofs.lemmas.List.{append_assoc, append-nil}
use Rattle.std.proofs.lemmas.List.Concat.{flat_map-append}
use Rattle.cs_show.specs.Block.{digest_line}
use Rattle.cs_show.specs.Text.{ended, text_of}
use Rattle.census.specs.Drilled.{totals_lines}
use Rattle.census.specs.declared.summary.Totals.{Totals}

-- one line more behind those that were put
line-put : (old : List ℕ) (lines : List (List ℕ)) (line before now : List ℕ) → before ≡ old ++ text_of lines
    → now ≡ before ++ ended line → now ≡ old ++ text_of (lines ++ line ∷ [])
line-put old lines line before now so_far put =
    put ∙ ap (λ text. text ++ ended line) so_far ∙ append_assoc old (text_of lines) (ended line)
    ∙ ap (λ text. old ++ text) (ap (λ last. text_of lines ++ last) (sym (append-nil (ended line))) ∙ sym (flat_map-append ended lines (line ∷ [])))

-- the line of what was sent
sent_line : (start packets bytes : List ℕ) → start ++ (codes "sent " ++ (packets ++ 32 ∷ (bytes ++ 10 ∷ [])))
    ≡ start ++ ended (codes "sent " ++ packets ++ codes " " ++ bytes)
sent_line start packets bytes = simp append_assoc

-- the lines of a drill's totals, put behind a text
pub totals-put : (t : Totals) (old text1 text2 text3 text4 text5 text6 : List ℕ)
    → text1 ≡ old ++ ended (codes "epoch " ++ decimal t.epoch)
    → text2 ≡ text1 ++ ended (codes "members " ++ decimal t.members)
    → text3 ≡ text2 ++ ended (codes "regions " ++ decimal t.regions)
    → text4 ≡ text3 ++ (codes "sent " ++ (decimal t.packets ++ 32 ∷ (decimal t.bytes ++ 10 ∷ [])))
    → text5 ≡ text4 ++ ended (codes "views " ++ decimal t.views)
    → text6 ≡ text5 ++ ended (codes "agree " ++ decimal t.agree)
    → text6 ++ ended (digest_line t.digest) ≡ old ++ text_of (totals_lines t)
totals-put t old text1 text2 text3 text4 text5 text6 first second third fourth fifth sixth =
    let a = codes "epoch " ++ decimal t.epoch in
    let b = codes "members " ++ decimal t.members in
    let c = codes "regions " ++ decimal t.regions in
    let d = codes "sent " ++ decimal t.packets ++ codes " " ++ decimal t.bytes in
    let e = codes "views " ++ decimal t.views in
    let f = codes "agree " ++ decimal t.agree in
    let one = line-put old [] a old text1 (sym (append-nil old)) first in
    let two = line-put old (a ∷ []) b text1 text2 one second in
    let three = line-put old (a ∷ b ∷ []) c text2 text3 two third in
    let four = line-put old (a ∷ b ∷ c ∷ []) d text3 text4 three (fourth ∙ sent_line text3 (decimal t.packets) (decimal t.bytes)) in
    let five = line-put old (a ∷ b ∷ c ∷ d ∷ []) e text4 text5 four fifth in
    let six = line-put old (a ∷ b ∷ c ∷ d ∷ e ∷ []) f text5 text6 five sixth in
    line-put old (a ∷ b ∷ c ∷ d ∷ e ∷ f ∷ []) (digest_line t.digest) text6 (text6 ++ ended (digest_line t.digest)) six refl
