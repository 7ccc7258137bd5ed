use Rattle.std.proofs.Common.{◌≡◌, ℕ, List, ◌++◌, [], ◌∷◌, codes, decimal, ap, ◌∙◌, append_assoc}
use Rattle.std.specs.String.{string_bytes}
use Rattle.cs_world.proofs.lines.put_named.Goals as goal

regrouped : (a b c d : List ℕ) → (a ++ b ++ c) ++ d ≡ a ++ (b ++ c ++ d)
regrouped a b c d = simp (append_assoc)

-- the parts of the line, one behind the other
pub returns : goal.returns
returns c =
    let names = c.args.names.now in
    let start = string_bytes c.args.out.now in
    let front : List ℕ = codes "#" ++ decimal c.args.number ++ codes " " ++ decimal names.from ++ codes ">" ++ decimal names.to ++ codes " " in
    let piece : List ℕ =
    codes "piece" ++ codes " " ++ decimal names.epoch ++ codes " " ++ decimal names.region ++ codes " " ++ decimal names.colour in
    let fronted : string_bytes c.put_ends.new.out ≡ start ++ front = c.in_ok-put_ends.ensures ∙ simp (append_assoc) in
    let pieced : string_bytes c.put_piece.new.out ≡ string_bytes c.put_ends.new.out ++ piece = c.in_ok-put_piece.ensures ∙ simp (append_assoc) in
    let line = regrouped start front piece (10 ∷ []) in
    let same : (front ++ piece) ++ 10 ∷ [] ≡
    (codes "#" ++ decimal c.args.number ++ codes " " ++ decimal names.from ++ codes ">" ++ decimal names.to ++ codes " " ++ piece) ++ 10 ∷ [] =
    simp (append_assoc) in
    c.in_ok-push_str.ensures.bytes
    ∙ (ap (λ (text : List ℕ). text ++ 10 ∷ []) (pieced ∙ ap (λ (text : List ℕ). text ++ piece) fronted) ∙ (line ∙ ap (λ (text : List ℕ). start ++ text) same))
