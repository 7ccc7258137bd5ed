-- The lines of trees, one colour after another.
use Rattle.std.proofs.Common.{◌≡◌, ℕ, zero, suc, ◌+◌, List, [], ◌∷◌, ◌++◌, take, codes, decimal, Option, Some, None, refl, ap, ◌∙◌, append_assoc, append-nil}
use Rattle.std.proofs.Common.{add-one, inl, inr, arith}
use Rattle.std.specs.List.{cons_option, filter_map, flat_map, range_with_len, slice_get}
use Rattle.std.specs.Option.{option_map, option_to_list}
use Rattle.std.proofs.lemmas.List.{take_more}
use Rattle.std.proofs.lemmas.List.Concat.{flat_map-append}
use Rattle.std.proofs.lemmas.List.Elements.{filter_map-append}
use Rattle.std.proofs.lemmas.Option.{slice_get_cases}
use Rattle.cs_tree.specs.Tree.{RootedTree}
use Rattle.cs_show.specs.Block.{tree_text}
use Rattle.cs_show.specs.Text.{ended, text_of}
use Rattle.cs_show.proofs.Edges.{text}

-- one number more
range-more : (a n : ℕ) → range_with_len a (suc n) ≡ range_with_len a n ++ (a + n) ∷ []
range-more a zero = let e : a + 0 ≡ a = omega arith in rw e refl
range-more a (suc n) =
    let e : (a + 1) + n ≡ a + suc n = omega arith in
    ap (λ ns. a ∷ ns) (range-more (a + 1) n ∙ ap (λ k. range_with_len (a + 1) n ++ k ∷ []) e)

-- one line, or none
option-lines : (line : Option (List ℕ)) → text_of (option_to_list line) ≡ text_of (cons_option line [])
option-lines None = refl
option-lines (Some line) = refl

-- the line of one number more, where it has one
lines_more : (f : ℕ → Option (List ℕ)) (start : List ℕ) (ns more : List ℕ) (n : ℕ) → more ≡ ns ++ n ∷ []
    → (start ++ text_of (filter_map f ns)) ++ text_of (option_to_list (f n)) ≡ start ++ text_of (filter_map f more)
lines_more f start ns more n is =
    ap (λ last. (start ++ text_of (filter_map f ns)) ++ last) (option-lines (f n))
    ∙ rw (is, filter_map-append f ns (n ∷ []), flat_map-append ended (filter_map f ns) (cons_option (f n) []))
    (append_assoc start (text_of (filter_map f ns)) (text_of (cons_option (f n) [])))

-- the line of one colour more
pub colours_more : (f : ℕ → Option (List ℕ)) (start : List ℕ) (n : ℕ)
    → (start ++ text_of (filter_map f (range_with_len 0 n))) ++ text_of (option_to_list (f n))
    ≡ start ++ text_of (filter_map f (range_with_len 0 (n + 1)))
colours_more f start n =
    let e : 0 + n ≡ n = omega arith in
    let more : range_with_len 0 (n + 1) ≡ range_with_len 0 n ++ n ∷ [] =
    ap (λ k. range_with_len 0 k) (add-one n) ∙ (range-more 0 n ∙ ap (λ k. range_with_len 0 n ++ k ∷ []) e) in
    lines_more f start (range_with_len 0 n) (range_with_len 0 (n + 1)) n more

-- a line whose end is written last
line_put : (start front rest : List ℕ) → ((start ++ front) ++ rest) ++ 10 ∷ [] ≡ start ++ text_of ((front ++ rest) ∷ [])
line_put start front rest = simp (append_assoc, append-nil)

-- the words of an inter-region tree
inter_words : (colour root edges : List ℕ)
    → (codes "inter " ++ (colour ++ 32 ∷ root)) ++ edges ≡ codes "inter " ++ colour ++ codes " " ++ (root ++ edges)
inter_words colour root edges = simp append_assoc

-- the words of a local tree
local_words : (region colour root edges : List ℕ)
    → (codes "local " ++ (region ++ 32 ∷ (colour ++ 32 ∷ root))) ++ edges
    ≡ codes "local " ++ region ++ codes " " ++ colour ++ codes " " ++ (root ++ edges)
local_words region colour root edges = simp append_assoc

-- the line of an inter-region tree, written root and edges apart
pub inter_put : (start colour root edges tree mid now : List ℕ)
    → mid ≡ start ++ (codes "inter " ++ (colour ++ 32 ∷ root)) → now ≡ mid ++ edges → root ++ edges ≡ tree
    → now ++ 10 ∷ [] ≡ start ++ text_of ((codes "inter " ++ colour ++ codes " " ++ tree) ∷ [])
inter_put start colour root edges tree mid now first second is =
    ap (λ text. text ++ 10 ∷ []) (second ∙ ap (λ text. text ++ edges) first)
    ∙ (line_put start (codes "inter " ++ (colour ++ 32 ∷ root)) edges
    ∙ ap (λ line. start ++ text_of (line ∷ []))
    (inter_words colour root edges ∙ ap (λ words. codes "inter " ++ colour ++ codes " " ++ words) is))

-- the line of a local tree, written root and edges apart
pub local_put : (start region colour root edges tree mid now : List ℕ)
    → mid ≡ start ++ (codes "local " ++ (region ++ 32 ∷ (colour ++ 32 ∷ root))) → now ≡ mid ++ edges → root ++ edges ≡ tree
    → now ++ 10 ∷ [] ≡ start ++ text_of ((codes "local " ++ region ++ codes " " ++ colour ++ codes " " ++ tree) ∷ [])
local_put start region colour root edges tree mid now first second is =
    ap (λ text. text ++ 10 ∷ []) (second ∙ ap (λ text. text ++ edges) first)
    ∙ (line_put start (codes "local " ++ (region ++ 32 ∷ (colour ++ 32 ∷ root))) edges
    ∙ ap (λ line. start ++ text_of (line ∷ []))
    (local_words region colour root edges ∙ ap (λ words. codes "local " ++ region ++ codes " " ++ colour ++ codes " " ++ words) is))

-- a root and edges are the text of a tree, where the edges are known by an equation
pub tree_put : (root : ℕ) (tree : RootedTree) (edges : List ℕ) → root ≡ tree.root → edges ≡ flat_map text tree.edges
    → decimal root ++ edges ≡ tree_text tree
tree_put root tree edges same is = ap (λ r. decimal r ++ edges) same ∙ ap (λ words. decimal tree.root ++ words) is

-- what stands for the first part of one pair more
pub first_parts_more : {A : Type 0} (f : ℕ → List ℕ) (pairs : List (ℕ × A)) (i a : ℕ)
    → option_map (λ (pair : ℕ × A). pair.0) (slice_get pairs i) ≡ Some a
    → flat_map (λ (pair : ℕ × A). f pair.0) (take (i + 1) pairs) ≡ flat_map (λ (pair : ℕ × A). f pair.0) (take i pairs) ++ f a
first_parts_more {A} f pairs i a first = elim ((slice_get_cases pairs i).1) [
  | inl w ↦
      let is = w.2 in
      let this = rw is at first in
      let same : w.0.0 ≡ a = cc in
      let g : ℕ × A → List ℕ = λ pair. f pair.0 in
      ap (λ (front : List (ℕ × A)). flat_map g front) (take_more pairs i w.0 w.1)
      ∙ (flat_map-append g (take i pairs) _
      ∙ ap (λ last. flat_map g (take i pairs) ++ last) (append-nil (f _) ∙ (ap (λ (pair : ℕ × A). f pair.0) w.3 ∙ ap f same)))
  | inr w ↦
      let is = w.1 in
      let this = rw is at first in
      cc
]
