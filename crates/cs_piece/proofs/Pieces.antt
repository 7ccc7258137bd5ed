-- Any three of the four pieces of some bytes give the bytes.
use Rattle.std.proofs.Common.{◌≡◌, ℕ, zero, suc, ◌+◌, ◌-◌, ◌*◌, ◌^◌, ◌<◌, ◌≤◌, ◌==◌, List, [], ◌++◌, length, take, drop}
use Rattle.std.proofs.Common.{replicate, true, Ok, refl, sym, ap, ◌∙◌, inl, inr}
use Rattle.std.proofs.Common.{arith, append_assoc, length-append, length-take, length-drop}
use Rattle.std.specs.Int.{w32, to_be_bytes, from_be_bytes}
use Rattle.std.specs.List.{list_all}
use Rattle.std.proofs.lemmas.Bool.{and_from, cases_eq, cases_lt, eq-eqb}
use Rattle.std.proofs.lemmas.Bool.Decides.{nat_tests}
use Rattle.std.proofs.lemmas.List.{take_all, take_at, drop_at, drop_all, drop-drop, append-nil, length-replicate, replicate-append-replicate, take-append-drop}
use Rattle.std.proofs.lemmas.Nat.{from_be_bytes-to_be_bytes_4}
use Rattle.cs_piece.specs.Blocks.{block, block_len, data_block, filled, parity, piece_of, xor}
use Rattle.cs_piece.specs.Joining.{AreThree, are_alike, are_three, block_from, blocks_from, is_piece_of, joined, total_of, unfilled}
use Rattle.cs_piece.proofs.Xor.{length-xor}
use Rattle.cs_piece.proofs.Even.{Are, AreFour, even-any}

-- a part that is filled is as long as it should be
length-filled : (n : ℕ) (xs : List ℕ) → length xs ≤ n → length (filled n xs) ≡ n
length-filled n xs le = length-append xs (replicate (n - length xs) 0) ∙ omega (arith, length-replicate {A = ℕ} (n - length xs) 0)

-- the front and the rest, each filled, are the whole filled
filled-parts : (n m : ℕ) (xs : List ℕ) → filled n (take n xs) ++ filled m (drop n xs) ≡ filled (n + m) xs
filled-parts n m xs = elim (cases_lt (length xs) n) [
  | inl short ↦
      let all : take n xs ≡ xs = take_all n xs (omega arith) in
      let none : drop n xs ≡ [] = drop_all n xs (omega arith) in
      let more : (n - length xs) + m ≡ n + m - length xs = omega arith in
      let zeros = replicate-append-replicate {A = ℕ} (n - length xs) m 0 in
      let all_of_m : m - 0 ≡ m = omega arith in
      rw (all, none, all_of_m, append_assoc, zeros, more) refl
  | inr long ↦
      let exact : n - length (take n xs) ≡ 0 = omega (arith, length-take n xs) in
      let rest : m - length (drop n xs) ≡ n + m - length xs = omega (arith, length-drop n xs) in
      rw (exact, rest, append-nil, ← append_assoc, take-append-drop) refl
]

module _ (bytes : List ℕ) where
  -- a third of the bytes
  abbrev pub third : ℕ
  third = block_len (length bytes)

  -- each third is filled to its length
  pub length-data_block : (i : ℕ) → length (data_block bytes i) ≡ third
  length-data_block i = length-filled third (take third (drop (i * third) bytes)) (omega (arith, length-take third (drop (i * third) bytes)))

  -- the thirds in a row are the bytes filled
  pub thirds-append : data_block bytes 0 ++ data_block bytes 1 ++ data_block bytes 2 ≡ filled (third + (third + third)) bytes
  thirds-append =
      let none : 0 * third ≡ 0 = omega arith in
      let one : 1 * third ≡ third = omega arith in
      let two : 2 * third ≡ third + third = omega arith in
      let last : take third (drop (third + third) bytes) ≡ drop third (drop third bytes) =
      take_all third (drop (third + third) bytes) (omega (arith, length-drop (third + third) bytes)) ∙ sym (drop-drop third third bytes) in
      rw (none, one, two, last, append_assoc, filled-parts third third (drop third bytes), filled-parts third (third + third) bytes) refl

  -- the four blocks are even
  pub blocks-even : Are third (block bytes) 0 1 2 3
  unfolding block
  blocks-even =
      let x = data_block bytes 0 in
      let y = data_block bytes 1 in
      let z = data_block bytes 2 in
      let pair : length (xor x y) ≡ third = length-xor x y (length-data_block 1 ∙ sym (length-data_block 0)) ∙ length-data_block 0 in
      record {
        first = length-data_block 0;
        second = length-data_block 1;
        third = length-data_block 2;
        fourth = length-xor (xor x y) z (length-data_block 2 ∙ sym pair) ∙ pair;
        sum = refl;
      }

  -- blocks 0 to 2 in a row are the bytes filled
  pub blocks-append : block bytes 0 ++ block bytes 1 ++ block bytes 2 ≡ filled (third + (third + third)) bytes
  unfolding block
  blocks-append = thirds-append

-- the fourth index
abbrev pub other_than : ℕ → ℕ → ℕ → ℕ
other_than a b c = 6 - (a + b + c)

pub four : (a b c : ℕ) → AreThree a b c → AreFour a b c (other_than a b c)
four a b c t = record {
  first = t.first;
  second = t.second;
  third = t.third;
  fourth = omega arith;
  ab = t.ab;
  ac = t.ac;
  ad = omega arith;
  bc = t.bc;
  bd = omega arith;
  cd = omega arith;
}

-- where the four blocks are even, three of them give each
pub block_from-even : (n : ℕ) (f : ℕ → List ℕ) (a b c : ℕ) → AreThree a b c → Are n f 0 1 2 3
    → (i : ℕ) → i ≤ 3 → block_from a (f a) b (f b) c (f c) i ≡ f i
unfolding block_from
block_from-even n f a b c t even i le =
    elim (cases_eq i a) [
      | inl ia ↦ rw ia (grind (arith, nat_tests))
      | inr na ↦ elim (cases_eq i b) [
        | inl ib ↦ rw ib (grind (arith, nat_tests))
        | inr nb ↦ elim (cases_eq i c) [
          | inl ic ↦ rw ic (grind (arith, nat_tests))
          | inr nc ↦
              let q : AreFour a b c i = record {
                first = t.first;
                second = t.second;
                third = t.third;
                fourth = le;
                ab = t.ab;
                ac = t.ac;
                ad = λ e. na (sym e);
                bc = t.bc;
                bd = λ e. nb (sym e);
                cd = λ e. nc (sym e);
              } in
              let sum : parity (f a) (f b) (f c) ≡ f i = (even-any n f a b c i q even).sum in
              grind (arith, nat_tests)
        ]
      ]
    ]

-- zeros are all 0
all_zero : (n : ℕ) → list_all (λ byte. byte == 0) (replicate n 0) ≡ true
all_zero zero = refl
all_zero (suc n) = all_zero n

-- the bytes come back from the bytes filled
unfilled-filled : (n : ℕ) (bytes : List ℕ) → unfilled (length bytes) (filled n bytes) ≡ Ok bytes
unfolding unfilled
unfilled-filled n bytes =
    let rest = drop_at bytes (replicate (n - length bytes) 0) (length bytes) refl in
    let front = take_at bytes (replicate (n - length bytes) 0) (length bytes) refl in
    rw (rest, front, all_zero (n - length bytes)) refl

-- the pieces of some bytes give them
module _ (bytes : List ℕ) (few : length bytes < 2 ^ 32) where
  total_of-piece : (i : ℕ) → total_of (piece_of bytes i) ≡ length bytes
  unfolding piece_of
  total_of-piece i =
      ap (from_be_bytes w32) (take_at (to_be_bytes w32 (length bytes)) (block bytes i) 4 refl)
      ∙ from_be_bytes-to_be_bytes_4 (length bytes) few

  drop-piece : (i : ℕ) → drop 4 (piece_of bytes i) ≡ block bytes i
  unfolding piece_of
  drop-piece i = drop_at (to_be_bytes w32 (length bytes)) (block bytes i) 4 refl

  length-block : (i : ℕ) → i ≤ 3 → length (block bytes i) ≡ third bytes
  length-block zero le = (blocks-even bytes).first
  length-block (suc zero) le = (blocks-even bytes).second
  length-block (suc (suc zero)) le = (blocks-even bytes).third
  length-block (suc (suc (suc zero))) le = (blocks-even bytes).fourth
  length-block (suc (suc (suc (suc i)))) le = absurd (omega arith)

  is_piece : (i : ℕ) → i ≤ 3 → is_piece_of (length bytes) (piece_of bytes i) ≡ true
  unfolding is_piece_of piece_of
  is_piece i le =
      let total : total_of (piece_of bytes i) ≡ length bytes = total_of-piece i in
      let long : length (piece_of bytes i) ≡ 4 + third bytes =
      length-append (to_be_bytes w32 (length bytes)) (block bytes i) ∙ omega (arith, length-block i le) in
      and_from _ _ (eq-eqb _ _ total) (eq-eqb _ _ long)

  are_alike-pieces : (a b c : ℕ) → a ≤ 3 → b ≤ 3 → c ≤ 3 → are_alike (piece_of bytes a) (piece_of bytes b) (piece_of bytes c) ≡ true
  unfolding are_alike
  are_alike-pieces a b c la lb lc =
      rw (total_of-piece a, is_piece a la, is_piece b lb, is_piece c lc) refl

  are_three-true : (a b c : ℕ) → AreThree a b c → are_three a b c ≡ true
  unfolding are_three
  are_three-true a b c t = grind (arith, nat_tests, t.first, t.second, t.third, t.ab, t.ac, t.bc)

  pub joined-pieces : (a b c : ℕ) → AreThree a b c → joined a (piece_of bytes a) b (piece_of bytes b) c (piece_of bytes c) ≡ Ok bytes
  unfolding joined
  joined-pieces a b c t =
      let three = are_three-true a b c t in
      let alike = are_alike-pieces a b c t.first t.second t.third in
      let at = block_from-even (third bytes) (block bytes) a b c t (blocks-even bytes) in
      let row : blocks_from a (block bytes a) b (block bytes b) c (block bytes c) ≡ filled (third bytes + (third bytes + third bytes)) bytes =
      rw (at 0 (omega arith), at 1 (omega arith), at 2 (omega arith)) (blocks-append bytes) in
      rw (three, alike, drop-piece a, drop-piece b, drop-piece c, total_of-piece a, row) (unfilled-filled _ bytes)
