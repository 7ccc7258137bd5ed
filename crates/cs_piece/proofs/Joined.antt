-- The bytes that three pieces give have these pieces.
use Rattle.std.proofs.Common.{◌≡◌, ℕ, zero, suc, ◌+◌, ◌-◌, ◌<◌, ◌≤◌, ◌==◌, List, [], ◌∷◌, ◌++◌, length, take, drop}
use Rattle.std.proofs.Common.{replicate, get_or, Bool, true, false, not, ◌&&◌, Result, Ok, Err, refl, sym, ap, ◌∙◌, inl, inr}
use Rattle.std.proofs.Common.{arith, if◌then◌else◌, length-append, length-take, length-drop}
use Rattle.std.specs.Int.{w32, to_be_bytes}
use Rattle.std.specs.List.{list_all}
use Rattle.std.proofs.lemmas.Bool.{and_parts, cases_lt, eqb-true}
use Rattle.std.proofs.lemmas.Bool.Decides.{nat_tests}
use Rattle.std.proofs.lemmas.List.{take_at, drop_at, take-append-drop, get_or-take, get_or_past}
use Rattle.std.proofs.lemmas.Nat.{be_bytes_4}
use Rattle.cs_piece.specs.Blocks.{block, block_len, filled, parity, piece_of, xor}
use Rattle.cs_piece.specs.Joining.{AreThree, are_alike, are_three, block_from, blocks_from, is_piece_of, joined, total_of, unfilled}
use Rattle.cs_piece.specs.declared.fault.PieceFault.{PieceFault}
use Rattle.cs_piece.specs.declared.fault.PieceFault.TheVariants.{Padding}
use Rattle.cs_piece.proofs.Xor.{length-xor}
use Rattle.cs_piece.proofs.Even.{Are, even-back}
use Rattle.cs_piece.proofs.Pieces.{blocks-append, blocks-even, four, other_than, third}

-- what is all 0 is zeros
zeros-from_all : (xs : List ℕ) → list_all (λ byte. byte == 0) xs ≡ true → replicate (length xs) 0 ≡ xs
zeros-from_all [] all = refl
zeros-from_all (x ∷ xs) all =
    let parts = and_parts (x == 0) (list_all (λ byte. byte == 0) xs) all in
    let first : x ≡ 0 = eqb-true x 0 parts.0 in
    let rest : replicate (length xs) 0 ≡ xs = zeros-from_all xs parts.1 in
    cc

-- bytes that come out of a row are as many as asked for, and filled they are the row
record IsUnfilled (total : ℕ) (row bytes : List ℕ) : Type 0 where
  many : length bytes ≡ total
  all : filled (length row) bytes ≡ row

unfilled-ok : (total : ℕ) (row bytes : List ℕ) → total ≤ length row → unfilled total row ≡ Ok bytes → IsUnfilled total row bytes
unfolding unfilled
unfilled-ok total row bytes le given = by (list_all (λ byte. byte == 0) (drop total row)) refl given
  where
    outcome : Bool → Result (List ℕ) PieceFault
    outcome t = if t then Ok (take total row) else Err Padding

    by : (t : Bool) → list_all (λ byte. byte == 0) (drop total row) ≡ t → outcome t ≡ Ok bytes → IsUnfilled total row bytes
    by false zeros given = absurd (cc)
    by true zeros given =
        let front : bytes ≡ take total row = cc in
        let many : length bytes ≡ total = omega (arith, ap length front, length-take total row) in
        let left : length (drop total row) ≡ length row - length bytes = omega (arith, length-drop total row) in
        record {
          many = many;
          all =
              ap (λ n. bytes ++ replicate n 0) (sym left)
              ∙ ap (λ front. front ++ replicate (length (drop total row)) 0) front
              ∙ ap (λ rest. take total row ++ rest) (zeros-from_all (drop total row) zeros)
              ∙ take-append-drop total row;
        }

-- two lists in a row are the same where the first ones are as long
same_parts : (x y u v : List ℕ) → length x ≡ length u → x ++ y ≡ u ++ v → (x ≡ u) × (y ≡ v)
same_parts x y u v long e = (
  sym (take_at x y (length x) refl) ∙ ap (take (length x)) e ∙ take_at u v (length x) (sym long),
  sym (drop_at x y (length x) refl) ∙ ap (drop (length x)) e ∙ drop_at u v (length x) (sym long),
)

-- what the tests of a join say where it gives bytes
by_tests : {E T : Type 0} (p q : Bool) (i l : E) (r : Result T E) (bytes : T)
    → (if not p then Err i else (if not q then Err l else r)) ≡ Ok bytes → (p ≡ true) × (q ≡ true) × (r ≡ Ok bytes)
by_tests true true i l r bytes e = (refl, refl, e)
by_tests true false i l r bytes e = absurd (cc)
by_tests false q i l r bytes e = absurd (cc)

-- a piece that says so many bytes and has a block for as many
record Says (total : ℕ) (piece : List ℕ) : Type 0 where
  many : total_of piece ≡ total
  len : length piece ≡ 4 + block_len total

says : (total : ℕ) (piece : List ℕ) → is_piece_of total piece ≡ true → Says total piece
unfolding is_piece_of
says total piece test =
    let parts = and_parts _ _ test in
    record { many = eqb-true _ _ parts.0; len = eqb-true _ _ parts.1 }

-- what the tests say where they pass
record IsPassed (a : ℕ) (x : List ℕ) (b : ℕ) (y : List ℕ) (c : ℕ) (z bytes : List ℕ) : Type 0 where
  three : AreThree a b c
  says_x : Says (total_of x) x
  says_y : Says (total_of x) y
  says_z : Says (total_of x) z
  row : unfilled (total_of x) (blocks_from a (drop 4 x) b (drop 4 y) c (drop 4 z)) ≡ Ok bytes

three-from_test : (a b c : ℕ) → are_three a b c ≡ true → AreThree a b c
unfolding are_three
three-from_test a b c test = record {
  first = grind (arith, nat_tests);
  second = grind (arith, nat_tests);
  third = grind (arith, nat_tests);
  ab = grind (arith, nat_tests);
  ac = grind (arith, nat_tests);
  bc = grind (arith, nat_tests);
}

passed : (a : ℕ) (x : List ℕ) (b : ℕ) (y : List ℕ) (c : ℕ) (z bytes : List ℕ) → joined a x b y c z ≡ Ok bytes → IsPassed a x b y c z bytes
unfolding joined are_alike
passed a x b y c z bytes given =
    let tests = by_tests (are_three a b c) (are_alike x y z) _ _ (unfilled (total_of x) (blocks_from a (drop 4 x) b (drop 4 y) c (drop 4 z))) bytes given in
    let last = and_parts (is_piece_of (total_of x) x && is_piece_of (total_of x) y) (is_piece_of (total_of x) z) tests.1 in
    let front = and_parts (is_piece_of (total_of x) x) (is_piece_of (total_of x) y) last.0 in
    record {
      three = three-from_test a b c tests.0;
      says_x = says (total_of x) x front.0;
      says_y = says (total_of x) y front.1;
      says_z = says (total_of x) z last.1;
      row = tests.2;
    }

-- blocks a, b and c, and their XOR, by the three
module _ (a : ℕ) (x : List ℕ) (b : ℕ) (y : List ℕ) (c : ℕ) (z : List ℕ) (t : AreThree a b c) where
  at_a : block_from a x b y c z a ≡ x
  unfolding block_from
  at_a = grind (arith, nat_tests)

  at_b : block_from a x b y c z b ≡ y
  unfolding block_from
  at_b = grind (arith, nat_tests, t.ab)

  at_c : block_from a x b y c z c ≡ z
  unfolding block_from
  at_c = grind (arith, nat_tests, t.ac, t.bc)

  at_other : block_from a x b y c z (other_than a b c) ≡ parity x y z
  unfolding block_from
  at_other =
      let q = four a b c t in
      grind (arith, nat_tests, q.ad, q.bd, q.cd)

  from-even : (n : ℕ) → length x ≡ n → length y ≡ n → length z ≡ n → Are n (block_from a x b y c z) 0 1 2 3
  from-even n lx ly lz =
      let pair : length (xor x y) ≡ n = length-xor x y (ly ∙ sym lx) ∙ lx in
      even-back n (block_from a x b y c z) a b c (other_than a b c) (four a b c t) (record {
        first = ap length at_a ∙ lx;
        second = ap length at_b ∙ ly;
        third = ap length at_c ∙ lz;
        fourth = ap length at_other ∙ length-xor (xor x y) z (lz ∙ sym pair) ∙ pair;
        sum = rw (at_a, at_b, at_c, at_other) refl;
      })

-- a piece is put together from what it says and its block
piece-from : (p bytes : List ℕ) (i : ℕ) → 4 ≤ length p → ((k : ℕ) → get_or p k 0 < 256) → total_of p ≡ length bytes
    → drop 4 p ≡ block bytes i → p ≡ piece_of bytes i
unfolding piece_of
piece-from p bytes i long fits many rest =
    let fits_front : (k : ℕ) → get_or (take 4 p) k 0 < 256 = λ k. elim (cases_lt k 4) [
      | inl lt ↦ rw (get_or-take 4 p k 0 lt) (fits k)
      | inr ge ↦ rw (get_or_past (take 4 p) k 0 (omega (arith, length-take 4 p))) (omega arith)
    ] in
    let front : to_be_bytes w32 (length bytes) ≡ take 4 p = be_bytes_4 (take 4 p) (length bytes) (omega (arith, length-take 4 p)) fits_front (sym many) in
    sym (take-append-drop 4 p) ∙ ap (λ front. front ++ drop 4 p) (sym front) ∙ ap (λ rest. to_be_bytes w32 (length bytes) ++ rest) rest

module _ (a : ℕ) (x : List ℕ) (b : ℕ) (y : List ℕ) (c : ℕ) (z bytes : List ℕ) (given : joined a x b y c z ≡ Ok bytes) where
  p : IsPassed a x b y c z bytes
  p = passed a x b y c z bytes given

  abbrev f : ℕ → List ℕ
  f i = block_from a (drop 4 x) b (drop 4 y) c (drop 4 z) i

  -- what is behind the first four bytes of each is a block
  long : (piece : List ℕ) → Says (total_of x) piece → length (drop 4 piece) ≡ block_len (total_of x)
  long piece s = omega (arith, length-drop 4 piece, s.len)

  even : Are (block_len (total_of x)) f 0 1 2 3
  even = from-even a (drop 4 x) b (drop 4 y) c (drop 4 z) p.three (block_len (total_of x)) (long x p.says_x) (long y p.says_y) (long z p.says_z)

  length-row : length (f 0 ++ f 1 ++ f 2) ≡ block_len (total_of x) + (block_len (total_of x) + block_len (total_of x))
  length-row = omega (arith, length-append (f 0 ++ f 1) (f 2), length-append (f 0) (f 1), even.first, even.second, even.third)

  out : IsUnfilled (total_of x) (f 0 ++ f 1 ++ f 2) bytes
  out = unfilled-ok (total_of x) (f 0 ++ f 1 ++ f 2) bytes (omega (arith, length-row)) p.row

  thirds : third bytes ≡ block_len (total_of x)
  thirds = ap block_len out.many

  row-same : block bytes 0 ++ block bytes 1 ++ block bytes 2 ≡ f 0 ++ f 1 ++ f 2
  row-same = blocks-append bytes ∙ ap (λ n. filled (n + (n + n)) bytes) thirds ∙ ap (λ n. filled n bytes) (sym length-row) ∙ out.all

  -- each block is that of the bytes
  same : (i : ℕ) → i ≤ 3 → f i ≡ block bytes i
  same i le = by i le
    where
      mine : Are (third bytes) (block bytes) 0 1 2 3
      mine = blocks-even bytes

      last : (block bytes 0 ++ block bytes 1 ≡ f 0 ++ f 1) × (block bytes 2 ≡ f 2)
      last =
          same_parts (block bytes 0 ++ block bytes 1) (block bytes 2) (f 0 ++ f 1) (f 2)
          (omega (arith, length-append (block bytes 0) (block bytes 1), length-append (f 0) (f 1), mine.first, mine.second, even.first, even.second, thirds))
          row-same

      front : (block bytes 0 ≡ f 0) × (block bytes 1 ≡ f 1)
      front = same_parts (block bytes 0) (block bytes 1) (f 0) (f 1) (mine.first ∙ thirds ∙ sym even.first) last.0

      by : (i : ℕ) → i ≤ 3 → f i ≡ block bytes i
      by zero le = sym front.0
      by (suc zero) le = sym front.1
      by (suc (suc zero)) le = sym last.1
      by (suc (suc (suc zero))) le =
          cc (even.sum, mine.sum, front.0, front.1, last.1)
      by (suc (suc (suc (suc i)))) le = absurd (omega arith)

  pub piece_a : ((k : ℕ) → get_or x k 0 < 256) → x ≡ piece_of bytes a
  piece_a fits =
      piece-from x bytes a (omega (arith, p.says_x.len)) fits (sym out.many)
      (sym (at_a a (drop 4 x) b (drop 4 y) c (drop 4 z) p.three) ∙ same a p.three.first)

  pub piece_b : ((k : ℕ) → get_or y k 0 < 256) → y ≡ piece_of bytes b
  piece_b fits =
      piece-from y bytes b (omega (arith, p.says_y.len)) fits (p.says_y.many ∙ sym out.many)
      (sym (at_b a (drop 4 x) b (drop 4 y) c (drop 4 z) p.three) ∙ same b p.three.second)

  pub piece_c : ((k : ℕ) → get_or z k 0 < 256) → z ≡ piece_of bytes c
  piece_c fits =
      piece-from z bytes c (omega (arith, p.says_z.len)) fits (p.says_z.many ∙ sym out.many)
      (sym (at_c a (drop 4 x) b (drop 4 y) c (drop 4 z) p.three) ∙ same c p.three.third)
