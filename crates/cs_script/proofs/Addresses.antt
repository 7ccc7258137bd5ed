-- The number and the address that a text stands for have their ranges.
use Rattle.std.proofs.Common.{ℕ, ◌≤◌, ◌&&◌, leb, eqb, List, [], ◌∷◌, Option, Some, None, IfSome, decimal, bytes_eq, refl, arith}
use Rattle.std.specs.Prelude.{⊤}
use Rattle.std.specs.Str.Parse.{digits_value}
use Rattle.std.proofs.lemmas.Bool.{and_parts, cond_both, eqb-false, leb-true}
use Rattle.cs_base.specs.Address.{Address, IsAddress}
use Rattle.cs_base.specs.Canonical.{◌>>=◌, number_of, parted, address_of}

-- what holds behind each value of a kind holds behind a step that gives one
if_some-bind : {A B : Type 0} (o : Option A) (f : A → Option B) (P : A → Type 0) (Q : B → Type 0) → IfSome o P
    → ((x : A) → P x → IfSome (f x) Q) → IfSome (o >>= f) Q
if_some-bind None f P Q is behind = tt
if_some-bind (Some x) f P Q is behind = behind x is

-- nothing is asked of the value
if_some-any : {A : Type 0} (o : Option A) → IfSome o (λ _. ⊤)
if_some-any None = tt
if_some-any (Some x) = tt

-- a number is at most the top
number_of-most : (top : ℕ) (text : List ℕ) → IfSome (number_of top text) (λ n. n ≤ top)
number_of-most top text =
    let n = digits_value 10 text in
    cond_both (leb n top && bytes_eq (decimal n) text) (Some n) None (λ o. IfSome o (λ m. m ≤ top))
    (λ is. leb-true n top (and_parts (leb n top) (bytes_eq (decimal n) text) is).0) (λ none. tt)

-- an address has four bytes and a port
pub IsAddress-read : (text : List ℕ) → IfSome (address_of text) IsAddress
IsAddress-read text =
    if_some-bind (parted 46 text) _ (λ _. ⊤) IsAddress (if_some-any (parted 46 text)) (λ first _.
    if_some-bind (parted 46 first.1) _ (λ _. ⊤) IsAddress (if_some-any (parted 46 first.1)) (λ second _.
    if_some-bind (parted 46 second.1) _ (λ _. ⊤) IsAddress (if_some-any (parted 46 second.1)) (λ third _.
    if_some-bind (parted 58 third.1) _ (λ _. ⊤) IsAddress (if_some-any (parted 58 third.1)) (λ fourth _.
    if_some-bind (number_of 255 first.0) _ (λ n. n ≤ 255) IsAddress (number_of-most 255 first.0) (λ a a_small.
    if_some-bind (number_of 255 second.0) _ (λ n. n ≤ 255) IsAddress (number_of-most 255 second.0) (λ b b_small.
    if_some-bind (number_of 255 third.0) _ (λ n. n ≤ 255) IsAddress (number_of-most 255 third.0) (λ c c_small.
    if_some-bind (number_of 255 fourth.0) _ (λ n. n ≤ 255) IsAddress (number_of-most 255 fourth.0) (λ d d_small.
    if_some-bind (number_of 65535 fourth.1) _ (λ n. n ≤ 65535) IsAddress (number_of-most 65535 fourth.1) (λ port small.
    let found : Address = record { ip = a ∷ b ∷ c ∷ d ∷ []; port = port } in
    cond_both (eqb port 0) None (Some found) (λ o. IfSome o IsAddress) (λ none. tt) (λ some. record {
      four = refl;
      bytes = (omega arith, (omega arith, (omega arith, (omega arith, tt))));
      some_port = omega (arith, eqb-false port 0 some);
      port = omega arith;
    }))))))))))
