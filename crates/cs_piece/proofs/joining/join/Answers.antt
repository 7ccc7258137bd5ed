use Rattle.std.proofs.Common.{◌≡◌, ℕ, List, Result, Ok, Err, IfOk, subst}
use Rattle.cs_piece.specs.Blocks.{piece_of}
use Rattle.cs_piece.specs.Joining.{Gives, joined}
use Rattle.cs_piece.specs.declared.fault.PieceFault.{PieceFault}
use Rattle.cs_piece.proofs.Joined.{piece_a, piece_b, piece_c}
use Rattle.cs_piece.proofs.Pieces.{joined-pieces}
use Rattle.cs_piece.proofs.joining.join.Goals as goal

pub returns-clause-whole : goal.returns-clause-whole
returns-clause-whole c bytes few three of_a of_b of_c =
    let given : joined c.args.a c.args.piece_a.now c.args.b c.args.piece_b.now c.args.c c.args.piece_c.now ≡ Ok bytes =
    rw (of_a, of_b, of_c) (joined-pieces bytes few c.args.a c.args.b c.args.c three) in
    subst (λ (r : Result (List ℕ) PieceFault). Gives c.joined.result r) given c.joined.ensures.value

-- a fact of the bytes that were given, where there are any
if_given : (r s : Result (List ℕ) PieceFault) (P : List ℕ → Type 0) → Gives r s → ((bytes : List ℕ) → s ≡ Ok bytes → P bytes) → IfOk r P
if_given (Ok bytes) s P gives fact = fact bytes gives
if_given (Err fault) s P gives fact = tt

pub returns-clause-of_a : goal.returns-clause-of_a
returns-clause-of_a c =
    if_given c.joined.result _ (λ bytes. c.args.piece_a.now ≡ piece_of bytes c.args.a) c.joined.ensures.value
    (λ bytes given. piece_a _ _ _ _ _ _ bytes given (λ k. (c.type_inv.piece_a k).fits))

pub returns-clause-of_b : goal.returns-clause-of_b
returns-clause-of_b c =
    if_given c.joined.result _ (λ bytes. c.args.piece_b.now ≡ piece_of bytes c.args.b) c.joined.ensures.value
    (λ bytes given. piece_b _ _ _ _ _ _ bytes given (λ k. (c.type_inv.piece_b k).fits))

pub returns-clause-of_c : goal.returns-clause-of_c
returns-clause-of_c c =
    if_given c.joined.result _ (λ bytes. c.args.piece_c.now ≡ piece_of bytes c.args.c) c.joined.ensures.value
    (λ bytes given. piece_c _ _ _ _ _ _ bytes given (λ k. (c.type_inv.piece_c k).fits))
