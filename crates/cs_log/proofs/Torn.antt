-- Which bytes are less than a whole frame.
use Rattle.std.proofs.Common.{◌≡◌, ℕ, zero, suc, ◌+◌, ◌<◌, List, [], ◌++◌, length, take, sym, subst, arith, length-append, length-take-le, w32}
use Rattle.std.proofs.lemmas.Nat.{from_be_bytes-to_be_bytes_4}
use Rattle.std.specs.Int.{to_be_bytes, from_be_bytes}
use Rattle.cs_log.specs.Frames.{frame, Fits, IsTorn}

-- a frame has four bytes more than its payload
pub length-frame : (payload : List ℕ) → length (frame payload) ≡ 4 + length payload
length-frame payload = length-append (to_be_bytes w32 (length payload)) payload

-- what begins with a whole frame isn't torn
pub whole_is_not_torn : (payload rest : List ℕ) → Fits payload → IsTorn (frame payload ++ rest) → ⊥
whole_is_not_torn payload rest fits torn =
    let said : from_be_bytes w32 (take 4 (frame payload ++ rest)) ≡ length payload = from_be_bytes-to_be_bytes_4 (length payload) fits in
    let long = length-append payload rest in
    omega (arith, rw said at torn, long)

-- a part of a frame is torn
pub part_is_torn : (payload : List ℕ) (n : ℕ) → Fits payload → n < length (frame payload) → IsTorn (take n (frame payload))
part_is_torn payload zero fits short = omega arith
part_is_torn payload (suc zero) fits short = omega arith
part_is_torn payload (suc (suc zero)) fits short = omega arith
part_is_torn payload (suc (suc (suc zero))) fits short = omega arith
part_is_torn payload (suc (suc (suc (suc n)))) fits short =
    let said = from_be_bytes-to_be_bytes_4 (length payload) fits in
    let long = length-take-le n payload (omega arith) in
    subst (λ (len : ℕ). suc (suc (suc (suc (length (take n payload))))) < 4 + len) (sym said) (omega (arith, long))

-- nothing is torn
pub nothing_is_torn : IsTorn []
nothing_is_torn = omega arith
