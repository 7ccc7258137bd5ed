-- What a step that went through had.
use Rattle.std.proofs.Common.{◌≡◌, Bool, true, false, cond, ◌⊎◌, inl, inr, Option, Some, None, Result, Ok, Err, IfSome, refl, subst}
use Rattle.std.specs.Option.{ok_or}
use Rattle.std.specs.Result.{result_ok}
use Rattle.cs_script.specs.Kinds.{◌>>=◌}
use Rattle.cs_script.specs.declared.fault.LineFault.{LineFault}

-- the value of the first step, from which the second went on
pub bind_ok : {A B : Type 0} (r : Result A LineFault) (f : A → Result B LineFault) (y : B) → (r >>= f) ≡ Ok y
    → (x : A) × (r ≡ Ok x) × (f x ≡ Ok y)
bind_ok (Ok x) f y e = (x, refl, e)
bind_ok (Err fault) f y e = cc

-- a value that is there
pub ok_or_some : {A : Type 0} (o : Option A) (fault : LineFault) (x : A) → ok_or o fault ≡ Ok x → o ≡ Some x
ok_or_some (Some y) fault x e = cc
ok_or_some None fault x e = cc

-- a result that has a value
pub result_ok_some : {A E : Type 0} (r : Result A E) (x : A) → result_ok r ≡ Some x → r ≡ Ok x
result_ok_some (Ok y) x e = cc
result_ok_some (Err d) x e = cc

-- which of two answers has the value
pub which_ok : {A : Type 0} (b : Bool) (r s : Result A LineFault) (x : A) → cond b r s ≡ Ok x
    → ((b ≡ true) × (r ≡ Ok x)) ⊎ ((b ≡ false) × (s ≡ Ok x))
which_ok true r s x e = inl (refl, e)
which_ok false r s x e = inr (refl, e)

-- what the test let through
pub let_through : {A : Type 0} (b : Bool) (r : Result A LineFault) (fault : LineFault) (x : A) → cond b r (Err fault) ≡ Ok x
    → (b ≡ true) × (r ≡ Ok x)
let_through true r fault x e = (refl, e)
let_through false r fault x e = cc

-- the value within
pub same_value : {A : Type 0} (x y : A) → ◌≡◌ {A = Result A LineFault} (Ok x) (Ok y) → x ≡ y
same_value x y e = cc

-- what holds of a value that is there
pub at_some : {A : Type 0} (o : Option A) (P : A → Type 0) (x : A) → o ≡ Some x → IfSome o P → P x
at_some o P x e is = let at : IfSome (Some x) P = subst (λ r. IfSome r P) e is in at
