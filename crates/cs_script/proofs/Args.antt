-- Lemmas on the words of a line of a schedule.
use Rattle.std.proofs.Common.{◌≡◌, ℕ, ◌<◌, ◌≤◌, ℤ, pos, negsuc, Option, Some, None, Result, Ok, Err, List, [], ◌∷◌, length, get_or, map, Bor}
use Rattle.std.proofs.Common.{refl, sym, ap, ◌∙◌, w32, arith}
use Rattle.std.specs.Option.{SomeIff}
use Rattle.std.proofs.lemmas.Int.{ints}
use mir.Val.{SFits}
use Rattle.cs_base.specs.Axes.{Axes, IsNear, IsPoint}
use Rattle.cs_base.specs.Limits.{farthest}
use Rattle.cs_script.specs.Grammar.{event_by}
use Rattle.cs_script.specs.Kinds.{◌>>=◌, Kind, Value, axis_word}
use Rattle.cs_script.specs.Parts.{only, point_words}
use Rattle.cs_script.specs.Rows.{point, row}
use Rattle.cs_script.specs.declared.event.Event.{Event}
use Rattle.cs_script.specs.declared.fault.LineFault.{LineFault}

-- a number of an axis fits 32 bits
pub near_fits : (n : ℤ) → IsNear farthest n → SFits w32 n
near_fits (pos k) near = record { sfits = omega (arith, ints) }
near_fits (negsuc k) near = record { sfits = omega (arith, ints) }

-- a point of three numbers that can stand on an axis is made
pub point_found : (made : Option Axes) (x y z : ℤ) → IsNear farthest x → IsNear farthest y → IsNear farthest z
    → SomeIff made (IsPoint (record { x = x; y = y; z = z })) (record { x = x; y = y; z = z }) → made ≡ Some (record { x = x; y = y; z = z })
point_found None x y z h i j iff = absurd (iff (record { x = h; y = i; z = j }))
point_found (Some p) x y z h i j iff = let e = iff.1 in cc

-- what four references lead to
pub four_args : (args : List (Bor (List ℕ))) (d : Bor (List ℕ)) → 4 ≤ length args → length args < 5
    → map (λ (word : Bor (List ℕ)). word.now) args
    ≡ (get_or args 0 d).now ∷ (get_or args 1 d).now ∷ (get_or args 2 d).now ∷ (get_or args 3 d).now ∷ []
four_args (a ∷ b ∷ c ∷ e ∷ []) d some few = refl
four_args args d some few = absurd (omega arith)

-- what five references lead to
pub five_args : (args : List (Bor (List ℕ))) (d : Bor (List ℕ)) → 5 ≤ length args → length args < 6
    → map (λ (word : Bor (List ℕ)). word.now) args
    ≡ (get_or args 0 d).now ∷ (get_or args 1 d).now ∷ (get_or args 2 d).now ∷ (get_or args 3 d).now ∷ (get_or args 4 d).now ∷ []
five_args (a ∷ b ∷ c ∷ e ∷ f ∷ []) d some few = refl
five_args args d some few = absurd (omega arith)

-- what six references lead to
pub six_args : (args : List (Bor (List ℕ))) (d : Bor (List ℕ)) → 6 ≤ length args → length args < 7
    → map (λ (word : Bor (List ℕ)). word.now) args
    ≡ (get_or args 0 d).now ∷ (get_or args 1 d).now ∷ (get_or args 2 d).now ∷ (get_or args 3 d).now ∷ (get_or args 4 d).now ∷ (get_or args 5 d).now ∷ []
six_args (a ∷ b ∷ c ∷ e ∷ f ∷ g ∷ []) d some few = refl
six_args args d some few = absurd (omega arith)

-- a point's axes, one behind the other
axes_said : {A : Type 0} (x y z : Result ℤ LineFault) (says : Axes → Result A LineFault)
    → (x >>= λ a. (y >>= λ b. (z >>= λ c. says (point a b c)))) ≡ ((x >>= λ a. (y >>= λ b. (z >>= λ c. Ok (point a b c)))) >>= says)
axes_said (Ok a) (Ok b) (Ok c) says = refl
axes_said (Ok a) (Ok b) (Err fault) says = refl
axes_said (Ok a) (Err fault) z says = refl
axes_said (Err fault) y z says = refl

-- what follows a point, where its axes are read one by one
pub point-read : {A : Type 0} {point_read : Result Axes LineFault} (x y z : List ℕ) (says : Axes → Result A LineFault)
    → point_read ≡ point_words x y z
    → (point_read >>= says) ≡ (axis_word x >>= λ a. (axis_word y >>= λ b. (axis_word z >>= λ c. says (point a b c))))
point-read x y z says e =
    ap (λ (r : Result Axes LineFault). r >>= says) e ∙ sym (axes_said (axis_word x) (axis_word y) (axis_word z) says)

-- a line of one argument
pub short-said : (word : List ℕ) (kind : Kind) (says : Value kind → Event) (args : List (List ℕ)) (value : Value kind)
    → Ok value ≡ only kind args → Ok (says value) ≡ event_by (row word (kind ∷ []) says) args
short-said word kind says (arg ∷ []) value e = rw (← e) refl
short-said word kind says [] value e = cc
short-said word kind says (arg ∷ other ∷ args) value e = cc
