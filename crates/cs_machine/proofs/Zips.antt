-- Lists that agree place by place.
use Rattle.std.proofs.Common.{List, [], ◌∷◌, ◌++◌, map}
use Rattle.std.specs.List.{AllByRecursion, AllZip, flat_map}

-- a weaker relation
pub AllZip-weaker : {A B : Type 0} (R S : A → B → Type 0) → ((x : A) (y : B) → R x y → S x y)
    → (xs : List A) (ys : List B) → AllZip R xs ys → AllZip S xs ys
AllZip-weaker R S weaker [] [] zip = zip
AllZip-weaker R S weaker [] (y ∷ ys) zip = absurd zip
AllZip-weaker R S weaker (x ∷ xs) [] zip = absurd zip
AllZip-weaker R S weaker (x ∷ xs) (y ∷ ys) zip = (weaker x y zip.0, AllZip-weaker R S weaker xs ys zip.1)

-- one behind the other
pub AllZip-append : {A B : Type 0} (R : A → B → Type 0) (xs : List A) (ys : List B) (us : List A) (vs : List B)
    → AllZip R xs ys → AllZip R us vs → AllZip R (xs ++ us) (ys ++ vs)
AllZip-append R [] [] us vs front behind = behind
AllZip-append R [] (y ∷ ys) us vs front behind = absurd front
AllZip-append R (x ∷ xs) [] us vs front behind = absurd front
AllZip-append R (x ∷ xs) (y ∷ ys) us vs front behind = (front.0, AllZip-append R xs ys us vs front.1 behind)

-- what is made of the same elements
pub AllZip-map : {T A B : Type 0} (R : A → B → Type 0) (f : T → A) (g : T → B) (P : T → Type 0) → ((t : T) → P t → R (f t) (g t))
    → (ts : List T) → AllByRecursion P ts → AllZip R (map f ts) (map g ts)
AllZip-map R f g P made [] all = tt
AllZip-map R f g P made (t ∷ ts) all = (made t all.0, AllZip-map R f g P made ts all.1)

-- the same of several for each element, where those are made of something else on one side
pub AllZip-flat : {S T A B : Type 0} (R : A → B → Type 0) (h : T → S) (f : S → List A) (g : T → List B)
    → ((t : T) → AllZip R (f (h t)) (g t)) → (ts : List T) → AllZip R (flat_map f (map h ts)) (flat_map g ts)
AllZip-flat R h f g made [] = tt
AllZip-flat R h f g made (t ∷ ts) =
    AllZip-append R (f (h t)) (g t) (flat_map f (map h ts)) (flat_map g ts) (made t) (AllZip-flat R h f g made ts)

-- and where both are made of the same
pub AllZip-flat_same : {T A B : Type 0} (R : A → B → Type 0) (f : T → List A) (g : T → List B) (P : T → Type 0)
    → ((t : T) → P t → AllZip R (f t) (g t)) → (ts : List T) → AllByRecursion P ts → AllZip R (flat_map f ts) (flat_map g ts)
AllZip-flat_same R f g P made [] all = tt
AllZip-flat_same R f g P made (t ∷ ts) all =
    AllZip-append R (f t) (g t) (flat_map f ts) (flat_map g ts) (made t all.0) (AllZip-flat_same R f g P made ts all.1)
