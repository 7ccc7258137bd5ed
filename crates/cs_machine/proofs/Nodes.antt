-- Looking up nodes of the machine's world after one is added or takes a step.
use Rattle.std.proofs.Common.{◌≡◌, ℕ, Bool, true, false, cond, ◌||◌, eqb, List, [], ◌∷◌, ◌++◌, map, Option, Some, None, refl, ap, sym, ◌∙◌}
use Rattle.std.proofs.Common.{if◌then◌else◌, ◌==◌}
use Rattle.std.specs.List.{find, list_any}
use Rattle.std.specs.Option.{option_map}
use Rattle.std.proofs.lemmas.Bool.{eqb-true}
use Rattle.std.proofs.lemmas.Option.{none-some, same_Some}
use Rattle.cs_view.proofs.Finding.{find_passes}
use Rattle.cs_machine.specs.Names.{Node, World, node_of}
use Rattle.cs_machine.specs.Outcome.{after_step}
use Rattle.cs_machine.specs.Step.{Step}

-- who is found under an id has it
pub id-found : (world : World) (id : ℕ) (node : Node) → node_of world id ≡ Some node → node.own.id ≡ id
id-found world id node found =
    eqb-true node.own.id id (find_passes (λ (n : Node). eqb n.own.id id) world.nodes node found)

-- what is there after a change was there before it
pub option_map-some : {X Y : Type 0} (f : X → Y) (o : Option X) (y : Y) → option_map f o ≡ Some y
    → (x : X) × (o ≡ Some x) × (y ≡ f x)
option_map-some f None y is = absurd (none-some y is)
option_map-some f (Some x) y is = (x, refl, sym (same_Some (f x) y is))

-- what is found in front stays found
pub find-append_some : {X : Type 0} (p : X → Bool) (xs ys : List X) (x : X) → find p xs ≡ Some x → find p (xs ++ ys) ≡ Some x
find-append_some p [] ys x found = cc
find-append_some p (y ∷ xs) ys x found =
    elim (p y) as (λ b. cond b (Some y) (find p xs) ≡ Some x → cond b (Some y) (find p (xs ++ ys)) ≡ Some x) [
      | true ↦ λ h. h
      | false ↦ λ h. find-append_some p xs ys x h
    ] found

-- what isn't found in front is sought behind
pub find-append_none : {X : Type 0} (p : X → Bool) (xs ys : List X) → find p xs ≡ None → find p (xs ++ ys) ≡ find p ys
find-append_none p [] ys absent = refl
find-append_none p (y ∷ xs) ys absent =
    elim (p y) as (λ b. cond b (Some y) (find p xs) ≡ None → cond b (Some y) (find p (xs ++ ys)) ≡ find p ys) [
      | true ↦ λ h. cc
      | false ↦ λ h. find-append_none p xs ys h
    ] absent

-- a change of the elements that the test doesn't see
pub find-map : {X : Type 0} (p : X → Bool) (f : X → X) → ((x : X) → p (f x) ≡ p x) → (xs : List X)
    → find p (map f xs) ≡ option_map f (find p xs)
find-map p f unseen [] = refl
find-map p f unseen (x ∷ xs) =
    ap (λ b. cond b (Some (f x)) (find p (map f xs))) (unseen x)
    ∙ (elim (p x) as (λ b. cond b (Some (f x)) (find p (map f xs)) ≡ option_map f (cond b (Some x) (find p xs))) [
      | true ↦ refl
      | false ↦ find-map p f unseen xs
    ])

-- such a change leaves whether the test finds any
pub list_any-map : {X : Type 0} (p : X → Bool) (f : X → X) → ((x : X) → p (f x) ≡ p x) → (xs : List X)
    → list_any p (map f xs) ≡ list_any p xs
list_any-map p f unseen [] = refl
list_any-map p f unseen (x ∷ xs) =
    ap (λ b. b || list_any p (map f xs)) (unseen x) ∙ ap (λ b. p x || b) (list_any-map p f unseen xs)

-- nothing more
or_false : (b : Bool) → (b || false) ≡ b
or_false true = refl
or_false false = refl

-- one more element
pub list_any-push : {X : Type 0} (p : X → Bool) (xs : List X) (x : X) → list_any p (xs ++ x ∷ []) ≡ (list_any p xs || p x)
list_any-push p [] x = or_false (p x)
list_any-push p (y ∷ xs) x =
    elim (p y) as (λ b. (b || list_any p (xs ++ x ∷ [])) ≡ ((b || list_any p xs) || p x)) [
      | true ↦ refl
      | false ↦ list_any-push p xs x
    ]

-- what becomes of a node as the one with the id is changed
abbrev pub changed_at : ℕ → (Node → Node) → Node → Node
changed_at id f n = if n.own.id == id then f n else n

-- who a node is stays where the change leaves it
pub own-changed_at : (id : ℕ) (f : Node → Node) → ((n : Node) → (f n).own ≡ n.own) → (n : Node) → (changed_at id f n).own ≡ n.own
own-changed_at id f own n =
    elim (eqb n.own.id id) as (λ b. (cond b (f n) n).own ≡ n.own) [ true ↦ own n | false ↦ refl ]

-- so it is as the node with the id takes a step
abbrev pub restated : ℕ → Step → Node → Node
restated id step n = changed_at id (after_step step) n

pub own-restated : (id : ℕ) (step : Step) (n : Node) → (restated id step n).own ≡ n.own
own-restated id step n = own-changed_at id (after_step step) (λ m. refl) n
