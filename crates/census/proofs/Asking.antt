-- What the words ask for, by what was found in them.
use Rattle.std.proofs.Common.{◌≡◌, ℕ, List, Option, Some, None, sym, ◌∙◌}
use Rattle.census.specs.Commands.{IsAsked}
use Rattle.census.specs.declared.command.Command.{Command}
use Rattle.census.specs.declared.command.Command.TheVariants.{Drill, Live, Tell}
use Rattle.census.specs.declared.form.Form.{Form}

module _ (words : List (List ℕ)) (found : Option Command)
    (only : (command : Command) → IsAsked words command → found ≡ Some command) where
  -- where nothing was found, they ask for nothing
  pub asks-nothing : {P : Type 0} → found ≡ None → (command : Command) → IsAsked words command → P
  asks-nothing none command asked = let some = only command asked in absurd (cc)

  module _ (form : Form) (is : found ≡ Some (Tell form)) where
    -- where a form was found, they ask for that one
    pub asks-form : (other : Form) → IsAsked words (Tell other) → form ≡ other
    asks-form other asked = let some : Some (Tell form) ≡ Some (Tell other) = sym is ∙ only (Tell other) asked in (cc)

    -- and for no drill
    pub asks-no-drill : {P : Type 0} (nodes seed : ℕ) → IsAsked words (Drill nodes seed) → P
    asks-no-drill nodes seed asked = let some : Some (Tell form) ≡ Some (Drill nodes seed) = sym is ∙ only (Drill nodes seed) asked in absurd (cc)

  module _ (nodes seed : ℕ) (is : found ≡ Some (Drill nodes seed)) where
    -- where a drill was found, they ask for that one
    pub asks-drill : (count number : ℕ) → IsAsked words (Drill count number) → (nodes ≡ count) × (seed ≡ number)
    asks-drill count number asked =
        let some : Some (Drill nodes seed) ≡ Some (Drill count number) = sym is ∙ only (Drill count number) asked in (cc, cc)

    -- and for no form
    pub asks-no-form : {P : Type 0} (form : Form) → IsAsked words (Tell form) → P
    asks-no-form form asked = let some : Some (Drill nodes seed) ≡ Some (Tell form) = sym is ∙ only (Tell form) asked in absurd (cc)

  module _ (nodes port : ℕ) (is : found ≡ Some (Live nodes port)) where
    -- where a live run was found, they ask for that one
    pub asks-live : (count number : ℕ) → IsAsked words (Live count number) → (nodes ≡ count) × (port ≡ number)
    asks-live count number asked =
        let some : Some (Live nodes port) ≡ Some (Live count number) = sym is ∙ only (Live count number) asked in (cc, cc)

    -- and for no form
    pub lives-no-form : {P : Type 0} (form : Form) → IsAsked words (Tell form) → P
    lives-no-form form asked = let some : Some (Live nodes port) ≡ Some (Tell form) = sym is ∙ only (Tell form) asked in absurd (cc)
