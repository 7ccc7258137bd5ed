-- What the words of the program ask for.
use Rattle.std.specs.Prelude.{◌≡◌, ⊤, ℕ, ◌<◌, ◌^◌, List, [], ◌∷◌, codes, decimal}
use Rattle.cs_base.specs.Ranges.{IsFromTo}
use Rattle.cs_drill.specs.Limits.{fewest_nodes, first_port, last_port, most_live, most_nodes}
use Rattle.census.specs.declared.command.Command.{Command}
use Rattle.census.specs.declared.command.Command.TheVariants.{Drill, Live, Tell}
use Rattle.census.specs.declared.form.Form.{Form}
use Rattle.census.specs.declared.form.Form.TheVariants.{Node, Replay}

-- each form has one word
abbrev pub form_word : Form → List ℕ
form_word Replay = codes "replay"
form_word Node = codes "node"

-- each command has one spelling
abbrev pub words_of : Command → List (List ℕ)
words_of (Tell form) = form_word form ∷ []
words_of (Drill nodes seed) = codes "drill" ∷ decimal nodes ∷ decimal seed ∷ []
words_of (Live nodes port) = codes "live" ∷ decimal nodes ∷ decimal port ∷ []

-- a drill has a number of nodes that is allowed, and a seed of 64 bits; and a live run such a number, and a port
abbrev pub IsCommand : Command → Type 0
IsCommand (Tell form) = ⊤
IsCommand (Drill nodes seed) = IsFromTo fewest_nodes most_nodes nodes × (seed < 2 ^ 64)
IsCommand (Live nodes port) = IsFromTo fewest_nodes most_live nodes × IsFromTo first_port last_port port

-- the words ask for the command
pub record IsAsked (words : List (List ℕ)) (command : Command) : Type 0 where
  pub allowed : IsCommand command
  pub spelt : words ≡ words_of command

-- the words ask for a live run
abbrev pub IsLive : List (List ℕ) → Type 0
IsLive words = (nodes : ℕ) × (port : ℕ) × IsAsked words (Live nodes port)
