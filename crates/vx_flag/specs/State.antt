use Rattle.std.specs.Prelude.{ℕ, codes, bytes_eq, List, [], ◌∷◌, find, Option}
use Rattle.vx_flag.specs.declared.state.State.{State}
use Rattle.vx_flag.specs.declared.state.State.TheVariants.{Allow, Deny}

-- the text of a state
abbrev pub state_text : State → List ℕ
state_text Allow = codes "allow"
state_text Deny = codes "deny"

-- every state
abbrev pub states : List State
states = Allow ∷ Deny ∷ []

-- the state that has this text
unfoldable pub state_of : List ℕ → Option State
state_of text = find (λ s. bytes_eq (state_text s) text) states

-- deny where one of the two denies
abbrev pub strictest : State → State → State
strictest Allow Allow = Allow
strictest Allow Deny = Deny
strictest Deny Allow = Deny
strictest Deny Deny = Deny
