-- A fact of what was left to read and is left now, as one more line is read.
use Rattle.std.proofs.Common.{◌≡◌, ℕ, ◌<◌, List, [], ◌∷◌, Option, Some, None, IfSome, ◌++◌, length, ap, ◌∙◌, subst}
use Rattle.std.specs.Io.KnownBytes.{Keeps, Appends, IsAtEnd, prepend_known}
use Rattle.vx_script.specs.Known.{Goes}
use Rattle.vx_lines.specs.Lines.{lines_of, TakesLine, IsNextLong}
use Rattle.vx_lines.specs.Reading.{Reading, pending, no_line}

module _ (start before : Option (List ℕ)) (Fact : List ℕ → List ℕ → Type 0) where
  -- a line is read, and the fact is now one of what is left after it
  pub goes_on : (after : Option (List ℕ)) (line : List ℕ) (Next : List ℕ → List ℕ → Type 0) → Goes start before Fact → TakesLine before after line
      → ((all rest more : List ℕ) → lines_of rest ≡ line ∷ lines_of more → Fact all rest → Next all more) → Goes start after Next
  goes_on after line Next fact taken step = by start before after fact taken
    where
      by : (a b c : Option (List ℕ)) → Goes a b Fact → TakesLine b c line → Goes a c Next
      by None b c f t = tt
      by (Some x) None c f t = absurd f
      by (Some x) (Some y) None f t = absurd t
      by (Some x) (Some y) (Some z) f t = step x y z t f

  -- a line is read, and the fact is now one of the whole
  pub goes_out : (after : Option (List ℕ)) (line : List ℕ) (Last : List ℕ → Type 0) → Goes start before Fact → TakesLine before after line
      → ((all rest more : List ℕ) → lines_of rest ≡ line ∷ lines_of more → Fact all rest → Last all) → IfSome start Last
  goes_out after line Last fact taken step = by start before after fact taken
    where
      by : (a b c : Option (List ℕ)) → Goes a b Fact → TakesLine b c line → IfSome a Last
      by None b c f t = tt
      by (Some x) None c f t = absurd f
      by (Some x) (Some y) None f t = absurd t
      by (Some x) (Some y) (Some z) f t = step x y z t f

  -- the next line is too long
  pub goes_long : (most : ℕ) (Last : List ℕ → Type 0) → Goes start before Fact → IfSome before (IsNextLong most)
      → ((all rest line : List ℕ) (lines : List (List ℕ)) → lines_of rest ≡ line ∷ lines → most < length line → Fact all rest → Last all) → IfSome start Last
  goes_long most Last fact long step = by start before fact long
    where
      by : (a b : Option (List ℕ)) → Goes a b Fact → IfSome b (IsNextLong most) → IfSome a Last
      by None b f l = tt
      by (Some x) None f l = absurd f
      by (Some x) (Some y) f l = step x y l.0 l.1 l.2 l.3 f

  -- nothing is left
  pub goes_to_end : (Last : List ℕ → Type 0) → Goes start before Fact → IsAtEnd before → ((all : List ℕ) → Fact all [] → Last all) → IfSome start Last
  goes_to_end Last fact end step = by start before fact end
    where
      by : (a b : Option (List ℕ)) → Goes a b Fact → IsAtEnd b → IfSome a Last
      by None b f e = tt
      by (Some x) None f e = absurd f
      by (Some x) (Some y) f e = step x (subst (Fact x) e f)

  -- a fact of what is left serves the whole
  pub goes_then : (Rest Last : List ℕ → Type 0) → Goes start before Fact → IfSome before Rest → ((all rest : List ℕ) → Fact all rest → Rest rest → Last all) → IfSome start Last
  goes_then Rest Last fact after step = by start before fact after
    where
      by : (a b : Option (List ℕ)) → Goes a b Fact → IfSome b Rest → IfSome a Last
      by None b f r = tt
      by (Some x) None f r = absurd f
      by (Some x) (Some y) f r = step x y f r

  -- the fact serves the whole, whatever is left
  pub goes_whole : (Last : List ℕ → Type 0) → Goes start before Fact → ((all rest : List ℕ) → Fact all rest → Last all) → IfSome start Last
  goes_whole Last fact step = by start before fact
    where
      by : (a b : Option (List ℕ)) → Goes a b Fact → IfSome a Last
      by None b f = tt
      by (Some x) None f = absurd f
      by (Some x) (Some y) f = step x y f

-- nothing was read yet
pub goes_self : (known : Option (List ℕ)) (Fact : List ℕ → List ℕ → Type 0) → ((bytes : List ℕ) → Fact bytes bytes) → Goes known known Fact
goes_self None Fact fact = tt
goes_self (Some bytes) Fact fact = fact bytes

-- a fact of what is known, by another
pub if_known : {X : Type 0} (known : Option X) (Fact Last : X → Type 0) → IfSome known Fact → ((x : X) → Fact x → Last x) → IfSome known Last
if_known None Fact Last fact step = tt
if_known (Some x) Fact Last fact step = step x fact

-- a fact of all bytes is one of those that are known
pub of_known : (known : Option (List ℕ)) (Last : List ℕ → Type 0) → ((bytes : List ℕ) → Last bytes) → IfSome known Last
of_known None Last fact = tt
of_known (Some bytes) Last fact = fact bytes

-- what is written after nothing was
pub appends_after : (a b c : Option (List ℕ)) (text : List ℕ) → Keeps a b → Appends b c text → Appends a c text
appends_after None b c text kept appends = tt
appends_after (Some x) None c text kept appends = absurd kept
appends_after (Some x) (Some y) None text kept appends = absurd appends
appends_after (Some x) (Some y) (Some z) text kept appends = appends ∙ ap (λ v. v ++ text) kept

-- the next line is too long, whatever follows what was read
pub long_known : (most : ℕ) (known rest : Option (List ℕ)) (front : List ℕ) → Keeps known (prepend_known front rest)
    → ((more : List ℕ) → IsNextLong most (front ++ more)) → IfSome known (IsNextLong most)
long_known most None rest front kept long = tt
long_known most (Some bytes) None front kept long = absurd kept
long_known most (Some bytes) (Some more) front kept long = subst (IsNextLong most) kept (long more)

-- two facts of what is known
pub both_known : {X : Type 0} (known : Option X) (One Other Last : X → Type 0) → IfSome known One → IfSome known Other → ((x : X) → One x → Other x → Last x) → IfSome known Last
both_known None One Other Last one other step = tt
both_known (Some x) One Other Last one other step = step x one other

-- a fact of all bytes is one of the script, where nothing was read yet
pub from_start : (lines : Reading) (known : Option (List ℕ)) (Fact : List ℕ → Type 0) → lines ≡ no_line → IfSome (prepend_known (pending lines) known) Fact → IfSome known Fact
from_start lines known Fact unread fact = by known (subst (λ (l : Reading). IfSome (prepend_known (pending l) known) Fact) unread fact)
  where
    by : (known : Option (List ℕ)) → IfSome (prepend_known [] known) Fact → IfSome known Fact
    by None fact = tt
    by (Some script) fact = fact

-- what holds where the bytes that are left are known, holds where those before them were
pub still_known : (start after : Option (List ℕ)) (front : List ℕ) (Fact : List ℕ → List ℕ → Type 0) (Last : Type 0) → Goes start after Fact → IfSome (prepend_known front after) (λ rest. Last)
    → IfSome start (λ bytes. Last)
still_known None after front Fact Last goes last = tt
still_known (Some bytes) None front Fact Last goes last = absurd goes
still_known (Some bytes) (Some rest) front Fact Last goes last = last
