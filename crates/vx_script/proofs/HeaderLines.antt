-- A line of the header after which it goes on.
use Rattle.std.proofs.Common.{◌≡◌, ℕ, Some, ap}
use Rattle.vx_grammar.specs.ScriptLines.{Said, Nothing, World, Player, Set, Act, Region, Tick, Explain, Together, End}
use Rattle.vx_script.specs.Headers as headers
use Rattle.vx_script.specs.Headers.{HeaderEnd, or_faulty, header_after, header_line}

-- with the opening after the line, if there is one
pub goes_on : (o next : headers.Opening) (n : ℕ) (line : Said) → header_after o line ≡ Some next
    → (go : headers.Opening → HeaderEnd) (first : Said → HeaderEnd) → header_line o n (Some line) go first ≡ go next
unfolding header_line header_after
goes_on o next n Nothing after go first = ap (λ r. or_faulty n r go) after
goes_on o next n (World sizes) after go first = ap (λ r. or_faulty n r go) after
goes_on o next n (Player name) after go first = ap (λ r. or_faulty n r go) after
goes_on o next n (Set p part) after go first = ap (λ r. or_faulty n r go) after
goes_on o next n End after go first = ap (λ r. or_faulty n r go) after
goes_on o next n (Act name cmd) after go first = cc
goes_on o next n (Region e) after go first = cc
goes_on o next n Tick after go first = cc
goes_on o next n (Explain name action p) after go first = cc
goes_on o next n Together after go first = cc
