use Rattle.std.specs.Prelude.{◌≡◌, ℤ, Bool, true, if◌then◌else◌, int_le, List, [], ◌∷◌, Option, Some, None}
use Rattle.std.specs.Int.{int_max}
use Rattle.vx_region.specs.Regions.{Entry}
use Rattle.vx_decide.specs.declared.question.Question.{Question}
use Rattle.vx_decide.specs.Cases.{Case}
use Rattle.vx_decide.specs.Query.{counts}
use Rattle.vx_decide.specs.RegionGroups.{Members}

-- the greater of a priority and one that may be missing
abbrev pub raised : Option ℤ → ℤ → ℤ
raised None z = z
raised (Some best) z = int_max best z

-- the greatest priority of a member, where the best before them is known
abbrev pub top_from : Members → Option ℤ → List Entry → Option ℤ
top_from members best [] = best
top_from members best (e ∷ es) =
    top_from members (if members e then Some (raised best e.1.priority) else best) es

-- the greatest priority of a member
unfoldable pub top : Members → List Entry → Option ℤ
top members es = top_from members None es

-- a priority that may be missing is not above the other
unfoldable pub is_at_most : Option ℤ → ℤ → Bool
is_at_most None z = true
is_at_most (Some best) z = int_le best z

-- it is the highest priority of a region that counts on the question, if one does
abbrev pub IsBest : Question → Case → Option ℤ → Type 0
IsBest q a best = best ≡ top (counts q a) a.regions.entries
