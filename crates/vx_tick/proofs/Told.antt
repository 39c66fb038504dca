-- What becomes of one move more.
use Rattle.std.proofs.Common.{◌≡◌, ℕ, suc, ◌+◌, ◌<◌, List, [], ◌∷◌, ◌++◌, length, take, get_or, refl, sym, ap, ◌∙◌, subst}
use Rattle.std.proofs.lemmas.List.{take_more}
use Rattle.vx_geom.specs.declared.pos.Pos.{Pos}
use Rattle.vx_region.specs.Regions.{Regions}
use Rattle.vx_piston.specs.Moves.{Moving}
use Rattle.vx_tick.specs.declared.fate.Fate.{Fate}
use Rattle.vx_tick.specs.Fates.{IsFate, AreFates}

-- each move has one fate
pub fates_length : (rs : Regions) (all moves : List Moving) (fates : List (Pos × Fate))
    → AreFates rs all moves fates → length fates ≡ length moves
fates_length rs all [] [] told = refl
fates_length rs all [] (other ∷ fates) told = absurd told
fates_length rs all (first ∷ moves) [] told = absurd told
fates_length rs all (first ∷ moves) (other ∷ fates) told = ap suc (fates_length rs all moves fates told.2)

-- the fates of moves, and of one more behind them
pub fates_more : (rs : Regions) (all moves : List Moving) (fates : List (Pos × Fate)) (m : Moving)
    (p : Pos) (fate : Fate) → AreFates rs all moves fates → p ≡ m.at → IsFate rs all m fate
    → AreFates rs all (moves ++ (m ∷ [])) (fates ++ ((p, fate) ∷ []))
fates_more rs all [] [] m p fate told place is = (place, is, tt)
fates_more rs all [] (other ∷ fates) m p fate told place is = absurd told
fates_more rs all (first ∷ moves) [] m p fate told place is = absurd told
fates_more rs all (first ∷ moves) (other ∷ fates) m p fate told place is =
    (told.0, told.1, fates_more rs all moves fates m p fate told.2 place is)

-- the fates of the moves before an index, and of the one that stands there
pub fates_next : (rs : Regions) (all moves : List Moving) (fates : List (Pos × Fate)) (i : ℕ)
    (m : Moving) (p : Pos) (fate : Fate) → i < length moves → m ≡ get_or moves i m → p ≡ m.at
    → AreFates rs all (take i moves) fates → IsFate rs all m fate
    → AreFates rs all (take (i + 1) moves) (fates ++ ((p, fate) ∷ []))
fates_next rs all moves fates i m p fate inside item place told is =
    subst (λ ms. AreFates rs all ms (fates ++ ((p, fate) ∷ [])))
    (sym (take_more moves i m inside ∙ ap (λ last. take i moves ++ (last ∷ [])) (sym item)))
    (fates_more rs all (take i moves) fates m p fate told place is)
