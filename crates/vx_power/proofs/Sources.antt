-- One walk that asks two questions of each neighbor.
use Rattle.std.proofs.Common.{◌≡◌, ℕ, Bool, true, false, ◌&&◌, ◌||◌, List, [], ◌∷◌, refl, ap, ◌∙◌}
use Rattle.std.specs.List.{list_any}
use Rattle.vx_geom.specs.Dirs.{all_dirs}
use Rattle.vx_geom.specs.declared.pos.Pos.{Pos}
use Rattle.vx_block.specs.declared.cell.Cell.{Cell}
use Rattle.vx_block.specs.Conductors.{conducts}
use Rattle.vx_power.specs.Signals.{drives_from, is_driven, dust_powers, is_dust_powered, is_powered, is_source, has_source}

either_of : (a b c d : Bool) → ((a || b) || (c || d)) ≡ ((a || c) || (b || d))
either_of true b c d = refl
either_of false true true d = refl
either_of false true false d = refl
either_of false false c d = refl

-- some element passes one of two tests where some passes the one, or some the other
any_of_two : {X : Type 0} (f g : X → Bool) (xs : List X)
    → list_any (λ x. f x || g x) xs ≡ (list_any f xs || list_any g xs)
any_of_two f g [] = refl
any_of_two f g (x ∷ xs) =
    ap (λ rest. (f x || g x) || rest) (any_of_two f g xs)
    ∙ either_of (f x) (g x) (list_any f xs) (list_any g xs)

-- some neighbor is a source where some drives, or some is dust that powers
pub sources : (w : Pos → Cell) (level : Pos → ℕ) (p : Pos)
    → has_source w level p ≡ (is_driven w p || is_dust_powered w level p)
unfolding has_source is_source is_driven is_dust_powered
sources w level p = any_of_two (drives_from w p) (dust_powers w level p) all_dirs

-- a conductor is powered where it has a source
pub conductor_powered : (w : Pos → Cell) (level : Pos → ℕ) (p : Pos) → true ≡ conducts (w p)
    → has_source w level p ≡ is_powered w level p
unfolding is_powered
conductor_powered w level p is =
    sources w level p ∙ ap (λ b. b && (is_driven w p || is_dust_powered w level p)) is
