-- The test of two outlines answers yes exactly where they are one, and so meets the laws of `==`.
use Rattle.std.specs.Prelude.{◌≡◌, refl}
use Rattle.std.specs.Bool.{Decides}
use Rattle.std.specs.Cmp.{IsEquivalence, decided}
use Rattle.std.specs.Cmp.Lexicographic.{pointwise_decides}
use Rattle.std.proofs.Common.{ap, subst, ◌∙◌}
use Rattle.std.proofs.lemmas.Bool.{false≢true}
use Rattle.std.proofs.lemmas.Bool.Decides.{Decides-int_eq, Decides-and, Decides-like}
use Rattle.vx_geom.specs.declared.pos.Pos.{Pos}
use Rattle.vx_geom.specs.Polygon.{Column}
use Rattle.vx_geom.specs.Outline.{Outline, Cuboid, Polygon}
use Rattle.vx_geom.specs.SameOutline.{same_corner, same_corners, same_column, same_points, same_ends, same_outline}

corner_joined : (a b : Pos) → (a.y ≡ b.y) × (a.z ≡ b.z) → a.x ≡ b.x → a ≡ b
corner_joined a b in_yz in_x = λ i. record { y = in_yz.0 i; z = in_yz.1 i; x = in_x i }

corner_decided : (a b : Pos) → Decides (same_corner a b) (a ≡ b)
unfolding same_corner
corner_decided a b =
    Decides-like _ (λ h. corner_joined a b h.0 h.1)
    (λ e. ((ap (λ p. p.y) e, ap (λ p. p.z) e), ap (λ p. p.x) e))
    (Decides-and _ _ (Decides-and _ _ (Decides-int_eq a.y b.y) (Decides-int_eq a.z b.z))
    (Decides-int_eq a.x b.x))

column_decided : (a b : Column) → Decides (same_column a b) (a ≡ b)
unfolding same_column
column_decided a b =
    Decides-like _ (λ h. ap (λ x. (x, a.1)) h.0 ∙ ap (λ z. (b.0, z)) h.1)
    (λ e. (ap (λ c. c.0) e, ap (λ c. c.1) e))
    (Decides-and _ _ (Decides-int_eq a.0 b.0) (Decides-int_eq a.1 b.1))

-- the two are of one kind, part by part the same
HasSameParts : Outline → Outline → Type 0
HasSameParts (Cuboid a b) (Cuboid c d) = (a ≡ c) × (b ≡ d)
HasSameParts (Polygon ps a b) (Polygon qs c d) = (ps ≡ qs) × ((a ≡ c) × (b ≡ d))
HasSameParts (Cuboid a b) (Polygon qs c d) = ⊥
HasSameParts (Polygon ps a b) (Cuboid c d) = ⊥

parts_decided : (a b : Outline) → Decides (same_outline a b) (HasSameParts a b)
unfolding same_outline same_corners same_points same_ends HasSameParts
parts_decided (Cuboid a b) (Cuboid c d) = Decides-and _ _ (corner_decided a c) (corner_decided b d)
parts_decided (Polygon ps a b) (Polygon qs c d) =
    Decides-and _ _ (pointwise_decides column_decided ps qs)
    (Decides-and _ _ (Decides-int_eq a c) (Decides-int_eq b d))
parts_decided (Cuboid a b) (Polygon qs c d) = (λ e. absurd (false≢true e), λ h. absurd h)
parts_decided (Polygon ps a b) (Cuboid c d) = (λ e. absurd (false≢true e), λ h. absurd h)

own_parts : (a : Outline) → HasSameParts a a
unfolding HasSameParts
own_parts (Cuboid a b) = (refl, refl)
own_parts (Polygon ps a b) = (refl, (refl, refl))

joined : (a b : Outline) → HasSameParts a b → a ≡ b
unfolding HasSameParts
joined (Cuboid a b) (Cuboid c d) h = ap (λ p. Cuboid p b) h.0 ∙ ap (λ p. Cuboid c p) h.1
joined (Polygon ps a b) (Polygon qs c d) h =
    ap (λ l. Polygon l a b) h.0 ∙ ap (λ y. Polygon qs y b) h.1.0 ∙ ap (λ y. Polygon qs c y) h.1.1
joined (Cuboid a b) (Polygon qs c d) h = absurd h
joined (Polygon ps a b) (Cuboid c d) h = absurd h

pub outline_decided : (a b : Outline) → Decides (same_outline a b) (a ≡ b)
outline_decided a b =
    Decides-like _ (joined a b) (λ e. subst (HasSameParts a) e (own_parts a)) (parts_decided a b)

pub outlines_equiv : IsEquivalence same_outline
outlines_equiv = decided same_outline outline_decided
